use Rattle.std.proofs.Common.{arith, ◌≡◌, ◌∙◌, refl, ap, length}
use Rattle.std.specs.Prelude.{take, drop, ◌++◌, fold}
use Rattle.drv_jobs.specs.Standings.{Standings}
use Rattle.drv_jobs.specs.Changes.{waits_again}
use Rattle.drv_jobs.proofs.SoundLaws.{Agrees-given_back, written_whole}
use Rattle.drv_jobs.proofs.requests.Requests.give_back.Goals as goal

pub wait_all-requires-clause-held : goal.wait_all-requires-clause-held
wait_all-requires-clause-held c = rw c.deref_mut.ensures.value c.self.invariant.sound.held

pub invariant_of-self : goal.invariant_of-self
invariant_of-self c =
    let s : Standings = record { plan = c.self.inside.plan; waiting = c.self.inside.waiting.items; holders = c.self.inside.holders; faults = c.self.inside.faults.items } in
    let free = c.free_all.ensures in
    let from = c.deref_mut.ensures.value in
    let size : length c.wait_all.new.waiting ≡ length s.waiting = c.wait_all.ensures.length ∙ ap length from in
    let whole : take c.self.inside.waiting.len (c.wait_all.new.waiting ++ drop (length c.wait_all.new.waiting) c.self.inside.waiting.items) ≡ c.wait_all.new.waiting =
    written_whole c.wait_all.new.waiting c.self.inside.waiting.items c.self.inside.waiting.len (omega (arith, size, ap length from, c.deref_mut.ensures.len)) in
    rw whole
    (Agrees-given_back s c.wait_all.new.waiting c.free_all.new.holders c.self.inside.tags c.free_all.new.tags c.self.inside.first
    c.self.inside.count c.wait_all.new.first c.wait_all.new.count c.self.invariant size free.holders free.tied free.depth c.wait_all.ensures.counted)

pub returns : goal.returns
returns c =
    let s : Standings = record { plan = c.self.inside.plan; waiting = c.self.inside.waiting.items; holders = c.self.inside.holders; faults = c.self.inside.faults.items } in
    let from = c.deref_mut.ensures.value in
    let size : length c.wait_all.new.waiting ≡ length s.waiting = c.wait_all.ensures.length ∙ ap length from in
    let whole : take c.self.inside.waiting.len (c.wait_all.new.waiting ++ drop (length c.wait_all.new.waiting) c.self.inside.waiting.items) ≡ c.wait_all.new.waiting =
    written_whole c.wait_all.new.waiting c.self.inside.waiting.items c.self.inside.waiting.len (omega (arith, size, ap length from, c.deref_mut.ensures.len)) in
    let waiting : c.wait_all.new.waiting ≡ fold waits_again s.waiting s.holders = c.wait_all.ensures.waiting ∙ ap (λ w. fold waits_again w s.holders) from in
    rw (← c.self.view_is, whole, waiting, c.free_all.ensures.holders) refl
