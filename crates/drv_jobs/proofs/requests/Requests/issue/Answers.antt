use Rattle.std.proofs.Common.{arith, ◌≡◌, ◌∙◌, ◌-◌, refl, sym, ap, length}
use Rattle.std.specs.Prelude.{Ok, take, drop, ◌++◌, slice_set, false}
use Rattle.std.proofs.lemmas.List.{length-set}
use Rattle.drv_jobs.specs.Standings.{Standings}
use Rattle.drv_jobs.specs.Next.{due_of}
use Rattle.drv_jobs.proofs.NextLaws.{due-is, free_tag-is, tag-free}
use Rattle.drv_jobs.proofs.SoundLaws.{Agrees-issued, due-below, due-fits, written_whole}
use Rattle.drv_jobs.proofs.requests.Requests.issue.Goals as goal

pub use_tag-requires-clause-below : goal.use_tag-requires-clause-below
use_tag-requires-clause-below c =
    let s : Standings = record { plan = c.self.inside.plan; waiting = c.self.inside.waiting.items; holders = c.self.inside.holders; faults = c.self.inside.faults.items } in
    let due : due_of s ≡ Ok c.in_ok-due.due = ap due_of c.self.view_is ∙ sym c.due.ensures ∙ c.in_ok-due.was in
    due-below s c.in_ok-due.due c.self.invariant.sound (due-is s c.in_ok-due.due due)

pub use_tag-requires-clause-lowest : goal.use_tag-requires-clause-lowest
use_tag-requires-clause-lowest c low =
    let s : Standings = record { plan = c.self.inside.plan; waiting = c.self.inside.waiting.items; holders = c.self.inside.holders; faults = c.self.inside.faults.items } in
    let due : due_of s ≡ Ok c.in_ok-due.due = ap due_of c.self.view_is ∙ sym c.due.ensures ∙ c.in_ok-due.was in
    let free = free_tag-is s c.self.inside.tags c.self.invariant.depth c.self.invariant.sound.plan.depth.1 c.self.invariant.tied in
    free ∙ tag-free s c.in_ok-due.due.id c.in_ok-due.due.tag (due-is s c.in_ok-due.due due).tag low

pub take_first-requires-clause-waits : goal.take_first-requires-clause-waits
take_first-requires-clause-waits c =
    let s : Standings = record { plan = c.self.inside.plan; waiting = c.self.inside.waiting.items; holders = c.self.inside.holders; faults = c.self.inside.faults.items } in
    let due : due_of s ≡ Ok c.in_ok-due.due = ap due_of c.self.view_is ∙ sym c.due.ensures ∙ c.in_ok-due.was in
    let waits = (due-is s c.in_ok-due.due due).waits in
    let first = c.self.invariant.counted.lowest in
    let size = ap length c.deref_mut.ensures.value in
    omega (arith, waits, first, size)

pub invariant_of-self : goal.invariant_of-self
invariant_of-self c =
    let s : Standings = record { plan = c.self.inside.plan; waiting = c.self.inside.waiting.items; holders = c.self.inside.holders; faults = c.self.inside.faults.items } in
    let due : due_of s ≡ Ok c.in_ok-due.due = ap due_of c.self.view_is ∙ sym c.due.ensures ∙ c.in_ok-due.was in
    let next = due-is s c.in_ok-due.due due in
    let was = c.take_first.ensures.waiting in
    let from = c.deref_mut.ensures.value in
    let waiting : c.take_first.new.waiting ≡ slice_set s.waiting c.self.inside.first false = was ∙ ap (λ w. slice_set w c.self.inside.first false) from in
    let size : length c.take_first.new.waiting ≡ length s.waiting = ap length waiting ∙ length-set s.waiting c.self.inside.first false in
    let whole : take c.self.inside.waiting.len (c.take_first.new.waiting ++ drop (length c.take_first.new.waiting) c.self.inside.waiting.items) ≡ c.take_first.new.waiting =
    written_whole c.take_first.new.waiting c.self.inside.waiting.items c.self.inside.waiting.len (omega (arith, size, ap length from, c.deref_mut.ensures.len)) in
    rw whole
    (Agrees-issued s c.in_ok-due.due c.take_first.new.waiting c.use_tag.new.holders c.self.inside.tags c.use_tag.new.tags
    c.self.inside.first c.self.inside.count c.take_first.new.first c.take_first.new.count c.self.invariant next waiting
    c.use_tag.ensures.holders (due-below s c.in_ok-due.due c.self.invariant.sound next) c.use_tag.ensures.tied c.use_tag.ensures.depth
    c.take_first.ensures.counted)

pub returns-clause-after : goal.returns-clause-after
returns-clause-after c =
    let s : Standings = record { plan = c.self.inside.plan; waiting = c.self.inside.waiting.items; holders = c.self.inside.holders; faults = c.self.inside.faults.items } in
    let due : due_of s ≡ Ok c.in_ok-due.due = ap due_of c.self.view_is ∙ sym c.due.ensures ∙ c.in_ok-due.was in
    let next = due-is s c.in_ok-due.due due in
    let was = c.take_first.ensures.waiting in
    let from = c.deref_mut.ensures.value in
    let waiting : c.take_first.new.waiting ≡ slice_set s.waiting c.self.inside.first false = was ∙ ap (λ w. slice_set w c.self.inside.first false) from in
    let size : length c.take_first.new.waiting ≡ length s.waiting = ap length waiting ∙ length-set s.waiting c.self.inside.first false in
    let whole : take c.self.inside.waiting.len (c.take_first.new.waiting ++ drop (length c.take_first.new.waiting) c.self.inside.waiting.items) ≡ c.take_first.new.waiting =
    written_whole c.take_first.new.waiting c.self.inside.waiting.items c.self.inside.waiting.len (omega (arith, size, ap length from, c.deref_mut.ensures.len)) in
    let first = c.self.invariant.counted.lowest in
    let at : c.in_ok-due.due.id - 1 ≡ c.self.inside.first = omega (arith, first, next.id) in
    rw (← c.self.view_is, at, whole, waiting, c.use_tag.ensures.holders) refl

pub returns-clause-fits : goal.returns-clause-fits
returns-clause-fits c =
    let s : Standings = record { plan = c.self.inside.plan; waiting = c.self.inside.waiting.items; holders = c.self.inside.holders; faults = c.self.inside.faults.items } in
    let due : due_of s ≡ Ok c.in_ok-due.due = ap due_of c.self.view_is ∙ sym c.due.ensures ∙ c.in_ok-due.was in
    rw (← c.self.view_is) (due-fits s c.in_ok-due.due c.self.invariant.sound (due-is s c.in_ok-due.due due))
