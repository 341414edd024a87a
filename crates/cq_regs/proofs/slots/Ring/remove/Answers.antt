use Rattle.std.proofs.Common.{rules}
use Rattle.arrayvec.proofs.ArrayVecLemmas.{filter-from_retain}
use Rattle.std.proofs.Common.{◌≡◌, ap, ◌∙◌}
use Rattle.std.specs.Prelude.{◌==◌, not}
use Rattle.cq_regs.specs.Slots.{progress_of, without}
use Rattle.cq_regs.proofs.ProgressLaws.{progress_without}
use Rattle.cq_regs.proofs.RingLaws.{IsRing-filter}
use Rattle.cq_regs.proofs.slots.Ring.remove.Goals as goal

pub invariant_of-self : goal.invariant_of-self
invariant_of-self c =
    let e : c.retain.new.self.items ≡ without c.self.inside.slots.items c.args.slot = filter-from_retain _ _ _ (λ x b f' y called. search rules) _ _ c.retain.ensures.filtered in
    rw e (IsRing-filter (λ r. not (r.slot == c.args.slot)) c.self.inside.slots.items c.self.invariant)

pub returns-clause-after : goal.returns-clause-after
returns-clause-after c =
    let e : c.retain.new.self.items ≡ without c.self.inside.slots.items c.args.slot = filter-from_retain _ _ _ (λ x b f' y called. search rules) _ _ c.retain.ensures.filtered in
    e ∙ ap (λ ring. without ring c.args.slot) c.self.view_is

pub returns-clause-slots : goal.returns-clause-slots
returns-clause-slots c =
    let e : c.retain.new.self.items ≡ without c.self.inside.slots.items c.args.slot = filter-from_retain _ _ _ (λ x b f' y called. search rules) _ _ c.retain.ensures.filtered in
    rw (← c.self.view_is)
    (λ slot. ap (λ ring. progress_of ring slot) e ∙ progress_without c.self.inside.slots.items c.args.slot slot)
