use Rattle.std.proofs.Common.{rules}
use Rattle.arrayvec.proofs.ArrayVecLemmas.{filter-from_retain}
use Rattle.std.proofs.Common.{◌≡◌, ap, ◌∙◌}
use Rattle.std.specs.Prelude.{not}
use Rattle.cq_regs.specs.Slots.{has_bit, without_slots}
use Rattle.cq_regs.proofs.RingLaws.{IsRing-filter}
use Rattle.cq_regs.proofs.slots.Ring.remove_all.Goals as goal

pub invariant_of-self : goal.invariant_of-self
invariant_of-self c =
    let e : c.retain.new.self.items ≡ without_slots c.self.inside.slots.items c.args.word = filter-from_retain _ _ _ (λ x b f' y called. search rules) _ _ c.retain.ensures.filtered in
    rw e (IsRing-filter (λ r. not (has_bit c.args.word r.slot)) c.self.inside.slots.items c.self.invariant)

pub returns : goal.returns
returns c =
    let e : c.retain.new.self.items ≡ without_slots c.self.inside.slots.items c.args.word = filter-from_retain _ _ _ (λ x b f' y called. search rules) _ _ c.retain.ensures.filtered in
    e ∙ ap (λ ring. without_slots ring c.args.word) c.self.view_is
