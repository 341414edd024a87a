use Rattle.std.proofs.Common.{subst, sym, ap, ◌∙◌}
use Rattle.std.proofs.lemmas.List.{length-map}
use Rattle.cq_regs.specs.Slots.{IsRing, progress_of, advanced}
use Rattle.cq_regs.proofs.ProgressLaws.{progress_advanced}
use Rattle.cq_regs.proofs.RingLaws.{IsRing-advanced, refill_whole}
use Rattle.cq_regs.proofs.slots.Ring.advance.Goals as goal

pub invariant_of-self : goal.invariant_of-self
invariant_of-self c =
    rw (c.advance.ensures, c.as_mut_slice.ensures.value)
    (subst IsRing (sym (refill_whole c.self.inside.slots.items (advanced c.self.inside.slots.items c.args.slot) (simp length-map)))
    (IsRing-advanced c.self.inside.slots.items c.args.slot c.self.invariant))

pub returns-clause-slots : goal.returns-clause-slots
returns-clause-slots c =
    rw (c.advance.ensures, c.as_mut_slice.ensures.value, ← c.self.view_is)
    (λ slot.
    ap (λ ring. progress_of ring slot) (refill_whole c.self.inside.slots.items (advanced c.self.inside.slots.items c.args.slot) (simp length-map))
    ∙ progress_advanced c.self.inside.slots.items c.args.slot slot)
