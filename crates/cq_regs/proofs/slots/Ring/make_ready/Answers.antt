use Rattle.std.proofs.Common.{subst, sym, ap, ◌∙◌}
use Rattle.std.proofs.lemmas.List.{length-map}
use Rattle.cq_regs.specs.Slots.{IsRing, progress_of, made_ready}
use Rattle.cq_regs.proofs.ProgressLaws.{progress_made_ready}
use Rattle.cq_regs.proofs.RingLaws.{IsRing-made_ready, refill_whole}
use Rattle.cq_regs.proofs.slots.Ring.make_ready.Goals as goal

pub invariant_of-self : goal.invariant_of-self
invariant_of-self c =
    rw (c.make_ready.ensures, c.as_mut_slice.ensures.value)
    (subst IsRing (sym (refill_whole c.self.inside.slots.items (made_ready c.self.inside.slots.items c.args.word) (simp length-map)))
    (IsRing-made_ready c.self.inside.slots.items c.args.word c.self.invariant))

pub returns-clause-slots : goal.returns-clause-slots
returns-clause-slots c =
    rw (c.make_ready.ensures, c.as_mut_slice.ensures.value, ← c.self.view_is)
    (λ slot.
    ap (λ ring. progress_of ring slot) (refill_whole c.self.inside.slots.items (made_ready c.self.inside.slots.items c.args.word) (simp length-map))
    ∙ progress_made_ready c.self.inside.slots.items c.args.word slot)
