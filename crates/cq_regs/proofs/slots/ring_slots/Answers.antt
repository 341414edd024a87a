use Rattle.std.proofs.Common.{◌++◌, ◌∷◌, [], ap, ◌∙◌, sym, arith}
use Rattle.cq_regs.specs.Slots.{newly_rung}
use Rattle.cq_regs.proofs.RungLaws.{room, with_first-set, with_first-clear, with_first-none}
use Rattle.cq_regs.proofs.slots.ring_slots.Goals.{then-is_set, else-is_set}
use Rattle.cq_regs.proofs.slots.ring_slots.Goals as goal

pub loop-slot-init : goal.loop-slot-init
loop-slot-init c = sym (with_first-none c.args.ring.now.items c.args.anew)

pub push-requires : goal.push-requires
push-requires c = (
  omega arith,
  rw c.loop-slot.invariant
      (room c.args.ring.now.items c.args.anew c.loop-slot.slot c.requires.ring c.requires.apart c.loop-slot-test.true (sym c.if-is_set.ensures)),
)

pub loop-slot-preserved : goal.loop-slot-preserved
loop-slot-preserved c =
    elim c.if-is_set.branch [
      | then-is_set w ↦
          ap (λ ring. ring.items) w.ring-is ∙ w.push.ensures.items
          ∙ ap (λ r. c.loop-slot.ring.items ++ r ∷ []) w.rung.ensures
          ∙ ap (λ ring. ring ++ newly_rung c.loop-slot.slot ∷ []) c.loop-slot.invariant
          ∙ sym (with_first-set c.args.ring.now.items c.args.anew c.loop-slot.slot (sym w.if-is_set.ensures))
      | else-is_set w ↦
          ap (λ ring. ring.items) w.ring-is ∙ c.loop-slot.invariant
          ∙ sym (with_first-clear c.args.ring.now.items c.args.anew c.loop-slot.slot (sym w.if-is_set.ensures))
    ]
