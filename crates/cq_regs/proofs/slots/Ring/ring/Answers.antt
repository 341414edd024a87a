use Rattle.std.proofs.Common.{◌≡◌, ◌<◌, ◌^◌, ap, sym, subst, ◌∙◌, arith}
use Rattle.cq_regs.specs.Slots.{progress_of, slots_word, rung}
use Rattle.cq_regs.proofs.ProgressLaws.{progress_rung}
use Rattle.cq_regs.proofs.RungLaws.{anew-apart, rung-anew, IsRing-with_first}
use Rattle.cq_regs.proofs.slots.Ring.ring.Goals as goal

pub ring_slots-requires-clause-apart : goal.ring_slots-requires-clause-apart
ring_slots-requires-clause-apart c =
    let e : c.word.result ≡ slots_word c.self.inside.slots.items = c.word.ensures.value ∙ ap slots_word (sym c.self.view_is) in
    rw e (anew-apart c.self.inside.slots.items c.args.doorbells c.self.invariant (subst (λ n. n < 2 ^ 32) e c.word.type_inv))

pub invariant_of-self : goal.invariant_of-self
invariant_of-self c =
    let e : c.word.result ≡ slots_word c.self.inside.slots.items = c.word.ensures.value ∙ ap slots_word (sym c.self.view_is) in
    rw (c.ring_slots.ensures, e)
    (IsRing-with_first c.self.inside.slots.items _ 32 c.self.invariant
    (anew-apart c.self.inside.slots.items c.args.doorbells c.self.invariant (subst (λ n. n < 2 ^ 32) e c.word.type_inv)) (omega arith))

pub returns-clause-after : goal.returns-clause-after
returns-clause-after c =
    let e : c.word.result ≡ slots_word c.self.inside.slots.items = c.word.ensures.value ∙ ap slots_word (sym c.self.view_is) in
    rw (c.ring_slots.ensures, e)
    (rung-anew c.self.inside.slots.items c.args.doorbells c.self.invariant (subst (λ n. n < 2 ^ 32) e c.word.type_inv)
    ∙ ap (λ ring. rung ring c.args.doorbells) c.self.view_is)

pub returns-clause-slots : goal.returns-clause-slots
returns-clause-slots c =
    let e : c.word.result ≡ slots_word c.self.inside.slots.items = c.word.ensures.value ∙ ap slots_word (sym c.self.view_is) in
    rw (c.ring_slots.ensures, e, ← c.self.view_is)
    (λ slot.
    ap (λ ring. progress_of ring slot) (rung-anew c.self.inside.slots.items c.args.doorbells c.self.invariant (subst (λ n. n < 2 ^ 32) e c.word.type_inv))
    ∙ progress_rung c.self.inside.slots.items c.args.doorbells slot c.self.invariant (omega arith))
