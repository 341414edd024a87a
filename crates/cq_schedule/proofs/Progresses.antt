-- When two slots have come equally far.
use Rattle.std.proofs.Common.{◌≡◌, ◌≢◌, true, false, refl, sym, ◌∙◌, subst, arith}
use Rattle.std.proofs.lemmas.Bool.{false≢true}
use Rattle.cq_regs.specs.declared.slots.Progress.{Progress}
use Rattle.cq_regs.specs.declared.slots.Progress.TheVariants.{Idle, Rung, Named, Sent, Ready, Active}
use Rattle.cq_schedule.specs.Held.{same}

pub same-true : (p q : Progress) → same p q ≡ true → p ≡ q
same-true p q e = grind arith

pub same-refl : (p : Progress) → same p p ≡ true
same-refl Idle = refl
same-refl Rung = refl
same-refl Named = refl
same-refl Sent = refl
same-refl Ready = refl
same-refl Active = refl

pub same-false : (p q : Progress) → same p q ≡ false → p ≢ q
same-false p q e h = false≢true (sym e ∙ subst (λ r. same p r ≡ true) h (same-refl p))
