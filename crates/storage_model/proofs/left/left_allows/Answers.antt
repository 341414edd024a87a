use Rattle.std.proofs.Common.{◌≡◌, ◌∙◌, inl, inr, sym, arith}
use Rattle.std.proofs.lemmas.Bool.{cases_lt}
use Rattle.storage_model.proofs.Cuts.{is_left-from, is_left-none}
use Rattle.storage_model.proofs.Sources.{kept_or_later}
use Rattle.storage_model.proofs.Splits.{barriers, reliable_puts}
use Rattle.storage_model.proofs.left.left_allows.Goals as goal

pub returns-then-left_in-clause-value : goal.returns-then-left_in-clause-value
returns-then-left_in-clause-value c = sym (is_left-from c.args.base.now c.args.pend.now c.args.after.now c.loop-epoch.epoch (omega arith) (sym c.left_in.ensures ∙ c.if-left_in.true))

pub returns-then-left_in-clause-granules : goal.returns-then-left_in-clause-granules
returns-then-left_in-clause-granules c =
    let holds = is_left-from c.args.base.now c.args.pend.now c.args.after.now c.loop-epoch.epoch (omega arith) (sym c.left_in.ensures ∙ c.if-left_in.true) in
    λ _. kept_or_later c.args.base.now c.args.pend.now c.args.after.now holds

pub returns-then-left_in-clause-barriers : goal.returns-then-left_in-clause-barriers
returns-then-left_in-clause-barriers c =
    let holds = is_left-from c.args.base.now c.args.pend.now c.args.after.now c.loop-epoch.epoch (omega arith) (sym c.left_in.ensures ∙ c.if-left_in.true) in
    λ _. barriers c.args.base.now c.args.pend.now c.args.after.now holds

pub returns-then-left_in-clause-reliable : goal.returns-then-left_in-clause-reliable
returns-then-left_in-clause-reliable c =
    let holds = is_left-from c.args.base.now c.args.pend.now c.args.after.now c.loop-epoch.epoch (omega arith) (sym c.left_in.ensures ∙ c.if-left_in.true) in
    λ _. reliable_puts c.args.base.now c.args.pend.now c.args.after.now holds

pub returns-else-left_in-clause-value : goal.returns-else-left_in-clause-value
returns-else-left_in-clause-value c = sym (is_left-none c.args.base.now c.args.pend.now c.args.after.now (λ e below. elim (cases_lt e c.loop-epoch.epoch) [
  | inl before ↦ c.loop-epoch.invariant e before
  | inr after ↦ let last : e ≡ c.loop-epoch.epoch = omega arith in rw last (sym c.left_in.ensures ∙ c.if-left_in.false)
]))
