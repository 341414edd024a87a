-- The line that a cut uses, and the letter of its event.
use Rattle.std.proofs.Common.{◌≡◌, ◌∙◌, ◌&&◌, ℕ, Bool, true, false, cond, not, refl, ap}
use Rattle.cut_order.specs.Order.{OrderState, is_line_due, next_letter, with_letter, with_line}
use Rattle.join_laws.specs.Joins.{within}
use Rattle.join_laws.specs.Uses.{IsUsedBehind}
use Rattle.storage_machine.specs.Cuts.{sent_so_far}
use Rattle.storage_model.specs.declared.faults.Letter.{Letter}
use Rattle.storage_model.specs.declared.faults.Letter.TheVariants.{Cut as PowerActs}
use Rattle.trace_rules.specs.Lines.{is_letter, same_letter}
use Rattle.world_state.specs.Reading.{Context}
use Rattle.world_steps.specs.World.{WorldState, is_cut_due, is_to_do, order_in, shows_letter, uses_line}

-- a letter that is used leaves the lines of `cut` as they are
line_same : (o : OrderState) (n : ℕ) (b : Bool) → is_line_due (cond b (with_letter o) o) n ≡ is_line_due o n
line_same o n true = refl
line_same o n false = refl

due_same : (w : WorldState) (actor : Letter) → is_cut_due (record { path = w.path; order = order_in w actor }) ≡ is_cut_due w
unfolding is_cut_due
due_same w actor = ap (λ b. is_to_do w.path && b) (line_same w.order w.path.script.sent (shows_letter w actor))

-- the event that uses a line shows no letter
and_none : (b : Bool) → (b && false) ≡ false
and_none true = refl
and_none false = refl

shows_none : (w : WorldState) (actor : Letter) → uses_line w actor ≡ true → shows_letter w actor ≡ false
unfolding shows_letter
shows_none w actor uses = ap (λ b. is_letter actor (next_letter w.order) && not b) uses ∙ and_none (is_letter actor (next_letter w.order))

in_same : (w : WorldState) (actor : Letter) → uses_line w actor ≡ true → order_in w actor ≡ w.order
in_same w actor uses = ap (λ b. cond b (with_letter w.order) w.order) (shows_none w actor uses)

by_both : (first second : Bool) (x y z : OrderState) → ((first && second) ≡ true → x ≡ z) → cond first (cond second x y) y ≡ cond (first && second) z y
by_both true true x y z same = same refl
by_both true false x y z same = refl
by_both false second x y z same = refl

pub used_behind : (w : WorldState) (c : Context) (actor : Letter) → IsUsedBehind w c actor
used_behind w c actor reads =
    let o = order_in w actor in
    let first = same_letter actor PowerActs in
    ap (λ b. cond first (cond b (with_line o (sent_so_far (within w c actor))) o) o) (reads.due ∙ due_same w actor)
    ∙ (ap (λ n. cond first (cond (is_cut_due w) (with_line o n) o) o) reads.sent
    ∙ by_both first (is_cut_due w) (with_line o w.path.script.sent) o (with_line w.order w.path.script.sent) (λ uses. ap (λ x. with_line x w.path.script.sent) (in_same w actor uses)))
