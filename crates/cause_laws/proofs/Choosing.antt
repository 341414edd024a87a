-- Whose event comes next, and what of letters and `cut` lines is used behind it.
use Rattle.std.proofs.Common.{◌≡◌, ◌≤◌, ◌<◌, ◌+◌, ◌==◌, ℕ, zero, suc, Bool, true, false, refl, sym, ◌∙◌, ap, arith, length, cond}
use Rattle.std.specs.Prelude.{◌&&◌, ◌||◌, not, Option, None, Some}
use Rattle.std.proofs.lemmas.Bool.{and_parts, and_right, false≢true}
use Rattle.std.proofs.lemmas.Option.{slice_get_within}
use Rattle.storage_model.specs.declared.faults.Letter.{Letter}
use Rattle.storage_model.specs.declared.faults.Letter.TheVariants.{Host as HostActs, Engine as EngineActs, Card as CardActs, Cut as PowerActs}
use Rattle.trace_rules.specs.Lines.{is_letter, same_letter}
use Rattle.cq_regs.specs.State.{Registers}
use Rattle.cut_order.specs.Order.{is_line_due, next_letter, with_letter, with_line}
use Rattle.drv_core.specs.State.{is_recovering}
use Rattle.drv_core.specs.Work.{has_work, is_possible, work_of}
use Rattle.drv_jobs.specs.Standings.{Standings}
use Rattle.drv_recover.specs.declared.recovery.RecoveryState.{RecoveryState}
use Rattle.drv_recover.specs.declared.recovery.RecoveryState.TheVariants.{Calm, Halted, Cleared, Discarded, Cleaned, Resumed}
use Rattle.world_state.specs.Path.{PathState}
use Rattle.world_state.specs.Work.{issued, waiting}
use Rattle.world_steps.specs.World.{WorldState, chosen_by, chosen_of, is_cut_due, is_to_do, order_behind, order_in, shows_letter, uses_line}

-- the due line is used, or the next letter, or neither
pub data Chosen (w : WorldState) (actor : Letter) : Type 0 where
  ByLine : actor ≡ PowerActs → is_line_due w.order w.path.script.sent ≡ true → order_behind w actor ≡ with_line w.order w.path.script.sent → Chosen w actor
  ByLetter : w.order.letters < length w.order.turns → order_behind w actor ≡ with_letter w.order → Chosen w actor
  ByWork : actor ≡ HostActs → has_work w.path.driver w.path.regs ≡ true → order_behind w actor ≡ w.order → Chosen w actor
  ByRest : actor ≡ EngineActs → has_work w.path.driver w.path.regs ≡ false → order_behind w actor ≡ w.order → Chosen w actor

behind_if : (w : WorldState) (actor : Letter) (uses shows : Bool) → uses_line w actor ≡ uses → shows_letter w actor ≡ shows
    → order_behind w actor ≡ cond uses (with_line w.order w.path.script.sent) (cond shows (with_letter w.order) w.order)
behind_if w actor uses shows line letter =
    ap (λ b. cond b (with_line w.order w.path.script.sent) (order_in w actor)) line
    ∙ ap (λ b. cond uses (with_line w.order w.path.script.sent) (cond b (with_letter w.order) w.order)) letter

line_behind : (w : WorldState) (actor : Letter) → uses_line w actor ≡ true → order_behind w actor ≡ with_line w.order w.path.script.sent
line_behind w actor line = behind_if w actor true (shows_letter w actor) line refl

is_same : (letter : Letter) → same_letter letter letter ≡ true
is_same HostActs = refl
is_same EngineActs = refl
is_same CardActs = refl
is_same PowerActs = refl

shown_if : (w : WorldState) (actor : Letter) (b : Bool) → is_letter actor (next_letter w.order) ≡ b → uses_line w actor ≡ false → shows_letter w actor ≡ (b && true)
unfolding shows_letter
shown_if w actor b letter line = ap (λ x. x && not (uses_line w actor)) letter ∙ ap (λ x. b && not x) line

due_parts : (w : WorldState) → is_cut_due w ≡ true → is_line_due w.order w.path.script.sent ≡ true
unfolding is_cut_due
due_parts w e = (and_parts (is_to_do w.path) (is_line_due w.order w.path.script.sent) e).1

rests_if : (w : WorldState) (actor : Letter) (work : Bool) → has_work w.path.driver w.path.regs ≡ work → order_behind w actor ≡ w.order
    → actor ≡ cond work HostActs EngineActs → Chosen w actor
rests_if w actor true e order is = ByWork is e order
rests_if w actor false e order is = ByRest is e order

letter_if : (w : WorldState) (actor : Letter) (next : Option Letter) → next_letter w.order ≡ next → uses_line w actor ≡ false → actor ≡ chosen_by w.path next → Chosen w actor
letter_if w actor (Some letter) e line is =
    let same : is_letter actor (next_letter w.order) ≡ true = ap (is_letter actor) e ∙ ap (λ actor. same_letter actor letter) is ∙ is_same letter in
    ByLetter (slice_get_within w.order.turns w.order.letters letter e) (behind_if w actor false true line (shown_if w actor true same line))
letter_if w actor None e line is =
    rests_if w actor (has_work w.path.driver w.path.regs) refl (behind_if w actor false false line (shown_if w actor false (ap (is_letter actor) e) line)) is

due_if : (w : WorldState) (actor : Letter) (due : Bool) → is_cut_due w ≡ due → actor ≡ cond due PowerActs (chosen_by w.path (next_letter w.order)) → Chosen w actor
due_if w actor true e is =
    ByLine is (due_parts w e) (line_behind w actor (ap (λ actor. same_letter actor PowerActs && is_cut_due w) is ∙ e))
due_if w actor false e is =
    letter_if w actor (next_letter w.order) refl (and_right (same_letter actor PowerActs) (is_cut_due w) e) is

pub how_chosen : (w : WorldState) (actor : Letter) → actor ≡ chosen_of w → Chosen w actor
unfolding chosen_of
how_chosen w actor is = due_if w actor (is_cut_due w) refl is

-- where something is to do and the host has no work, a request has no answer
no_recovery : (state : RecoveryState) (regs : Registers) (s : Standings) → is_possible (work_of state regs) s ≡ false → is_recovering state ≡ false
no_recovery Calm regs s e = refl
no_recovery Halted regs s e = absurd (false≢true (sym e))
no_recovery Cleared regs s e = absurd (false≢true (sym e))
no_recovery Discarded regs s e = absurd (false≢true (sym e))
no_recovery Cleaned regs s e = absurd (false≢true (sym e))
no_recovery Resumed regs s e = absurd (false≢true (sym e))

some_by : (wait issue : ℕ) (recovers : Bool) → recovers ≡ false → (not (wait == 0) || (not (issue == 0) || recovers)) ≡ true → 1 ≤ wait + issue
some_by (suc n) issue recovers calm e = omega arith
some_by zero (suc n) recovers calm e = omega arith
some_by zero zero recovers calm e = absurd (false≢true (sym calm ∙ e))

pub some_request : (p : PathState) → is_to_do p ≡ true → has_work p.driver p.regs ≡ false → 1 ≤ waiting p + issued p
unfolding is_to_do
some_request p some idle =
    some_by (waiting p) (issued p) (is_recovering p.driver.recovery) (no_recovery p.driver.recovery p.regs p.driver.requests idle) some
