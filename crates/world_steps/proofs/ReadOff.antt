-- Whether a cut is due, whose event comes next and which letter its line shows, read off path, letters and `cut` lines.
use Rattle.std.proofs.Common.{◌≡◌, ℕ, refl, sym, ◌∙◌, ap, Bool, true, false}
use Rattle.std.specs.Prelude.{cond, not, ◌&&◌, Option, Some, None}
use Rattle.array_edge.specs.Array.{ArrayState}
use Rattle.storage_machine.specs.Cuts.{is_due, sent_so_far}
use Rattle.storage_machine.specs.declared.state.State.{State}
use Rattle.storage_model.specs.declared.faults.Letter.{Letter}
use Rattle.storage_model.specs.declared.faults.Letter.TheVariants.{Host as HostActs, Engine as EngineActs, Cut as PowerActs}
use Rattle.storage_order.specs.Order.{next_actor}
use Rattle.storage_runs.specs.Runs.{chosen, chosen_by as machine_by, is_shown, next_letter as machine_letter, with_letter as machine_with}
use Rattle.trace_effects.specs.Effects.{letters_used}
use Rattle.trace_rules.specs.Lines.{is_letter, same_letter}
use Rattle.cut_order.specs.Order.{OrderState, is_line_due, next_letter, order_of, with_letter}
use Rattle.cut_order.proofs.StateLaws.{is_due_by}
use Rattle.world_state.specs.Laws.{StateLaws}
use Rattle.world_state.specs.Path.{PathState, is_busy}
use Rattle.world_state.specs.Reading.{Context, state_of}
use Rattle.world_state.specs.Stands.{Agrees, sent_of}
use Rattle.world_state.specs.Ties.{AreTied}
use Rattle.world_steps.specs.Reading.{Reads}
use Rattle.world_steps.specs.World.{WorldState, chosen_by, chosen_of, is_cut_due, is_to_do, order_in, shows_letter, uses_line}
use Rattle.world_steps.proofs.ToDo.{to_do_is}

pub order_is : (p : PathState) (o : OrderState) (c : Context) → order_of (state_of p o c) ≡ o
unfolding state_of
order_is p o c = refl

pub sent_is : (p : PathState) (o : OrderState) (c : Context) → p.script.sent ≡ sent_of (is_busy p) c.n → sent_so_far (state_of p o c) ≡ p.script.sent
unfolding state_of
sent_is p o c number = sym number

pub due_is : (p : PathState) (a : ArrayState) (o : OrderState) (c : Context) → Agrees p a c
    → is_due (state_of p o c) ≡ (is_to_do p && is_line_due o p.script.sent)
due_is p a o c g =
    is_due_by (state_of p o c) o p.script.sent (order_is p o c) (sent_is p o c g.number)
    ∙ ap (λ b. b && is_line_due o p.script.sent) (to_do_is p o c g.tied)

world_due : (w : WorldState) (a : ArrayState) (c : Context) → Agrees w.path a c → is_due (state_of w.path w.order c) ≡ is_cut_due w
unfolding is_cut_due
world_due w a c g = due_is w.path a w.order c g

letter_is : (p : PathState) (o : OrderState) (c : Context) → machine_letter (state_of p o c) ≡ next_letter o
unfolding state_of
letter_is p o c = refl

by_is : (p : PathState) (o : OrderState) (c : Context) (letter : Option Letter) → StateLaws → AreTied p → machine_by (state_of p o c) letter ≡ chosen_by p letter
by_is p o c (Some letter) laws t = refl
by_is p o c None laws t = ap (λ b. cond b HostActs EngineActs) (laws.host p o c t).work

world_chosen : (w : WorldState) (a : ArrayState) (c : Context) → Agrees w.path a c → StateLaws → chosen (state_of w.path w.order c) ≡ chosen_of w
unfolding chosen_of
world_chosen w a c g laws =
    let s = state_of w.path w.order c in
    ap (λ b. cond b PowerActs (machine_by s (machine_letter s))) (world_due w a c g)
    ∙ ap (λ letter. cond (is_cut_due w) PowerActs (machine_by s letter)) (letter_is w.path w.order c)
    ∙ ap (λ letter. cond (is_cut_due w) PowerActs letter) (by_is w.path w.order c (next_letter w.order) laws g.tied)

world_shown : (w : WorldState) (a : ArrayState) (c : Context) → Agrees w.path a c → (actor : Letter) → is_shown (state_of w.path w.order c) actor ≡ shows_letter w actor
unfolding shows_letter
world_shown w a c g actor =
    let s = state_of w.path w.order c in
    ap (λ letter. is_letter actor letter && not (same_letter actor PowerActs && is_due s)) (letter_is w.path w.order c)
    ∙ ap (λ b. is_letter actor (next_letter w.order) && not (same_letter actor PowerActs && b)) (world_due w a c g)

letter_used : (p : PathState) (o : OrderState) (c : Context) (shows : Bool)
    → cond shows (record (state_of p o c) { letters = letters_used (state_of p o c) }) (state_of p o c) ≡ state_of p (cond shows (with_letter o) o) c
unfolding state_of
letter_used p o c true = refl
letter_used p o c false = refl

pub world_letter : (w : WorldState) (a : ArrayState) (c : Context) → Agrees w.path a c → (actor : Letter)
    → machine_with (state_of w.path w.order c) actor ≡ state_of w.path (order_in w actor) c
world_letter w a c g actor =
    let s = state_of w.path w.order c in
    ap (λ b. cond b (record s { letters = letters_used s }) s) (world_shown w a c g actor) ∙ letter_used w.path w.order c (shows_letter w actor)

pub reads : (w : WorldState) (a : ArrayState) (c : Context) → Agrees w.path a c → Reads w c
reads w a c g = record {
  to_do = to_do_is w.path w.order c g.tied;
  sent = sent_is w.path w.order c g.number;
  due = world_due w a c g;
  chosen = world_chosen w a c g;
  shown = world_shown w a c g;
  letter = world_letter w a c g;
}
