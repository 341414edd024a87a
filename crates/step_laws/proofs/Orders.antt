-- What of letters and `cut` lines is used behind an event.
use Rattle.std.proofs.Common.{◌≡◌, ◌∙◌, Bool, true, false, not, if◌then◌else◌, List, refl, ap}
use Rattle.std.proofs.lemmas.Bool.{and_right}
use Rattle.storage_machine.specs.Cuts.{sent_so_far}
use Rattle.storage_machine.specs.Host.{to_do}
use Rattle.storage_model.specs.declared.faults.Letter.{Letter}
use Rattle.storage_model.specs.declared.faults.Letter.TheVariants.{Host, Engine, Card, Cut as Power}
use Rattle.storage_model.specs.declared.trace.Item.{Item}
use Rattle.storage_model.specs.declared.trace.Item.TheVariants.{Cut}
use Rattle.trace_effects.specs.Effects.{effect}
use Rattle.trace_rules.specs.Lines.{is_letter}
use Rattle.array_edge.specs.Array.{ArrayState}
use Rattle.cut_order.specs.Order.{OrderState, next_letter, order_of, with_letter, with_line}
use Rattle.join_laws.specs.Joins.{DarkIn, within}
use Rattle.power_laws.specs.Power.{UsesLine, cut_order}
use Rattle.world_state.specs.Path.{PathState}
use Rattle.world_state.specs.Reading.{Context}
use Rattle.world_state.specs.Stands.{Agrees}
use Rattle.world_steps.specs.Reading.{IsRead, Reads}
use Rattle.world_steps.specs.World.{WorldState, is_cut_due, is_to_do, order_behind, order_in, shows_letter, uses_line}

-- as the event begins
abbrev pub begun_world : WorldState → Letter → WorldState
begun_world w actor = record { path = w.path; order = order_in w actor }

due_flag : (flag : Bool) (p : PathState) (o : OrderState) → is_cut_due (record { path = p; order = if flag then with_letter o else o }) ≡ is_cut_due (record { path = p; order = o })
unfolding is_cut_due
due_flag true p o = refl
due_flag false p o = refl

pub due_in : (w : WorldState) (actor : Letter) → is_cut_due (begun_world w actor) ≡ is_cut_due w
unfolding is_cut_due
due_in w actor = due_flag (shows_letter w actor) w.path w.order

-- where the event uses a line it shows no letter
shows_none : (w : WorldState) (actor : Letter) → uses_line w actor ≡ true → shows_letter w actor ≡ false
unfolding shows_letter
shows_none w actor uses = and_right (is_letter actor (next_letter w.order)) (not (uses_line w actor)) (ap not uses)

module _ (line : UsesLine) (read : IsRead) (w : WorldState) (a : ArrayState) (c : Context) (agrees : Agrees w.path a c) where
  reads : (actor : Letter) → Reads (begun_world w actor) c
  reads actor = read (begun_world w actor) a c agrees

  -- power's event uses the due line, and another none
  by_flag : (flag : Bool) → uses_line w Power ≡ flag
      → (if flag then with_line (order_in w Power) w.path.script.sent else order_in w Power) ≡ (if flag then with_line w.order w.path.script.sent else order_in w Power)
  by_flag true uses = ap (λ flag. with_line (if flag then with_letter w.order else w.order) w.path.script.sent) (shows_none w Power uses)
  by_flag false uses = refl

  used_order : (actor : Letter) → cut_order (within w c actor) actor (order_in w actor) ≡ order_behind w actor
  used_order Host = refl
  used_order Engine = refl
  used_order Card = refl
  used_order Power =
      ap (λ flag. if flag then with_line (order_in w Power) (sent_so_far (within w c Power)) else order_in w Power) ((reads Power).due ∙ due_in w Power)
      ∙ (ap (λ n. if is_cut_due w then with_line (order_in w Power) n else order_in w Power) (reads Power).sent ∙ by_flag (is_cut_due w) refl)

  pub order_used : (actor : Letter) (items : List Item) (p : PathState) (b : ArrayState) → (d : DarkIn w c actor items p b) → order_of (effect d.last Cut) ≡ order_behind w actor
  order_used actor items p b d = line actor (within w c actor) items p (order_in w actor) b d ∙ used_order actor

  -- something is to do where the event has begun, too
  pub to_do_in : (actor : Letter) → is_to_do w.path ≡ true → to_do (within w c actor) ≡ true
  to_do_in actor some = (reads actor).to_do ∙ some
