-- Where no line is due at the number of a phase of which a block moved, it stays so.
use Rattle.std.proofs.Common.{◌≡◌, ◌≤◌, ◌<◌, ℕ, refl, sym, ◌∙◌, ap, arith, Bool, true, false, [], List}
use Rattle.std.specs.Prelude.{cond, is_some, ◌&&◌, Option, Some, None}
use Rattle.std.proofs.lemmas.Bool.{false≢true, true≢false}
use Rattle.array_edge.specs.Array.{ArrayState}
use Rattle.bus_link.specs.Script.{Script}
use Rattle.card_core.specs.declared.phase.Phase.{Phase}
use Rattle.card_link.specs.Behind.{Behind, behind}
use Rattle.cq_engine.specs.Outcome.{Holding}
use Rattle.cq_engine.specs.declared.did.Did.{Did}
use Rattle.cq_regs.specs.State.{Registers}
use Rattle.cq_regs.specs.declared.slots.Progress.TheVariants.{Active}
use Rattle.cq_schedule.specs.Held.{Places, noted, remembered}
use Rattle.cq_schedule.specs.Order.{first_at, moved_of}
use Rattle.cut_order.specs.Order.{OrderState, is_line_due, with_letter}
use Rattle.storage_model.specs.declared.faults.Letter.{Letter}
use Rattle.storage_model.specs.declared.faults.Letter.TheVariants.{Host as HostActs, Engine as EngineActs, Card as CardActs, Cut as PowerActs}
use Rattle.trace_rules.specs.Lines.{same_letter}
use Rattle.cut_order.specs.Order.{next_letter}
use Rattle.world_state.specs.Engine.{EngineEvent}
use Rattle.world_state.specs.Path.{PathState, behind_path, is_busy, moved, moved_by, under_way}
use Rattle.world_state.specs.Ties.{AreTied}
use Rattle.world_steps.specs.World.{IsPrompt, WorldState, chosen_by, chosen_of, is_cut_due, is_to_do, order_behind, shows_letter}
use Rattle.world_steps.proofs.Begins.{Became, became_active}
use Rattle.world_steps.proofs.Begins.Became.{was, begins}
use Rattle.world_steps.proofs.Dues.{IsActive, found_active, is_command, none_active, none_so_far}
use Rattle.world_steps.proofs.Keeps.{does_keep, noted_moved, ready_moved}
use Rattle.world_steps.proofs.Numbers.{does_not_send}

-- the phase under way is that of the active slot
way_if : (stopped : Bool) (active : Option ℕ) (tag : ℕ) → cond stopped None active ≡ Some tag → active ≡ Some tag
way_if true active tag e = absurd (cc e)
way_if false active tag e = e

pub active_way : (p : PathState) (tag : ℕ) → under_way p ≡ Some tag → first_at Active p.regs.ring ≡ Some tag
active_way p tag e = way_if p.regs.stopped (first_at Active p.regs.ring) tag e

some_way : (way : Option ℕ) → is_some way ≡ true → (tag : ℕ) × (way ≡ Some tag)
some_way None e = absurd (false≢true e)
some_way (Some tag) e = (tag, refl)

pub busy_way : (p : PathState) → is_busy p ≡ true → (tag : ℕ) × (under_way p ≡ Some tag)
busy_way p e = some_way (under_way p) e

-- after a command no block of a phase has moved
begun_moved : (p : PathState) (a : ArrayState) (p' : PathState) (a' : ArrayState) (did : Did) (phase : Option Phase) (e : EngineEvent p a p' a' did phase)
    → AreTied p → is_command e.event.acts.due ≡ true → (tag : ℕ) → IsActive p'.regs.ring tag → Became did p.regs.ring tag → moved_of p'.engine.held tag ≡ 0
begun_moved p a p' a' did phase e t command tag x (was active) =
    let held = remembered p.engine.held p.regs in
    absurd (none_so_far p.regs.ring tag t.regs.ring (none_active held p.regs p.memory e.event.acts.due e.event.acts.is_due command) x.below active)
begun_moved p a p' a' did phase e t command tag x (begins read is ready) =
    let left = e.event.left in
    let keeps = does_keep (behind_path p a) (behind e.card a' p'.script) (record { held = remembered p.engine.held p.regs; regs = p.regs }) p.memory p'.memory
    (record { did = did; host = left }) e.event.acts.due command e.event.acts.does read tag is in
    ap (λ (h : Holding). moved_of h.held tag) e.event.keeps
    ∙ noted_moved left.held left.regs tag x.below
    ∙ ap (λ held. moved_of held tag) keeps
    ∙ ready_moved p.engine.held p.regs tag t.counts x.below ready

command_moved : (p : PathState) (a : ArrayState) (p' : PathState) (a' : ArrayState) (did : Did) (phase : Option Phase) (e : EngineEvent p a p' a' did phase)
    → AreTied p → is_command e.event.acts.due ≡ true → is_busy p' ≡ true → moved p' ≡ 0
command_moved p a p' a' did phase e t command busy =
    let way = busy_way p' busy in
    let x = found_active p'.regs.ring way.0 e.ring (active_way p' way.0 way.1) in
    ap (λ o. moved_by p' o) way.1
    ∙ begun_moved p a p' a' did phase e t command way.0 x (became_active did p.regs p'.regs e.slots way.0 x.is_at)

still_sent : (p : PathState) (a : ArrayState) (p' : PathState) (a' : ArrayState) (did : Did) (phase : Option Phase) (e : EngineEvent p a p' a' did phase)
    → AreTied p → (command : Bool) → is_command e.event.acts.due ≡ command → is_busy p' ≡ true → 1 ≤ moved p' → p'.script.sent ≡ p.script.sent
still_sent p a p' a' did phase e t true command busy some =
    let none = command_moved p a p' a' did phase e t command busy in
    absurd (omega (arith, none, some))
still_sent p a p' a' did phase e t false command busy some =
    does_not_send (behind_path p a) (behind e.card a' p'.script) (record { held = remembered p.engine.held p.regs; regs = p.regs }) p.memory p'.memory
    (record { did = did; host = e.event.left }) e.event.acts.due command e.event.acts.does

pub engine_sent : (p : PathState) (a : ArrayState) (p' : PathState) (a' : ArrayState) (did : Did) (phase : Option Phase) (e : EngineEvent p a p' a' did phase)
    → AreTied p → is_busy p' ≡ true → 1 ≤ moved p' → p'.script.sent ≡ p.script.sent
engine_sent p a p' a' did phase e t busy some = still_sent p a p' a' did phase e t (is_command e.event.acts.due) refl busy some

-- where another event than power's comes, no cut is due
not_due : (w : WorldState) (actor : Letter) (due : Bool) → same_letter actor PowerActs ≡ false → actor ≡ cond due PowerActs (chosen_by w.path (next_letter w.order)) → due ≡ false
not_due w actor true other is = absurd (true≢false (sym (ap (λ letter. same_letter letter PowerActs) is) ∙ other))
not_due w actor false other is = refl

pub no_cut : (w : WorldState) (actor : Letter) → same_letter actor PowerActs ≡ false → actor ≡ chosen_of w → is_cut_due w ≡ false
unfolding chosen_of
no_cut w actor other is = not_due w actor (is_cut_due w) other is

pub no_line_if : (w : WorldState) → is_to_do w.path ≡ true → is_cut_due w ≡ false → is_line_due w.order w.path.script.sent ≡ false
unfolding is_cut_due
no_line_if w some none = sym (ap (λ b. b && is_line_due w.order w.path.script.sent) some) ∙ none

pub no_line : (w : WorldState) (actor : Letter) → same_letter actor PowerActs ≡ false → is_to_do w.path ≡ true → actor ≡ chosen_of w
    → is_line_due w.order w.path.script.sent ≡ false
no_line w actor other some is = no_line_if w some (no_cut w actor other is)

-- letters don't tell which lines are due
pub letter_due : (order : OrderState) (shows : Bool) (sent : ℕ) → is_line_due (cond shows (with_letter order) order) sent ≡ is_line_due order sent
letter_due order true sent = refl
letter_due order false sent = refl

pub still_none : (w : WorldState) (actor : Letter) (sent : ℕ) → same_letter actor PowerActs ≡ false → is_to_do w.path ≡ true → actor ≡ chosen_of w
    → sent ≡ w.path.script.sent → is_line_due (cond (shows_letter w actor) (with_letter w.order) w.order) sent ≡ false
still_none w actor sent other some is same =
    letter_due w.order (shows_letter w actor) sent ∙ ap (λ n. is_line_due w.order n) same ∙ no_line w actor other some is

pub engine_stays : (w : WorldState) → AreTied w.path → is_to_do w.path ≡ true → (a : ArrayState) (p' : PathState) (a' : ArrayState) (did : Did) (phase : Option Phase)
    → EngineEvent w.path a p' a' did phase → EngineActs ≡ chosen_of w → IsPrompt (record { path = p'; order = order_behind w EngineActs })
engine_stays w t some a p' a' did phase e is busy moved =
    still_none w EngineActs p'.script.sent refl some is (engine_sent w.path a p' a' did phase e t busy moved)

pub card_stays : (w : WorldState) → is_to_do w.path ≡ true → (p' : PathState) → p' ≡ record w.path { card = p'.card } → CardActs ≡ chosen_of w
    → IsPrompt (record { path = p'; order = order_behind w CardActs })
card_stays w some p' same is busy moved = still_none w CardActs p'.script.sent refl some is (ap (λ (p : PathState). p.script.sent) same)
