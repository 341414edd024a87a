-- The number of a phase under way has no line of its own where no cut is due.
use Rattle.std.proofs.Common.{◌≡◌, ◌==◌, ◌+◌, ◌<◌, ℕ, refl, sym, ◌∙◌, ap, arith, Bool, true, false}
use Rattle.std.specs.Prelude.{cond, is_some, min, not, ◌&&◌, ◌||◌, zip, Option, Some, None}
use Rattle.std.specs.List.{list_any}
use Rattle.std.proofs.lemmas.Bool.{and_from, false_from_ne_true, or_left, or_right, true≢false}
use Rattle.std.proofs.lemmas.List.Folds.{list_any_at}
use Rattle.array_edge.specs.Array.{ArrayState}
use Rattle.cut_order.proofs.LeftLaws.{own_due}
use Rattle.cut_order.proofs.StateLaws.{due_line_is, order_begun}
use Rattle.cut_order.specs.Order.{OrderState, is_line_due, order_of}
use Rattle.cq_regs.specs.Slots.{is_rung, progress_of}
use Rattle.drv_core.specs.State.{is_recovering}
use Rattle.drv_jobs.specs.Standings.{is_any_issued}
use Rattle.state_laws.proofs.Commands.{no_phase}
use Rattle.state_laws.proofs.ReadOff.{busy_of}
use Rattle.state_laws.proofs.Tags.{rung_task}
use Rattle.storage_machine.specs.Cuts.{due_line, has_own_line, sent_so_far}
use Rattle.storage_machine.specs.Host.{is_silent, recovery_step, recovery_step_at}
use Rattle.storage_machine.specs.declared.state.Owed.TheVariants.{Nothing}
use Rattle.storage_machine.specs.declared.state.Recovery.{Recovery}
use Rattle.storage_machine.specs.declared.state.Recovery.TheVariants.{Calm, Halted, Cleared, Discarded, Cleaned, Resumed}
use Rattle.storage_machine.specs.declared.state.State.{State}
use Rattle.storage_model.specs.declared.faults.Letter.{Letter}
use Rattle.storage_model.specs.declared.faults.Letter.TheVariants.{Host as HostActs, Engine as EngineActs, Card as CardActs, Cut as PowerActs}
use Rattle.trace_effects.specs.Effects.{begun, begun_by}
use Rattle.world_state.specs.Path.{PathState, holder, is_busy}
use Rattle.world_state.specs.Reading.{Context, state_of}
use Rattle.world_state.specs.Stands.{Agrees}
use Rattle.world_state.specs.Ties.{AreTied}
use Rattle.world_state.specs.Work.{issued, waiting}
use Rattle.world_steps.specs.World.{WorldState, is_cut_due, is_to_do, order_in}
use Rattle.world_steps.proofs.Counts.{any_counts}
use Rattle.world_steps.proofs.Dues.{found_active}
use Rattle.world_steps.proofs.Prompts.{active_way, busy_way, letter_due, no_line_if}
use Rattle.world_steps.proofs.ReadOff.{order_is, sent_is}

-- the number of the last command stays as an event begins
either_number : (b : Bool) (s t : State) (n : ℕ) → s.n ≡ n → t.n ≡ n → (cond b s t).n ≡ n
either_number true s t n left right = left
either_number false s t n left right = right

recovery_number_at : (s : State) (recovery : Recovery) → (recovery_step_at s recovery).n ≡ s.n
recovery_number_at s Calm = refl
recovery_number_at s Halted = refl
recovery_number_at s Cleared = refl
recovery_number_at s Discarded = refl
recovery_number_at s Cleaned = refl
recovery_number_at s Resumed = refl

recovery_number : (s : State) → (recovery_step s).n ≡ s.n
unfolding recovery_step
recovery_number s = recovery_number_at s s.recovery

begun_number_by : (s : State) (letter : Letter) → (begun_by s letter).n ≡ s.n
begun_number_by s HostActs = either_number (is_silent s.recovery) _ _ s.n (recovery_number s) refl
begun_number_by s EngineActs = refl
begun_number_by s CardActs = refl
begun_number_by s PowerActs = refl

begun_number : (s : State) (letter : Letter) → (begun s letter).n ≡ s.n
unfolding begun
begun_number s letter = begun_number_by (record s { owed = Nothing }) letter

own_same : (s t : State) → order_of s ≡ order_of t → s.n ≡ t.n → has_own_line s ≡ has_own_line t
unfolding has_own_line
own_same s t order number =
    let at : OrderState → ℕ → Bool = λ order n. list_any (λ line. not line.1 && (line.0 == min (n + 1) 4294967295)) (zip order.cuts order.used) in
    ap (λ o. at o s.n) order ∙ ap (at (order_of t)) number

pub own_begun : (s : State) (letter : Letter) → has_own_line (begun s letter) ≡ has_own_line s
own_begun s letter = own_same (begun s letter) s (order_begun s letter) (begun_number s letter)

-- while a phase is under way, something is to do
any_holder : (p : PathState) (tag id : ℕ) → AreTied p → (low : tag < 32) → holder p tag ≡ Some id → is_any_issued p.driver.requests.holders ≡ true
any_holder p tag id t low e =
    let long = t.sound.holders in
    list_any_at is_some p.driver.requests.holders tag None (omega (arith, low, long)) (ap is_some e)

issued_one : (p : PathState) (tag : ℕ) → AreTied p → (tag < 32) × (is_rung (progress_of p.regs.ring tag) ≡ true) → is_recovering p.driver.recovery ≡ false
    → is_any_issued p.driver.requests.holders ≡ true
issued_one p tag t x calm =
    let task = rung_task p tag t calm x.0 x.1 in
    any_holder p tag task.id t x.0 task.issued

calm_busy : (p : PathState) (recovers : Bool) → is_recovering p.driver.recovery ≡ recovers → AreTied p → is_busy p ≡ true → recovers ≡ false
calm_busy p false e t busy = refl
calm_busy p true e t busy = absurd (true≢false (sym busy ∙ ap is_some (no_phase p t e)))

pub busy_calm : (p : PathState) → AreTied p → is_busy p ≡ true → is_recovering p.driver.recovery ≡ false
busy_calm p t busy = calm_busy p (is_recovering p.driver.recovery) refl t busy

pub busy_to_do : (p : PathState) → AreTied p → is_busy p ≡ true → is_to_do p ≡ true
unfolding is_to_do
busy_to_do p t busy =
    let way = busy_way p busy in
    let x = found_active p.regs.ring way.0 t.regs.ring (active_way p way.0 way.1) in
    let one = issued_one p way.0 t (x.below, ap is_rung x.is_at) (busy_calm p t busy) in
    or_right (not (waiting p == 0)) (not (issued p == 0) || is_recovering p.driver.recovery)
    (or_left (not (issued p == 0)) (is_recovering p.driver.recovery) (sym (any_counts is_some p.driver.requests.holders) ∙ one))

line_due : (p : PathState) (a : ArrayState) (o : OrderState) (c : Context) → Agrees p a c → is_busy p ≡ true → has_own_line (state_of p o c) ≡ true
    → is_line_due o p.script.sent ≡ true
line_due p a o c g busy own =
    let s = state_of p o c in
    ap (is_line_due o) (sym (sent_is p o c g.number)) ∙ ap (λ order. is_line_due order (sent_so_far s)) (sym (order_is p o c))
    ∙ sym (ap is_some (due_line_is s)) ∙ own_due s own (busy_of p o c ∙ busy)

pub no_own : (w : WorldState) (a : ArrayState) (c : Context) (actor : Letter) → Agrees w.path a c → is_busy w.path ≡ true → is_cut_due w ≡ false
    → has_own_line (state_of w.path (order_in w actor) c) ≡ false
no_own w a c actor g busy none =
    false_from_ne_true _
    (λ own.
    true≢false (sym (line_due w.path a (order_in w actor) c g busy own) ∙ letter_due w.order _ w.path.script.sent
    ∙ no_line_if w (busy_to_do w.path g.tied busy) none))
