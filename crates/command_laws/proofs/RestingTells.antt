-- An event in which nothing is sent tells nothing.
use Rattle.std.proofs.Common.{◌≡◌, ◌≢◌, ◌==◌, ◌+◌, ℕ, Bool, true, false, cond, refl, sym, ◌∙◌, ap, subst, inl, inr, min}
use Rattle.std.specs.Prelude.{nat_lt, not, ◌&&◌, List, [], Option, Some, None, is_some}
use Rattle.std.specs.Option.{MatchOption, option_map, option_map_or}
use Rattle.std.proofs.lemmas.Bool.{true≢false}
use Rattle.std.proofs.lemmas.Bool.Decides.{nat_tests}
use Rattle.std.proofs.Common.{arith}
use Rattle.array_edge.specs.Array.{ArrayState}
use Rattle.bus_link.specs.declared.link.Cause.{Cause}
use Rattle.bus_link.specs.declared.link.Cause.TheVariants.{Bus as BusFault, Dark, Response}
use Rattle.card_core.specs.declared.phase.Phase.{Phase}
use Rattle.card_link.specs.Behind.{behind}
use Rattle.cq_engine.specs.Event.{Silent}
use Rattle.cq_engine.specs.Outcome.{outcome_of}
use Rattle.cq_engine.specs.declared.did.Did.{Did}
use Rattle.cq_engine.specs.declared.did.Did.TheVariants.{Idle as DidNothing}
use Rattle.cq_regs.specs.Slots.{has_bit}
use Rattle.cq_regs.specs.State.{Registers}
use Rattle.cq_schedule.specs.Held.{Places, remembered}
use Rattle.cq_schedule.specs.Meaning.{IsDue, IsDueThen, next_of_phase, rests}
use Rattle.cq_schedule.specs.Order.{blocks_of, first_at, first_high, moved_of}
use Rattle.cq_schedule.specs.declared.rules.Due.TheVariants.{Address, Block, Close, Execute, Poll, Rest, Serve, Tick}
use Rattle.cq_schedule.proofs.Idle.{tick_exactly}
use Rattle.cq_regs.specs.declared.slots.Progress.TheVariants.{Active, Named, Ready, Sent}
use Rattle.cut_order.specs.Order.{OrderState}
use Rattle.drv_core.specs.Judge.{error_of}
use Rattle.drv_core.specs.State.{is_recovering}
use Rattle.drv_core.specs.declared.act.Stop.{Stop as Ending}
use Rattle.drv_core.specs.declared.act.Stop.TheVariants.{Bus as BusEnding, Flash as FlashEnding, Range as RangeEnding, Retry}
use Rattle.drv_recover.specs.Recovery.{IsAt}
use Rattle.drv_recover.specs.declared.recovery.RecoveryState.{RecoveryState}
use Rattle.drv_recover.specs.declared.recovery.RecoveryState.TheVariants as driver
use Rattle.host_mem.specs.Memory.{Memory}
use Rattle.storage_machine.specs.Commands.{due, is_none_due, is_running, may_tick}
use Rattle.storage_machine.specs.declared.commands.DueCommand.TheVariants as machine
use Rattle.storage_machine.specs.declared.state.Event.TheVariants.{Untold}
use Rattle.drv_jobs.specs.Changes.{faults_of}
use Rattle.drv_jobs.specs.Standings.{holder_of}
use Rattle.cq_regs.specs.declared.slots.Ringed.{Ringed}
use Rattle.storage_machine.specs.declared.state.State.{State}
use Rattle.storage_machine.specs.declared.state.Stop.{Stop}
use Rattle.storage_machine.specs.declared.state.Stop.TheVariants as stop
use Rattle.storage_model.specs.declared.faults.Letter.TheVariants.{Engine as EngineActs}
use Rattle.storage_order.specs.Events.{end_rule, ended, engine_may_pass, engine_step, may_pass, passed}
use Rattle.trace_rules.specs.Steps.{unless}
use Rattle.world_state.specs.Engine.{EngineEvent}
use Rattle.world_state.specs.Laws.{StateLaws}
use Rattle.world_state.specs.Path.{PathState, behind_path, is_busy, moved, under_way}
use Rattle.world_state.specs.Reading.{Context, data_of, is_free, notice_of, recovery_of, spent_of, state_of, stop_by, stop_by_word, stop_of, tasks_of}
use Rattle.world_state.specs.Stands.{Agrees, names, sent_of}
use Rattle.world_state.specs.Ties.{AreTied}
use Rattle.world_state.specs.Told.{Told}
use Rattle.command_laws.proofs.Agreeing.{agrees_on}
use Rattle.command_laws.proofs.NamingTells.{TellsOf}
use Rattle.command_laws.proofs.Onwards.{no_way}
use Rattle.command_laws.proofs.Parts.{facts}
use Rattle.command_laws.proofs.Printed.{due_told, no_line, told}
use Rattle.command_laws.proofs.Resting.{IsStill, calm_stopped, on_runs, rests_not, still, tick_regs, tick_runs, ticked_is}
use Rattle.command_laws.proofs.RestingTies.{either_still, rest_cases, rest_path, still_busy, tick_up}
use Rattle.command_laws.proofs.StopTells.{state_free, state_untold}

-- the state between events, with nothing told of the one that is under way
abbrev pub settled : State → State
settled s = record (told s) { event = Untold }

-- where nothing is due an event may print nothing
may_end : (s : State) → due s ≡ machine.Idle → end_rule (told s) ≡ None
unfolding end_rule engine_may_pass
may_end s e = ap (λ d. unless (may_pass (told s) d) 14) (due_told s ∙ e)

pub due_settled : (s : State) → due (settled s) ≡ due s
unfolding due
due_settled s = refl

-- it tells of counted completions where the engine is idle
ended_idle : (s : State) (ticks : Bool) → due s ≡ machine.Idle → ((is_running s.stop && may_tick s.recovery) && nat_lt 0 s.count) ≡ ticks
    → ended (told s) ≡ cond ticks (record (settled s) { notice = true; count = 0 }) (settled s)
unfolding ended engine_step
ended_idle s ticks e f =
    let u = settled s in
    ap (passed u) (due_settled s ∙ e)
    ∙ ap (λ d. cond ((is_none_due d && (is_running s.stop && may_tick s.recovery)) && nat_lt 0 s.count) (record u { notice = true; count = 0 }) u) (due_settled s ∙ e)
    ∙ ap (λ b. cond b (record u { notice = true; count = 0 }) u) f

stop_same : (p q : PathState) (cause : Option Cause) → q.driver ≡ p.driver → stop_by q cause ≡ stop_by p cause
stop_same p q None e = refl
stop_same p q (Some Dark) e = refl
stop_same p q (Some (BusFault kind None)) e = refl
stop_same p q (Some (BusFault kind (Some tag))) e = ap (λ d. stop.Bus (holder_of d.requests.holders tag)) e
stop_same p q (Some (Response word tag)) e = ap (λ d. stop_by_word (error_of word) (holder_of d.requests.holders tag)) e

rest_state : (p : PathState) (o : OrderState) (c : Context) (interrupts counter : ℕ) → under_way p ≡ None
    → state_of (rest_path p (record p.regs { interrupts = interrupts; coalescing = record p.regs.coalescing { counter = counter } })) o c
    ≡ record (settled (state_of p o c)) { notice = cond (is_free p.driver.recovery) false (has_bit interrupts 1); count = counter }
unfolding state_of tasks_of data_of
rest_state p o c interrupts counter way =
    let q = rest_path p (record p.regs { interrupts = interrupts; coalescing = record p.regs.coalescing { counter = counter } }) in
    let at : ℕ → Stop → State = λ spent stop. record (state_of p o c) {
      notice = cond (is_free p.driver.recovery) false (has_bit interrupts 1);
      count = counter;
      spent = spent;
      stop = stop;
    } in
    let idle : is_busy p ≡ false = ap is_some way in
    ap (λ x. at x (stop_of q)) (ap (λ b. cond b (moved q + 1) 0) idle ∙ sym (ap (λ b. cond b (moved p + 1) 0) idle))
    ∙ ap (λ x. at (spent_of p) (cond (is_recovering p.driver.recovery) stop.Running (cond p.regs.stopped x stop.Running))) (stop_same p q p.engine.cause refl)

-- the engine rests only where it is halted or has stopped
after_no_rest : (served high ready sent : Option ℕ)
    → Rest ≢ option_map_or Serve served (option_map_or Execute high (option_map_or Execute ready (option_map_or (λ _. Poll) sent Tick)))
after_no_rest (Some slot) high ready sent e = cc e
after_no_rest None (Some slot) ready sent e = cc e
after_no_rest None None (Some slot) sent e = cc e
after_no_rest None None None (Some slot) e = cc e
after_no_rest None None None None e = cc e

phase_no_rest : (slot moved : ℕ) (more : Bool) → Rest ≢ cond more (Block slot moved) (Close slot)
phase_no_rest slot moved true e = cc e
phase_no_rest slot moved false e = cc e

off_by : (held : Places) (regs : Registers) (memory : Memory) (resting : Bool) (active named : Option ℕ)
    → MatchOption (cond resting (Some Rest) (option_map_or (λ slot. Some (next_of_phase held slot)) active (option_map Address named)))
    (IsDueThen held regs memory Rest) (λ first. Rest ≡ first)
    → resting ≡ true
off_by held regs memory true active named is = refl
off_by held regs memory false (Some slot) named is = absurd (phase_no_rest slot (moved_of held slot) (nat_lt (moved_of held slot) (blocks_of held slot)) is)
off_by held regs memory false None (Some slot) is = absurd (cc is)
off_by held regs memory false None None is =
    absurd (after_no_rest is.served (first_high held regs.ring) (first_at Ready regs.ring) (first_at Sent regs.ring) is.is)

rest_off : (held : Places) (regs : Registers) (memory : Memory) → IsDue held regs memory Rest → rests regs ≡ true
rest_off held regs memory is = off_by held regs memory (rests regs) (first_at Active regs.ring) (first_at Named regs.ring) is

word_stops : (why : Option Ending) (id : Option ℕ) → is_running (stop_by_word why id) ≡ false
word_stops None id = refl
word_stops (Some FlashEnding) None = refl
word_stops (Some FlashEnding) (Some id) = refl
word_stops (Some RangeEnding) None = refl
word_stops (Some RangeEnding) (Some id) = refl
word_stops (Some Retry) id = refl
word_stops (Some BusEnding) id = refl

cause_stops : (p : PathState) (cause : Option Cause) → is_running (stop_by p cause) ≡ false
cause_stops p None = refl
cause_stops p (Some Dark) = refl
cause_stops p (Some (BusFault kind None)) = refl
cause_stops p (Some (BusFault kind (Some tag))) = refl
cause_stops p (Some (Response word tag)) = word_stops (error_of word) (holder_of p.driver.requests.holders tag)

and_no : (b : Bool) → (b && false) ≡ false
and_no true = refl
and_no false = refl

-- an engine that rests tells of nothing
quiet_by : (p : PathState) (state : RecoveryState) → p.driver.recovery ≡ state → IsAt state p.regs → AreTied p → rests p.regs ≡ true
    → (is_running (stop_of p) && may_tick (recovery_of p.driver.recovery)) ≡ false
quiet_by p driver.Calm e at t off =
    ap (λ state. is_running (cond (is_recovering state) stop.Running (cond p.regs.stopped (stop_by p p.engine.cause) stop.Running)) && may_tick (recovery_of state)) e
    ∙ ap (λ b. is_running (cond b (stop_by p p.engine.cause) stop.Running) && true) (calm_stopped p t e off)
    ∙ ap (λ b. b && true) (cause_stops p p.engine.cause)
quiet_by p driver.Halted e at t off = ap (λ state. is_running (stop_of p) && may_tick (recovery_of state)) e ∙ and_no (is_running (stop_of p))
quiet_by p driver.Cleared e at t off = ap (λ state. is_running (stop_of p) && may_tick (recovery_of state)) e ∙ and_no (is_running (stop_of p))
quiet_by p driver.Discarded e at t off = ap (λ state. is_running (stop_of p) && may_tick (recovery_of state)) e ∙ and_no (is_running (stop_of p))
quiet_by p driver.Cleaned e at t off = ap (λ state. is_running (stop_of p) && may_tick (recovery_of state)) e ∙ and_no (is_running (stop_of p))
quiet_by p driver.Resumed e at t off = absurd (true≢false (sym off ∙ on_runs p t at.halted at.running))

-- and one that ticks runs
runs_by : (p : PathState) (state : RecoveryState) → p.driver.recovery ≡ state → IsAt state p.regs → AreTied p → (p.regs.halted ≡ true → ⊥) → p.regs.stopped ≡ false
    → (is_running (stop_of p) && may_tick (recovery_of p.driver.recovery)) ≡ true
runs_by p driver.Calm e at t runs on =
    ap (λ state. is_running (cond (is_recovering state) stop.Running (cond p.regs.stopped (stop_by p p.engine.cause) stop.Running)) && may_tick (recovery_of state)) e
    ∙ ap (λ b. is_running (cond b (stop_by p p.engine.cause) stop.Running) && true) on
runs_by p driver.Halted e at t runs on = absurd (runs at)
runs_by p driver.Cleared e at t runs on = absurd (runs at.halted)
runs_by p driver.Discarded e at t runs on = absurd (runs at.halted)
runs_by p driver.Cleaned e at t runs on = absurd (runs at.cleared.halted)
runs_by p driver.Resumed e at t runs on =
    ap (λ state. is_running (cond (is_recovering state) stop.Running (cond p.regs.stopped (stop_by p p.engine.cause) stop.Running)) && may_tick (recovery_of state)) e

-- what nothing was sent in is told by no line
rest_told : (p : PathState) (a : ArrayState) (o : OrderState) (c : Context) (regs : Registers) (ticks : Bool) → AreTied (rest_path p regs) → under_way p ≡ None
    → regs.ring ≡ p.regs.ring → regs.stopped ≡ p.regs.stopped → Agrees p a c → due (state_of p o c) ≡ machine.Idle
    → ((is_running (state_of p o c).stop && may_tick (state_of p o c).recovery) && nat_lt 0 (state_of p o c).count) ≡ ticks
    → state_of (rest_path p regs) o c ≡ cond ticks (record (settled (state_of p o c)) { notice = true; count = 0 }) (settled (state_of p o c))
    → Told EngineActs (state_of p o c) [] (rest_path p regs) o a
rest_told p a o c regs ticks tq way ring stopped g d e state =
    let q = rest_path p regs in
    let W : Bool → List Ringed → Type 0 = λ b r. cond b None (first_at Active r) ≡ None in
    let calm : under_way q ≡ None = subst (λ b. W b regs.ring) (sym stopped) (subst (λ r. W p.regs.stopped r) (sym ring) way) in
    let stops : stop_of q ≡ stop_of p =
    ap (λ b. cond (is_recovering p.driver.recovery) stop.Running (cond b (stop_by q p.engine.cause) stop.Running)) stopped
    ∙ ap (λ x. cond (is_recovering p.driver.recovery) stop.Running (cond p.regs.stopped x stop.Running)) (stop_same p q p.engine.cause refl) in
    record {
      context = c;
      agrees =
          agrees_on p q.engine regs q.card p.script a c c.n c.named g tq way calm refl (g.number ∙ ap (λ w. sent_of (is_some w) c.n) way)
          (record {
            long = g.named.long;
            waiting = g.named.waiting;
            issued = λ tag id is. g.named.issued tag id is ∙ ap (λ s. min (faults_of p.driver.requests id + names s id) 4) (sym stops);
          });
      happens =
          no_line (state_of p o c) (state_of q o c) (state_free p o c) (state_untold p o c) (may_end (state_of p o c) d)
          (state ∙ sym (ended_idle (state_of p o c) ticks d e));
    }

-- its parts
stop_part : (p : PathState) (o : OrderState) (c : Context) (ticks : Bool)
    → ((is_running (stop_of p) && may_tick (recovery_of p.driver.recovery)) && nat_lt 0 p.regs.coalescing.counter) ≡ ticks
    → ((is_running (state_of p o c).stop && may_tick (state_of p o c).recovery) && nat_lt 0 (state_of p o c).count) ≡ ticks
unfolding state_of
stop_part p o c ticks e = e

same_settled : (p : PathState) (o : OrderState) (c : Context)
    → record (settled (state_of p o c)) { notice = notice_of p; count = p.regs.coalescing.counter } ≡ settled (state_of p o c)
unfolding state_of
same_settled p o c = refl

way_of : (p : PathState) → IsStill p → under_way p ≡ None
way_of p s = no_way p.regs (still_busy p.regs.stopped p.regs.ring s)

pub rest_tells : (p : PathState) (a : ArrayState) (p' : PathState) (a' : ArrayState) (did : Did) (phase : Option Phase) (e : EngineEvent p a p' a' did phase)
    → e.event.acts.due ≡ Rest → AreTied p → StateLaws → TellsOf p a p' a' did phase
rest_tells p a p' a' did phase e is t laws =
    let f = facts p a p' a' did phase e Rest is in
    let s = still p Rest t f.is_due (inl refl) in
    let off = rest_off (remembered p.engine.held p.regs) p.regs p.memory f.is_due in
    let way = way_of p s in
    rest_cases (TellsOf p a) p a p' a' did phase Rest e f refl p.regs s refl refl f.does.0 f.does.1
    (λ x tq o c g.
    rest_told p a o c p.regs false tq way refl refl g ((laws.engine p o c t g.number).command Rest f.is_due)
    (stop_part p o c false (ap (λ b. b && nat_lt 0 p.regs.coalescing.counter) (quiet_by p p.driver.recovery refl t.recovery_at t off)))
    (rest_state p o c p.regs.interrupts p.regs.coalescing.counter way ∙ same_settled p o c))

tick_part : (ticks : Bool) (counter : ℕ) → (counter == 0) ≡ not ticks → nat_lt 0 counter ≡ ticks
tick_part true counter e = grind (arith, nat_tests, e)
tick_part false counter e = grind (arith, nat_tests, e)

tick_told : (p : PathState) (a : ArrayState) (o : OrderState) (c : Context) (none : Bool) → (p.regs.coalescing.counter == 0) ≡ none → AreTied p
    → AreTied (rest_path p (cond none p.regs (tick_regs p.regs))) → under_way p ≡ None → is_free p.driver.recovery ≡ false → Agrees p a c
    → due (state_of p o c) ≡ machine.Idle → (is_running (stop_of p) && may_tick (recovery_of p.driver.recovery)) ≡ true
    → Told EngineActs (state_of p o c) [] (rest_path p (cond none p.regs (tick_regs p.regs))) o a
tick_told p a o c true e t tq way free g d on =
    rest_told p a o c p.regs false tq way refl refl g d
    (stop_part p o c false (ap (λ b. b && nat_lt 0 p.regs.coalescing.counter) on ∙ tick_part false p.regs.coalescing.counter e))
    (rest_state p o c p.regs.interrupts p.regs.coalescing.counter way ∙ same_settled p o c)
tick_told p a o c false e t tq way free g d on =
    let up : cond (is_free p.driver.recovery) false (has_bit (tick_regs p.regs).interrupts 1) ≡ true =
    ap (λ b. cond b false (has_bit (tick_regs p.regs).interrupts 1)) free ∙ ap (λ word. has_bit word 1) (tick_up p t) in
    rest_told p a o c (tick_regs p.regs) true tq way refl refl g d
    (stop_part p o c true (ap (λ b. b && nat_lt 0 p.regs.coalescing.counter) on ∙ tick_part true p.regs.coalescing.counter e))
    (rest_state p o c (tick_regs p.regs).interrupts 0 way ∙ ap (λ b. record (settled (state_of p o c)) { notice = b; count = 0 }) up)

pub tick_tells : (p : PathState) (a : ArrayState) (p' : PathState) (a' : ArrayState) (did : Did) (phase : Option Phase) (e : EngineEvent p a p' a' did phase)
    → e.event.acts.due ≡ Tick → AreTied p → StateLaws → TellsOf p a p' a' did phase
tick_tells p a p' a' did phase e is t laws =
    let f = facts p a p' a' did phase e Tick is in
    let s = still p Tick t f.is_due (inr refl) in
    let way = way_of p s in
    let free = tick_runs p t f.is_due in
    let off = ((tick_exactly (remembered p.engine.held p.regs) p.regs p.memory Tick t.regs.ring f.is_due).0 refl).0 in
    let on = runs_by p p.driver.recovery refl t.recovery_at t (rests_not p off).0 (rests_not p off).1 in
    let regs = cond (p.regs.coalescing.counter == 0) p.regs (tick_regs p.regs) in
    let k = either_still p (p.regs.coalescing.counter == 0) t free in
    let X : Registers → Type 0 =
    λ r. Silent (behind_path p a) (behind f.card a' p'.script) (outcome_of did f.held p'.regs) (outcome_of DidNothing (remembered p.engine.held p.regs) r) in
    rest_cases (TellsOf p a) p a p' a' did phase Tick e f refl regs s k.ring k.stopped (subst X (ticked_is p t) f.does.0) f.does.1
    (λ x tq o c g.
    tick_told p a o c (p.regs.coalescing.counter == 0) refl t tq way free g ((laws.engine p o c t g.number).command Tick f.is_due) on)
