-- The lines of CMD48 of a recovery.
use Rattle.std.proofs.Common.{◌≡◌, ◌≢◌, ◌∙◌, ◌||◌, ℕ, Bool, true, false, cond, not, Option, None, Some, option_map, length, refl, ap, sym, subst, eq-eqb, if◌then◌else◌}
use Rattle.std.proofs.lemmas.Bool.{false≢true}
use Rattle.storage_model.specs.declared.faults.BusKind.{BusKind}
use Rattle.storage_model.specs.declared.faults.BusKind.TheVariants.{Lost, NoResp, Bad, Late}
use Rattle.storage_model.specs.declared.faults.Hit.{Hit}
use Rattle.storage_model.specs.declared.faults.Letter.TheVariants.{Host as HostActs}
use Rattle.storage_machine.specs.Commands.{due, execute_blocks, hit, is_calm, is_gone, is_kind, met, meets, next_number}
use Rattle.storage_machine.specs.Host.{has_work}
use Rattle.storage_machine.specs.declared.commands.DueCommand.{DueCommand}
use Rattle.storage_machine.specs.declared.commands.DueCommand.TheVariants as machine
use Rattle.storage_machine.specs.declared.state.Recovery.TheVariants.{Cleared}
use Rattle.storage_machine.specs.declared.state.State.{State}
use Rattle.storage_order.specs.Events.{Happens}
use Rattle.trace_effects.specs.Effects.{after_bus, after_discard, words_used}
use Rattle.trace_rules.specs.Lines.{is_heard, is_missed_now, is_poll}
use Rattle.array_edge.specs.Array.{ArrayState}
use Rattle.bus_link.specs.Hits.{befalls, fault_of, if_of_kind, raised}
use Rattle.bus_link.specs.Script.{Script, armed, struck}
use Rattle.card_core.specs.Card.{CardState}
use Rattle.cq_engine.specs.Outcome.{Holding}
use Rattle.cq_regs.specs.Slots.{has_bit}
use Rattle.cq_regs.specs.State.{Registers}
use Rattle.cq_schedule.specs.Held.{remembered}
use Rattle.cq_schedule.specs.Meaning.{IsDue, rests}
use Rattle.cq_schedule.specs.declared.rules.Due.TheVariants as engine
use Rattle.cut_order.specs.Order.{OrderState}
use Rattle.drv_core.specs.State.{is_recovering}
use Rattle.drv_core.specs.declared.act.Act.{Act}
use Rattle.drv_core.specs.declared.act.Act.TheVariants.{Step as Stepped}
use Rattle.drv_jobs.specs.Standings.{Standings}
use Rattle.drv_recover.specs.Recovery.{discard_queue}
use Rattle.drv_recover.specs.declared.recovery.RecoveryState.{RecoveryState}
use Rattle.drv_recover.specs.declared.recovery.RecoveryState.TheVariants as driver
use Rattle.drv_recover.specs.declared.recovery.Step.TheVariants.{Discard, Again}
use Rattle.host_mem.specs.Memory.{Memory}
use Rattle.task_queue.specs.Queue.{empty}
use Rattle.host_laws.proofs.Begun.{bus_happens, discard_happens}
use Rattle.host_laws.proofs.Paths.{path_at}
use Rattle.host_laws.proofs.Quiet.{agrees_quiet, not_busy}
use Rattle.host_laws.proofs.Recovered.{Discarding, cleared_at, done, missed, none_cleared, unheard}
use Rattle.host_laws.proofs.Recoveries.{event_at, named_at_place, owed_at, placed, recovery_at, running}
use Rattle.host_laws.proofs.TiesKept.{StepAt, answered_to, missed_to}
use Rattle.world_state.specs.Host.{HostEvent, host_lines}
use Rattle.world_state.specs.Laws.{StateLaws, next_fault}
use Rattle.world_state.specs.Path.{PathState, is_busy, under_way}
use Rattle.world_state.specs.Reading.{Context, data_of, recovery_of, state_of, tasks_of}
use Rattle.world_state.specs.Stands.{Agrees, sent_of}
use Rattle.world_state.specs.Ties.{AreTied}
use Rattle.world_state.specs.Told.{Tells}

-- the fault that befalls CMD48 is one that leaves no response, or none
lost_kind : (kind : BusKind) → cond (befalls kind discard_queue 0) (Some kind) None ≡ Some Lost → kind ≡ Lost
lost_kind Lost e = refl
lost_kind NoResp e = absurd (cc (e))
lost_kind (Bad block) e = absurd (cc (e))
lost_kind Late e = absurd (cc (e))

silent_kind : (kind : BusKind) → cond (befalls kind discard_queue 0) (Some kind) None ≡ Some NoResp → kind ≡ NoResp
silent_kind Lost e = absurd (cc (e))
silent_kind NoResp e = refl
silent_kind (Bad block) e = absurd (cc (e))
silent_kind Late e = absurd (cc (e))

heard_kind : (kind : BusKind) → cond (befalls kind discard_queue 0) (Some kind) None ≢ Some Lost → cond (befalls kind discard_queue 0) (Some kind) None ≢ Some NoResp
    → is_gone (Some kind) ≡ false
heard_kind Lost a b = absurd (a refl)
heard_kind NoResp a b = absurd (b refl)
heard_kind (Bad block) a b = refl
heard_kind Late a b = refl

lost_fault : (found : Option Hit) → if_of_kind found discard_queue 0 ≡ Some Lost → option_map (λ (h : Hit). h.kind) found ≡ Some Lost
lost_fault None e = absurd (cc (e))
lost_fault (Some h) e = ap Some (lost_kind h.kind e)

silent_fault : (found : Option Hit) → if_of_kind found discard_queue 0 ≡ Some NoResp → option_map (λ (h : Hit). h.kind) found ≡ Some NoResp
silent_fault None e = absurd (cc (e))
silent_fault (Some h) e = ap Some (silent_kind h.kind e)

heard_fault : (found : Option Hit) → if_of_kind found discard_queue 0 ≢ Some Lost → if_of_kind found discard_queue 0 ≢ Some NoResp
    → is_gone (option_map (λ (h : Hit). h.kind) found) ≡ false
heard_fault None a b = refl
heard_fault (Some h) a b = heard_kind h.kind a b

gone_if : (b : Bool) (kind : BusKind) → is_gone (Some kind) ≡ false → is_gone (cond b (Some kind) None) ≡ false
gone_if true kind e = e
gone_if false kind e = refl

met_heard : (blocks : Option ℕ) (kind : Option BusKind) → is_gone kind ≡ false → is_gone (met blocks kind) ≡ false
met_heard blocks None e = refl
met_heard blocks (Some kind) e = gone_if (meets blocks kind) kind e

met_lost : (blocks : Option ℕ) → met blocks (Some Lost) ≡ Some Lost
met_lost None = refl
met_lost (Some n) = refl

met_silent : (blocks : Option ℕ) → met blocks (Some NoResp) ≡ Some NoResp
met_silent None = refl
met_silent (Some n) = refl

-- what the laws say of the command
hit_now : (p : PathState) (o : OrderState) (c : Context) → StateLaws → AreTied p → under_way p ≡ None → p.script.sent ≡ sent_of (is_busy p) c.n
    → hit (state_of p o c) ≡ met (execute_blocks (state_of p o c) (due (state_of p o c))) (next_fault p)
hit_now p o c laws t none number = (laws.engine p o c t number).fault (not_busy p none)

rests_halted : (on halts stops : Bool) → halts ≡ true → (not on || (halts || stops)) ≡ true
rests_halted true true stops e = refl
rests_halted true false stops e = absurd (false≢true e)
rests_halted false halts stops e = refl

rest_due : (p : PathState) → rests p.regs ≡ true → IsDue (remembered p.engine.held p.regs) p.regs p.memory engine.Rest
rest_due p e = rw e refl

due_idle : (p : PathState) (o : OrderState) (c : Context) → StateLaws → AreTied p → p.regs.halted ≡ true → p.script.sent ≡ sent_of (is_busy p) c.n
    → due (state_of p o c) ≡ machine.Idle
due_idle p o c laws t halts number =
    (laws.engine p o c t number).command engine.Rest (rest_due p (rests_halted (has_bit p.regs.configuration 0) p.regs.halted p.regs.stopped halts))

work_recovering : (s : State) → is_calm s.recovery ≡ false → has_work s ≡ true
unfolding has_work
work_recovering s e = rw e refl

number_at : (p : PathState) (o : OrderState) (c : Context) → (state_of p o c).n ≡ c.n
unfolding state_of
number_at p o c = refl

-- the number of the line
number_is : (p : PathState) (o : OrderState) (c : Context) → under_way p ≡ None → p.script.sent ≡ sent_of (is_busy p) c.n → raised p.script.sent ≡ next_number (state_of p o c)
number_is p o c none number =
    ap raised (number ∙ (ap (λ b. sent_of b c.n) (not_busy p none) ∙ sym (number_at p o c)))

-- the machine's state after each answer
discarded_state : (r : Standings) (g : Registers) (m : Memory) (e : Holding) (k : CardState) (s : Script) (o : OrderState) (c : Context) (n depth : ℕ)
    → state_of (path_at r driver.Discarded g m e (record k { queue = empty depth; phase = None }) (armed s discard_queue 0)) o (record c { n = n; named = c.named })
    ≡ after_discard (state_of (path_at r driver.Cleared g m e k s) o c) n
unfolding state_of after_discard tasks_of data_of
discarded_state r g m e k s o c n depth = refl

missed_state : (r : Standings) (g : Registers) (m : Memory) (e : Holding) (k : CardState) (s : Script) (o : OrderState) (c : Context) (n : ℕ)
    → state_of (path_at r driver.Cleared g m e k (struck (armed s discard_queue 0))) o (record c { n = n; named = c.named })
    ≡ after_bus (state_of (path_at r driver.Cleared g m e k s) o c) n Lost None
unfolding state_of after_bus tasks_of data_of
missed_state r g m e k s o c n = refl

unheard_state : (r : Standings) (g : Registers) (m : Memory) (e : Holding) (k : CardState) (s : Script) (o : OrderState) (c : Context) (n depth : ℕ)
    → due (state_of (path_at r driver.Cleared g m e k s) o c) ≡ machine.Idle
    → state_of (path_at r driver.Cleared g m e (record k { queue = empty depth; phase = None }) (struck (armed s discard_queue 0))) o (record c { n = n; named = c.named })
    ≡ after_bus (state_of (path_at r driver.Cleared g m e k s) o c) n NoResp None
unfolding state_of after_bus tasks_of data_of
unheard_state r g m e k s o c n depth idle =
    let q : PathState = path_at r driver.Cleared g m e (record k { queue = empty depth; phase = None }) (struck (armed s discard_queue 0)) in
    let p : PathState = path_at r driver.Cleared g m e k s in
    ap (λ (d : DueCommand). record (state_of q o (record c { n = n; named = c.named })) { words = if is_poll d then words_used (state_of p o c) else s.used }) (sym idle)

-- what agrees after CMD48
agrees_asked : (p : PathState) (a : ArrayState) (c : Context) (state : RecoveryState) (card : CardState) (script : Script) → AreTied p → p.driver.recovery ≡ driver.Cleared
    → AreTied (path_at p.driver.requests state p.regs p.memory p.engine card script) → card.store ≡ p.card.store → is_recovering state ≡ true → Agrees p a c
    → Agrees (path_at p.driver.requests state p.regs p.memory p.engine card script) a (record c { n = script.sent; named = c.named })
agrees_asked p a c state card script t at t' store busy g =
    let none = none_cleared p (cleared_at p t at) in
    agrees_quiet p (path_at p.driver.requests state p.regs p.memory p.engine card script) a c script.sent c.named g none t' none store refl refl
    (named_at_place p state p.regs card script c.named (ap is_recovering at) (running (path_at p.driver.requests state p.regs p.memory p.engine card script) busy) g.named)

heard_is : (s : State) (n : ℕ) → n ≡ next_number s → is_gone (hit s) ≡ false → is_heard s n ≡ true
heard_is s n is heard = rw (eq-eqb n (next_number s) is, heard) refl

missed_is : (s : State) (n : ℕ) (kind : BusKind) → n ≡ next_number s → is_gone (Some kind) ≡ true → is_kind (hit s) kind ≡ true → s.recovery ≡ Cleared
    → is_missed_now s n kind None ≡ true
missed_is s n kind is gone same at = rw (eq-eqb n (next_number s) is, gone, same, at) refl

-- one told event, with its path and its line
pub tells_discard : (p : PathState) (a : ArrayState) (p' : PathState) (a' : ArrayState) (act : Act) → StateLaws → HostEvent p a p' a' act → AreTied p → AreTied p'
    → p.driver.recovery ≡ driver.Cleared → (r : StepAt p a p' a' act driver.Cleared) → Discarding p a p' a' r.step → Tells HostActs p a (host_lines p p' act) p' a'
tells_discard p a p' a' act laws e t t' at r (done not_lost not_silent told card script array) o c g =
    let none = none_cleared p (cleared_at p t at) in
    let s = state_of p o c in
    let q = path_at p.driver.requests driver.Discarded p.regs p.memory p.engine (record p.card { queue = empty (length p.card.queue.slots); phase = None }) (armed p.script discard_queue 0) in
    let to : p' ≡ q = answered_to p a p' a' act _ _ e r told card script in
    let n = raised p.script.sent in
    let recovery : s.recovery ≡ Cleared = recovery_at p o c ∙ ap recovery_of at in
    let hit_is = hit_now p o c laws t none g.number in
    let heard = ap is_gone hit_is ∙ met_heard (execute_blocks s (due s)) (next_fault p) (heard_fault (fault_of p.script.hits n) not_lost not_silent) in
    record {
      context = record c { n = n; named = c.named };
      agrees = subst (λ (x : ArrayState). Agrees p' x (record c { n = n; named = c.named })) (sym array)
          (subst (λ (x : PathState). Agrees x a (record c { n = n; named = c.named })) (sym to)
          (agrees_asked p a c driver.Discarded (record p.card { queue = empty (length p.card.queue.slots); phase = None }) (armed p.script discard_queue 0) t at (subst AreTied to t') refl refl g));
      happens = subst (λ items. Happens s HostActs items (state_of p' o (record c { n = n; named = c.named })))
          (sym (ap (host_lines p p') (r.told ∙ ap Stepped told) ∙ ap (λ (x : PathState). host_lines p x (Stepped Discard)) to))
          (discard_happens s (state_of p' o (record c { n = n; named = c.named })) n (owed_at p o c) (event_at p o c) recovery
          (work_recovering s (ap is_calm recovery)) (heard_is s n (number_is p o c none g.number) heard)
          (ap (λ x. state_of x o (record c { n = n; named = c.named })) to
          ∙ (discarded_state p.driver.requests p.regs p.memory p.engine p.card p.script o c n (length p.card.queue.slots)
          ∙ ap (λ x. after_discard (state_of x o c) n) (sym (placed p driver.Cleared at)))));
    }
tells_discard p a p' a' act laws e t t' at r (missed hit_at told card script array) o c g =
    let none = none_cleared p (cleared_at p t at) in
    let s = state_of p o c in
    let q = path_at p.driver.requests driver.Cleared p.regs p.memory p.engine p.card (struck (armed p.script discard_queue 0)) in
    let to : p' ≡ q = missed_to p a p' a' act Lost _ _ e r told card script in
    let n = raised p.script.sent in
    let recovery : s.recovery ≡ Cleared = recovery_at p o c ∙ ap recovery_of at in
    let hit_is : hit s ≡ Some Lost =
    hit_now p o c laws t none g.number ∙ (ap (met (execute_blocks s (due s))) (lost_fault (fault_of p.script.hits n) hit_at) ∙ met_lost (execute_blocks s (due s))) in
    record {
      context = record c { n = n; named = c.named };
      agrees = subst (λ (x : ArrayState). Agrees p' x (record c { n = n; named = c.named })) (sym array)
          (subst (λ (x : PathState). Agrees x a (record c { n = n; named = c.named })) (sym to)
          (agrees_asked p a c driver.Cleared p.card (struck (armed p.script discard_queue 0)) t at (subst AreTied to t') refl refl g));
      happens = subst (λ items. Happens s HostActs items (state_of p' o (record c { n = n; named = c.named })))
          (sym (ap (host_lines p p') (r.told ∙ ap Stepped told) ∙ ap (λ (x : PathState). host_lines p x (Stepped (Again Lost))) to))
          (bus_happens s (state_of p' o (record c { n = n; named = c.named })) n Lost (owed_at p o c) (event_at p o c) recovery
          (work_recovering s (ap is_calm recovery)) (missed_is s n Lost (number_is p o c none g.number) refl (ap (λ h. is_kind h Lost) hit_is) recovery)
          (ap (λ x. state_of x o (record c { n = n; named = c.named })) to
          ∙ (missed_state p.driver.requests p.regs p.memory p.engine p.card p.script o c n
          ∙ ap (λ x. after_bus (state_of x o c) n Lost None) (sym (placed p driver.Cleared at)))));
    }
tells_discard p a p' a' act laws e t t' at r (unheard hit_at told card script array) o c g =
    let cleared = cleared_at p t at in
    let none = none_cleared p cleared in
    let s = state_of p o c in
    let q = path_at p.driver.requests driver.Cleared p.regs p.memory p.engine (record p.card { queue = empty (length p.card.queue.slots); phase = None }) (struck (armed p.script discard_queue 0)) in
    let to : p' ≡ q = missed_to p a p' a' act NoResp _ _ e r told card script in
    let n = raised p.script.sent in
    let recovery : s.recovery ≡ Cleared = recovery_at p o c ∙ ap recovery_of at in
    let hit_is : hit s ≡ Some NoResp =
    hit_now p o c laws t none g.number ∙ (ap (met (execute_blocks s (due s))) (silent_fault (fault_of p.script.hits n) hit_at) ∙ met_silent (execute_blocks s (due s))) in
    let from = placed p driver.Cleared at in
    let idle = due_idle p o c laws t cleared.halted g.number in
    record {
      context = record c { n = n; named = c.named };
      agrees = subst (λ (x : ArrayState). Agrees p' x (record c { n = n; named = c.named })) (sym array)
          (subst (λ (x : PathState). Agrees x a (record c { n = n; named = c.named })) (sym to)
          (agrees_asked p a c driver.Cleared (record p.card { queue = empty (length p.card.queue.slots); phase = None }) (struck (armed p.script discard_queue 0)) t at (subst AreTied to t') refl refl g));
      happens = subst (λ items. Happens s HostActs items (state_of p' o (record c { n = n; named = c.named })))
          (sym (ap (host_lines p p') (r.told ∙ ap Stepped told) ∙ ap (λ (x : PathState). host_lines p x (Stepped (Again NoResp))) to))
          (bus_happens s (state_of p' o (record c { n = n; named = c.named })) n NoResp (owed_at p o c) (event_at p o c) recovery
          (work_recovering s (ap is_calm recovery)) (missed_is s n NoResp (number_is p o c none g.number) refl (ap (λ h. is_kind h NoResp) hit_is) recovery)
          (ap (λ x. state_of x o (record c { n = n; named = c.named })) to
          ∙ (unheard_state p.driver.requests p.regs p.memory p.engine p.card p.script o c n (length p.card.queue.slots) (ap (λ x. due (state_of x o c)) (sym from) ∙ idle)
          ∙ ap (λ x. after_bus (state_of x o c) n NoResp None) (sym from))));
    }
