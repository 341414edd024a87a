-- What a direct command tells that was lost on the bus.
use Rattle.std.proofs.Common.{◌≡◌, ◌<◌, ◌+◌, ◌++◌, ◌==◌, ◌&&◌, ℕ, refl, sym, ◌∙◌, ap, subst}
use Rattle.std.specs.Prelude.{Bool, true, false, not, cond, Option, Some, None, IfSome, is_some, length, List, [], ◌∷◌}
use Rattle.std.specs.List.{find}
use Rattle.std.specs.Option.{option_map}
use Rattle.std.proofs.lemmas.Bool.{and_right, eq-eqb, false≢true, or_left, or_right}
use Rattle.std.proofs.lemmas.Option.{none-some, same_Some}
use Rattle.array_edge.specs.Array.{ArrayState}
use Rattle.bus_link.specs.Hits.{befalls, if_of_kind, raised}
use Rattle.bus_link.specs.Script.{Script}
use Rattle.bus_link.specs.declared.link.Cause.TheVariants.{Bus as BusFault}
use Rattle.card_core.specs.Card.{CardState}
use Rattle.cmd_words.specs.declared.command.Command.{Command}
use Rattle.cq_engine.specs.Outcome.{Holding}
use Rattle.cq_schedule.specs.Held.{remembered}
use Rattle.cq_schedule.specs.Meaning.{IsDue}
use Rattle.cq_schedule.specs.declared.rules.Due.TheVariants.{Serve}
use Rattle.cut_order.specs.Order.{OrderState}
use Rattle.drv_core.specs.State.{is_recovering}
use Rattle.drv_recover.specs.declared.recovery.RecoveryState.TheVariants as driver
use Rattle.storage_machine.specs.Commands.{due, execute_blocks, hit, id_on, is_calm, is_kind, met, next_number}
use Rattle.storage_machine.specs.Cuts.{least}
use Rattle.storage_machine.specs.declared.commands.DueCommand.TheVariants as machine
use Rattle.storage_machine.specs.declared.state.Event.TheVariants.{Untold}
use Rattle.storage_machine.specs.declared.state.Owed.TheVariants.{Nothing}
use Rattle.storage_machine.specs.declared.state.Recovery.{Recovery}
use Rattle.storage_machine.specs.declared.state.Recovery.TheVariants as recovery
use Rattle.storage_machine.specs.declared.state.State.{State}
use Rattle.storage_machine.specs.declared.state.Stop.{Stop}
use Rattle.storage_machine.specs.declared.state.Stop.TheVariants as stop
use Rattle.storage_model.specs.declared.faults.BusKind.TheVariants.{Lost}
use Rattle.storage_model.specs.declared.faults.Hit.{Hit}
use Rattle.storage_model.specs.declared.faults.Letter.TheVariants.{Engine as EngineActs}
use Rattle.storage_model.specs.declared.trace.Item.TheVariants.{Bus as BusLine}
use Rattle.storage_order.specs.Events.{Fits, Happens, is_untold}
use Rattle.trace_effects.specs.Effects.{after_bus, begun, effect, named_more}
use Rattle.trace_rules.specs.Lines.{bus_holds, holds, is_free, is_missed, is_target, line_rule, owing_past}
use Rattle.world_state.specs.Laws.{StateLaws, command_due, next_fault, served_by}
use Rattle.intent_store.specs.Intent.{shown_by}
use Rattle.storage_model.specs.declared.block.Block.{Block}
use Rattle.storage_model.specs.declared.marks.Mark.{Mark}
use Rattle.trace_effects.specs.Cuts.{places_of}
use Rattle.world_state.specs.Path.{PathState, is_busy, moved, plan_of, under_way}
use Rattle.world_state.specs.Reading.{Context, data_of, recovery_of, spent_of, state_of, stop_by, stop_of, tasks_of}
use Rattle.world_state.specs.Stands.{contents_of, marks_moved_by, sent_of}
use Rattle.world_state.specs.Ties.{AreTied}
use Rattle.card_store.specs.Store.{Contents, Stands as StoreStands}
use Rattle.phase_laws.proofs.Directs.{InService}
use Rattle.phase_laws.proofs.Moves.{TellsSo, free_is, id_is, untold_is}
use Rattle.phase_laws.proofs.Parts.{KeepsScript}
use Rattle.phase_laws.proofs.Phased.{told, told_due, told_hit}
use Rattle.phase_laws.proofs.Stopping.{bus_named, stop_regs, stopped_path}

-- ---- the machine

abbrev lost_by : State → ℕ → ℕ → State
lost_by s n id = record s { n = n; named = named_more s.named (Some id); stop = stop.Bus (Some id); owed = Nothing; event = Untold }

is_calm_so : (r : Recovery) → is_calm r ≡ true → r ≡ recovery.Calm
is_calm_so recovery.Calm e = refl
is_calm_so recovery.Halted e = absurd (false≢true e)
is_calm_so recovery.Cleared e = absurd (false≢true e)
is_calm_so recovery.Discarded e = absurd (false≢true e)
is_calm_so recovery.Cleaned e = absurd (false≢true e)
is_calm_so recovery.Resumed e = absurd (false≢true e)

lost_fits : (s : State) (slot n id : ℕ) → is_calm s.recovery ≡ true → due s ≡ machine.Direct slot → hit s ≡ Some Lost → n ≡ next_number s
    → (id_on s slot == id) ≡ true → Fits (told s) (BusLine n Lost (Some id))
unfolding line_rule holds bus_holds
lost_fits s slot n id calm is lost number own =
    let rest : Option ℕ = least (owing_past (told s) (BusLine n Lost (Some id))) 6 in
    record {
      line =
          ap (λ b. cond (b && (is_kind (hit (told s)) Lost && is_missed (told s) Lost (Some id) s.recovery)) None rest) (eq-eqb n (next_number s) number)
          ∙ ap (λ k. cond (is_kind k Lost && is_missed (told s) Lost (Some id) s.recovery) None rest) (told_hit s ∙ lost)
          ∙ ap (λ r. cond (is_missed (told s) Lost (Some id) r) None rest) (is_calm_so s.recovery calm)
          ∙ ap (λ d. cond (is_target (told s) Lost (Some id) d) None rest) (told_due s ∙ is)
          ∙ ap (λ b. cond (b && true) None rest) own;
      stands = or_right false (is_calm s.recovery) calm;
      first = or_left (is_calm s.recovery) _ calm;
    }

lost_effect : (s : State) (n id : ℕ) → is_calm s.recovery ≡ true → lost_by s n id ≡ effect (told s) (BusLine n Lost (Some id))
unfolding effect after_bus
lost_effect s n id calm = sym (ap (λ b. record (lost_by s n id) { stop = cond b (stop.Bus (Some id)) s.stop }) calm)

lost_happens : (s : State) (slot n id : ℕ) → is_free s.owed ≡ true → is_untold s.event ≡ true → is_calm s.recovery ≡ true → due s ≡ machine.Direct slot
    → hit s ≡ Some Lost → n ≡ next_number s → (id_on s slot == id) ≡ true → Happens s EngineActs (BusLine n Lost (Some id) ∷ []) (lost_by s n id)
unfolding begun
lost_happens s slot n id free untold calm is lost number own = record {
  free = free;
  untold = untold;
  makes = record {
    last = lost_by s n id;
    begins = record {
      told = refl;
      first = lost_fits s slot n id calm is lost number own;
      phase = ap not (and_right s.busy false refl);
      more = lost_effect s n id calm;
    };
    over = refl;
    event = refl;
    state = refl;
  };
}

-- ---- the path

lost_met : (o : Option Hit) (command : Command) (blocks : ℕ) → if_of_kind o command blocks ≡ Some Lost → met None (option_map (λ fault. fault.kind) o) ≡ Some Lost
lost_met None command blocks e = absurd (none-some Lost e)
lost_met (Some hit) command blocks e = by_kind (befalls hit.kind command blocks) e
  where
    by_kind : (here : Bool) → cond here (Some hit.kind) None ≡ Some Lost → met None (Some hit.kind) ≡ Some Lost
    by_kind true e = ap (λ k. met None (Some k)) (same_Some hit.kind Lost e)
    by_kind false e = absurd (none-some Lost e)

state_lost : (p : PathState) (w x y z : ℕ) (g : Holding) (c : CardState) (s : Script) (o : OrderState) (k : Context) (n : ℕ) (named : List ℕ) (halt : Stop)
    → KeepsScript p.script s → p.driver.recovery ≡ driver.Calm → under_way p ≡ None
    → stop_by (stopped_path p (stop_regs p w x y z) g c s) g.cause ≡ halt → c.store.cache.last ≡ p.card.store.cache.last
    → state_of (stopped_path p (stop_regs p w x y z) g c s) o (record k { n = n; named = named })
    ≡ record (state_of p o k) { n = n; named = named; stop = halt }
unfolding state_of tasks_of data_of
state_lost p w x y z g c s o k n named halt lines calm way why bars =
    let q : PathState = stopped_path p (stop_regs p w x y z) g c s in
    let b : State = state_of p o k in
    let F : List Hit → List ℕ → ℕ → ℕ → Stop → Bool → ℕ → State =
    λ hits ready used last h busy spent. record b {
      n = n;
      named = named;
      stop = h;
      faults = record b.faults { ready = ready; bus = hits };
      words = used;
      bars = last;
      busy = busy;
      spent = spent;
    } in
    let stops : stop_of q ≡ halt = ap (λ state. cond (is_recovering state) stop.Running (stop_by q g.cause)) calm ∙ why in
    let idle : false ≡ is_busy p = sym (ap is_some way) in
    let none : 0 ≡ spent_of p = ap (λ v. cond v (moved p + 1) 0) idle in
    ap (λ v. F v s.ready s.used c.store.cache.last (stop_of q) false 0) lines.hits
    ∙ ap (λ v. F p.script.hits v s.used c.store.cache.last (stop_of q) false 0) lines.ready
    ∙ ap (λ v. F p.script.hits p.script.ready v c.store.cache.last (stop_of q) false 0) lines.used
    ∙ ap (λ v. F p.script.hits p.script.ready p.script.used v (stop_of q) false 0) bars
    ∙ ap (λ v. F p.script.hits p.script.ready p.script.used p.card.store.cache.last v false 0) stops
    ∙ ap (λ v. F p.script.hits p.script.ready p.script.used p.card.store.cache.last halt v 0) idle
    ∙ ap (λ v. F p.script.hits p.script.ready p.script.used p.card.store.cache.last halt (is_busy p) v) none

named_so : (p : PathState) (o : OrderState) (k : Context) → (state_of p o k).named ≡ k.named
unfolding state_of
named_so p o k = refl

pub calm_so : (p : PathState) (o : OrderState) (k : Context) → p.driver.recovery ≡ driver.Calm → is_calm (state_of p o k).recovery ≡ true
unfolding state_of
calm_so p o k calm = ap (λ r. is_calm (recovery_of r)) calm

pub next_is : (p : PathState) (o : OrderState) (k : Context) → p.script.sent ≡ k.n → raised p.script.sent ≡ next_number (state_of p o k)
unfolding state_of
next_is p o k e = ap raised e

quiet_is : (p : PathState) (o : OrderState) (k : Context) (n : ℕ) (named : List ℕ) (halt : Stop)
    → record (state_of p o k) { n = n; named = named; stop = halt; owed = Nothing; event = Untold } ≡ record (state_of p o k) { n = n; named = named; stop = halt }
unfolding state_of
quiet_is p o k n named halt = refl

abbrev contents_with : List Block → List Mark → Contents
contents_with base pend = record { base = base; pend = pend }

pub lost_tells : (p : PathState) (a : ArrayState) (slot : ℕ) (i : InService p slot) (w x y z : ℕ) (g : Holding) (card : CardState) (s : Script)
    (a' : ArrayState) (command : Command) (blocks : ℕ) → AreTied p → AreTied (stopped_path p (stop_regs p w x y z) g card s) → StateLaws
    → p.regs.stopped ≡ false → slot < 32 → under_way p ≡ None → IsDue (remembered p.engine.held p.regs) p.regs p.memory (Serve slot)
    → if_of_kind (find (λ h. h.n == raised p.script.sent) p.script.hits) command blocks ≡ Some Lost → g.cause ≡ Some (BusFault Lost (Some slot))
    → KeepsScript p.script s → s.sent ≡ raised p.script.sent → card.store ≡ p.card.store → a' ≡ a
    → TellsSo EngineActs p a (BusLine (raised p.script.sent) Lost (Some i.id) ∷ []) (stopped_path p (stop_regs p w x y z) g card s) a'
lost_tells p a slot i w x y z g card s a' command blocks t t' laws going below way is_due lost cause lines sent store array o k h =
    let b : State = state_of p o k in
    let q : PathState = stopped_path p (stop_regs p w x y z) g card s in
    let n : ℕ = raised p.script.sent in
    let l = laws.engine p o k h.tied h.number in
    let idle : is_busy p ≡ false = ap is_some way in
    let number : p.script.sent ≡ k.n = h.number ∙ ap (λ v. sent_of v k.n) idle in
    let direct : command_due p (Serve slot) ≡ machine.Direct slot =
    ap (served_by p slot) i.is_held ∙ ap (λ v. cond v (machine.Direct slot) (machine.Params slot)) i.is_direct in
    let due_is : due b ≡ machine.Direct slot = l.command (Serve slot) is_due ∙ direct in
    let hit_is : hit b ≡ Some Lost =
    l.fault idle ∙ ap (λ d. met (execute_blocks b d) (next_fault p)) due_is
    ∙ lost_met (find (λ f. f.n == raised p.script.sent) p.script.hits) command blocks lost in
    let own : (id_on b slot == i.id) ≡ true = ap (λ v. v == i.id) (id_is p o k slot i.id below i.is_held) ∙ eq-eqb i.id i.id refl in
    let why : stop_by q g.cause ≡ stop.Bus (Some i.id) = ap (stop_by q) cause ∙ ap (λ v. stop.Bus v) i.is_held in
    let running : stop_of p ≡ stop.Running =
    ap (λ state. cond (is_recovering state) stop.Running (cond p.regs.stopped (stop_by p p.engine.cause) stop.Running)) i.calm
    ∙ ap (λ v. cond v (stop_by p p.engine.cause) stop.Running) going in
    let halt : stop_of q ≡ stop.Bus (Some i.id) = ap (λ state. cond (is_recovering state) stop.Running (stop_by q g.cause)) i.calm ∙ why in
    let named : List ℕ = named_more k.named (Some i.id) in
    let bare : contents_of q (record k { n = n; named = named }) ≡ contents_of p k = ap (λ v. contents_with k.base (k.pend ++ marks_moved_by p v)) (sym way) in
    let T : State → Type 0 = λ v. Happens b EngineActs (BusLine n Lost (Some i.id) ∷ []) v in
    record {
      context = record k { n = n; named = named };
      agrees = record {
        told = ap (λ v. is_some v.told) array ∙ h.told;
        tied = t';
        number = sent;
        named = bus_named p (stop_regs p w x y z) g card s k.named slot i.id t h.named running i.is_held halt;
        store =
            subst (λ v. StoreStands v card.store a') (sym bare)
            (subst (λ v. StoreStands (contents_of p k) v a') (sym store) (subst (λ v. StoreStands (contents_of p k) p.card.store v) (sym array) h.store));
        within = h.within;
        read = tt;
        few = h.few;
        deferred = λ through staged kept few.
            subst (λ v. IfSome (shown_by v) (λ pages. pages ≡ k.base)) (sym array)
            (h.deferred through staged kept (subst (λ v. length (places_of v.pend) < (plan_of p).lines) bare few));
      };
      happens =
          subst T
          (sym (state_lost p w x y z g card s o k n named (stop.Bus (Some i.id)) lines i.calm way why (ap (λ v. v.cache.last) store)
          ∙ sym (quiet_is p o k n named (stop.Bus (Some i.id)))))
          (subst (λ v. T (record b { n = n; named = named_more v (Some i.id); stop = stop.Bus (Some i.id); owed = Nothing; event = Untold })) (named_so p o k)
          (lost_happens b slot n i.id (free_is p o k) (untold_is p o k) (calm_so p o k i.calm) due_is hit_is (next_is p o k number) own));
    }
