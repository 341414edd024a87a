-- The events of host, engine, card and power as steps.
use Rattle.std.proofs.Common.{◌≡◌, ◌∙◌, ℕ, ◌++◌, inl, inr, Bool, true, false, List, [], ◌∷◌, Option, Result, Ok, Err, OnOk, refl, sym, ap, subst, append_assoc, true≢false}
use Rattle.storage_model.specs.declared.ends.Halt.{Halt}
use Rattle.storage_model.specs.declared.ends.Halt.TheVariants.{SinkFailed}
use Rattle.storage_model.specs.declared.faults.Letter.{Letter}
use Rattle.storage_model.specs.declared.faults.Letter.TheVariants.{Host as HostActs, Engine as EngineActs, Card as CardActs, Cut as PowerActs}
use Rattle.storage_model.specs.declared.trace.Item.{Item}
use Rattle.storage_model.specs.declared.trace.Item.TheVariants.{Cut}
use Rattle.storage_runs.specs.Runs.{Yields, begun_next, chosen}
use Rattle.io_edge.specs.Sink.{Joins}
use Rattle.array_edge.specs.Array.{ArrayState}
use Rattle.card_core.specs.declared.phase.Phase.{Phase}
use Rattle.card_store.specs.declared.ends.StageEnd.{StageEnd}
use Rattle.card_store.specs.declared.ends.StageEnd.TheVariants.{Empty, Flash, PowerLost}
use Rattle.cause_laws.specs.Causes.{Explains}
use Rattle.cause_laws.specs.Falls.{StepsFall}
use Rattle.cq_engine.specs.declared.did.Did.{Did}
use Rattle.drv_core.specs.declared.act.Act.{Act}
use Rattle.fall_laws.specs.Falls.{IsAnew, ScriptGoesOn}
use Rattle.join_laws.specs.Joins.{DarkIn, OwnLines, before, within}
use Rattle.power_laws.specs.Power.{CardEvent, CardStep, card_lines, is_lost, phase_cut}
use Rattle.power_step.specs.Loses.{IsBackOn}
use Rattle.trace_print.specs.Prints.{HasCauses}
use Rattle.world_state.specs.Engine.{EngineEvent, engine_lines, is_dark}
use Rattle.world_state.specs.Host.{HostEvent, host_lines}
use Rattle.world_state.specs.Path.{PathState, plan_of}
use Rattle.world_state.specs.Reading.{Context}
use Rattle.world_state.specs.Stands.{Agrees}
use Rattle.world_state.specs.Steps.{EngineStep, HostStep, is_of_phase}
use Rattle.world_state.specs.Told.{Told}
use Rattle.world_steps.specs.Reading.{PhasesYield, Reads, StaysPrompt}
use Rattle.world_steps.specs.World.{IsPrompt, WorldState, chosen_of, order_behind, order_in}
use Rattle.power_step.proofs.Images.{open_image}
use Rattle.step_laws.proofs.Acting.{Acting, stepped}
use Rattle.step_laws.proofs.Back.{anew_behind, darkened_taken, prompt_anew, script_same}
use Rattle.step_laws.proofs.Orders.{order_used, to_do_in}
use Rattle.step_laws.proofs.Plain.{ArePlain, card_plain, cut_caused, cut_plain, engine_plain, host_plain, plain_all}
use Rattle.step_laws.specs.Acts.{CardActed, EngineActed, HostActed, PowerActed, Written, left_by, taken_from}
use Rattle.step_laws.specs.Laws.{AreLaws, DoStep, MaySteps}
use Rattle.step_laws.specs.Steps.{GoesOn, behind_step, cuts_allowed}

not_engine : EngineActs ≡ HostActs → ⊥
not_engine is = cc

host_card : CardActs ≡ HostActs → ⊥
host_card is = cc

host_power : PowerActs ≡ HostActs → ⊥
host_power is = cc

not_card : CardActs ≡ EngineActs → ⊥
not_card is = cc

not_power : PowerActs ≡ EngineActs → ⊥
not_power is = cc

module _ (l : AreLaws) (w : WorldState) (a : ArrayState) (may : MaySteps w a) where
  reads : (c : Context) → Agrees w.path a c → Reads w c
  reads c agrees = l.events.read w a c agrees

  yields : (c : Context) → Agrees w.path a c → IsPrompt w → PhasesYield w a c
  yields c agrees prompt = l.events.yields w a c l.events.states agrees prompt

  next : (c : Context) → Agrees w.path a c → (actor : Letter) → actor ≡ chosen (before w c) → actor ≡ chosen_of w
  next c agrees actor is = is ∙ (reads c agrees).chosen l.events.states

  own : (actor : Letter) (items : List Item) → ArePlain items
      → ((c : Context) → Agrees w.path a c → IsPrompt w → actor ≡ chosen_of w → Yields (begun_next (before w c) actor) items) → (c : Context) → Agrees w.path a c → OwnLines w c actor items
  own actor items plain yield c agrees = record { reads = reads c agrees; none = plain_all items plain; yields = λ prompt is. yield c agrees prompt (next c agrees actor is) }

  fronts : (b : ArrayState) (more : ℕ) (items : List Item) → HasCauses more a b items (Ok tt) → (whole rest : List Item) → items ≡ whole ++ rest → HasCauses more a b whole (Err SinkFailed)
  fronts b more items causes whole rest are = l.causes.joined.failed a b more whole rest (subst (λ xs. HasCauses more a b xs (Ok tt)) are causes)

  falls : StepsFall w
  falls = l.causes.falls w may.ready.tied may.some

  prompts : IsPrompt w → StaysPrompt w
  prompts prompt = l.events.prompt w may.ready.tied may.some prompt

  -- the host
  module _ (p' : PathState) (a' : ArrayState) (act : Act) (event : HostEvent w.path a p' a' act) where
    host_step : HostStep w.path a p' a' act
    host_step = l.events.hosts w.path a p' a' act event may.ready.tied

    host_explained : Explains false a a' (host_lines w.path p' act)
    host_explained = l.causes.explained.host w.path a p' a' act event may.ready.powered

    pub host_acting : Acting w a HostActs (host_lines w.path p' act) false p' a' (cuts_allowed HostActs)
    host_acting = record {
      own = own HostActs (host_lines w.path p' act) (host_plain w.path p' act) (λ c agrees prompt is. (yields c agrees prompt).host p' a' act event is);
      lit = λ lit c agrees. host_step.tells l.events.states (order_in w HostActs) c agrees;
      unused = λ lit. refl;
      dark = λ dark c agrees. absurd (true≢false (sym dark));
      used = λ c agrees d. order_used l.events.line l.events.read w a c agrees HostActs (host_lines w.path p' act) p' a' d;
      near = l.lines.host_near l.events.states l.events.hosts w.path a p' a' act event may.ready.tied;
      image = open_image p'.card.store a' event.fits;
      front = fronts a' 0 (host_lines w.path p' act) host_explained.0;
      all = λ lit. host_explained.0;
      cut = λ dark b more result causes. absurd (true≢false (sym dark));
    }

    pub host_goes : GoesOn w HostActs (behind_step w HostActs p') a'
    host_goes = record {
      ready = record { tied = host_step.ties; is_open = event.fits; powered = host_explained.1 };
      plan = event.plan;
      prompt = λ is prompt. (prompts prompt).host a p' a' act event is;
      order = refl;
      falls = λ is. falls.host a p' a' act event host_step.ties is;
    }

  -- the engine
  module _ (p1 : PathState) (a1 : ArrayState) (did : Did) (phase : Option Phase) (event : EngineEvent w.path a p1 a1 did phase) where
    engine_by : (flag : Bool) → is_of_phase w.path event.event.acts.due ≡ flag → EngineStep w.path a p1 a1 did phase
    engine_by true is = l.events.phases w.path a p1 a1 did phase event is may.ready.tied
    engine_by false is = l.events.commands w.path a p1 a1 did phase event is may.ready.tied

    engine_step : EngineStep w.path a p1 a1 did phase
    engine_step = engine_by (is_of_phase w.path event.event.acts.due) refl

    engine_explained : (flag : Bool) → is_dark did ≡ flag → Explains flag a a1 (engine_lines w.path p1 did phase)
    engine_explained flag is = subst (λ b. Explains b a a1 (engine_lines w.path p1 did phase)) is (l.causes.explained.engine w.path a p1 a1 did phase event may.ready.powered)

    engine_front : (flag : Bool) → Explains flag a a1 (engine_lines w.path p1 did phase) → (whole rest : List Item) → engine_lines w.path p1 did phase ≡ whole ++ rest
        → HasCauses 0 a a1 whole (Err SinkFailed)
    engine_front true explained whole rest are =
        fronts a1 0 (engine_lines w.path p1 did phase ++ Cut ∷ []) explained whole
        (rest ++ Cut ∷ []) (ap (λ xs. xs ++ Cut ∷ []) are ∙ append_assoc whole rest _)
    engine_front false explained whole rest are = fronts a1 0 (engine_lines w.path p1 did phase) explained.0 whole rest are

    pub engine_acting : Acting w a EngineActs (engine_lines w.path p1 did phase) (is_dark did) p1 a1 (cuts_allowed EngineActs)
    engine_acting = record {
      own = own EngineActs (engine_lines w.path p1 did phase) (engine_plain w.path p1 did phase) (λ c agrees prompt is. (yields c agrees prompt).engine p1 a1 did phase event is);
      lit = λ lit c agrees. engine_step.tells l.events.states lit (order_in w EngineActs) c agrees;
      unused = λ lit. refl;
      dark = λ dark c agrees. engine_step.darkens l.events.states dark (order_in w EngineActs) c agrees;
      used = λ c agrees d. order_used l.events.line l.events.read w a c agrees EngineActs (engine_lines w.path p1 did phase) p1 a1 d;
      near = l.lines.engine_near l.events.states l.events.commands l.events.phases w.path a p1 a1 did phase event may.ready.tied;
      image = open_image p1.card.store a1 event.fits;
      front = engine_front (is_dark did) (engine_explained (is_dark did) refl);
      all = λ lit. (engine_explained false lit).0;
      cut = λ dark b more result causes. l.causes.joined.cut a a1 b (engine_lines w.path p1 did phase) more result (engine_explained true dark) causes;
    }

    pub engine_goes : is_dark did ≡ false → GoesOn w EngineActs (behind_step w EngineActs p1) a1
    engine_goes lit = record {
      ready = record { tied = engine_step.ties lit; is_open = event.fits; powered = (engine_explained false lit).1 };
      plan = ap (λ d. d.requests.plan) event.driver;
      prompt = λ is prompt. (prompts prompt).engine a p1 a1 did phase event is;
      order = refl;
      falls = λ is. falls.engine l.causes.errors a p1 a1 did phase event (engine_step.ties lit) lit is;
    }

    pub engine_back : is_dark did ≡ true → (p' : PathState) (a' : ArrayState) → IsBackOn p1 a1 p' a' → GoesOn w EngineActs (behind_step w EngineActs p') a'
    engine_back dark p' a' back =
        let of = l.causes.dark w.path a p1 a1 did phase event may.ready.tied dark in
        let anew : IsAnew w.path p' = anew_behind w.path p1 p' of.driver of.script back.anew in
        record {
          ready = back.ready;
          plan = back.plan ∙ ap (λ d. d.requests.plan) of.driver;
          prompt = λ is prompt. prompt_anew w.path p' (order_behind w EngineActs) anew;
          order = refl;
          falls = λ is. falls.lost EngineActs p' anew is not_engine (λ _. of.some);
        }

  -- a loss of power in an event that left the path but for the card
  left_back : (actor : Letter) → (actor ≡ HostActs → ⊥) → (actor ≡ EngineActs → ⊥) → (q : PathState) → q.driver ≡ w.path.driver → q.script ≡ w.path.script → (b : ArrayState) (p' : PathState) (a' : ArrayState) → IsBackOn q b p' a'
      → GoesOn w actor (behind_step w actor p') a'
  left_back actor host other q driver script b p' a' back =
      let goes = subst (λ s. ScriptGoesOn w.path.script s) (sym script) (script_same w.path) in
      let anew : IsAnew w.path p' = anew_behind w.path q p' driver goes back.anew in
      record {
        ready = back.ready;
        plan = back.plan ∙ ap (λ d. d.requests.plan) driver;
        prompt = λ is prompt. prompt_anew w.path p' (order_behind w actor) anew;
        order = refl;
        falls = λ is. falls.lost actor p' anew is host (λ engine. absurd (other engine));
      }

  -- the card
  module _ (p1 : PathState) (a1 : ArrayState) (end : Result (Unit {0}) StageEnd) (event : CardEvent w.path a p1 a1 end) where
    card_step : CardStep w.path a p1 a1 end
    card_step = l.events.cards w.path a p1 a1 end event may.ready.tied

    card_explained : (flag : Bool) → is_lost end ≡ flag → Explains flag a a1 (card_lines w.path end)
    card_explained flag is = subst (λ b. Explains b a a1 (card_lines w.path end)) is (l.causes.explained.card w.path a p1 a1 end event may.ready.powered)

    card_front : (flag : Bool) → Explains flag a a1 (card_lines w.path end) → (whole rest : List Item) → card_lines w.path end ≡ whole ++ rest → HasCauses 0 a a1 whole (Err SinkFailed)
    card_front true explained whole rest are =
        fronts a1 0 (card_lines w.path end ++ Cut ∷ []) explained whole
        (rest ++ Cut ∷ []) (ap (λ xs. xs ++ Cut ∷ []) are ∙ append_assoc whole rest _)
    card_front false explained whole rest are = fronts a1 0 (card_lines w.path end) explained.0 whole rest are

    lit_path : is_lost end ≡ false → left_by (is_lost end) p1 ≡ p1
    lit_path lit = ap (λ flag. left_by flag p1) lit

    dark_path : is_lost end ≡ true → left_by (is_lost end) p1 ≡ taken_from p1
    dark_path dark = ap (λ flag. left_by flag p1) dark

    pub card_acting : Acting w a CardActs (card_lines w.path end) (is_lost end) (left_by (is_lost end) p1) a1 (cuts_allowed CardActs)
    card_acting = record {
      own = own CardActs (card_lines w.path end) (card_plain w.path end) (λ c agrees prompt is. card_yields c agrees prompt is);
      lit = λ lit c agrees. subst (λ q. Told CardActs (within w c CardActs) (card_lines w.path end) q (order_in w CardActs) a1) (sym (lit_path lit))
          (card_step.tells lit (order_in w CardActs) c agrees);
      unused = λ lit. refl;
      dark = λ dark c agrees. subst (λ q. DarkIn w c CardActs (card_lines w.path end) q a1) (sym (dark_path dark))
          (darkened_taken CardActs (within w c CardActs) (card_lines w.path end) p1 (order_in w CardActs) a1 (card_step.darkens dark (order_in w CardActs) c agrees));
      used = λ c agrees d. order_used l.events.line l.events.read w a c agrees CardActs (card_lines w.path end) (left_by (is_lost end) p1) a1 d;
      near = l.lines.card_near l.events.states w.path a p1 a1 end event;
      image = open_image p1.card.store a1 event.stored.fits;
      front = card_front (is_lost end) (card_explained (is_lost end) refl);
      all = λ lit. (card_explained false lit).0;
      cut = λ dark b more result causes. l.causes.joined.cut a a1 b (card_lines w.path end) more result (card_explained true dark) causes;
    }
      where
        card_yields_by : (c : Context) → Agrees w.path a c → IsPrompt w → CardActs ≡ chosen_of w → (e : Result (Unit {0}) StageEnd) → Yields (begun_next (before w c) CardActs) (card_lines w.path e)
        card_yields_by c agrees prompt is (Ok done) = tt
        card_yields_by c agrees prompt is (Err Empty) = tt
        card_yields_by c agrees prompt is (Err Flash) = refl
        card_yields_by c agrees prompt is (Err PowerLost) = (yields c agrees prompt).lost CardActs is

        card_yields : (c : Context) → Agrees w.path a c → IsPrompt w → CardActs ≡ chosen_of w → Yields (begun_next (before w c) CardActs) (card_lines w.path end)
        card_yields c agrees prompt is = card_yields_by c agrees prompt is end

    pub card_goes : is_lost end ≡ false → GoesOn w CardActs (behind_step w CardActs p1) a1
    card_goes lit = record {
      ready = record { tied = card_step.ties; is_open = event.stored.fits; powered = (card_explained false lit).1 };
      plan = ap plan_of event.stored.path;
      prompt = λ is prompt. (prompts prompt).card p1 stored is;
      order = refl;
      falls = λ is. falls.card p1 stored is;
    }
      where
        stored : p1 ≡ record w.path { card = p1.card }
        stored = event.stored.path ∙ ap (λ card. record w.path { card = card }) (sym (ap (λ (p : PathState). p.card) event.stored.path))

    pub card_back : (p' : PathState) (a' : ArrayState) → IsBackOn (taken_from p1) a1 p' a' → GoesOn w CardActs (behind_step w CardActs p') a'
    card_back p' a' back =
        left_back CardActs host_card not_card (taken_from p1) (ap (λ (p : PathState). p.driver) event.stored.path) (ap (λ (p : PathState). p.script) event.stored.path) a1 p' a' back

  -- power
  pub power_acting : Acting w a PowerActs (phase_cut w.path) true (taken_from w.path) a (cuts_allowed PowerActs)
  power_acting = record {
    own = own PowerActs (phase_cut w.path) (cut_plain w.path) (λ c agrees prompt is. (yields c agrees prompt).lost PowerActs is);
    lit = λ lit c agrees. absurd (true≢false lit);
    unused = λ lit. absurd (true≢false lit);
    dark = λ dark c agrees. darkened_taken PowerActs (within w c PowerActs) (phase_cut w.path) w.path (order_in w PowerActs) a
        (l.events.powers w.path a (order_in w PowerActs) c agrees (to_do_in l.events.line l.events.read w a c agrees PowerActs may.some));
    used = λ c agrees d. order_used l.events.line l.events.read w a c agrees PowerActs (phase_cut w.path) (taken_from w.path) a d;
    near = l.lines.power_near l.events.states w.path a;
    image = open_image w.path.card.store a may.ready.is_open;
    front = fronts a 1 (phase_cut w.path) (l.causes.joined.allowed a a 1 (phase_cut w.path) (Ok tt) (cut_caused a w.path));
    all = λ lit. absurd (true≢false lit);
    cut = λ dark b more result causes. l.causes.joined.power a a b (phase_cut w.path) more result (cut_caused a w.path) causes;
  }

  pub power_back : (p' : PathState) (a' : ArrayState) → IsBackOn (taken_from w.path) a p' a' → GoesOn w PowerActs (behind_step w PowerActs p') a'
  power_back p' a' back = left_back PowerActs host_power not_power (taken_from w.path) refl refl a p' a' back

-- however its lines were written, a step that went well goes on
module _ {K : Type 0} (took : K → List ℕ → K → Type 0) (w : WorldState) (actor : Letter) (items : List Item) (lost : Bool) (p1 : PathState) (a1 : ArrayState) where
  pub written_goes : (mid : K) (result : Result (Unit {0}) Halt) (p' : PathState) (a' : ArrayState) (new : K)
      → (lost ≡ false → GoesOn w actor (behind_step w actor p1) a1) → (lost ≡ true → (q : PathState) (b : ArrayState) → IsBackOn p1 a1 q b → GoesOn w actor (behind_step w actor q) b)
      → Written took items lost p1 a1 mid result p' a' new → OnOk result (GoesOn w actor (behind_step w actor p') a')
  written_goes mid result p' a' new lit dark (inl b) = rw b.failed tt
  written_goes mid result p' a' new lit dark (inr (inl went)) = rw (went.ok, went.path, went.array) (lit went.lit)
  written_goes mid result p' a' new lit dark (inr (inr went)) = by result went.back
    where
      by : (r : Result (Unit {0}) Halt) → OnOk r (IsBackOn p1 a1 p' a') → OnOk r (GoesOn w actor (behind_step w actor p') a')
      by (Ok done) back = dark went.dark p' a' back
      by (Err halt) none = tt

module _ {K : Type 0} (took : K → List ℕ → K → Type 0) (both : Joins took) (l : AreLaws) where
  pub host_steps : DoStep took (HostActed took) HostActs
  host_steps w a old mid result p' a' new may first acted = record {
    steps = stepped took both l.events.states l.lines l.causes.joined w a HostActs _ false p' a' (host_acting l w a may p' a' acted.act acted.event) old mid new result p' a' first acted.written;
    goes_on = written_goes took w HostActs _ false p' a' mid result p' a' new (λ lit. host_goes l w a may p' a' acted.act acted.event) (λ dark. absurd (true≢false (sym dark))) acted.written;
  }

  pub engine_steps : DoStep took (EngineActed took) EngineActs
  engine_steps w a old mid result p' a' new may first acted = record {
    steps = stepped took both l.events.states l.lines l.causes.joined w a EngineActs _ (is_dark acted.did) acted.path acted.array (engine_acting l w a may acted.path acted.array acted.did acted.phase acted.event) old mid new result p' a' first acted.written;
    goes_on = written_goes took w EngineActs _ (is_dark acted.did) acted.path acted.array mid result p' a' new
        (λ lit. engine_goes l w a may acted.path acted.array acted.did acted.phase acted.event lit)
        (λ dark q b back. engine_back l w a may acted.path acted.array acted.did acted.phase acted.event dark q b back) acted.written;
  }

  pub card_steps : DoStep took (CardActed took) CardActs
  card_steps w a old mid result p' a' new may first acted = record {
    steps = stepped took both l.events.states l.lines l.causes.joined w a CardActs _ (is_lost acted.end) (left_by (is_lost acted.end) acted.path) acted.array (card_acting l w a may acted.path acted.array acted.end acted.event) old mid new result p' a' first acted.written;
    goes_on = written_goes took w CardActs _ (is_lost acted.end) (left_by (is_lost acted.end) acted.path) acted.array mid result p' a' new
        (λ lit. subst (λ q. GoesOn w CardActs (behind_step w CardActs q) acted.array) (sym (lit_left lit)) (card_goes l w a may acted.path acted.array acted.end acted.event lit))
        (λ dark q b back. card_back l w a may acted.path acted.array acted.end acted.event q b (subst (λ r. IsBackOn r acted.array q b) (dark_left dark) back)) acted.written;
  }
    where
      lit_left : is_lost acted.end ≡ false → left_by (is_lost acted.end) acted.path ≡ acted.path
      lit_left lit = ap (λ flag. left_by flag acted.path) lit

      dark_left : is_lost acted.end ≡ true → left_by (is_lost acted.end) acted.path ≡ taken_from acted.path
      dark_left dark = ap (λ flag. left_by flag acted.path) dark

  pub power_steps : DoStep took (PowerActed took) PowerActs
  power_steps w a old mid result p' a' new may first acted = record {
    steps = stepped took both l.events.states l.lines l.causes.joined w a PowerActs _ true (taken_from w.path) a (power_acting l w a may) old mid new result p' a' first acted;
    goes_on = written_goes took w PowerActs _ true (taken_from w.path) a mid result p' a' new (λ lit. absurd (true≢false lit)) (λ dark q b back. power_back l w a may q b back) acted;
  }
