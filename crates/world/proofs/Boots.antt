-- The beginning of a run: the image is open, and the path is set up.
use Rattle.std.proofs.Common.{◌≡◌, ◌∙◌, ◌∷◌, ℕ, false, IfSome, List, [], Option, None, Some, Result, Ok, Err, is_some, length, unwrap_or, ap, refl, sym, subst}
use Rattle.std.specs.Prelude.{IfErr}
use Rattle.storage_model.specs.Plan.{IsValidPlan}
use Rattle.storage_model.specs.declared.block.Block.{Block}
use Rattle.storage_model.specs.declared.ends.Halt.{Halt}
use Rattle.storage_model.specs.declared.ends.Halt.TheVariants.{SinkFailed, OpenFault, PowerGone, BadImage}
use Rattle.storage_model.specs.declared.faults.Faults.{Faults}
use Rattle.storage_model.specs.declared.plan.Plan.{Plan}
use Rattle.storage_model.specs.declared.trace.Item.TheVariants.{Card}
use Rattle.trace_print.specs.Prints.{Takes}
use Rattle.array_edge.specs.Array.{ArrayState}
use Rattle.card_core.specs.Card.{CardState, sectors}
use Rattle.card_store.specs.Store.{Stands as StoreStands}
use Rattle.cq_engine.specs.Outcome.{Holding, holds_nothing}
use Rattle.cq_regs.specs.Effects.{at_reset}
use Rattle.cq_regs.specs.State.{Registers}
use Rattle.bus_link.specs.Script.{Script}
use Rattle.dark_laws.specs.Anew.{IsSameScript, IsSetAnew, IsTiedAnew, set_anew}
use Rattle.drv_core.specs.SetUp.{set_up}
use Rattle.drv_core.specs.State.{DriverState, at_start}
use Rattle.drv_jobs.specs.Changes.{forgotten}
use Rattle.drv_recover.specs.declared.recovery.RecoveryState.TheVariants as driver
use Rattle.end_laws.specs.Ends.{AreToCome, IsFresh, IsSoundFresh, StandsOpened}
use Rattle.host_mem.specs.Memory.{Memory}
use Rattle.intent_store.specs.Intent.{shown_by}
use Rattle.power_step.proofs.Taking.{part_of_one}
use Rattle.run_laws.specs.Whole.{card_line, lines_shown, opened}
use Rattle.world_state.specs.Path.{PathState, plan_of, under_way}
use Rattle.world_state.specs.Ties.{AreTied, IsReady, phase_words}
use Rattle.world_steps.specs.World.{IsPrompt, StandsFor, WorldState}
use Rattle.world.specs.First.{OpensFirst}
use Rattle.world.specs.Runs.{Boots, first_line}

-- all requests wait, so none is to be forgotten
none_forgotten : (plan : Plan) (d : DriverState) → d ≡ at_start plan → d ≡ record { requests = forgotten d.requests; recovery = driver.Calm }
none_forgotten plan d is = subst (λ (d : DriverState). d ≡ record { requests = forgotten d.requests; recovery = driver.Calm }) (sym is) refl

module _ (memory : Memory) (card : CardState) (script : Script) where
  abbrev form : DriverState → Registers → Holding → PathState
  form d r e = record { driver = d; regs = r; memory = memory; engine = e; card = card; script = script }

  same_form : (d d' : DriverState) (r r' : Registers) (e e' : Holding) → d ≡ d' → r ≡ r' → e ≡ e' → form d r e ≡ form d' r' e'
  same_form d d' r r' e e' ds rs es = ap (λ x. form x r e) ds ∙ ap (λ x. form d' x e) rs ∙ ap (λ x. form d' r' x) es

no_phase : (p : PathState) (way : Option ℕ) → None ≡ phase_words p way → is_some way ≡ false
no_phase p None is = refl
no_phase p (Some tag) is = absurd (cc)

module _ {K : Type 0} (took : K → List ℕ → K → Type 0) (plan : Plan) (faults : Faults) (w : WorldState) (a : ArrayState) where
  -- the image stays shut, and nothing is written
  pub boots_shut : (nothing : (out : K) → took out [] out) (old : K) (halt : Halt) (w' : WorldState) (card' : CardState) (a' : ArrayState) → OpensFirst w.path.card a (Err halt) card' a'
      → Boots took plan faults a old (Err halt) w' a' old
  boots_shut nothing old SinkFailed w' card' a' opens = absurd opens.cause
  boots_shut nothing old OpenFault w' card' a' opens = record { wrote = nothing old; shown = opens.shown; image = opens.image; cause = opens.cause; openings = opens.openings; later_faults = opens.later_faults; later_cuts = opens.later_cuts; broken = λ is. absurd (cc is); keeps = tt; order = tt; ready = tt; prompt = tt; stands = tt }
  boots_shut nothing old PowerGone w' card' a' opens = record { wrote = nothing old; shown = opens.shown; image = opens.image; cause = opens.cause; openings = opens.openings; later_faults = opens.later_faults; later_cuts = opens.later_cuts; broken = λ is. absurd (cc is); keeps = tt; order = tt; ready = tt; prompt = tt; stands = tt }
  boots_shut nothing old BadImage w' card' a' opens = record { wrote = nothing old; shown = opens.shown; image = opens.image; cause = opens.cause; openings = opens.openings; later_faults = opens.later_faults; later_cuts = opens.later_cuts; broken = λ is. absurd (cc is); keeps = tt; order = tt; ready = tt; prompt = tt; stands = tt }

  module _ (sound : IsSoundFresh) (stands : StandsOpened) (tied : (p : PathState) (a : ArrayState) (p' : PathState) (a' : ArrayState) → IsTiedAnew p a p' a') (valid : IsValidPlan plan) (coming : AreToCome faults) (fresh : IsFresh plan faults w)
      (w' : WorldState) (a' : ArrayState) (opens : OpensFirst w.path.card a (Ok tt) w'.path.card a')
      (path : w'.path ≡ record w.path { regs = set_up (plan_of w.path) w.path.regs; card = w'.path.card }) (order : w'.order ≡ w.order) where
    set : IsSetAnew w.path a w'.path a'
    set =
        let script : w'.path.script ≡ w.path.script = ap (λ (p : PathState). p.script) path in
        record {
          path =
              path
              ∙ same_form w.path.memory w'.path.card w.path.script w.path.driver (record { requests = forgotten w.path.driver.requests; recovery = driver.Calm })
              (set_up (plan_of w.path) w.path.regs) (set_up (plan_of w.path) at_reset) w.path.engine holds_nothing
              (none_forgotten plan w.path.driver fresh.driver) (ap (set_up (plan_of w.path)) fresh.regs) fresh.engine
              ∙ ap (λ s. set_anew w.path w'.path.card s) (sym script);
          script = subst (λ s. IsSameScript w.path.script s) (sym script) (record { ready = refl; hits = refl; used = refl; sent = refl });
          card = opens.opened.anew;
          shown = opens.shown;
        }

    ties : AreTied w'.path
    ties = tied w.path a w'.path a' (sound plan faults w valid coming fresh) set

    keeps : plan_of w'.path ≡ plan
    keeps = ap (λ (p : PathState). plan_of p) path ∙ ap (λ (d : DriverState). d.requests.plan) fresh.driver

    ready : IsReady w'.path a'
    ready = record { tied = ties; is_open = opens.opened.is_open; powered = opens.opened.powered }

    prompt : IsPrompt w'
    prompt busy moves =
        let none : None ≡ phase_words w'.path (under_way w'.path) = sym (ap (λ (c : CardState). c.begun) opens.opened.anew.card) ∙ ties.begun in
        let idle = no_phase w'.path (under_way w'.path) none in
        absurd (cc)

    stood : (shown : Option (List Block)) → shown_by a' ≡ shown → IfSome shown (λ base. StoreStands (record { base = base; pend = [] }) w'.path.card.store a')
        → IfSome shown (λ base. StandsFor w' a' (opened base plan faults) × (sectors w'.path.card ≡ length base))
    stood None is store = tt
    stood (Some base) is store =
        (stands plan faults w a w' a' base valid coming fresh (record { anew = set; order = order }) is, ap (λ o. unwrap_or o 0) store.sectors)

    -- the line of the card is the machine's
    first_so : (shown : Option (List Block)) → shown_by a' ≡ shown → IfSome shown (λ base. first_line w'.path ≡ card_line base plan)
    first_so None is = tt
    first_so (Some base) is =
        let long = (subst (λ o. IfSome o (λ base. StandsFor w' a' (opened base plan faults) × (sectors w'.path.card ≡ length base))) is (stood (shown_by a') refl opens.opened.anew.stands)).1 in
        ap (λ n. Card n (plan_of w'.path).depth (lines_shown (plan_of w'.path))) long ∙ ap (λ (p : Plan). Card (length base) p.depth (lines_shown p)) keeps

    pub boots_opened : (old new : K) (result : Result (Unit {0}) Halt) → Takes took old (first_line w'.path ∷ []) result new → IfErr result (λ halt. halt ≡ SinkFailed) → Boots took plan faults a old result w' a' new
    boots_opened old new (Ok done) taken is = record {
      wrote = taken;
      shown = opens.shown;
      image = opens.image;
      cause = opens.cause;
      openings = opens.openings;
      later_faults = opens.later_faults;
      later_cuts = opens.later_cuts;
      broken = λ is. absurd (cc is);
      keeps = keeps;
      order = order ∙ fresh.order;
      ready = ready;
      prompt = prompt;
      stands = stood (shown_by a') refl opens.opened.anew.stands;
    }
    boots_opened old new (Err SinkFailed) part is = record {
      wrote = part_of_one took old new (first_line w'.path) part;
      shown = opens.shown;
      image = opens.image;
      cause = opens.cause;
      openings = opens.openings;
      later_faults = opens.later_faults;
      later_cuts = opens.later_cuts;
      broken = λ is. first_so (shown_by a') refl;
      keeps = tt;
      order = tt;
      ready = tt;
      prompt = tt;
      stands = tt;
    }
    boots_opened old new (Err OpenFault) taken is = absurd (cc)
    boots_opened old new (Err PowerGone) taken is = absurd (cc)
    boots_opened old new (Err BadImage) taken is = absurd (cc)
