-- A step from its beginning and its actor's event.
use Rattle.std.proofs.Common.{◌≡◌, ◌∙◌, ◌++◌, ◌∷◌, ◌+◌, ◌-◌, ◌≤◌, ℕ, true, inl, List, [], Result, Err, refl, sym, ap, arith, subst}
use Rattle.storage_model.specs.declared.ends.Halt.{Halt}
use Rattle.storage_model.specs.declared.ends.Halt.TheVariants.{SinkFailed}
use Rattle.storage_model.specs.declared.faults.Letter.{Letter}
use Rattle.storage_model.specs.declared.faults.Letter.TheVariants.{Host as HostActs, Engine as EngineActs, Card as CardActs, Cut as PowerActs}
use Rattle.storage_model.specs.declared.trace.Item.TheVariants.{Turn}
use Rattle.storage_machine.specs.declared.state.State.{State}
use Rattle.storage_order.specs.Events.{Starts, is_untold}
use Rattle.trace_effects.specs.Effects.{begun}
use Rattle.trace_print.specs.Prints.{HasCauses}
use Rattle.trace_rules.specs.Lines.{is_free}
use Rattle.trace_text.specs.Trace.{items_text}
use Rattle.array_edge.specs.Array.{ArrayState}
use Rattle.cut_order.specs.Order.{OrderState}
use Rattle.join_laws.specs.Joins.{before, within}
use Rattle.power_step.proofs.Counting.{later_same, rose_none}
use Rattle.power_step.proofs.Images.{open_image}
use Rattle.power_step.specs.Wrote.{TakesPart}
use Rattle.step_laws.proofs.Lines.{shown_is}
use Rattle.step_laws.specs.Laws.{AreSteps, DoStep, MaySteps}
use Rattle.step_laws.specs.Steps.{IsStep, behind_step, cuts_allowed, letter_lines}
use Rattle.world_state.specs.Laws.{StateLaws}
use Rattle.world_state.specs.Path.{PathState}
use Rattle.world_state.specs.Reading.{Context, state_of}
use Rattle.world_steps.specs.Reading.{IsRead, Reads}
use Rattle.world_steps.specs.Steps.{Begun, StepTells}
use Rattle.world_steps.specs.World.{WorldState, order_in}
use Rattle.world.specs.Begins.{ActedBy, BeginsStep}
use Rattle.world.proofs.Begun.{near_begun}

turn_causes : (actor : Letter) (more : ℕ) (a : ArrayState) → HasCauses more a a (Turn actor ∷ []) (Err SinkFailed)
turn_causes actor more a = record {
  later_faults = later_same a.faults;
  later_cuts = later_same a.cuts;
  flash = rose_none a.faults a.faults (later_same a.faults);
  cuts = inl (none_more more a.cuts.value);
}
  where
    none_more : (more value : ℕ) → value + (0 - more) ≤ value
    none_more more value = omega arith

-- an event that the letter's line begins
module _ (p : PathState) (o : OrderState) (c : Context) (actor : Letter) where
  within_free : is_free (state_of p o c).owed ≡ true
  unfolding state_of
  within_free = refl

  within_untold : is_untold (state_of p o c).event ≡ true
  unfolding state_of
  within_untold = refl

  starts_none : Starts (state_of p o c) actor [] (begun (state_of p o c) actor)
  starts_none = record { free = within_free; untold = within_untold; goes = refl }

begun_none : (w : WorldState) (c : Context) (actor : Letter) → Reads w c → letter_lines w actor ≡ Turn actor ∷ []
    → Begun w (before w c) actor (Turn actor ∷ []) (begun (within w c actor) actor)
begun_none w c actor reads are = record {
  items = [];
  printed = sym (shown_is w c actor [] reads ∙ ap (λ lines. lines ++ []) are);
  starts = subst (λ (s : State). Starts s actor [] (begun (within w c actor) actor)) (sym (reads.letter actor)) (starts_none w.path (order_in w actor) c actor);
  rules = record { left = tt; yields = λ prompt next. tt };
}

module _ {K : Type 0} (took : K → List ℕ → K → Type 0) where
  -- the sink failed in the letter's line
  broke_first : StateLaws → IsRead → (w w' : WorldState) (actor : Letter) (a : ArrayState) (old new : K) → MaySteps w a → letter_lines w actor ≡ Turn actor ∷ [] → TakesPart took old (Turn actor ∷ []) new
      → IsStep took w actor a old (Err SinkFailed) w' a new
  broke_first laws read w w' actor a old new may are part = record {
    steps = record {
      lines = Turn actor ∷ [];
      wrote = part;
      tells = λ s stands.
          let c = stands.context in
          subst (λ (x : State). StepTells w x actor (Turn actor ∷ []) (Err SinkFailed) w' a) (sym stands.state) (
            begun (within w c actor) actor,
            begun_none w c actor (read w a c stands.agrees) are,
            near_begun laws w.path a (order_in w actor) c stands.agrees actor,
          );
      ends = tt;
      dark = λ none. absurd none;
      causes = turn_causes actor (cuts_allowed actor) a;
      image = open_image w.path.card.store a may.ready.is_open;
    };
    goes_on = tt;
  }

  pub stopped_first : StateLaws → IsRead → (w w' : WorldState) (actor : Letter) (a : ArrayState) (old new : K) (halt : Halt) → MaySteps w a → BeginsStep took w actor old (Err halt) new
      → IsStep took w actor a old (Err halt) w' a new
  stopped_first laws read w w' actor a old new halt may began =
      subst (λ (h : Halt). IsStep took w actor a old (Err h) w' a new) (sym began.0) (broke_first laws read w w' actor a old new may began.1 began.2)

  -- whoever acts
  step_by : AreSteps took → (actor : Letter) → DoStep took (ActedBy took actor) actor
  step_by steps HostActs = steps.host
  step_by steps EngineActs = steps.engine
  step_by steps CardActs = steps.card
  step_by steps PowerActs = steps.power

  -- behind the letter's line
  pub acted_behind : AreSteps took → (w : WorldState) (actor : Letter) (a : ArrayState) (old mid : K) (v : WorldState) (result : Result (Unit {0}) Halt) (w' : WorldState) (a' : ArrayState) (new : K)
      → MaySteps w a → v ≡ behind_step w actor w.path → took old (items_text (letter_lines w actor)) mid → ActedBy took actor v.path a mid result w'.path a' new → w'.order ≡ v.order
      → IsStep took w actor a old result w' a' new
  acted_behind steps w actor a old mid v result w' a' new may begun first acted order =
      let path : v.path ≡ w.path = ap (λ (x : WorldState). x.path) begun in
      let step = step_by steps actor w a old mid result w'.path a' new may first (subst (λ (q : PathState). ActedBy took actor q a mid result w'.path a' new) path acted) in
      let is : behind_step w actor w'.path ≡ w' = ap (λ o. record { path = w'.path; order = o }) (sym (order ∙ ap (λ (x : WorldState). x.order) begun)) in
      subst (λ (x : WorldState). IsStep took w actor a old result x a' new) is step
