-- The end of a run by its last flush.
use Rattle.std.proofs.Common.{◌≡◌, ◌∙◌, ◌⊎◌, ◌++◌, ◌∷◌, inl, inr, ℕ, true, false, IfSome, List, [], None, Option, Some, Ok, Err, ap, refl, sym, subst, arith}
use Rattle.std.proofs.lemmas.List.{append-nil}
use Rattle.storage_machine.specs.Host.{to_do}
use Rattle.storage_machine.specs.declared.state.Owed.TheVariants.{End as Ended}
use Rattle.storage_machine.specs.declared.state.State.{State}
use Rattle.storage_model.specs.declared.ends.Halt.{Halt}
use Rattle.storage_model.specs.declared.ends.Halt.TheVariants.{SinkFailed, OpenFault, PowerGone, BadImage}
use Rattle.storage_model.specs.declared.trace.End.TheVariants.{Good, Fault}
use Rattle.storage_model.specs.declared.trace.Item.{Item}
use Rattle.run_laws.specs.Whole.{Dropped, Finishes as FinishesSo, off_lines}
use Rattle.trace_effects.specs.Effects.{effect}
use Rattle.std.specs.Prelude.{count_by}
use Rattle.trace_print.specs.Prints.{RoseBy, is_cut_line}
use Rattle.whole_run.specs.Cuts.{power_left}
use Rattle.whole_run.proofs.Cuts.{cuts_step}
use Rattle.trace_rules.specs.Lines.{is_free, line_rule}
use Rattle.storage_model.specs.declared.trace.End.{End}
use Rattle.storage_model.specs.declared.trace.Item.TheVariants.{Off}
use Rattle.array_edge.specs.Array.{ArrayState}
use Rattle.intent_store.specs.Intent.{shown_by}
use Rattle.cut_order.specs.Order.{OrderState}
use Rattle.world_state.specs.Path.{PathState}
use Rattle.world_state.specs.Reading.{Context, state_of}
use Rattle.world_state.specs.Stands.{IsNear}
use Rattle.world.specs.Runs.{EndTells, Finishes, IsAgain}
use Rattle.world.specs.declared.finish.Finish.TheVariants.{Off as IsOff, Again}
use Rattle.world_steps.specs.Reading.{IsRead}
use Rattle.world_steps.specs.World.{StandsFor, WorldState, is_to_do}
use Rattle.whole_run.specs.Course.{Ends, EndsIn, Parts, Went}
use Rattle.whole_run.proofs.Went.{later_by, part_alone}

free_of : (p : PathState) (o : OrderState) (c : Context) → is_free (state_of p o c).owed ≡ true
unfolding state_of
free_of p o c = refl

module _ {K : Type 0} (took : K → List ℕ → K → Type 0) (read : IsRead) (w : WorldState) (a : ArrayState) (old : K) (none : is_to_do w.path ≡ false) (w2 : WorldState) (a2 : ArrayState) (new : K) where
  free_is : (s : State) → StandsFor w a s → is_free s.owed ≡ true
  free_is s stands = ap (λ x. is_free x.owed) stands.state ∙ free_of w.path w.order stands.context

  none_is : (s : State) → StandsFor w a s → to_do s ≡ false
  none_is s stands = ap (λ x. to_do x) stands.state ∙ ((read w a stands.context stands.agrees).to_do ∙ none)

  ends_by : (s : State) → StandsFor w a s → (end : End) → line_rule s (Off end) ≡ None → FinishesSo s (Some end) (effect s (Off end))
  ends_by s stands end rule = (free_is s stands, none_is s stands, rule, refl)

  -- the line of a good end
  pub off_ends : Finishes took w a old (Ok IsOff) w2 a2 new → Ends took w a old (Ok tt) w2 a2 new
  off_ends it = record {
    lines = it.lines;
    wrote = it.wrote;
    ends = tt;
    tells = λ s stands. let told = it.tells s stands in ([], it.lines, s, refl, ([], refl, refl), (effect s (Off Good), told.0, ends_by s stands Good told.1, told.2, told.3));
    settled = λ is. it.settled refl;
    is_open = λ is. it.is_open refl;
    later = later_by 0 a a2 it.lines (Ok tt) it.causes;
    flash = it.causes.flash;
    cuts = cuts_step (count_by is_cut_line it.lines) 0 0 (power_left w.order) a.cuts a2.cuts (omega arith) it.causes.cuts;
    dark = it.dark;
    image = it.image;
  }

  -- power was lost, and came again
  pub again_went : Finishes took w a old (Ok Again) w2 a2 new → IsAgain w w2 a2 → Went took w a old w2 a2 new
  again_went it again = record {
    lines = it.lines;
    wrote = it.wrote;
    tells = λ s stands. let told = it.tells s stands in (told.0, part_alone s told.0 it.lines (inr told.1), told.2);
    ready = again.ready;
    plan = again.plan;
    later = later_by 0 a a2 it.lines (Ok tt) it.causes;
    flash = subst (λ n. RoseBy n a.faults a2.faults) (omega arith) it.causes.flash;
    cuts = let same : power_left w2.order ≡ power_left w.order = ap power_left again.order in cuts_step (count_by is_cut_line it.lines) 0 (power_left w2.order) (power_left w.order) a.cuts a2.cuts (omega (arith, same)) it.causes.cuts;
  }

  -- the sink failed
  broken_in : (s : State) (lines : List Item) → StandsFor w a s → EndTells w s lines (Err SinkFailed) w2 a2 → EndsIn s lines (Err SinkFailed) w2 a2
  broken_in s lines stands (inl (end, off, rule, near)) = ([], lines, s, refl, ([], refl, refl), inr (inr (end, effect s (Off end), off, ends_by s stands end rule, near)))
  broken_in s lines stands (inr drops) = ([], lines, s, refl, ([], refl, refl), inr (inl drops))

  -- the line of a fault, or one among the lines of a cut
  abbrev Halts : State → List Item → Type 0
  Halts s lines =
      ((lines ≡ Off Fault ∷ []) × (line_rule s (Off Fault) ≡ None) × IfSome (shown_by a2) (IsNear (effect s (Off Fault))))
      ⊎ ((t : State) × Dropped s lines t × (t.owed ≡ Ended) × IfSome (shown_by a2) (IsNear t))

  halts_in : (s : State) (lines : List Item) → StandsFor w a s → Halts s lines
      → (front : List Item) × (last : List Item) × (t : State) × (lines ≡ front ++ last) × Parts s front t × ((end : Option End) × (u : State) × (last ≡ off_lines end) × FinishesSo t end u × IfSome (shown_by a2) (IsNear u))
  halts_in s lines stands (inl off) = ([], lines, s, refl, ([], refl, refl), (Some Fault, effect s (Off Fault), off.0, ends_by s stands Fault off.1, off.2))
  halts_in s lines stands (inr cut) = (lines, [], cut.0, sym (append-nil lines), part_alone s cut.0 lines (inr cut.1), (None, cut.0, refl, (cut.2, refl), cut.3))

  ends_in : (halt : Halt) (s : State) (lines : List Item) → StandsFor w a s → EndTells w s lines (Err halt) w2 a2 → EndsIn s lines (Err halt) w2 a2
  ends_in SinkFailed s lines stands told = broken_in s lines stands told
  ends_in OpenFault s lines stands told = halts_in s lines stands told
  ends_in PowerGone s lines stands told = halts_in s lines stands told
  ends_in BadImage s lines stands told = halts_in s lines stands told

  pub halt_ends : (halt : Halt) → Finishes took w a old (Err halt) w2 a2 new → Ends took w a old (Err halt) w2 a2 new
  halt_ends halt it = record {
    lines = it.lines;
    wrote = it.wrote;
    ends = it.ends;
    tells = λ s stands. ends_in halt s it.lines stands (it.tells s stands);
    settled = λ is. absurd (cc is);
    is_open = λ is. absurd (cc is);
    later = later_by 0 a a2 it.lines (Err halt) it.causes;
    flash = it.causes.flash;
    cuts = cuts_step (count_by is_cut_line it.lines) 0 0 (power_left w.order) a.cuts a2.cuts (omega arith) it.causes.cuts;
    dark = it.dark;
    image = it.image;
  }
