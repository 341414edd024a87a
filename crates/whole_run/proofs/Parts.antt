-- Parts of a run, one behind the other.
use Rattle.std.proofs.Common.{◌≡◌, ◌∙◌, ◌++◌, ◌∷◌, inl, inr, ℕ, ◌+◌, true, List, [], ap, refl, sym, subst, arith}
use Rattle.std.proofs.lemmas.List.{append_assoc}
use Rattle.storage_machine.specs.Host.{to_do}
use Rattle.storage_machine.specs.declared.state.State.{State}
use Rattle.storage_model.specs.Count.{Count, Later}
use Rattle.storage_model.specs.declared.trace.Item.{Item}
use Rattle.storage_runs.specs.Laws.{Opens, joined}
use Rattle.storage_runs.specs.Runs.{Comes, Shows, StaysSo, Yields, begun_next, chosen, shown, with_letter}
use Rattle.storage_order.specs.Events.{Starts}
use Rattle.run_laws.specs.Whole.{Course}
use Rattle.trace_print.specs.Prints.{RoseBy}
use Rattle.array_edge.specs.Array.{ArrayState}
use Rattle.world_state.specs.Laws.{StateLaws}
use Rattle.world_steps.specs.Reading.{IsRead}
use Rattle.world_steps.specs.Steps.{Begun, Shown}
use Rattle.world_steps.specs.World.{IsPrompt, StandsFor, WorldState, chosen_of, is_to_do}

pub course_both : (s t u : State) (front back : List (List Item)) → Course s front t → Course t back u → Course s (front ++ back) u
course_both s t u [] back is rest = subst (λ x. Course x back u) is rest
course_both s t u (first ∷ front) back (m, one, more) rest = (m, one, course_both m t u front back more rest)

pub joined_both : (front back : List (List Item)) → joined (front ++ back) ≡ joined front ++ joined back
joined_both [] back = refl
joined_both (first ∷ front) back = ap (λ more. first ++ more) (joined_both front back) ∙ sym (append_assoc first (joined front) (joined back))

pub rose_join : (n m : ℕ) (a b c : Count) → Later b c → RoseBy n a b → RoseBy m b c → RoseBy (n + m) a c
rose_join n m a b c later (inl low) (inl high) = inl (omega (arith, low, high))
rose_join n m a b c later (inl low) (inr end) = inr end
rose_join n m a b c later (inr end) rose = inr (later.stands end)

-- the event that came next is a part, or the first lines of one
module _ (read : IsRead) (laws : StateLaws) (w : WorldState) (a : ArrayState) (s : State) (stands : StandsFor w a s) (some : is_to_do w.path ≡ true) where
  chosen_is : chosen s ≡ chosen_of w
  chosen_is = ap (λ x. chosen x) stands.state ∙ (read w a stands.context stands.agrees).chosen laws

  to_do_is : to_do s ≡ true
  to_do_is = ap (λ x. to_do x) stands.state ∙ ((read w a stands.context stands.agrees).to_do ∙ some)

  pub part_next : (lines : List Item) (t : State) → IsPrompt w → Shown w s (chosen_of w) lines t → Comes s lines t
  part_next lines t prompt it = record {
    items = it.items;
    some = to_do_is;
    shows = subst (λ e. Shows s e it.items lines t) (sym chosen_is) it.shows;
    cut = subst (λ e. Yields (begun_next s e) it.items) (sym chosen_is) (it.rules.yields prompt (sym chosen_is));
    kept = subst (λ e. StaysSo (begun_next s e) it.items) (sym chosen_is) it.rules.left;
  }

  pub part_begun : (lines : List Item) (last : State) → IsPrompt w → Begun w s (chosen_of w) lines last → Opens s lines last
  part_begun lines last prompt it = record {
    items = it.items;
    some = to_do_is;
    printed = subst (λ e. lines ≡ shown s e it.items) (sym chosen_is) it.printed;
    starts = subst (λ e. Starts (with_letter s e) e it.items last) (sym chosen_is) it.starts;
    cut = subst (λ e. Yields (begun_next s e) it.items) (sym chosen_is) (it.rules.yields prompt (sym chosen_is));
    kept = subst (λ e. StaysSo (begun_next s e) it.items) (sym chosen_is) it.rules.left;
  }
