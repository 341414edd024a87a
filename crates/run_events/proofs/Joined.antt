-- What is taken one after the other is taken together.
use Rattle.std.proofs.Common.{inl, inr, ◌≡◌, ◌∙◌, ◌⊎◌, Bool, true, false, cond, List, [], ◌∷◌, ◌++◌, append_assoc, append-nil, refl, ap, sym}
use Rattle.std.proofs.lemmas.Bool.{false≢true}
use Rattle.run_events.proofs.Events.{is_taken}
use Rattle.run_events.specs.Laws.{IsRunTaken, Leads, Seen, last_of, tells}
use Rattle.storage_machine.specs.declared.state.Owed.TheVariants.{End as Ended}
use Rattle.storage_machine.specs.declared.state.State.{State}
use Rattle.storage_model.specs.declared.trace.Item.{Item}
use Rattle.storage_order.specs.Accept.{accept_from}
use Rattle.storage_runs.specs.Laws.{HasEnded, StandsAt, joined}
use Rattle.storage_runs.specs.Runs.{Comes, Run, chosen, is_shown}
use Rattle.trace_effects.specs.Effects.{letters_used}
use Rattle.trace_rules.specs.Lines.{is_free}

last_again : (before : Item) (lines more : List Item) → last_of before (lines ++ more) ≡ last_of (last_of before lines) more
last_again before [] more = refl
last_again before (item ∷ lines) more = last_again item lines more

pub lead_none : (before : Item) (m s t : State) → StandsAt m s → Seen before m → t ≡ s → Leads before m t []
lead_none before m s t st seen at = rw at (record { takes = record { after = m; stands = inl st; taken = λ more. refl }; seen = seen })

pub lead_on : (before : Item) (m u t : State) (lines rest : List Item) → (first : Leads before m u lines) → Leads (last_of before lines) first.takes.after t rest → Leads before m t (lines ++ rest)
lead_on before m u t lines rest first later = record {
  takes = record {
    after = later.takes.after;
    stands = later.takes.stands;
    taken = λ more. ap (λ all. accept_from all m) (append_assoc lines rest more) ∙ (first.takes.taken (rest ++ more) ∙ later.takes.taken more);
  };
  seen = λ told. later.seen (sym (ap tells (last_again before lines rest)) ∙ told);
}

-- a run that has ended
pub lead_over : (before : Item) (m u t : State) (lines : List Item) → (first : Leads before m u lines) → HasEnded first.takes.after u → t ≡ u → Leads before m t (lines ++ [])
lead_over before m u t lines first over at = record {
  takes = record {
    after = first.takes.after;
    stands = inr (record { owed = ap (λ x. x.owed) at ∙ over.owed; state = over.state ∙ sym at });
    taken = λ more. ap (λ all. accept_from (all ++ more) m) (append-nil lines) ∙ first.takes.taken more;
  };
  seen = λ told. first.seen (sym (ap (λ all. tells (last_of before all)) (append-nil lines)) ∙ told);
}

pub letter_owed : (s : State) (is : Bool) → (cond is (record s { letters = letters_used s }) s).owed ≡ s.owed
letter_owed s true = refl
letter_owed s false = refl

-- behind the end nothing comes
pub none_comes : (s t : State) (lines : List Item) → s.owed ≡ Ended → Comes s lines t → false ≡ true
none_comes s t lines ended comes = sym (ap is_free (letter_owed s (is_shown s (chosen s)) ∙ ended)) ∙ comes.shows.happens.free

run_ended : (before : Item) (m u t : State) (lines : List Item) (events : List (List Item)) → (first : Leads before m u lines) → HasEnded first.takes.after u → Run u events t → Leads before m t (lines ++ joined events)
run_ended before m u t lines [] first over run = lead_over before m u t lines first over run
run_ended before m u t lines (next ∷ events) first over run = absurd (false≢true (none_comes u run.0 next over.owed run.1))

run_more : (before : Item) (m u t : State) (lines : List Item) (events : List (List Item)) → (first : Leads before m u lines) → (StandsAt first.takes.after u → Leads (last_of before lines) first.takes.after t (joined events)) → Run u events t
    → StandsAt first.takes.after u ⊎ HasEnded first.takes.after u → Leads before m t (lines ++ joined events)
run_more before m u t lines events first later run (inl stands) = lead_on before m u t lines (joined events) first (later stands)
run_more before m u t lines events first later run (inr over) = run_ended before m u t lines events first over run

-- the events of a run
pub run_taken : (before : Item) (m s t : State) (events : List (List Item)) → IsRunTaken before m s t events
run_taken before m s t [] st seen run = lead_none before m s t st seen run
run_taken before m s t (lines ∷ events) st seen run =
    let u = run.0 in
    let first = is_taken before m s u lines st seen run.1 in
    run_more before m u t lines events first (λ stands. run_taken (last_of before lines) first.takes.after u t events stands first.seen run.2) run.2 first.takes.stands
