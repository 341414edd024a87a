-- The parts of a run are taken, one after the other.
use Rattle.std.proofs.Common.{inl, inr, ◌≡◌, ◌∙◌, ◌⊎◌, true, false, List, [], ◌∷◌, ◌++◌, refl, ap, sym}
use Rattle.std.proofs.lemmas.Bool.{false≢true}
use Rattle.run_laws.proofs.Drops.{drop_closes, drop_opened}
use Rattle.run_events.proofs.Events.{front_taken, is_taken}
use Rattle.run_events.proofs.Joined.{lead_none, lead_on, lead_over, letter_owed, none_comes}
use Rattle.run_events.proofs.Leads.{leads_closes}
use Rattle.run_events.specs.Laws.{Leads, Seen, last_of}
use Rattle.run_laws.specs.Whole.{Begun, Course, Part}
use Rattle.storage_machine.specs.declared.state.Owed.TheVariants.{End as Ended}
use Rattle.storage_machine.specs.declared.state.State.{State}
use Rattle.storage_model.specs.declared.trace.Item.{Item}
use Rattle.storage_runs.specs.Laws.{HasEnded, IsOpened, Opens, StandsAt, joined}
use Rattle.storage_runs.specs.Runs.{chosen, is_shown}
use Rattle.trace_rules.specs.Lines.{is_free}

part_leads : (before : Item) (m s t : State) (lines : List Item) → StandsAt m s → Seen before m → Part s lines t → Leads before m t lines
part_leads before m s t lines st seen (inl comes) = is_taken before m s t lines st seen comes
part_leads before m s t lines st seen (inr drop) = leads_closes before m t lines (drop_closes m s t lines st drop)

-- behind the end no part comes
none_part : (s t : State) (lines : List Item) → s.owed ≡ Ended → Part s lines t → false ≡ true
none_part s t lines over (inl comes) = none_comes s t lines over comes
none_part s t lines over (inr drop) = sym (ap is_free over) ∙ drop.drops.free

course_ended : (before : Item) (m u t : State) (lines : List Item) (parts : List (List Item)) → (first : Leads before m u lines) → HasEnded first.takes.after u → Course u parts t → Leads before m t (lines ++ joined parts)
course_ended before m u t lines [] first over course = lead_over before m u t lines first over course
course_ended before m u t lines (next ∷ parts) first over course = absurd (false≢true (none_part u course.0 next over.owed course.1))

course_more : (before : Item) (m u t : State) (lines : List Item) (parts : List (List Item)) → (first : Leads before m u lines)
    → (StandsAt first.takes.after u → Leads (last_of before lines) first.takes.after t (joined parts)) → Course u parts t → StandsAt first.takes.after u ⊎ HasEnded first.takes.after u
    → Leads before m t (lines ++ joined parts)
course_more before m u t lines parts first later course (inl stands) = lead_on before m u t lines (joined parts) first (later stands)
course_more before m u t lines parts first later course (inr over) = course_ended before m u t lines parts first over course

pub course_leads : (before : Item) (m s t : State) (parts : List (List Item)) → StandsAt m s → Seen before m → Course s parts t → Leads before m t (joined parts)
course_leads before m s t [] st seen course = lead_none before m s t st seen course
course_leads before m s t (lines ∷ parts) st seen course =
    let u = course.0 in
    let first = part_leads before m s u lines st seen course.1 in
    course_more before m u t lines parts first (λ stands. course_leads (last_of before lines) first.takes.after u t parts stands first.seen course.2) course.2 first.takes.stands

-- the first lines of one more part
begun_opened : (m s : State) (lines : List Item) → StandsAt m s → Begun s lines → IsOpened m lines
begun_opened m s lines st (inl none) = rw none (record { after = m; taken = λ more. refl })
begun_opened m s lines st (inr (inl opens)) = front_taken m s opens.0 lines st opens.1
begun_opened m s lines st (inr (inr drop)) = drop_opened m s lines st drop

none_opens : (s last : State) (lines : List Item) → s.owed ≡ Ended → Opens s lines last → false ≡ true
none_opens s last lines over opens = sym (ap is_free (letter_owed s (is_shown s (chosen s)) ∙ over)) ∙ opens.starts.free

none_begins : (s : State) (lines : List Item) → s.owed ≡ Ended → Begun s lines → lines ≡ []
none_begins s lines over (inl none) = none
none_begins s lines over (inr (inl opens)) = absurd (false≢true (none_opens s opens.0 lines over opens.1))
none_begins s lines over (inr (inr drop)) = absurd (false≢true (sym (ap is_free over) ∙ drop.3.free))

pub begun_by : (m s : State) (lines : List Item) → StandsAt m s ⊎ HasEnded m s → Begun s lines → IsOpened m lines
begun_by m s lines (inl stands) begun = begun_opened m s lines stands begun
begun_by m s lines (inr over) begun = rw (none_begins s lines over.owed begun) (record { after = m; taken = λ more. refl })
