-- A step from an event of an actor, whoever it is: what is known of the event's lines, and how they were written.
use Rattle.std.proofs.Common.{◌≡◌, ◌∙◌, ℕ, ◌++◌, inl, inr, Bool, true, false, if◌then◌else◌, IfSome, List, [], ◌∷◌, Result, Ok, Err, refl, sym, subst}
use Rattle.std.proofs.lemmas.List.{append_assoc}
use Rattle.storage_machine.specs.declared.state.State.{State}
use Rattle.storage_model.specs.declared.ends.Halt.{Halt}
use Rattle.storage_model.specs.declared.ends.Halt.TheVariants.{SinkFailed, OpenFault, PowerGone, BadImage}
use Rattle.storage_model.specs.declared.faults.Letter.{Letter}
use Rattle.storage_model.specs.declared.trace.End.{End}
use Rattle.storage_model.specs.declared.trace.End.TheVariants.{Fault, Dead, Image}
use Rattle.storage_model.specs.declared.trace.Item.{Item}
use Rattle.storage_model.specs.declared.trace.Item.TheVariants.{Cut, Off, Turn}
use Rattle.storage_runs.specs.Runs.{StaysSo, shown}
use Rattle.trace_effects.specs.Effects.{effect}
use Rattle.io_edge.specs.Sink.{Joins}
use Rattle.array_edge.specs.Array.{ArrayState}
use Rattle.trace_print.specs.Prints.{Breaks, HasCauses}
use Rattle.trace_text.specs.Trace.{items_text}
use Rattle.cause_laws.specs.Causes.{AreJoined}
use Rattle.cut_order.specs.Order.{OrderState, order_of}
use Rattle.front_laws.proofs.Now.{shown_near}
use Rattle.front_laws.proofs.Singles.{some_near}
use Rattle.front_laws.specs.Fronts.{FrontsNear}
use Rattle.intent_store.specs.Intent.{shown_by}
use Rattle.join_laws.specs.Joins.{DarkIn, EndsRun, OwnLines, before, within}
use Rattle.intent_store.specs.Intent.{ShowsImage}
use Rattle.power_step.specs.Loses.{HasEnd, Leaves, Loses}
use Rattle.world_state.specs.Path.{PathState}
use Rattle.world_state.specs.Laws.{StateLaws}
use Rattle.world_state.specs.Reading.{Context, state_of}
use Rattle.world_state.specs.Stands.{Agrees, IsNear}
use Rattle.world_state.specs.Told.{IsLosing, StaysDark, Told}
use Rattle.world_steps.specs.Steps.{Begun, StepTells}
use Rattle.world_steps.specs.World.{StandsFor, WorldState, order_behind, order_in, shows_letter, uses_line}
use Rattle.join_laws.specs.Fronts.{Stopped}
use Rattle.step_laws.proofs.EndLines.{cut_among, cut_behind, end_behind}
use Rattle.step_laws.proofs.Lines.{broken_part, shown_is, part_behind, wrote_behind}
use Rattle.step_laws.specs.Acts.{Written}
use Rattle.step_laws.specs.Laws.{AreLines}
use Rattle.step_laws.specs.Steps.{Steps, behind_step, cuts_allowed, letter_lines}

-- what is known of an event that left p1 and a1, with these lines
pub record Acting (w : WorldState) (a : ArrayState) (actor : Letter) (items : List Item) (lost : Bool) (p1 : PathState) (a1 : ArrayState) (allowed : ℕ) : Type 0 where
  pub own : (c : Context) → Agrees w.path a c → OwnLines w c actor items
  pub lit : lost ≡ false → (c : Context) → Agrees w.path a c → Told actor (within w c actor) items p1 (order_in w actor) a1
  pub unused : lost ≡ false → uses_line w actor ≡ false
  pub dark : lost ≡ true → (c : Context) → Agrees w.path a c → DarkIn w c actor items p1 a1
  pub used : (c : Context) → Agrees w.path a c → (d : DarkIn w c actor items p1 a1) → order_of (effect d.last Cut) ≡ order_behind w actor
  pub near : FrontsNear actor w.path a items a1
  pub front : (whole rest : List Item) → items ≡ whole ++ rest → HasCauses allowed a a1 whole (Err SinkFailed)
  pub all : lost ≡ false → HasCauses allowed a a1 items (Ok tt)
  pub image : ShowsImage a1
  pub cut : lost ≡ true → (b : ArrayState) (more : List Item) (result : Result (Unit {0}) Halt) → HasCauses 1 a1 b (Cut ∷ more) result → HasCauses allowed a b (items ++ Cut ∷ more) result

module _ {K : Type 0} (took : K → List ℕ → K → Type 0) (both : Joins took) (states : StateLaws) (lines : AreLines) (joined : AreJoined)
    (w : WorldState) (a : ArrayState) (actor : Letter) (items : List Item) (lost : Bool) (p1 : PathState) (a1 : ArrayState)
    (acting : Acting w a actor items lost p1 a1 (cuts_allowed actor)) where
  for_state : (P : State → Type 0) → ((c : Context) → Agrees w.path a c → P (before w c)) → (s : State) → StandsFor w a s → P s
  for_state P has s stands = subst P (sym stands.state) (has stands.context stands.agrees)

  as_lines : (c : Context) → Agrees w.path a c → (xs : List Item) → shown (before w c) actor xs ≡ letter_lines w actor ++ xs
  as_lines c agrees xs = shown_is w c actor xs (acting.own c agrees).reads

  flagged : (flag : Bool) (b : ArrayState) (xs : List Item) (result : Result (Unit {0}) Halt) → HasCauses (cuts_allowed actor) a b xs result
      → HasCauses (cuts_allowed actor) a b ((if flag then Turn actor ∷ [] else []) ++ xs) result
  flagged true b xs result causes = joined.letter a b (cuts_allowed actor) actor xs result causes
  flagged false b xs result causes = causes

  behind_letter : (b : ArrayState) (xs : List Item) (result : Result (Unit {0}) Halt) → HasCauses (cuts_allowed actor) a b xs result
      → HasCauses (cuts_allowed actor) a b (letter_lines w actor ++ xs) result
  behind_letter b xs result causes = flagged (shows_letter w actor) b xs result causes

  -- all lines were written, and the power is on
  well : (old mid new : K) → took old (items_text (letter_lines w actor)) mid → took mid (items_text items) new → lost ≡ false
      → Steps took w actor a old (Ok tt) (behind_step w actor p1) a1 new
  well old mid new first taken lit = record {
    lines = letter_lines w actor ++ items;
    wrote = wrote_behind took both old mid new (letter_lines w actor) items (Ok tt) first taken;
    tells = for_state (λ s. StepTells w s actor (letter_lines w actor ++ items) (Ok tt) (behind_step w actor p1) a1)
        (λ c agrees. subst (λ xs. StepTells w (before w c) actor xs (Ok tt) (behind_step w actor p1) a1) (as_lines c agrees items)
        (lines.lit w c actor items p1 a1 (acting.own c agrees) (acting.unused lit) (acting.lit lit c agrees)));
    ends = tt;
    dark = λ none. absurd none;
    causes = behind_letter a1 items (Ok tt) (acting.all lit);
    image = acting.image;
  }

  -- the sink failed in one of them
  stopped_by : (flag : Bool) → lost ≡ flag → (c : Context) → Agrees w.path a c → (whole : List Item) (item : Item) (rest : List Item) → items ≡ whole ++ item ∷ rest → Stopped w c actor whole
  stopped_by false lit c agrees whole item rest are =
      lines.stopped_lit w c actor whole item rest items p1 (order_in w actor) a1 are (acting.own c agrees) (acting.lit lit c agrees)
  stopped_by true dark c agrees whole item rest are =
      lines.stopped_dark w c actor whole item rest items p1 a1 are (acting.own c agrees) (acting.dark dark c agrees)

  -- behind the line in which it failed the pages are near
  abbrev StopsNear : Context → List Item → Type 0
  StopsNear c first = (last : State) × Begun w (before w c) actor (shown (before w c) actor first) last × IfSome (shown_by a1) (IsNear last)

  stops_lit : (c : Context) → Agrees w.path a c → (item : Item) (others : List Item) → items ≡ item ∷ others → Told actor (within w c actor) items p1 (order_in w actor) a1 → StopsNear c (item ∷ others)
  stops_lit c agrees item others are told =
      let own = subst (OwnLines w c actor) are (acting.own c agrees) in
      let told_so = subst (λ xs. Told actor (within w c actor) xs p1 (order_in w actor) a1) are told in
      let stopped = lines.stopped_last w c actor item others p1 (order_in w actor) a1 own told_so in (
        stopped.last,
        stopped.begun,
        some_near (state_of p1 (order_in w actor) told_so.context) stopped.last (shown_by a1) stopped.near
            (shown_near states p1 a1 (order_in w actor) told_so.context p1.card.store a1 told_so.agrees told_so.agrees.store),
      )

  -- in the last of them
  stops_last : (flag : Bool) → lost ≡ flag → (c : Context) → Agrees w.path a c → (whole : List Item) (item : Item) → items ≡ whole ++ item ∷ [] → StopsNear c (whole ++ item ∷ [])
  stops_last false lit c agrees [] item are = stops_lit c agrees item [] are (acting.lit lit c agrees)
  stops_last false lit c agrees (x ∷ xs) item are = stops_lit c agrees x (xs ++ item ∷ []) are (acting.lit lit c agrees)
  stops_last true dark c agrees whole item are =
      let d = acting.dark dark c agrees in
      let stopped = lines.stopped_at_cut w c actor items p1 a1 (acting.own c agrees) d in
      subst (StopsNear c) are (d.last, stopped.0, stopped.1)

  stops_in : (whole : List Item) (item : Item) (rest : List Item) → items ≡ whole ++ item ∷ rest → (c : Context) → Agrees w.path a c → StopsNear c (whole ++ item ∷ [])
  stops_in whole item [] are c agrees = stops_last lost refl c agrees whole item are
  stops_in whole item (next ∷ rest) are c agrees =
      let those : items ≡ (whole ++ item ∷ []) ++ next ∷ rest = are ∙ sym (append_assoc whole (item ∷ []) (next ∷ rest)) in
      let stopped = stopped_by lost refl c agrees (whole ++ item ∷ []) next rest those in
      (stopped.last, stopped.begun, acting.near (order_in w actor) c agrees (whole ++ item ∷ []) next rest those stopped.last stopped.starts)

  broke : (old mid new : K) → took old (items_text (letter_lines w actor)) mid → Breaks took mid items new
      → Steps took w actor a old (Err SinkFailed) (behind_step w actor p1) a1 new
  broke old mid new first b =
      let those = b.whole ++ b.item ∷ [] in
      record {
        lines = letter_lines w actor ++ those;
        wrote = part_behind took both old mid new (letter_lines w actor) those first (broken_part took mid new items b);
        tells = for_state (λ s. StepTells w s actor (letter_lines w actor ++ those) (Err SinkFailed) (behind_step w actor p1) a1) (λ c agrees.
            let stops = stops_in b.whole b.item b.rest b.are c agrees in
            (stops.0, subst (λ xs. Begun w (before w c) actor xs stops.0) (as_lines c agrees those) stops.1, stops.2));
        ends = tt;
        dark = λ none. absurd none;
        causes = behind_letter a1 those (Err SinkFailed) (acting.front those b.rest (b.are ∙ sym (append_assoc b.whole (b.item ∷ []) b.rest)));
        image = acting.image;
      }

  -- or behind it, or the power came back, or the run ended
  ends : (c : Context) → Agrees w.path a c → (d : DarkIn w c actor items p1 a1) → (more : List Item) (p' : PathState) (a' : ArrayState)
      → (first : List Item) (end : End) → more ≡ first ++ Off end ∷ [] → StaysDark d.last more a' → StaysSo (effect d.last Cut) more → EndsRun w c actor (items ++ Cut ∷ more) a'
  ends c agrees d more p' a' first end are stays so =
      subst (λ xs. EndsRun w c actor (items ++ Cut ∷ xs) a') (sym are)
      (lines.ended w c actor items p1 a1 first end a' (acting.own c agrees) d (subst (λ xs. StaysDark d.last xs a') are stays) (subst (StaysSo (effect d.last Cut)) are so))

  leads : (c : Context) → Agrees w.path a c → DarkIn w c actor items p1 a1 → (more : List Item) (result : Result (Unit {0}) Halt) (p' : PathState) (a' : ArrayState)
      → HasEnd more result → ((s : State) (o : OrderState) → IsLosing s p1 o a1 → Leaves s more result p' a') → ((s : State) (o : OrderState) → IsLosing s p1 o a1 → StaysSo (effect s Cut) more)
      → StepTells w (before w c) actor (shown (before w c) actor (items ++ Cut ∷ more)) result (behind_step w actor p') a'
  leads c agrees d more (Ok done) p' a' end leaves stays =
      lines.back w c actor items p1 a1 more p' a' (acting.own c agrees) d (leaves d.last (order_in w actor) d.losing) (stays d.last (order_in w actor) d.losing) (acting.used c agrees d)
  leads c agrees d more (Err SinkFailed) p' a' end leaves stays =
      let stopped = lines.stopped_behind w c actor items p1 a1 more a' (acting.own c agrees) d (leaves d.last (order_in w actor) d.losing) (stays d.last (order_in w actor) d.losing) in
      (stopped.last, stopped.begun, stopped.near)
  leads c agrees d more (Err OpenFault) p' a' end leaves stays =
      ends c agrees d more p' a' end.0 Fault end.1 (leaves d.last (order_in w actor) d.losing) (stays d.last (order_in w actor) d.losing)
  leads c agrees d more (Err PowerGone) p' a' end leaves stays =
      ends c agrees d more p' a' end.0 Dead end.1 (leaves d.last (order_in w actor) d.losing) (stays d.last (order_in w actor) d.losing)
  leads c agrees d more (Err BadImage) p' a' end leaves stays =
      ends c agrees d more p' a' end.0 Image end.1 (leaves d.last (order_in w actor) d.losing) (stays d.last (order_in w actor) d.losing)

  loses : (old mid late new : K) (result : Result (Unit {0}) Halt) (p' : PathState) (a' : ArrayState) → took old (items_text (letter_lines w actor)) mid → took mid (items_text items) late → lost ≡ true
      → Loses took p1 a1 late result p' a' new → Steps took w actor a old result (behind_step w actor p') a' new
  loses old mid late new result p' a' first taken dark l = record {
    lines = letter_lines w actor ++ (items ++ Cut ∷ l.items);
    wrote = wrote_behind took both old mid new (letter_lines w actor) (items ++ Cut ∷ l.items) result first
        (wrote_behind took both mid late new items (Cut ∷ l.items) result taken l.wrote);
    tells = for_state (λ s. StepTells w s actor (letter_lines w actor ++ (items ++ Cut ∷ l.items)) result (behind_step w actor p') a') (λ c agrees.
        subst (λ xs. StepTells w (before w c) actor xs result (behind_step w actor p') a') (as_lines c agrees (items ++ Cut ∷ l.items))
        (leads c agrees (acting.dark dark c agrees) l.items result p' a' l.end l.leaves l.stays));
    ends = end_behind result (letter_lines w actor) (items ++ Cut ∷ l.items) (end_behind result items (Cut ∷ l.items) (end_behind result (Cut ∷ []) l.items l.end));
    dark = λ _. cut_behind (letter_lines w actor) (items ++ Cut ∷ l.items) (cut_among items l.items);
    causes = behind_letter a' (items ++ Cut ∷ l.items) result (acting.cut dark a' l.items result l.causes);
    image = l.image acting.image;
  }

  pub stepped : (old mid new : K) (result : Result (Unit {0}) Halt) (p' : PathState) (a' : ArrayState) → took old (items_text (letter_lines w actor)) mid
      → Written took items lost p1 a1 mid result p' a' new → Steps took w actor a old result (behind_step w actor p') a' new
  stepped old mid new result p' a' first (inl b) = rw (b.failed, b.path, b.array) (broke old mid new first b.breaks)
  stepped old mid new result p' a' first (inr (inl went)) = rw (went.ok, went.path, went.array) (well old mid new first went.taken went.lit)
  stepped old mid new result p' a' first (inr (inr went)) = loses old mid went.mid new result p' a' first went.taken went.dark went.loses
