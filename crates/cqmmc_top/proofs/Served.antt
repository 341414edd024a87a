-- What a run answers, by what it came to.
use Rattle.std.proofs.Common.{◌≡◌, ◌≤◌, ◌⊎◌, ◌+◌, ◌∙◌, ◌++◌, ◌∷◌, inl, inr, ℕ, suc, Bool, true, false, List, [], IfSome, None, Option, Some, OnOk, Result, Ok, Err, is_some, ap, refl, sym, subst, arith}
use Rattle.std.specs.Option.{IsSomeAnd, option_map}
use Rattle.std.specs.Prelude.{count_by, is_ok, length, not}
use Rattle.io_edge.specs.Sink.{Joins, TookPart}
use Rattle.storage_machine.specs.declared.state.State.{State}
use Rattle.storage_model.specs.Count.{Count, Later, Rose, count_of}
use Rattle.storage_model.specs.declared.block.Block.{Block}
use Rattle.storage_model.specs.declared.ends.Halt.{Halt}
use Rattle.storage_model.specs.declared.ends.Halt.TheVariants.{SinkFailed, OpenFault, PowerGone, BadImage as BadPages}
use Rattle.storage_model.specs.declared.faults.Faults.{Faults}
use Rattle.storage_model.specs.declared.plan.Plan.{Plan}
use Rattle.storage_model.specs.declared.trace.End.{End}
use Rattle.storage_model.specs.declared.trace.End.TheVariants.{Good, Fault, Dead, Image}
use Rattle.storage_model.specs.declared.trace.Item.{Item}
use Rattle.storage_order.specs.Accept.{accept}
use Rattle.run_laws.specs.Whole.{Begun, Finishes, Front, IsAccepted, IsWholeFrontTaken, IsWholeTaken, Whole, card_line, off_lines, opened}
use Rattle.storage_runs.specs.Laws.{joined}
use Rattle.trace_print.specs.Prints.{RoseBy, halt_faults, is_cut_line, is_flash}
use Rattle.answer_laws.specs.Answers.{IsAnswered}
use Rattle.array_edge.specs.Array.{ArrayState}
use Rattle.rest_array.proofs.On.{on_same}
use Rattle.array_edge.specs.Hits.{reached_cuts, reached_fails}
use Rattle.array_edge.specs.Script.{HasMet, HasRun, IsWithinHits, with_more}
use Rattle.intent_store.specs.Calls.{IsStartAgain}
use Rattle.intent_store.specs.Intent.{ShowsImage, shown_by}
use Rattle.power_step.proofs.Counting.{later_both}
use Rattle.power_step.specs.Loses.{EndsBy}
use Rattle.power_step.specs.Wrote.{Wrote}
use Rattle.step_laws.specs.Steps.{NeedsCut}
use Rattle.world.specs.First.{opening_end}
use Rattle.whole_run.specs.Course.{BreaksNear}
use Rattle.whole_run.specs.Cuts.{RoseWith, is_power}
use Rattle.whole_run.specs.Whole.{Breaks, RunTells, Runs, halt_in}
use Rattle.whole_run.specs.declared.run.Stop.{Stop}
use Rattle.whole_run.specs.declared.run.Stop.TheVariants.{Before, Behind}
use Rattle.world_state.specs.Path.{PathState}
use Rattle.world_state.specs.Stands.{IsNear, Stands}
use Rattle.cut_order.specs.Order.{OrderState}
use Rattle.world_steps.specs.World.{WorldState}
use Rattle.cqmmc_top.specs.Answers.{HasBegun, HasCalls, OpeningFailed, by_opening, fail_lines, program_cuts, refused_end}
use Rattle.cqmmc_top.specs.Command.{RunAnswers}
use Rattle.cqmmc_top.specs.Concludes.{Concludes}
use Rattle.cqmmc_top.specs.Print.{run_status}
use Rattle.cqmmc_top.specs.Refusal.{Says, refusal_text, status_of}
use Rattle.cqmmc_top.specs.Run.{AreCutsExplained, AreFaultsExplained, EndedBySink, EndedEarly, EndedSo, EndedWell, HasAnswers, IsUndisturbed}
use Rattle.cqmmc_top.specs.Texts.{AreFaultsOf, IsPlanOf}
use Rattle.cqmmc_top.specs.declared.refusal.Refusal.{Refusal}
use Rattle.cqmmc_top.specs.declared.refusal.Refusal.TheVariants.{BadImage, ArrayFault, NoPower}
use Rattle.cqmmc_top.proofs.Answered.{has_answers}
use Rattle.cqmmc_top.proofs.Openings.{openings}
use Rattle.cqmmc_top.proofs.Lines.{cuts_short, fails_short, rose_either, rose_parts, rose_with}

-- ---- the array of a run: the one that was handed in, with what its fault text adds

abbrev pub started : ArrayState → ArrayState
started a = record { told = a.told; count = a.count; powered = false; faults = with_more a.faults 0; cuts = with_more a.cuts 0; programs = count_of 0; fetches = count_of 0; settled = a.settled }

abbrev pub worked : ArrayState → Bool → (faults cuts programs fetches : ℕ) → ArrayState
worked b powered faults cuts programs fetches = record { told = b.told; count = b.count; powered = powered; faults = with_more b.faults faults; cuts = with_more b.cuts cuts; programs = count_of programs; fetches = count_of fetches; settled = b.settled }

-- a run stands for a state over what an array shows
stands_over : (p : PathState) (o : OrderState) (s : State) (b : ArrayState) (powered : Bool) (faults cuts programs fetches : ℕ) → Stands p o (worked b powered faults cuts programs fetches) s → Stands p o b s
stands_over p o s b powered faults cuts programs fetches stands = record {
  context = stands.context;
  state = stands.state;
  agrees = record {
    told = stands.agrees.told;
    tied = stands.agrees.tied;
    number = stands.agrees.number;
    named = stands.agrees.named;
    store = record { sectors = stands.agrees.store.sectors; lines = stands.agrees.store.lines; pending = stands.agrees.store.pending; latest = stands.agrees.store.latest };
    within = stands.agrees.within;
    read = stands.agrees.read;
    few = stands.agrees.few;
    deferred = stands.agrees.deferred;
  };
}

breaks_over : (base : List Block) (plan : Plan) (text : Faults) (lines : List Item) (b : ArrayState) (powered : Bool) (faults cuts programs fetches : ℕ) → Breaks base plan text lines (worked b powered faults cuts programs fetches)
    → Breaks base plan text lines b
breaks_over base plan text lines b powered faults cuts programs fetches breaks =
    record { parts = breaks.parts; last = breaks.last; first = breaks.first; printed = breaks.printed; course = breaks.course; breaks = breaks.breaks }

shown_as : {X Y : Type 0} (f : X → Y) (told : Option X) (y : Y) → is_some told ≡ true → IfSome (option_map f told) (λ z. z ≡ y) → option_map f told ≡ Some y
shown_as f None y some is = absurd (cc some)
shown_as f (Some x) y some is = ap Some is

-- ---- the trace

module _ (base : List Block) (plan : Plan) (faults : Faults) (lines : List Item) (b : ArrayState) (world : Option WorldState) (taken : (t : State) → Whole base plan faults lines t → accept base plan faults lines ≡ Ok t)
    (front : (lines ≡ []) ⊎ Front base plan faults lines → IsAccepted base plan faults lines) where
  pub ended_early : (end : End) → EndsBy end lines → (t : State) × Whole base plan faults lines t × IfSome (shown_by b) (IsNear t) → EndedEarly end base plan faults lines b
  ended_early end last told = record { state = told.0; accepted = taken told.0 told.1; last = last; near = told.2 }

  -- the sink failed in a line of a part, in the end's line, or in the first one
  front_taken : (breaks : Breaks base plan faults lines b) → Begun breaks.last breaks.first → IsAccepted base plan faults lines
  front_taken breaks begun = front (inr (record { parts = breaks.parts; last = breaks.last; first = breaks.first; printed = breaks.printed; course = breaks.course; begun = begun }))

  whole_taken : (breaks : Breaks base plan faults lines b) (end : End) (t : State) → breaks.first ≡ off_lines (Some end) → Finishes breaks.last (Some end) t → IsAccepted base plan faults lines
  whole_taken breaks end t off finishes = (
    t,
    taken t (record {
      parts = breaks.parts;
      last = breaks.last;
      end = Some end;
      printed = breaks.printed ∙ ap (λ xs. card_line base plan ∷ (joined breaks.parts ++ xs)) off;
      course = breaks.course;
      finishes = finishes;
    }),
  )

  broken_taken : (breaks : Breaks base plan faults lines b) → BreaksNear breaks.last breaks.first b → IsAccepted base plan faults lines
  broken_taken breaks (inl opens) = front_taken breaks (inr (inl (opens.0, opens.1)))
  broken_taken breaks (inr (inl drops)) = front_taken breaks (inr (inr drops.0))
  broken_taken breaks (inr (inr (end, t, off, finishes, near))) = whole_taken breaks end t off finishes

  ended_broken : Breaks base plan faults lines b → EndedBySink base plan faults lines b
  ended_broken breaks = let it = broken_taken breaks breaks.breaks in record { state = it.0; accepted = it.1; near = inr breaks }

  ended_at_once : lines ≡ card_line base plan ∷ [] → shown_by b ≡ Some base → EndedBySink base plan faults lines b
  ended_at_once first shown =
      let it = front (inr (record { parts = []; last = opened base plan faults; first = []; printed = first; course = refl; begun = inl refl })) in
      record { state = it.0; accepted = it.1; near = inl (first, shown) }

  pub ended_well : (w : WorldState) → world ≡ Some w → (t : State) × Whole base plan faults lines t × EndsBy Good lines × IfSome (shown_by b) (λ pages. pages ≡ t.base) × Stands w.path w.order b t → EndedWell base plan faults lines world b
  ended_well w is told = record {
    state = told.0;
    accepted = taken told.0 told.1;
    last = told.2;
    shown = shown_as _ b.told told.0.base told.4.agrees.told told.3;
    stands = subst (λ world. IsSomeAnd world (λ w. Stands w.path w.order b told.0)) (sym is) told.4;
  }

-- ---- where nothing fails and no power is lost

module _ (faults : Faults) (old new : ArrayState) (calls : HasCalls faults old new) (lines : List Item) (is : IsUndisturbed faults old new) where
  no_fault : AreFaultsExplained faults old new calls lines (Err OpenFault) → ⊥
  no_fault (inl low) =
      let none : fail_lines faults old new calls ≡ 0 = ap (reached_fails calls.programs calls.fetches) is.calls in
      let still = is.fails.0 in
      omega (arith, low, none, still)
  no_fault (inr end) = cc (end, is.fails.1)

  no_cut : 1 ≤ count_by is_cut_line lines → AreCutsExplained faults old new calls lines → ⊥
  no_cut some (inl low) =
      let none : program_cuts faults old new calls ≡ 0 = ap (reached_cuts calls.programs calls.fetches) is.calls in
      let unasked : length faults.cuts ≡ 0 = ap (λ (xs : List ℕ). length xs) is.cuts in
      let still = is.loses.0 in
      let letters = is.letters in
      omega (arith, low, none, unasked, letters, still, some)
  no_cut some (inr end) = cc (end, is.loses.1)

  no_flash : (result : Result (Unit {0}) Halt) → AreFaultsExplained faults old new calls lines result → count_by is_flash lines ≡ 0
  no_flash result (inl low) =
      let none : fail_lines faults old new calls ≡ 0 = ap (reached_fails calls.programs calls.fetches) is.calls in
      let still = is.fails.0 in
      omega (arith, low, none, still)
  no_flash result (inr end) = absurd (cc (end, is.fails.1))

  no_cuts : AreCutsExplained faults old new calls lines → count_by is_cut_line lines ≡ 0
  no_cuts (inl low) =
      let none : program_cuts faults old new calls ≡ 0 = ap (reached_cuts calls.programs calls.fetches) is.calls in
      let unasked : length faults.cuts ≡ 0 = ap (λ (xs : List ℕ). length xs) is.cuts in
      let still = is.loses.0 in
      let letters = is.letters in
      omega (arith, low, none, unasked, letters, still)
  no_cuts (inr end) = absurd (cc (end, is.loses.1))

  undisturbed : (result : Result (Unit {0}) Halt) → AreFaultsExplained faults old new calls lines result → AreCutsExplained faults old new calls lines → (NeedsCut result → 1 ≤ count_by is_cut_line lines)
      → (result ≡ Ok tt) ⊎ (result ≡ Err SinkFailed)
  undisturbed (Ok done) flash cuts dark = inl refl
  undisturbed (Err SinkFailed) flash cuts dark = inr refl
  undisturbed (Err OpenFault) flash cuts dark = absurd (no_fault flash)
  undisturbed (Err PowerGone) flash cuts dark = absurd (no_cut (dark tt) cuts)
  undisturbed (Err BadPages) flash cuts dark = absurd (no_cut (dark tt) cuts)

-- ---- a refusal behind no line

abbrev IsSaid : {K : Type 0} → (K → List ℕ → K → Type 0) → (K → Count) → Refusal → ℕ → K → K → Type 0
IsSaid took faults_of refusal status new at = ((status ≡ status_of refusal) × took at (refusal_text refusal) new) ⊎ ((status ≡ 5) × TookPart took at (refusal_text refusal) new × Rose (faults_of at) (faults_of new))

says_behind : {K : Type 0} (took : K → List ℕ → K → Type 0) (both : Joins took) (faults_of : K → Count) (refusal : Refusal) (old mid new : K) (status : ℕ) → took old [] mid → Later (faults_of old) (faults_of mid)
    → Says took faults_of refusal mid status new → Says took faults_of refusal old status new
says_behind {K} took both faults_of refusal old mid new status none later says = record { later = later_both (faults_of old) (faults_of mid) (faults_of new) later says.later; said = said says.said }
  where
    rose : Rose (faults_of mid) (faults_of new) → Rose (faults_of old) (faults_of new)
    rose (inl up) = let low = later.value in inl (omega (arith, up, low))
    rose (inr end) = inr end

    said : IsSaid took faults_of refusal status new mid → IsSaid took faults_of refusal status new old
    said (inl whole) = inl (whole.0, both.join old mid new [] (refusal_text refusal) none whole.1)
    said (inr part) = inr (part.0, record { count = part.1.count; part = part.1.part; taken = both.join old mid new [] _ none part.1.taken }, rose part.2)

-- ---- the answer

module _ {K : Type 0} (took : K → List ℕ → K → Type 0) (both : Joins took) (faults_of : K → Count)
    (whole : (base : List Block) (plan : Plan) (faults : Faults) (lines : List Item) (t : State) → IsWholeTaken base plan faults lines t)
    (front : (base : List Block) (plan : Plan) (faults : Faults) (lines : List Item) → IsWholeFrontTaken base plan faults lines)
    (answered : (base : List Block) (plan : Plan) (faults : Faults) (lines : List Item) (id : ℕ) → IsAnswered base plan faults lines id)
    (requests fault_text : Option (List ℕ)) (first first' second second' : Count) (plan : Plan) (faults : Faults) (means : IsPlanOf requests plan) (meant : AreFaultsOf fault_text faults)
    (a b : ArrayState) (powered : Bool) (made cut programs fetches : ℕ) (within : IsWithinHits faults.array made cut programs fetches) (ran : HasRun a b faults.array programs fetches)
    (old mid new : K) (later : Later (faults_of old) (faults_of mid)) (w : WorldState) (status : ℕ) (world : Option WorldState)
    (some : status ≡ 0 → world ≡ Some w) (none : (status ≡ 0 → ⊥) → world ≡ None) where
  abbrev after : ArrayState
  after = worked b powered made cut programs fetches

  abbrev calls : HasCalls faults a b
  calls = record { programs = programs; fetches = fetches; made = ran }

  abbrev failed_calls : ℕ
  failed_calls = reached_fails programs fetches faults.array

  abbrev cut_calls : ℕ
  cut_calls = reached_cuts programs fetches faults.array

  fails_most : failed_calls ≤ 4096
  fails_most = let short = fails_short programs fetches faults.array in let few = meant.few in omega (arith, short, few)

  cuts_most : cut_calls ≤ 4096
  cuts_most = let short = cuts_short programs fetches faults.array in let few = meant.few in omega (arith, short, few)

  -- the image wasn't opened
  refused : (halt : Halt) (refusal : Refusal) → Runs took plan faults (started a) old (Err (Before halt)) w after mid → took old [] mid → OpeningFailed faults a b calls refusal → HasMet a b faults.array made cut programs fetches × IsStartAgain {T = Unit {0}} 8 (started a) after (refused_end refusal) → (status ≡ 0 → ⊥)
      → Says took faults_of refusal mid status new → RunAnswers took faults_of requests first first' fault_text second second' a b old status world new
  refused halt refusal runs nothing failed opens above says = inl (record {
    refusal = refusal;
    cause = by_opening means meant calls failed (openings faults a b calls powered made cut opens.0 fails_most cuts_most (refused_end refusal) opens.1);
    says = says_behind took both faults_of refusal old mid new status nothing later says;
    shown = shown;
    kept = runs.before.2;
    none = none above;
  })
    where
      shown : shown_by b ≡ shown_by a
      shown = runs.before.3

  -- it was served
  served : HasBegun faults a b → (result : Result (Unit {0}) Halt) (lines : List Item) → status ≡ run_status result → Wrote took old lines result new → ShowsImage a
      → ((base : List Block) → shown_by a ≡ Some base → EndedSo base plan faults lines result world b) → OnOk result (b.settled ≡ true) → ShowsImage b → is_some world ≡ is_ok result
      → AreFaultsExplained faults a b calls lines result → AreCutsExplained faults a b calls lines → (NeedsCut result → 1 ≤ count_by is_cut_line lines) → Later (faults_of old) (faults_of new) → (result ≡ Err SinkFailed → Rose (faults_of old) (faults_of new))
      → RunAnswers took faults_of requests first first' fault_text second second' a b old status world new
  served begun result lines is wrote image ended settled kept handed flash cuts dark sink failed = inr (record {
    plan = plan;
    faults = faults;
    requests_mean = means;
    faults_mean = meant;
    image = image;
    result = result;
    is = is;
    lines = lines;
    wrote = wrote;
    ended = ended;
    settled = settled;
    kept = kept;
    handed = handed;
    begun = begun;
    calls = calls;
    flash = flash;
    cuts = cuts;
    completes = λ is. undisturbed faults a b calls lines is result flash cuts dark;
    answered = λ is good base shown. answers_in base (subst (λ r. EndedSo base plan faults lines r world b) good (ended base shown)) (no_flash faults a b calls lines is result flash) (no_cuts faults a b calls lines is cuts);
    sink = sink;
    sink_failed = failed;
  })
    where
      answers_in : (base : List Block) → EndedWell base plan faults lines world b → count_by is_flash lines ≡ 0 → count_by is_cut_line lines ≡ 0 → HasAnswers base plan lines
      answers_in base well none uncut = has_answers answered base plan faults lines well.state well.accepted well.last none uncut

  -- what was written stays where nothing more is
  stayed : (lines : List Item) (result : Result (Unit {0}) Halt) → new ≡ mid → Wrote took old lines result mid → Wrote took old lines result new
  stayed lines result is wrote = subst (λ at. Wrote took old lines result at) (sym is) wrote

  later_on : new ≡ mid → Later (faults_of old) (faults_of new)
  later_on is = subst (λ at. Later (faults_of old) (faults_of at)) (sym is) later

  rose_on : new ≡ mid → Rose (faults_of old) (faults_of mid) → Rose (faults_of old) (faults_of new)
  rose_on is rose = subst (λ at. Rose (faults_of old) (faults_of at)) (sym is) rose

  given : status ≡ 0 → is_some world ≡ true
  given is = ap (λ (x : Option WorldState). is_some x) (some is)

  not_given : (status ≡ 0 → ⊥) → is_some world ≡ false
  not_given above = ap (λ (x : Option WorldState). is_some x) (none above)

  explained : (lines : List Item) (result : Result (Unit {0}) Halt) → RoseBy (count_by is_flash lines + halt_faults result) (with_more a.faults 0) (with_more b.faults made) → AreFaultsExplained faults a b calls lines result
  explained lines result rose = rose_parts (count_by is_flash lines + halt_faults result) made failed_calls a.faults b.faults within.faults_made fails_most rose

  cut_so : (lines : List Item) → RoseWith (count_by is_cut_line lines) 0 (length faults.cuts + count_by is_power faults.turns) (with_more a.cuts 0) (with_more b.cuts cut) → AreCutsExplained faults a b calls lines
  cut_so lines rose = rose_with (count_by is_cut_line lines) cut cut_calls (length faults.cuts + count_by is_power faults.turns) a.cuts b.cuts within.cuts_made cuts_most rose

  -- status 5 and above hand no run back
  no_world : (number : ℕ) → status ≡ suc number → status ≡ 0 → ⊥
  no_world number is zero = absurd (cc (is, zero))

  -- a refusal's status is none
  said_not : (refusal : Refusal) (number : ℕ) → status_of refusal ≡ suc number → IsSaid took faults_of refusal status new mid → status ≡ 0 → ⊥
  said_not refusal number is (inl all) zero = absurd (cc (is, all.0, zero))
  said_not refusal number is (inr part) zero = absurd (cc (part.0, zero))

  -- the openings, by how the run ended
  abbrev pub Opened : Result (Unit {0}) Stop → Type 0
  Opened (Ok done) = HasBegun faults a b
  Opened (Err (Before halt)) = HasMet a b faults.array made cut programs fetches × IsStartAgain 8 (started a) after (opening_end (Err halt))
  Opened (Err (Behind halt)) = HasBegun faults a b

  at_once : HasMet a b faults.array made cut programs fetches × IsStartAgain {T = Unit {0}} 8 (started a) after (Ok tt) → HasBegun faults a b
  at_once opens = record { opened = b; calls = calls; openings = openings faults a b calls powered made cut opens.0 fails_most cuts_most (Ok tt) opens.1; on = on_same b }

  pub answers : (ended : Result (Unit {0}) Stop) → Opened ended → Runs took plan faults (started a) old ended w after mid → Concludes took faults_of ended mid status new
      → (halt_in ended ≡ Err SinkFailed → Rose (faults_of old) (faults_of mid)) → RunAnswers took faults_of requests first first' fault_text second second' a b old status world new
  answers (Ok done) begun runs (is, same) failed =
      served begun (Ok tt) runs.lines is (stayed runs.lines (Ok tt) same runs.wrote) runs.before
      (λ base shown. ended_well base plan faults runs.lines b world (λ t it. whole base plan faults runs.lines t means.valid it) (λ it. front base plan faults runs.lines means.valid it) w (some is) (well (runs.tells base shown))) (runs.settled refl)
      (runs.image runs.before) (given is) (explained runs.lines (Ok tt) runs.flash) (cut_so runs.lines runs.cuts) (λ none. absurd none) (later_on same) (λ is. absurd (cc is))
    where
      well : {base : List Block} → RunTells base plan faults runs.lines (Ok tt) w after → (t : State) × Whole base plan faults runs.lines t × EndsBy Good runs.lines × IfSome (shown_by b) (λ pages. pages ≡ t.base) × Stands w.path w.order b t
      well told = (told.0, told.1, told.2, told.3, stands_over w.path w.order told.0 b powered made cut programs fetches told.4)
  answers (Err (Before SinkFailed)) opens runs (is, same) failed =
      served (at_once opens) (Err SinkFailed) runs.lines is (stayed runs.lines (Err SinkFailed) same runs.wrote) runs.before.1
      (λ base shown. ended_at_once base plan faults runs.lines b world (λ t it. whole base plan faults runs.lines t means.valid it) (λ it. front base plan faults runs.lines means.valid it) (runs.tells base shown).0 (runs.tells base shown).1) tt (runs.image runs.before.1) (not_given (no_world 4 is))
      (explained runs.lines (Err SinkFailed) runs.flash) (cut_so runs.lines runs.cuts) (λ none. absurd none) (later_on same) (λ _. rose_on same (failed refl))
  answers (Err (Before OpenFault)) opens runs says failed =
      refused OpenFault ArrayFault runs (subst (λ lines. Wrote took old lines (Err OpenFault) mid) runs.before.0 runs.wrote)
      (rose_either made failed_calls a.faults b.faults within.faults_made fails_most runs.before.1) opens (said_not ArrayFault 6 refl says.said) says
  answers (Err (Before PowerGone)) opens runs says failed =
      refused PowerGone NoPower runs (subst (λ lines. Wrote took old lines (Err PowerGone) mid) runs.before.0 runs.wrote)
      (rose_parts 8 cut cut_calls a.cuts b.cuts within.cuts_made cuts_most runs.before.1) opens (said_not NoPower 7 refl says.said) says
  answers (Err (Before BadPages)) opens runs says failed =
      refused BadPages BadImage runs (subst (λ lines. Wrote took old lines (Err BadPages) mid) runs.before.0 runs.wrote) runs.before.1 opens (said_not BadImage 5 refl says.said) says
  answers (Err (Behind SinkFailed)) begun runs (is, same) failed =
      served begun (Err SinkFailed) runs.lines is (stayed runs.lines (Err SinkFailed) same runs.wrote) runs.before
      (λ base shown. ended_broken base plan faults runs.lines b world (λ t it. whole base plan faults runs.lines t means.valid it) (λ it. front base plan faults runs.lines means.valid it)
      (breaks_over base plan faults runs.lines b powered made cut programs fetches (runs.tells base shown))) tt (runs.image runs.before) (not_given (no_world 4 is)) (explained runs.lines (Err SinkFailed) runs.flash) (cut_so runs.lines runs.cuts) (λ none. absurd none) (later_on same) (λ _. rose_on same (failed refl))
  answers (Err (Behind OpenFault)) begun runs (is, same) failed =
      served begun (Err OpenFault) runs.lines is (stayed runs.lines (Err OpenFault) same runs.wrote) runs.before
      (λ base shown. ended_early base plan faults runs.lines b world (λ t it. whole base plan faults runs.lines t means.valid it) (λ it. front base plan faults runs.lines means.valid it) Fault runs.ends.0 (runs.tells base shown)) tt (runs.image runs.before) (not_given (no_world 6 is))
      (explained runs.lines (Err OpenFault) runs.flash) (cut_so runs.lines runs.cuts) runs.ends.1 (later_on same) (λ is. absurd (cc is))
  answers (Err (Behind PowerGone)) begun runs (is, same) failed =
      served begun (Err PowerGone) runs.lines is (stayed runs.lines (Err PowerGone) same runs.wrote) runs.before
      (λ base shown. ended_early base plan faults runs.lines b world (λ t it. whole base plan faults runs.lines t means.valid it) (λ it. front base plan faults runs.lines means.valid it) Dead runs.ends.0 (runs.tells base shown)) tt (runs.image runs.before) (not_given (no_world 7 is))
      (explained runs.lines (Err PowerGone) runs.flash) (cut_so runs.lines runs.cuts) runs.ends.1 (later_on same) (λ is. absurd (cc is))
  answers (Err (Behind BadPages)) begun runs (is, same) failed =
      served begun (Err BadPages) runs.lines is (stayed runs.lines (Err BadPages) same runs.wrote) runs.before
      (λ base shown. ended_early base plan faults runs.lines b world (λ t it. whole base plan faults runs.lines t means.valid it) (λ it. front base plan faults runs.lines means.valid it) Image runs.ends.0 (runs.tells base shown)) tt (runs.image runs.before) (not_given (no_world 5 is))
      (explained runs.lines (Err BadPages) runs.flash) (cut_so runs.lines runs.cuts) runs.ends.1 (later_on same) (λ is. absurd (cc is))
