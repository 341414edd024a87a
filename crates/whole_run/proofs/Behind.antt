-- The first line, and what came behind it.
use Rattle.std.proofs.Common.{◌≡◌, ◌∙◌, ◌++◌, ◌∷◌, ℕ, ◌+◌, true, IfSome, List, [], Option, Some, Result, Ok, Err, ap, refl, sym, subst, arith, length, zero, suc, ◌≤◌, inl, inr, not, false}
use Rattle.std.specs.Prelude.{count_by, replicate}
use Rattle.io_edge.specs.Sink.{Joins}
use Rattle.storage_machine.specs.declared.state.State.{State}
use Rattle.storage_model.specs.declared.block.Block.{Block}
use Rattle.storage_model.specs.declared.ends.Halt.{Halt}
use Rattle.storage_model.specs.declared.ends.Halt.TheVariants.{SinkFailed, OpenFault, PowerGone, BadImage}
use Rattle.storage_model.specs.declared.faults.Faults.{Faults}
use Rattle.storage_model.specs.declared.plan.Plan.{Plan}
use Rattle.storage_model.specs.declared.trace.End.{End}
use Rattle.storage_model.specs.declared.trace.End.TheVariants.{Good}
use Rattle.storage_model.specs.declared.trace.Item.{Item}
use Rattle.storage_model.specs.declared.trace.Item.TheVariants.{Card}
use Rattle.storage_runs.specs.Laws.{joined}
use Rattle.run_laws.specs.Whole.{Finishes as FinishesSo, Whole, card_line, lines_shown, off_lines, opened}
use Rattle.storage_model.specs.Count.{Count, Later}
use Rattle.storage_model.specs.declared.faults.Letter.{Letter}
use Rattle.cut_order.specs.Order.{OrderState, fresh}
use Rattle.step_laws.proofs.EndLines.{cut_behind}
use Rattle.step_laws.specs.Steps.{NeedsCut}
use Rattle.trace_print.specs.Prints.{RoseBy, halt_faults, is_cut_line, is_flash}
use Rattle.whole_run.specs.Cuts.{RoseWith, is_power, power_left}
use Rattle.array_edge.specs.Array.{ArrayState}
use Rattle.card_core.specs.Card.{sectors}
use Rattle.card_store.specs.Store.{IsOpen}
use Rattle.intent_store.specs.Intent.{ShowsImage, shown_by}
use Rattle.power_step.proofs.Counting.{count_no, count_yes, fault_once, rose_before, rose_none}
use Rattle.power_step.proofs.Taking.{wrote_behind}
use Rattle.power_step.specs.Loses.{EndsBy, HasEnd}
use Rattle.power_step.specs.Wrote.{Wrote}
use Rattle.world.specs.Runs.{Boots, first_line}
use Rattle.world_state.specs.Path.{plan_of}
use Rattle.world_steps.specs.World.{StandsFor, WorldState}
use Rattle.whole_run.specs.Course.{Ends, EndsIn, Parts}
use Rattle.whole_run.specs.Whole.{HasLastLine, RunTells, Runs, StopsBefore, halt_in}
use Rattle.whole_run.specs.declared.run.Stop.{Stop}
use Rattle.whole_run.specs.declared.run.Stop.TheVariants.{Before, Behind}
use Rattle.whole_run.proofs.Went.{end_behind, later_on}

-- the result of a run whose first line came
abbrev pub behind : Result (Unit {0}) Halt → Result (Unit {0}) Stop
behind (Ok done) = Ok tt
behind (Err halt) = Err (Behind halt)

-- the run stopped before it was whole
module _ {K : Type 0} (took : K → List ℕ → K → Type 0) (plan : Plan) (faults : Faults) (a : ArrayState) (old : K) (w1 : WorldState) (a1 : ArrayState) (mid : K) where
  broken_first : Boots took plan faults a old (Err SinkFailed) w1 a1 mid → (base : List Block) → shown_by a ≡ Some base → first_line w1.path ∷ [] ≡ card_line base plan ∷ []
  broken_first boots base shown =
      let first = subst (λ o. IfSome o (λ base. first_line w1.path ≡ card_line base plan)) (boots.shown ∙ shown) (boots.broken refl) in
      ap (λ item. item ∷ []) first

  none_cut : Later a.cuts a1.cuts → RoseWith 0 0 (length faults.cuts + count_by is_power faults.turns) a.cuts a1.cuts
  none_cut later = let low = later.value in inl (omega (arith, low))

  pub stops_before : (halt : Halt) → Boots took plan faults a old (Err halt) w1 a1 mid → Runs took plan faults a old (Err (Before halt)) w1 a1 mid
  stops_before SinkFailed boots = record {
    lines = first_line w1.path ∷ [];
    wrote = boots.wrote;
    ends = tt;
    before = (tt, boots.cause, boots.image, boots.shown);
    tells = λ base shown. (broken_first boots base shown, boots.shown ∙ shown);
    settled = λ is. absurd (cc is);
    is_open = λ is. absurd (cc is);
    later = record { faults = boots.later_faults; cuts = boots.later_cuts };
    flash = rose_none a.faults a1.faults boots.later_faults;
    cuts = none_cut boots.later_cuts;
    image = boots.image;
  }
  stops_before OpenFault boots = record {
    lines = [];
    wrote = boots.wrote;
    ends = tt;
    before = (refl, boots.cause, boots.image, boots.shown);
    tells = λ base shown. boots.shown ∙ shown;
    settled = λ is. absurd (cc is);
    is_open = λ is. absurd (cc is);
    later = record { faults = boots.later_faults; cuts = boots.later_cuts };
    flash = fault_once a.faults a.faults a1.faults (record { value = omega arith; stands = λ end. end }) boots.cause;
    cuts = none_cut boots.later_cuts;
    image = boots.image;
  }
  stops_before PowerGone boots = record {
    lines = [];
    wrote = boots.wrote;
    ends = tt;
    before = (refl, boots.cause, boots.image, boots.shown);
    tells = λ base shown. boots.shown ∙ shown;
    settled = λ is. absurd (cc is);
    is_open = λ is. absurd (cc is);
    later = record { faults = boots.later_faults; cuts = boots.later_cuts };
    flash = rose_none a.faults a1.faults boots.later_faults;
    cuts = none_cut boots.later_cuts;
    image = boots.image;
  }
  stops_before BadImage boots = record {
    lines = [];
    wrote = boots.wrote;
    ends = tt;
    before = (refl, boots.cause, boots.image, boots.shown);
    tells = λ base shown. boots.shown ∙ shown;
    settled = λ is. absurd (cc is);
    is_open = λ is. absurd (cc is);
    later = record { faults = boots.later_faults; cuts = boots.later_cuts };
    flash = rose_none a.faults a1.faults boots.later_faults;
    cuts = none_cut boots.later_cuts;
    image = boots.image;
  }

-- the line of the card is the machine's
first_is : (w : WorldState) (base : List Block) (plan : Plan) → plan_of w.path ≡ plan → sectors w.path.card ≡ length base → first_line w.path ≡ card_line base plan
first_is w base plan is long = subst (λ p. Card (sectors w.path.card) p.depth (lines_shown p) ≡ card_line base plan) (sym is) (ap (λ n. Card n plan.depth (lines_shown plan)) long)

-- an end behind it
module _ (base : List Block) (plan : Plan) (faults : Faults) (first : Item) (is : first ≡ card_line base plan) (lines : List Item) (w' : WorldState) (a' : ArrayState) where
  whole_by : (end : Option End) (front last : List Item) (s t : State) → lines ≡ front ++ last → Parts (opened base plan faults) front s → last ≡ off_lines end → FinishesSo s end t → Whole base plan faults (first ∷ lines) t
  whole_by end front last s t are parts off finishes = record {
    parts = parts.0;
    last = s;
    end = end;
    printed = ap (λ item. item ∷ lines) is ∙ ap (λ xs. card_line base plan ∷ xs) (are ∙ (ap (λ xs. xs ++ last) parts.1 ∙ ap (λ xs. joined parts.0 ++ xs) off));
    course = parts.2;
    finishes = finishes;
  }

  good_by : (front last : List Item) → lines ≡ front ++ last → last ≡ off_lines (Some Good) → EndsBy Good (first ∷ lines)
  good_by front last are off = (first ∷ front, ap (λ xs. first ∷ xs) (are ∙ ap (λ xs. front ++ xs) off))

  pub tells_by : (result : Result (Unit {0}) Halt) → EndsIn (opened base plan faults) lines result w' a' → RunTells base plan faults (first ∷ lines) (behind result) w' a'
  tells_by (Ok done) (front, last, s, are, parts, (t, off, finishes, pages, stands)) = (t, whole_by (Some Good) front last s t are parts off finishes, good_by front last are off, pages, stands)
  tells_by (Err SinkFailed) (front, last, s, are, parts, breaks) = record {
    parts = parts.0;
    last = s;
    first = last;
    printed = ap (λ item. item ∷ lines) is ∙ ap (λ xs. card_line base plan ∷ xs) (are ∙ ap (λ xs. xs ++ last) parts.1);
    course = parts.2;
    breaks = breaks;
  }
  tells_by (Err OpenFault) (front, last, s, are, parts, (end, t, off, finishes, near)) = (t, whole_by end front last s t are parts off finishes, near)
  tells_by (Err PowerGone) (front, last, s, are, parts, (end, t, off, finishes, near)) = (t, whole_by end front last s t are parts off finishes, near)
  tells_by (Err BadImage) (front, last, s, are, parts, (end, t, off, finishes, near)) = (t, whole_by end front last s t are parts off finishes, near)

last_by : (first : Item) (lines : List Item) (result : Result (Unit {0}) Halt) → HasEnd lines result → (NeedsCut result → 1 ≤ count_by is_cut_line lines) → HasLastLine (first ∷ lines) (behind result)
last_by first lines (Ok done) end dark = tt
last_by first lines (Err halt) end dark = (end_behind (Err halt) (first ∷ []) lines end, λ needs. cut_behind (first ∷ []) lines (dark needs))

good_then : (P : Type 0) (result : Result (Unit {0}) Halt) → (result ≡ Ok tt → P) → behind result ≡ Ok tt → P
good_then P (Ok done) then is = then refl
good_then P (Err halt) then is = absurd (cc is)

before_by : (a a' : ArrayState) (lines : List Item) (result : Result (Unit {0}) Halt) → ShowsImage a → StopsBefore a a' lines (behind result)
before_by a a' lines (Ok done) image = image
before_by a a' lines (Err halt) image = image

wrote_by : {K : Type 0} (took : K → List ℕ → K → Type 0) (old new : K) (lines : List Item) (result : Result (Unit {0}) Halt) → Wrote took old lines result new → Wrote took old lines (halt_in (behind result)) new
wrote_by took old new lines (Ok done) wrote = wrote
wrote_by took old new lines (Err halt) wrote = wrote

halts_by : (result : Result (Unit {0}) Halt) → halt_faults (halt_in (behind result)) ≡ halt_faults result
halts_by (Ok done) = refl
halts_by (Err halt) = refl

-- nothing is used at the first line
fresh_left : (turns : List Letter) (cuts : List ℕ) → power_left (fresh turns cuts) ≡ length cuts + count_by is_power turns
fresh_left turns cuts = ap (λ n. n + count_by is_power turns) (unused (length cuts))
  where
    unused : (n : ℕ) → count_by not (replicate n false) ≡ n
    unused zero = refl
    unused (suc n) = let one = count_yes not false (replicate n false) refl in let rest = unused n in omega (arith, one, rest)

cuts_behind : (first : Item) (lines : List Item) (order : OrderState) (faults : Faults) → order ≡ fresh faults.turns faults.cuts → (a b c : Count) → Later a b → is_cut_line first ≡ false
    → RoseWith (count_by is_cut_line lines) 0 (power_left order) b c → RoseWith (count_by is_cut_line (first ∷ lines)) 0 (length faults.cuts + count_by is_power faults.turns) a c
cuts_behind first lines order faults is a b c later none (inl low) =
    let same = count_no is_cut_line first lines none in
    let left : power_left order ≡ length faults.cuts + count_by is_power faults.turns = ap power_left is ∙ fresh_left faults.turns faults.cuts in
    let least = later.value in
    inl (omega (arith, same, left, least, low))
cuts_behind first lines order faults is a b c later none (inr end) = inr end

module _ {K : Type 0} (took : K → List ℕ → K → Type 0) (both : Joins took) (plan : Plan) (faults : Faults) (a : ArrayState) (old : K) (w1 : WorldState) (a1 : ArrayState) (mid : K) (w' : WorldState) (a' : ArrayState) (new : K) where
  pub runs_on : (result : Result (Unit {0}) Halt) → Boots took plan faults a old (Ok tt) w1 a1 mid → Ends took w1 a1 mid result w' a' new → Runs took plan faults a old (behind result) w' a' new
  runs_on result boots ends =
      let first = first_line w1.path in
      record {
        lines = first ∷ ends.lines;
        wrote = wrote_by took old new (first ∷ ends.lines) result (wrote_behind took both old mid new (first ∷ []) ends.lines result boots.wrote ends.wrote);
        ends = last_by first ends.lines result ends.ends ends.dark;
        before = before_by a a' (first ∷ ends.lines) result boots.cause;
        tells = λ base shown.
            let stands = subst (λ o. IfSome o (λ base. StandsFor w1 a1 (opened base plan faults) × (sectors w1.path.card ≡ length base))) (boots.shown ∙ shown) boots.stands in
            tells_by base plan faults first (first_is w1 base plan boots.keeps stands.1) ends.lines w' a' result (ends.tells (opened base plan faults) stands.0);
        settled = good_then (a'.settled ≡ true) result ends.settled;
        is_open = good_then (IsOpen w'.path.card.store a') result ends.is_open;
        later = later_on a a1 a' (record { faults = boots.later_faults; cuts = boots.later_cuts }) ends.later;
        flash =
            subst (λ n. RoseBy n a.faults a'.faults)
            (ap (λ n. n + halt_faults result) (sym (count_no is_flash first ends.lines refl)) ∙ ap (λ n. count_by is_flash (first ∷ ends.lines) + n) (sym (halts_by result)))
            (rose_before (count_by is_flash ends.lines + halt_faults result) a.faults a1.faults a'.faults boots.later_faults ends.flash);
        cuts = cuts_behind first ends.lines w1.order faults boots.order a.cuts a1.cuts a'.cuts boots.later_cuts refl ends.cuts;
        image = λ _. ends.image;
      }
