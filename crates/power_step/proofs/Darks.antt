-- A run that ends behind the cut, before the power is on again.
use Rattle.std.proofs.Common.{◌≡◌, ◌∙◌, ◌++◌, ◌∷◌, ◌+◌, ◌-◌, inl, inr, ℕ, Bool, true, false, List, [], Result, Ok, Err, ap, refl, sym, subst, arith}
use Rattle.std.proofs.lemmas.List.{append_assoc, append-nil}
use Rattle.std.specs.Prelude.{count_by}
use Rattle.io_edge.specs.Sink.{Joins}
use Rattle.storage_machine.specs.declared.state.State.{State}
use Rattle.storage_model.specs.declared.ends.Halt.{Halt}
use Rattle.storage_model.specs.declared.ends.Halt.TheVariants.{SinkFailed, OpenFault, PowerGone, BadImage}
use Rattle.storage_model.specs.declared.trace.End.{End}
use Rattle.storage_model.specs.declared.trace.End.TheVariants.{Fault, Dead, Image}
use Rattle.storage_model.specs.declared.trace.Item.{Item}
use Rattle.storage_model.specs.declared.trace.Item.TheVariants.{Cut, Off}
use Rattle.storage_runs.specs.Runs.{StaysSo}
use Rattle.trace_effects.specs.Effects.{effect}
use Rattle.trace_print.specs.Prints.{HasCauses, RoseBy, Takes, halt_faults, is_cut_line, is_flash}
use Rattle.trace_text.specs.Trace.{items_text}
use Rattle.array_edge.specs.Array.{ArrayState}
use Rattle.intent_store.specs.Intent.{shown_by}
use Rattle.card_core.specs.Card.{CardState}
use Rattle.cut_laws.specs.Laws.{further_cuts}
use Rattle.cut_laws.specs.Lost.{AreLost, lost_lines}
use Rattle.cut_order.specs.Order.{OrderState}
use Rattle.dark_laws.proofs.Ends.{ends_dark}
use Rattle.dark_laws.specs.Anew.{Outlasts}
use Rattle.dark_laws.specs.Ends.{LosesSome}
use Rattle.world_state.specs.Path.{PathState}
use Rattle.world_state.specs.Told.{IsLosing, StaysDark}
use Rattle.power_step.specs.Cut.{EndsWith, IsKept, IsReopening, LostWritten, OpensAgain}
use Rattle.power_step.specs.Loses.{EndsBy, HasEnd, Loses}
use Rattle.power_step.proofs.Counting.{count_join, count_no, count_yes, cuts_counted, cuts_flash, later_same, plain_lost, rose_none}
use Rattle.power_step.proofs.Staying.{stays_cuts, stays_lost}
use Rattle.power_step.proofs.Taking.{part_behind, part_of_one, wrote_behind}

-- the counts explain the lines; the cut may be power's own
pub causes_of : (cuts : ℕ) (a a' : ArrayState) (items : List Item) (result : Result (Unit {0}) Halt) → count_by is_flash items ≡ 0 → count_by is_cut_line items ≡ cuts → IsKept cuts (halt_faults result) a a'
    → HasCauses 1 a a' (Cut ∷ items) result
causes_of cuts a a' items result none some kept = record {
  later_faults = kept.later_faults;
  later_cuts = kept.later_cuts;
  flash = let behind = count_no is_flash Cut items refl in let eq : halt_faults result ≡ count_by is_flash (Cut ∷ items) + halt_faults result = omega (arith, none, behind) in subst (λ n. RoseBy n a.faults a'.faults) eq kept.failed;
  cuts = let behind = count_yes is_cut_line Cut items refl in let eq : cuts ≡ count_by is_cut_line (Cut ∷ items) - 1 = omega (arith, some, behind) in subst (λ n. RoseBy n a.cuts a'.cuts) eq kept.cut;
}

pub kept_none : (a : ArrayState) → IsKept 0 0 a a
kept_none a = record {
  shown = refl;
  tells = refl;
  image = λ is. is;
  later_faults = later_same a.faults;
  later_cuts = later_same a.cuts;
  cut = rose_none a.cuts a.cuts (later_same a.cuts);
  failed = rose_none a.faults a.faults (later_same a.faults);
}

-- the lines of the openings

lines_flash : (cuts : ℕ) (end : End) → count_by is_flash (further_cuts cuts ++ Off end ∷ []) ≡ 0
lines_flash cuts end = let none = cuts_flash cuts in count_join is_flash (further_cuts cuts) (Off end ∷ []) ∙ omega (arith, none)

lines_cut : (cuts : ℕ) (end : End) → count_by is_cut_line (further_cuts cuts ++ Off end ∷ []) ≡ cuts
lines_cut cuts end = let some = cuts_counted cuts in count_join is_cut_line (further_cuts cuts) (Off end ∷ []) ∙ omega (arith, some)

pub record AreCounted (cuts : ℕ) (items : List Item) : Type 0 where
  pub no_flash : count_by is_flash items ≡ 0
  pub cut : count_by is_cut_line items ≡ cuts

counted_ends : (cuts : ℕ) (end : End) (items : List Item) → EndsWith cuts end items → AreCounted cuts items
counted_ends cuts end items ends = record {
  no_flash = ap (λ xs. count_by is_flash xs) ends.0 ∙ lines_flash cuts end;
  cut = ap (λ xs. count_by is_cut_line xs) ends.0 ∙ lines_cut cuts end;
}

pub counted_cuts : (cuts : ℕ) → AreCounted cuts (further_cuts cuts)
counted_cuts cuts = record { no_flash = cuts_flash cuts; cut = cuts_counted cuts }

counted_by : (cuts : ℕ) (halt : Halt) (items : List Item) → IsReopening cuts (Err halt) items → AreCounted cuts items
counted_by cuts SinkFailed items (inl lines) = subst (AreCounted cuts) (sym lines.0) (counted_cuts cuts)
counted_by cuts SinkFailed items (inr lines) = counted_ends cuts lines.0 items lines.1
counted_by cuts OpenFault items lines = counted_ends cuts Fault items lines
counted_by cuts PowerGone items lines = counted_ends cuts Dead items lines
counted_by cuts BadImage items lines = counted_ends cuts Image items lines

-- behind the lines of lost requests
pub counted_behind : (cuts : ℕ) (ids : List ℕ) (items : List Item) → AreCounted cuts items → AreCounted cuts (lost_lines ids ++ items)
counted_behind cuts ids items those =
    let plain = plain_lost ids in
    let none = plain.no_flash in
    let none' = those.no_flash in
    let uncut = plain.no_cut in
    let some = those.cut in
    record {
      no_flash = count_join is_flash (lost_lines ids) items ∙ omega (arith, none, none');
      cut = count_join is_cut_line (lost_lines ids) items ∙ omega (arith, uncut, some);
    }

-- they tell nothing of what is left

stays_ends : (t : State) (cuts : ℕ) (end : End) (items : List Item) → EndsWith cuts end items → StaysSo t items
stays_ends t cuts end items ends = subst (StaysSo t) (sym ends.0) (stays_cuts t cuts (Off end ∷ []) (λ u. (refl, tt)))

pub stays_only_cuts : (t : State) (cuts : ℕ) → StaysSo t (further_cuts cuts)
stays_only_cuts t cuts = subst (StaysSo t) (append-nil (further_cuts cuts)) (stays_cuts t cuts [] (λ u. tt))

stays_by : (t : State) (cuts : ℕ) (halt : Halt) (items : List Item) → IsReopening cuts (Err halt) items → StaysSo t items
stays_by t cuts SinkFailed items (inl lines) = subst (StaysSo t) (sym lines.0) (stays_only_cuts t cuts)
stays_by t cuts SinkFailed items (inr lines) = stays_ends t cuts lines.0 items lines.1
stays_by t cuts OpenFault items lines = stays_ends t cuts Fault items lines
stays_by t cuts PowerGone items lines = stays_ends t cuts Dead items lines
stays_by t cuts BadImage items lines = stays_ends t cuts Image items lines

-- the end's line is the last

ends_by : (front : List Item) (cuts : ℕ) (end : End) (items : List Item) → EndsWith cuts end items → EndsBy end (front ++ items)
ends_by front cuts end items ends = (front ++ further_cuts cuts, ap (λ more. front ++ more) ends.0 ∙ sym (append_assoc front (further_cuts cuts) (Off end ∷ [])))

has_end : (front : List Item) (cuts : ℕ) (halt : Halt) (items : List Item) → IsReopening cuts (Err halt) items → HasEnd (front ++ items) (Err halt)
has_end front cuts SinkFailed items lines = tt
has_end front cuts OpenFault items lines = ends_by front cuts Fault items lines
has_end front cuts PowerGone items lines = ends_by front cuts Dead items lines
has_end front cuts BadImage items lines = ends_by front cuts Image items lines

module _ (p : PathState) (a : ArrayState) (out : Outlasts p) where
  some_lost : (s : State) (o : OrderState) (a' : ArrayState) (all : Bool) (ids : List ℕ) → IsLosing s p o a → shown_by a' ≡ shown_by a → AreLost 0 p.driver.requests.holders all ids → LosesSome s p o a a' all ids
  some_lost s o a' all ids losing kept lost = record { out = out; losing = losing; kept = kept; lost = lost }

  dark_closed : (s : State) (o : OrderState) (a' : ArrayState) (ids : List ℕ) (cuts : ℕ) (end : End) (items : List Item) → LosesSome s p o a a' true ids → EndsWith cuts end items → StaysDark s (lost_lines ids ++ items) a'
  dark_closed s o a' ids cuts end items some ends = subst (λ more. StaysDark s (lost_lines ids ++ more) a') (sym ends.0) ((ends_dark s p o a a').closed ids cuts end some ends.1)

  dark_by : (s : State) (o : OrderState) (a' : ArrayState) (ids : List ℕ) (cuts : ℕ) (halt : Halt) (items : List Item) → LosesSome s p o a a' true ids → IsReopening cuts (Err halt) items → StaysDark s (lost_lines ids ++ items) a'
  dark_by s o a' ids cuts SinkFailed items some (inl lines) = subst (λ more. StaysDark s (lost_lines ids ++ more) a') (sym lines.0) ((ends_dark s p o a a').cuts ids cuts some lines.1)
  dark_by s o a' ids cuts SinkFailed items some (inr lines) = dark_closed s o a' ids cuts lines.0 items some lines.1
  dark_by s o a' ids cuts OpenFault items some lines = dark_closed s o a' ids cuts Fault items some lines
  dark_by s o a' ids cuts PowerGone items some lines = dark_closed s o a' ids cuts Dead items some lines
  dark_by s o a' ids cuts BadImage items some lines = dark_closed s o a' ids cuts Image items some lines

-- the cut's own line broke off
pub broke_at_once : {K : Type 0} (took : K → List ℕ → K → Type 0) (p p' : PathState) (a : ArrayState) (out : Outlasts p) (old new : K) (halt : Halt) → Takes took old (Cut ∷ []) (Err halt) new → halt ≡ SinkFailed → Loses took p a old (Err halt) p' a new
broke_at_once took p p' a out old new halt line is = subst (λ h. Takes took old (Cut ∷ []) (Err h) new → Loses took p a old (Err h) p' a new) (sym is)
    (λ part. record {
      items = [];
      wrote = part_of_one took old new Cut part;
      end = tt;
      leaves = λ s o losing. (ends_dark s p o a a).losing false [] (some_lost p a out s o a false [] losing refl (λ all. absurd (cc)));
      stays = λ s o losing. tt;
      causes = causes_of 0 a a [] (Err SinkFailed) refl refl (kept_none a);
      image = λ is. is;
    }) line

module _ {K : Type 0} (took : K → List ℕ → K → Type 0) (both : Joins took) (p p' : PathState) (a : ArrayState) (out : Outlasts p) (old m1 : K) (first : took old (items_text (Cut ∷ [])) m1) where
  -- the line of a lost request did
  lost_at : (new : K) → LostWritten took p.driver.requests.holders 0 m1 (Err SinkFailed) new → Loses took p a old (Err SinkFailed) p' a new
  lost_at new lost = record {
    items = lost_lines lost.ids;
    wrote = part_behind took both old m1 new (Cut ∷ []) (lost_lines lost.ids) first lost.wrote;
    end = tt;
    leaves = λ s o losing. (ends_dark s p o a a).losing false lost.ids (some_lost p a out s o a false lost.ids losing refl lost.are);
    stays = λ s o losing. subst (StaysSo (effect s Cut)) (append-nil (lost_lines lost.ids)) (stays_lost (effect s Cut) lost.ids [] (λ u. tt));
    causes = let plain = plain_lost lost.ids in causes_of 0 a a (lost_lines lost.ids) (Err SinkFailed) plain.no_flash plain.no_cut (kept_none a);
    image = λ is. is;
  }

  pub lost_dark : (new : K) (halt : Halt) → LostWritten took p.driver.requests.holders 0 m1 (Err halt) new → halt ≡ SinkFailed → Loses took p a old (Err halt) p' a new
  lost_dark new halt lost is = subst (λ h. LostWritten took p.driver.requests.holders 0 m1 (Err h) new → Loses took p a old (Err h) p' a new) (sym is) (λ broke. lost_at new broke) lost

  module _ (m2 : K) (lost : LostWritten took p.driver.requests.holders 0 m1 (Ok tt) m2) (card card' : CardState) (a' : ArrayState) where
    -- all were lost, and the run ends in an opening, or in the line behind it
    pub opens_dark : (new : K) (halt : Halt) → OpensAgain took m2 card a (Err halt) new card' a' → Loses took p a old (Err halt) p' a' new
    opens_dark new halt opens =
        let items = lost_lines lost.ids ++ opens.items in
        let counted = counted_behind opens.cuts lost.ids opens.items (counted_by opens.cuts halt opens.items opens.lines) in
        record {
          items = items;
          wrote = wrote_behind took both old m1 new (Cut ∷ []) items (Err halt) first (wrote_behind took both m1 m2 new (lost_lines lost.ids) opens.items (Err halt) lost.wrote opens.wrote);
          end = has_end (lost_lines lost.ids) opens.cuts halt opens.items opens.lines;
          leaves = λ s o losing. dark_by p a out s o a' lost.ids opens.cuts halt opens.items (some_lost p a out s o a' true lost.ids losing opens.kept.shown lost.are) opens.lines;
          stays = λ s o losing. stays_lost (effect s Cut) lost.ids opens.items (λ t. stays_by t opens.cuts halt opens.items opens.lines);
          causes = causes_of opens.cuts a a' items (Err halt) counted.no_flash counted.cut opens.kept;
          image = opens.kept.image;
        }
