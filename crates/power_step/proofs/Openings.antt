-- The lines of the openings behind a cut.
use Rattle.std.proofs.Common.{◌≡◌, ◌∙◌, ℕ, zero, suc, ◌+◌, ◌<◌, ◌++◌, inl, inr, true, List, [], ◌∷◌, Result, Err, ap, refl, sym, subst, arith}
use Rattle.std.proofs.lemmas.Bool.{le-leb}
use Rattle.io_edge.specs.Sink.{Joins}
use Rattle.storage_model.specs.declared.ends.Halt.{Halt}
use Rattle.storage_model.specs.declared.ends.Halt.TheVariants.{SinkFailed, OpenFault, BadImage as BadPages}
use Rattle.storage_model.specs.declared.trace.End.TheVariants.{Fault, Dead, Image}
use Rattle.storage_model.specs.declared.trace.Item.{Item}
use Rattle.storage_model.specs.declared.trace.Item.TheVariants.{Cut, Off}
use Rattle.array_edge.specs.Array.{ArrayState}
use Rattle.intent_store.specs.Intent.{ShowsImage, StartEnds, shown_by}
use Rattle.intent_store.specs.declared.ends.StartEnd.{StartEnd}
use Rattle.intent_store.specs.declared.ends.StartEnd.TheVariants.{Flash, PowerLost, BadImage}
use Rattle.card_core.specs.Card.{CardState}
use Rattle.cut_laws.specs.Laws.{further_cuts, may_end}
use Rattle.trace_print.proofs.Joined.{taken_behind}
use Rattle.trace_print.specs.Prints.{RoseBy, Takes}
use Rattle.trace_text.specs.Trace.{items_text}
use Rattle.power_step.specs.Cut.{HaltsFor, IsKept, IsReopening, OpensAgain, failed_line}
use Rattle.power_step.proofs.Counting.{fault_once, later_both, rose_once, rose_stays}
use Rattle.power_step.proofs.Taking.{part_behind, part_of_one}

-- one more cut
cuts_more : (cuts : ℕ) → further_cuts cuts ++ Cut ∷ [] ≡ further_cuts (suc cuts)
cuts_more zero = refl
cuts_more (suc cuts) = ap (λ items. Cut ∷ items) (cuts_more cuts)

dead_may : (cuts : ℕ) → cuts ≡ 8 → may_end cuts Dead ≡ true
dead_may cuts eight = subst (λ n. may_end n Dead ≡ true) (sym eight) refl

module _ (cuts : ℕ) (a am a' : ArrayState) (kept : IsKept cuts 0 a am) (shown : shown_by a' ≡ shown_by am) (image : ShowsImage am → ShowsImage a') where
  -- one that ended otherwise
  pub kept_ended : {T : Type 0} {result : Result T StartEnd} → StartEnds {T = T} am a' result → IsKept cuts 0 a a'
  kept_ended ends = record {
    shown = shown ∙ kept.shown;
    tells = ends.tells ∙ kept.tells;
    image = λ is. image (kept.image is);
    later_faults = later_both a.faults am.faults a'.faults kept.later_faults ends.faults;
    later_cuts = later_both a.cuts am.cuts a'.cuts kept.later_cuts ends.cuts;
    cut = rose_stays cuts a.cuts am.cuts a'.cuts kept.cut ends.cuts;
    failed = rose_stays 0 a.faults am.faults a'.faults kept.failed ends.faults;
  }

  pub kept_cut : {T : Type 0} → StartEnds {T = T} am a' (Err PowerLost) → IsKept (suc cuts) 0 a a'
  kept_cut ends = let eq : cuts + 1 ≡ suc cuts = omega arith in record {
    shown = shown ∙ kept.shown;
    tells = ends.tells ∙ kept.tells;
    image = λ is. image (kept.image is);
    later_faults = later_both a.faults am.faults a'.faults kept.later_faults ends.faults;
    later_cuts = later_both a.cuts am.cuts a'.cuts kept.later_cuts ends.cuts;
    cut = subst (λ n. RoseBy n a.cuts a'.cuts) eq (rose_once cuts a.cuts am.cuts a'.cuts kept.cut ends.cuts (ends.lost refl).0);
    failed = rose_stays 0 a.faults am.faults a'.faults kept.failed ends.faults;
  }

  pub kept_failed : {T : Type 0} → StartEnds {T = T} am a' (Err Flash) → IsKept cuts 1 a a'
  kept_failed ends = record {
    shown = shown ∙ kept.shown;
    tells = ends.tells ∙ kept.tells;
    image = λ is. image (kept.image is);
    later_faults = later_both a.faults am.faults a'.faults kept.later_faults ends.faults;
    later_cuts = later_both a.cuts am.cuts a'.cuts kept.later_cuts ends.cuts;
    cut = rose_stays cuts a.cuts am.cuts a'.cuts kept.cut ends.cuts;
    failed = fault_once a.faults am.faults a'.faults kept.later_faults (ends.flash refl).0;
  }

module _ {K : Type 0} (took : K → List ℕ → K → Type 0) (both : Joins took) (old mid new : K) (cuts : ℕ) (card card' : CardState) (a am : ArrayState) (first : took old (items_text (further_cuts cuts)) mid) where
  -- the line behind the cuts broke off
  opens_broken : (a' : ArrayState) (item : Item) (all : ℕ) (halt : Halt) → IsReopening all (Err SinkFailed) (further_cuts cuts ++ item ∷ []) → IsKept all 0 a a' → Takes took mid (item ∷ []) (Err halt) new → halt ≡ SinkFailed
      → OpensAgain took old card a (Err halt) new card' a'
  opens_broken a' item all halt lines kept line is = subst (λ h. Takes took mid (item ∷ []) (Err h) new → OpensAgain took old card a (Err h) new card' a') (sym is) (λ part. record {
    cuts = all;
    items = further_cuts cuts ++ item ∷ [];
    lines = lines;
    wrote = part_behind took both old mid new (further_cuts cuts) (item ∷ []) first (part_of_one took mid new item part);
    kept = kept;
    opened = tt;
  }) line

  module _ (kept : IsKept cuts 0 a am) (few : cuts < 8) where
    opens_fault : (a' : ArrayState) → IsKept cuts 1 a a' → took mid (items_text (Off Fault ∷ [])) new → OpensAgain took old card a (Err OpenFault) new card' a'
    opens_fault a' after line = record {
      cuts = cuts;
      items = further_cuts cuts ++ Off Fault ∷ [];
      lines = (refl, le-leb cuts 7 (omega (arith, few)));
      wrote = taken_behind took both old mid new (further_cuts cuts) (Off Fault ∷ []) first line;
      kept = after;
      opened = tt;
    }

    opens_bad : (a' : ArrayState) → IsKept cuts 0 a a' → took mid (items_text (Off Image ∷ [])) new → OpensAgain took old card a (Err BadPages) new card' a'
    opens_bad a' after line = record {
      cuts = cuts;
      items = further_cuts cuts ++ Off Image ∷ [];
      lines = (refl, le-leb cuts 7 (omega (arith, few)));
      wrote = taken_behind took both old mid new (further_cuts cuts) (Off Image ∷ []) first line;
      kept = after;
      opened = tt;
    }

    module _ (a' : ArrayState) (shown : shown_by a' ≡ shown_by am) (image : ShowsImage am → ShowsImage a') where
      pub failed_opens : (why : StartEnd) (halt : Halt) → StartEnds {T = Unit {0}} am a' (Err why) → Takes took mid (failed_line why ∷ []) (Err halt) new → HaltsFor why (Err halt)
          → OpensAgain took old card a (Err halt) new card' a'
      failed_opens PowerLost halt ends line is = opens_broken a' Cut (suc cuts) halt (inl (cuts_more cuts, omega (arith, few))) (kept_cut cuts a am a' kept shown image ends) line is
      failed_opens Flash halt ends line (inl is) = opens_broken a' (Off Fault) cuts halt (inr (Fault, (refl, le-leb cuts 7 (omega (arith, few))))) (kept_ended cuts a am a' kept shown image ends) line is
      failed_opens Flash halt ends line (inr is) =
          subst (λ h. Takes took mid (Off Fault ∷ []) (Err h) new → OpensAgain took old card a (Err h) new card' a') (sym is) (λ whole. opens_fault a' (kept_failed cuts a am a' kept shown image ends) whole) line
      failed_opens BadImage halt ends line (inl is) = opens_broken a' (Off Image) cuts halt (inr (Image, (refl, le-leb cuts 7 (omega (arith, few))))) (kept_ended cuts a am a' kept shown image ends) line is
      failed_opens BadImage halt ends line (inr is) =
          subst (λ h. Takes took mid (Off Image ∷ []) (Err h) new → OpensAgain took old card a (Err h) new card' a') (sym is) (λ whole. opens_bad a' (kept_ended cuts a am a' kept shown image ends) whole) line

  -- no more openings may be made, and the end line broke off
  pub dead_opens : IsKept cuts 0 a am → (halt : Halt) → cuts ≡ 8 → Takes took mid (Off Dead ∷ []) (Err halt) new → halt ≡ SinkFailed → OpensAgain took old card a (Err halt) new card' am
  dead_opens kept halt eight line is = opens_broken am (Off Dead) cuts halt (inr (Dead, (refl, dead_may cuts eight))) kept line is
