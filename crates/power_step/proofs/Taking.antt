-- Whole lines that were written, behind others.
use Rattle.std.proofs.Common.{◌≡◌, ◌∙◌, ℕ, ◌<◌, ◌++◌, List, [], ◌∷◌, Result, Ok, Err, length, take, ap, sym, subst}
use Rattle.std.proofs.lemmas.List.{append_assoc}
use Rattle.std.proofs.lemmas.Grind.{flat_map-append}
use Rattle.io_edge.specs.Sink.{Joins}
use Rattle.storage_model.specs.declared.ends.Halt.{Halt}
use Rattle.storage_model.specs.declared.ends.Halt.TheVariants.{SinkFailed, OpenFault, PowerGone, BadImage}
use Rattle.storage_model.specs.declared.trace.Item.{Item}
use Rattle.trace_print.proofs.Joined.{taken_behind}
use Rattle.trace_print.specs.Prints.{Breaks}
use Rattle.trace_text.specs.Trace.{item_text, items_text}
use Rattle.power_step.specs.Wrote.{TakesPart, Wrote}

-- one line that broke off
module _ {K : Type 0} (took : K → List ℕ → K → Type 0) where
  one_part : (old new : K) (item that : Item) (whole rest : List Item) (count : ℕ) → item ∷ [] ≡ whole ++ that ∷ rest → count < length (item_text that)
      → took old (items_text whole ++ take count (item_text that)) new → TakesPart took old (item ∷ []) new
  one_part old new item that [] rest count are part taken = let same : item ≡ that = cc (are) in record { whole = []; item = that; are = ap (λ x. x ∷ []) same; count = count; part = part; taken = taken }
  one_part old new item that (first ∷ []) rest count are part taken = absurd (cc)
  one_part old new item that (first ∷ second ∷ more) rest count are part taken = absurd (cc)

  pub part_of_one : (old new : K) (item : Item) → Breaks took old (item ∷ []) new → TakesPart took old (item ∷ []) new
  part_of_one old new item breaks = one_part old new item breaks.item breaks.whole breaks.rest breaks.count breaks.are breaks.part breaks.taken

module _ {K : Type 0} (took : K → List ℕ → K → Type 0) (both : Joins took) where
  pub part_behind : (old mid new : K) (front lines : List Item) → took old (items_text front) mid → TakesPart took mid lines new → TakesPart took old (front ++ lines) new
  part_behind old mid new front lines first last = record {
    whole = front ++ last.whole;
    item = last.item;
    are = ap (λ xs. front ++ xs) last.are ∙ sym (append_assoc front last.whole (last.item ∷ []));
    count = last.count;
    part = last.part;
    taken =
        subst (λ text. took old text new)
        (sym (ap (λ text. text ++ take last.count (item_text last.item)) (flat_map-append item_text front last.whole) ∙ append_assoc (items_text front) (items_text last.whole) (take last.count (item_text last.item))))
        (both.join old mid new (items_text front) (items_text last.whole ++ take last.count (item_text last.item)) first last.taken);
  }

  -- however the last of them ended
  pub wrote_behind : (old mid new : K) (front lines : List Item) (result : Result (Unit {0}) Halt) → took old (items_text front) mid → Wrote took mid lines result new → Wrote took old (front ++ lines) result new
  wrote_behind old mid new front lines (Err SinkFailed) first last = part_behind old mid new front lines first last
  wrote_behind old mid new front lines (Err OpenFault) first last = taken_behind took both old mid new front lines first last
  wrote_behind old mid new front lines (Err PowerGone) first last = taken_behind took both old mid new front lines first last
  wrote_behind old mid new front lines (Err BadImage) first last = taken_behind took both old mid new front lines first last
  wrote_behind old mid new front lines (Ok done) first last = taken_behind took both old mid new front lines first last
