-- Lines that were taken one after the other.
use Rattle.std.proofs.Common.{◌∙◌, ℕ, List, [], ◌∷◌, ◌++◌, Result, Ok, Err, take, refl, sym, ap, subst, append_assoc, append-nil}
use Rattle.std.proofs.lemmas.List.Concat.{flat_map-append}
use Rattle.storage_model.specs.declared.ends.Halt.{Halt}
use Rattle.storage_model.specs.declared.ends.Halt.TheVariants.{SinkFailed, OpenFault, PowerGone, BadImage}
use Rattle.storage_model.specs.declared.trace.Item.{Item}
use Rattle.io_edge.specs.Sink.{Joins, TookPart}
use Rattle.trace_text.specs.Trace.{item_text, items_text}
use Rattle.trace_print.specs.Prints.{Breaks, Takes}

module _ {K : Type 0} (took : K → List ℕ → K → Type 0) where
  -- one line
  pub one_taken : (old new : K) (item : Item) → took old (item_text item) new → took old (items_text (item ∷ [])) new
  one_taken old new item taken = subst (λ text. took old text new) (sym (append-nil (item_text item))) taken

  pub one_broken : (old new : K) (item : Item) → TookPart took old (item_text item) new → Breaks took old (item ∷ []) new
  one_broken old new item part = record { whole = []; item = item; rest = []; are = refl; count = part.count; part = part.part; taken = part.taken }

  -- lines that break off, with others that were to follow
  pub broken_before : (old new : K) (items more : List Item) → Breaks took old items new → Breaks took old (items ++ more) new
  broken_before old new items more b = record {
    whole = b.whole;
    item = b.item;
    rest = b.rest ++ more;
    are = ap (λ xs. xs ++ more) b.are ∙ append_assoc b.whole (b.item ∷ b.rest) more;
    count = b.count;
    part = b.part;
    taken = b.taken;
  }

module _ {K : Type 0} (took : K → List ℕ → K → Type 0) (both : Joins took) where
  -- some lines, and then others
  pub taken_behind : (old mid new : K) (items more : List Item) → took old (items_text items) mid → took mid (items_text more) new → took old (items_text (items ++ more)) new
  taken_behind old mid new items more first last =
      subst (λ text. took old text new) (sym (flat_map-append item_text items more)) (both.join old mid new (items_text items) (items_text more) first last)

  pub broken_behind : (old mid new : K) (items more : List Item) → took old (items_text items) mid → Breaks took mid more new → Breaks took old (items ++ more) new
  broken_behind old mid new items more first b = record {
    whole = items ++ b.whole;
    item = b.item;
    rest = b.rest;
    are = ap (λ xs. items ++ xs) b.are ∙ sym (append_assoc items b.whole (b.item ∷ b.rest));
    count = b.count;
    part = b.part;
    taken = subst (λ text. took old text new)
        (sym (ap (λ text. text ++ take b.count (item_text b.item)) (flat_map-append item_text items b.whole) ∙ append_assoc (items_text items) (items_text b.whole) (take b.count (item_text b.item))))
        (both.join old mid new (items_text items) (items_text b.whole ++ take b.count (item_text b.item)) first b.taken);
  }

  -- however the last of them ended
  pub takes_behind : (old mid new : K) (items more : List Item) (result : Result (Unit {0}) Halt) → took old (items_text items) mid → Takes took mid more result new
      → Takes took old (items ++ more) result new
  takes_behind old mid new items more (Err SinkFailed) first last = broken_behind old mid new items more first last
  takes_behind old mid new items more (Err OpenFault) first last = taken_behind old mid new items more first last
  takes_behind old mid new items more (Err PowerGone) first last = taken_behind old mid new items more first last
  takes_behind old mid new items more (Err BadImage) first last = taken_behind old mid new items more first last
  takes_behind old mid new items more (Ok done) first last = taken_behind old mid new items more first last
