-- A trace's text has one meaning or one first bad line.
use Rattle.std.proofs.Common.{◌≡◌, ◌≢◌, inl, inr, ℕ, Bool, false, ◌+◌, ◌-◌, ◌≤◌, List, [], ◌∷◌, ◌++◌, length, refl, sym, ap, subst, ◌∙◌, arith, append_assoc}
use Rattle.std.specs.Prelude.{All, ◌==◌}
use Rattle.std.proofs.lemmas.Bool.{eqb-false}
use Rattle.std.proofs.lemmas.Grind.{flat_map-append}
use Rattle.std.proofs.lemmas.List.{append-nil, length-append}
use Rattle.std.proofs.lemmas.List.Elements.{All-nil, All-cons, All-head, All-tail, All-append}
use Rattle.storage_model.specs.declared.trace.Item.{Item}
use Rattle.text_words.specs.Texts.{IsBadAt}
use Rattle.text_words.proofs.BadLines.{HasLines, no_bad_line}
use Rattle.text_words.proofs.LineLists.{lines_ended, none_next, one_list}
use Rattle.text_words.proofs.LineTexts.{cut, lines_of}
use Rattle.trace_text.specs.Trace.{AreWithin, IsItem, Means, item_text, items_text}
use Rattle.trace_text.proofs.ItemTexts.{item_is_line, item_text-long}
use Rattle.trace_text.proofs.OneItem.{one_item}

items_text-push : (items : List Item) (item : Item) → items_text (items ++ item ∷ []) ≡ items_text items ++ item_text item
items_text-push items item = flat_map-append item_text items (item ∷ []) ∙ ap (λ t. items_text items ++ t) (append-nil (item_text item))

All-front : (items more : List Item) → All IsItem (items ++ more) → All IsItem items
All-front [] more all = All-nil IsItem
All-front (item ∷ items) more all = All-cons IsItem item items (All-head IsItem item (items ++ more) all) (All-front items more (All-tail IsItem item (items ++ more) all))

All-back : (items more : List Item) → All IsItem (items ++ more) → All IsItem more
All-back [] more all = all
All-back (item ∷ items) more all = All-back items more (All-tail IsItem item (items ++ more) all)

-- the front of what one text can have is what one text can have
within_front : (items more : List Item) → AreWithin (items ++ more) → AreWithin items
within_front items more within = record {
  each = All-front items more within.each;
  bytes = omega (arith, within.bytes, ap length (flat_map-append item_text items more), length-append (items_text items) (items_text more));
}

same_item_text : (item other : Item) → IsItem item → IsItem other → item_text item ≡ item_text other → item ≡ other
same_item_text item other valid sound same = (one_item item other [] [] valid sound (ap (λ t. t ++ []) same)).0

-- a text means one list of items
pub one_meaning : (bytes : List ℕ) (items others : List Item) → Means bytes items → Means bytes others → items ≡ others
one_meaning bytes items others means also = one_list item_text IsItem item_is_line same_item_text items others means.within.each also.within.each (sym means.text ∙ also.text)

not_empty : (more b : List ℕ) → [] ≡ more ++ 10 ∷ b → ⊥
not_empty more b none = omega (arith, ap length none, length-append more (10 ∷ b))

-- each front of whole lines is a trace
has_lines : HasLines Means
has_lines = record {
  front = λ a b items means.
      elim (cut IsItem item_text item_is_line items [] a b means.within.each (append-nil (items_text items) ∙ sym means.text)) [
        | inl within ↦ (
            let P : List Item → Type 0 = λ all. AreWithin all in (
              within.front,
              record { text = within.whole; within = within_front within.front within.back (subst P within.list means.within) },
            )
            )
        | inr behind ↦ absurd (not_empty behind.more b behind.rest)
      ];
  ended = λ bytes items means. rw means.text (lines_ended IsItem item_text item_is_line items means.within.each);
}

-- a text that means items has no bad line
pub no_bad_item : (bytes : List ℕ) (items : List Item) (number : ℕ) → Means bytes items → IsBadAt Means bytes number → ⊥
no_bad_item bytes items number means bad = no_bad_line Means has_lines bytes items number means bad

-- how many more bytes a text can have
pub room_left : (bytes : List ℕ) (items : List Item) (rest : List ℕ) → bytes ≡ items_text items ++ rest → AreWithin items → 16777216 - (length bytes - length rest) + length (items_text items) ≡ 16777216
room_left bytes items rest text within = omega (arith, within.bytes, ap length text, length-append (items_text items) rest)

-- one item more, where its line fits
pub within_push : (items : List Item) (item : Item) (room : ℕ) → AreWithin items → IsItem item → length (item_text item) ≤ room → room + length (items_text items) ≡ 16777216 → AreWithin (items ++ item ∷ [])
within_push items item room within valid fits counted = record {
  each = All-append IsItem items (item ∷ []) within.each (All-cons IsItem item [] valid (All-nil IsItem));
  bytes = omega (arith, ap length (items_text-push items item), length-append (items_text items) (item_text item));
}

-- what stands after one item more
pub text_push : (bytes : List ℕ) (items : List Item) (item : Item) (rest after : List ℕ) → bytes ≡ items_text items ++ rest → rest ≡ item_text item ++ after → bytes ≡ items_text (items ++ item ∷ []) ++ after
text_push bytes items item rest after text parts =
    text ∙ ap (λ t. items_text items ++ t) parts ∙ sym (append_assoc (items_text items) (item_text item) after) ∙ ap (λ t. t ++ after) (sym (items_text-push items item))

-- the line after the items so far is the first bad one, where no item that fits stands there
pub bad_here : (bytes : List ℕ) (items : List Item) (rest : List ℕ) (room : ℕ) → bytes ≡ items_text items ++ rest → AreWithin items → rest ≢ [] → room + length (items_text items) ≡ 16777216
    → ((item : Item) (after : List ℕ) → IsItem item → length (item_text item) ≤ room → ¬ (rest ≡ item_text item ++ after)) → IsBadAt Means bytes (length items + 1)
bad_here bytes items rest room text within more counted none = (
  items_text items,
  rest,
  record {
    text = text;
    meaning = items;
    means = record { text = refl; within = within };
    more = more;
    bad = λ next after other parts free means.
        none_next item_text IsItem item_is_line same_item_text AreWithin (λ all sound. sound.each) within_front items rest within
        (λ item behind is wider.
        none item behind (All-head IsItem item [] (All-back items (item ∷ []) wider.each))
        (omega (arith, wider.bytes, ap length (items_text-push items item), length-append (items_text items) (item_text item))) is)
        next after other parts free means.within means.text;
  },
  ap (λ n. n + 1) (sym (lines_of IsItem item_text item_is_line items within.each)),
)

-- an item has a byte at least
pub length_items : (items : List Item) → length items ≤ length (items_text items)
length_items [] = omega arith
length_items (item ∷ items) = omega (arith, length_items items, item_text-long item, length-append (item_text item) (items_text items))

pub some_left : (rest : List ℕ) (empty : Bool) → empty ≡ (length rest == 0) → empty ≡ false → rest ≢ []
some_left rest empty is other e = omega (arith, eqb-false (length rest) 0 (sym is ∙ other), ap length e)

nothing : (rest : List ℕ) → length rest ≡ 0 → rest ≡ []
nothing [] none = refl
nothing (b ∷ rest) none = absurd (omega arith)

-- the items of a text of which nothing is left
pub all_read : (bytes : List ℕ) (items : List Item) (rest : List ℕ) → bytes ≡ items_text items ++ rest → AreWithin items → length rest ≡ 0 → Means bytes items
all_read bytes items rest text within none = record { text = text ∙ ap (λ more. items_text items ++ more) (nothing rest none) ∙ append-nil (items_text items); within = within }
