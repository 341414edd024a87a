-- How what a sink took is joined, for callers that write several pieces.
use Rattle.std.proofs.Common.{◌≡◌, ℕ, ◌+◌, ◌-◌, ◌<◌, ◌≤◌, ◌⊎◌, List, [], ◌∷◌, ◌++◌, length, get_or, take, drop, flat_map, suc, Ok, arith, inl, inr, refl, sym, ap, ◌∙◌, append_assoc, length-append, drop-cons}
use Rattle.std.proofs.Math.Seq.{take-add, take-append-add}
use Rattle.std.proofs.lemmas.List.{append-nil, take-append-drop, take-append-le}
use Rattle.std.proofs.lemmas.List.Concat.{flat_map-append}
use Rattle.io_edge.specs.Sink.{Wrote, TookPart, BrokeOff, Joins}

-- the first bytes of a piece, and then the next ones
pub took-more : {Self : Type 0} {took : Self → List ℕ → Self → Type 0} → Joins took → (done n : ℕ) (piece : List ℕ) (a b c : Self)
    → took a (take done piece) b → took b (take n (drop done piece)) c → took a (take (done + n) piece) c
took-more both done n piece a b c first next =
    rw (take-add done n piece) (both.join a b c (take done piece) (take n (drop done piece)) first next)

-- the first bytes of a piece, and then nothing
pub took_part-here : {Self : Type 0} {took : Self → List ℕ → Self → Type 0} → Joins took → (done : ℕ) (piece : List ℕ) (a b c : Self)
    → done < length piece → took a (take done piece) b → took b [] c → TookPart took a piece c
took_part-here both done piece a b c part first nothing = record {
  count = done;
  part = part;
  taken = rw append-nil at (both.join a b c (take done piece) [] first nothing);
}

-- what was taken first, and then the text that was written next
pub wrote-after : {Self : Type 0} {took : Self → List ℕ → Self → Type 0} → Joins took → (a b c : Self) (front text : List ℕ)
    → took a front b → (done : Unit {0}) → Wrote took b text (Ok done) c → Wrote took a (front ++ text) (Ok done) c
wrote-after both a b c front text first done next = both.join a b c front text first next

-- what was taken first, and then a part of the text
pub took_part-after : {Self : Type 0} {took : Self → List ℕ → Self → Type 0} → Joins took → (a b c : Self) (front text : List ℕ)
    → took a front b → TookPart took b text c → TookPart took a (front ++ text) c
took_part-after both a b c front text first next = record {
  count = length front + next.count;
  part = let h : next.count < length text = next.part in omega (arith, length-append front text);
  taken = rw (take-append-add front text next.count) (both.join a b c front (take next.count text) first next.taken);
}

-- a part of a text is a part of what begins with the text
pub took_part-longer : {Self : Type 0} {took : Self → List ℕ → Self → Type 0} (a c : Self) (front text : List ℕ)
    → TookPart took a front c → TookPart took a (front ++ text) c
took_part-longer a c front text part = record {
  count = part.count;
  part = let h : part.count < length front = part.part in omega (arith, length-append front text);
  taken = let h : part.count ≤ length front = let k : part.count < length front = part.part in omega arith in
      rw (take-append-le part.count front text) part.taken;
}

-- items that were taken whole, and then a part of the next one's text
pub broke_off-here : {Self Item : Type 0} {took : Self → List ℕ → Self → Type 0} {text : Item → List ℕ} → Joins took → (a b c : Self)
    (whole : List Item) (next : Item) (rest : List Item) → took a (flat_map text whole) b → TookPart took b (text next) c
    → BrokeOff took text a (whole ++ next ∷ rest) c
broke_off-here {text = text} both a b c whole next rest first part = record {
  whole = whole;
  next = next;
  rest = rest;
  order = refl;
  count = part.count;
  part = part.part;
  taken = both.join a b c (flat_map text whole) (take part.count (text next)) first part.taken;
}

-- the same in a loop over the items, at item i
pub broke_off-at : {Self Item : Type 0} {took : Self → List ℕ → Self → Type 0} {text : Item → List ℕ} → Joins took → (a b c : Self)
    (items : List Item) (i : ℕ) (item : Item) → i < length items → took a (flat_map text (take i items)) b
    → TookPart took b (text (get_or items i item)) c → BrokeOff took text a items c
broke_off-at {text = text} both a b c items i item within first part = record {
  whole = take i items;
  next = get_or items i item;
  rest = drop (suc i) items;
  order = sym (take-append-drop i items) ∙ ap (λ xs. take i items ++ xs) (drop-cons items i item within);
  count = part.count;
  part = part.part;
  taken = both.join a b c (flat_map text (take i items)) (take part.count (text (get_or items i item))) first part.taken;
}

-- items that were taken whole, and then items at which the sink broke off
pub broke_off-after : {Self Item : Type 0} {took : Self → List ℕ → Self → Type 0} {text : Item → List ℕ} → Joins took → (a b c : Self)
    (front items : List Item) → took a (flat_map text front) b → BrokeOff took text b items c → BrokeOff took text a (front ++ items) c
broke_off-after {text = text} both a b c front items first next = record {
  whole = front ++ next.whole;
  next = next.next;
  rest = next.rest;
  order = ap (λ xs. front ++ xs) next.order ∙ sym (append_assoc front next.whole (next.next ∷ next.rest));
  count = next.count;
  part = next.part;
  taken = rw (flat_map-append text front next.whole, append_assoc)
      (both.join a b c (flat_map text front) (flat_map text next.whole ++ take next.count (text next.next)) first next.taken);
}

-- a sink that broke off at some items did so at more of them
pub broke_off-longer : {Self Item : Type 0} {took : Self → List ℕ → Self → Type 0} {text : Item → List ℕ} (a c : Self)
    (items more : List Item) → BrokeOff took text a items c → BrokeOff took text a (items ++ more) c
broke_off-longer a c items more broke = record {
  whole = broke.whole;
  next = broke.next;
  rest = broke.rest ++ more;
  order = ap (λ xs. xs ++ more) broke.order ∙ append_assoc broke.whole (broke.next ∷ broke.rest) more;
  count = broke.count;
  part = broke.part;
  taken = broke.taken;
}

-- where the first n bytes of the items' texts end
record Place {Item : Type 0} (text : Item → List ℕ) (items : List Item) (n : ℕ) : Type 0 where
  whole : List Item
  next : Item
  rest : List Item
  order : items ≡ whole ++ next ∷ rest
  count : ℕ
  part : count < length (text next)
  front : take n (flat_map text items) ≡ flat_map text whole ++ take count (text next)

place_later : {Item : Type 0} (text : Item → List ℕ) (x : Item) (xs : List Item) (n : ℕ) → length (text x) ≤ n
    → Place text xs (n - length (text x)) → Place text (x ∷ xs) n
place_later text x xs n past later = record {
  whole = x ∷ later.whole;
  next = later.next;
  rest = later.rest;
  order = ap (λ ys. x ∷ ys) later.order;
  count = later.count;
  part = later.part;
  front =
      let e : n ≡ length (text x) + (n - length (text x)) = omega arith in
      ap (λ k. take k (text x ++ flat_map text xs)) e ∙ (take-append-add (text x) (flat_map text xs) (n - length (text x))
      ∙ (ap (λ ys. text x ++ ys) later.front ∙ sym (append_assoc (text x) (flat_map text later.whole) (take later.count (text later.next)))));
}

place : {Item : Type 0} (text : Item → List ℕ) (items : List Item) (n : ℕ) → n < length (flat_map text items) → Place text items n
place text [] n within = absurd (omega arith)
place text (x ∷ xs) n within =
    let split : (n < length (text x)) ⊎ (length (text x) ≤ n) = grind arith in
    elim split [
      | inl here ↦ record {
        whole = [];
        next = x;
        rest = xs;
        order = refl;
        count = n;
        part = here;
        front = let h : n ≤ length (text x) = omega arith in take-append-le n (text x) (flat_map text xs) h;
      }
      | inr past ↦ place_later text x xs n past (place text xs (n - length (text x)) (omega (arith, length-append (text x) (flat_map text xs))))
    ]

-- a part of the items' texts ends within one of them
pub broke_off-part : {Self Item : Type 0} {took : Self → List ℕ → Self → Type 0} {text : Item → List ℕ} (a c : Self)
    (items : List Item) → TookPart took a (flat_map text items) c → BrokeOff took text a items c
broke_off-part {took = took} {text = text} a c items part =
    let at = place text items part.count part.part in record {
      whole = at.whole;
      next = at.next;
      rest = at.rest;
      order = at.order;
      count = at.count;
      part = at.part;
      taken = rw at.front at part.taken;
    }
