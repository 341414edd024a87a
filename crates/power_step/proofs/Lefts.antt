-- What is left of the sectors, one after the other.
use Rattle.std.proofs.Common.{◌≡◌, ◌∙◌, ◌++◌, ◌∷◌, ◌<◌, inl, inr, ℕ, suc, List, [], Result, Ok, Err, length, ap, refl, sym, arith}
use Rattle.std.proofs.lemmas.List.{append_assoc}
use Rattle.std.proofs.lemmas.List.Elements.{All-head, All-tail}
use Rattle.io_edge.specs.Sink.{Joins}
use Rattle.storage_model.specs.declared.block.Block.{Block}
use Rattle.storage_model.specs.declared.ends.Halt.{Halt}
use Rattle.storage_model.specs.declared.ends.Halt.TheVariants.{SinkFailed, OpenFault, PowerGone, BadImage}
use Rattle.storage_model.specs.declared.trace.End.TheVariants.{Fault}
use Rattle.storage_model.specs.declared.trace.Item.{Item}
use Rattle.storage_model.specs.declared.trace.Item.TheVariants.{Off}
use Rattle.array_edge.specs.Array.{ArrayState}
use Rattle.intent_store.specs.Intent.{shown_by}
use Rattle.card_store.specs.Store.{IsOpen}
use Rattle.card_core.specs.Card.{CardState}
use Rattle.left_laws.specs.Lines.{left_line}
use Rattle.power_step.specs.Cut.{EndsLeft, EndsUnread, IsRead, LeftWritten, SectorWritten, ShowsFirst, ShowsSector}
use Rattle.power_step.proofs.Counting.{later_both, later_same, plain_join, rose_before}
use Rattle.power_step.proofs.Taking.{wrote_behind}

pub read_none : (card : CardState) (a : ArrayState) → IsOpen card.store a → IsRead card a card a
read_none card a opened = record {
  is_open = opened;
  same = refl;
  store = record { sectors = refl; last = refl; room = refl };
  cache = refl;
  array = refl;
  faults = later_same a.faults;
  stands = λ after stands. stands;
}

pub read_both : (card mid card' : CardState) (a am a' : ArrayState) → IsRead card a mid am → IsRead mid am card' a' → IsRead card a card' a'
read_both card mid card' a am a' first last = record {
  is_open = last.is_open;
  same = last.same ∙ ap {A = CardState} (λ c. record c { store = card'.store }) first.same;
  store = record {
    sectors = last.store.sectors ∙ first.store.sectors;
    last = last.store.last ∙ first.store.last;
    room = last.store.room ∙ first.store.room;
  };
  cache = last.cache ∙ first.cache;
  array = last.array ∙ ap {A = ArrayState} (λ x. record x { faults = a'.faults; fetches = a'.fetches }) first.array;
  faults = later_both a.faults am.faults a'.faults first.faults last.faults;
  stands = λ after stands. last.stands after (first.stands after stands);
}

-- the pages stay
pub read_shown : (card card' : CardState) (a a' : ArrayState) → IsRead card a card' a' → shown_by a' ≡ shown_by a
read_shown card card' a a' read = ap (λ x. shown_by x) read.array

pub ends_behind : (result : Result (Unit {0}) Halt) (front items : List Item) → EndsLeft result items → EndsLeft result (front ++ items)
ends_behind (Ok done) front items ends = tt
ends_behind (Err SinkFailed) front items ends = tt
ends_behind (Err OpenFault) front items ends = (front ++ ends.0, ap (λ more. front ++ more) ends.1 ∙ sym (append_assoc front ends.0 (Off Fault ∷ [])))
ends_behind (Err PowerGone) front items ends = ends
ends_behind (Err BadImage) front items ends = ends

-- a sector that was shown, and those behind it
unread_more : (sector : ℕ) (rest : List ℕ) (after : List Block) (front items : List Item) → front ≡ left_line after sector ∷ [] → EndsUnread rest after items → EndsUnread (sector ∷ rest) after (front ++ items)
unread_more sector rest after front items is shows =
    let few = shows.1 in
    (suc shows.0, omega (arith, few), ap (λ lines. lines ++ items) is ∙ ap (λ lines. left_line after sector ∷ lines) shows.2)

shows_more : (sector : ℕ) (rest : List ℕ) (after : List Block) (result : Result (Unit {0}) Halt) (front items : List Item) → front ≡ left_line after sector ∷ [] → ShowsFirst rest after result items
    → ShowsFirst (sector ∷ rest) after result (front ++ items)
shows_more sector rest after (Ok done) front items is shows = ap (λ lines. lines ++ items) is ∙ ap (λ lines. left_line after sector ∷ lines) shows
shows_more sector rest after (Err SinkFailed) front items is (inl shows) =
    let few = shows.1 in
    inl (suc shows.0, omega (arith, few), ap (λ lines. lines ++ items) is ∙ ap (λ lines. left_line after sector ∷ lines) shows.2)
shows_more sector rest after (Err SinkFailed) front items is (inr shows) = inr (unread_more sector rest after front items is shows)
shows_more sector rest after (Err OpenFault) front items is shows = unread_more sector rest after front items is shows
shows_more sector rest after (Err PowerGone) front items is shows = shows
shows_more sector rest after (Err BadImage) front items is shows = shows

-- one that wasn't
shows_none : (sector : ℕ) (rest : List ℕ) (after : List Block) (halt : Halt) (items : List Item) → ShowsSector sector after (Err halt) items → ShowsFirst (sector ∷ rest) after (Err halt) items
shows_none sector rest after SinkFailed items (inl is) = inl (1, omega arith, is)
shows_none sector rest after SinkFailed items (inr is) = inr (0, omega arith, is)
shows_none sector rest after OpenFault items is = (0, omega arith, is)
shows_none sector rest after PowerGone items none = none
shows_none sector rest after BadImage items none = none

module _ {K : Type 0} (took : K → List ℕ → K → Type 0) (both : Joins took) where
  pub left_next : (sector : ℕ) (rest : List ℕ) (result : Result (Unit {0}) Halt) (old mid new : K) (card cm card' : CardState) (a am a' : ArrayState)
      → SectorWritten took sector old card a (Ok tt) mid cm am → LeftWritten took rest mid cm am result new card' a' → LeftWritten took (sector ∷ rest) old card a result new card' a'
  left_next sector rest result old mid new card cm card' a am a' first last = record {
    items = first.items ++ last.items;
    wrote = wrote_behind took both old mid new first.items last.items result first.wrote last.wrote;
    shows = λ after shown stands all.
        shows_more sector rest after result first.items last.items
        (first.shows after shown stands (All-head (λ sector. sector < length after) sector rest all))
        (last.shows after (read_shown card cm a am first.read ∙ shown) (first.read.stands after stands) (All-tail (λ sector. sector < length after) sector rest all));
    ends = ends_behind result first.items last.items last.ends;
    plain = plain_join first.items last.items first.plain last.plain;
    read = read_both card cm card' a am a' first.read last.read;
    failed = rose_before _ a.faults am.faults a'.faults first.read.faults last.failed;
  }

pub left_broken : {K : Type 0} (took : K → List ℕ → K → Type 0) (sector : ℕ) (rest : List ℕ) (halt : Halt) (old new : K) (card card' : CardState) (a a' : ArrayState) → SectorWritten took sector old card a (Err halt) new card' a'
    → LeftWritten took (sector ∷ rest) old card a (Err halt) new card' a'
left_broken took sector rest halt old new card card' a a' part = record {
  items = part.items;
  wrote = part.wrote;
  shows = λ after shown stands all.
      shows_none sector rest after halt part.items (part.shows after shown stands (All-head (λ sector. sector < length after) sector rest all));
  ends = part.ends;
  plain = part.plain;
  read = part.read;
  failed = part.failed;
}
