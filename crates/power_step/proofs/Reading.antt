-- What is left of one sector.
use Rattle.std.proofs.Common.{◌≡◌, ◌∙◌, ◌∷◌, ◌<◌, ◌≤◌, inl, ℕ, true, IfErr, IfSome, List, [], Some, Result, Ok, Err, length, ap, refl, sym, subst, arith}
use Rattle.storage_model.specs.Contents.{contents_now, sector_at}
use Rattle.storage_model.specs.Count.{Later, Rose}
use Rattle.storage_model.specs.declared.block.Block.{Block}
use Rattle.storage_model.specs.declared.ends.Halt.{Halt}
use Rattle.storage_model.specs.declared.ends.Halt.TheVariants.{SinkFailed, OpenFault}
use Rattle.storage_model.specs.declared.trace.End.TheVariants.{Fault}
use Rattle.storage_model.specs.declared.trace.Item.{Item}
use Rattle.storage_model.specs.declared.trace.Item.TheVariants.{Left, Off}
use Rattle.array_edge.specs.Array.{ArrayState}
use Rattle.intent_store.specs.Intent.{StoreEnds, shown_by}
use Rattle.intent_store.specs.declared.ends.StoreEnd.{StoreEnd}
use Rattle.intent_store.specs.declared.ends.StoreEnd.TheVariants.{Flash, PowerLost}
use Rattle.card_store.specs.Store.{IsOpen, IsSameStore, Reads, Stands, Turns, same, sectors_of}
use Rattle.card_core.specs.Card.{CardState}
use Rattle.left_laws.specs.Lines.{left_line}
use Rattle.trace_print.specs.Prints.{Takes}
use Rattle.trace_text.specs.Trace.{items_text}
use Rattle.power_step.specs.Cut.{ArePlain, IsRead, SectorWritten, ShowsSector}
use Rattle.power_step.proofs.Counting.{fault_once, later_same, rose_none}
use Rattle.power_step.proofs.Lefts.{read_none}
use Rattle.power_step.proofs.Taking.{part_of_one}

pub is_read : (card : CardState) (a : ArrayState) (card' : CardState) (a' : ArrayState) → IsOpen card'.store a' → card' ≡ record card { store = card'.store } → IsSameStore card.store card'.store
    → a' ≡ record a { faults = a'.faults; fetches = a'.fetches } → Later a.faults a'.faults → Turns same card.store a card'.store a' → card'.store.cache ≡ card.store.cache → IsRead card a card' a'
is_read card a card' a' opened is store array faults turns cache = record {
  is_open = opened;
  same = is;
  store = store;
  cache = cache;
  array = array;
  faults = faults;
  stands = λ after stands. turns (record { base = after; pend = [] }) stands;
}

-- power stays, so it was a fault of the flash
pub read_failed : (why : StoreEnd) (a a' : ArrayState) → a.powered ≡ true → a' ≡ record a { faults = a'.faults; fetches = a'.fetches } → StoreEnds {T = Unit {0}} a a' (Err why) → Rose a.faults a'.faults
read_failed Flash a a' powered is ends = (ends.flash refl).0
read_failed PowerLost a a' powered is ends =
    let on : a'.powered ≡ true = ap (λ x. x.powered) is ∙ powered in
    let off = (ends.lost refl).1 in
    absurd (cc (on, off))

module _ {K : Type 0} (took : K → List ℕ → K → Type 0) (sector : ℕ) (card : CardState) (a : ArrayState) where
  -- the image has no such sector
  pub sector_passed : (nothing : (out : K) → took out [] out) (out : K) (count : ℕ) → IsOpen card.store a → sectors_of card.store ≡ Some count → count ≤ sector → SectorWritten took sector out card a (Ok tt) out card a
  sector_passed nothing out count opened is past = record {
    items = [];
    wrote = nothing out;
    shows = λ after shown stands below. let same : Some count ≡ Some (length after) = sym is ∙ stands.sectors in absurd (beyond count (length after) same past below);
    ends = tt;
    plain = record { no_flash = refl; no_cut = refl };
    read = read_none card a opened;
    failed = rose_none a.faults a.faults (later_same a.faults);
  }
    where
      beyond : (count long : ℕ) → Some count ≡ Some long → count ≤ sector → sector < long → ⊥
      beyond count long same past below = let eq : count ≡ long = cc same in absurd (omega (arith, eq, past, below))

  module _ (old new : K) (value : Block) (card' : CardState) (a' : ArrayState) (read : IsRead card a card' a') where
    shows_value : Reads card.store a sector value → (after : List Block) → shown_by a ≡ Some after → Stands (record { base = after; pend = [] }) card.store a → Left sector value ∷ [] ≡ left_line after sector ∷ []
    unfolding contents_now
    shows_value reads after shown stands =
        let is : value ≡ sector_at after sector = subst (λ o. IfSome o (λ _. value ≡ sector_at after sector)) shown (reads (record { base = after; pend = [] }) stands) in
        ap (λ v. Left sector v ∷ []) is

    pub sector_shown : Reads card.store a sector value → took old (items_text (Left sector value ∷ [])) new → SectorWritten took sector old card a (Ok tt) new card' a'
    sector_shown reads taken = record {
      items = Left sector value ∷ [];
      wrote = taken;
      shows = λ after shown stands below. shows_value reads after shown stands;
      ends = tt;
      plain = record { no_flash = refl; no_cut = refl };
      read = read;
      failed = rose_none a.faults a'.faults read.faults;
    }

    -- what a line shows that broke off
    abbrev ShowsWhat : Item → Type 0
    ShowsWhat item = (after : List Block) → shown_by a ≡ Some after → Stands (record { base = after; pend = [] }) card.store a → sector < length after → ShowsSector sector after (Err SinkFailed) (item ∷ [])

    abbrev IsPlainLine : Item → Type 0
    IsPlainLine item = ArePlain (item ∷ [])

    -- the line broke off
    pub sector_broken : (halt : Halt) (item : Item) → IsPlainLine item → ShowsWhat item → Takes took old (item ∷ []) (Err halt) new → halt ≡ SinkFailed → SectorWritten took sector old card a (Err halt) new card' a'
    sector_broken halt item quiet shows line is = subst (λ h. Takes took old (item ∷ []) (Err h) new → SectorWritten took sector old card a (Err h) new card' a') (sym is) (λ part. record {
      items = item ∷ [];
      wrote = part_of_one took old new item part;
      shows = shows;
      ends = tt;
      plain = quiet;
      read = read;
      failed = rose_none a.faults a'.faults read.faults;
    }) line

    -- it can't be read
    pub sector_unread : Rose a.faults a'.faults → took old (items_text (Off Fault ∷ [])) new → SectorWritten took sector old card a (Err OpenFault) new card' a'
    sector_unread rose taken = record {
      items = Off Fault ∷ [];
      wrote = taken;
      shows = λ after shown stands below. refl;
      ends = ([], refl);
      plain = record { no_flash = refl; no_cut = refl };
      read = read;
      failed = fault_once a.faults a.faults a'.faults (later_same a.faults) rose;
    }

    -- it was read, and however its line went
    pub sector_printed : (result : Result (Unit {0}) Halt) → Reads card.store a sector value → Takes took old (Left sector value ∷ []) result new → IfErr result (λ halt. halt ≡ SinkFailed) → SectorWritten took sector old card a result new card' a'
    sector_printed (Ok done) reads takes is = sector_shown reads takes
    sector_printed (Err halt) reads takes is = sector_broken halt (Left sector value) (record { no_flash = refl; no_cut = refl }) (λ after shown stands below. inl (shows_value reads after shown stands)) takes is
