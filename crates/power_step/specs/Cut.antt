-- The lines behind a cut, stage by stage, with what the array and the card come to.
use Rattle.std.specs.Prelude.{◌≡◌, ◌⊎◌, ◌≤◌, ◌<◌, ℕ, true, All, IfErr, IfSome, OnOk, List, [], ◌∷◌, ◌++◌, Option, Some, Result, Ok, Err, count_by, is_ok, is_some, length, map, take}
use Rattle.storage_model.specs.Count.{Later}
use Rattle.storage_model.specs.declared.block.Block.{Block}
use Rattle.storage_model.specs.declared.ends.Halt.{Halt}
use Rattle.storage_model.specs.declared.ends.Halt.TheVariants.{SinkFailed, OpenFault, PowerGone, BadImage as BadPages}
use Rattle.storage_model.specs.declared.trace.End.{End}
use Rattle.storage_model.specs.declared.trace.End.TheVariants.{Fault, Dead, Image}
use Rattle.storage_model.specs.declared.trace.Item.{Item}
use Rattle.storage_model.specs.declared.trace.Item.TheVariants.{Cut, Off, On}
use Rattle.array_edge.specs.Array.{ArrayState}
use Rattle.intent_store.specs.Intent.{ShowsImage, shown_by}
use Rattle.intent_store.specs.declared.ends.StartEnd.{StartEnd}
use Rattle.intent_store.specs.declared.ends.StartEnd.TheVariants.{Flash, PowerLost, BadImage}
use Rattle.card_store.specs.Store.{IsOpen, IsSameStore, IsStore, Stands}
use Rattle.card_core.specs.Card.{CardState, idle_card, sectors, set_up as card_set_up}
use Rattle.cut_laws.specs.Laws.{further_cuts, may_end}
use Rattle.cut_laws.specs.Lost.{AreLost, lost_lines}
use Rattle.left_laws.specs.Lines.{left_line}
use Rattle.trace_print.specs.Prints.{RoseBy, halt_faults, is_cut_line, is_flash}
use Rattle.trace_text.specs.Trace.{items_text}
use Rattle.power_step.specs.Wrote.{TakesPart, Wrote}

-- the issued requests above the last are lost, by number
pub record LostWritten {K : Type 0} (took : K → List ℕ → K → Type 0) (holders : List (Option ℕ)) (last : ℕ) (old : K) (result : Result (Unit {0}) Halt) (new : K) : Type 0 where
  pub ids : List ℕ
  pub are : AreLost last holders (is_ok result) ids
  pub wrote : Wrote took old (lost_lines ids) result new

-- the line of an opening that failed, and why the run ends with it
abbrev pub failed_line : StartEnd → Item
failed_line Flash = Off Fault
failed_line PowerLost = Cut
failed_line BadImage = Off Image

abbrev pub halt_for : StartEnd → Halt
halt_for Flash = OpenFault
halt_for PowerLost = SinkFailed
halt_for BadImage = BadPages

abbrev pub HaltsFor : StartEnd → Result (Unit {0}) Halt → Type 0
HaltsFor PowerLost result = IfErr result (λ halt. halt ≡ SinkFailed)
HaltsFor why (Ok done) = ⊥
HaltsFor why (Err halt) = (halt ≡ SinkFailed) ⊎ (halt ≡ halt_for why)

abbrev pub EndsWith : ℕ → End → List Item → Type 0
EndsWith cuts end items = (items ≡ further_cuts cuts ++ Off end ∷ []) × (may_end cuts end ≡ true)

-- So many openings were cut, and the last one wasn't; or there is an end line. Where the sink failed the last line is that of a cut or an end.
abbrev pub IsReopening : ℕ → Result (Unit {0}) Halt → List Item → Type 0
IsReopening cuts (Ok done) items = (items ≡ further_cuts cuts) × (cuts ≤ 7)
IsReopening cuts (Err SinkFailed) items = ((items ≡ further_cuts cuts) × (cuts ≤ 8)) ⊎ ((end : End) × EndsWith cuts end items)
IsReopening cuts (Err OpenFault) items = EndsWith cuts Fault items
IsReopening cuts (Err PowerGone) items = EndsWith cuts Dead items
IsReopening cuts (Err BadPages) items = EndsWith cuts Image items

-- the card after an opening that went well: set up anew, with an empty cache
pub record IsOpened (old new : CardState) (a : ArrayState) : Type 0 where
  pub is_open : IsOpen new.store a
  pub card : new ≡ record (idle_card old.depth old.lines old.through new.store) { csd = card_set_up old (sectors new) }
  pub room : new.store.cache.room ≡ old.store.cache.room
  pub last : new.store.cache.last ≡ 0
  pub lines : new.store.cache.lines ≡ []
  pub stands : IfSome (shown_by a) (λ shown. Stands (record { base = shown; pend = [] }) new.store a)
  pub powered : a.powered ≡ true

-- what stays of a card whose image isn't open
pub record IsLike (old new : CardState) : Type 0 where
  pub depth : new.depth ≡ old.depth
  pub lines : new.lines ≡ old.lines
  pub through : new.through ≡ old.through
  pub room : new.store.cache.room ≡ old.store.cache.room

-- what the array comes to with so many cuts: it shows what it showed
pub record IsKept (cuts faults : ℕ) (a a' : ArrayState) : Type 0 where
  pub shown : shown_by a' ≡ shown_by a
  pub tells : is_some a'.told ≡ is_some a.told
  pub image : ShowsImage a → ShowsImage a'
  pub later_faults : Later a.faults a'.faults
  pub later_cuts : Later a.cuts a'.cuts
  pub cut : RoseBy cuts a.cuts a'.cuts
  pub failed : RoseBy faults a.faults a'.faults

-- the openings behind a cut
pub record OpensAgain {K : Type 0} (took : K → List ℕ → K → Type 0) (old : K) (card : CardState) (a : ArrayState) (result : Result (Unit {0}) Halt) (new : K) (card' : CardState) (a' : ArrayState) : Type 0 where
  pub cuts : ℕ
  pub items : List Item
  pub lines : IsReopening cuts result items
  pub wrote : Wrote took old items result new
  pub kept : IsKept cuts (halt_faults result) a a'
  pub opened : OnOk result (IsOpened card card' a')

-- a card that read sectors, and its array
pub record IsRead (card : CardState) (a : ArrayState) (card' : CardState) (a' : ArrayState) : Type 0 where
  pub is_open : IsOpen card'.store a'
  pub same : card' ≡ record card { store = card'.store }
  pub store : IsSameStore card.store card'.store
  pub cache : card'.store.cache ≡ card.store.cache
  pub array : a' ≡ record a { faults = a'.faults; fetches = a'.fetches }
  pub faults : Later a.faults a'.faults
  pub stands : (after : List Block) → Stands (record { base = after; pend = [] }) card.store a → Stands (record { base = after; pend = [] }) card'.store a'

-- what a sector shows, or the end in place of its line
abbrev pub ShowsSector : ℕ → List Block → Result (Unit {0}) Halt → List Item → Type 0
ShowsSector sector after (Ok done) items = items ≡ left_line after sector ∷ []
ShowsSector sector after (Err SinkFailed) items = (items ≡ left_line after sector ∷ []) ⊎ (items ≡ Off Fault ∷ [])
ShowsSector sector after (Err OpenFault) items = items ≡ Off Fault ∷ []
ShowsSector sector after (Err halt) items = ⊥

-- a run that ends here has the end's line
abbrev pub EndsLeft : Result (Unit {0}) Halt → List Item → Type 0
EndsLeft (Ok done) items = Unit {0}
EndsLeft (Err SinkFailed) items = Unit {0}
EndsLeft (Err OpenFault) items = (before : List Item) × (items ≡ before ++ Off Fault ∷ [])
EndsLeft (Err halt) items = ⊥

-- none of the lines is a fault of the flash or a cut
pub record ArePlain (items : List Item) : Type 0 where
  pub no_flash : count_by is_flash items ≡ 0
  pub no_cut : count_by is_cut_line items ≡ 0

-- what is left of one sector
pub record SectorWritten {K : Type 0} (took : K → List ℕ → K → Type 0) (sector : ℕ) (old : K) (card : CardState) (a : ArrayState) (result : Result (Unit {0}) Halt) (new : K) (card' : CardState) (a' : ArrayState) : Type 0 where
  pub items : List Item
  pub wrote : Wrote took old items result new
  pub shows : (after : List Block) → shown_by a ≡ Some after → Stands (record { base = after; pend = [] }) card.store a → sector < length after → ShowsSector sector after result items
  pub ends : EndsLeft result items
  pub plain : ArePlain items
  pub read : IsRead card a card' a'
  pub failed : RoseBy (halt_faults result) a.faults a'.faults

-- the first sectors were shown as these contents have them
abbrev pub ShowsTaken : List ℕ → List Block → List Item → Type 0
ShowsTaken sectors after items = (k : ℕ) × (k ≤ length sectors) × (items ≡ map (left_line after) (take k sectors))

-- and the end stands in place of the next one's line
abbrev pub EndsUnread : List ℕ → List Block → List Item → Type 0
EndsUnread sectors after items = (k : ℕ) × (k < length sectors) × (items ≡ map (left_line after) (take k sectors) ++ Off Fault ∷ [])

-- all were shown, or one couldn't be read; the sink fails in one of these lines
abbrev pub ShowsFirst : List ℕ → List Block → Result (Unit {0}) Halt → List Item → Type 0
ShowsFirst sectors after (Ok done) items = items ≡ map (left_line after) sectors
ShowsFirst sectors after (Err SinkFailed) items = ShowsTaken sectors after items ⊎ EndsUnread sectors after items
ShowsFirst sectors after (Err OpenFault) items = EndsUnread sectors after items
ShowsFirst sectors after (Err halt) items = ⊥

abbrev pub ShowsSectors : List ℕ → CardState → ArrayState → Result (Unit {0}) Halt → List Item → Type 0
ShowsSectors pending card a result items =
    (after : List Block) → shown_by a ≡ Some after → Stands (record { base = after; pend = [] }) card.store a → All (λ sector. sector < length after) pending → ShowsFirst pending after result items

-- what is left of the sectors
pub record LeftWritten {K : Type 0} (took : K → List ℕ → K → Type 0) (pending : List ℕ) (old : K) (card : CardState) (a : ArrayState) (result : Result (Unit {0}) Halt) (new : K) (card' : CardState) (a' : ArrayState) : Type 0 where
  pub items : List Item
  pub wrote : Wrote took old items result new
  pub shows : ShowsSectors pending card a result items
  pub ends : EndsLeft result items
  pub plain : ArePlain items
  pub read : IsRead card a card' a'
  pub failed : RoseBy (halt_faults result) a.faults a'.faults

-- no opening went well, or the sink failed in one of their lines
pub record StaysOff {K : Type 0} (took : K → List ℕ → K → Type 0) (old : K) (card : CardState) (a : ArrayState) (result : Result (Unit {0}) Halt) (new : K) (card' : CardState) (a' : ArrayState) : Type 0 where
  pub halt : Halt
  pub failed : result ≡ Err halt
  pub opens : OpensAgain took old card a (Err halt) new card' a'

-- one did, and the line that the power is on broke off
pub record BreaksOn {K : Type 0} (took : K → List ℕ → K → Type 0) (old : K) (card : CardState) (a : ArrayState) (result : Result (Unit {0}) Halt) (new : K) (card' : CardState) (a' : ArrayState) : Type 0 where
  pub failed : result ≡ Err SinkFailed
  pub reopened : K
  pub opens : OpensAgain took old card a (Ok tt) reopened card' a'
  pub part : TakesPart took reopened (On ∷ []) new

-- that line came, and what is left was shown
pub record ComesOn {K : Type 0} (took : K → List ℕ → K → Type 0) (pending : List ℕ) (old : K) (card : CardState) (a : ArrayState) (result : Result (Unit {0}) Halt) (new : K) (card' : CardState) (a' : ArrayState) : Type 0 where
  pub reopened : K
  pub lit : K
  pub opened : CardState
  pub shown : ArrayState
  pub opens : OpensAgain took old card a (Ok tt) reopened opened shown
  pub on : took reopened (items_text (On ∷ [])) lit
  pub left : LeftWritten took pending lit opened shown result new card' a'
  pub store : OnOk result (IsStore card'.store)

-- the openings behind the lines of lost requests, and what comes of them
abbrev pub PowerReturns : {K : Type 0} → (K → List ℕ → K → Type 0) → List ℕ → K → CardState → ArrayState → Result (Unit {0}) Halt → K → CardState → ArrayState → Type 0
PowerReturns took pending old card a result new card' a' =
    StaysOff took old card a result new card' a' ⊎ (BreaksOn took old card a result new card' a' ⊎ ComesOn took pending old card a result new card' a')
