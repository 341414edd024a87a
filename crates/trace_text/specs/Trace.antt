-- The one text of each line of a trace: words parted by single spaces, and a line feed.
use Rattle.std.specs.Prelude.{◌≡◌, ℕ, ◌^◌, ◌<◌, ◌≤◌, Bool, true, false, List, [], ◌∷◌, Option, Some, None, IfSome, All, length, flat_map, codes, decimal}
use Rattle.hex.specs.Hex.{IsBytes}
use Rattle.text_words.specs.Texts.{IsBadAt}
use Rattle.text_words.specs.Words.{bytes_words, line, hex_word}
use Rattle.storage_model.specs.declared.block.Block.{Block}
use Rattle.storage_model.specs.declared.ends.TextEnd.{TextEnd}
use Rattle.storage_model.specs.declared.ends.TextEnd.TheVariants.{Bad as BadLine, NoMemory}
use Rattle.storage_model.specs.declared.faults.BusKind.{BusKind}
use Rattle.storage_model.specs.declared.faults.BusKind.TheVariants.{Lost as LostCommand, NoResp, Bad, Late}
use Rattle.storage_model.specs.declared.faults.Letter.{Letter}
use Rattle.storage_model.specs.declared.faults.Letter.TheVariants.{Host, Engine, Card as CardLetter, Cut as CutLetter}
use Rattle.storage_model.specs.declared.trace.End.{End}
use Rattle.storage_model.specs.declared.trace.End.TheVariants.{Good, Fault as FaultEnd, Dead, Image}
use Rattle.storage_model.specs.declared.trace.Limit.{Limit}
use Rattle.storage_model.specs.declared.trace.Limit.TheVariants.{Range, Align}
use Rattle.storage_model.specs.declared.trace.Why.{Why}
use Rattle.storage_model.specs.declared.trace.Why.TheVariants.{Bus as BusFault, Flash as FlashFault}
use Rattle.storage_model.specs.declared.trace.Item.{Item}
use Rattle.storage_model.specs.declared.trace.Item.TheVariants.{Card, Issue, Params, Address, Poll, Phase, Discard, Bus, Flash, Recover, Irq, Done, Read, Sector, Status, Fault, Refused, Cut, Lost, On, Left, Turn, Off}

-- a sector's bytes: `fill` and the byte where all are equal, else all digits
abbrev pub data_words : Block → List (List ℕ)
data_words value = bytes_words value.0

abbrev pub lines_text : Option ℕ → List ℕ
lines_text (Some lines) = decimal lines
lines_text None = codes "off"

abbrev pub id_text : Option ℕ → List ℕ
id_text (Some id) = decimal id
id_text None = codes "-"

-- a bus fault, and whose it was
abbrev pub kind_words : BusKind → Option ℕ → List (List ℕ)
kind_words LostCommand id = codes "lost" ∷ id_text id ∷ []
kind_words NoResp id = codes "noresp" ∷ id_text id ∷ []
kind_words (Bad block) id = codes "data" ∷ decimal block ∷ id_text id ∷ []
kind_words Late id = codes "late" ∷ id_text id ∷ []

abbrev pub why_text : Why → List ℕ
why_text BusFault = codes "bus"
why_text FlashFault = codes "flash"

-- what a refused request passed
abbrev pub limit_text : Limit → List ℕ
limit_text Range = codes "range"
limit_text Align = codes "align"

abbrev pub letter_text : Letter → List ℕ
letter_text Host = codes "h"
letter_text Engine = codes "e"
letter_text CardLetter = codes "c"
letter_text CutLetter = codes "x"

abbrev pub end_text : End → List ℕ
end_text Good = codes "ok"
end_text FaultEnd = codes "fault"
end_text Dead = codes "dead"
end_text Image = codes "image"

abbrev pub kept_words : Bool → List (List ℕ)
kept_words true = codes "kept" ∷ []
kept_words false = []

-- the words of a line
abbrev pub item_words : Item → List (List ℕ)
item_words (Card sectors depth lines) = codes "card" ∷ decimal sectors ∷ decimal depth ∷ lines_text lines ∷ []
item_words (Issue id tag) = codes "issue" ∷ decimal id ∷ decimal tag ∷ []
item_words (Params n id) = codes "params" ∷ decimal n ∷ decimal id ∷ []
item_words (Address n id) = codes "address" ∷ decimal n ∷ decimal id ∷ []
item_words (Poll n mask) = codes "poll" ∷ decimal n ∷ hex_word mask ∷ []
item_words (Phase n id count kept) = codes "phase" ∷ decimal n ∷ decimal id ∷ decimal count ∷ kept_words kept
item_words (Discard n) = codes "discard" ∷ decimal n ∷ []
item_words (Bus n kind id) = codes "bus" ∷ decimal n ∷ kind_words kind id
item_words (Flash id) = codes "flash" ∷ id_text id ∷ []
item_words Recover = codes "recover" ∷ []
item_words (Irq mask) = codes "irq" ∷ hex_word mask ∷ []
item_words (Done id) = decimal id ∷ codes "ok" ∷ []
item_words (Read id) = decimal id ∷ codes "data" ∷ []
item_words (Sector value) = data_words value
item_words (Status id number) = decimal id ∷ codes "status" ∷ hex_word number ∷ []
item_words (Fault id why) = decimal id ∷ codes "fault" ∷ why_text why ∷ []
item_words (Refused id why) = decimal id ∷ codes "refused" ∷ limit_text why ∷ []
item_words Cut = codes "cut" ∷ []
item_words (Lost id) = decimal id ∷ codes "lost" ∷ []
item_words On = codes "on" ∷ []
item_words (Left sector value) = codes "left" ∷ decimal sector ∷ data_words value
item_words (Turn letter) = codes "turn" ∷ letter_text letter ∷ []
item_words (Off end) = codes "off" ∷ end_text end ∷ []

-- a line and its line feed
unfoldable pub item_text : Item → List ℕ
item_text item = line (item_words item)

-- the lines one after the other
abbrev pub items_text : List Item → List ℕ
items_text items = flat_map item_text items

-- 512 bytes
pub record IsBlock (value : Block) : Type 0 where
  pub bytes : IsBytes value.0
  pub long : length value.0 ≡ 512

abbrev pub IsKind : BusKind → Type 0
IsKind (Bad block) = block < 2 ^ 16
IsKind _ = Unit {0}

-- the numbers of a line have the sizes of their types
abbrev pub IsItem : Item → Type 0
IsItem (Card sectors depth lines) = (sectors < 2 ^ 32) × (depth < 2 ^ 8) × IfSome lines (λ n. n < 2 ^ 16)
IsItem (Issue id tag) = (id < 2 ^ 32) × (tag < 2 ^ 8)
IsItem (Params n id) = (n < 2 ^ 32) × (id < 2 ^ 32)
IsItem (Address n id) = (n < 2 ^ 32) × (id < 2 ^ 32)
IsItem (Poll n mask) = (n < 2 ^ 32) × (mask < 2 ^ 32)
IsItem (Phase n id count kept) = (n < 2 ^ 32) × (id < 2 ^ 32) × (count < 2 ^ 16)
IsItem (Discard n) = n < 2 ^ 32
IsItem (Bus n kind id) = (n < 2 ^ 32) × IsKind kind × IfSome id (λ n. n < 2 ^ 32)
IsItem (Flash id) = IfSome id (λ n. n < 2 ^ 32)
IsItem Recover = Unit {0}
IsItem (Irq mask) = mask < 2 ^ 32
IsItem (Done id) = id < 2 ^ 32
IsItem (Read id) = id < 2 ^ 32
IsItem (Sector value) = IsBlock value
IsItem (Status id number) = (id < 2 ^ 32) × (number < 2 ^ 32)
IsItem (Fault id why) = id < 2 ^ 32
IsItem (Refused id why) = id < 2 ^ 32
IsItem Cut = Unit {0}
IsItem (Lost id) = id < 2 ^ 32
IsItem On = Unit {0}
IsItem (Left sector value) = (sector < 2 ^ 32) × IsBlock value
IsItem (Turn letter) = Unit {0}
IsItem (Off end) = Unit {0}

-- items that one text can have, in 16 MiB
pub record AreWithin (items : List Item) : Type 0 where
  pub each : All IsItem items
  pub bytes : length (items_text items) ≤ 16777216

-- the text means these items
pub record Means (bytes : List ℕ) (items : List Item) : Type 0 where
  pub text : bytes ≡ items_text items
  pub within : AreWithin items

-- why a text is refused: at its first bad line. Want of memory has no cause in the text
abbrev pub IsRefused : List ℕ → TextEnd → Type 0
IsRefused bytes (BadLine number) = IsBadAt Means bytes number
IsRefused bytes NoMemory = Unit {0}
