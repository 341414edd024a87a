-- The one text of each line that a raw script prints: words parted by single spaces, and a line feed.
use Rattle.std.specs.Prelude.{ℕ, List, [], ◌∷◌, codes, decimal}
use Rattle.hex.specs.Hex.{encode_lower}
use Rattle.text_words.specs.Words.{line, hex_byte, hex_word}
use Rattle.trace_text.specs.Trace.{data_words}
use Rattle.cq_chain.specs.declared.fault.ChainFault.TheVariants.{Hole, NotValid, BadAct, Long, Short, TooMany}
use Rattle.cq_desc.specs.declared.fault.DescFault.TheVariants.{NotValid as NotValidTask, BadAct as BadActTask}
use Rattle.cq_task.specs.declared.slot.DropCause.{DropCause}
use Rattle.cq_task.specs.declared.slot.DropCause.TheVariants.{Task, Chain}
use Rattle.raw_lines.specs.declared.raw_line.RawLine.{RawLine}
use Rattle.raw_lines.specs.declared.raw_line.RawLine.TheVariants.{Done, Dropped, Stopped, Memory, Register, Sector, Outside, NoRegister, Unread}

-- why a task is dropped, in a word
abbrev pub cause_text : DropCause → List ℕ
cause_text (Task NotValidTask) = codes "notvalid"
cause_text (Task BadActTask) = codes "badact"
cause_text (Chain NotValid) = codes "notvalid"
cause_text (Chain BadAct) = codes "badact"
cause_text (Chain Hole) = codes "hole"
cause_text (Chain Long) = codes "long"
cause_text (Chain Short) = codes "short"
cause_text (Chain TooMany) = codes "toomany"

-- the words of a line. Slots are decimal numbers, registers and bytes of the memory have two hexadecimal digits each,
-- and values and responses eight; a sector is written as a trace writes it
abbrev pub raw_line_words : RawLine → List (List ℕ)
raw_line_words (Done slot) = codes "task" ∷ decimal slot ∷ codes "ok" ∷ []
raw_line_words (Dropped slot cause) = codes "task" ∷ decimal slot ∷ codes "bad" ∷ cause_text cause ∷ []
raw_line_words (Stopped slot response) = codes "task" ∷ decimal slot ∷ codes "error" ∷ hex_word response ∷ []
raw_line_words (Memory bytes) = codes "m" ∷ encode_lower bytes ∷ []
raw_line_words (Register reg value) = codes "r" ∷ hex_byte reg ∷ hex_word value ∷ []
raw_line_words (Sector value) = codes "s" ∷ data_words value
raw_line_words Outside = codes "outside" ∷ []
raw_line_words (NoRegister reg) = codes "noreg" ∷ hex_byte reg ∷ []
raw_line_words Unread = codes "unread" ∷ []

-- a line and its line feed
unfoldable pub raw_line_text : RawLine → List ℕ
raw_line_text shown = line (raw_line_words shown)
