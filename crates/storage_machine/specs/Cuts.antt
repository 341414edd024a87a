-- Power cuts: which `cut` line of the fault text is due, and what comes after a cut.
use Rattle.std.specs.Prelude.{ℕ, ◌==◌, ◌&&◌, nat_le, min, Bool, false, not, if◌then◌else◌, Option, Some, None, List, fold, is_some, position, zip, bytes_eq}
use Rattle.std.specs.List.{list_any}
use Rattle.storage_machine.specs.Commands.{next_number}
use Rattle.storage_machine.specs.Host.{to_do}
use Rattle.storage_machine.specs.Slots.{asks, id_of}
use Rattle.storage_machine.specs.declared.slots.Question.TheVariants.{Issued}
use Rattle.storage_machine.specs.declared.state.State.{State}
use Rattle.storage_machine.specs.declared.state.Task.{Task}
use Rattle.storage_model.specs.declared.block.Block.{Block}
use Rattle.storage_model.specs.declared.marks.Mark.{Mark}
use Rattle.storage_model.specs.declared.marks.Mark.TheVariants.{Put as PutMark, Bar}

-- commands sent before the next event, that of a phase under way among them
abbrev pub sent_so_far : State → ℕ
sent_so_far s = if s.busy then next_number s else s.n

-- the first `cut` line that isn't used and whose number has come
unfoldable pub due_line : State → Option ℕ
due_line s = position (λ line. not line.1 && nat_le line.0 (sent_so_far s)) (zip s.faults.cuts s.cuts)

abbrev pub is_due : State → Bool
is_due s = to_do s && is_some (due_line s)

-- the next command's own number has a `cut` line that isn't used
unfoldable pub has_own_line : State → Bool
has_own_line s = list_any (λ line. not line.1 && (line.0 == next_number s)) (zip s.faults.cuts s.cuts)

-- the lesser
abbrev pub least : Option ℕ → ℕ → Option ℕ
least None x = Some x
least (Some y) x = Some (min y x)

-- the lowest number of the issued requests
abbrev pub lower_issued : Option ℕ → Option Task → Option ℕ
lower_issued best slot = if asks Issued slot then least best (id_of slot) else best

unfoldable pub first_lost : List (Option Task) → Option ℕ
first_lost slots = fold lower_issued None slots

-- the lowest sector, from a first on, that has a put
abbrev pub nearer : ℕ → Option ℕ → Mark → Option ℕ
nearer from best (PutMark put) = if nat_le from put.sector then least best put.sector else best
nearer from best Bar = best

unfoldable pub next_left : List Mark → ℕ → Option ℕ
next_left pend from = fold (nearer from) None pend

abbrev pub same_block : Block → Block → Bool
same_block block other = bytes_eq block.0 other.0

-- the contents have this value there
abbrev pub shows : Option Block → Block → Bool
shows None value = false
shows (Some block) value = same_block block value
