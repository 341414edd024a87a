-- The line that serves what is owed.
use Rattle.std.proofs.Common.{inl, inr, ◌≡◌, ◌∙◌, ℕ, ◌==◌, Bool, true, false, cond, ◌&&◌, not, option_map, slice_get, Option, Some, None, length, refl, ap, sym}
use Rattle.std.proofs.lemmas.Bool.{and_parts, cases_Bool, cond-false, cond-true, eqb-true, false≢true, not-true}
use Rattle.std.proofs.lemmas.Slice.Eq.{bytes_eq-Decides}
use Rattle.one_trace.proofs.Settled.{Serves, is_lit}
use Rattle.one_trace.specs.Traces.{is_plain}
use Rattle.storage_machine.specs.Commands.{id_on}
use Rattle.storage_machine.specs.Cuts.{same_block, shows}
use Rattle.storage_machine.specs.Jobs.{is_read, is_status, job_of}
use Rattle.storage_machine.specs.Slots.{tag_of}
use Rattle.storage_machine.specs.declared.slots.Question.TheVariants.{Collected}
use Rattle.storage_machine.specs.declared.state.Owed.{Owed}
use Rattle.storage_machine.specs.declared.state.Owed.TheVariants.{Card as CardOwed, Nothing, Closed, Bus as BusOwed, Flash as FlashOwed, Answers, Sectors, Recover as RecoverOwed, Dark, Left as LeftOwed, End as Ended}
use Rattle.storage_machine.specs.declared.state.State.{State}
use Rattle.storage_model.specs.declared.block.Block.{Block}
use Rattle.storage_model.specs.declared.plan.Job.{Job}
use Rattle.storage_model.specs.declared.plan.Job.TheVariants.{Read as ReadJob, Write as WriteJob, Flush as FlushJob, Barrier as BarrierJob, Status as StatusJob}
use Rattle.storage_model.specs.declared.trace.Item.{Item}
use Rattle.storage_model.specs.declared.trace.Item.TheVariants.{Card, Flash, Recover, Done, Read, Sector, Status, Cut}
use Rattle.trace_rules.specs.Lines.{card_holds, data_on, done_holds, holds, is_answers, is_answer_of, is_card_owed, is_for, is_free, is_number, read_holds, same_lines, sector_by_owed, sector_holds, status_holds}

-- the line, as a function of the state

abbrev card_line : State → Item
card_line s = Card (length s.base) s.plan.depth (cond s.plan.through None (Some s.plan.lines))

abbrev answer_line : State → Option ℕ → Item
answer_line s None = Recover
answer_line s (Some id) = cond (is_read (job_of s.plan.jobs id)) (Read id) (cond (is_status (job_of s.plan.jobs id)) (Status id 0x900) (Done id))

abbrev sector_line : Option Block → Item
sector_line None = Recover
sector_line (Some value) = Sector value

abbrev pub first_id : State → Option ℕ
first_id s = option_map (λ tag. id_on s tag) (tag_of Collected s.slots)

pub owed_line : State → Owed → Item
owed_line s CardOwed = card_line s
owed_line s Answers = answer_line s (first_id s)
owed_line s (Sectors tag k) = sector_line (slice_get (data_on s tag) k)
owed_line s owed = Recover

-- the first line

lines_is : (through : Bool) (lines : ℕ) (shown : Option ℕ) → same_lines through lines shown ≡ true → shown ≡ cond through None (Some lines)
lines_is true lines None h = refl
lines_is false lines None h = absurd (cc)
lines_is true lines (Some x) h = absurd (cc)
lines_is false lines (Some x) h = ap Some (eqb-true x lines h)

card_is : (s : State) (sectors depth : ℕ) (lines : Option ℕ) → holds s (Card sectors depth lines) ≡ true → Card sectors depth lines ≡ card_line s
unfolding holds card_holds
card_is s sectors depth lines h =
    let rest = (and_parts (is_card_owed s.owed) ((sectors == length s.base) && ((depth == s.plan.depth) && same_lines s.plan.through s.plan.lines lines)) h).1 in
    let size = and_parts (sectors == length s.base) ((depth == s.plan.depth) && same_lines s.plan.through s.plan.lines lines) rest in
    let deep = and_parts (depth == s.plan.depth) (same_lines s.plan.through s.plan.lines lines) size.1 in
    ap (λ n. Card n depth lines) (eqb-true sectors (length s.base) size.0)
    ∙ (ap (λ n. Card (length s.base) n lines) (eqb-true depth s.plan.depth deep.0) ∙ ap (Card (length s.base) s.plan.depth) (lines_is s.plan.through s.plan.lines lines deep.1))

card_only : (s : State) (item : Item) → is_for CardOwed item ≡ true → holds s item ≡ true → item ≡ card_line s
card_only s (Card sectors depth lines) for h = card_is s sectors depth lines h
card_only s item for h = absurd (cc)

-- answers

pub number_is : (id : ℕ) (first : Option ℕ) → is_number id first ≡ true → first ≡ Some id
number_is id None h = absurd (cc)
number_is id (Some other) h = ap Some (sym (eqb-true id other h))

pub answer_of : (s : State) (id : ℕ) → is_answer_of s id ≡ true → first_id s ≡ Some id
answer_of s id h = number_is id (first_id s) ((and_parts (is_answers s.owed) (is_number id (first_id s)) h).1)

status_off : (job : Job) → is_read job ≡ true → is_status job ≡ false
status_off (ReadJob sector blocks high) read = refl
status_off (WriteJob sector blocks fill forced reliable high) read = absurd (cc)
status_off FlushJob read = absurd (cc)
status_off BarrierJob read = absurd (cc)
status_off StatusJob read = absurd (cc)

read_unstatus : (job : Job) → is_status job ≡ true → is_read job ≡ false
read_unstatus job e = elim (cases_Bool (is_read job)) [
  | inl read ↦ absurd (false≢true (sym (status_off job read) ∙ e))
  | inr none ↦ none
]

done_is : (s : State) (id : ℕ) → holds s (Done id) ≡ true → Done id ≡ answer_line s (first_id s)
unfolding holds done_holds
done_is s id h =
    let job = job_of s.plan.jobs id in
    let parts = and_parts (is_answer_of s id) (not (is_read job) && not (is_status job)) h in
    let kinds = and_parts (not (is_read job)) (not (is_status job)) parts.1 in
    sym (ap (answer_line s) (answer_of s id parts.0)
    ∙ (cond-false (is_read job) (Read id) (cond (is_status job) (Status id 0x900) (Done id)) (not-true (is_read job) kinds.0)
    ∙ cond-false (is_status job) (Status id 0x900) (Done id) (not-true (is_status job) kinds.1)))

read_is : (s : State) (id : ℕ) → holds s (Read id) ≡ true → Read id ≡ answer_line s (first_id s)
unfolding holds read_holds
read_is s id h =
    let job = job_of s.plan.jobs id in
    let parts = and_parts (is_answer_of s id) (is_read job) h in
    sym (ap (answer_line s) (answer_of s id parts.0) ∙ cond-true (is_read job) (Read id) (cond (is_status job) (Status id 0x900) (Done id)) parts.1)

status_is : (s : State) (id word : ℕ) → holds s (Status id word) ≡ true → Status id word ≡ answer_line s (first_id s)
unfolding holds status_holds
status_is s id word h =
    let job = job_of s.plan.jobs id in
    let parts = and_parts (is_answer_of s id) (is_status job && (word == 0x900)) h in
    let kinds = and_parts (is_status job) (word == 0x900) parts.1 in
    ap (Status id) (eqb-true word 0x900 kinds.1)
    ∙ sym (ap (answer_line s) (answer_of s id parts.0)
    ∙ (cond-false (is_read job) (Read id) (cond (is_status job) (Status id 0x900) (Done id)) (read_unstatus job kinds.0)
    ∙ cond-true (is_status job) (Status id 0x900) (Done id) kinds.0))

answer_only : (s : State) (item : Item) → is_for Answers item ≡ true → holds s item ≡ true → item ≡ answer_line s (first_id s)
answer_only s (Done id) for h = done_is s id h
answer_only s (Read id) for h = read_is s id h
answer_only s (Status id word) for h = status_is s id word h
answer_only s item for h = absurd (cc)

-- sectors

block_is : (block value : Block) → same_block block value ≡ true → block ≡ value
block_is block value h = ap (λ bytes. record { 0 = bytes }) ((bytes_eq-Decides block.0 value.0).0 h)

shown_is : (value : Block) (shown : Option Block) → shows shown value ≡ true → Sector value ≡ sector_line shown
shown_is value None h = absurd (cc)
shown_is value (Some block) h = ap Sector (sym (block_is block value h))

sector_is : (s : State) (value : Block) (tag k : ℕ) → s.owed ≡ Sectors tag k → holds s (Sector value) ≡ true → Sector value ≡ sector_line (slice_get (data_on s tag) k)
unfolding holds sector_holds
sector_is s value tag k at h = shown_is value (slice_get (data_on s tag) k) (sym (ap (sector_by_owed s value) at) ∙ h)

sector_only : (s : State) (item : Item) (tag k : ℕ) → s.owed ≡ Sectors tag k → is_for (Sectors tag k) item ≡ true → holds s item ≡ true → item ≡ sector_line (slice_get (data_on s tag) k)
sector_only s (Sector value) tag k at for h = sector_is s value tag k at h
sector_only s item tag k at for h = absurd (cc)

recover_only : (item : Item) → is_for RecoverOwed item ≡ true → item ≡ Recover
recover_only Recover for = refl
recover_only item for = absurd (cc)

-- of these none is plain
pub flash_only : (id : ℕ) (item : Item) → is_for (FlashOwed id) item ≡ true → is_plain item ≡ true → false ≡ true
flash_only id (Flash other) for plain = plain
flash_only id Cut for plain = plain
flash_only id item for plain = absurd (cc)

none_only : (item : Item) → is_for Ended item ≡ true → false ≡ true
none_only item for = for

-- so the line is that one

owed_is : (s : State) (owed : Owed) (item : Item) → s.owed ≡ owed → is_free owed ≡ false → is_lit owed ≡ true → is_plain item ≡ true → is_for owed item ≡ true → holds s item ≡ true → item ≡ owed_line s owed
unfolding owed_line
owed_is s CardOwed item at owes lit plain for h = card_only s item for h
owed_is s Answers item at owes lit plain for h = answer_only s item for h
owed_is s (Sectors tag k) item at owes lit plain for h = sector_only s item tag k at for h
owed_is s RecoverOwed item at owes lit plain for h = recover_only item for
owed_is s Ended item at owes lit plain for h = absurd (false≢true (none_only item for))
owed_is s Nothing item at owes lit plain for h = absurd (cc)
owed_is s Closed item at owes lit plain for h = absurd (cc)
owed_is s (BusOwed n id kind) item at owes lit plain for h = absurd (cc)
owed_is s (FlashOwed id) item at owes lit plain for h = absurd (false≢true (flash_only id item for plain))
owed_is s (Dark cuts) item at owes lit plain for h = absurd (cc)
owed_is s (LeftOwed from) item at owes lit plain for h = absurd (cc)

pub owed_next : (s : State) (item : Item) → is_free s.owed ≡ false → is_lit s.owed ≡ true → is_plain item ≡ true → Serves s item → item ≡ owed_line s s.owed
owed_next s item owes lit plain serves = owed_is s s.owed item refl owes lit plain serves.for serves.held

-- behind the end nothing comes
pub none_behind : (s : State) (item : Item) → s.owed ≡ Ended → Serves s item → false ≡ true
none_behind s item at serves = none_only item (ap (λ owed. is_for owed item) (sym at) ∙ serves.for)
