-- What a block of a data phase, and the end of a data phase, leave in contents, over a bus without faults.
use Rattle.std.proofs.Common.{◌≡◌, ◌<◌, ◌≤◌, ◌+◌, ◌==◌, ◌&&◌, ℕ, refl, sym, ◌∙◌, ap, subst}
use Rattle.std.specs.Prelude.{Bool, true, false, nat_lt, Option, Some, None, is_some, IfSome, MatchOption, cond, Result, Ok, Err, OnOk, List, replicate}
use Rattle.std.specs.Bool.{beq}
use Rattle.std.specs.Option.{option_map, option_map_or}
use Rattle.std.proofs.lemmas.Bool.{false≢true, ltb-false, ltb-true}
use Rattle.array_edge.specs.Array.{ArrayState}
use Rattle.bus_link.specs.Script.{Script}
use Rattle.bus_link.specs.declared.link.LinkEnd.{LinkEnd}
use Rattle.bus_link.specs.declared.link.LinkEnd.TheVariants as link_end
use Rattle.card_core.specs.Card.{CardState}
use Rattle.card_core.specs.Moving.{HasRead, IsUntouched, closed, closed_kept, finished, moved_on, must_keep, next_put, phase_moving, write_to_keep}
use Rattle.card_core.specs.Serving.{End, Served, block_answer, by_end, without_error, word_answer, word_of}
use Rattle.card_core.specs.declared.ends.BlockEnd.{BlockEnd}
use Rattle.card_core.specs.declared.ends.BlockEnd.TheVariants as block_end
use Rattle.card_core.specs.declared.ends.Dark.{Dark}
use Rattle.card_core.specs.declared.phase.DataPhase.{DataPhase}
use Rattle.card_link.specs.Behind.{Behind}
use Rattle.card_link.specs.Made.{Closes, Gives, IsGiven, IsLost, IsTaken, Takes, after_block, after_close, bad_block, block_seen, close_seen, is_bad_block}
use Rattle.card_store.specs.Store.{Contents, Stands as StoreStands, kept, same, with_put}
use Rattle.cmd_words.specs.declared.status.Status.{Status as ErrorSet}
use Rattle.cmd_words.specs.declared.status.TheConstants.Status.{DEVICE_ECC_FAILED, ERROR}
use Rattle.intent_store.specs.declared.ends.StoreEnd.TheVariants.{Flash, PowerLost}
use Rattle.image_form.specs.Image.{shown}
use Rattle.storage_model.specs.Contents.{contents_now, sector_at}
use Rattle.storage_model.specs.Keep.{is_named}
use Rattle.storage_model.specs.declared.block.Block.{Block}
use Rattle.storage_model.specs.declared.faults.BusKind.{BusKind}
use Rattle.raw_machine.specs.Moving.{block_read}
use Rattle.raw_machine.specs.Telling.{IsQuietScript, plain}
use Rattle.raw_machine.proofs.Answered.{plain_is}

-- What a block that crossed the bus left: where the card's task has no such block nothing moved; else it moved, or the array failed or was cut.
pub data BlockMoved (error : ErrorSet) (phase : DataPhase) (old new : Behind) (c : Contents) (f : Contents → Contents) : Result (Unit {0}) LinkEnd → Contents → Type 0 where
  past : phase.task.blocks ≤ phase.moved → new.card ≡ old.card → new.array ≡ old.array → BlockMoved error phase old new c f (Ok tt) c
  moved : phase.moved < phase.task.blocks → new.card ≡ record (moved_on old.card phase) { store = new.card.store }
      → BlockMoved error phase old new c f (Ok tt) (f c)
  failed : phase.moved < phase.task.blocks → new.card ≡ record old.card { store = new.card.store }
      → BlockMoved error phase old new c f (Err (link_end.Status (word_of error))) c
  dark : phase.moved < phase.task.blocks → new.card ≡ record old.card { store = new.card.store } → BlockMoved error phase old new c f (Err link_end.Dark) c

-- A block moved so, to contents that the store stands for.
pub record MovesOne (error : ErrorSet) (phase : DataPhase) (old new : Behind) (c : Contents) (f : Contents → Contents) (result : Result (Unit {0}) LinkEnd) : Type 0 where
  pub after : Contents
  pub block_moved : BlockMoved error phase old new c f result after
  pub stands : StoreStands after new.card.store new.array
  pub script : IsQuietScript new.script
  pub told : is_some new.array.told ≡ is_some old.array.told
  pub epoch : new.card.store.cache.last ≡ old.card.store.cache.last
  pub others : plain new.card after ≡ record (plain old.card c) { contents = after }

-- no block is bad
unhit_block : (script : Script) (phase : Option DataPhase) → IsQuietScript script → bad_block script phase ≡ None
unhit_block script None q = refl
unhit_block script (Some phase) q = ap (λ hit. cond (is_bad_block hit (phase.moved + 1)) hit None) q.hit

same_way : (read : Bool) → beq read read ≡ true
same_way true = refl
same_way false = refl

-- the phase that moves is the open one, while it has blocks to come
moving_is : (card : CardState) (phase : DataPhase) (read : Bool) → card.phase ≡ Some phase → phase.task.read ≡ read
    → phase_moving card read ≡ cond (nat_lt phase.moved phase.task.blocks) (Some phase) None
moving_is card phase read is way =
    let more = nat_lt phase.moved phase.task.blocks in
    ap (λ p. option_map_or (λ q. cond (beq q.task.read read && nat_lt q.moved q.task.blocks) (Some q) None) p None) is
    ∙ ap (λ b. cond (b && more) (Some phase) None) (ap (λ b. beq b read) way ∙ same_way read)

-- the data phase had no block to come, and nothing was done
stayed : (error : ErrorSet) (phase : DataPhase) (old new : Behind) (c : Contents) (f : Contents → Contents) (result : Result (Unit {0}) LinkEnd)
    (answer : Result (Unit {0}) BlockEnd) → phase.task.blocks ≤ phase.moved → IsQuietScript new.script → StoreStands c old.card.store old.array
    → result ≡ block_seen None answer → IsUntouched tt old.card old.array new.card new.array answer
    → MovesOne error phase old new c f result
stayed error phase old new c f result answer over quiet stands seen u =
    let P : CardState → Type 0 = λ card. StoreStands c card.store old.array in
    let Q : ArrayState → Type 0 = λ array. StoreStands c new.card.store array in
    let R : Result (Unit {0}) LinkEnd → Type 0 = λ r. BlockMoved error phase old new c f r c in
    let well : Ok tt ≡ result = sym (seen ∙ ap (λ a. block_seen None a) u.answer) in
    record {
      after = c;
      block_moved = subst R well (past over u.card u.array);
      stands = subst Q (sym u.array) (subst P (sym u.card) stands);
      script = quiet;
      told = ap (λ array. is_some array.told) u.array;
      epoch = ap (λ card. card.store.cache.last) u.card;
      others =
          plain_is new.card c old.card.queue old.card.csd old.card.store.cache.last (ap (λ card. card.queue) u.card) (ap (λ card. card.csd) u.card)
          (ap (λ card. card.store.cache.last) u.card);
    }

-- the store was called for the block, and this is how that call ended
served_end : (error : ErrorSet) (phase : DataPhase) (old new : Behind) (c : Contents) (f : Contents → Contents) (end : End)
    → phase.moved < phase.task.blocks → new.card ≡ record (by_end (moved_on old.card phase) old.card end) { store = new.card.store }
    → BlockMoved error phase old new c f (block_seen None (block_answer error end)) (by_end f same end c)
served_end error phase old new c f (Ok _) more is = moved more is
served_end error phase old new c f (Err Flash) more is = failed more is
served_end error phase old new c f (Err PowerLost) more is = dark more is

-- queue and extended CSD stay
moved_others : (card : CardState) (phase : DataPhase) (end : End)
    → ((by_end (moved_on card phase) card end).queue ≡ card.queue) × ((by_end (moved_on card phase) card end).csd ≡ card.csd)
moved_others card phase (Ok _) = (refl, refl)
moved_others card phase (Err end) = (refl, refl)

served_one : (error : ErrorSet) (phase : DataPhase) (old new : Behind) (c : Contents) (f : Contents → Contents) (result : Result (Unit {0}) LinkEnd)
    (answer : Result (Unit {0}) BlockEnd) → phase.moved < phase.task.blocks → IsQuietScript new.script → StoreStands c old.card.store old.array
    → result ≡ block_seen None answer
    → Served (block_answer error) (by_end (moved_on old.card phase) old.card) f old.card old.array new.card new.array answer
    → MovesOne error phase old new c f result
served_one error phase old new c f result answer more quiet stands seen s =
    let R : Result (Unit {0}) LinkEnd → Type 0 = λ r. BlockMoved error phase old new c f r (by_end f same s.end c) in
    let so : block_seen None (block_answer error s.end) ≡ result = sym (seen ∙ ap (λ a. block_seen None a) s.answers) in
    record {
      after = by_end f same s.end c;
      block_moved = subst R so (served_end error phase old new c f s.end more s.card);
      stands = s.turns c stands;
      script = quiet;
      told = s.ends.tells;
      epoch = s.store.last;
      others =
          plain_is new.card (by_end f same s.end c) old.card.queue old.card.csd old.card.store.cache.last
          (ap (λ card. card.queue) s.card ∙ (moved_others old.card phase s.end).0) (ap (λ card. card.csd) s.card ∙ (moved_others old.card phase s.end).1)
          s.store.last;
    }

-- the script after a block is the one before it
block_script : (old : Script) (new : Script) (answer : Result (Unit {0}) BlockEnd) → IsQuietScript old → new ≡ after_block old.hit answer old
    → IsQuietScript new
block_script old new answer q e =
    let P : Script → Type 0 = λ s. IsQuietScript s in
    subst P (sym (e ∙ ap (λ hit. after_block hit answer old) q.hit)) q

given_if : (phase : DataPhase) (block : Block) (old new : Behind) (c : Contents) (result : Result (Unit {0}) LinkEnd)
    (answer : Result (Unit {0}) BlockEnd) (more : Bool) → nat_lt phase.moved phase.task.blocks ≡ more → IsQuietScript new.script
    → StoreStands c old.card.store old.array → result ≡ block_seen None answer
    → MatchOption (cond more (Some phase) None) (IsUntouched tt old.card old.array new.card new.array answer)
    (λ p. Served (block_answer ERROR) (by_end (moved_on old.card p) old.card) (with_put (next_put p block)) old.card old.array new.card new.array answer)
    → MovesOne ERROR phase old new c (with_put (next_put phase block)) result
given_if phase block old new c result answer true more quiet stands seen s =
    served_one ERROR phase old new c (with_put (next_put phase block)) result answer (ltb-true phase.moved phase.task.blocks more) quiet stands seen s
given_if phase block old new c result answer false more quiet stands seen s =
    stayed ERROR phase old new c (with_put (next_put phase block)) result answer (ltb-false phase.moved phase.task.blocks more) quiet stands seen s

-- A block was given for a write.
pub given : (block : Block) (phase : DataPhase) (old new : Behind) (c : Contents) (result : Result (Unit {0}) LinkEnd) → IsQuietScript old.script
    → StoreStands c old.card.store old.array → old.card.phase ≡ Some phase → phase.task.read ≡ false → Gives block old new result
    → MovesOne ERROR phase old new c (with_put (next_put phase block)) result
given block phase old new c result q stands open_phase way g =
    let P : Option BusKind → Type 0 = λ bad. MatchOption bad (IsGiven block old new result) (λ kind. IsLost kind old new old.script result) in
    let is : IsGiven block old new result = subst P (unhit_block old.script old.card.phase q) g in
    let Q : Option DataPhase → Type 0 = λ p. MatchOption p (IsUntouched tt old.card old.array new.card new.array is.answer)
    (λ p. Served (block_answer ERROR) (by_end (moved_on old.card p) old.card) (with_put (next_put p block)) old.card old.array new.card new.array is.answer) in
    given_if phase block old new c result is.answer (nat_lt phase.moved phase.task.blocks) refl
    (block_script old.script new.script is.answer q is.script) stands (is.seen ∙ ap (λ hit. block_seen hit is.answer) q.hit)
    (subst Q (moving_is old.card phase false open_phase way) is.takes)

-- the block of a read that comes next
abbrev pub next_read : DataPhase → Contents → Block
next_read phase c = block_read c (record { task = phase.task; start = phase.start }) phase.moved

-- A block of a read moved, and is what comes next.
pub record TakesOne (block : Block) (phase : DataPhase) (old new : Behind) (c : Contents) (result : Result (Unit {0}) LinkEnd) : Type 0 where
  pub moves : MovesOne DEVICE_ECC_FAILED phase old new c same result
  pub is_next : OnOk result (block ≡ next_read phase c)

-- what was read of an array that tells its pages
read_told : (told : Option (List Block)) (value sector : Block) → is_some told ≡ true → IfSome (option_map shown told) (λ _. value ≡ sector)
    → value ≡ sector
read_told None value sector is r = absurd (false≢true is)
read_told (Some pages) value sector is r = r

bad_end : (end : BlockEnd) (P : Type 0) → OnOk (block_seen None (Err end)) P
bad_end (block_end.Status word) P = tt
bad_end block_end.Dark P = tt

on_ok : (result : Result (Unit {0}) LinkEnd) {P : Type 0} → P → OnOk result P
on_ok (Ok _) p = p
on_ok (Err end) p = tt

-- a block that is seen to have moved did
read_seen : (answer : Result (Unit {0}) BlockEnd) (result : Result (Unit {0}) LinkEnd) → result ≡ block_seen None answer → (block sector : Block)
    {P : Type 0} → (P → block ≡ sector) → OnOk answer P → OnOk result (block ≡ sector)
read_seen (Ok _) result seen block sector f r = on_ok result (f r)
read_seen (Err end) result seen block sector f r =
    let Q : Result (Unit {0}) LinkEnd → Type 0 = λ r. OnOk r (block ≡ sector) in subst Q (sym seen) (bad_end end (block ≡ sector))

taken_if : (phase : DataPhase) (block : Block) (old new : Behind) (c : Contents) (result : Result (Unit {0}) LinkEnd)
    (answer : Result (Unit {0}) BlockEnd) (more : Bool) → nat_lt phase.moved phase.task.blocks ≡ more → IsQuietScript new.script
    → StoreStands c old.card.store old.array → is_some old.array.told ≡ true → result ≡ block_seen None answer
    → MatchOption (cond more (Some phase) None)
    (IsUntouched tt old.card old.array new.card new.array answer × (block ≡ record { 0 = replicate 512 0 }))
    (λ p. Served (block_answer DEVICE_ECC_FAILED) (by_end (moved_on old.card p) old.card) same old.card old.array new.card new.array answer
    × HasRead (p.start + p.moved) block old.card old.array new.card new.array answer)
    → TakesOne block phase old new c result
taken_if phase block old new c result answer true more quiet stands pages seen s =
    let sector = sector_at (contents_now c.base c.pend) (phase.start + phase.moved) in
    let next : next_read phase c ≡ sector = ap (λ b. cond b sector (record { 0 = replicate 512 0 })) more in
    record {
      moves = served_one DEVICE_ECC_FAILED phase old new c same result answer (ltb-true phase.moved phase.task.blocks more) quiet stands seen s.0;
      is_next = read_seen answer result seen block (next_read phase c) (λ r. read_told old.array.told block sector pages (r c stands) ∙ sym next) s.1.block;
    }
taken_if phase block old new c result answer false more quiet stands pages seen s =
    let zeros : Block = record { 0 = replicate 512 0 } in
    let next : next_read phase c ≡ zeros = ap (λ b. cond b (sector_at (contents_now c.base c.pend) (phase.start + phase.moved)) zeros) more in
    record {
      moves = stayed DEVICE_ECC_FAILED phase old new c same result answer (ltb-false phase.moved phase.task.blocks more) quiet stands seen s.0;
      is_next = on_ok result (s.1 ∙ sym next);
    }

-- A block was taken of a read, over an array that tells its pages.
pub taken : (block : Block) (phase : DataPhase) (old new : Behind) (c : Contents) (result : Result (Unit {0}) LinkEnd) → IsQuietScript old.script
    → StoreStands c old.card.store old.array → is_some old.array.told ≡ true → old.card.phase ≡ Some phase → phase.task.read ≡ true
    → Takes block old new result → TakesOne block phase old new c result
taken block phase old new c result q stands pages open_phase way t =
    let P : Option BusKind → Type 0 = λ bad. MatchOption bad (IsTaken block old new result) (λ kind. IsLost kind old new old.script result) in
    let is : IsTaken block old new result = subst P (unhit_block old.script old.card.phase q) t in
    let Q : Option DataPhase → Type 0 = λ p. MatchOption p
    (IsUntouched tt old.card old.array new.card new.array is.answer × (block ≡ record { 0 = replicate 512 0 }))
    (λ p. Served (block_answer DEVICE_ECC_FAILED) (by_end (moved_on old.card p) old.card) same old.card old.array new.card new.array is.answer
    × HasRead (p.start + p.moved) block old.card old.array new.card new.array is.answer) in
    taken_if phase block old new c result is.answer (nat_lt phase.moved phase.task.blocks) refl
    (block_script old.script new.script is.answer q is.script) stands pages (is.seen ∙ ap (λ hit. block_seen hit is.answer) q.hit)
    (subst Q (moving_is old.card phase true open_phase way) is.gives)

-- whether the end of the open data phase keeps its write: it must, and all its blocks moved
abbrev pub keeps_write : CardState → DataPhase → Bool
keeps_write card phase = must_keep card phase && (phase.moved == phase.task.blocks)

-- What the end of a data phase left: where no write is kept, only the phase is closed; else the write is kept, or the array failed or was cut.
pub data PhaseClosed (phase : DataPhase) (old new : Behind) (c : Contents) : Result ℕ LinkEnd → Contents → Type 0 where
  closed_only : keeps_write old.card phase ≡ false → new.card ≡ closed old.card → new.array ≡ old.array → PhaseClosed phase old new c (Ok without_error) c
  write_kept : keeps_write old.card phase ≡ true → new.card ≡ record (closed_kept old.card phase) { store = new.card.store }
      → PhaseClosed phase old new c (Ok without_error) (kept (is_named phase.start phase.task.blocks) c)
  write_failed : keeps_write old.card phase ≡ true → new.card ≡ record (closed old.card) { store = new.card.store }
      → PhaseClosed phase old new c (Ok (word_of ERROR)) c
  write_dark : keeps_write old.card phase ≡ true → new.card ≡ record old.card { store = new.card.store } → PhaseClosed phase old new c (Err link_end.Dark) c

-- A data phase ended so, with contents that the store stands for.
pub record ClosesPhase (phase : DataPhase) (old new : Behind) (c : Contents) (result : Result ℕ LinkEnd) : Type 0 where
  pub after : Contents
  pub phase_closed : PhaseClosed phase old new c result after
  pub stands : StoreStands after new.card.store new.array
  pub script : IsQuietScript new.script
  pub told : is_some new.array.told ≡ is_some old.array.told
  pub epoch : new.card.store.cache.last ≡ old.card.store.cache.last
  pub others : plain new.card after ≡ record (plain old.card c) { contents = after }

kept_end : (phase : DataPhase) (old new : Behind) (c : Contents) (end : End) → keeps_write old.card phase ≡ true
    → new.card ≡ record (finished old.card phase end) { store = new.card.store }
    → PhaseClosed phase old new c (close_seen None (word_answer end)) (by_end (kept (is_named phase.start phase.task.blocks)) same end c)
kept_end phase old new c (Ok _) must is = write_kept must is
kept_end phase old new c (Err Flash) must is = write_failed must is
kept_end phase old new c (Err PowerLost) must is = write_dark must is

finished_others : (card : CardState) (phase : DataPhase) (end : End)
    → ((finished card phase end).queue ≡ card.queue) × ((finished card phase end).csd ≡ card.csd)
finished_others card phase (Ok _) = (refl, refl)
finished_others card phase (Err Flash) = (refl, refl)
finished_others card phase (Err PowerLost) = (refl, refl)

closed_if : (phase : DataPhase) (old new : Behind) (c : Contents) (result : Result ℕ LinkEnd) (answer : Result ℕ Dark) (must : Bool)
    → keeps_write old.card phase ≡ must → IsQuietScript new.script → StoreStands c old.card.store old.array → result ≡ close_seen None answer
    → MatchOption (cond must (Some phase) None) (IsUntouched without_error (closed old.card) old.array new.card new.array answer)
    (λ p. Served word_answer (finished old.card p) (kept (is_named p.start p.task.blocks)) old.card old.array new.card new.array answer)
    → ClosesPhase phase old new c result
closed_if phase old new c result answer true must quiet stands seen s =
    let after = by_end (kept (is_named phase.start phase.task.blocks)) same s.end c in
    let R : Result ℕ LinkEnd → Type 0 = λ r. PhaseClosed phase old new c r after in
    let so : close_seen None (word_answer s.end) ≡ result = sym (seen ∙ ap (λ a. close_seen None a) s.answers) in
    record {
      after = after;
      phase_closed = subst R so (kept_end phase old new c s.end must s.card);
      stands = s.turns c stands;
      script = quiet;
      told = s.ends.tells;
      epoch = s.store.last;
      others =
          plain_is new.card after old.card.queue old.card.csd old.card.store.cache.last
          (ap (λ card. card.queue) s.card ∙ (finished_others old.card phase s.end).0)
          (ap (λ card. card.csd) s.card ∙ (finished_others old.card phase s.end).1) s.store.last;
    }
closed_if phase old new c result answer false must quiet stands seen u =
    let P : CardState → Type 0 = λ card. StoreStands c card.store old.array in
    let Q : ArrayState → Type 0 = λ array. StoreStands c new.card.store array in
    let R : Result ℕ LinkEnd → Type 0 = λ r. PhaseClosed phase old new c r c in
    let so : Ok without_error ≡ result = sym (seen ∙ ap (λ a. close_seen None a) u.answer) in
    record {
      after = c;
      phase_closed = subst R so (closed_only must u.card u.array);
      stands = subst Q (sym u.array) (subst P (sym u.card) stands);
      script = quiet;
      told = ap (λ array. is_some array.told) u.array;
      epoch = ap (λ card. card.store.cache.last) u.card;
      others =
          plain_is new.card c old.card.queue old.card.csd old.card.store.cache.last (ap (λ card. card.queue) u.card) (ap (λ card. card.csd) u.card)
          (ap (λ card. card.store.cache.last) u.card);
    }

-- The end of a data phase.
pub phase_closes : (phase : DataPhase) (old new : Behind) (c : Contents) (result : Result ℕ LinkEnd) → IsQuietScript old.script
    → StoreStands c old.card.store old.array → old.card.phase ≡ Some phase → Closes old new result → ClosesPhase phase old new c result
phase_closes phase old new c result q stands open_phase is =
    let P : Option DataPhase → Type 0 = λ p. MatchOption p (IsUntouched without_error (closed old.card) old.array new.card new.array is.answer)
    (λ p. Served word_answer (finished old.card p) (kept (is_named p.start p.task.blocks)) old.card old.array new.card new.array is.answer) in
    let at : write_to_keep old.card ≡ cond (keeps_write old.card phase) (Some phase) None =
    ap (λ p. option_map_or (λ q. cond (keeps_write old.card q) (Some q) None) p None) open_phase in
    let S : Script → Type 0 = λ s. IsQuietScript s in
    closed_if phase old new c result is.answer (keeps_write old.card phase) refl
    (subst S (sym (is.script ∙ ap (λ hit. after_close hit is.answer old.script) q.hit)) q) stands
    (is.seen ∙ ap (λ hit. close_seen hit is.answer) q.hit) (subst P at is.finishes)
