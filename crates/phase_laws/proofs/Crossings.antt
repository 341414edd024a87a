-- What a block, the end of a data phase and a direct command leave behind the link.
use Rattle.std.proofs.Common.{◌≡◌, ◌<◌, ◌+◌, ◌==◌, ◌&&◌, ℕ, refl, ◌∙◌, ap, subst}
use Rattle.std.specs.Prelude.{Bool, true, false, nat_lt, Option, Some, None, cond, MatchOption, Result, Err, is_some, replicate}
use Rattle.std.specs.Bool.{beq}
use Rattle.std.specs.Option.{option_map_or}
use Rattle.std.proofs.lemmas.Bool.{eqb-true, lt-ltb}
use Rattle.bus_link.specs.Script.{Script, struck}
use Rattle.bus_link.specs.declared.link.LinkEnd.{LinkEnd}
use Rattle.bus_link.specs.declared.link.LinkEnd.TheVariants as link_end
use Rattle.card_core.specs.Card.{CardState}
use Rattle.card_core.specs.Moving.{HasRead, IsUntouched, closed, finished, moved_on, must_keep, next_put, phase_moving, write_to_keep}
use Rattle.card_core.specs.Serving.{IsKeptBy, Served, block_answer, by_end, without_error, word_answer}
use Rattle.card_core.specs.declared.ends.BlockEnd.{BlockEnd}
use Rattle.card_core.specs.declared.ends.Dark.{Dark}
use Rattle.card_core.specs.declared.phase.DataPhase.{DataPhase}
use Rattle.card_link.specs.Behind.{Behind}
use Rattle.card_link.specs.Made.{Closes, Gives, IsGiven, IsLost, IsTaken, Takes, after_block, after_close, bad_block, block_seen, close_seen, is_bad_block}
use Rattle.card_store.specs.Store.{Contents, kept, same, with_put}
use Rattle.cmd_words.specs.declared.status.Status.{Status as ErrorSet}
use Rattle.cmd_words.specs.declared.status.TheConstants.Status.{DEVICE_ECC_FAILED, ERROR}
use Rattle.storage_model.specs.Keep.{is_named}
use Rattle.storage_model.specs.declared.block.Block.{Block}
use Rattle.storage_model.specs.declared.faults.BusKind.{BusKind}
use Rattle.storage_model.specs.declared.faults.BusKind.TheVariants.{Lost, NoResp, Bad, Late}

-- ---- a block

-- The data failed at this block, which never came to the card; or the card served it.
pub data BlockMade (error : ErrorSet) (phase : DataPhase) (f : Contents → Contents) (old new : Behind) (answer : Result (Unit {0}) LinkEnd) : Type 0 where
  bad : (block : ℕ) → old.script.hit ≡ Some (Bad block) → block ≡ phase.moved + 1 → answer ≡ Err (link_end.Bus (Bad block))
      → new ≡ record old { script = struck old.script } → BlockMade error phase f old new answer
  served : (got : Result (Unit {0}) BlockEnd) → is_bad_block old.script.hit (phase.moved + 1) ≡ false
      → Served (block_answer error) (by_end (moved_on old.card phase) old.card) f old.card old.array new.card new.array got
      → new.script ≡ after_block old.script.hit got old.script → answer ≡ block_seen old.script.hit got → BlockMade error phase f old new answer

-- the fault of the data is that of the next block, or there is none here
bad_at : (n next : ℕ) (b : Bool) → (n == next) ≡ b → {P R : Type 0} → (Q : BusKind → Type 0)
    → MatchOption (cond b (Some (Bad n)) None) P Q → (n ≡ next → Q (Bad n) → R) → (b ≡ false → P → R) → R
bad_at n next true e Q h f g = f (eqb-true n next e) h
bad_at n next false e Q h f g = g refl h

bad_by : (hit : Option BusKind) (next : ℕ) {P R : Type 0} (Q : BusKind → Type 0) → MatchOption (cond (is_bad_block hit next) hit None) P Q
    → ((n : ℕ) → hit ≡ Some (Bad n) → n ≡ next → Q (Bad n) → R) → (is_bad_block hit next ≡ false → P → R) → R
bad_by None next Q h f g = g refl h
bad_by (Some Lost) next Q h f g = g refl h
bad_by (Some NoResp) next Q h f g = g refl h
bad_by (Some Late) next Q h f g = g refl h
bad_by (Some (Bad n)) next Q h f g = bad_at n next (n == next) refl Q h (λ e q. f n refl e q) (λ e p. g e p)

pub bad_block_at : (script : Script) (card : CardState) (phase : DataPhase) → card.phase ≡ Some phase
    → bad_block script card.phase ≡ cond (is_bad_block script.hit (phase.moved + 1)) script.hit None
bad_block_at script card phase e = ap (bad_block script) e

same_way : (read : Bool) → beq read read ≡ true
same_way true = refl
same_way false = refl

-- the phase that moves is the open one
pub moving_is : (card : CardState) (phase : DataPhase) (read : Bool) → card.phase ≡ Some phase → phase.task.read ≡ read → phase.moved < phase.task.blocks
    → phase_moving card read ≡ Some phase
moving_is card phase read is way left =
    ap (λ p. option_map_or (λ q. cond (beq q.task.read read && nat_lt q.moved q.task.blocks) (Some q) None) p None) is
    ∙ ap (λ b. cond (b && nat_lt phase.moved phase.task.blocks) (Some phase) None) (ap (λ b. beq b read) way ∙ same_way read)
    ∙ ap (λ b. cond b (Some phase) None) (lt-ltb phase.moved phase.task.blocks left)

pub given : (block : Block) (phase : DataPhase) (old new : Behind) (answer : Result (Unit {0}) LinkEnd) → old.card.phase ≡ Some phase
    → phase.task.read ≡ false → phase.moved < phase.task.blocks → Gives block old new answer
    → BlockMade ERROR phase (with_put (next_put phase block)) old new answer
given block phase old new answer open_phase way left g =
    let Q : BusKind → Type 0 = λ kind. IsLost kind old new old.script answer in
    let P : Option BusKind → Type 0 = λ o. MatchOption o (IsGiven block old new answer) Q in
    bad_by old.script.hit (phase.moved + 1) Q (subst P (bad_block_at old.script old.card phase open_phase) g)
    (λ n hit next lost. bad n hit next lost.answer lost.behind)
    (λ none is.
    let T : Option DataPhase → Type 0 = λ o. MatchOption o (IsUntouched tt old.card old.array new.card new.array is.answer)
    (λ p. Served (block_answer ERROR) (by_end (moved_on old.card p) old.card) (with_put (next_put p block)) old.card old.array new.card new.array is.answer) in
    served is.answer none (subst T (moving_is old.card phase false open_phase way left) is.takes) is.script is.seen)

-- a block was read, which is the sector's value
pub record BlockTaken (block : Block) (phase : DataPhase) (old new : Behind) (answer : Result (Unit {0}) LinkEnd) : Type 0 where
  pub made : BlockMade DEVICE_ECC_FAILED phase same old new answer

pub taken : (block : Block) (phase : DataPhase) (old new : Behind) (answer : Result (Unit {0}) LinkEnd) → old.card.phase ≡ Some phase
    → phase.task.read ≡ true → phase.moved < phase.task.blocks → Takes block old new answer → BlockMade DEVICE_ECC_FAILED phase same old new answer
taken block phase old new answer open_phase way left g =
    let Q : BusKind → Type 0 = λ kind. IsLost kind old new old.script answer in
    let P : Option BusKind → Type 0 = λ o. MatchOption o (IsTaken block old new answer) Q in
    bad_by old.script.hit (phase.moved + 1) Q (subst P (bad_block_at old.script old.card phase open_phase) g)
    (λ n hit next lost. bad n hit next lost.answer lost.behind)
    (λ none is.
    let T : Option DataPhase → Type 0 = λ o. MatchOption o (IsUntouched tt old.card old.array new.card new.array is.answer × (block ≡ record { 0 = replicate 512 0 }))
    (λ p. Served (block_answer DEVICE_ECC_FAILED) (by_end (moved_on old.card p) old.card) same old.card old.array new.card new.array is.answer
    × HasRead (p.start + p.moved) block old.card old.array new.card new.array is.answer) in
    served is.answer none (subst T (moving_is old.card phase true open_phase way left) is.gives).0 is.script is.seen)

-- ---- the end of a phase

-- whether the end of the open data phase keeps its write: it must, and all its blocks moved
abbrev pub keeps_write : CardState → DataPhase → Bool
keeps_write card phase = must_keep card phase && (phase.moved == phase.task.blocks)

-- Where no write is kept, only the phase is closed; else the store was called.
pub data PhaseEnded (phase : DataPhase) (old new : Behind) (got : Result ℕ Dark) : Type 0 where
  only : keeps_write old.card phase ≡ false → IsUntouched without_error (closed old.card) old.array new.card new.array got → PhaseEnded phase old new got
  stored : keeps_write old.card phase ≡ true
      → Served word_answer (finished old.card phase) (kept (is_named phase.start phase.task.blocks)) old.card old.array new.card new.array got
      → IsKeptBy new.array got → PhaseEnded phase old new got

pub record PhaseClosed (phase : DataPhase) (old new : Behind) (answer : Result ℕ LinkEnd) : Type 0 where
  pub got : Result ℕ Dark
  pub ended : PhaseEnded phase old new got
  pub script : new.script ≡ after_close old.script.hit got old.script
  pub seen : answer ≡ close_seen old.script.hit got

ended_if : (phase : DataPhase) (old new : Behind) (got : Result ℕ Dark) (must : Bool) → keeps_write old.card phase ≡ must
    → (is_some (cond must (Some phase) None) ≡ true → IsKeptBy new.array got)
    → MatchOption (cond must (Some phase) None) (IsUntouched without_error (closed old.card) old.array new.card new.array got)
    (λ p. Served word_answer (finished old.card p) (kept (is_named p.start p.task.blocks)) old.card old.array new.card new.array got)
    → PhaseEnded phase old new got
ended_if phase old new got true must settled h = stored must h (settled refl)
ended_if phase old new got false must settled h = only must h

pub closes : (phase : DataPhase) (old new : Behind) (answer : Result ℕ LinkEnd) → old.card.phase ≡ Some phase → Closes old new answer
    → PhaseClosed phase old new answer
closes phase old new answer open_phase is =
    let at : write_to_keep old.card ≡ cond (keeps_write old.card phase) (Some phase) None =
    ap (λ p. option_map_or (λ q. cond (keeps_write old.card q) (Some q) None) p None) open_phase in
    let P : Option DataPhase → Type 0 = λ p. MatchOption p (IsUntouched without_error (closed old.card) old.array new.card new.array is.answer)
    (λ p. Served word_answer (finished old.card p) (kept (is_named p.start p.task.blocks)) old.card old.array new.card new.array is.answer) in
    record {
      got = is.answer;
      ended = ended_if phase old new is.answer (keeps_write old.card phase) refl (λ e. is.settled (ap is_some at ∙ e)) (subst P at is.finishes);
      script = is.script;
      seen = is.seen;
    }
