-- What each call over the bus makes of card, array and script. A lost command never comes to the card; where there is no
-- response the card has acted; a bad block breaks off before it moves; a late end comes after the card closed the phase, and
-- hides what the card said of its flash. A loss of power is seen in place of every fault of the bus.
use Rattle.std.specs.Prelude.{◌≡◌, ℕ, ◌+◌, ◌==◌, Bool, true, false, if◌then◌else◌, Option, Some, None, Result, Ok, Err, IsSome, MatchOption}
use Rattle.std.specs.Bool.{MatchBool}
use Rattle.storage_model.specs.declared.block.Block.{Block}
use Rattle.storage_model.specs.declared.faults.BusKind.{BusKind}
use Rattle.storage_model.specs.declared.faults.BusKind.TheVariants.{Lost, NoResp, Bad, Late}
use Rattle.cmd_words.specs.declared.command.Command.{Command}
use Rattle.bus_link.specs.declared.link.LinkEnd.{LinkEnd}
use Rattle.bus_link.specs.declared.link.LinkEnd.TheVariants as link_end
use Rattle.bus_link.specs.Hits.{hit_of, raised}
use Rattle.bus_link.specs.Link.{Call, is_poll}
use Rattle.bus_link.specs.Link.Call.{Exchanged, Gave, Took, Closed}
use Rattle.bus_link.specs.Script.{Script, armed, next_word, struck, word_used}
use Rattle.card_core.specs.declared.ends.BlockEnd.{BlockEnd}
use Rattle.card_core.specs.declared.ends.BlockEnd.TheVariants as block_end
use Rattle.card_core.specs.declared.ends.Dark.{Dark}
use Rattle.card_core.specs.declared.phase.DataPhase.{DataPhase}
use Rattle.card_core.specs.Card.{blocks_of}
use Rattle.card_core.specs.Moving.{FindsRoom, Finishes, GivesOut, TakesIn, write_to_keep}
use Rattle.card_core.specs.Response.{Responds, response_to}
use Rattle.card_core.specs.Serving.{IsKeptBy}
use Rattle.card_link.specs.Behind.{Behind}

-- the fault that befalls a command that is sent now
abbrev pub hit_on : Behind → Command → Option BusKind
hit_on b command = hit_of b.script.hits (raised b.script.sent) command (blocks_of b.card command)

-- the script with the command sent
abbrev pub sent : Behind → Command → Script
sent b command = armed b.script command (blocks_of b.card command)

-- the tasks that a poll makes ready; no other command has a choice
abbrev pub choice_of : Script → Command → ℕ
choice_of script command = if is_poll command then next_word script else 0

-- a poll that came to the card uses its word
abbrev pub heard : Script → Command → Script
heard script command = if is_poll command then word_used script else script

-- the answer that the host sees, and the script after it
abbrev pub response_seen : Option BusKind → Result ℕ Dark → Result ℕ LinkEnd
response_seen hit (Err _) = Err link_end.Dark
response_seen (Some NoResp) (Ok word) = Err (link_end.Bus NoResp)
response_seen _ (Ok word) = Ok word

abbrev pub after_response : Option BusKind → Result ℕ Dark → Script → Script
after_response (Some NoResp) (Ok word) script = struck script
after_response _ _ script = script

-- the command never came to the card
pub record IsLost (kind : BusKind) (old new : Behind) (script : Script) {T : Type 0} (result : Result T LinkEnd) : Type 0 where
  pub answer : result ≡ Err (link_end.Bus kind)
  pub behind : new ≡ record old { script = struck script }

-- the card got the command, and answered
pub record IsHeard (command : Command) (old new : Behind) (result : Result ℕ LinkEnd) : Type 0 where
  pub answer : Result ℕ Dark
  pub responds : Responds (response_to old.card command (choice_of (sent old command) command)) old.card old.array new.card new.array answer
  pub script : new.script ≡ after_response (hit_on old command) answer (heard (sent old command) command)
  pub seen : result ≡ response_seen (hit_on old command) answer

abbrev pub is_lost : Option BusKind → Bool
is_lost (Some Lost) = true
is_lost _ = false

abbrev pub Exchanges : Command → Behind → Behind → Result ℕ LinkEnd → Type 0
Exchanges command old new result =
    MatchBool (is_lost (hit_on old command))
    (IsLost Lost old new (sent old command) result)
    (IsHeard command old new result)

-- whether the data fails at a block
abbrev pub is_bad_block : Option BusKind → ℕ → Bool
is_bad_block (Some (Bad block)) next = block == next
is_bad_block _ next = false

-- the fault of the data, if it comes with the next block of the open data phase
abbrev pub bad_block : Script → Option DataPhase → Option BusKind
bad_block script None = None
bad_block script (Some phase) = if is_bad_block script.hit (phase.moved + 1) then script.hit else None

-- the end of a block that the host sees, and the script after it
abbrev pub block_seen : Option BusKind → Result (Unit {0}) BlockEnd → Result (Unit {0}) LinkEnd
block_seen hit (Ok _) = Ok tt
block_seen hit (Err block_end.Dark) = Err link_end.Dark
block_seen (Some Late) (Err (block_end.Status word)) = Err (link_end.Bus Late)
block_seen _ (Err (block_end.Status word)) = Err (link_end.Status word)

abbrev pub after_block : Option BusKind → Result (Unit {0}) BlockEnd → Script → Script
after_block (Some Late) (Err (block_end.Status word)) script = struck script
after_block _ _ script = script

-- the card took the block, or broke the phase off; a block that finds room in the cache is taken without a call of the array
pub record IsGiven (block : Block) (old new : Behind) (result : Result (Unit {0}) LinkEnd) : Type 0 where
  pub answer : Result (Unit {0}) BlockEnd
  pub takes : TakesIn block old.card old.array new.card new.array answer
  pub deferred : FindsRoom block old.card → (answer ≡ Ok tt) × (new.array ≡ old.array)
  pub script : new.script ≡ after_block old.script.hit answer old.script
  pub seen : result ≡ block_seen old.script.hit answer

abbrev pub Gives : Block → Behind → Behind → Result (Unit {0}) LinkEnd → Type 0
Gives block old new result =
    MatchOption (bad_block old.script old.card.phase)
    (IsGiven block old new result)
    (λ kind. IsLost kind old new old.script result)

-- the card gave the block, or broke the phase off
pub record IsTaken (block : Block) (old new : Behind) (result : Result (Unit {0}) LinkEnd) : Type 0 where
  pub answer : Result (Unit {0}) BlockEnd
  pub gives : GivesOut block old.card old.array new.card new.array answer
  pub script : new.script ≡ after_block old.script.hit answer old.script
  pub seen : result ≡ block_seen old.script.hit answer

abbrev pub Takes : Block → Behind → Behind → Result (Unit {0}) LinkEnd → Type 0
Takes block old new result =
    MatchOption (bad_block old.script old.card.phase)
    (IsTaken block old new result)
    (λ kind. IsLost kind old new old.script result)

-- the end of a phase that the host sees, and the script after it
abbrev pub close_seen : Option BusKind → Result ℕ Dark → Result ℕ LinkEnd
close_seen hit (Err _) = Err link_end.Dark
close_seen (Some Late) (Ok word) = Err (link_end.Bus Late)
close_seen _ (Ok word) = Ok word

abbrev pub after_close : Option BusKind → Result ℕ Dark → Script → Script
after_close (Some Late) (Ok word) script = struck script
after_close _ _ script = script

-- the card closed the phase
pub record Closes (old new : Behind) (result : Result ℕ LinkEnd) : Type 0 where
  pub answer : Result ℕ Dark
  pub finishes : Finishes old.card old.array new.card new.array answer
  pub settled : IsSome (write_to_keep old.card) → IsKeptBy new.array answer
  pub script : new.script ≡ after_close old.script.hit answer old.script
  pub seen : result ≡ close_seen old.script.hit answer

-- what a call makes of what is behind the link
abbrev pub CardMade : Behind → Call → Behind → Type 0
CardMade old (Exchanged command result) new = Exchanges command old new result
CardMade old (Gave block result) new = Gives block old new result
CardMade old (Took block result) new = Takes block old new result
CardMade old (Closed result) new = Closes old new result
