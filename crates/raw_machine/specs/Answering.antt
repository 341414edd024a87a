-- What the card answers to a command, and what becomes of it: by its table of responses, with contents in the place of its store
-- (JESD84-B51, sections 6.6.39 and 6.10.4).
use Rattle.std.specs.Prelude.{◌≡◌, ℕ, ◌-◌, ◌^◌, false, length, [], Some, Result, Ok, Err}
use Rattle.bus_link.specs.declared.link.LinkEnd.{LinkEnd}
use Rattle.bus_link.specs.declared.link.LinkEnd.TheVariants.{Dark as NoPower}
use Rattle.card_core.specs.Card.{CardState, idle_card}
use Rattle.card_core.specs.Response.{Response, response_to}
use Rattle.card_core.specs.Response.Response.{FlushCache, SetBarrier, Tell}
use Rattle.card_core.specs.Serving.{End, by_end, without_error, word_answer}
use Rattle.card_core.specs.declared.ends.Dark.{Dark}
use Rattle.card_store.specs.Store.{Store, kept, same}
use Rattle.cmd_words.specs.declared.command.Command.{Command}
use Rattle.image_form.specs.declared.gate.Gate.TheVariants.{Shut}
use Rattle.storage_model.specs.Keep.{every_sector}
use Rattle.raw_machine.specs.State.{PlainCard, barred, turned}

-- a store of so many sectors that holds nothing, in an epoch
abbrev pub empty_store : (sectors epoch : ℕ) → Store
empty_store sectors epoch = record {
  cache = record { lines = []; last = epoch; room = 64 };
  known = Some (record { sectors = sectors; gate = Some Shut });
  pending = [];
  latest = [];
}

-- A card of this queue and extended CSD, on an image of as many sectors: what else a card holds, its table of responses doesn't ask.
abbrev pub card_of : PlainCard → CardState
card_of card = record (idle_card 31 64 false (empty_store (length card.contents.base) card.epoch)) { queue = card.queue; csd = card.csd }

-- the queue and the extended CSD that a card has
abbrev pub as_told : PlainCard → CardState → PlainCard
as_told card told = record card { queue = told.queue; csd = told.csd }

-- the cache was flushed, or a call of the array failed or was cut within it
pub record IsFlushed (well badly : CardState) (old : PlainCard) (answer : Result ℕ Dark) (new : PlainCard) : Type 0 where
  pub end : End
  pub answers : answer ≡ word_answer end
  pub after : new ≡ turned (by_end (kept every_sector) same end) (as_told old (by_end well badly end))

-- the card answered so, and is so then
abbrev pub Follows : Response → PlainCard → Result ℕ Dark → PlainCard → Type 0
Follows (Tell word card) old answer new = (answer ≡ Ok word) × (new ≡ as_told old card)
Follows (SetBarrier card) old answer new = (answer ≡ Ok without_error) × (new ≡ barred (as_told old card))
Follows (FlushCache well badly) old answer new = IsFlushed well badly old answer new

-- at each poll all queued tasks are ready
abbrev pub all_ready : ℕ
all_ready = 2 ^ 32 - 1

abbrev pub Answers : Command → PlainCard → Result ℕ Dark → PlainCard → Type 0
Answers command old answer new = Follows (response_to (card_of old) command all_ready) old answer new

-- the answer as the host sees it: no fault befalls the bus
abbrev pub seen : Result ℕ Dark → Result ℕ LinkEnd
seen (Ok word) = Ok word
seen (Err _) = Err NoPower
