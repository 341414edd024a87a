-- What is behind a link to a card: the card, its array, and the script of the bus.
use Rattle.array_edge.specs.Array.{ArrayState}
use Rattle.card_store.specs.Store.{IsOpen}
use Rattle.bus_link.specs.Link.{LinkState}
use Rattle.bus_link.specs.Script.{Script, bus_count}
use Rattle.card_core.specs.Card.{CardState}

pub record Behind : Type 0 where
  pub card : CardState
  pub array : ArrayState
  pub script : Script

abbrev pub behind : CardState → ArrayState → Script → Behind
behind card array script = record { card = card; array = array; script = script }

-- the card was set up, and its image stands on the array
abbrev pub Fits : Behind → Type 0
Fits b = IsOpen b.card.store b.array

-- the counts of bus, flash and cuts, and the power
abbrev pub link_state : Behind → LinkState
link_state b = record { bus = bus_count b.script; flash = b.array.faults; cuts = b.array.cuts; powered = b.array.powered }
