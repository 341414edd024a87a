-- The requests that are lost with the power, by number.
use Rattle.std.specs.Prelude.{◌≡◌, ℕ, nat_lt, Bool, true, if◌then◌else◌, Option, Some, None, List, [], ◌∷◌, fold, map, option_map}
use Rattle.storage_machine.specs.Cuts.{least}
use Rattle.storage_machine.specs.declared.state.Task.{Task}
use Rattle.storage_model.specs.declared.trace.Item.{Item}
use Rattle.storage_model.specs.declared.trace.Item.TheVariants.{Lost}

-- the request of a tag, where its number is above the last one
abbrev pub above : ℕ → Option ℕ → Option ℕ
above last None = None
above last (Some id) = if nat_lt last id then Some id else None

-- the lower of two
abbrev pub lower : Option ℕ → Option ℕ → Option ℕ
lower best None = best
lower best (Some id) = least best id

-- the lowest request of the tags above the last one
unfoldable pub next_lost : ℕ → List (Option ℕ) → Option ℕ
next_lost last holders = fold lower None (map (above last) holders)

-- these are lost one after the other, and where it is all of them none is left
abbrev pub AreLost : (last : ℕ) → List (Option ℕ) → (all : Bool) → List ℕ → Type 0
AreLost last holders all [] = all ≡ true → next_lost last holders ≡ None
AreLost last holders all (id ∷ ids) = (next_lost last holders ≡ Some id) × AreLost id holders all ids

abbrev pub lost_lines : List ℕ → List Item
lost_lines ids = map Lost ids

-- the request of each slot
abbrev pub id_in : Option Task → Option ℕ
id_in slot = option_map (λ task. task.id) slot

abbrev pub ids_in : List (Option Task) → List (Option ℕ)
ids_in slots = map id_in slots
