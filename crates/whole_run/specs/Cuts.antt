-- What a `cut` line of a trace comes from: a cut of the array, a `cut` line of the fault text, or a letter of power.
use Rattle.std.specs.Prelude.{◌≡◌, ◌⊎◌, ◌≤◌, ℕ, ◌+◌, Bool, true, count_by, drop}
use Rattle.storage_model.specs.Count.{Count}
use Rattle.storage_model.specs.declared.faults.Letter.{Letter}
use Rattle.storage_model.specs.declared.faults.Letter.TheVariants.{Cut as PowerActs}
use Rattle.cut_order.specs.Order.{OrderState, lines_left}
use Rattle.trace_rules.specs.Lines.{same_letter}

abbrev pub is_power : Letter → Bool
is_power letter = same_letter letter PowerActs

-- the `cut` lines and the letters of power that aren't used yet
abbrev pub power_left : OrderState → ℕ
power_left order = lines_left order + count_by is_power (drop order.letters order.turns)

-- so many lines, of which each has a rise of the count, or one of those that were left and aren't any more; unless the count stands at its end
abbrev pub RoseWith : (lines left before : ℕ) → Count → Count → Type 0
RoseWith lines left before old new = (old.value + lines + left ≤ new.value + before) ⊎ (new.stands ≡ true)
