-- What a reader of one piece answers: the value that the piece spells, and nothing only where it spells none.
use Rattle.std.specs.Prelude.{Option, Some, None}

abbrev pub Reads : {T : Type 0} → Option T → (T → Type 0) → Type 0
Reads {T} None Spells = (value : T) → ¬ Spells value
Reads {T} (Some value) Spells = Spells value
