-- What a card's store does by units: the lines that a unit needs, what a unit's puts make of the contents, and the form that an image tells.
use Rattle.std.specs.Prelude.{◌≡◌, ◌⊎◌, ℕ, ◌+◌, ◌≤◌, ◌==◌, ◌&&◌, max, not, if◌then◌else◌, List, ◌++◌, filter, fold, length}
use Rattle.std.specs.List.{list_any}
use Rattle.card_store.specs.Store.{Contents, with_bar}
use Rattle.epoch_cache.specs.Cache.{Cache, is_of, lines_with}
use Rattle.epoch_cache.specs.declared.line.Line.{Line}
use Rattle.image_form.specs.declared.superblock.Super.{Super}
use Rattle.storage_model.specs.Unit.{sectors_of_unit}
use Rattle.storage_model.specs.declared.form.Form.{Form}
use Rattle.unit_laws.specs.Writes.{Run, run_marks}

-- the lines that unit k needs: one for each of its sectors that has none in the last epoch
abbrev pub lines_needed : Form → ℕ → Cache → ℕ
lines_needed form k cache = length (filter (λ s. not (list_any (is_of cache.last s) cache.lines)) (sectors_of_unit form.unit k))

-- it needs none, or all of them are free
abbrev pub HasUnitRoom : Form → ℕ → Cache → Type 0
HasUnitRoom form k cache = (lines_needed form k cache ≡ 0) ⊎ (length cache.lines + lines_needed form k cache ≤ cache.room)

-- the lines after a unit's puts
abbrev pub lines_after : Form → Run → Cache → List Line
lines_after form run cache =
    fold (λ lines s. lines_with cache.last (record { sector = s; value = run.value s; reliable = run.reliable }) lines) cache.lines (sectors_of_unit form.unit run.unit)

-- the lines of a cache that is made for so many: a unit fits
abbrev pub most_lines : Form → ℕ → ℕ
most_lines form lines = max form.unit lines

-- the contents with a unit's puts, where this is the last epoch; by the policy another begins behind them
abbrev pub with_unit : Form → Run → ℕ → Contents → Contents
with_unit form run last c =
    if form.fifo then with_bar last (record { base = c.base; pend = c.pend ++ run_marks form run }) else record { base = c.base; pend = c.pend ++ run_marks form run }

-- the form that a superblock tells, with the policy behind its number of sectors: units are of images of version 2, and policy 1 too
abbrev pub form_told : Super → ℕ → Form
form_told super policy = record { unit = if super.version == 2 then 8 else 1; fifo = (super.version == 2) && (policy == 1) }
