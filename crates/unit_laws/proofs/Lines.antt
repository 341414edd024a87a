-- The lines that a unit's puts need, and the form that an image tells.
use Rattle.std.proofs.Common.{◌≡◌, ◌∙◌, ℕ, zero, suc, ◌+◌, ◌*◌, ◌<◌, ◌==◌, ◌||◌, not, if◌then◌else◌, Bool, true, false, inl, inr, List, [], ◌∷◌, filter, fold, length, map, refl, ap, ap₂, length-append, arith}
use Rattle.std.proofs.Math.Bool.{or-false}
use Rattle.std.proofs.lemmas.Bool.{and_right, cases_Bool, ne_eqb}
use Rattle.std.proofs.lemmas.List.{length-map}
use Rattle.std.proofs.lemmas.List.Folds.{list_any-append}
use Rattle.std.specs.List.{list_any, range_with_len}
use Rattle.epoch_cache.specs.Cache.{Cache, is_of, lines_with, new_line, renewed}
use Rattle.epoch_cache.specs.declared.line.Line.{Line}
use Rattle.image_form.specs.declared.superblock.Super.{Super}
use Rattle.storage_model.specs.Unit.{IsForm}
use Rattle.storage_model.specs.declared.form.Form.{Form}
use Rattle.storage_model.specs.declared.marks.Put.{Put}
use Rattle.unit_laws.specs.Laws.{AddsLines, FitsEmpty}
use Rattle.unit_laws.specs.Rooms.{form_told}
use Rattle.unit_laws.specs.Writes.{Run}

-- a sector that has no line in the epoch
abbrev is_needed : ℕ → List Line → ℕ → Bool
is_needed e lines s = not (list_any (is_of e s) lines)

grown : (e : ℕ) (put : Put) (lines : List Line) → length (lines_with e put lines) ≡ length lines + (if is_needed e lines put.sector then 1 else 0)
unfolding lines_with
grown e put lines =
    elim (cases_Bool (list_any (is_of e put.sector) lines)) [
      | inl held ↦ rw (held, length-map) (omega arith)
      | inr none ↦ rw (none, length-append) (omega arith)
    ]

-- a put leaves what other sectors have

renewed_of : (e s : ℕ) (put : Put) (line : Line) (b : Bool) → is_of e s (if b then renewed put line else line) ≡ is_of e s line
renewed_of e s put line true = refl
renewed_of e s put line false = refl

renewed_any : (e s : ℕ) (put : Put) (lines : List Line) → list_any (is_of e s) (map (λ line. if is_of e put.sector line then renewed put line else line) lines) ≡ list_any (is_of e s) lines
renewed_any e s put [] = refl
renewed_any e s put (line ∷ lines) = ap₂ ◌||◌ (renewed_of e s put line (is_of e put.sector line)) (renewed_any e s put lines)

others : (e s : ℕ) (put : Put) (lines : List Line) → (put.sector == s) ≡ false → list_any (is_of e s) (lines_with e put lines) ≡ list_any (is_of e s) lines
unfolding lines_with
others e s put lines apart =
    elim (cases_Bool (list_any (is_of e put.sector) lines)) [
      | inl held ↦ rw held (renewed_any e s put lines)
      | inr none ↦ rw none
          (list_any-append (is_of e s) lines (new_line e put ∷ [])
          ∙ (ap (λ b. list_any (is_of e s) lines || (b || false)) (and_right (e == e) (put.sector == s) apart) ∙ or-false (list_any (is_of e s) lines)))
    ]

-- the puts of a run

abbrev run_put : Run → ℕ → Put
run_put run s = record { sector = s; value = run.value s; reliable = run.reliable }

needed_behind : (run : Run) (e first : ℕ) (lines : List Line) (at n : ℕ) → first < at
    → filter (is_needed e (lines_with e (run_put run first) lines)) (range_with_len at n) ≡ filter (is_needed e lines) (range_with_len at n)
needed_behind run e first lines at zero h = refl
needed_behind run e first lines at (suc n) h =
    ap₂ (λ b rest. if not b then at ∷ rest else rest) (others e at (run_put run first) lines (ne_eqb first at (omega arith))) (needed_behind run e first lines (at + 1) n (omega arith))

one_more : (b : Bool) (n s : ℕ) (sectors : List ℕ) → n + (if b then 1 else 0) + length sectors ≡ n + length (if b then s ∷ sectors else sectors)
one_more true n s sectors = omega arith
one_more false n s sectors = omega arith

adds : (run : Run) (e at n : ℕ) (lines : List Line)
    → length (fold (λ held s. lines_with e (run_put run s) held) lines (range_with_len at n)) ≡ length lines + length (filter (is_needed e lines) (range_with_len at n))
adds run e at zero lines = omega arith
adds run e at (suc n) lines =
    adds run e (at + 1) n (lines_with e (run_put run at) lines)
    ∙ (ap₂ ◌+◌ (grown e (run_put run at) lines) (ap length (needed_behind run e at lines (at + 1) n (omega arith)))
    ∙ one_more (is_needed e lines at) (length lines) at (filter (is_needed e lines) (range_with_len (at + 1) n)))

pub adds_lines : (form : Form) (run : Run) (cache : Cache) → AddsLines form run cache
adds_lines form run cache = adds run cache.last (form.unit * run.unit) form.unit cache.lines

-- where there are none

all_needed : (e at n : ℕ) → length (filter (is_needed e []) (range_with_len at n)) ≡ n
all_needed e at zero = refl
all_needed e at (suc n) = ap suc (all_needed e (at + 1) n)

pub fits_empty : (form : Form) (k last lines : ℕ) → FitsEmpty form k last lines
fits_empty form k last lines = let needed = all_needed last (form.unit * k) form.unit in inr (omega arith)

pub one_of_two : (super : Super) (policy : ℕ) → IsForm (form_told super policy)
one_of_two super policy =
    elim (cases_Bool (super.version == 2)) [
      | inl two ↦ inr (ap (λ b. if b then 8 else 1) two)
      | inr other ↦ inl (ap (λ b. if b then 8 else 1) other)
    ]
