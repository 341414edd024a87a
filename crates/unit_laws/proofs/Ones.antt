-- Units of one sector: what is said of them is what is said of their sectors.
use Rattle.std.proofs.Common.{◌≡◌, ◌∙◌, ℕ, ◌+◌, ◌%◌, ◌==◌, ◌&&◌, ◌||◌, if◌then◌else◌, Bool, true, false, inl, inr, All, List, [], ◌∷◌, ◌++◌, filter, map, length, refl, sym, ap, ap₂, subst, one-mul, div-one, arith, Some, None}
use Rattle.std.proofs.lemmas.Bool.{and_from, and_left, and_parts, cases_Bool, eq-eqb}
use Rattle.std.proofs.lemmas.List.{map-append}
use Rattle.std.proofs.lemmas.List.Elements.{All-cons, All-head, All-nil, All-tail, filter-append}
use Rattle.std.specs.List.{list_any}
use Rattle.storage_model.specs.Contents.{EpochPut, bars, before_epoch, numbered, puts_at, puts_if, sector_at}
use Rattle.storage_model.specs.Left.{every_below, is_left, is_mix, is_mix_of_segment, mix_at, segments, some_below}
use Rattle.storage_model.specs.declared.block.Block.{Block}
use Rattle.storage_model.specs.declared.form.Form.{Form}
use Rattle.storage_model.specs.declared.marks.Mark.{Mark}
use Rattle.storage_model.specs.declared.marks.Mark.TheVariants.{Put as PutMark, Bar}
use Rattle.storage_model.specs.declared.marks.Put.{Put}
use Rattle.unit_laws.specs.Laws.{IsMixOfSector, run_of}
use Rattle.unit_laws.specs.Mixes.{left_by, part_mix, parted, unit_mix, unit_puts, units_left, values_on}
use Rattle.unit_laws.specs.Writes.{StandInRuns, run_marks}

-- forms with units of one sector
abbrev pub of_one : Bool → Form
of_one fifo = record { unit = 1; fifo = fifo }

pub of_one_is : (form : Form) → form.unit ≡ 1 → of_one form.fifo ≡ form
of_one_is form one = λ i. record { unit = sym one i; fifo = form.fifo }

pub mod-one : (n : ℕ) → n % 1 ≡ 0
mod-one n = omega arith

-- the puts on a sector

own_same : (fifo : Bool) (e s : ℕ) (pend : List Mark) → unit_puts (of_one fifo) e s pend ≡ puts_at e s pend
unfolding unit_puts puts_at
own_same fifo e s pend = λ i. puts_if (λ q. (q.epoch == e) && (div-one q.put.sector i == s)) pend

abbrev IsOn : ℕ → Put → Type 0
IsOn s put = (put.sector == s) ≡ true

all_on : (e s : ℕ) (qs : List EpochPut) → All (IsOn s) (map (λ q. q.put) (filter (λ q. (q.epoch == e) && (q.put.sector == s)) qs))
all_on e s [] = All-nil (IsOn s)
all_on e s (q ∷ qs) =
    elim (cases_Bool ((q.epoch == e) && (q.put.sector == s))) [
      | inl own ↦ rw own (All-cons (IsOn s) q.put _ ((and_parts (q.epoch == e) (q.put.sector == s) own).1) (all_on e s qs))
      | inr other ↦ rw other (all_on e s qs)
    ]

own_on : (e s : ℕ) (pend : List Mark) → All (IsOn s) (puts_at e s pend)
unfolding puts_at
own_on e s pend = all_on e s (numbered 0 pend)

-- segments

pub parted_at : (first : ℕ) (segment : List Put) (put : Put) (puts : List Put) → (put.reliable && (put.sector == first)) ≡ true → parted first segment (put ∷ puts) ≡ segment ∷ parted first (put ∷ []) puts
parted_at first segment put puts begins = ap (λ b. if b then segment ∷ parted first (put ∷ []) puts else parted first (segment ++ put ∷ []) puts) begins

pub parted_in : (first : ℕ) (segment : List Put) (put : Put) (puts : List Put) → (put.reliable && (put.sector == first)) ≡ false → parted first segment (put ∷ puts) ≡ parted first (segment ++ put ∷ []) puts
parted_in first segment put puts within = ap (λ b. if b then segment ∷ parted first (put ∷ []) puts else parted first (segment ++ put ∷ []) puts) within

segments_at : (values : List Block) (put : Put) (puts : List Put) (b : Bool) → put.reliable ≡ b → segments values (put ∷ puts) ≡ (if b then values ∷ segments (put.value ∷ []) puts else segments (values ++ put.value ∷ []) puts)
segments_at values put puts b e = ap (λ c. if c then values ∷ segments (put.value ∷ []) puts else segments (values ++ put.value ∷ []) puts) e

value_one : (s : ℕ) (put : Put) → (put.sector == s) ≡ true → values_on s (put ∷ []) ≡ put.value ∷ []
value_one s put here = rw here refl

value_more : (s : ℕ) (segment : List Put) (put : Put) → (put.sector == s) ≡ true → values_on s (segment ++ put ∷ []) ≡ values_on s segment ++ put.value ∷ []
value_more s segment put here = rw (filter-append, map-append, here) refl

alone : (b : Bool) → ((b && true) || false) ≡ (b || false)
alone true = refl
alone false = refl

beside : (b c : Bool) → ((b && true) || c) ≡ (b || c)
beside true c = refl
beside false c = refl

parted_on : (s : ℕ) (left : ℕ → Block) (segment puts : List Put) → All (IsOn s) puts
    → list_any (left_by (s ∷ []) left) (parted s segment puts) ≡ is_mix_of_segment (segments (values_on s segment) puts) (left s)
parted_on s left segment [] all = alone (is_mix (values_on s segment) (left s))
parted_on s left segment (put ∷ puts) all =
    let here : (put.sector == s) ≡ true = All-head (IsOn s) put puts all in
    let rest = All-tail (IsOn s) put puts all in
    elim (cases_Bool put.reliable) [
      | inl reliable ↦
          ap (list_any (left_by (s ∷ []) left)) (parted_at s segment put puts (and_from put.reliable (put.sector == s) reliable here))
          ∙ (beside (is_mix (values_on s segment) (left s)) (list_any (left_by (s ∷ []) left) (parted s (put ∷ []) puts))
          ∙ (ap (λ b. is_mix (values_on s segment) (left s) || b) (parted_on s left (put ∷ []) puts rest ∙ ap (λ values. is_mix_of_segment (segments values puts) (left s)) (value_one s put here))
          ∙ ap (λ parts. is_mix_of_segment parts (left s)) (sym (segments_at (values_on s segment) put puts true reliable))))
      | inr ordinary ↦
          ap (list_any (left_by (s ∷ []) left)) (parted_in s segment put puts (and_left put.reliable (put.sector == s) ordinary))
          ∙ (parted_on s left (segment ++ put ∷ []) puts rest
          ∙ (ap (λ values. is_mix_of_segment (segments values puts) (left s)) (value_more s segment put here)
          ∙ ap (λ parts. is_mix_of_segment parts (left s)) (sym (segments_at (values_on s segment) put puts false ordinary))))
    ]

-- mixes

abbrev kept_put : List Block → List Mark → ℕ → ℕ → Put
kept_put base pend e s = record { sector = s; value = sector_at (before_epoch e base pend) s; reliable = false }

begun : (base : List Block) (pend : List Mark) (e s : ℕ) (left : ℕ → Block)
    → list_any (left_by (s ∷ []) left) (parted s (kept_put base pend e s ∷ []) (puts_at e s pend)) ≡ mix_at base pend e s (left s)
unfolding mix_at
begun base pend e s left =
    parted_on s left (kept_put base pend e s ∷ []) (puts_at e s pend) (own_on e s pend)
    ∙ ap (λ values. is_mix_of_segment (segments values (puts_at e s pend)) (left s)) (value_one s (kept_put base pend e s) (eq-eqb s s refl))

unit_one : (fifo : Bool) (base : List Block) (pend : List Mark) (e s : ℕ) (left : ℕ → Block) → unit_mix (of_one fifo) base pend e s left ≡ mix_at base pend e s (left s)
unfolding unit_mix
unit_one fifo base pend e s left = rw (one-mul, own_same fifo e s pend) (begun base pend e s left)

part_one : (fifo : Bool) (base : List Block) (pend : List Mark) (e s : ℕ) (left : ℕ → Block) → part_mix (of_one fifo) base pend e s left ≡ mix_at base pend e s (left s)
unfolding part_mix
part_one fifo base pend e s left = rw (div-one, one-mul, mod-one s, own_same fifo e s pend) (begun base pend e s left)

pub mix_of_sector : (form : Form) → form.unit ≡ 1 → (base : List Block) (pend : List Mark) (e s : ℕ) (left : ℕ → Block) → IsMixOfSector form base pend e s left
mix_of_sector form one base pend e s left =
    subst (λ f. IsMixOfSector f base pend e s left) (of_one_is form one) (record { unit = unit_one form.fifo base pend e s left; part = part_one form.fifo base pend e s left })

left_one : (fifo : Bool) (base : List Block) (pend : List Mark) (after : List Block) → units_left (of_one fifo) base pend after ≡ is_left base pend after
unfolding units_left is_left
left_one fifo base pend after =
    λ i. some_below (bars pend + 1) (λ e. every_below (div-one (length base) i) (λ s. unit_one fifo base pend e s (λ k. sector_at after k) i))

pub left_of_sectors : (form : Form) → form.unit ≡ 1 → (base : List Block) (pend : List Mark) (after : List Block) → units_left form base pend after ≡ is_left base pend after
left_of_sectors form one base pend after = subst (λ f. units_left f base pend after ≡ is_left base pend after) (of_one_is form one) (left_one form.fifo base pend after)

-- any marks stand in runs

run_one : (fifo : Bool) (put : Put) → run_marks (of_one fifo) (run_of put) ≡ PutMark put ∷ []
run_one fifo put = λ i. PutMark (record { sector = one-mul put.sector i; value = put.value; reliable = put.reliable }) ∷ []

stand : (fifo : Bool) (pend : List Mark) → StandInRuns (of_one fifo) pend
stand fifo [] = ([], refl)
stand fifo (PutMark put ∷ pend) = let rest = stand fifo pend in (Some (run_of put) ∷ rest.0, ap₂ ◌++◌ (sym (run_one fifo put)) rest.1)
stand fifo (Bar ∷ pend) = let rest = stand fifo pend in (None ∷ rest.0, ap (λ marks. Bar ∷ marks) rest.1)

pub stand_one : (form : Form) → form.unit ≡ 1 → (pend : List Mark) → StandInRuns form pend
stand_one form one pend = subst (λ f. StandInRuns f pend) (of_one_is form one) (stand form.fifo pend)
