-- The puts of one sector, as marks come to be: their epochs, the value that they leave, and what may be left of the sector.
use Rattle.std.proofs.Common.{◌≡◌, ℕ, suc, ◌+◌, ◌-◌, ◌<◌, ◌≤◌, inl, inr, Bool, ◌||◌, ◌==◌, List, [], ◌∷◌, ◌++◌, take, get_or, length, refl, sym, ap, ◌∙◌, arith}
use Rattle.std.proofs.lemmas.Bool.{cases_Bool, cases_lt, lt-ltb, le-ltb, eq-eqb, ne_eqb}
use Rattle.std.proofs.lemmas.List.{take_more}
use Rattle.std.proofs.Math.ListN.{length-set}
use Rattle.storage_model.proofs.Applied.{sector_put_same, sector_put_other}
use Rattle.storage_model.proofs.Scans.{scan, scan_whole}
use Rattle.storage_model.specs.Contents.{bars, contents_now, put_on, sector_at}
use Rattle.storage_model.specs.Left.{is_mix, mix_at}
use Rattle.storage_model.specs.declared.block.Block.{Block}
use Rattle.storage_model.specs.declared.marks.Put.{Put}
use Rattle.storage_model.specs.declared.marks.Mark.{Mark}
use Rattle.storage_model.specs.declared.marks.Mark.TheVariants.{Put as PutMark, Bar}
use Rattle.storage_machine.specs.PutIndex.{alone, count_below, count_same, epochs_on, puts_in, puts_on, value_after, value_before, value_of}

-- one list of marks after the other

pub epochs_on-append : (s e : ℕ) (xs ys : List Mark) → epochs_on s e (xs ++ ys) ≡ epochs_on s e xs ++ epochs_on s (e + bars xs) ys
epochs_on-append s e [] ys = let none : e + 0 ≡ e = omega arith in rw none refl
epochs_on-append s e (PutMark put ∷ xs) ys =
    elim (cases_Bool (put.sector == s)) [
      | inl same ↦ rw same (ap (λ es. e ∷ es) (epochs_on-append s e xs ys))
      | inr other ↦ rw other (epochs_on-append s e xs ys)
    ]
epochs_on-append s e (Bar ∷ xs) ys = let more : e + (bars xs + 1) ≡ e + 1 + bars xs = omega arith in rw more (epochs_on-append s (e + 1) xs ys)

pub puts_on-append : (s : ℕ) (xs ys : List Mark) → puts_on s (xs ++ ys) ≡ puts_on s xs ++ puts_on s ys
puts_on-append s [] ys = refl
puts_on-append s (PutMark put ∷ xs) ys =
    elim (cases_Bool (put.sector == s)) [
      | inl same ↦ rw same (ap (λ ps. alone put ∷ ps) (puts_on-append s xs ys))
      | inr other ↦ rw other (puts_on-append s xs ys)
    ]
puts_on-append s (Bar ∷ xs) ys = puts_on-append s xs ys

-- there are as many epochs as puts

pub same_length : (s e : ℕ) (marks : List Mark) → length (epochs_on s e marks) ≡ length (puts_on s marks)
same_length s e [] = refl
same_length s e (PutMark put ∷ marks) =
    elim (cases_Bool (put.sector == s)) [
      | inl same ↦ rw same (ap suc (same_length s e marks))
      | inr other ↦ rw other (same_length s e marks)
    ]
same_length s e (Bar ∷ marks) = same_length s (e + 1) marks

pub epochs_none : (s e : ℕ) (marks : List Mark) → puts_on s marks ≡ [] → epochs_on s e marks ≡ []
epochs_none s e [] none = refl
epochs_none s e (PutMark put ∷ marks) none =
    elim (cases_Bool (put.sector == s)) [
      | inl same ↦ absurd (cc (same, none))
      | inr other ↦ rw other (epochs_none s e marks (rw other at none))
    ]
epochs_none s e (Bar ∷ marks) none = epochs_none s (e + 1) marks none

-- the value that they leave

pub value_now : (s : ℕ) (base : List Block) (pend : List Mark) → s < length base → value_after (sector_at base s) (puts_on s pend) ≡ sector_at (contents_now base pend) s
unfolding contents_now
value_now s base [] inside = refl
value_now s base (Bar ∷ pend) inside = value_now s base pend inside
value_now s base (PutMark put ∷ pend) inside =
    let rest = value_now s (put_on base put) pend (rw (length-set base put.sector put.value) inside) in
    elim (cases_Bool (put.sector == s)) [
      | inl same ↦ rw same (ap (λ v. value_after v (puts_on s pend)) (sym (sector_put_same base put s inside same)) ∙ rest)
      | inr other ↦ rw other (ap (λ v. value_after v (puts_on s pend)) (sym (sector_put_other base put s other)) ∙ rest)
    ]

pub value_more : (value : Block) (xs ys : List Mark) → value_after value (xs ++ ys) ≡ value_after (value_after value xs) ys
value_more value [] ys = refl
value_more value (x ∷ xs) ys = value_more (value_of value x) xs ys

pub value_put : (value : Block) (puts : List Mark) (end : ℕ) (mark : Mark) (put : Put) → 0 < end → end ≤ length puts → get_or puts (end - 1) mark ≡ PutMark put → put.value ≡ value_after value (take end puts)
value_put value puts end mark put some within is =
    let last : end ≡ end - 1 + 1 = omega (arith, some) in
    let more = take_more puts (end - 1) mark (omega (arith, some, within)) in
    sym (ap (λ n. value_after value (take n puts)) last ∙ (ap (value_after value) more ∙ (value_more value (take (end - 1) puts) (get_or puts (end - 1) mark ∷ []) ∙ ap (value_of (value_after value (take (end - 1) puts))) is)))

pub value_bar : (value : Block) (puts : List Mark) (end : ℕ) (mark : Mark) → 0 < end → end ≤ length puts → get_or puts (end - 1) mark ≡ Bar → value_after value (take (end - 1) puts) ≡ value_after value (take end puts)
value_bar value puts end mark some within is =
    let last : end ≡ end - 1 + 1 = omega (arith, some) in
    let more = take_more puts (end - 1) mark (omega (arith, some, within)) in
    sym (ap (λ n. value_after value (take n puts)) last ∙ (ap (value_after value) more ∙ (value_more value (take (end - 1) puts) (get_or puts (end - 1) mark ∷ []) ∙ ap (value_of (value_after value (take (end - 1) puts))) is)))

-- a pass over the marks that looks at a sector, and one over that sector's puts

late_none : (s e k : ℕ) (marks : List Mark) → e < k → count_same e (epochs_on s k marks) ≡ 0
late_none s e k [] later = refl
late_none s e k (PutMark put ∷ marks) later =
    elim (cases_Bool (put.sector == s)) [
      | inl same ↦ rw (same, ne_eqb k e (omega arith)) refl
      | inr other ↦ rw other (late_none s e k marks later)
    ]
late_none s e k (Bar ∷ marks) later = late_none s e (k + 1) marks (omega arith)

below_none : (s e k : ℕ) (marks : List Mark) → e ≤ k → count_below e (epochs_on s k marks) ≡ 0
below_none s e k [] later = refl
below_none s e k (PutMark put ∷ marks) later =
    elim (cases_Bool (put.sector == s)) [
      | inl same ↦ rw (same, le-ltb k e later) refl
      | inr other ↦ rw other (below_none s e k marks later)
    ]
below_none s e k (Bar ∷ marks) later = below_none s e (k + 1) marks (omega arith)

scan_same : (s e : ℕ) (w : Block) (values : List Block) (marks : List Mark)
    → scan e s w e values marks ≡ scan 0 0 w 0 values (take (count_same e (epochs_on s e marks)) (puts_on s marks))
scan_same s e w values [] = refl
scan_same s e w values (Bar ∷ marks) = rw (eq-eqb e e refl, late_none s e (e + 1) marks (omega arith)) refl
scan_same s e w values (PutMark put ∷ marks) =
    elim (cases_Bool (put.sector == s)) [
      | inl same ↦ elim (cases_Bool put.reliable) [
        | inl reliable ↦ rw (same, le-ltb e e (omega arith), reliable, eq-eqb e e refl) (ap (λ b. is_mix values w || b) (scan_same s e w (put.value ∷ []) marks))
        | inr ordinary ↦ rw (same, le-ltb e e (omega arith), ordinary, eq-eqb e e refl) (scan_same s e w (values ++ put.value ∷ []) marks)
      ]
      | inr other ↦ rw other (scan_same s e w values marks)
    ]

scan_at : (s e k : ℕ) (w v : Block) (marks : List Mark) → k ≡ e
    → scan e s w k (v ∷ []) marks ≡ scan 0 0 w 0 (value_before e (epochs_on s k marks) v (puts_on s marks) ∷ []) (puts_in e (epochs_on s k marks) (puts_on s marks))
scan_at s e k w v marks here = rw (here, below_none s e e marks (omega arith)) (scan_same s e w (v ∷ []) marks)

scan_below : (s e k : ℕ) (w v : Block) (marks : List Mark) → k < e
    → scan e s w k (v ∷ []) marks ≡ scan 0 0 w 0 (value_before e (epochs_on s k marks) v (puts_on s marks) ∷ []) (puts_in e (epochs_on s k marks) (puts_on s marks))
scan_below s e k w v [] below = refl
scan_below s e k w v (Bar ∷ marks) below =
    rw (ne_eqb k e (omega arith)) (elim (cases_lt (k + 1) e) [
      | inl still ↦ scan_below s e (k + 1) w v marks still
      | inr now ↦ scan_at s e (k + 1) w v marks (omega arith)
    ])
scan_below s e k w v (PutMark put ∷ marks) below =
    elim (cases_Bool (put.sector == s)) [
      | inl same ↦ rw (same, lt-ltb k e below) (scan_below s e k w put.value marks below)
      | inr other ↦ rw other (scan_below s e k w v marks below)
    ]

scan_own : (s e : ℕ) (w v : Block) (marks : List Mark)
    → scan e s w 0 (v ∷ []) marks ≡ scan 0 0 w 0 (value_before e (epochs_on s 0 marks) v (puts_on s marks) ∷ []) (puts_in e (epochs_on s 0 marks) (puts_on s marks))
scan_own s e w v marks = elim (cases_lt 0 e) [
  | inl below ↦ scan_below s e 0 w v marks below
  | inr at ↦ scan_at s e 0 w v marks (omega arith)
]

pub mix_own : (base : List Block) (marks : List Mark) (e s : ℕ) (w v : Block) → s < length base → v ≡ sector_at base s
    → mix_at (value_before e (epochs_on s 0 marks) v (puts_on s marks) ∷ []) (puts_in e (epochs_on s 0 marks) (puts_on s marks)) 0 0 w ≡ mix_at base marks e s w
mix_own base marks e s w v inside is =
    let start = value_before e (epochs_on s 0 marks) v (puts_on s marks) in
    sym (scan_whole 0 0 w (start ∷ []) start (puts_in e (epochs_on s 0 marks) (puts_on s marks)) (omega arith) refl) ∙ (sym (scan_own s e w v marks) ∙ scan_whole e s w base v marks inside is)

pub allows_own : (base : List Block) (marks : List Mark) (e s : ℕ) (w v : Block) (epochs : List ℕ) (puts : List Mark) (answer : Bool) → epochs ≡ epochs_on s 0 marks → puts ≡ puts_on s marks
    → answer ≡ mix_at (value_before e epochs v puts ∷ []) (puts_in e epochs puts) 0 0 w → s < length base → v ≡ sector_at base s → answer ≡ mix_at base marks e s w
allows_own base marks e s w v epochs puts answer at_epochs at_puts is inside before =
    let own : answer ≡ mix_at (value_before e (epochs_on s 0 marks) v (puts_on s marks) ∷ []) (puts_in e (epochs_on s 0 marks) (puts_on s marks)) 0 0 w = rw (at_epochs, at_puts) at is in
    own ∙ mix_own base marks e s w v inside before
