-- The contents now may be left, and without marks nothing else may.
use Rattle.std.proofs.Common.{◌≡◌, ℕ, ◌+◌, ◌-◌, ◌*◌, ◌/◌, ◌%◌, ◌<◌, inl, inr, Bool, true, false, ◌==◌, List, [], ◌∷◌, ◌++◌, get_or, drop, map, length, refl, sym, ap, ◌∙◌, arith, bytes_eq}
use Rattle.std.proofs.Math.Bool.{or-false}
use Rattle.std.proofs.Math.ListN.{length-set}
use Rattle.std.proofs.lemmas.Bool.{cases_Bool, cases_lt, lt-ltb, eq-eqb, ne_eqb, or_right}
use Rattle.std.proofs.lemmas.List.{get_or-take, get_or-drop, same_lists}
use Rattle.std.specs.List.{list_any}
use Rattle.storage_model.specs.Keep.{keep_base, keep_pend}
use Rattle.storage_model.proofs.Durable.{bars-keep_pend, keep_base-named, keep_base-other, length-keep_base, puts_at-keep_named, puts_at-keep_other}
use Rattle.storage_model.proofs.Appends.{contents_now-numbered, before_epoch-first}
use Rattle.storage_model.proofs.Applied.{sector_put_same, sector_put_other}
use Rattle.storage_model.proofs.Cuts.{is_left-at, is_left-from, is_left_in-at, is_left_in-from}
use Rattle.storage_model.proofs.Remains.{is_mix-at, is_mix-further, is_mix-own, is_mix-from}
use Rattle.storage_model.proofs.Scans.{early, early_none, own}
use Rattle.storage_model.proofs.Sources.{same_granule-true}
use Rattle.storage_model.specs.Contents.{EpochPut, bars, before_epoch, contents_now, numbered, put_all, put_on, puts_at, sector_at}
use Rattle.storage_model.specs.Granule.{granule, IsMix}
use Rattle.storage_model.specs.Left.{is_left, is_mix, is_mix_of_segment, mix_at, same_granule, segments, has_granule}
use Rattle.storage_model.specs.declared.block.Block.{Block}
use Rattle.storage_model.specs.declared.marks.Put.{Put}
use Rattle.storage_model.specs.declared.marks.Mark.{Mark}
use Rattle.storage_model.specs.declared.marks.Mark.TheVariants.{Put as PutMark, Bar}

-- the last value, from v on
abbrev pub last_value : Block → List Put → Block
last_value v [] = v
last_value v (put ∷ puts) = last_value put.value puts

-- what is a mix of the last value alone is one of the last segment
pub segments-last : (values : List Block) (v : Block) (puts : List Put) (w : Block) → is_mix (last_value v puts ∷ []) w ≡ true → is_mix_of_segment (segments (values ++ v ∷ []) puts) w ≡ true
segments-last values v [] w h = or-false (is_mix (values ++ v ∷ []) w) ∙ is_mix-further values (v ∷ []) w h
segments-last values v (put ∷ puts) w h =
    elim (cases_Bool put.reliable) [
      | inl reliable ↦ rw reliable (or_right (is_mix (values ++ v ∷ []) w) (is_mix_of_segment (segments (put.value ∷ []) puts) w) (segments-last [] put.value puts w h))
      | inr ordinary ↦ rw ordinary (segments-last (values ++ v ∷ []) put.value puts w h)
    ]

-- a sector's value now is the last of the last epoch
last_own : (e s : ℕ) (c : List Block) (v : Block) (marks : List Mark) → bars marks ≡ 0 → s < length c → v ≡ sector_at c s
    → sector_at (put_all c (map (λ (q : EpochPut). q.put) (numbered e marks))) s ≡ last_value v (own e s (numbered e marks))
last_own e s c v [] none inside is = sym is
last_own e s c v (Bar ∷ marks) none inside is = absurd (omega arith)
last_own e s c v (PutMark put ∷ marks) none inside is =
    let long : s < length (put_on c put) = rw (length-set c put.sector put.value) inside in
    elim (cases_Bool (put.sector == s)) [
      | inl here ↦ rw (eq-eqb e e refl, here) (last_own e s (put_on c put) put.value marks none long (sym (sector_put_same c put s inside here)))
      | inr there ↦ rw (eq-eqb e e refl, there) (last_own e s (put_on c put) v marks none long (is ∙ sym (sector_put_other c put s there)))
    ]

last_from : (e s k : ℕ) (c : List Block) (marks : List Mark) → k + bars marks ≡ e → s < length c
    → sector_at (put_all c (map (λ (q : EpochPut). q.put) (numbered k marks))) s ≡ last_value (sector_at (put_all c (early e (numbered k marks))) s) (own e s (numbered k marks))
last_from e s k c [] within inside = refl
last_from e s k c (Bar ∷ marks) within inside = last_from e s (k + 1) c marks (omega arith) inside
last_from e s k c (PutMark put ∷ marks) within inside =
    elim (cases_lt k e) [
      | inl before ↦ rw (lt-ltb k e before, ne_eqb k e (omega arith)) (last_from e s k (put_on c put) marks within (rw (length-set c put.sector put.value) inside))
      | inr now ↦
          let same : k ≡ e = omega arith in
          rw (same, early_none e e (PutMark put ∷ marks) (omega arith)) (last_own e s c (sector_at c s) (PutMark put ∷ marks) (omega arith) inside refl)
    ]

pub contents_now-last : (base : List Block) (pend : List Mark) (s : ℕ) → s < length base → sector_at (contents_now base pend) s ≡ last_value (sector_at (before_epoch (bars pend) base pend) s) (puts_at (bars pend) s pend)
unfolding before_epoch puts_at
contents_now-last base pend s inside = ap (λ c. sector_at c s) (contents_now-numbered base 0 pend) ∙ last_from (bars pend) s 0 base pend (omega arith) inside

pub mix_at-now : (base : List Block) (pend : List Mark) (s : ℕ) (w : Block) → s < length base → is_mix (sector_at (contents_now base pend) s ∷ []) w ≡ true → mix_at base pend (bars pend) s w ≡ true
unfolding mix_at
mix_at-now base pend s w inside h =
    segments-last [] (sector_at (before_epoch (bars pend) base pend) s) (puts_at (bars pend) s pend) w (rw (contents_now-last base pend s inside) at h)

pub is_left-now : (base : List Block) (pend : List Mark) → is_left base pend (contents_now base pend) ≡ true
is_left-now base pend = is_left-from base pend (contents_now base pend) (bars pend) (omega arith)
    (is_left_in-from base pend (contents_now base pend) (bars pend) (λ s inside. mix_at-now base pend s (sector_at (contents_now base pend) s) inside (is_mix-own (sector_at (contents_now base pend) s))))

-- blocks are the same where their granules are

granule_at : (v : Block) (g i : ℕ) (d : ℕ) → i < 64 → get_or (granule v g) i d ≡ get_or v.0 (64 * g + i) d
unfolding granule
granule_at v g i d below =
    let size : 64 * g + 64 - 64 * g ≡ 64 = omega arith in
    rw size (get_or-take 64 (drop (64 * g) v.0) i d below ∙ get_or-drop (64 * g) v.0 i d)

pub same_blocks : (v w : Block) → length v.0 ≡ 512 → length w.0 ≡ 512 → ((g : ℕ) → g < 8 → granule v g ≡ granule w g) → v ≡ w
same_blocks v w long long' same =
    let bytes : v.0 ≡ w.0 = same_lists v.0 w.0 (omega arith) (λ k d below.
    let at : 64 * (k / 64) + k % 64 ≡ k = omega arith in
    let one : get_or v.0 k d ≡ get_or (granule v (k / 64)) (k % 64) d = rw at at (sym (granule_at v (k / 64) (k % 64) d (omega arith))) in
    let other : get_or (granule w (k / 64)) (k % 64) d ≡ get_or w.0 k d = rw at at (granule_at w (k / 64) (k % 64) d (omega arith)) in
    one ∙ ap (λ xs. get_or xs (k % 64) d) (same (k / 64) (omega arith)) ∙ other) in
    ap (λ xs. record { 0 = xs }) bytes

pub is_mix-alone : (v w : Block) → length v.0 ≡ 512 → length w.0 ≡ 512 → is_mix (v ∷ []) w ≡ true → w ≡ v
is_mix-alone v w long long' h = sym (same_blocks v w long long' (λ g below. same_granule-true g v w (sym (or-false (same_granule g v w)) ∙ is_mix-at (v ∷ []) w g h below)))

-- without marks

mix_at-alone : (base : List Block) (e s : ℕ) (w : Block) → mix_at base [] e s w ≡ is_mix (sector_at base s ∷ []) w
unfolding mix_at before_epoch puts_at
mix_at-alone base e s w = or-false (is_mix (sector_at base s ∷ []) w)

pub is_left-alone : (base after : List Block) (s : ℕ) → is_left base [] after ≡ true → s < length base → length (sector_at base s).0 ≡ 512 → length (sector_at after s).0 ≡ 512 → sector_at after s ≡ sector_at base s
is_left-alone base after s h inside long long' =
    let found = is_left-at base [] after h in
    is_mix-alone (sector_at base s) (sector_at after s) long long' (sym (mix_at-alone base found.0 s (sector_at after s)) ∙ is_left_in-at base [] after found.0 s found.2 inside)

-- keeping allows nothing new

pub mix_at-keep_named : (named : ℕ → Bool) (base : List Block) (pend : List Mark) (s : ℕ) (w : Block) → s < length base → named s ≡ true
    → mix_at (keep_base named base pend) (keep_pend named pend) 0 s w ≡ is_mix (sector_at (contents_now base pend) s ∷ []) w
unfolding mix_at
mix_at-keep_named named base pend s w inside chosen =
    rw (before_epoch-first (keep_base named base pend) (keep_pend named pend), keep_base-named named base pend s inside chosen, puts_at-keep_named named pend s chosen)
    (or-false (is_mix (sector_at (contents_now base pend) s ∷ []) w))

pub mix_at-keep_other : (named : ℕ → Bool) (base : List Block) (pend : List Mark) (s : ℕ) (w : Block) → s < length base → named s ≡ false
    → mix_at (keep_base named base pend) (keep_pend named pend) 0 s w ≡ mix_at base pend (bars pend) s w
unfolding mix_at
mix_at-keep_other named base pend s w inside spared =
    rw (before_epoch-first (keep_base named base pend) (keep_pend named pend), keep_base-other named base pend s inside spared, puts_at-keep_other named pend s spared) refl

pub is_left-keep : (named : ℕ → Bool) (base : List Block) (pend : List Mark) (after : List Block) → is_left (keep_base named base pend) (keep_pend named pend) after ≡ true → is_left base pend after ≡ true
is_left-keep named base pend after h =
    let found = is_left-at (keep_base named base pend) (keep_pend named pend) after h in
    let within = found.1 in
    let none = bars-keep_pend named pend in
    let first : found.0 ≡ 0 = omega arith in
    let long = length-keep_base named base pend in
    is_left-from base pend after (bars pend) (omega arith) (is_left_in-from base pend after (bars pend) (λ s inside.
    let mixed : mix_at (keep_base named base pend) (keep_pend named pend) 0 s (sector_at after s) ≡ true
    = rw first at (is_left_in-at (keep_base named base pend) (keep_pend named pend) after found.0 s found.2 (omega arith)) in
    elim (cases_Bool (named s)) [
      | inl chosen ↦ mix_at-now base pend s (sector_at after s) inside (sym (mix_at-keep_named named base pend s (sector_at after s) inside chosen) ∙ mixed)
      | inr spared ↦ sym (mix_at-keep_other named base pend s (sector_at after s) inside spared) ∙ mixed
    ]))

-- a torn program leaves a mix where old and new are mixes of the same values

has_granule-same : (values : List Block) (v w : Block) (g : ℕ) → granule w g ≡ granule v g → has_granule values v g ≡ true → has_granule values w g ≡ true
unfolding same_granule
has_granule-same values v w g same h = ap (λ xs. list_any (λ x. bytes_eq (granule x g) xs) values) same ∙ h

pub is_mix-torn : (values : List Block) (old new w : Block) → is_mix values old ≡ true → is_mix values new ≡ true → IsMix old new w → is_mix values w ≡ true
is_mix-torn values old new w before after torn = is_mix-from values w (λ g below. elim (torn.each g below) [
  | inl one ↦ has_granule-same values old w g one (is_mix-at values old g before below)
  | inr other ↦ has_granule-same values new w g other (is_mix-at values new g after below)
])
