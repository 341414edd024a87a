-- A pass over the marks that looks at one sector: whether a value may be left of it, where a given epoch was being written.
use Rattle.std.proofs.Common.{◌≡◌, ◌≢◌, ℕ, ◌+◌, ◌<◌, ◌≤◌, inl, inr, Bool, true, false, ◌&&◌, ◌||◌, ◌==◌, nat_lt, if◌then◌else◌, List, [], ◌∷◌, ◌++◌, filter, map, length, refl, sym, ap, ◌∙◌, arith}
use Rattle.std.proofs.Math.Bool.{or-false}
use Rattle.std.proofs.Math.ListN.{length-set}
use Rattle.std.proofs.lemmas.Bool.{cases_Bool, lt-ltb, le-ltb, eq-eqb, ne_eqb, cases_lt}
use Rattle.storage_model.proofs.Applied.{sector_put_same, sector_put_other}
use Rattle.storage_model.specs.Contents.{EpochPut, numbered, put_all, put_on, sector_at, before_epoch, puts_at}
use Rattle.storage_model.specs.Cover.{Covers}
use Rattle.storage_model.specs.Left.{is_mix, is_mix_of_segment, mix_at, segments}
use Rattle.storage_model.specs.declared.block.Block.{Block}
use Rattle.storage_model.specs.declared.marks.Put.{Put}
use Rattle.storage_model.specs.declared.marks.Mark.{Mark}
use Rattle.storage_model.specs.declared.marks.Mark.TheVariants.{Put as PutMark, Bar}

-- the puts of epochs before e; the puts on sector s in epoch e
abbrev pub early : ℕ → List EpochPut → List Put
early e puts = map (λ q. q.put) (filter (λ q. nat_lt q.epoch e) puts)

abbrev pub own : ℕ → ℕ → List EpochPut → List Put
own e s puts = map (λ q. q.put) (filter (λ q. (q.epoch == e) && (q.put.sector == s)) puts)

-- The answer, from epoch k on, where `values` are those of the sector that may mix so far. Before epoch e they are its one value.
abbrev pub scan : ℕ → ℕ → Block → ℕ → List Block → List Mark → Bool
scan e s w k values [] = is_mix values w
scan e s w k values (Bar ∷ marks) = if k == e then is_mix values w else scan e s w (k + 1) values marks
scan e s w k values (PutMark put ∷ marks) =
    if put.sector == s then
    (if nat_lt k e then scan e s w k (put.value ∷ []) marks
    else (if put.reliable then is_mix values w || scan e s w k (put.value ∷ []) marks else scan e s w k (values ++ put.value ∷ []) marks))
    else scan e s w k values marks

pub early_none : (e k : ℕ) (marks : List Mark) → e ≤ k → early e (numbered k marks) ≡ []
early_none e k [] h = refl
early_none e k (PutMark put ∷ marks) h = rw (le-ltb k e h) (early_none e k marks h)
early_none e k (Bar ∷ marks) h = early_none e (k + 1) marks (omega arith)

pub own_none : (e s k : ℕ) (marks : List Mark) → e < k → own e s (numbered k marks) ≡ []
own_none e s k [] h = refl
own_none e s k (PutMark put ∷ marks) h = rw (ne_eqb k e (omega arith)) (own_none e s k marks h)
own_none e s k (Bar ∷ marks) h = own_none e s (k + 1) marks (omega arith)

-- within epoch e
pub scan_own : (e s : ℕ) (w : Block) (values : List Block) (marks : List Mark) → scan e s w e values marks ≡ is_mix_of_segment (segments values (own e s (numbered e marks))) w
scan_own e s w values [] = sym (or-false (is_mix values w))
scan_own e s w values (Bar ∷ marks) = rw (eq-eqb e e refl, own_none e s (e + 1) marks (omega arith)) (sym (or-false (is_mix values w)))
scan_own e s w values (PutMark put ∷ marks) =
    elim (cases_Bool (put.sector == s)) [
      | inl same ↦ elim (cases_Bool put.reliable) [
        | inl reliable ↦ rw (eq-eqb e e refl, same, le-ltb e e (omega arith), reliable) (ap (λ b. is_mix values w || b) (scan_own e s w (put.value ∷ []) marks))
        | inr ordinary ↦ rw (eq-eqb e e refl, same, le-ltb e e (omega arith), ordinary) (scan_own e s w (values ++ put.value ∷ []) marks)
      ]
      | inr other ↦ rw (eq-eqb e e refl, other) (scan_own e s w values marks)
    ]

-- from before epoch e on, where c are the contents so far
scan_here : (e s : ℕ) (w : Block) (k : ℕ) (c : List Block) (v : Block) (marks : List Mark) → k ≡ e → v ≡ sector_at c s
    → scan e s w k (v ∷ []) marks ≡ is_mix_of_segment (segments (sector_at (put_all c (early e (numbered k marks))) s ∷ []) (own e s (numbered k marks))) w
scan_here e s w k c v marks here is = rw (here, is, early_none e e marks (omega arith)) (scan_own e s w (sector_at c s ∷ []) marks)

scan_before : (e s : ℕ) (w : Block) (k : ℕ) (c : List Block) (v : Block) (marks : List Mark) → k < e → s < length c → v ≡ sector_at c s
    → scan e s w k (v ∷ []) marks ≡ is_mix_of_segment (segments (sector_at (put_all c (early e (numbered k marks))) s ∷ []) (own e s (numbered k marks))) w
scan_before e s w k c v [] before inside is = rw is (sym (or-false (is_mix (sector_at c s ∷ []) w)))
scan_before e s w k c v (Bar ∷ marks) before inside is =
    rw (ne_eqb k e (omega arith)) (elim (cases_lt (k + 1) e) [
      | inl still ↦ scan_before e s w (k + 1) c v marks still inside is
      | inr now ↦ scan_here e s w (k + 1) c v marks (omega arith) is
    ])
scan_before e s w k c v (PutMark put ∷ marks) before inside is =
    elim (cases_Bool (put.sector == s)) [
      | inl same ↦ rw (lt-ltb k e before, ne_eqb k e (omega arith), same)
          (scan_before e s w k (put_on c put) put.value marks before (rw (length-set c put.sector put.value) inside) (sym (sector_put_same c put s inside same)))
      | inr other ↦ rw (lt-ltb k e before, ne_eqb k e (omega arith), other)
          (scan_before e s w k (put_on c put) v marks before (rw (length-set c put.sector put.value) inside) (is ∙ sym (sector_put_other c put s other)))
    ]

pub scan_whole : (e s : ℕ) (w : Block) (base : List Block) (v : Block) (pend : List Mark) → s < length base → v ≡ sector_at base s → scan e s w 0 (v ∷ []) pend ≡ mix_at base pend e s w
unfolding mix_at before_epoch puts_at
scan_whole e s w base v pend inside is =
    elim (cases_lt 0 e) [
      | inl before ↦ scan_before e s w 0 base v pend before inside is
      | inr now ↦ scan_here e s w 0 base v pend (omega arith) is
    ]

-- How far a pass has come: the answer that is sought is that from the marks that are left.
pub record Scanned (e s : ℕ) (w : Block) (k : ℕ) (cover : List Bool) (marks : List Mark) (answer : Bool) : Type 0 where
  pub within : k ≤ e
  pub values : List Block
  pub covers : Covers cover values w
  pub rest : scan e s w k values marks ≡ answer

pub scanned_start : (e s : ℕ) (w : Block) (cover : List Bool) (base : List Block) (v : Block) (pend : List Mark) → s < length base → v ≡ sector_at base s → Covers cover (v ∷ []) w → Scanned e s w 0 cover pend (mix_at base pend e s w)
scanned_start e s w cover base v pend inside is covers = record { within = omega arith; values = v ∷ []; covers = covers; rest = scan_whole e s w base v pend inside is }

pub scanned_bar : {e s : ℕ} {w : Block} {k : ℕ} {cover : List Bool} {marks more : List Mark} {answer : Bool} → marks ≡ Bar ∷ more → (k ≢ e) → Scanned e s w k cover marks answer → Scanned e s w (k + 1) cover more answer
scanned_bar {e} {s} {w} {k} {cover} {marks} {more} {answer} next ahead h = record {
  within = omega arith;
  values = h.values;
  covers = h.covers;
  rest = let at : scan e s w k h.values (Bar ∷ more) ≡ answer = rw next at h.rest in rw (ne_eqb k e ahead) at at;
}

pub scanned_other : {e s : ℕ} {w : Block} {k : ℕ} {cover : List Bool} {marks more : List Mark} {answer : Bool} (put : Put) → marks ≡ PutMark put ∷ more → (put.sector ≢ s) → Scanned e s w k cover marks answer → Scanned e s w k cover more answer
scanned_other {e} {s} {w} {k} {cover} {marks} {more} {answer} put next other h = record {
  within = h.within;
  values = h.values;
  covers = h.covers;
  rest = let at : scan e s w k h.values (PutMark put ∷ more) ≡ answer = rw next at h.rest in rw (ne_eqb put.sector s other) at at;
}

pub scanned_early : {e s : ℕ} {w : Block} {k : ℕ} {cover cover' : List Bool} {marks more : List Mark} {answer : Bool} (put : Put) → marks ≡ PutMark put ∷ more → put.sector ≡ s → k < e → Covers cover' (put.value ∷ []) w
    → Scanned e s w k cover marks answer → Scanned e s w k cover' more answer
scanned_early {e} {s} {w} {k} {cover} {cover'} {marks} {more} {answer} put next same before covers h = record {
  within = h.within;
  values = put.value ∷ [];
  covers = covers;
  rest = let at : scan e s w k h.values (PutMark put ∷ more) ≡ answer = rw next at h.rest in rw (eq-eqb put.sector s same, lt-ltb k e before) at at;
}

pub scanned_ordinary : {e s : ℕ} {w : Block} {k : ℕ} {cover cover' : List Bool} {marks more : List Mark} {answer : Bool} (put : Put) → marks ≡ PutMark put ∷ more → put.sector ≡ s → e ≤ k → put.reliable ≡ false
    → ((values : List Block) → Covers cover values w → Covers cover' (values ++ put.value ∷ []) w)
    → Scanned e s w k cover marks answer → Scanned e s w k cover' more answer
scanned_ordinary {e} {s} {w} {k} {cover} {cover'} {marks} {more} {answer} put next same here ordinary added h = record {
  within = h.within;
  values = h.values ++ put.value ∷ [];
  covers = added h.values h.covers;
  rest = let at : scan e s w k h.values (PutMark put ∷ more) ≡ answer = rw next at h.rest in rw (eq-eqb put.sector s same, le-ltb k e here, ordinary) at at;
}

-- at a reliable put the segment so far is tried
pub scanned_tried : {e s : ℕ} {w : Block} {k : ℕ} {cover : List Bool} {marks more : List Mark} {answer : Bool} (put : Put) (full : Bool) → marks ≡ PutMark put ∷ more → put.sector ≡ s → e ≤ k → put.reliable ≡ true
    → ((values : List Block) (left : Block) → Covers cover values left → full ≡ is_mix values left) → Scanned e s w k cover marks answer
    → (full || scan e s w k (put.value ∷ []) more) ≡ answer
scanned_tried {e} {s} {w} {k} {cover} {marks} {more} {answer} put full next same here reliable filled h =
    let at : scan e s w k h.values (PutMark put ∷ more) ≡ answer = rw next at h.rest in
    let split : (is_mix h.values w || scan e s w k (put.value ∷ []) more) ≡ answer = rw (eq-eqb put.sector s same, le-ltb k e here, reliable) at at in
    rw (filled h.values w h.covers) split

pub scanned_reliable : {e s : ℕ} {w : Block} {k : ℕ} {cover cover' : List Bool} {marks more : List Mark} {answer : Bool} (put : Put) (full : Bool) → marks ≡ PutMark put ∷ more → put.sector ≡ s → e ≤ k → put.reliable ≡ true
    → ((values : List Block) (left : Block) → Covers cover values left → full ≡ is_mix values left) → full ≡ false → Covers cover' (put.value ∷ []) w
    → Scanned e s w k cover marks answer → Scanned e s w k cover' more answer
scanned_reliable put full next same here reliable filled not_full covers h = record {
  within = h.within;
  values = put.value ∷ [];
  covers = covers;
  rest = rw not_full at (scanned_tried put full next same here reliable filled h);
}

pub scanned_found : {e s : ℕ} {w : Block} {k : ℕ} {cover : List Bool} {marks more : List Mark} {answer : Bool} (put : Put) (full : Bool) → marks ≡ PutMark put ∷ more → put.sector ≡ s → e ≤ k → put.reliable ≡ true
    → ((values : List Block) (left : Block) → Covers cover values left → full ≡ is_mix values left) → full ≡ true → Scanned e s w k cover marks answer → true ≡ answer
scanned_found put full next same here reliable filled is_full h = rw is_full at (scanned_tried put full next same here reliable filled h)

-- the epoch's end, and that of the marks
pub scanned_barred : {e s : ℕ} {w : Block} {k : ℕ} {cover : List Bool} {marks more : List Mark} {answer : Bool} (full : Bool) → marks ≡ Bar ∷ more → k ≡ e
    → ((values : List Block) (left : Block) → Covers cover values left → full ≡ is_mix values left) → Scanned e s w k cover marks answer → full ≡ answer
scanned_barred {e} {s} {w} {k} {cover} {marks} {more} {answer} full next here filled h =
    let at : scan e s w k h.values (Bar ∷ more) ≡ answer = rw next at h.rest in
    let ended : is_mix h.values w ≡ answer = rw (eq-eqb k e here) at at in
    filled h.values w h.covers ∙ ended

pub scanned_end : {e s : ℕ} {w : Block} {k : ℕ} {cover : List Bool} {marks : List Mark} {answer : Bool} (full : Bool) → marks ≡ []
    → ((values : List Block) (left : Block) → Covers cover values left → full ≡ is_mix values left) → Scanned e s w k cover marks answer → full ≡ answer
scanned_end {e} {s} {w} {k} {cover} {marks} {answer} full none filled h =
    let ended : is_mix h.values w ≡ answer = rw none at h.rest in
    filled h.values w h.covers ∙ ended
