-- The contents from epoch to epoch.
use Rattle.std.proofs.Common.{◌≡◌, ℕ, ◌+◌, ◌<◌, ◌≤◌, inl, inr, suc, zero, nat_lt, ◌==◌, List, [], ◌∷◌, ◌++◌, length, refl, sym, ◌∙◌, arith}
use Rattle.std.proofs.Math.ListN.{length-set}
use Rattle.std.proofs.lemmas.Bool.{cases_Bool, cases_lt, lt-ltb, eq-eqb, ne_eqb}
use Rattle.std.proofs.lemmas.List.{append-nil}
use Rattle.storage_model.proofs.Appends.{before_epoch-past, puts_at-append, puts_if-append}
use Rattle.storage_model.proofs.Applied.{sector_put_same, sector_put_other}
use Rattle.storage_model.proofs.Latest.{last_value}
use Rattle.storage_model.proofs.Scans.{early, early_none, own, own_none}
use Rattle.storage_model.specs.Contents.{bars, before_epoch, contents_now, numbered, put_all, put_on, puts_at, sector_at}
use Rattle.storage_model.specs.declared.block.Block.{Block}
use Rattle.storage_model.specs.declared.marks.Mark.{Mark}
use Rattle.storage_model.specs.declared.marks.Mark.TheVariants.{Put as PutMark, Bar}

-- marks from epoch e on: a sector's value after that epoch
after_own : (e s k : ℕ) (c : List Block) (v : Block) (marks : List Mark) → e ≤ k → s < length c → v ≡ sector_at c s
    → sector_at (put_all c (early (e + 1) (numbered k marks))) s ≡ last_value v (own e s (numbered k marks))
after_own e s k c v [] past inside is = sym is
after_own e s k c v (Bar ∷ marks) past inside is = after_own e s (k + 1) c v marks (omega arith) inside is
after_own e s k c v (PutMark put ∷ marks) past inside is =
    let long : s < length (put_on c put) = rw (length-set c put.sector put.value) inside in
    elim (cases_lt e k) [
      | inl later ↦ rw (early_none (e + 1) k (PutMark put ∷ marks) (omega arith), own_none e s k (PutMark put ∷ marks) later) (sym is)
      | inr now ↦
          let same : k ≡ e = omega arith in
          elim (cases_Bool (put.sector == s)) [
            | inl here ↦ rw (lt-ltb k (e + 1) (omega arith), eq-eqb k e same, here) (after_own e s k (put_on c put) put.value marks past long (sym (sector_put_same c put s inside here)))
            | inr there ↦ rw (lt-ltb k (e + 1) (omega arith), eq-eqb k e same, there) (after_own e s k (put_on c put) v marks past long (is ∙ sym (sector_put_other c put s there)))
          ]
    ]

after_from : (e s k : ℕ) (c : List Block) (marks : List Mark) → s < length c
    → sector_at (put_all c (early (e + 1) (numbered k marks))) s ≡ last_value (sector_at (put_all c (early e (numbered k marks))) s) (own e s (numbered k marks))
after_from e s k c [] inside = refl
after_from e s k c (Bar ∷ marks) inside = after_from e s (k + 1) c marks inside
after_from e s k c (PutMark put ∷ marks) inside =
    elim (cases_lt k e) [
      | inl before ↦ rw (lt-ltb k e before, lt-ltb k (e + 1) (omega arith), ne_eqb k e (omega arith)) (after_from e s k (put_on c put) marks (rw (length-set c put.sector put.value) inside))
      | inr now ↦ rw (early_none e k (PutMark put ∷ marks) now) (after_own e s k c (sector_at c s) (PutMark put ∷ marks) now inside refl)
    ]

-- the value after an epoch is the last of its puts, or that before it
pub before_epoch-next : (e : ℕ) (base : List Block) (pend : List Mark) (s : ℕ) → s < length base
    → sector_at (before_epoch (e + 1) base pend) s ≡ last_value (sector_at (before_epoch e base pend) s) (puts_at e s pend)
unfolding before_epoch puts_at
before_epoch-next e base pend s inside = after_from e s 0 base pend inside

pub before_epoch-now : (base : List Block) (pend : List Mark) → before_epoch (bars pend + 1) base pend ≡ contents_now base pend
before_epoch-now base pend = before_epoch-past (bars pend + 1) base pend (omega arith)

-- a bar at the end adds no put

pub before_epoch-bar : (e : ℕ) (base : List Block) (pend : List Mark) → before_epoch e base (pend ++ Bar ∷ []) ≡ before_epoch e base pend
unfolding before_epoch
before_epoch-bar e base pend = rw (puts_if-append (λ q. nat_lt q.epoch e) pend (Bar ∷ []), append-nil) refl

pub puts_at-bar_last : (e s : ℕ) (pend : List Mark) → puts_at e s (pend ++ Bar ∷ []) ≡ puts_at e s pend
puts_at-bar_last e s pend = rw (puts_at-append e s pend (Bar ∷ []), append-nil) refl

-- without puts in the epochs from f to g a sector stays as it was
pub before_epoch-still : (f more : ℕ) (base : List Block) (pend : List Mark) (s : ℕ) → s < length base → ((g : ℕ) → f ≤ g → g < f + more → puts_at g s pend ≡ [])
    → sector_at (before_epoch (f + more) base pend) s ≡ sector_at (before_epoch f base pend) s
before_epoch-still f zero base pend s inside none = let same : f + 0 ≡ f = omega arith in rw same refl
before_epoch-still f (suc more) base pend s inside none =
    let next : f + suc more ≡ f + more + 1 = omega arith in
    rw (next, before_epoch-next (f + more) base pend s inside, none (f + more) (omega arith) (omega arith)) (before_epoch-still f more base pend s inside (λ g from below. none g from (omega arith)))
