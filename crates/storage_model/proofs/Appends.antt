-- A mark at the end: what it changes of the contents, the epochs and what may be left.
use Rattle.std.proofs.Common.{◌≡◌, ◌≢◌, ℕ, ◌+◌, ◌<◌, ◌≤◌, inl, inr, Bool, true, false, ◌&&◌, ◌==◌, nat_lt, List, [], ◌∷◌, ◌++◌, filter, map, length, refl, sym, ap, ◌∙◌, arith}
use Rattle.std.proofs.Math.ListN.{length-set}
use Rattle.std.proofs.lemmas.Bool.{cases_Bool, lt-ltb, eq-eqb, ne_eqb}
use Rattle.std.proofs.lemmas.List.{append-nil, map-append}
use Rattle.std.proofs.lemmas.List.Elements.{filter-append}
use Rattle.std.proofs.lemmas.List.Sums.{fold-append}
use Rattle.storage_model.proofs.Scans.{early_none, own, own_none}
use Rattle.storage_model.specs.Contents.{EpochPut, bars, before_epoch, contents_now, mark_on, numbered, put_all, put_on, puts_at, puts_if}
use Rattle.storage_model.specs.declared.block.Block.{Block}
use Rattle.storage_model.specs.declared.marks.Put.{Put}
use Rattle.storage_model.specs.declared.marks.Mark.{Mark}
use Rattle.storage_model.specs.declared.marks.Mark.TheVariants.{Put as PutMark, Bar}

-- lengths

pub length-put_all : (base : List Block) (puts : List Put) → length (put_all base puts) ≡ length base
length-put_all base [] = refl
length-put_all base (put ∷ puts) = length-put_all (put_on base put) puts ∙ length-set base put.sector put.value

pub length-before_epoch : (e : ℕ) (base : List Block) (pend : List Mark) → length (before_epoch e base pend) ≡ length base
unfolding before_epoch
length-before_epoch e base pend = length-put_all base (puts_if (λ q. nat_lt q.epoch e) pend)

-- two lists of marks, one after the other

pub bars-append : (xs ys : List Mark) → bars (xs ++ ys) ≡ bars xs + bars ys
bars-append [] ys = omega arith
bars-append (PutMark put ∷ xs) ys = bars-append xs ys
bars-append (Bar ∷ xs) ys = let rest = bars-append xs ys in omega arith

pub numbered-append : (e : ℕ) (xs ys : List Mark) → numbered e (xs ++ ys) ≡ numbered e xs ++ numbered (e + bars xs) ys
numbered-append e [] ys = let none : e + 0 ≡ e = omega arith in rw none refl
numbered-append e (PutMark put ∷ xs) ys = ap (λ qs. record { epoch = e; put = put } ∷ qs) (numbered-append e xs ys)
numbered-append e (Bar ∷ xs) ys = let more : e + (bars xs + 1) ≡ e + 1 + bars xs = omega arith in rw more (numbered-append (e + 1) xs ys)

pub puts_if-append : (test : EpochPut → Bool) (xs ys : List Mark) → puts_if test (xs ++ ys) ≡ puts_if test xs ++ map (λ (q : EpochPut). q.put) (filter test (numbered (bars xs) ys))
puts_if-append test xs ys =
    let start : 0 + bars xs ≡ bars xs = omega arith in
    rw (numbered-append 0 xs ys, start, filter-append, map-append) refl

-- the contents now

pub contents_now-none : (base : List Block) → contents_now base [] ≡ base
unfolding contents_now
contents_now-none base = refl

pub contents_now-append : (base : List Block) (xs ys : List Mark) → contents_now base (xs ++ ys) ≡ contents_now (contents_now base xs) ys
unfolding contents_now
contents_now-append base xs ys = fold-append mark_on base xs ys

pub contents_now-put : (base : List Block) (pend : List Mark) (put : Put) → contents_now base (pend ++ PutMark put ∷ []) ≡ put_on (contents_now base pend) put
unfolding contents_now
contents_now-put base pend put = fold-append mark_on base pend (PutMark put ∷ [])

pub contents_now-bar : (base : List Block) (pend : List Mark) → contents_now base (pend ++ Bar ∷ []) ≡ contents_now base pend
unfolding contents_now
contents_now-bar base pend = fold-append mark_on base pend (Bar ∷ [])

pub length-contents_now : (base : List Block) (pend : List Mark) → length (contents_now base pend) ≡ length base
unfolding contents_now
length-contents_now base [] = refl
length-contents_now base (PutMark put ∷ pend) = length-contents_now (put_on base put) pend ∙ length-set base put.sector put.value
length-contents_now base (Bar ∷ pend) = length-contents_now base pend

-- all puts, whatever their epochs are

pub contents_now-numbered : (base : List Block) (e : ℕ) (pend : List Mark) → contents_now base pend ≡ put_all base (map (λ (q : EpochPut). q.put) (numbered e pend))
unfolding contents_now
contents_now-numbered base e [] = refl
contents_now-numbered base e (PutMark put ∷ pend) = contents_now-numbered (put_on base put) e pend
contents_now-numbered base e (Bar ∷ pend) = contents_now-numbered base (e + 1) pend

-- epochs in front of a mark are as they were

pub early_all : (e k : ℕ) (marks : List Mark) → k + bars marks < e → filter (λ q. nat_lt q.epoch e) (numbered k marks) ≡ numbered k marks
early_all e k [] h = refl
early_all e k (PutMark put ∷ marks) h = rw (lt-ltb k e (omega arith)) (ap (λ qs. record { epoch = k; put = put } ∷ qs) (early_all e k marks h))
early_all e k (Bar ∷ marks) h = early_all e (k + 1) marks (omega arith)

pub before_epoch-first : (base : List Block) (pend : List Mark) → before_epoch 0 base pend ≡ base
unfolding before_epoch
before_epoch-first base pend = rw (early_none 0 0 pend (omega arith)) refl

pub before_epoch-past : (e : ℕ) (base : List Block) (pend : List Mark) → bars pend < e → before_epoch e base pend ≡ contents_now base pend
unfolding before_epoch
before_epoch-past e base pend h = rw (early_all e 0 pend (omega arith)) (sym (contents_now-numbered base 0 pend))

-- The marks up to a mark, and those behind it: an epoch of the first part is what it was.

early_end : (e k : ℕ) (xs ys : List Mark) → e ≤ k + bars xs → map (λ (q : EpochPut). q.put) (filter (λ q. nat_lt q.epoch e) (numbered k (xs ++ ys))) ≡ map (λ (q : EpochPut). q.put) (filter (λ q. nat_lt q.epoch e) (numbered k xs))
early_end e k xs ys h =
    rw (numbered-append k xs ys, filter-append, map-append, early_none e (k + bars xs) ys h, append-nil) refl

pub before_epoch-append : (e : ℕ) (base : List Block) (xs ys : List Mark) → e ≤ bars xs → before_epoch e base (xs ++ ys) ≡ before_epoch e base xs
unfolding before_epoch
before_epoch-append e base xs ys h = ap (put_all base) (early_end e 0 xs ys (omega arith))

-- behind a bar

pub puts_at-append : (e s : ℕ) (xs ys : List Mark) → puts_at e s (xs ++ ys) ≡ puts_at e s xs ++ map (λ (q : EpochPut). q.put) (filter (λ q. (q.epoch == e) && (q.put.sector == s)) (numbered (bars xs) ys))
unfolding puts_at
puts_at-append e s xs ys = puts_if-append (λ q. (q.epoch == e) && (q.put.sector == s)) xs ys

pub puts_at-bar : (e s : ℕ) (xs ys : List Mark) → e ≤ bars xs → puts_at e s (xs ++ Bar ∷ ys) ≡ puts_at e s xs
puts_at-bar e s xs ys h = rw (puts_at-append e s xs (Bar ∷ ys), own_none e s (bars xs + 1) ys (omega arith), append-nil) refl

pub puts_at-put : (e s : ℕ) (pend : List Mark) (put : Put) → e ≡ bars pend → (put.sector == s) ≡ true → puts_at e s (pend ++ PutMark put ∷ []) ≡ puts_at e s pend ++ put ∷ []
puts_at-put e s pend put last same = rw (puts_at-append e s pend (PutMark put ∷ []), eq-eqb (bars pend) e (sym last), same) refl

pub puts_at-put_elsewhere : (e s : ℕ) (pend : List Mark) (put : Put) → (put.sector == s) ≡ false → puts_at e s (pend ++ PutMark put ∷ []) ≡ puts_at e s pend
puts_at-put_elsewhere e s pend put other =
    elim (cases_Bool (bars pend == e)) [
      | inl here ↦ rw (puts_at-append e s pend (PutMark put ∷ []), here, other, append-nil) refl
      | inr past ↦ rw (puts_at-append e s pend (PutMark put ∷ []), past, append-nil) refl
    ]

pub puts_at-put_past : (e s : ℕ) (pend : List Mark) (put : Put) → (e ≢ bars pend) → puts_at e s (pend ++ PutMark put ∷ []) ≡ puts_at e s pend
puts_at-put_past e s pend put past = rw (puts_at-append e s pend (PutMark put ∷ []), ne_eqb (bars pend) e (λ h. past (sym h)), append-nil) refl

-- the epoch that a bar begins is empty
pub own_past : (e s k : ℕ) (marks : List Mark) → k + bars marks < e → own e s (numbered k marks) ≡ []
own_past e s k [] h = refl
own_past e s k (PutMark put ∷ marks) h = rw (ne_eqb k e (omega arith)) (own_past e s k marks (omega arith))
own_past e s k (Bar ∷ marks) h = own_past e s (k + 1) marks (omega arith)

pub puts_at-past : (e s : ℕ) (pend : List Mark) → bars pend < e → puts_at e s pend ≡ []
unfolding puts_at
puts_at-past e s pend h = own_past e s 0 pend (omega arith)
