-- What a pass over the marks has kept so far, and what is left to keep.
use Rattle.std.proofs.Common.{◌≡◌, ℕ, ◌+◌, ◌≤◌, Bool, true, false, not, List, [], ◌∷◌, ◌++◌, set, map, filter, length, drop, append_assoc}
use Rattle.std.proofs.lemmas.List.{drop_all, append-nil}
use Rattle.storage_model.specs.Contents.{EpochPut, bars, numbered, put_all}
use Rattle.storage_model.specs.Keep.{is_kept, keep_base, keep_pend}
use Rattle.storage_model.specs.declared.block.Block.{Block}
use Rattle.storage_model.specs.declared.marks.Put.{Put}
use Rattle.storage_model.specs.declared.marks.Mark.{Mark}
use Rattle.storage_model.specs.declared.marks.Mark.TheVariants.{Put as PutMark, Bar}

-- contents c after what is kept of the marks, which begin in epoch e
unfoldable pub base_after : ℕ → (ℕ → Bool) → ℕ → List Block → List Mark → List Block
base_after last named e c marks = put_all c (map (λ q. q.put) (filter (is_kept last named) (numbered e marks)))

-- the others before, and then the marks that are not kept
unfoldable pub others_after : ℕ → (ℕ → Bool) → ℕ → List Mark → List Mark → List Mark
others_after last named e others marks = others ++ map PutMark (map (λ (q : EpochPut). q.put) (filter (λ (q : EpochPut). not (is_kept last named q)) (numbered e marks)))

pub base_start : (last : ℕ) (named : ℕ → Bool) (base c : List Block) (pend : List Mark) → last ≡ bars pend → c ≡ base → base_after last named 0 c pend ≡ keep_base named base pend
unfolding base_after keep_base
base_start last named base c pend e f = rw (e, f)

pub others_start : (last : ℕ) (named : ℕ → Bool) (others pend : List Mark) → last ≡ bars pend → others ≡ [] → others_after last named 0 others pend ≡ keep_pend named pend
unfolding others_after keep_pend
others_start last named others pend e f = rw (e, f)

pub base_bar : (last : ℕ) (named : ℕ → Bool) (e : ℕ) (c : List Block) (marks more : List Mark) → marks ≡ Bar ∷ more → base_after last named (e + 1) c more ≡ base_after last named e c marks
unfolding base_after
base_bar last named e c marks more h = rw h

pub others_bar : (last : ℕ) (named : ℕ → Bool) (e : ℕ) (others marks more : List Mark) → marks ≡ Bar ∷ more → others_after last named (e + 1) others more ≡ others_after last named e others marks
unfolding others_after
others_bar last named e others marks more h = rw h

pub base_kept : (last : ℕ) (named : ℕ → Bool) (e e' : ℕ) (c c' : List Block) (put : Put) (marks more : List Mark) → marks ≡ PutMark put ∷ more → is_kept last named (record { epoch = e; put = put }) ≡ true
    → e' ≡ e → c' ≡ set c put.sector put.value → base_after last named e' c' more ≡ base_after last named e c marks
unfolding base_after
base_kept last named e e' c c' put marks more h k same changed = rw (same, changed, h, k)

pub others_kept : (last : ℕ) (named : ℕ → Bool) (e : ℕ) (put : Put) (others marks more : List Mark) → marks ≡ PutMark put ∷ more → is_kept last named (record { epoch = e; put = put }) ≡ true
    → others_after last named e others more ≡ others_after last named e others marks
unfolding others_after
others_kept last named e put others marks more h k = rw (h, k)

pub base_other : (last : ℕ) (named : ℕ → Bool) (e : ℕ) (c : List Block) (put : Put) (marks more : List Mark) → marks ≡ PutMark put ∷ more → is_kept last named (record { epoch = e; put = put }) ≡ false
    → base_after last named e c more ≡ base_after last named e c marks
unfolding base_after
base_other last named e c put marks more h k = rw (h, k)

pub others_other : (last : ℕ) (named : ℕ → Bool) (e : ℕ) (put : Put) (others marks more : List Mark) → marks ≡ PutMark put ∷ more → is_kept last named (record { epoch = e; put = put }) ≡ false
    → others_after last named e (others ++ PutMark put ∷ []) more ≡ others_after last named e others marks
unfolding others_after
others_other last named e put others marks more h k = rw (h, k, append_assoc)

pub base_end : (last : ℕ) (named : ℕ → Bool) (e : ℕ) (c : List Block) (i : ℕ) (pend : List Mark) → length pend ≤ i → base_after last named e c (drop i pend) ≡ c
unfolding base_after
base_end last named e c i pend h = rw (drop_all i pend h)

pub others_end : (last : ℕ) (named : ℕ → Bool) (e : ℕ) (others : List Mark) (i : ℕ) (pend : List Mark) → length pend ≤ i → others_after last named e others (drop i pend) ≡ others
unfolding others_after
others_end last named e others i pend h = rw (drop_all i pend h, append-nil)
