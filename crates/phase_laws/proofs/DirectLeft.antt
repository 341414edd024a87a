-- What a direct command leaves of contents and marks.
use Rattle.std.proofs.Common.{◌≡◌, ◌⊎◌, ◌<◌, ◌≤◌, ◌+◌, ◌++◌, ◌||◌, ℕ, refl, sym, ◌∙◌, ap, subst, arith, inl, inr, append-nil}
use Rattle.std.specs.Prelude.{Bool, true, false, not, cond, min, nat_lt, None, IfSome, is_some, length, List, [], ◌∷◌, All}
use Rattle.std.proofs.lemmas.Bool.{and_cases, cases_lt, eq-eqb, false≢true, le-leb, le-ltb, lt-ltb, ne_eqb, not-false, or_parts}
use Rattle.std.proofs.lemmas.Bool.Decides.{eqb_tells}
use Rattle.std.proofs.lemmas.List.Elements.{All-append, All-cons, All-nil}
use Rattle.array_edge.specs.Array.{ArrayState}
use Rattle.card_core.specs.Card.{CardState}
use Rattle.card_store.specs.Store.{Contents, IsStore, Stands as StoreStands, Turns, kept as keeps, same, with_bar}
use Rattle.cut_order.specs.Order.{OrderState}
use Rattle.epoch_cache.specs.Cache.{next_epoch}
use Rattle.intent_store.specs.Intent.{shown_by}
use Rattle.storage_machine.specs.Jobs.{is_direct, is_in_range, may_keep, may_move, must_keep, phase_blocks}
use Rattle.storage_machine.specs.declared.state.State.{State}
use Rattle.storage_model.proofs.Durable.{keep_pend-every, length-keep_base}
use Rattle.storage_model.specs.Contents.{IsWithin}
use Rattle.storage_model.specs.Keep.{every_sector, keep_base, keep_pend}
use Rattle.storage_model.specs.declared.block.Block.{Block}
use Rattle.storage_model.specs.declared.marks.Mark.{Mark}
use Rattle.storage_model.specs.declared.marks.Mark.TheVariants.{Bar}
use Rattle.storage_model.specs.declared.plan.Job.{Job}
use Rattle.storage_model.specs.declared.plan.Job.TheVariants.{Read, Write, Flush, Barrier, Status}
use Rattle.trace_effects.specs.Cuts.{places_of}
use Rattle.trace_effects.specs.Phases.{bars_with, is_empty, marks_of}
use Rattle.world_state.specs.Path.{PathState, plan_of, under_way}
use Rattle.world_state.specs.Reading.{Context, state_of}
use Rattle.world_state.specs.Stands.{Agrees, contents_of, marks_moved_by}
use Rattle.phase_laws.proofs.Few.{more_places, plain_pages}
use Rattle.phase_laws.proofs.Phased.{base_after, kept_after, pend_after}
use Rattle.phase_laws.proofs.StopTells.{empty_is}

abbrev pub contents_with : List Block → List Mark → Contents
contents_with base pend = record { base = base; pend = pend }

-- where no data phase is under way, the contents are those that are told
pub bare : (p : PathState) (k : Context) → under_way p ≡ None → contents_of p k ≡ contents_with k.base k.pend
bare p k way =
    ap (λ v. contents_with k.base (k.pend ++ marks_moved_by p v)) way ∙ ap (contents_with k.base) (append-nil k.pend)

-- what contents and marks have to be of a card and an array
pub record LeftFor (lines : ℕ) (through staged : Bool) (unkept : Type 0) (base : List Block) (pend : List Mark) (card : CardState) (a' : ArrayState) : Type 0 where
  pub stands : StoreStands (contents_with base pend) card.store a'
  pub within : All (IsWithin base) pend
  pub few : length base ≤ 65536
  pub deferred : through ≡ false → staged ≡ false → unkept → length (places_of pend) < lines → IfSome (shown_by a') (λ pages. pages ≡ base)

abbrev pub LeftSo : PathState → ArrayState → CardState → State → Bool → Job → ℕ → Bool → Type 0
LeftSo p a' card b staged j count kept =
    LeftFor (plan_of p).lines (plan_of p).through staged (kept_after b j count kept ≡ false) (base_after b j count kept) (pend_after b j count kept) card a'

pub record DirectLeft (p : PathState) (a : ArrayState) (j : Job) (count : ℕ) (kept : Bool) (card : CardState) (a' : ArrayState) : Type 0 where
  pub last : card.store.cache.last ≡ bars_with p.card.store.cache.last j
  pub told : is_some a'.told ≡ is_some a.told
  pub left : (o : OrderState) (k : Context) → Agrees p a k → LeftSo p a' card (state_of p o k) k.staged j count kept
  pub few : may_move j 1 count ≡ true
  pub keeps : (through : Bool) → may_keep through j count kept ≡ true

-- ---- where contents and marks stay

still_left : (p : PathState) (a : ArrayState) (j : Job) (count : ℕ) (card : CardState) (a' : ArrayState) (o : OrderState) (k : Context) → under_way p ≡ None
    → marks_of (state_of p o k) j count ≡ [] → Turns same p.card.store a card.store a' → IsStore card.store → is_some a'.told ≡ is_some a.told
    → (must_keep (plan_of p).through j ≡ true) ⊎ (shown_by a' ≡ shown_by a) → Agrees p a k → LeftSo p a' card (state_of p o k) k.staged j count false
unfolding state_of
still_left p a j count card a' o k way marks turns store told kind h =
    let b : State = state_of p o k in
    let alike : pend_after b j count false ≡ k.pend = ap (λ ms. k.pend ++ ms) marks ∙ append-nil k.pend in
    let stands : StoreStands (contents_with k.base k.pend) card.store a' =
    turns (contents_with k.base k.pend) (subst (λ v. StoreStands v p.card.store a) (bare p k way) h.store) in
    let unkept : Type 0 = kept_after b j count false ≡ false in
    subst (λ (ms : List Mark). LeftFor (plan_of p).lines (plan_of p).through k.staged unkept k.base ms card a') (sym alike)
    (record {
      stands = stands;
      within = h.within;
      few = h.few;
      deferred = λ through staged free fewer.
          elim (and_cases (not (is_empty (pend_after b j count false))) (k.kept || must_keep (plan_of p).through j) free) [
            | inl none ↦
                let no : k.pend ≡ [] = sym alike ∙ empty_is (pend_after b j count false) (not-false (is_empty (pend_after b j count false)) none) in
                plain_pages k.base card.store a' store (told ∙ h.told) (subst (λ v. StoreStands (contents_with k.base v) card.store a') no stands)
            | inr some ↦
                let parts = or_parts k.kept (must_keep (plan_of p).through j) some in
                elim kind [
                  | inl must ↦ absurd (false≢true (sym parts.1 ∙ must))
                  | inr shown ↦
                      subst (λ v. IfSome v (λ pages. pages ≡ k.base)) (sym shown)
                      (h.deferred through staged parts.0 (subst (λ v. length (places_of v.pend) < (plan_of p).lines) (sym (bare p k way)) fewer))
                ]
          ];
    })

-- a status
pub status_left : (p : PathState) (a : ArrayState) (card : CardState) (a' : ArrayState) → under_way p ≡ None → card.store ≡ p.card.store → a' ≡ a
    → IsStore card.store → DirectLeft p a Status 1 false card a'
status_left p a card a' way same_store same_array store = record {
  last = ap (λ s. s.cache.last) same_store;
  told = ap (λ v. is_some v.told) same_array;
  left = λ o k h.
      still_left p a Status 1 card a' o k way refl
      (λ c stands. subst (λ v. StoreStands c v a') (sym same_store) (subst (λ v. StoreStands c p.card.store v) (sym same_array) stands))
      store (ap (λ v. is_some v.told) same_array) (inr (ap shown_by same_array)) h;
  few = refl;
  keeps = λ through. refl;
}

-- a flush that failed
pub unflushed_left : (p : PathState) (a : ArrayState) (card : CardState) (a' : ArrayState) → under_way p ≡ None
    → card.store.cache.last ≡ p.card.store.cache.last → is_some a'.told ≡ is_some a.told
    → Turns same p.card.store a card.store a' → IsStore card.store → DirectLeft p a Flush 0 false card a'
unflushed_left p a card a' way last told turns store = record {
  last = last;
  told = told;
  left = λ o k h. still_left p a Flush 0 card a' o k way refl turns store told (inl refl) h;
  few = refl;
  keeps = λ through. refl;
}

-- ---- a flush

flush_left : (p : PathState) (a : ArrayState) (card : CardState) (a' : ArrayState) (o : OrderState) (k : Context) → under_way p ≡ None
    → Turns (keeps every_sector) p.card.store a card.store a' → IsStore card.store → is_some a'.told ≡ is_some a.told → Agrees p a k
    → LeftSo p a' card (state_of p o k) k.staged Flush 1 true
unfolding state_of
flush_left p a card a' o k way turns store told h =
    let unkept : Type 0 = kept_after (state_of p o k) Flush 1 true ≡ false in
    let L : List Mark → Type 0 =
    λ ms. LeftFor (plan_of p).lines (plan_of p).through k.staged unkept (keep_base every_sector k.base ms) (keep_pend every_sector ms) card a' in
    let stands : StoreStands (keeps every_sector (contents_with k.base k.pend)) card.store a' =
    turns (contents_with k.base k.pend) (subst (λ v. StoreStands v p.card.store a) (bare p k way) h.store) in
    let none : keep_pend every_sector k.pend ≡ [] = keep_pend-every k.pend in
    let base : List Block = keep_base every_sector k.base k.pend in
    let few = h.few in
    let long = length-keep_base every_sector k.base k.pend in
    subst L (sym (append-nil k.pend))
    (record {
      stands = stands;
      within = subst (λ (ms : List Mark). All (IsWithin base) ms) (sym none) (All-nil (IsWithin base));
      few = omega (arith, few, long);
      deferred = λ through staged free fewer.
          plain_pages base card.store a' store (told ∙ h.told) (subst (λ v. StoreStands (contents_with base v) card.store a') none stands);
    })

pub flushed_left : (p : PathState) (a : ArrayState) (card : CardState) (a' : ArrayState) → under_way p ≡ None
    → card.store.cache.last ≡ p.card.store.cache.last → is_some a'.told ≡ is_some a.told
    → Turns (keeps every_sector) p.card.store a card.store a' → IsStore card.store → DirectLeft p a Flush 1 true card a'
flushed_left p a card a' way last told turns store = record {
  last = last;
  told = told;
  left = λ o k h. flush_left p a card a' o k way turns store told h;
  few = refl;
  keeps = λ through. refl;
}

-- ---- a barrier

abbrev bar_after : ℕ → List Mark
bar_after last = cond (nat_lt last 4294967295) (Bar ∷ []) []

bar_contents : (last : ℕ) (base : List Block) (pend : List Mark) → last ≤ 4294967295
    → with_bar last (contents_with base pend) ≡ contents_with base (pend ++ bar_after last)
bar_contents last base pend low =
    let c : Contents = contents_with base pend in
    let more : Contents = contents_with base (pend ++ Bar ∷ []) in
    elim (eqb_tells last 4294967295) [
      | inl e ↦
          let past : nat_lt last 4294967295 ≡ false = let top = e.1 in le-ltb last 4294967295 (omega (arith, top)) in
          ap (λ b. cond b c more) (eq-eqb last 4294967295 e.1)
          ∙ sym (ap (λ b. contents_with base (pend ++ cond b (Bar ∷ []) [])) past ∙ ap (contents_with base) (append-nil pend))
      | inr e ↦
          let less : last < 4294967295 = elim (cases_lt last 4294967295) [ inl x ↦ x | inr x ↦ absurd (e.1 (omega (arith, low, x))) ] in
          ap (λ b. cond b c more) (ne_eqb last 4294967295 e.1)
          ∙ sym (ap (λ b. contents_with base (pend ++ cond b (Bar ∷ []) [])) (lt-ltb last 4294967295 less))
    ]

next_so : (last : ℕ) → last ≤ 4294967295 → next_epoch last ≡ min (last + 1) 4294967295
next_so last low =
    elim (eqb_tells last 4294967295) [
      | inl e ↦
          let top = e.1 in
          let so : last ≡ min (last + 1) 4294967295 = omega (arith, top) in
          ap (λ b. cond b last (last + 1)) (eq-eqb last 4294967295 e.1) ∙ so
      | inr e ↦
          let less : last < 4294967295 = elim (cases_lt last 4294967295) [ inl x ↦ x | inr x ↦ absurd (e.1 (omega (arith, low, x))) ] in
          let so : last + 1 ≡ min (last + 1) 4294967295 = omega (arith, less) in
          ap (λ b. cond b last (last + 1)) (ne_eqb last 4294967295 e.1) ∙ so
    ]

bar_within : (base : List Block) (b : Bool) → All (IsWithin base) (cond b (Bar ∷ []) [])
bar_within base true = All-cons (IsWithin base) Bar [] tt (All-nil (IsWithin base))
bar_within base false = All-nil (IsWithin base)

bar_left : (p : PathState) (a : ArrayState) (card : CardState) (a' : ArrayState) (o : OrderState) (k : Context) → under_way p ≡ None
    → p.card.store.cache.last ≤ 4294967295 → Turns (with_bar p.card.store.cache.last) p.card.store a card.store a' → IsStore card.store → a' ≡ a → Agrees p a k
    → LeftSo p a' card (state_of p o k) k.staged Barrier 1 false
unfolding state_of
bar_left p a card a' o k way low turns store array h =
    let last : ℕ = p.card.store.cache.last in
    let ms : List Mark = k.pend ++ bar_after last in
    let stands : StoreStands (contents_with k.base ms) card.store a' =
    subst (λ v. StoreStands v card.store a') (bar_contents last k.base k.pend low)
    (turns (contents_with k.base k.pend) (subst (λ v. StoreStands v p.card.store a) (bare p k way) h.store)) in
    record {
      stands = stands;
      within = All-append (IsWithin k.base) k.pend (bar_after last) h.within (bar_within k.base (nat_lt last 4294967295));
      few = h.few;
      deferred = λ through staged free fewer.
          elim (and_cases (not (is_empty ms)) (k.kept || false) free) [
            | inl none ↦
                let no : ms ≡ [] = empty_is ms (not-false (is_empty ms) none) in
                plain_pages k.base card.store a' store (ap (λ v. is_some v.told) array ∙ h.told) (subst (λ v. StoreStands (contents_with k.base v) card.store a') no stands)
            | inr some ↦
                let parts = or_parts k.kept false some in
                let fewest = more_places k.pend (bar_after last) in
                let less : length (places_of k.pend) < (plan_of p).lines = omega (arith, fewest, fewer) in
                subst (λ v. IfSome v (λ pages. pages ≡ k.base)) (sym (ap shown_by array))
                (h.deferred through staged parts.0 (subst (λ v. length (places_of v.pend) < (plan_of p).lines) (sym (bare p k way)) less))
          ];
    }

pub barred_left : (p : PathState) (a : ArrayState) (card : CardState) (a' : ArrayState) → under_way p ≡ None → p.card.store.cache.last ≤ 4294967295
    → card.store.cache.last ≡ next_epoch p.card.store.cache.last
    → Turns (with_bar p.card.store.cache.last) p.card.store a card.store a' → IsStore card.store → a' ≡ a → DirectLeft p a Barrier 1 false card a'
barred_left p a card a' way low last turns store array = record {
  last = last ∙ next_so p.card.store.cache.last low;
  told = ap (λ v. is_some v.told) array;
  left = λ o k h. bar_left p a card a' o k way low turns store array h;
  few = refl;
  keeps = λ through. refl;
}

-- ---- what is asked of its phase

pub direct_blocks : (j : Job) → is_direct j ≡ true → phase_blocks j ≡ 1
direct_blocks (Read sector blocks high) e = absurd (false≢true e)
direct_blocks (Write sector blocks fill forced reliable high) e = absurd (false≢true e)
direct_blocks Flush e = refl
direct_blocks Barrier e = refl
direct_blocks Status e = refl

pub direct_inside : (j : Job) (n : ℕ) → is_direct j ≡ true → is_in_range j n ≡ true
direct_inside (Read sector blocks high) n e = absurd (false≢true e)
direct_inside (Write sector blocks fill forced reliable high) n e = absurd (false≢true e)
direct_inside Flush n e = le-leb 0 n (omega arith)
direct_inside Barrier n e = le-leb 0 n (omega arith)
direct_inside Status n e = le-leb 0 n (omega arith)
