-- What a SWITCH changes, field by field, and the switches that a driver sends.
use Rattle.std.proofs.Common.{◌≡◌, ◌≢◌, ℕ, Bool, true, false, ◌&&◌, List, [], ◌∷◌, ◌⊎◌, inl, inr, refl, sym, ap, subst, ◌∙◌, cond, eqb, arith}
use Rattle.std.specs.Prelude.{Option, Some, None, Result, Ok, Err, IfOk, OnOk, OnErr, find, option_and_then}
use Rattle.std.specs.Option.{option_map}
use Rattle.std.proofs.lemmas.Bool.{and_parts, eqb-true}
use Rattle.cq_words.specs.Fields.{field_of}
use Rattle.cq_words.specs.Table.{number_in}
use Rattle.ext_csd.specs.declared.csd.ExtCsd.{ExtCsd}
use Rattle.ext_csd.specs.declared.field.Field.{Field}
use Rattle.ext_csd.specs.declared.field.Field.TheVariants.{CmdqModeEn, BarrierCtrl, FlushCache, CacheCtrl}
use Rattle.ext_csd.specs.declared.switch.Change.{Change}
use Rattle.ext_csd.specs.declared.switch.Change.TheVariants.{Plain, Flush, Barrier}
use Rattle.ext_csd.specs.declared.switch.SwitchError.{SwitchError}
use Rattle.ext_csd.specs.Table.{all_fields, row_of}
use Rattle.ext_csd.specs.Values.{value_of, flag}
use Rattle.ext_csd.specs.Switch.{access_bits, index_bits, value_bits, writable_at, written, on_or_off, accepted, switched, Switched, ReadsNew, KeepsOthers}

-- ---- the switches of a driver

pub switched-flush : (csd : ExtCsd) → switched csd 0x0320_0101 ≡ Some (record { csd = csd; change = Flush })
unfolding switched writable_at row_of field_of
switched-flush csd = refl

pub switched-barrier : (csd : ExtCsd) → csd.barrier ≡ true → switched csd 0x0320_0201 ≡ Some (record { csd = csd; change = Barrier })
unfolding switched writable_at row_of field_of
switched-barrier csd on = rw on refl

pub switched-barrier_on : (csd : ExtCsd) → switched csd 0x031f_0101 ≡ Some (record { csd = record csd { barrier = true }; change = Plain })
unfolding switched writable_at row_of field_of
switched-barrier_on csd = refl

pub switched-queue_on : (csd : ExtCsd) → switched csd 0x030f_0101 ≡ Some (record { csd = record csd { command_queue = true }; change = Plain })
unfolding switched writable_at row_of field_of
switched-queue_on csd = refl

plain_either : (b : Bool) → cond b Plain Plain ≡ Plain
plain_either true = refl
plain_either false = refl

pub switched-cache_on : (csd : ExtCsd) → switched csd 0x0321_0101 ≡ Some (record { csd = record csd { cache = true }; change = Plain })
unfolding switched writable_at row_of field_of
switched-cache_on csd =
    ap (λ (change : Change). Some (record { csd = record csd { cache = true }; change = change })) (plain_either csd.cache)

-- ---- the field that is found

pick : {X : Type 0} (b : Bool) (y x : X) (rest : Option X) → cond b (Some y) rest ≡ Some x → ((b ≡ true) × (y ≡ x)) ⊎ (rest ≡ Some x)
pick true y x rest e = inl (refl, cc)
pick false y x rest e = inr e

find-true : {X : Type 0} (p : X → Bool) (xs : List X) (x : X) → find p xs ≡ Some x → p x ≡ true
find-true p [] x e = cc
find-true p (y ∷ ys) x e = elim (pick (p y) y x (find p ys) e) [
  | inl here ↦ subst (λ z. p z ≡ true) here.1 here.0
  | inr later ↦ find-true p ys x later
]

found-index : (index : ℕ) (field : Field) → writable_at index ≡ Some field → (row_of field).index ≡ index
unfolding writable_at
found-index index field e =
    eqb-true (row_of field).index index
    (and_parts (row_of field).writable (eqb (row_of field).index index)
    (find-true (λ f. (row_of f).writable && eqb (row_of f).index index) all_fields field e)).1

-- ---- what the new value changes

some_of : {X Y : Type 0} (g : X → Y) (o : Option X) (y : Y) → option_map g o ≡ Some y → (x : X) × (o ≡ Some x) × (g x ≡ y)
some_of g None y e = cc
some_of g (Some x) y e = (x, refl, cc)

flag-on_or_off : (value : ℕ) (on : Bool) → on_or_off value ≡ Some on → flag on ≡ value
flag-on_or_off value on e = elim (pick (eqb value 1) true on (cond (eqb value 0) (Some false) None) e) [
  | inl one ↦ subst (λ b. flag b ≡ value) one.1 (sym (eqb-true value 1 one.0))
  | inr other ↦ elim (pick (eqb value 0) false on None other) [
    | inl nought ↦ subst (λ b. flag b ≡ value) nought.1 (sym (eqb-true value 0 nought.0))
    | inr none ↦ cc
  ]
]

queue-others : (csd : ExtCsd) (on : Bool) (field : Field) → (row_of field).index ≢ 15
    → value_of (record csd { command_queue = on }) field ≡ value_of csd field
unfolding row_of
queue-others csd on CmdqModeEn other = absurd (other refl)
queue-others csd on _ other = refl

barrier-others : (csd : ExtCsd) (on : Bool) (field : Field) → (row_of field).index ≢ 31
    → value_of (record csd { barrier = on }) field ≡ value_of csd field
unfolding row_of
barrier-others csd on BarrierCtrl other = absurd (other refl)
barrier-others csd on _ other = refl

cache-others : (csd : ExtCsd) (on : Bool) (field : Field) → (row_of field).index ≢ 33
    → value_of (record csd { cache = on }) field ≡ value_of csd field
unfolding row_of
cache-others csd on CacheCtrl other = absurd (other refl)
cache-others csd on _ other = refl

flush-same : (csd : ExtCsd) (value : ℕ) (s : Switched) → accepted csd FlushCache value ≡ Some s → csd ≡ s.csd
flush-same csd value s e =
    let barrier : Option Switched = cond (eqb value 2 && csd.barrier) (Some (record { csd = csd; change = Barrier })) None in
    elim (pick (eqb value 1) (record { csd = csd; change = Flush }) s barrier e) [
      | inl flush ↦ ap (λ (t : Switched). t.csd) flush.1
      | inr other ↦ elim (pick (eqb value 2 && csd.barrier) (record { csd = csd; change = Barrier }) s None other) [
        | inl set ↦ ap (λ (t : Switched). t.csd) set.1
        | inr none ↦ cc
      ]
    ]

-- the fields at other indices read as before
accepted-others : (csd : ExtCsd) (target : Field) (value : ℕ) (s : Switched) → accepted csd target value ≡ Some s
    → (field : Field) → (row_of field).index ≢ (row_of target).index → value_of s.csd field ≡ value_of csd field
unfolding row_of
accepted-others csd CmdqModeEn value s e field other =
    let on = some_of _ (on_or_off value) s e in
    subst (λ (t : Switched). value_of t.csd field ≡ value_of csd field) on.2 (queue-others csd on.0 field other)
accepted-others csd BarrierCtrl value s e field other =
    let on = some_of _ (on_or_off value) s e in
    subst (λ (t : Switched). value_of t.csd field ≡ value_of csd field) on.2 (barrier-others csd on.0 field other)
accepted-others csd CacheCtrl value s e field other =
    let on = some_of _ (on_or_off value) s e in
    subst (λ (t : Switched). value_of t.csd field ≡ value_of csd field) on.2 (cache-others csd on.0 field other)
accepted-others csd FlushCache value s e field other =
    subst (λ (t : ExtCsd). value_of t field ≡ value_of csd field) (flush-same csd value s e) refl
accepted-others csd _ value s e field other = cc

-- a field that takes values is known by its index
is_queue : (field : Field) → (row_of field).index ≡ 15 → field ≡ CmdqModeEn
unfolding row_of
is_queue CmdqModeEn e = refl
is_queue _ e = absurd (omega arith)

is_barrier : (field : Field) → (row_of field).index ≡ 31 → field ≡ BarrierCtrl
unfolding row_of
is_barrier BarrierCtrl e = refl
is_barrier _ e = absurd (omega arith)

is_flush : (field : Field) → (row_of field).index ≡ 32 → field ≡ FlushCache
unfolding row_of
is_flush FlushCache e = refl
is_flush _ e = absurd (omega arith)

is_cache : (field : Field) → (row_of field).index ≡ 33 → field ≡ CacheCtrl
unfolding row_of
is_cache CacheCtrl e = refl
is_cache _ e = absurd (omega arith)

accepted-field : (csd : ExtCsd) (target : Field) (value : ℕ) (s : Switched) → accepted csd target value ≡ Some s
    → (field : Field) → (row_of field).index ≡ (row_of target).index → field ≡ target
unfolding row_of
accepted-field csd CmdqModeEn value s e field same = is_queue field same
accepted-field csd BarrierCtrl value s e field same = is_barrier field same
accepted-field csd FlushCache value s e field same = is_flush field same
accepted-field csd CacheCtrl value s e field same = is_cache field same
accepted-field csd _ value s e field same = cc

-- a field reads as its new value
accepted-reads : (csd : ExtCsd) (target : Field) (value : ℕ) (s : Switched) → accepted csd target value ≡ Some s
    → target ≢ FlushCache → value ≡ value_of s.csd target
unfolding row_of
accepted-reads csd CmdqModeEn value s e kept =
    let on = some_of _ (on_or_off value) s e in
    subst (λ (t : Switched). value ≡ value_of t.csd CmdqModeEn) on.2 (sym (flag-on_or_off value on.0 on.1))
accepted-reads csd BarrierCtrl value s e kept =
    let on = some_of _ (on_or_off value) s e in
    subst (λ (t : Switched). value ≡ value_of t.csd BarrierCtrl) on.2 (sym (flag-on_or_off value on.0 on.1))
accepted-reads csd CacheCtrl value s e kept =
    let on = some_of _ (on_or_off value) s e in
    subst (λ (t : Switched). value ≡ value_of t.csd CacheCtrl) on.2 (sym (flag-on_or_off value on.0 on.1))
accepted-reads csd FlushCache value s e kept = absurd (kept refl)
accepted-reads csd _ value s e kept = cc

then_of : {X Y : Type 0} (g : X → Option Y) (o : Option X) (y : Y) → option_and_then g o ≡ Some y → (x : X) × (o ≡ Some x) × (g x ≡ Some y)
then_of g None y e = cc
then_of g (Some x) y e = (x, refl, e)

-- ---- what a switch changes

-- the field, its new value and the outcome
pub record Carried (csd : ExtCsd) (arg : ℕ) (s : Switched) : Type 0 where
  pub target : Field
  pub value : ℕ
  pub found : writable_at (number_in arg index_bits) ≡ Some target
  pub made : written (number_in arg access_bits) (value_of csd target) (number_in arg value_bits) ≡ Some value
  pub taken : accepted csd target value ≡ Some s

carried : (csd : ExtCsd) (arg : ℕ) (s : Switched) → switched csd arg ≡ Some s → Carried csd arg s
unfolding switched
carried csd arg s e =
    let target = then_of _ (writable_at (number_in arg index_bits)) s e in
    let value = then_of (accepted csd target.0) (written (number_in arg access_bits) (value_of csd target.0) (number_in arg value_bits)) s target.2 in
    record { target = target.0; value = value.0; found = target.1; made = value.1; taken = value.2 }

switched-others : (csd : ExtCsd) (arg : ℕ) (s : Switched) → switched csd arg ≡ Some s
    → (field : Field) → (row_of field).index ≢ number_in arg index_bits → value_of s.csd field ≡ value_of csd field
switched-others csd arg s e field other =
    let how = carried csd arg s e in
    accepted-others csd how.target how.value s how.taken field
    (λ same. other (same ∙ found-index (number_in arg index_bits) how.target how.found))

switched-reads : (csd : ExtCsd) (arg : ℕ) (s : Switched) → switched csd arg ≡ Some s
    → (field : Field) → (row_of field).index ≡ number_in arg index_bits → field ≢ FlushCache
    → written (number_in arg access_bits) (value_of csd field) (number_in arg value_bits) ≡ Some (value_of s.csd field)
switched-reads csd arg s e field here kept =
    let how = carried csd arg s e in
    let same : field ≡ how.target =
    accepted-field csd how.target how.value s how.taken field (here ∙ sym (found-index (number_in arg index_bits) how.target how.found)) in
    let reads : how.value ≡ value_of s.csd how.target =
    accepted-reads csd how.target how.value s how.taken (λ flush. kept (same ∙ flush)) in
    subst (λ (f : Field). written (number_in arg access_bits) (value_of csd f) (number_in arg value_bits) ≡ Some (value_of s.csd f)) (sym same)
    (how.made ∙ ap (λ n. Some n) reads)

-- the same of an outcome
pub others_of : (old new : ExtCsd) (arg : ℕ) (result : Result Change SwitchError)
    → IfOk result (λ change. switched old arg ≡ Some (record { csd = new; change = change })) → OnErr result (new ≡ old)
    → KeepsOthers old arg new
others_of old new arg (Ok change) ok err field other = switched-others old arg (record { csd = new; change = change }) ok field other
others_of old new arg (Err error) ok err field other = ap (λ (csd : ExtCsd). value_of csd field) err

pub reads_of : (old new : ExtCsd) (arg : ℕ) (result : Result Change SwitchError)
    → IfOk result (λ change. switched old arg ≡ Some (record { csd = new; change = change })) → OnOk result (ReadsNew old arg new)
reads_of old new arg (Ok change) ok = λ field here kept. switched-reads old arg (record { csd = new; change = change }) ok field here kept
reads_of old new arg (Err error) ok = tt
