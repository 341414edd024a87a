-- Where nothing is to do, no phase is under way.
use Rattle.std.proofs.Common.{◌≡◌, ◌∙◌, ◌+◌, ◌<◌, ◌==◌, ◌||◌, ℕ, zero, suc, Bool, true, false, cond, not, List, [], ◌∷◌, Option, None, Some, IsSomeAnd, All, count_by, find, is_some, slice_index_or, refl, ap, sym, subst, arith, eqb-true}
use Rattle.std.proofs.lemmas.Bool.{false≢true, or_parts}
use Rattle.std.proofs.lemmas.List.Elements.{All-head, All-tail}
use Rattle.std.specs.Option.{option_map_or}
use Rattle.array_edge.proofs.Reached.{count_cons}
use Rattle.cq_regs.specs.declared.slots.Progress.{Progress}
use Rattle.cq_regs.specs.declared.slots.Progress.TheVariants.{Idle, Rung, Named, Sent, Ready, Active}
use Rattle.cq_regs.specs.declared.slots.Ringed.{Ringed}
use Rattle.cq_regs.specs.Slots.{is_begun, is_rung, progress_of}
use Rattle.cq_schedule.specs.Held.{same}
use Rattle.cq_schedule.specs.Order.{first_at, order_of}
use Rattle.drv_core.specs.State.{is_recovering}
use Rattle.world_state.specs.Path.{PathState, holder, is_busy, runs, under_way}
use Rattle.world_state.specs.Ties.{AreTied, HoldsJob}
use Rattle.world_state.specs.Work.{issued, waiting}
use Rattle.world_steps.specs.World.{is_to_do}

-- where no request is issued, no tag holds one

none_held : (holders : List (Option ℕ)) (tag : ℕ) → count_by is_some holders ≡ 0 → slice_index_or holders tag None ≡ None
none_held [] tag none = refl
none_held (None ∷ holders) zero none = refl
none_held (None ∷ holders) (suc tag) none = none_held holders tag (let counts = count_cons is_some None holders in omega (arith, none, counts))
none_held (Some id ∷ holders) tag none = let counts = count_cons is_some (Some id) holders in absurd (omega (arith, none, counts))

-- the slot of the phase under way is active, and one of the 32

holds_if : (p : ℕ → Bool) (rest : Option ℕ) (x y : ℕ) (b : Bool) → p x ≡ b → (rest ≡ Some y → p y ≡ true) → cond b (Some x) rest ≡ Some y → p y ≡ true
holds_if p rest x y true passes later is = let same_one : x ≡ y = cc is in subst (λ n. p n ≡ true) same_one passes
holds_if p rest x y false passes later is = later is

found_holds : (p : ℕ → Bool) (xs : List ℕ) (y : ℕ) → find p xs ≡ Some y → p y ≡ true
found_holds p [] y is = absurd (cc is)
found_holds p (x ∷ xs) y is = holds_if p (find p xs) x y (p x) refl (found_holds p xs y) is

active_is : (progress : Progress) → same progress Active ≡ true → progress ≡ Active
active_is Idle is = absurd (false≢true is)
active_is Rung is = absurd (false≢true is)
active_is Named is = absurd (false≢true is)
active_is Sent is = absurd (false≢true is)
active_is Ready is = absurd (false≢true is)
active_is Active is = refl

below_if : (b : Bool) (r : Ringed) (rest : Option Ringed) (slot : ℕ) → (r.slot == slot) ≡ b → r.slot < 32 → (is_rung (option_map_or (λ (x : Ringed). x.progress) rest Idle) ≡ true → slot < 32)
    → is_rung (option_map_or (λ (x : Ringed). x.progress) (cond b (Some r) rest) Idle) ≡ true → slot < 32
below_if true r rest slot is low more rung = subst (λ n. n < 32) (eqb-true r.slot slot is) low
below_if false r rest slot is low more rung = more rung

rung_below : (ring : List Ringed) (slot : ℕ) → All (λ (r : Ringed). r.slot < 32) ring → is_rung (progress_of ring slot) ≡ true → slot < 32
rung_below [] slot below rung = absurd (false≢true rung)
rung_below (r ∷ ring) slot below rung =
    below_if (r.slot == slot) r (find (λ (x : Ringed). x.slot == slot) ring) slot refl (All-head (λ (x : Ringed). x.slot < 32) r ring below)
    (rung_below ring slot (All-tail (λ (x : Ringed). x.slot < 32) r ring below)) rung

-- none of them where nothing is issued

none_holds : (p : PathState) (tag : ℕ) (held : Option ℕ) → held ≡ None → IsSomeAnd held (HoldsJob p tag) → false ≡ true
none_holds p tag None none holds = absurd (holds)
none_holds p tag (Some id) none holds = absurd (cc none)

runs_if : (recovering stopped : Bool) → recovering ≡ false → stopped ≡ false → cond recovering false (not stopped) ≡ true
runs_if true stopped calm on = absurd (false≢true (sym calm))
runs_if false true calm on = absurd (false≢true (sym on))
runs_if false false calm on = refl

module _ (p : PathState) (tied : AreTied p) (calm : is_recovering p.driver.recovery ≡ false) (free : issued p ≡ 0) where
  none_active : (tag : ℕ) → p.regs.stopped ≡ false → first_at Active p.regs.ring ≡ Some tag → false ≡ true
  none_active tag on at =
      let active = active_is (progress_of p.regs.ring tag) (found_holds (λ slot. same (progress_of p.regs.ring slot) Active) (order_of p.regs.ring) tag at) in
      let below = rung_below p.regs.ring tag tied.regs.ring.below (ap is_rung active) in
      let runs = tied.running (runs_if (is_recovering p.driver.recovery) p.regs.stopped calm on) tag below in
      none_holds p tag (holder p tag) (none_held p.driver.requests.holders tag free) (runs.holds (ap is_begun active))

  none_found : (found : Option ℕ) → first_at Active p.regs.ring ≡ found → p.regs.stopped ≡ false → is_some found ≡ false
  none_found None at on = refl
  none_found (Some tag) at on = absurd (false≢true (none_active tag on at))

  none_way : (stopped : Bool) → p.regs.stopped ≡ stopped → is_some (cond stopped None (first_at Active p.regs.ring)) ≡ false
  none_way true on = refl
  none_way false on = none_found (first_at Active p.regs.ring) refl on

  pub not_busy : is_busy p ≡ false
  not_busy = none_way p.regs.stopped refl

not_not : (b : Bool) → not b ≡ false → b ≡ true
not_not true is = refl
not_not false is = absurd (false≢true (sym is))

pub idle : (p : PathState) → AreTied p → is_to_do p ≡ false → is_busy p ≡ false
unfolding is_to_do
idle p tied none =
    let one = or_parts (not (waiting p == 0)) (not (issued p == 0) || is_recovering p.driver.recovery) none in
    let two = or_parts (not (issued p == 0)) (is_recovering p.driver.recovery) one.1 in
    not_busy p tied two.1 (eqb-true (issued p) 0 (not_not (issued p == 0) two.0))
