-- Behind the letter's line, with which an event begins, the pages are near the state.
use Rattle.std.proofs.Common.{◌≡◌, ◌∙◌, ◌++◌, Bool, true, false, if◌then◌else◌, IfSome, ℕ, List, [], Option, None, Some, ap, refl, sym, subst}
use Rattle.std.proofs.lemmas.Bool.{false≢true}
use Rattle.std.proofs.lemmas.List.{append-nil}
use Rattle.storage_machine.specs.Host.{has_work, is_silent, recovery_step, recovery_step_at}
use Rattle.storage_machine.specs.declared.state.Recovery.{Recovery}
use Rattle.storage_machine.specs.declared.state.Recovery.TheVariants.{Calm, Halted, Cleared, Discarded, Cleaned, Resumed}
use Rattle.storage_machine.specs.declared.state.Event.{Event}
use Rattle.storage_machine.specs.declared.state.Event.TheVariants.{Untold, Told}
use Rattle.storage_machine.specs.declared.state.Owed.TheVariants.{Nothing}
use Rattle.storage_machine.specs.declared.state.State.{State}
use Rattle.storage_model.specs.Left.{is_left}
use Rattle.storage_model.specs.declared.block.Block.{Block}
use Rattle.storage_model.specs.declared.faults.Letter.{Letter}
use Rattle.storage_model.specs.declared.faults.Letter.TheVariants.{Host as HostActs, Engine as EngineActs, Card as CardActs, Cut as PowerActs}
use Rattle.trace_effects.specs.Effects.{begun}
use Rattle.array_edge.specs.Array.{ArrayState}
use Rattle.card_store.proofs.Turning.{lines_left}
use Rattle.cut_order.specs.Order.{OrderState}
use Rattle.drv_recover.specs.declared.recovery.RecoveryState.TheVariants as driver
use Rattle.front_laws.proofs.Nears.{near_begun_engine, near_left}
use Rattle.front_laws.proofs.Now.{shown_near}
use Rattle.front_laws.proofs.Singles.{shown_card, shown_host, shown_power, some_near}
use Rattle.front_laws.proofs.Ways.{way_calm}
use Rattle.intent_store.specs.Intent.{shown_by}
use Rattle.world_state.specs.Laws.{StateLaws}
use Rattle.world_state.specs.Path.{PathState, under_way}
use Rattle.world_state.specs.Reading.{Context, recovery_of, state_of}
use Rattle.world_state.specs.Stands.{Agrees, IsNear, marks_moved, marks_moved_by}

-- a silent step of a recovery leaves contents and marks
pub record IsSame (s t : State) : Type 0 where
  pub base : t.base ≡ s.base
  pub pend : t.pend ≡ s.pend

step_same : (s : State) (r : Recovery) → IsSame s (recovery_step_at s r)
step_same s r = record { base = base_at r; pend = pend_at r }
  where
    base_at : (r : Recovery) → (recovery_step_at s r).base ≡ s.base
    base_at Calm = refl
    base_at Halted = refl
    base_at Cleared = refl
    base_at Discarded = refl
    base_at Cleaned = refl
    base_at Resumed = refl

    pend_at : (r : Recovery) → (recovery_step_at s r).pend ≡ s.pend
    pend_at Calm = refl
    pend_at Halted = refl
    pend_at Cleared = refl
    pend_at Discarded = refl
    pend_at Cleaned = refl
    pend_at Resumed = refl

branch_same : (silent : Bool) (s : State) (event : Event) → IsSame s (if silent then record (recovery_step (record s { owed = Nothing })) { event = Untold } else record s { owed = Nothing; event = event })
unfolding recovery_step
branch_same true s event = let same = step_same (record s { owed = Nothing }) s.recovery in record { base = same.base; pend = same.pend }
branch_same false s event = record { base = refl; pend = refl }

begun_same : (s : State) → IsSame s (begun s HostActs)
unfolding begun
begun_same s = branch_same (is_silent s.recovery) s (if has_work (record s { owed = Nothing }) then Told HostActs else Untold)

-- where one is due no phase is under way
loud : (p : PathState) (o : OrderState) (c : Context) → p.driver.recovery ≡ driver.Calm → is_silent (state_of p o c).recovery ≡ false
unfolding state_of
loud p o c calm = ap (λ r. is_silent (recovery_of r)) calm

module _ (laws : StateLaws) (p : PathState) (a : ArrayState) (o : OrderState) (c : Context) (agrees : Agrees p a c) where
  abbrev s : State
  s = state_of p o c

  near_now : IfSome (shown_by a) (IsNear s)
  near_now = shown_near laws p a o c p.card.store a agrees agrees.store

  none_by : (way : Option ℕ) → under_way p ≡ way → is_silent s.recovery ≡ true → marks_moved_by p way ≡ []
  none_by None way silent = refl
  none_by (Some tag) way silent = absurd (false≢true (sym (loud p o c (way_calm p tag agrees.tied way)) ∙ silent))

  left_now : is_silent s.recovery ≡ true → (pages : List Block) → is_left c.base (c.pend ++ marks_moved p) pages ≡ true → is_left s.base s.pend pages ≡ true
  unfolding state_of
  left_now silent pages left =
      subst (λ pend. is_left c.base pend pages ≡ true) (append-nil c.pend) (subst (λ marks. is_left c.base (c.pend ++ marks) pages ≡ true) (none_by (under_way p) refl silent) left)

  near_silent : is_silent s.recovery ≡ true → (shown : Option (List Block)) → IfSome shown (λ pages. is_left c.base (c.pend ++ marks_moved p) pages ≡ true) → IfSome shown (IsNear (begun s HostActs))
  near_silent silent None left = tt
  near_silent silent (Some pages) left =
      let same = begun_same s in
      near_left (begun s HostActs) pages
      (subst (λ base. is_left base (begun s HostActs).pend pages ≡ true) (sym same.base) (subst (λ pend. is_left s.base pend pages ≡ true) (sym same.pend) (left_now silent pages left)))

  near_host : (silent : Bool) → is_silent s.recovery ≡ silent → IfSome (shown_by a) (IsNear (begun s HostActs))
  near_host false is = shown_host s (shown_by a) is near_now
  near_host true is = near_silent is (shown_by a) (lines_left p.card.store.cache (shown_by a) c.base (c.pend ++ marks_moved p) agrees.store.lines)

  pub near_begun : (actor : Letter) → IfSome (shown_by a) (IsNear (begun s actor))
  near_begun HostActs = near_host (is_silent s.recovery) refl
  near_begun EngineActs = some_near s (begun s EngineActs) (shown_by a) (near_begun_engine s) near_now
  near_begun CardActs = shown_card s (shown_by a) near_now
  near_begun PowerActs = shown_power s (shown_by a) near_now
