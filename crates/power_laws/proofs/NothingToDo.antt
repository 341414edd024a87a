-- Where nothing is to do, no request is issued, so no phase is under way.
use Rattle.std.proofs.Common.{◌≡◌, ◌<◌, ◌||◌, ℕ, zero, suc, refl, sym, ◌∙◌, ap}
use Rattle.std.specs.Prelude.{true, false, not, Option, Some, None, List, [], ◌∷◌}
use Rattle.std.specs.List.{list_any}
use Rattle.std.specs.Option.{option_map}
use Rattle.std.proofs.lemmas.Bool.{false≢true, or_left, or_parts, or_right}
use Rattle.cut_order.specs.Order.{OrderState}
use Rattle.storage_machine.specs.Commands.{is_calm}
use Rattle.storage_machine.specs.Host.{to_do}
use Rattle.storage_machine.specs.Slots.{asks, has, slot_at}
use Rattle.storage_machine.specs.declared.slots.Question.TheVariants.{Issued}
use Rattle.storage_machine.specs.declared.state.State.{State}
use Rattle.storage_machine.specs.declared.state.Task.{Task}
use Rattle.world_state.specs.Path.{PathState, holder, under_way}
use Rattle.world_state.specs.Reading.{Context, standing_at, state_of}
use Rattle.world_state.specs.Ties.{AreTied}
use Rattle.power_laws.proofs.ReadOff.{slot_so, standing_so}
use Rattle.power_laws.proofs.UnderWay.{under_way_of}

-- a slot that is issued is one of them
has_at : (slots : List (Option Task)) (tag : ℕ) → asks Issued (slot_at slots tag) ≡ true → has Issued slots ≡ true
has_at [] tag h = absurd (false≢true h)
has_at (slot ∷ slots) zero h = or_left (asks Issued slot) (has Issued slots) h
has_at (slot ∷ slots) (suc tag) h = or_right (asks Issued slot) (has Issued slots) (has_at slots tag h)

none_issued : (s : State) → to_do s ≡ false → has Issued s.slots ≡ false
unfolding to_do
none_issued s none =
    (or_parts (has Issued s.slots) (not (is_calm s.recovery))
    (or_parts (list_any (λ waits. waits) s.waiting) (has Issued s.slots || not (is_calm s.recovery)) none).1).0

task_asks : (p : PathState) (o : OrderState) (k : Context) (tag id : ℕ) → tag < 32 → holder p tag ≡ Some id → asks Issued (slot_at (state_of p o k).slots tag) ≡ true
task_asks p o k tag id within is =
    ap (asks Issued) (slot_so p o k tag within)
    ∙ ap (λ o. asks Issued (option_map (λ n. record { id = n; standing = standing_at p tag }) o)) is
    ∙ standing_so p tag

-- so no phase is under way
pub no_phase : (p : PathState) (o : OrderState) (k : Context) (way : Option ℕ) → under_way p ≡ way → AreTied p → to_do (state_of p o k) ≡ false → way ≡ None
no_phase p o k None is t none = refl
no_phase p o k (Some tag) is t none =
    let u = under_way_of p tag t is in
    absurd (false≢true (sym (none_issued (state_of p o k) none) ∙ has_at (state_of p o k).slots tag (task_asks p o k tag u.id u.below u.is_held)))
