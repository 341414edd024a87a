-- The memory of a plan's layout.
use Rattle.std.proofs.Common.{◌≡◌, ◌<◌, ◌≤◌, ◌+◌, ◌^◌, ℕ, Bool, true, false, length, ap, sym, subst, arith}
use Rattle.std.proofs.lemmas.List.{length-replicate}
use Rattle.std.specs.Prelude.{replicate}
use Rattle.storage_model.specs.Plan.{IsValidPlan}
use Rattle.storage_model.specs.declared.plan.Plan.{Plan}
use Rattle.drv_core.specs.State.{layout_of, upper_base}
use Rattle.drv_ring.specs.Layout.{HasLayout, size_of}
use Rattle.host_mem.specs.Memory.{HasRange, Memory}

upper_small : (wide : Bool) → upper_base wide ≤ 1
upper_small true = omega arith
upper_small false = omega arith

-- its addresses are below 16 GiB
pub layout_below : (plan : Plan) → IsValidPlan plan → (layout_of plan).base + size_of (layout_of plan) < 2 ^ 34
layout_below plan valid =
    let few = valid.depth.1 in
    let small = upper_small plan.wide in
    omega (arith, few, small)

narrow_below : (plan : Plan) → IsValidPlan plan → plan.wide ≡ false → (layout_of plan).base + size_of (layout_of plan) ≤ 2 ^ 32
narrow_below plan valid narrow =
    let few = valid.depth.1 in
    let none : upper_base plan.wide ≡ 0 = ap upper_base narrow in
    omega (arith, few, none)

module _ (base size : ℕ) where
  abbrev zeroes : Memory
  zeroes = record { base = base; bytes = replicate size 0 }

  inside : HasRange zeroes base size
  inside k below =
      let long : length zeroes.bytes ≡ size = length-replicate size 0 in
      (omega arith, omega (arith, below, long))

pub has_layout : (plan : Plan) → IsValidPlan plan → (memory : Memory) → memory ≡ record { base = (layout_of plan).base; bytes = replicate (size_of (layout_of plan)) 0 } → HasLayout memory (layout_of plan)
has_layout plan valid memory is =
    let below = layout_below plan valid in
    record {
      depth = valid.depth.1;
      below = omega (arith, below);
      narrow = λ narrow. narrow_below plan valid narrow;
      inside = subst (λ m. HasRange m (layout_of plan).base (size_of (layout_of plan))) (sym is) (inside (layout_of plan).base (size_of (layout_of plan)));
    }
