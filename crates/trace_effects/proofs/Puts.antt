-- The puts of a write, one block after the other.
use Rattle.std.proofs.Common.{◌≡◌, ℕ, ◌+◌, ◌<◌, Bool, List, [], ◌∷◌, ◌++◌, arith, refl}
use Rattle.std.proofs.lemmas.List.FromFn.{map-range_with_len_more}
use Rattle.trace_effects.specs.Phases.{puts_of}
use Rattle.storage_model.specs.Plan.{IsFillListed, IsInList, block_at}
use Rattle.storage_model.specs.declared.block.Block.{Block}
use Rattle.storage_model.specs.declared.marks.Mark.{Mark}
use Rattle.storage_model.specs.declared.marks.Mark.TheVariants.{Put as PutMark}
use Rattle.storage_model.specs.declared.plan.Fill.{Fill}
use Rattle.storage_model.specs.declared.plan.Fill.TheVariants.{Same, Ramp, Listed}

pub puts_start : (blocks : List Block) (sector : ℕ) (fill : Fill) (reliable : Bool) → ◌≡◌ {A = List Mark} [] (puts_of blocks sector fill reliable 0)
unfolding puts_of
puts_start blocks sector fill reliable = refl

pub puts_more : (blocks : List Block) (sector : ℕ) (fill : Fill) (reliable : Bool) (k : ℕ)
    → puts_of blocks sector fill reliable (k + 1) ≡ puts_of blocks sector fill reliable k ++ PutMark (record { sector = sector + k; value = block_at blocks fill k; reliable = reliable }) ∷ []
unfolding puts_of
puts_more blocks sector fill reliable k =
    map-range_with_len_more (λ k. PutMark (record { sector = sector + k; value = block_at blocks fill k; reliable = reliable })) 0 k k (omega arith)

pub block_listed : (blocks : List Block) (fill : Fill) (count k : ℕ) → IsFillListed blocks fill count → k < count → IsInList blocks fill k
block_listed blocks (Same byte) count k listed below = tt
block_listed blocks (Ramp start) count k listed below = tt
block_listed blocks (Listed place) count k listed below = omega arith
