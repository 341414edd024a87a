-- What accesses leave: the machine stands, and no count rose.
use Rattle.std.proofs.Common.{◌≡◌, ℕ, List, Option, Some, None, IfSome, refl, sym, ◌∙◌, subst, arith, inl, inr}
use Rattle.std.proofs.lemmas.Bool.{false≢true}
use Rattle.array_edge.specs.Array.{ArrayState}
use Rattle.std.specs.Prelude.{MatchOption}
use Rattle.card_store.specs.Store.{IsOpen, Store}
use Rattle.image_form.specs.Image.{IsImage}
use Rattle.intent_store.specs.Intent.{IntentStands, IsKnown, Known, ShowsImage}
use Rattle.storage_model.specs.declared.block.Block.{Block}
use Rattle.cq_engine.proofs.Lying.{lie_same}
use Rattle.host_mem.specs.Memory.{Memory}
use Rattle.host_mem.proofs.MemoryLaws.{with_bytes-base, with_bytes-length}
use Rattle.piece_data.specs.Laws.{HasSameSpace}
use Rattle.storage_model.specs.declared.trace.End.{End}
use Rattle.storage_model.specs.declared.trace.End.TheVariants.{Dead, Fault}
use Rattle.raw_face.specs.Access.{IsPokedIn}
use Rattle.raw_machine.specs.Machine.{Machine, Stands}
use Rattle.raw_face.specs.Operation.{with_memory}
use Rattle.raw_face.specs.Output.{HasCauses, IsQuiet, Output}
use Rattle.raw_face.proofs.Runs.{later_same}

all_images : (known : Known) (told : Option (List Block)) → IfSome told (IsKnown known) → IfSome told (λ pages. IsImage pages)
all_images known None is = tt
all_images known (Some pages) is = is.image

-- the pages of an image on which an intent store stands are an image
pub stands_image : (known : Known) (array : ArrayState) → IntentStands known array → ShowsImage array
stands_image known array stands = all_images known array.told stands.told

-- and so are those of a card's image that is open
pub open_image : (store : Store) (array : ArrayState) → IsOpen store array → ShowsImage array
open_image store array stands = known_image store.known stands
  where
    known_image : (known : Option Known) → MatchOption known ⊥ (λ k. IntentStands k array) → ShowsImage array
    known_image None stands = absurd stands
    known_image (Some known) stands = stands_image known array stands

-- nothing rose
pub quiet_causes : (array : ArrayState) (output : Output) → IsQuiet output → HasCauses array array output
quiet_causes array output q = record {
  faults = later_same array.faults;
  cuts = later_same array.cuts;
  once = omega (arith, q.none);
  flash = λ any. absurd (false≢true (sym q.lines ∙ any));
  fault = λ e. absurd (goes_not Fault (sym q.end ∙ e));
  dead = λ e. absurd (goes_not Dead (sym q.end ∙ e));
} where
  goes_not : (end : End) → None ≡ Some end → ⊥
  goes_not end e = cc e

-- bytes that were written, or weren't, leave the addresses of the memory
space_poked : (address : ℕ) (bytes : List ℕ) (memory memory' : Memory) (output : Output) → IsPokedIn address bytes memory output memory' → HasSameSpace memory memory'
space_poked address bytes memory memory' output (inl inside) =
    let P : Memory → Type 0 = λ m. HasSameSpace memory m in
    subst P (sym inside.1.0) (record { base = with_bytes-base memory address bytes; size = with_bytes-length memory address bytes inside.0 })
space_poked address bytes memory memory' output (inr outside) =
    let P : Memory → Type 0 = λ m. HasSameSpace memory m in subst P (sym outside.1.0) (record { base = refl; size = refl })

pub stands_poked : (machine : Machine) (array : ArrayState) (address : ℕ) (bytes : List ℕ) (memory' : Memory) (output : Output)
    → IsPokedIn address bytes machine.memory output memory' → Stands machine array → Stands (with_memory machine memory') array
stands_poked machine array address bytes memory' output poked s = record {
  is_open = s.is_open;
  powered = s.powered;
  holds = s.holds;
  lie = lie_same machine.memory memory' machine.engine.held (space_poked address bytes machine.memory memory' output poked) s.lie;
}
