-- The pages on which an image is open.
use Rattle.std.proofs.Common.{IfSome, List, None, Option, Some}
use Rattle.std.specs.Prelude.{MatchOption}
use Rattle.storage_model.specs.declared.block.Block.{Block}
use Rattle.array_edge.specs.Array.{ArrayState}
use Rattle.card_store.specs.Store.{IsOpen, Store}
use Rattle.image_form.specs.Image.{IsImage}
use Rattle.intent_store.specs.Intent.{IntentStands, IsKnown, Known, ShowsImage}

all_images : (known : Known) (told : Option (List Block)) → IfSome told (IsKnown known) → IfSome told (λ pages. IsImage pages)
all_images known None is = tt
all_images known (Some pages) is = is.image

-- the pages of an array on which a card's image is open are an image
pub open_image : (store : Store) (array : ArrayState) → IsOpen store array → ShowsImage array
open_image store array stands = known_image store.known stands
  where
    known_image : (known : Option Known) → MatchOption known ⊥ (λ k. IntentStands k array) → ShowsImage array
    known_image None stands = absurd stands
    known_image (Some known) stands = all_images known array.told stands.told
