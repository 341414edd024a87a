-- A machine that was switched on.
use Rattle.std.proofs.Common.{◌≡◌, ℕ, List, [], Option, None, Some, IfSome, length, sym, ◌∙◌, ap, subst}
use Rattle.std.specs.Prelude.{unwrap_or}
use Rattle.storage_model.specs.Count.{Later}
use Rattle.storage_model.specs.declared.block.Block.{Block}
use Rattle.array_edge.specs.Array.{ArrayState}
use Rattle.card_store.specs.Store.{Stands, Store, sectors_of}
use Rattle.intent_store.specs.Intent.{ShowsImage, shown_by}
use Rattle.raw_face.specs.Booting.{switched_on}
use Rattle.raw_machine.specs.Machine.{Machine, moment, switched_off}
use Rattle.cqmmc_top.specs.Raw.{IsBegun}

some_value : {count : ℕ} (found : Option ℕ) → found ≡ Some count → count ≡ unwrap_or found 0
some_value found is = ap (λ f. unwrap_or f 0) (sym is)

pub has_count : (shown was : Option (List Block)) (store : Store) (array : ArrayState) → shown ≡ was → IfSome shown (λ base. Stands (record { base = base; pend = [] }) store array)
    → IfSome was (λ base. length base ≡ unwrap_or (sectors_of store) 0)
has_count None None store array same stands = tt
has_count None (Some base) store array same stands = absurd (cc)
has_count (Some base) None store array same stands = absurd (cc)
has_count (Some base) (Some other) store array same stands =
    let is : base ≡ other = cc in
    subst (λ b. length b ≡ unwrap_or (sectors_of store) 0) is (some_value (sectors_of store) stands.sectors)

pub begun : (off begin : Machine) (old new : ArrayState) → off ≡ switched_off off.card.store → begin ≡ switched_on off begin
    → IfSome (shown_by new) (λ base. Stands (record { base = base; pend = [] }) begin.card.store new) → shown_by new ≡ shown_by old → ShowsImage new → (ShowsImage new → ShowsImage old)
    → Later old.faults new.faults → Later old.cuts new.cuts → IsBegun old (moment begin new)
begun off begin old new is on contents shown kept was_image faults cuts = record {
  store = off.card.store;
  machine = on ∙ ap (λ machine. switched_on machine begin) is;
  contents = contents;
  sectors = has_count (shown_by new) (shown_by old) begin.card.store new shown contents;
  shown = shown;
  image = was_image kept;
  kept = kept;
  faults = faults;
  cuts = cuts;
}
