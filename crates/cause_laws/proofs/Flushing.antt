-- Lines have their causes where power stays or is lost, and those of the flush that ends a run.
use Rattle.std.proofs.Common.{◌≡◌, ◌≤◌, ◌+◌, ℕ, true, false, refl, sym, ◌∙◌, ap, subst, arith, inl, inr, List, [], ◌∷◌, ◌++◌, Result, Ok, Err}
use Rattle.std.specs.Prelude.{◌⊎◌, OnOk, IsErrOf}
use Rattle.std.proofs.lemmas.Bool.{false≢true}
use Rattle.storage_model.specs.Count.{Count, Later, Rose}
use Rattle.storage_model.specs.declared.ends.Halt.TheVariants.{OpenFault}
use Rattle.storage_model.specs.declared.trace.End.TheVariants.{Good, Fault}
use Rattle.storage_model.specs.declared.trace.Item.{Item}
use Rattle.storage_model.specs.declared.trace.Item.TheVariants.{Cut, Flash as FlashLine, Off}
use Rattle.array_edge.specs.Array.{ArrayState}
use Rattle.intent_store.specs.Intent.{StoreEnds}
use Rattle.intent_store.specs.declared.ends.StoreEnd.{StoreEnd}
use Rattle.intent_store.specs.declared.ends.StoreEnd.TheVariants.{Flash as FlushFailed, PowerLost as FlushLost}
use Rattle.power_laws.specs.Power.{FlushEvent}
use Rattle.trace_print.specs.Prints.{HasCauses}
use Rattle.world_state.specs.Path.{PathState}
use Rattle.cause_laws.specs.Causes.{AreFlushesExplained, Explains, IsFlushExplained}
use Rattle.cause_laws.proofs.Counts.{Rises, cut_lines, cuts_both, flashes, flashes_both, flashes_on, rises_cause, rose_none, rose_one}
use Rattle.cause_laws.proofs.Plain.{IsPlain, plain_none, plain_one}

-- no count needs to rise
pub still : (a a' : ArrayState) → Later a.faults a'.faults → Later a.cuts a'.cuts → Rises 0 0 a a'
still a a' faults cuts = record {
  later_faults = faults;
  later_cuts = cuts;
  flash = rose_none a.faults a'.faults faults;
  cuts = rose_none a.cuts a'.cuts cuts;
}

pub failed : (a a' : ArrayState) → Later a.faults a'.faults → Later a.cuts a'.cuts → Rose a.faults a'.faults → Rises 1 0 a a'
failed a a' faults cuts rose = record {
  later_faults = faults;
  later_cuts = cuts;
  flash = rose_one a.faults a'.faults rose;
  cuts = rose_none a.cuts a'.cuts cuts;
}

pub went_off : (a a' : ArrayState) → Later a.faults a'.faults → Later a.cuts a'.cuts → Rose a.cuts a'.cuts → Rises 0 1 a a'
went_off a a' faults cuts rose = record {
  later_faults = faults;
  later_cuts = cuts;
  flash = rose_none a.faults a'.faults faults;
  cuts = rose_one a.cuts a'.cuts rose;
}

-- power stays, and no fault of the flash is told
pub plain_explained : (a a' : ArrayState) (items : List Item) → a.powered ≡ true → a'.powered ≡ a.powered → Later a.faults a'.faults → Later a.cuts a'.cuts → IsPlain items
    → Explains false a a' items
plain_explained a a' items on same faults cuts plain =
    let f = plain.flash in
    let c = plain.cuts in
    (rises_cause a a' items (Ok tt) 0 0 (still a a' faults cuts) (omega (arith, f)) (omega (arith, c)), same ∙ on)

-- one is told
pub fault_explained : (a a' : ArrayState) (items : List Item) → a'.powered ≡ true → Later a.faults a'.faults → Later a.cuts a'.cuts → Rose a.faults a'.faults
    → flashes items ≤ 1 → cut_lines items ≡ 0 → Explains false a a' items
fault_explained a a' items on faults cuts rose few none =
    (rises_cause a a' items (Ok tt) 1 0 (failed a a' faults cuts rose) (omega (arith, few)) (omega (arith, none)), on)

-- power was on, and is lost
lit_cut : (a a' : ArrayState) → a.powered ≡ true → (Rose a.cuts a'.cuts ⊎ (a.powered ≡ false)) → Rose a.cuts a'.cuts
lit_cut a a' on why = elim why [
  | inl rose ↦ rose
  | inr off ↦ absurd (false≢true (sym off ∙ on))
]

one_cut : cut_lines (Cut ∷ []) ≡ 1
one_cut = refl

no_flash : flashes (Cut ∷ []) ≡ 0
no_flash = refl

pub lost_explained : (a a' : ArrayState) (items : List Item) → a.powered ≡ true → Later a.faults a'.faults → Later a.cuts a'.cuts
    → (Rose a.cuts a'.cuts ⊎ (a.powered ≡ false)) → IsPlain items → Explains true a a' items
lost_explained a a' items on faults cuts why plain =
    let f = plain.flash in
    let c = plain.cuts in
    let g = flashes_both items (Cut ∷ []) in
    let k = cuts_both items (Cut ∷ []) in
    let one = one_cut in
    let none = no_flash in
    rises_cause a a' (items ++ Cut ∷ []) (Ok tt) 0 1 (went_off a a' faults cuts (lit_cut a a' on why)) (omega (arith, f, g, none)) (omega (arith, c, k, one))

-- the flush that ends a run
flush_good : (a a' : ArrayState) (result : Result (Unit {0}) StoreEnd) → a.powered ≡ true → StoreEnds a a' result → OnOk result (Explains false a a' (Off Good ∷ []))
flush_good a a' (Ok u) on ends = plain_explained a a' (Off Good ∷ []) on ends.ok ends.faults ends.cuts (plain_one (Off Good) refl refl)
flush_good a a' (Err end) on ends = tt

flush_failed : (a a' : ArrayState) → Later a.faults a'.faults → Later a.cuts a'.cuts → Rose a.faults a'.faults → HasCauses 0 a a' (Off Fault ∷ []) (Err OpenFault)
flush_failed a a' faults cuts rose =
    let plain = plain_one (Off Fault) refl refl in
    let f = plain.flash in
    let c = plain.cuts in
    rises_cause a a' (Off Fault ∷ []) (Err OpenFault) 1 0 (failed a a' faults cuts rose) (omega (arith, f)) (omega (arith, c))

pub flushes_explained : AreFlushesExplained
flushes_explained p a p' a' result e on = record {
  good = flush_good a a' result on e.ends;
  fault = λ is. flush_failed a a' e.ends.faults e.ends.cuts (e.ends.flash is).0;
  lost = λ is. lost_explained a a' [] on e.ends.faults e.ends.cuts (e.ends.lost is).0 plain_none;
}
