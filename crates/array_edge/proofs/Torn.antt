-- What a program leaves of its page.
use Rattle.std.proofs.Common.{◌≡◌, ◌⊎◌, ℕ, Bool, true, false, List, [], Option, Some, None, Result, Ok, Err, OnErr, refl, sym, ap, ◌∙◌, inl, inr}
use Rattle.std.proofs.lemmas.List.{set-get_or}
use Rattle.std.specs.Bool.{if◌then◌else◌}
use Rattle.std.specs.Int.{bit_at}
use Rattle.std.specs.Prelude.{◌==◌}
use Rattle.storage_model.specs.Granule.{IsMix, granule, IsMasked}
use Rattle.storage_model.specs.declared.block.Block.{Block}
use Rattle.storage_model.specs.declared.faults.ArrayHit.{ArrayHit}
use Rattle.array_edge.specs.Array.{ArrayState, Fetched, HasPage, IsTorn, Programmed, page_at, with_page}
use Rattle.array_edge.specs.Script.{Script, ScriptProgrammed}
use Rattle.array_edge.specs.declared.array.ArrayEnd.{ArrayEnd}

-- a program that left its page as it was
pub untouched : (told : Option (List Block)) (page : ℕ) (block : Block) → IsTorn told page block told
untouched None page block = record { left = block; mix = tt; told = refl }
untouched (Some pages) page block =
    record { left = page_at pages page; mix = record { each = λ k below. inl refl }; told = ap Some (sym (set-get_or pages page (record { 0 = [] }))) }

-- one of two granules
picked : (test : Bool) (old new : Block) (k : ℕ) (bytes : List ℕ) → bytes ≡ granule (if test then new else old) k → (bytes ≡ granule old k) ⊎ (bytes ≡ granule new k)
picked true old new k bytes is = inr is
picked false old new k bytes is = inl is

pub mix_masked : (mask : ℕ) (old new left : Block) → IsMasked mask old new left → IsMix old new left
mix_masked mask old new left masked = record { each = λ k below. picked (bit_at mask k == 1) old new k (granule left k) (masked.each k below) }

-- old, or old or new
mixed_again : (old new left bytes : List ℕ) → (bytes ≡ old) ⊎ (bytes ≡ left) → (left ≡ old) ⊎ (left ≡ new) → (bytes ≡ old) ⊎ (bytes ≡ new)
mixed_again old new left bytes (inl same) either = inl same
mixed_again old new left bytes (inr same) (inl either) = inl (same ∙ either)
mixed_again old new left bytes (inr same) (inr either) = inr (same ∙ either)

-- a masked page was programmed whole
pub torn_whole : (told after : Option (List Block)) (page mask : ℕ) (block seen left : Block) → HasPage told page seen → IsMasked mask seen block left → after ≡ with_page told page left → IsTorn told page block after
torn_whole None after page mask block seen left has masked is = record { left = left; mix = tt; told = is }
torn_whole (Some pages) after page mask block seen left has masked is =
    record { left = left; mix = mix_masked mask (page_at pages page) block left (rw has at masked); told = is }

-- a masked page was programmed in part
pub torn_twice : (told after : Option (List Block)) (page mask : ℕ) (block seen left : Block) → HasPage told page seen → IsMasked mask seen block left → IsTorn told page left after → IsTorn told page block after
torn_twice None after page mask block seen left has masked torn = record { left = torn.left; mix = tt; told = torn.told }
torn_twice (Some pages) after page mask block seen left has masked torn =
    let mix = mix_masked mask (page_at pages page) block left (rw has at masked) in
    record {
      left = torn.left;
      mix = record { each = λ k below. mixed_again (granule (page_at pages page) k) (granule block k) (granule left k) (granule torn.left k) (torn.mix.each k below) (mix.each k below) };
      told = torn.told;
    }

torn_hit : (old between new : ArrayState) (page mask : ℕ) (block seen left : Block) (answer : Result (Unit {0}) ArrayEnd)
    → Fetched old page seen between (Ok tt) → IsMasked mask seen block left → Programmed between page left new answer → IsTorn old.told page block new.told
torn_hit old between new page mask block seen left (Ok _) fetched masked programmed =
    let same : between.told ≡ old.told = ap (λ s. s.told) fetched.same in
    torn_whole old.told new.told page mask block seen left fetched.read masked (rw same at programmed.written)
torn_hit old between new page mask block seen left (Err _) fetched masked programmed =
    let same : between.told ≡ old.told = ap (λ s. s.told) fetched.same in
    torn_twice old.told new.told page mask block seen left fetched.read masked (rw same at programmed.torn)

on_err : (result : Result (Unit {0}) ArrayEnd) (P : Type 0) → P → OnErr result P
on_err (Ok _) P p = tt
on_err (Err _) P p = p

pub torn_script : {A : Type 0} (state : A → ArrayState) (hit : Option ArrayHit) (old new : Script A) (page : ℕ) (block : Block) (result : Result (Unit {0}) ArrayEnd)
    → ScriptProgrammed state hit old page block new result → OnErr result (IsTorn (state old.inner).told page block (state new.inner).told)
torn_script state None old new page block result did = did.0.torn
torn_script state (Some hit) old new page block result (inl unread) =
    let same : (state new.inner).told ≡ (state old.inner).told = ap (λ s. s.told) unread.fetched.same in
    on_err result _ (rw same (untouched (state old.inner).told page block))
torn_script state (Some hit) old new page block result (inr did) =
    on_err result _ (torn_hit (state old.inner) did.between (state new.inner) page hit.mask block did.seen did.left did.answer did.fetched did.masked did.programmed)
