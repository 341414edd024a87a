-- Words of a form.
use Rattle.std.proofs.Common.{◌≡◌, ℕ, ◌<◌, ◌≤◌, ◌^◌, List, [], ◌∷◌, map, length, get_or, sym, ◌∙◌, ap, arith}
use Rattle.std.proofs.lemmas.Fmt.{decimal_injective}
use Rattle.std.specs.Prelude.{codes, decimal}
use Rattle.cqmmc_top.specs.Command.{IsRun, IsExtCsd, IsNew}

pub run_form : {S : Type 0} (bytes : S → List ℕ) (words : List S) (d : S) → length words ≡ 4 → bytes (get_or words 0 d) ≡ codes "run" → IsRun (map bytes words)
run_form bytes [] d long is = absurd (omega arith)
run_form bytes (a ∷ []) d long is = absurd (omega arith)
run_form bytes (a ∷ b ∷ []) d long is = absurd (omega arith)
run_form bytes (a ∷ b ∷ e ∷ []) d long is = absurd (omega arith)
run_form bytes (a ∷ b ∷ e ∷ f ∷ []) d long is = record { image = bytes b; requests = bytes e; faults = bytes f; are = ap (λ (word : List ℕ). word ∷ bytes b ∷ bytes e ∷ bytes f ∷ []) is }
run_form bytes (a ∷ b ∷ e ∷ f ∷ i ∷ words) d long is = absurd (omega arith)

pub csd_form : {S : Type 0} (bytes : S → List ℕ) (words : List S) (d : S) → length words ≡ 2 → bytes (get_or words 0 d) ≡ codes "extcsd" → IsExtCsd (map bytes words)
csd_form bytes [] d long is = absurd (omega arith)
csd_form bytes (a ∷ []) d long is = absurd (omega arith)
csd_form bytes (a ∷ b ∷ []) d long is = record { image = bytes b; are = ap (λ (word : List ℕ). word ∷ bytes b ∷ []) is }
csd_form bytes (a ∷ b ∷ e ∷ words) d long is = absurd (omega arith)

pub new_form : {S : Type 0} (bytes : S → List ℕ) (words : List S) (d d' : S) (sectors : ℕ) → length words ≡ 3 → bytes (get_or words 0 d) ≡ codes "new" → bytes (get_or words 2 d') ≡ decimal sectors → 1 ≤ sectors → sectors ≤ 65536
    → IsNew sectors (map bytes words)
new_form bytes [] d d' sectors long is n some most = absurd (omega arith)
new_form bytes (a ∷ []) d d' sectors long is n some most = absurd (omega arith)
new_form bytes (a ∷ b ∷ []) d d' sectors long is n some most = absurd (omega arith)
new_form bytes (a ∷ b ∷ e ∷ []) d d' sectors long is n some most = record {
  image = bytes b;
  are = ap (λ (word : List ℕ). word ∷ bytes b ∷ bytes e ∷ []) is ∙ ap (λ (word : List ℕ). codes "new" ∷ bytes b ∷ word ∷ []) n;
  some = some;
  most = most;
}
new_form bytes (a ∷ b ∷ e ∷ f ∷ words) d d' sectors long is n some most = absurd (omega arith)

-- a number out of range is no other number
pub no_other : (text : List ℕ) (sectors n : ℕ) → sectors < 2 ^ 32 → text ≡ decimal sectors → n ≤ 65536 → text ≡ decimal n → n ≡ sectors
no_other text sectors n fits is most other = decimal_injective n sectors (omega arith) (omega arith) (sym other ∙ is)
