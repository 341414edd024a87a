-- The refusals, in their order, and what is read where there is none.
use Rattle.std.proofs.Common.{◌≡◌, ℕ, Bool, true, false, Ok, Err}
use Rattle.cq_words.specs.Table.{is_set}
use Rattle.cq_desc.specs.Fields.{VALID}
use Rattle.cq_desc.specs.declared.fault.DescFault.TheVariants.{NotValid, BadAct}
use Rattle.cq_desc.specs.Descriptor.{judged}

pub judged-not_valid : {T : Type 0} (word : ℕ) (known : Bool) (desc : T) → is_set word VALID ≡ false → judged word known desc ≡ Err NotValid
judged-not_valid word known desc h = rw h

pub judged-bad_act : {T : Type 0} (word : ℕ) (known : Bool) (desc : T) → is_set word VALID ≡ true → known ≡ false
    → judged word known desc ≡ Err BadAct
judged-bad_act word known desc h k = rw (h, k)

pub judged-good : {T : Type 0} (word : ℕ) (known : Bool) (desc : T) → is_set word VALID ≡ true → known ≡ true
    → judged word known desc ≡ Ok desc
judged-good word known desc h k = rw (h, k)
