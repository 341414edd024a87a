-- The response error mask of a run, and the words that the card answers.
use Rattle.std.proofs.Common.{◌≡◌, ◌==◌, ℕ, true, false, refl, ap}
use Rattle.std.specs.Prelude.{not}
use Rattle.std.specs.Int.{bit_at}
use Rattle.std.specs.Int.Bits.{or_zero_r}
use Rattle.std.specs.Int.RustNames.{bit_and, bit_or}
use Rattle.bus_link.specs.Link.{tells_flash}
use Rattle.card_core.specs.Serving.{without_error, word_of}
use Rattle.cmd_words.specs.declared.status.TheConstants.Status.{ADDRESS_OUT_OF_RANGE}
use Rattle.cq_engine.specs.Words.{has_error, is_masked}
use Rattle.cq_regs.specs.State.{Registers}

-- the mask of a run
abbrev pub HasMask : Registers → Type 0
HasMask regs = regs.error_mask ≡ 0xc068_0080

pub without_error-masked : (regs : Registers) → HasMask regs → is_masked regs without_error ≡ false
without_error-masked regs e = ap (λ mask. not (bit_and without_error mask == 0)) e

pub past_end-masked : (regs : Registers) → HasMask regs → is_masked regs (word_of ADDRESS_OUT_OF_RANGE) ≡ true
past_end-masked regs e = ap (λ mask. not (bit_and (word_of ADDRESS_OUT_OF_RANGE) mask == 0)) e

pub without_error-good : has_error without_error ≡ false
without_error-good = refl

pub past_end-flash : tells_flash (word_of ADDRESS_OUT_OF_RANGE) ≡ false
past_end-flash = refl

pub past_end-bit : (bit_at (word_of ADDRESS_OUT_OF_RANGE) 31 == 1) ≡ true
past_end-bit = refl

-- no other bit is raised where only the task notice is enabled
pub raised-same : (interrupts : ℕ) → bit_or interrupts (bit_and 4 2) ≡ interrupts
raised-same interrupts = or_zero_r interrupts
