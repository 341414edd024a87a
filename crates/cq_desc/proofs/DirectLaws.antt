-- A direct command's word and its table.
use Rattle.std.proofs.Common.{◌≡◌, ◌≢◌, ℕ, Bool, true, false, ◌&&◌, refl, ap, ◌∙◌, Ok}
use Rattle.std.specs.Prelude.{◌==◌}
use Rattle.std.proofs.lemmas.Bool.{ne_eqb}
use Rattle.cq_words.specs.Table.{number_in, is_set, Holds}
use Rattle.cq_desc.specs.Fields.{VALID, INT, ACT, ACT_TASK, QUEUE_BARRIER, COMMAND_TIMING, RESPONSE_TYPE, RESPONSE_RESERVED}
use Rattle.cq_desc.specs.declared.direct.DirectDesc.{DirectDesc}
use Rattle.cq_desc.specs.Descriptor.{bit}
use Rattle.cq_desc.specs.Direct.{direct_table, direct_of, direct_read, is_direct}
use Rattle.cq_desc.proofs.FlagLaws.{is_set-bit, bit-is_set}

-- a word reads as the direct command whose table it holds
pub direct_read-holds : (word : ℕ) (desc : DirectDesc) → desc.resp ≢ RESPONSE_RESERVED → Holds word (direct_table desc)
    → direct_read word ≡ Ok desc
unfolding direct_read
direct_read-holds word desc ne (valid, (act, (int, (barrier, (index, (timing, (resp, (arg, _)))))))) =
    rw (
      ap (λ n. n == 1) valid,
      ap (λ n. n == ACT_TASK) act,
      is_set-bit word INT desc.int int,
      is_set-bit word QUEUE_BARRIER desc.barrier barrier,
      index,
      is_set-bit word COMMAND_TIMING desc.timing timing,
      resp,
      arg,
      ne_eqb desc.resp RESPONSE_RESERVED ne,
    )

-- a good word holds the table of the direct command that it reads as
pub direct_of-holds : (word : ℕ) → is_set word VALID ≡ true → number_in word ACT ≡ ACT_TASK → Holds word (direct_table (direct_of word))
direct_of-holds word valid act = (
  bit-is_set word VALID refl ∙ ap bit valid,
  (
    act,
    (
      bit-is_set word INT refl,
      (
        bit-is_set word QUEUE_BARRIER refl,
        (
          refl,
          (bit-is_set word COMMAND_TIMING refl, (refl, (refl, tt))),
        ),
      ),
    ),
  ),
)

pub not_direct-act : (word : ℕ) → number_in word ACT ≢ ACT_TASK → is_direct word ≡ false
not_direct-act word ne = rw (ne_eqb (number_in word ACT) ACT_TASK ne)

pub is_direct-good : (word : ℕ) → number_in word ACT ≡ ACT_TASK → number_in word RESPONSE_TYPE ≢ RESPONSE_RESERVED → is_direct word ≡ true
is_direct-good word act ne = rw (act, ne_eqb (number_in word RESPONSE_TYPE) RESPONSE_RESERVED ne)

and-false : (b : Bool) → (b && false) ≡ false
and-false true = refl
and-false false = refl

pub not_direct-response : (word : ℕ) → number_in word RESPONSE_TYPE ≡ RESPONSE_RESERVED → is_direct word ≡ false
not_direct-response word e = rw e (and-false (number_in word ACT == ACT_TASK))
