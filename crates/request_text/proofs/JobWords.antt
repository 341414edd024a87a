-- The words of a request tell it from others.
use Rattle.std.proofs.Common.{◌≡◌, ◌≢◌, ℕ, ◌^◌, ◌<◌, Bool, true, false, List, [], ◌∷◌, ◌++◌, codes, Option, Some, None, refl, sym, ap, ◌∙◌, arith}
use Rattle.std.specs.Prelude.{slice_index}
use Rattle.storage_model.specs.declared.plan.Fill.{Fill}
use Rattle.storage_model.specs.declared.plan.Fill.TheVariants.{Same, Ramp, Listed}
use Rattle.storage_model.specs.declared.plan.Job.{Job}
use Rattle.storage_model.specs.declared.plan.Job.TheVariants.{Read, Write, Flush, Barrier, Status}
use Rattle.text_words.specs.Reads.{Reads}
use Rattle.text_words.specs.Words.{hex_byte}
use Rattle.request_text.specs.declared.request.Contents.{Contents}
use Rattle.request_text.specs.declared.request.Contents.TheVariants.{Fill as FillContents, Ramp as RampContents, Hex as HexContents}
use Rattle.request_text.specs.declared.request.Flag.{Flag}
use Rattle.request_text.specs.declared.request.Flag.TheVariants.{Forced, Reliable, High}
use Rattle.request_text.specs.Requests.{contents_text, flag_text, IsFill, IsFillAt, IsJob, IsOther, IsPlacedAt, all_words, fill_words, job_words, later_words}

-- a request of one word
pub record IsAlone (first : List ℕ) (job : Job) : Type 0 where
  pub other : IsOther job
  pub valid : IsJob job
  pub text : job_words [] job ≡ first ∷ []
  pub only : (words : List (List ℕ)) (also : Job) → IsOther also → first ∷ words ≡ job_words [] also → words ≡ []

flush_only : (words : List (List ℕ)) (also : Job) → IsOther also → codes "flush" ∷ words ≡ job_words [] also → words ≡ []
flush_only words (Read sector blocks high) other is = cc
flush_only words (Write sector blocks fill forced reliable high) other is = absurd other
flush_only words Flush other is = cc
flush_only words Barrier other is = cc
flush_only words Status other is = cc

barrier_only : (words : List (List ℕ)) (also : Job) → IsOther also → codes "barrier" ∷ words ≡ job_words [] also → words ≡ []
barrier_only words (Read sector blocks high) other is = cc
barrier_only words (Write sector blocks fill forced reliable high) other is = absurd other
barrier_only words Flush other is = cc
barrier_only words Barrier other is = cc
barrier_only words Status other is = cc

status_only : (words : List (List ℕ)) (also : Job) → IsOther also → codes "status" ∷ words ≡ job_words [] also → words ≡ []
status_only words (Read sector blocks high) other is = cc
status_only words (Write sector blocks fill forced reliable high) other is = absurd other
status_only words Flush other is = cc
status_only words Barrier other is = cc
status_only words Status other is = cc

pub flush_alone : IsAlone (codes "flush") Flush
flush_alone = record { other = tt; valid = tt; text = refl; only = flush_only }

pub barrier_alone : IsAlone (codes "barrier") Barrier
barrier_alone = record { other = tt; valid = tt; text = refl; only = barrier_only }

pub status_alone : IsAlone (codes "status") Status
status_alone = record { other = tt; valid = tt; text = refl; only = status_only }

pub reads_alone : (first word : List ℕ) (words : List (List ℕ)) (job : Job) (result : Option Job) → IsAlone word job → first ≡ word
    → Reads result (λ only. (only ≡ job) × (words ≡ [])) → Reads result (λ also. IsOther also × IsJob also × (first ∷ words ≡ job_words [] also))
reads_alone first word words job None alone same none = λ also p. none job (refl, alone.only words also p.0 (ap (λ w. w ∷ words) (sym same) ∙ p.2))
reads_alone first word words job (Some only) alone same some =
    rw some.0 (alone.other, alone.valid, ap (λ w. w ∷ words) same ∙ ap (λ ws. word ∷ ws) some.1 ∙ sym alone.text)

-- contents are two words
pub fill_two : (digits kind value : List ℕ) (words more : List (List ℕ)) (fill : Fill) → kind ∷ value ∷ words ≡ fill_words digits fill ++ more
    → (kind ∷ value ∷ [] ≡ fill_words value fill) × (words ≡ more)
fill_two digits kind value words more (Same byte) is = (cc, cc)
fill_two digits kind value words more (Ramp start) is = (cc, cc)
fill_two digits kind value words more (Listed place) is = (cc, cc)

-- the first byte of the first word
abbrev mark_of : List (List ℕ) → ℕ
mark_of [] = 0
mark_of (word ∷ words) = slice_index word 0

pub no_same : (word value : List ℕ) → word ≡ codes "fill" → ((byte : ℕ) → ¬ ((byte < 2 ^ 8) × (value ≡ hex_byte byte))) → (at : ℕ) (fill : Fill) → ¬ (IsFill fill × IsFillAt at fill × (word ∷ value ∷ [] ≡ fill_words value fill))
no_same word value first none at (Same byte) p = (let is = p.2 in none byte (p.0, cc))
no_same word value first none at (Ramp start) p = omega (arith, ap mark_of (ap (λ w. w ∷ value ∷ []) (sym first) ∙ p.2))
no_same word value first none at (Listed place) p = omega (arith, ap mark_of (ap (λ w. w ∷ value ∷ []) (sym first) ∙ p.2))

pub no_flag : (word : List ℕ) (words rest : List (List ℕ)) → words ≡ word ∷ rest → ((flag : Flag) → ¬ (word ≡ flag_text flag)) → (set : Bool × Bool × Bool) → ¬ (words ≡ all_words set.0 set.1 set.2)
no_flag word words rest parts none (true, reliable, high) is = none Forced (cc)
no_flag word words rest parts none (false, true, high) is = none Reliable (cc)
no_flag word words rest parts none (false, false, true) is = none High (cc)
no_flag word words rest parts none (false, false, false) is = cc

pub no_later : (word : List ℕ) (words rest : List (List ℕ)) → words ≡ word ∷ rest → ((flag : Flag) → ¬ (word ≡ flag_text flag)) → (set : Bool × Bool) → ¬ (words ≡ later_words set.0 set.1)
no_later word words rest parts none (true, high) is = none Reliable (cc)
no_later word words rest parts none (false, true) is = none High (cc)
no_later word words rest parts none (false, false) is = cc

forced_only : (rest : List (List ℕ)) → ((set : Bool × Bool) → ¬ (rest ≡ later_words set.0 set.1)) → (set : Bool × Bool × Bool) → ¬ (codes "forced" ∷ rest ≡ all_words set.0 set.1 set.2)
forced_only rest none (true, reliable, high) is = none (reliable, high) (cc)
forced_only rest none (false, true, high) is = omega (arith, ap mark_of is)
forced_only rest none (false, false, true) is = omega (arith, ap mark_of is)
forced_only rest none (false, false, false) is = cc

pub no_forced : (word : List ℕ) (rest : List (List ℕ)) → word ≡ codes "forced" → ((set : Bool × Bool) → ¬ (rest ≡ later_words set.0 set.1)) → (set : Bool × Bool × Bool) → ¬ (word ∷ rest ≡ all_words set.0 set.1 set.2)
no_forced word rest first none set is = forced_only rest none set (ap (λ w. w ∷ rest) (sym first) ∙ is)

first_contents : (kind digits : List ℕ) (words more : List (List ℕ)) (fill : Fill) → ((contents : Contents) → ¬ (kind ≡ contents_text contents)) → kind ∷ words ≡ fill_words digits fill ++ more → ⊥
first_contents kind digits words more (Same byte) none is = none FillContents (cc)
first_contents kind digits words more (Ramp start) none is = none RampContents (cc)
first_contents kind digits words more (Listed place) none is = none HexContents (cc)

pub no_contents : (words more : List (List ℕ)) (sector blocks kind : List ℕ) → words ≡ sector ∷ blocks ∷ kind ∷ more → ((contents : Contents) → ¬ (kind ≡ contents_text contents))
    → (job : Job) (digits : List ℕ) → ¬ (codes "write" ∷ words ≡ job_words digits job)
no_contents words more sector blocks kind parts none (Read s n high) digits is = omega (arith, ap mark_of is)
no_contents words more sector blocks kind parts none (Write s n fill forced reliable high) digits is =
    let rest : kind ∷ more ≡ fill_words digits fill ++ all_words forced reliable high = cc in
    first_contents kind digits more (all_words forced reliable high) fill none rest
no_contents words more sector blocks kind parts none Flush digits is = omega (arith, ap mark_of is)
no_contents words more sector blocks kind parts none Barrier digits is = omega (arith, ap mark_of is)
no_contents words more sector blocks kind parts none Status digits is = omega (arith, ap mark_of is)

-- no write where its flags are none
pub no_write : (words more : List (List ℕ)) (sector blocks kind value : List ℕ) → words ≡ sector ∷ blocks ∷ kind ∷ value ∷ more
    → ((set : Bool × Bool × Bool) → ¬ (more ≡ all_words set.0 set.1 set.2))
    → (job : Job) (digits : List ℕ) → ¬ (codes "write" ∷ words ≡ job_words digits job)
no_write words more sector blocks kind value parts none (Read s n high) digits is = cc
no_write words more sector blocks kind value parts none (Write s n fill forced reliable high) digits is =
    let rest : kind ∷ value ∷ more ≡ fill_words digits fill ++ all_words forced reliable high = cc in
    none (forced, reliable, high) (fill_two digits kind value more (all_words forced reliable high) fill rest).1
no_write words more sector blocks kind value parts none Flush digits is = cc
no_write words more sector blocks kind value parts none Barrier digits is = cc
no_write words more sector blocks kind value parts none Status digits is = cc

-- the words of a request that is no write need no digits
pub other_words : (job : Job) (digits : List ℕ) → IsOther job → job_words digits job ≡ job_words [] job
other_words (Read sector blocks high) digits other = refl
other_words (Write sector blocks fill forced reliable high) digits other = absurd other
other_words Flush digits other = refl
other_words Barrier digits other = refl
other_words Status digits other = refl

-- a line that doesn't begin as a write is another request
pub is_other : (first digits : List ℕ) (words : List (List ℕ)) (job : Job) → first ≢ codes "write" → first ∷ words ≡ job_words digits job → IsOther job
is_other first digits words (Read sector blocks high) plain is = tt
is_other first digits words (Write sector blocks fill forced reliable high) plain is = plain (cc)
is_other first digits words Flush plain is = tt
is_other first digits words Barrier plain is = tt
is_other first digits words Status plain is = tt

-- the place of a request that is no write is any
pub other_placed : (job : Job) (at : ℕ) → IsOther job → IsPlacedAt at job
other_placed (Read sector blocks high) at other = tt
other_placed (Write sector blocks fill forced reliable high) at other = absurd other
other_placed Flush at other = tt
other_placed Barrier at other = tt
other_placed Status at other = tt
