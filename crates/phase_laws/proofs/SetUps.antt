-- What a driver set up in the registers stays, and what a completed task counts and notifies.
use Rattle.std.proofs.Common.{◌≡◌, ◌≢◌, ◌<◌, ◌≤◌, ◌⊎◌, ◌+◌, ◌*◌, ◌^◌, ◌==◌, ◌&&◌, ℕ, refl, sym, ◌∙◌, ap, subst, arith, inl, inr}
use Rattle.std.specs.Prelude.{Bool, true, false, not, nat_le, cond, ◌||◌}
use Rattle.cq_words.specs.Fields.{field_of}
use Rattle.std.specs.Int.{bit_at}
use Rattle.std.specs.Int.RustNames.{bit_and, bit_or}
use Rattle.std.proofs.lemmas.Bool.{false≢true, leb-false}
use Rattle.std.proofs.lemmas.Nat.Bits.{bit_at_or, bit_at-pow_other, bit_at-pow_same, bit_at-lt}
use Rattle.std.proofs.lemmas.Nat.{or_of_32}
use Rattle.std.proofs.Math.Pow.{pow-lt}
use Rattle.cq_regs.specs.State.{Registers}
use Rattle.cq_regs.specs.Slots.{has_bit, without}
use Rattle.cq_regs.specs.Coalesce.{counted, ic_written, one_more, reaches, restarted}
use Rattle.cq_regs.specs.Effects.{at_reset, completed, counted_in, raised, response_error, task_complete, with_coalescing}
use Rattle.cq_engine.specs.Standings.{SetUp, set_up_of}
use Rattle.storage_model.specs.declared.plan.Plan.{Plan}
use Rattle.drv_core.specs.SetUp.{coalescing_word, set_up}

-- the registers that a run leaves, from what the set up wrote
abbrev pub with_set_up : Registers → SetUp → ℕ → Registers
with_set_up r s timer = record r {
  configuration = s.configuration;
  status_enable = s.status_enable;
  signal_enable = s.signal_enable;
  coalescing = record { enabled = s.counts; threshold = s.threshold; timeout = s.timeout; counter = r.coalescing.counter; timer = timer };
  list_base = s.list_base;
  list_base_upper = s.list_base_upper;
  send_status_1 = s.send_status_1;
  send_status_2 = s.send_status_2;
  error_mask = s.error_mask;
}

abbrev pub as_set_up : Plan → Registers → Registers
as_set_up plan regs = record (set_up plan at_reset) {
  halted = regs.halted;
  stopped = regs.stopped;
  interrupts = regs.interrupts;
  coalescing = record (set_up plan at_reset).coalescing { counter = regs.coalescing.counter };
  ring = regs.ring;
  completed = regs.completed;
  queue_status = regs.queue_status;
  direct_response = regs.direct_response;
  error_information = regs.error_information;
  response_index = regs.response_index;
  response_argument = regs.response_argument;
}

-- what was set up stays
pub set_up_stays : (plan : Plan) (r r' : Registers) → r ≡ as_set_up plan r → set_up_of r' ≡ set_up_of r → r'.coalescing.timer ≡ r.coalescing.timer
    → r' ≡ as_set_up plan r'
set_up_stays plan r r' e same timer =
    ap (λ s. with_set_up r' s r'.coalescing.timer) (same ∙ ap set_up_of e)
    ∙ ap (λ n. with_set_up r' (set_up_of (as_set_up plan r)) n) (timer ∙ ap (λ x. x.coalescing.timer) e)

-- ---- a completed task

-- a plan's threshold, where it counts completions, in the register
abbrev pub Thresholds : ℕ → Registers → Type 0
Thresholds n r = (r.coalescing.enabled ≡ true) × (r.coalescing.threshold ≡ n) × ((n == 0) ≡ false)

word_of : (n : ℕ) (none : Bool) → none ≡ false → cond none 0 (2147516545 + 256 * n) ≡ 2147516545 + 256 * n
word_of n true e = absurd (false≢true (sym e))
word_of n false e = refl

bit_31 : (n : ℕ) → n ≤ 31 → bit_at (2147516545 + 256 * n) 31 ≡ 1
bit_31 n low = omega arith

bit_15 : (n : ℕ) → n ≤ 31 → bit_at (2147516545 + 256 * n) 15 ≡ 1
bit_15 n low = omega arith

field_8 : (n : ℕ) → n ≤ 31 → field_of (2147516545 + 256 * n) 8 5 ≡ n
unfolding field_of
field_8 n low = omega arith

thresholds_word : (n w : ℕ) → n ≤ 31 → w ≡ 2147516545 + 256 * n
    → ((ic_written at_reset.coalescing w).enabled ≡ true) × ((ic_written at_reset.coalescing w).threshold ≡ n)
thresholds_word n w low e = (
  ap (λ b. b == 1) (ap (λ v. bit_at v 31) e ∙ bit_31 n low),
  ap (λ b. cond (b == 1) (field_of w 8 5) 0) (ap (λ v. bit_at v 15) e ∙ bit_15 n low) ∙ ap (λ v. field_of v 8 5) e ∙ field_8 n low,
)

pub thresholds : (plan : Plan) (r : Registers) → r ≡ as_set_up plan r → plan.coalesce ≤ 31 → (plan.coalesce == 0) ≡ false → Thresholds plan.coalesce r
thresholds plan r e low some =
    let w = thresholds_word plan.coalesce (coalescing_word plan.coalesce) low (word_of plan.coalesce (plan.coalesce == 0) some) in
    (ap (λ x. x.coalescing.enabled) e ∙ w.0, ap (λ x. x.coalescing.threshold) e ∙ w.1, some)

no_timer : (b : Bool) → ◌≡◌ {A = ℕ} (cond b 0 0) 0
no_timer true = refl
no_timer false = refl

pub timer_none : (plan : Plan) (r : Registers) → r ≡ as_set_up plan r → r.coalescing.timer ≡ 0
timer_none plan r e = ap (λ x. x.coalescing.timer) e ∙ no_timer (has_bit (coalescing_word plan.coalesce) 16)

-- the task notice is set, or the counter has counted
abbrev pub is_full : ℕ → ℕ → Bool
is_full threshold counter = nat_le threshold (counter + 1)

-- The registers after a task was completed: it is notified at once where it asks for that, else it is counted.
pub record Completes (threshold slot : ℕ) (int : Bool) (base r : Registers) : Type 0 where
  pub ring : r.ring ≡ without base.ring slot
  pub completed : r.completed ≡ bit_or base.completed (2 ^ slot)
  pub stopped : r.stopped ≡ base.stopped
  pub direct_response : r.direct_response ≡ base.direct_response
  pub timer : r.coalescing.timer ≡ 0
  pub interrupts : r.interrupts ≡ cond (int || is_full threshold base.coalescing.counter) 2 base.interrupts
  pub counter : r.coalescing.counter ≡ cond int base.coalescing.counter (cond (is_full threshold base.coalescing.counter) 0 (base.coalescing.counter + 1))

two_set : (interrupts enable : ℕ) → enable ≡ 2 → (interrupts ≡ 0) ⊎ (interrupts ≡ 2) → bit_or interrupts (bit_and task_complete enable) ≡ 2
two_set interrupts enable e (inl none) = ap (λ n. bit_or interrupts (bit_and 2 n)) e ∙ ap (λ n. bit_or n 2) none
two_set interrupts enable e (inr two) = ap (λ n. bit_or interrupts (bit_and 2 n)) e ∙ ap (λ n. bit_or n 2) two

and_yes : (b : Bool) → (b && true) ≡ b
and_yes true = refl
and_yes false = refl

full_is : (n threshold enable : ℕ) → n ≤ threshold → threshold ≤ 31 → (threshold == 0) ≡ false → enable ≡ 2
    → (reaches (one_more n) threshold && has_bit enable 1) ≡ is_full threshold n
full_is n threshold enable low most some e =
    let same : one_more n ≡ n + 1 = omega arith in
    ap (λ b. (not b && nat_le threshold (one_more n)) && has_bit enable 1) some
    ∙ ap (λ m. nat_le threshold m && has_bit enable 1) same
    ∙ ap (λ m. nat_le threshold (n + 1) && has_bit m 1) e
    ∙ and_yes (nat_le threshold (n + 1))

completes_if : (threshold slot : ℕ) (base : Registers) (full : Bool) → is_full threshold base.coalescing.counter ≡ full → base.coalescing.timer ≡ 0
    → base.status_enable ≡ 2 → (base.interrupts ≡ 0) ⊎ (base.interrupts ≡ 2) → base.coalescing.counter ≤ threshold → threshold ≤ 31
    → let regs = with_coalescing (record base { ring = without base.ring slot; completed = bit_or base.completed (2 ^ slot) }) (counted base.coalescing) in
    Completes threshold slot false base (cond full (record (raised regs task_complete) { coalescing = restarted regs.coalescing }) regs)
completes_if threshold slot base true full timer status interrupts low most = record {
  ring = refl;
  completed = refl;
  stopped = refl;
  direct_response = refl;
  timer = refl;
  interrupts = two_set base.interrupts base.status_enable status interrupts ∙ sym (ap (λ b. cond b 2 base.interrupts) full);
  counter = sym (ap (λ b. cond b 0 (base.coalescing.counter + 1)) full);
}
completes_if threshold slot base false full timer status interrupts low most = record {
  ring = refl;
  completed = refl;
  stopped = refl;
  direct_response = refl;
  timer = timer;
  interrupts = sym (ap (λ b. cond b 2 base.interrupts) full);
  counter =
      let same : one_more base.coalescing.counter ≡ base.coalescing.counter + 1 = omega arith in
      same ∙ sym (ap (λ b. cond b 0 (base.coalescing.counter + 1)) full);
}

pub completes : (threshold slot : ℕ) (int : Bool) (base : Registers) → base.coalescing.timer ≡ 0
    → base.status_enable ≡ 2 → (base.interrupts ≡ 0) ⊎ (base.interrupts ≡ 2) → base.coalescing.counter ≤ threshold → threshold ≤ 31
    → (int ≡ false → Thresholds threshold base) → Completes threshold slot int base (completed base slot int)
completes threshold slot true base timer status interrupts low most t = record {
  ring = refl;
  completed = refl;
  stopped = refl;
  direct_response = refl;
  timer = timer;
  interrupts = two_set base.interrupts base.status_enable status interrupts;
  counter = refl;
}
completes threshold slot false base timer status interrupts low most t =
    let regs : Registers = record base { ring = without base.ring slot; completed = bit_or base.completed (2 ^ slot) } in
    let counting : Registers = with_coalescing regs (counted base.coalescing) in
    let th = t refl in
    let C : Registers → Type 0 = λ r. Completes threshold slot false base r in
    let noted : Registers = record (raised counting task_complete) { coalescing = restarted counting.coalescing } in
    let due : (reaches (one_more base.coalescing.counter) base.coalescing.threshold && has_bit base.status_enable 1) ≡ is_full threshold base.coalescing.counter =
    ap (λ n. reaches (one_more base.coalescing.counter) n && has_bit base.status_enable 1) th.1
    ∙ full_is base.coalescing.counter threshold base.status_enable low most th.2 status in
    let is : completed base slot false ≡ cond (is_full threshold base.coalescing.counter) noted counting =
    ap (λ b. cond b (counted_in regs) regs) th.0 ∙ ap (λ b. cond b noted counting) due in
    subst C (sym is) (completes_if threshold slot base (is_full threshold base.coalescing.counter) refl timer status interrupts low most)

-- ---- what of it the driver sees

both_notices : (i threshold counter : ℕ) (int full : Bool) → (i ≡ 0) ⊎ (i ≡ 2)
    → (cond (int || full) 2 i ≡ 0) ⊎ (cond (int || full) 2 i ≡ 2)
both_notices i threshold counter true full h = inr refl
both_notices i threshold counter false true h = inr refl
both_notices i threshold counter false false h = h

pub notices : (threshold slot : ℕ) (int : Bool) (base r : Registers) → Completes threshold slot int base r → (base.interrupts ≡ 0) ⊎ (base.interrupts ≡ 2)
    → (r.interrupts ≡ 0) ⊎ (r.interrupts ≡ 2)
notices threshold slot int base r c h =
    let P : ℕ → Type 0 = λ n. (n ≡ 0) ⊎ (n ≡ 2) in
    subst P (sym c.interrupts) (both_notices base.interrupts threshold base.coalescing.counter int (is_full threshold base.coalescing.counter) h)

few_counted : (threshold counter : ℕ) (int full : Bool) → is_full threshold counter ≡ full → counter ≤ threshold
    → cond int counter (cond full 0 (counter + 1)) ≤ threshold
few_counted threshold counter true full e low = low
few_counted threshold counter false true e low = omega arith
few_counted threshold counter false false e low = let more : counter + 1 < threshold = leb-false threshold (counter + 1) e in omega arith

pub counts_few : (threshold slot : ℕ) (int : Bool) (base r : Registers) → Completes threshold slot int base r → base.coalescing.counter ≤ threshold
    → r.coalescing.counter ≤ threshold
counts_few threshold slot int base r c low =
    let P : ℕ → Type 0 = λ n. n ≤ threshold in
    subst P (sym c.counter) (few_counted threshold base.coalescing.counter int (is_full threshold base.coalescing.counter) refl low)

told_by : (i threshold counter : ℕ) (int full : Bool)
    → (has_bit (cond (int || full) 2 i) 1 ≡ true) ⊎ (0 < cond int counter (cond full 0 (counter + 1)))
told_by i threshold counter true full = inl refl
told_by i threshold counter false true = inl refl
told_by i threshold counter false false = inr (omega arith)

-- it is noticed or counted
pub is_told : (threshold slot : ℕ) (int : Bool) (base r : Registers) → Completes threshold slot int base r
    → (has_bit r.interrupts 1 ≡ true) ⊎ (0 < r.coalescing.counter)
is_told threshold slot int base r c =
    let P : ℕ → ℕ → Type 0 = λ i n. (has_bit i 1 ≡ true) ⊎ (0 < n) in
    let full = is_full threshold base.coalescing.counter in
    subst (λ i. P i r.coalescing.counter) (sym c.interrupts)
    (subst (λ n. P (cond (int || full) 2 base.interrupts) n) (sym c.counter) (told_by base.interrupts threshold base.coalescing.counter int full))

-- ---- the completion's bit

pub done_same : (word slot : ℕ) → has_bit (bit_or word (2 ^ slot)) slot ≡ true
done_same word slot =
    let or = bit_at_or word (2 ^ slot) slot in
    let here = bit_at-pow_same slot in
    let less = bit_at-lt word slot in
    let one : bit_at (bit_or word (2 ^ slot)) slot ≡ 1 = omega (arith, or, here, less) in
    ap (λ n. n == 1) one

pub done_other : (word slot tag : ℕ) → tag ≢ slot → has_bit (bit_or word (2 ^ slot)) tag ≡ has_bit word tag
done_other word slot tag apart =
    let or = bit_at_or word (2 ^ slot) tag in
    let there = bit_at-pow_other slot tag apart in
    let same : bit_at (bit_or word (2 ^ slot)) tag ≡ bit_at word tag = omega (arith, or, there) in
    ap (λ n. n == 1) same

pub done_small : (word slot : ℕ) → word < 2 ^ 32 → slot < 32 → bit_or word (2 ^ slot) < 2 ^ 32
done_small word slot small below = or_of_32 word (2 ^ slot) small (pow-lt below)

-- ---- a stop

-- a stop's bit of the interrupt status is not enabled
pub stop_unseen : (interrupts enable : ℕ) → enable ≡ 2 → (interrupts ≡ 0) ⊎ (interrupts ≡ 2) → bit_or interrupts (bit_and response_error enable) ≡ interrupts
stop_unseen interrupts enable e (inl none) = ap (λ n. bit_or interrupts (bit_and response_error n)) e ∙ ap (λ n. bit_or n 0) none ∙ sym none
stop_unseen interrupts enable e (inr two) = ap (λ n. bit_or interrupts (bit_and response_error n)) e ∙ ap (λ n. bit_or n 0) two ∙ sym two
