-- A path by its parts, and what a write of the control and of the interrupt status leaves of registers that the driver set up.
use Rattle.std.proofs.Common.{◌≡◌, ◌∙◌, ◌⊎◌, ℕ, Bool, true, false, cond, not, [], inl, inr, refl, ap, sym, bit_and, bit_or, arith, lit<}
use Rattle.std.proofs.lemmas.Bool.{false≢true}
use Rattle.storage_model.specs.declared.plan.Plan.{Plan}
use Rattle.array_edge.specs.Array.{ArrayState}
use Rattle.host_mem.specs.Memory.{Memory}
use Rattle.bus_link.specs.Script.{Script}
use Rattle.card_core.specs.Card.{CardState}
use Rattle.card_link.specs.Behind.{Behind}
use Rattle.cq_engine.specs.Outcome.{Holding}
use Rattle.cq_regs.specs.Effects.{cleared, halt_complete, raised, without_bits}
use Rattle.cq_regs.specs.Slots.{IsRing, has_bit}
use Rattle.cq_regs.specs.State.{Registers}
use Rattle.drv_core.specs.Event.{acknowledged}
use Rattle.drv_jobs.specs.Standings.{Standings}
use Rattle.drv_recover.specs.Recovery.{all_cleared, cleaned, halted, resumed}
use Rattle.drv_recover.specs.declared.recovery.RecoveryState.{RecoveryState}
use Rattle.world_state.specs.Path.{PathState, behind_path}
use Rattle.world_state.specs.Ties.{HasSetUp}

-- a path by its parts
abbrev pub path_at : Standings → RecoveryState → Registers → Memory → Holding → CardState → Script → PathState
path_at requests recovery regs memory engine card script = record {
  driver = record { requests = requests; recovery = recovery };
  regs = regs;
  memory = memory;
  engine = engine;
  card = card;
  script = script;
}

pub path_is : (q : PathState) (requests : Standings) (recovery : RecoveryState) (regs : Registers) (memory : Memory) (engine : Holding) (card : CardState) (script : Script)
    → q.driver.requests ≡ requests → q.driver.recovery ≡ recovery → q.regs ≡ regs → q.memory ≡ memory → q.engine ≡ engine → q.card ≡ card → q.script ≡ script
    → q ≡ path_at requests recovery regs memory engine card script
path_is q requests recovery regs memory engine card script r s g m e c t = rw (sym r, sym s, sym g, sym m, sym e, sym c, sym t) refl

-- what stands behind the link
pub same_card : (p p' : PathState) (a a' : ArrayState) → behind_path p' a' ≡ behind_path p a → p'.card ≡ p.card
same_card p p' a a' e = ap (λ (b : Behind). b.card) e

pub same_script : (p p' : PathState) (a a' : ArrayState) → behind_path p' a' ≡ behind_path p a → p'.script ≡ p.script
same_script p p' a a' e = ap (λ (b : Behind). b.script) e

pub same_array : (p p' : PathState) (a a' : ArrayState) → behind_path p' a' ≡ behind_path p a → a' ≡ a
same_array p p' a a' e = ap (λ (b : Behind). b.array) e

-- the status of the task notice alone is enabled
pub enabled : (plan : Plan) (regs : Registers) → HasSetUp plan regs → regs.status_enable ≡ 2
enabled plan regs s = ap (λ (r : Registers). r.status_enable) s.same

-- so no other bit of the interrupt status is raised
unraised : (bit word enable : ℕ) → (word ≡ 0) ⊎ (word ≡ 2) → enable ≡ 2 → bit_or word (bit_and 1 enable) ≡ word
unraised bit word enable (inl z) two = rw (z, two) refl
unraised bit word enable (inr z) two = rw (z, two) refl

unraised_cleared : (word enable : ℕ) → (word ≡ 0) ⊎ (word ≡ 2) → enable ≡ 2 → bit_or word (bit_and 8 enable) ≡ word
unraised_cleared word enable (inl z) two = rw (z, two) refl
unraised_cleared word enable (inr z) two = rw (z, two) refl

-- halted
halted_if : (regs halts clears : Registers) (was : Bool) → was ≡ false → cond (not was) halts clears ≡ halts
halted_if regs halts clears true e = absurd (false≢true (sym e))
halted_if regs halts clears false e = refl

pub halted_is : (plan : Plan) (regs : Registers) → HasSetUp plan regs → regs.halted ≡ false → halted regs ≡ record regs { halted = true }
halted_is plan regs s runs =
    halted_if regs (raised (record regs { halted = true }) halt_complete) (cond (has_bit 1 8) (cleared regs) regs) regs.halted runs
    ∙ ap (λ n. record regs { halted = true; interrupts = n }) (unraised 1 regs.interrupts regs.status_enable s.notice (enabled plan regs s))

pub set_up_halted : (plan : Plan) (regs : Registers) → HasSetUp plan regs → HasSetUp plan (record regs { halted = true })
set_up_halted plan regs s = record {
  same = ap (λ (r : Registers). record r { halted = true }) s.same;
  notice = s.notice;
  ring = s.ring;
  small = s.small;
  counted = s.counted;
}

-- all tasks cleared
cleared_if : (regs halts clears : Registers) (was : Bool) → was ≡ true → cond (not was) halts clears ≡ clears
cleared_if regs halts clears true e = refl
cleared_if regs halts clears false e = absurd (false≢true e)

pub all_cleared_is : (plan : Plan) (regs : Registers) → HasSetUp plan regs → regs.halted ≡ true
    → all_cleared regs ≡ record regs { ring = []; stopped = false }
all_cleared_is plan regs s halts =
    cleared_if regs (raised (record regs { halted = true }) halt_complete) (cleared regs) regs.halted halts
    ∙ ap (λ n. record regs { ring = []; stopped = false; interrupts = n }) (unraised_cleared regs.interrupts regs.status_enable s.notice (enabled plan regs s))

ring_none : IsRing []
ring_none = record { apart = λ i j d low high. absurd (omega (arith, high)); below = λ k d low. absurd (omega (arith, low)); started = λ k d low. absurd (omega (arith, low)) }

pub set_up_cleared : (plan : Plan) (regs : Registers) → HasSetUp plan regs → HasSetUp plan (record regs { ring = []; stopped = false })
set_up_cleared plan regs s = record {
  same = ap (λ (r : Registers). record r { ring = []; stopped = false }) s.same;
  notice = s.notice;
  ring = ring_none;
  small = s.small;
  counted = s.counted;
}

-- what was notified is cleared
no_notice : (word : ℕ) → (word ≡ 0) ⊎ (word ≡ 2) → without_bits word 0xf ≡ 0
no_notice word (inl z) = rw z refl
no_notice word (inr z) = rw z refl

pub cleaned_is : (plan : Plan) (regs : Registers) → HasSetUp plan regs → regs.completed ≡ 0 → cleaned regs ≡ record regs { interrupts = 0; completed = 0 }
cleaned_is plan regs s none =
    ap (λ n. record regs { interrupts = n; completed = without_bits regs.completed 0xffff_ffff }) (no_notice regs.interrupts s.notice)
    ∙ ap (λ n. record regs { interrupts = 0; completed = without_bits n 0xffff_ffff }) none

pub set_up_cleaned : (plan : Plan) (regs : Registers) → HasSetUp plan regs → HasSetUp plan (record regs { interrupts = 0; completed = 0 })
set_up_cleaned plan regs s = record {
  same = ap (λ (r : Registers). record r { interrupts = 0; completed = 0 }) s.same;
  notice = inl refl;
  ring = s.ring;
  small = lit< tt;
  counted = s.counted;
}

-- resumed
pub set_up_resumed : (plan : Plan) (regs : Registers) → HasSetUp plan regs → HasSetUp plan (resumed regs)
set_up_resumed plan regs s = record {
  same = ap (λ (r : Registers). record r { halted = false }) s.same;
  notice = s.notice;
  ring = s.ring;
  small = s.small;
  counted = s.counted;
}

-- the tasks' notice acknowledged
no_task_notice : (word : ℕ) → (word ≡ 0) ⊎ (word ≡ 2) → without_bits word 2 ≡ 0
no_task_notice word (inl z) = rw z refl
no_task_notice word (inr z) = rw z refl

pub acknowledged_is : (plan : Plan) (regs : Registers) → HasSetUp plan regs → acknowledged regs ≡ record regs { completed = 0; interrupts = 0 }
acknowledged_is plan regs s = ap (λ n. record regs { completed = 0; interrupts = n }) (no_task_notice regs.interrupts s.notice)
