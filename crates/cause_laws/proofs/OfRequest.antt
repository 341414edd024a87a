-- An event of the engine in which power is lost is one of an issued request.
use Rattle.std.proofs.Common.{◌≡◌, ◌≢◌, ◌≤◌, ◌<◌, ◌+◌, ℕ, zero, suc, Bool, true, false, refl, sym, ◌∙◌, ap, subst, arith, List, [], ◌∷◌, cond}
use Rattle.std.specs.Prelude.{Option, None, Some, is_some, count_by}
use Rattle.std.specs.Option.{option_map_or}
use Rattle.std.proofs.lemmas.Bool.{false≢true}
use Rattle.std.proofs.lemmas.List.Sums.{sum_by-cons}
use Rattle.storage_machine.specs.Jobs.{is_direct}
use Rattle.array_edge.specs.Array.{ArrayState}
use Rattle.card_core.specs.declared.phase.Phase.{Phase}
use Rattle.cq_engine.specs.declared.did.Did.{Did}
use Rattle.cq_regs.specs.Slots.{is_rung, progress_of}
use Rattle.cq_regs.specs.declared.slots.Progress.TheVariants.{Active}
use Rattle.cq_schedule.specs.Held.{Places, remembered}
use Rattle.cq_schedule.specs.Meaning.{HasItsSlot, IsDue}
use Rattle.cq_schedule.specs.declared.rules.Due.{Due}
use Rattle.cq_schedule.specs.declared.rules.Due.TheVariants.{Rest, Block, Close, Address, Serve, Execute, Poll, Tick}
use Rattle.drv_jobs.specs.Standings.{holder_of}
use Rattle.command_laws.specs.Commands.{CommandPower}
use Rattle.command_laws.proofs.Running.{issued as issued_at, running}
use Rattle.fall_laws.specs.Falls.{EngineGoesOn}
use Rattle.world_state.specs.Engine.{EngineEvent, is_dark}
use Rattle.world_state.specs.Path.{PathState, holder, job}
use Rattle.world_state.specs.Steps.{is_of_phase}
use Rattle.world_state.specs.Ties.{AreTied}
use Rattle.world_state.specs.Work.{issued}
use Rattle.cause_laws.specs.Falls.{DarkIsOfRequest}

-- a tag that is issued is counted
abbrev one_if : Option ℕ → ℕ
one_if holder = cond (is_some holder) 1 0

some_counted : (holders : List (Option ℕ)) (tag : ℕ) → is_some (holder_of holders tag) ≡ true → 1 ≤ count_by is_some holders
some_counted [] tag some = absurd (false≢true some)
some_counted (holder ∷ holders) zero some =
    let sum = sum_by-cons one_if holder holders in
    let first : one_if holder ≡ 1 = ap (λ b. cond b 1 0) some in
    omega (arith, sum, first)
some_counted (holder ∷ holders) (suc tag) some =
    let sum = sum_by-cons one_if holder holders in
    let rest = some_counted holders tag some in
    omega (arith, sum, rest)

-- the slot of a phase is rung
active_issued : (p : PathState) (held : Places) (due : Due) (slot : ℕ) → AreTied p → IsDue held p.regs p.memory due → due ≢ Rest → due ≢ Tick → slot < 32
    → progress_of p.regs.ring slot ≡ Active → 1 ≤ issued p
active_issued p held due slot t is no_rest no_tick below at =
    let r = running p held due t is no_rest no_tick in
    let i = issued_at p slot t r.calm below (ap is_rung at) in
    some_counted p.driver.requests.holders slot (ap is_some i.is)

direct_issued : (test : ℕ → Bool) (h : Option ℕ) → option_map_or test h false ≡ true → is_some h ≡ true
direct_issued test None e = e
direct_issued test (Some id) e = refl

due_issued : (p : PathState) (held : Places) (due : Due) → AreTied p → IsDue held p.regs p.memory due → HasItsSlot held p.regs due → is_of_phase p due ≡ true
    → 1 ≤ issued p
due_issued p held Rest t is slot of = absurd (false≢true of)
due_issued p held (Block slot k) t is has of =
    active_issued p held (Block slot k) slot t is (λ e. cc e) (λ e. cc e) has.0.below has.0.is_at
due_issued p held (Close slot) t is has of =
    active_issued p held (Close slot) slot t is (λ e. cc e) (λ e. cc e) has.0.below has.0.is_at
due_issued p held (Address slot) t is has of = absurd (false≢true of)
due_issued p held (Serve slot) t is has of =
    some_counted p.driver.requests.holders slot (direct_issued (λ id. is_direct (job p id)) (holder p slot) of)
due_issued p held (Execute slot) t is has of = absurd (false≢true of)
due_issued p held Poll t is has of = absurd (false≢true of)
due_issued p held Tick t is has of = absurd (false≢true of)

-- a command of the queue loses no power
phase_by : (b dark : Bool) → (b ≡ false → dark ≡ false) → dark ≡ true → b ≡ true
phase_by true dark lit is = refl
phase_by false dark lit is = absurd (false≢true (sym (lit refl) ∙ is))

pub dark_of_request : CommandPower → EngineGoesOn → DarkIsOfRequest
dark_of_request power goes p a p' a' did phase e t dark =
    let of = phase_by (is_of_phase p e.event.acts.due) (is_dark did) (λ of. power p a p' a' did phase e of t) dark in
    record {
      some = due_issued p (remembered p.engine.held p.regs) e.event.acts.due t e.event.acts.is_due e.event.acts.slot of;
      driver = e.driver;
      script = goes p a p' a' did phase e t;
    }
