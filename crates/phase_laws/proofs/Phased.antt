-- A phase's line in the storage machine, and the line of its fault behind it.
use Rattle.std.proofs.Common.{◌≡◌, ◌++◌, ◌==◌, ◌&&◌, ◌||◌, ℕ, refl, sym, ◌∙◌, ap, subst}
use Rattle.std.specs.Prelude.{Bool, true, false, not, cond, Option, Some, None, is_none, length, List, [], ◌∷◌}
use Rattle.std.proofs.lemmas.Bool.{and_right, eq-eqb, or_left}
use Rattle.storage_machine.specs.Commands.{due, hit, id_on, is_calm, is_gone, is_lost, next_number, same_kind}
use Rattle.storage_machine.specs.Cuts.{least}
use Rattle.storage_machine.specs.Jobs.{is_in_range, job_of, may_keep, may_move, must_keep, phase_blocks}
use Rattle.storage_machine.specs.declared.commands.DueCommand.TheVariants.{Direct, Execute}
use Rattle.storage_machine.specs.declared.state.Event.TheVariants.{Told, Untold}
use Rattle.storage_machine.specs.declared.state.Owed.{Owed}
use Rattle.storage_machine.specs.declared.state.Owed.TheVariants.{Bus as BusOwed, Flash as FlashOwed, Nothing}
use Rattle.storage_machine.specs.declared.state.State.{State}
use Rattle.storage_machine.specs.declared.state.Stop.{Stop}
use Rattle.storage_machine.specs.declared.state.Stop.TheVariants.{Bus as BusStop, Flash as FlashStop}
use Rattle.storage_model.specs.Keep.{keep_base, keep_pend}
use Rattle.storage_model.specs.declared.block.Block.{Block}
use Rattle.storage_model.specs.declared.faults.BusKind.{BusKind}
use Rattle.storage_model.specs.declared.faults.BusKind.TheVariants.{Bad, Late, Lost, NoResp}
use Rattle.storage_model.specs.declared.faults.Letter.TheVariants.{Engine as EngineActs}
use Rattle.storage_model.specs.declared.marks.Mark.{Mark}
use Rattle.storage_model.specs.declared.plan.Job.{Job}
use Rattle.storage_model.specs.declared.trace.Item.{Item}
use Rattle.storage_model.specs.declared.trace.Item.TheVariants.{Bus as BusLine, Flash as FlashLine, Phase as PhaseLine}
use Rattle.storage_order.specs.Events.{Begins, Fits, Happens, More, goes_on, is_untold}
use Rattle.trace_effects.specs.Effects.{after_bus, after_flash, begun, effect, named_more, uses_word, words_used}
use Rattle.trace_effects.specs.Phases.{after_blocks, after_done, after_keep, after_phase, bars_with, closed_by, done_with, is_empty, marks_of, named_by, phase_by, read_sectors}
use Rattle.trace_rules.specs.Lines.{bus_holds, flash_holds, holds, is_for, is_free, line_rule, owing, owing_past, rule_of}
use Rattle.trace_rules.specs.Phases.{is_phase_of, is_whole, most_blocks, owed_by, phase_holds, tag_due}

abbrev pub told : State → State
told s = record s { owed = Nothing; event = Told EngineActs }

-- ---- what blocks leave of contents

abbrev pub pend_with : State → Job → ℕ → List Mark
pend_with s job count = s.pend ++ marks_of s job count

abbrev pub base_after : State → Job → ℕ → Bool → List Block
base_after s job count kept = cond kept (keep_base (named_by job) s.base (pend_with s job count)) s.base

abbrev pub pend_after : State → Job → ℕ → Bool → List Mark
pend_after s job count kept = cond kept (keep_pend (named_by job) (pend_with s job count)) (pend_with s job count)

abbrev pub kept_after : State → Job → ℕ → Bool → Bool
kept_after s job count kept = not (is_empty (pend_after s job count kept)) && (s.kept || must_keep s.plan.through job)

abbrev pub with_blocks : State → Job → ℕ → Bool → State
with_blocks s job count kept = record s {
  base = base_after s job count kept;
  pend = pend_after s job count kept;
  bars = bars_with s.bars job;
  kept = kept_after s job count kept;
}

pub blocks_state : (s : State) (job : Job) (count : ℕ) (kept : Bool) → after_blocks s job count kept ≡ with_blocks s job count kept
unfolding after_blocks after_keep
blocks_state s job count true = refl
blocks_state s job count false = refl

-- a phase that broke off, or whose fault is still to be told
abbrev pub broken : State → Job → ℕ → Bool → ℕ → Owed → State
broken s job count kept n owed = record (with_blocks s job count kept) { n = n; busy = false; spent = 0; owed = owed; event = Untold }

-- and once that was told
abbrev pub stopped_by : State → Job → ℕ → Bool → ℕ → List ℕ → Stop → State
stopped_by s job count kept n named stop =
    record (with_blocks s job count kept) { n = n; busy = false; spent = 0; owed = Nothing; event = Untold; named = named; stop = stop }

-- ---- the phase's line holds

pub told_due : (s : State) → due (told s) ≡ due s
unfolding due
told_due s = refl

pub told_hit : (s : State) → hit (told s) ≡ hit s
unfolding due hit
told_hit s = refl

-- what is asked of a phase's line beside its number and its command
pub record Moves (s : State) (slot id count : ℕ) (kept : Bool) (kind : Option BusKind) (job : Job) : Type 0 where
  pub job_is : job_of s.plan.jobs id ≡ job
  pub is_id : (id_on s slot == id) ≡ true
  pub hit_is : hit s ≡ kind
  pub few : may_move job (most_blocks kind (phase_blocks job)) count ≡ true
  pub keeps : may_keep s.plan.through job count kept ≡ true
  pub inside : is_in_range job (length s.base) ≡ true

abbrev moves_test : State → ℕ → ℕ → ℕ → Bool → Option BusKind → Job → Bool
moves_test s slot id count kept kind job =
    (id_on s slot == id) && (may_move job (most_blocks kind (phase_blocks job)) count && (may_keep s.plan.through job count kept && is_in_range job (length s.base)))

moves_hold : (s : State) (slot id count : ℕ) (kept : Bool) (kind : Option BusKind) (job : Job) → Moves s slot id count kept kind job
    → moves_test s slot id count kept (hit (told s)) (job_of s.plan.jobs id) ≡ true
moves_hold s slot id count kept kind job m =
    ap (λ k. moves_test s slot id count kept k (job_of s.plan.jobs id)) (told_hit s ∙ m.hit_is)
    ∙ ap (moves_test s slot id count kept kind) m.job_is
    ∙ ap (λ b. b && (may_move job (most_blocks kind (phase_blocks job)) count && (may_keep s.plan.through job count kept && is_in_range job (length s.base)))) m.is_id
    ∙ ap (λ b. b && (may_keep s.plan.through job count kept && is_in_range job (length s.base))) m.few
    ∙ ap (λ b. b && is_in_range job (length s.base)) m.keeps
    ∙ m.inside

pub execute_holds : (s : State) (slot id count n : ℕ) (kept : Bool) (kind : Option BusKind) (job : Job) → due s ≡ Execute slot → n ≡ next_number s
    → is_gone kind ≡ false → Moves s slot id count kept kind job → phase_holds (told s) n id count kept ≡ true
unfolding phase_holds
execute_holds s slot id count n kept kind job is number heard m =
    ap (λ d. (n == next_number s) && is_phase_of (told s) id count kept d) (told_due s ∙ is)
    ∙ ap (λ b. b && (not (is_gone (hit (told s))) && moves_test s slot id count kept (hit (told s)) (job_of s.plan.jobs id))) (eq-eqb n (next_number s) number)
    ∙ ap (λ b. not b && moves_test s slot id count kept (hit (told s)) (job_of s.plan.jobs id)) (ap is_gone (told_hit s ∙ m.hit_is) ∙ heard)
    ∙ moves_hold s slot id count kept kind job m

pub direct_holds : (s : State) (slot id count n : ℕ) (kept : Bool) (kind : Option BusKind) (job : Job) → due s ≡ Direct slot → n ≡ next_number s
    → is_lost kind ≡ false → Moves s slot id count kept kind job → phase_holds (told s) n id count kept ≡ true
unfolding phase_holds
direct_holds s slot id count n kept kind job is number heard m =
    ap (λ d. (n == next_number s) && is_phase_of (told s) id count kept d) (told_due s ∙ is)
    ∙ ap (λ b. b && (not (is_lost (hit (told s))) && moves_test s slot id count kept (hit (told s)) (job_of s.plan.jobs id))) (eq-eqb n (next_number s) number)
    ∙ ap (λ b. not b && moves_test s slot id count kept (hit (told s)) (job_of s.plan.jobs id)) (ap is_lost (told_hit s ∙ m.hit_is) ∙ heard)
    ∙ moves_hold s slot id count kept kind job m

-- ---- what the line does

pub phase_effect : (s : State) (slot id count n : ℕ) (kept : Bool) (kind : Option BusKind) (job : Job) → tag_due (due s) ≡ slot → hit s ≡ kind
    → job_of s.plan.jobs id ≡ job → effect (told s) (PhaseLine n id count kept) ≡ phase_by (told s) job slot kind n id count kept
unfolding effect after_phase
phase_effect s slot id count n kept kind job tag is j =
    ap (λ d. phase_by (told s) (job_of s.plan.jobs id) (tag_due d) (hit (told s)) n id count kept) (told_due s)
    ∙ ap (λ t. phase_by (told s) (job_of s.plan.jobs id) t (hit (told s)) n id count kept) tag
    ∙ ap (λ k. phase_by (told s) (job_of s.plan.jobs id) slot k n id count kept) (told_hit s ∙ is)
    ∙ ap (λ x. phase_by (told s) x slot kind n id count kept) j

-- a phase that isn't done
pub broken_effect : (s : State) (slot id count n : ℕ) (kept : Bool) (kind : Option BusKind) (job : Job) (owed : Owed) → tag_due (due s) ≡ slot → hit s ≡ kind
    → job_of s.plan.jobs id ≡ job → (is_whole s.plan.through job count kept && is_none kind) ≡ false
    → owed_by kind (is_whole s.plan.through job count kept) n id count ≡ owed
    → effect (told s) (PhaseLine n id count kept) ≡ broken s job count kept n owed
broken_effect s slot id count n kept kind job owed tag is j undone owes =
    phase_effect s slot id count n kept kind job tag is j
    ∙ ap (λ x. closed_by (done_with x slot id job (read_sectors (told s) job) (is_whole s.plan.through job count kept && is_none kind)) n
    (owed_by kind (is_whole s.plan.through job count kept) n id count)) (blocks_state (told s) job count kept)
    ∙ ap (λ b. closed_by (cond b (after_done (with_blocks (told s) job count kept) slot id job (read_sectors (told s) job)) (with_blocks (told s) job count kept)) n
    (owed_by kind (is_whole s.plan.through job count kept) n id count)) undone
    ∙ ap (closed_by (with_blocks (told s) job count kept) n) owes

-- ---- the phase's line fits

phase_fits : (s : State) (n id count : ℕ) (kept : Bool) → phase_holds (told s) n id count kept ≡ true → Fits (told s) (PhaseLine n id count kept)
unfolding line_rule holds
phase_fits s n id count kept h = record {
  line =
      ap (λ b. cond b (cond (is_for (told s).owed (PhaseLine n id count kept)) None (owing (told s).owed))
      (least (owing_past (told s) (PhaseLine n id count kept)) (rule_of (PhaseLine n id count kept)))) h;
  stands = refl;
  first = refl;
}

pub phase_begins : (s t : State) (n id count : ℕ) (kept : Bool) (items : List Item) → phase_holds (told s) n id count kept ≡ true
    → More (effect (told s) (PhaseLine n id count kept)) items t → Begins (told s) (PhaseLine n id count kept) items t
phase_begins s t n id count kept items h more = record {
  told = refl;
  first = phase_fits s n id count kept h;
  phase = ap not (and_right s.busy false refl);
  more = more;
}

same_kinds : (kind : BusKind) → same_kind kind kind ≡ true
same_kinds Lost = refl
same_kinds NoResp = refl
same_kinds (Bad n) = eq-eqb n n refl
same_kinds Late = refl

bus_fits : (s : State) (job : Job) (count n id : ℕ) (kept : Bool) (kind : BusKind) → is_calm s.recovery ≡ true
    → Fits (broken s job count kept n (BusOwed n id kind)) (BusLine n kind (Some id))
unfolding line_rule holds bus_holds
bus_fits s job count n id kept kind calm =
    let b : State = broken s job count kept n (BusOwed n id kind) in
    record {
      line =
          ap (λ x. cond (x && ((id == id) && same_kind kind kind)) None (least (owing_past b (BusLine n kind (Some id))) 6)) (eq-eqb n n refl)
          ∙ ap (λ x. cond (x && same_kind kind kind) None (least (owing_past b (BusLine n kind (Some id))) 6)) (eq-eqb id id refl)
          ∙ ap (λ x. cond x None (least (owing_past b (BusLine n kind (Some id))) 6)) (same_kinds kind);
      stands = refl;
      first = or_left (is_calm s.recovery) _ calm;
    }

flash_fits : (s : State) (job : Job) (count n id : ℕ) (kept : Bool) → Fits (broken s job count kept n (FlashOwed id)) (FlashLine (Some id))
unfolding line_rule holds flash_holds
flash_fits s job count n id kept =
    let b : State = broken s job count kept n (FlashOwed id) in
    record {
      line = ap (λ x. cond x None (least (owing_past b (FlashLine (Some id))) 7)) (eq-eqb id id refl);
      stands = refl;
      first = refl;
    }

bus_effect : (s : State) (job : Job) (count n id : ℕ) (kept : Bool) (kind : BusKind) → is_calm s.recovery ≡ true
    → uses_word (broken s job count kept n (BusOwed n id kind)) kind ≡ false
    → stopped_by s job count kept n (named_more s.named (Some id)) (BusStop (Some id))
    ≡ effect (broken s job count kept n (BusOwed n id kind)) (BusLine n kind (Some id))
unfolding effect after_bus
bus_effect s job count n id kept kind calm unused =
    let b : State = broken s job count kept n (BusOwed n id kind) in
    let F : Bool → Bool → State =
    λ uses rests. record b {
      n = n;
      words = cond uses (words_used b) b.words;
      named = named_more s.named (Some id);
      stop = cond rests (BusStop (Some id)) s.stop;
      owed = Nothing;
      event = Untold;
    } in
    sym (ap (λ u. F u (is_calm s.recovery)) unused ∙ ap (F false) calm)

flash_effect : (s : State) (job : Job) (count n id : ℕ) (kept : Bool)
    → stopped_by s job count kept n s.named (FlashStop id) ≡ effect (broken s job count kept n (FlashOwed id)) (FlashLine (Some id))
unfolding effect after_flash
flash_effect s job count n id kept = refl

-- ---- the event

pub phase_bus : (s : State) (job : Job) (count n id : ℕ) (kept : Bool) (kind : BusKind) → is_free s.owed ≡ true → is_untold s.event ≡ true
    → phase_holds (told s) n id count kept ≡ true
    → effect (told s) (PhaseLine n id count kept) ≡ broken s job count kept n (BusOwed n id kind) → is_calm s.recovery ≡ true
    → uses_word (broken s job count kept n (BusOwed n id kind)) kind ≡ false
    → Happens s EngineActs (PhaseLine n id count kept ∷ BusLine n kind (Some id) ∷ [])
    (stopped_by s job count kept n (named_more s.named (Some id)) (BusStop (Some id)))
unfolding begun
phase_bus s job count n id kept kind free untold h is calm unused =
    let last : State = stopped_by s job count kept n (named_more s.named (Some id)) (BusStop (Some id)) in
    let M : State → Type 0 =
    λ x. (goes_on x x.owed (BusLine n kind (Some id)) ≡ true) × Fits x (BusLine n kind (Some id)) × (last ≡ effect x (BusLine n kind (Some id))) in
    record {
      free = free;
      untold = untold;
      makes = record {
        last = last;
        begins =
            phase_begins s last n id count kept (BusLine n kind (Some id) ∷ []) h
            (subst M (sym is) (refl, bus_fits s job count n id kept kind calm, bus_effect s job count n id kept kind calm unused));
        over = refl;
        event = refl;
        state = refl;
      };
    }

pub phase_flash : (s : State) (job : Job) (count n id : ℕ) (kept : Bool) → is_free s.owed ≡ true → is_untold s.event ≡ true
    → phase_holds (told s) n id count kept ≡ true
    → effect (told s) (PhaseLine n id count kept) ≡ broken s job count kept n (FlashOwed id)
    → Happens s EngineActs (PhaseLine n id count kept ∷ FlashLine (Some id) ∷ []) (stopped_by s job count kept n s.named (FlashStop id))
unfolding begun
phase_flash s job count n id kept free untold h is =
    let last : State = stopped_by s job count kept n s.named (FlashStop id) in
    let M : State → Type 0 =
    λ x. (goes_on x x.owed (FlashLine (Some id)) ≡ true) × Fits x (FlashLine (Some id)) × (last ≡ effect x (FlashLine (Some id))) in
    record {
      free = free;
      untold = untold;
      makes = record {
        last = last;
        begins =
            phase_begins s last n id count kept (FlashLine (Some id) ∷ []) h
            (subst M (sym is) (refl, flash_fits s job count n id kept, flash_effect s job count n id kept));
        over = refl;
        event = refl;
        state = refl;
      };
    }
