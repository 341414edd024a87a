-- The ties after an event of a phase, whichever is due.
use Rattle.std.proofs.Common.{◌≡◌, ◌≢◌, refl, sym, ◌∙◌, ap, subst}
use Rattle.std.specs.Prelude.{true, false, Option}
use Rattle.std.proofs.lemmas.Bool.{false≢true}
use Rattle.array_edge.specs.Array.{ArrayState}
use Rattle.card_core.specs.declared.phase.Phase.{Phase}
use Rattle.card_link.specs.Behind.{behind}
use Rattle.card_link.specs.Made.{CardMade}
use Rattle.cq_engine.specs.Event.{Does}
use Rattle.cq_engine.specs.Outcome.{outcome_of}
use Rattle.bus_link.specs.declared.link.Cause.{Cause}
use Rattle.cq_engine.specs.declared.did.Did.{Did}
use Rattle.cq_engine.specs.declared.did.Did.TheVariants.{Idle, Sent, Direct, Moved, Finished, Dropped, Stopped}
use Rattle.cq_schedule.specs.Held.{remembered}
use Rattle.cq_schedule.specs.Meaning.{HasItsSlot, IsDue}
use Rattle.cq_schedule.specs.declared.rules.Due.{Due}
use Rattle.cq_schedule.specs.declared.rules.Due.TheVariants.{Rest, Block as NextBlock, Close, Address, Serve, Execute, Poll, Tick}
use Rattle.storage_model.specs.declared.faults.Letter.TheVariants.{Engine as EngineActs}
use Rattle.world_state.specs.Engine.{EngineEvent, engine_lines, is_dark}
use Rattle.world_state.specs.Laws.{StateLaws}
use Rattle.world_state.specs.Path.{PathState, behind_path}
use Rattle.world_state.specs.Steps.{EngineStep, EngineSteps, PhaseSteps, is_of_phase}
use Rattle.world_state.specs.Ties.{AreTied}
use Rattle.phase_laws.specs.Laws.{DirectSteps, KeepsTies, is_block, is_close}
use Rattle.phase_laws.proofs.BlockAll.{block_tells}
use Rattle.phase_laws.proofs.BlockDarks.{block_darkens}
use Rattle.phase_laws.proofs.Darks.{DarkensSo}
use Rattle.phase_laws.proofs.Moves.{TellsSo}
use Rattle.phase_laws.proofs.Blocks.{block_ties, host_at}
use Rattle.phase_laws.proofs.CloseEnds.{close_ends}
use Rattle.phase_laws.proofs.CloseStops.{close_stops}
use Rattle.phase_laws.proofs.Closes.{close_ties}
use Rattle.phase_laws.proofs.Directs.{direct_ties}
use Rattle.phase_laws.proofs.DirectEvents.{DirectTold, direct_told}

ties_by : (p : PathState) (a : ArrayState) (p' : PathState) (a' : ArrayState) (did : Did) (phase : Option Phase) (e : EngineEvent p a p' a' did phase) (due : Due)
    → is_of_phase p due ≡ true → AreTied p → IsDue (remembered p.engine.held p.regs) p.regs p.memory due
    → HasItsSlot (remembered p.engine.held p.regs) p.regs due
    → Does CardMade (behind_path p a) (behind e.card a' p'.script) (host_at p) p.memory p'.memory (outcome_of did e.event.left.held e.event.left.regs) due
    → AreTied p'
ties_by p a p' a' did phase e Rest test t due has does = absurd (false≢true test)
ties_by p a p' a' did phase e Tick test t due has does = absurd (false≢true test)
ties_by p a p' a' did phase e Poll test t due has does = absurd (false≢true test)
ties_by p a p' a' did phase e (Address slot) test t due has does = absurd (false≢true test)
ties_by p a p' a' did phase e (Execute slot) test t due has does = absurd (false≢true test)
ties_by p a p' a' did phase e (Serve slot) test t due has does = direct_ties p a p' a' did phase e slot t due has does test
ties_by p a p' a' did phase e (NextBlock slot k) test t due has does = block_ties p a p' a' did phase e slot k t due has does
ties_by p a p' a' did phase e (Close slot) test t due has does = close_ties p a p' a' did phase e slot t due has does

pub phases_keep : KeepsTies is_of_phase
phases_keep p a p' a' did phase e test t =
    ties_by p a p' a' did phase e e.event.acts.due test t e.event.acts.is_due e.event.acts.slot e.event.acts.does

tells_by : (p : PathState) (a : ArrayState) (p' : PathState) (a' : ArrayState) (did : Did) (phase : Option Phase) (e : EngineEvent p a p' a' did phase) (due : Due)
    → is_block p due ≡ true → AreTied p → AreTied p' → StateLaws → IsDue (remembered p.engine.held p.regs) p.regs p.memory due
    → HasItsSlot (remembered p.engine.held p.regs) p.regs due
    → Does CardMade (behind_path p a) (behind e.card a' p'.script) (host_at p) p.memory p'.memory (outcome_of did e.event.left.held e.event.left.regs) due
    → (is_dark did ≡ false → TellsSo EngineActs p a (engine_lines p p' did phase) p' a')
    × (is_dark did ≡ true → DarkensSo p a (engine_lines p p' did phase) p' a')
tells_by p a p' a' did phase e Rest test t t' laws due has does = absurd (false≢true test)
tells_by p a p' a' did phase e Tick test t t' laws due has does = absurd (false≢true test)
tells_by p a p' a' did phase e Poll test t t' laws due has does = absurd (false≢true test)
tells_by p a p' a' did phase e (Address slot) test t t' laws due has does = absurd (false≢true test)
tells_by p a p' a' did phase e (Execute slot) test t t' laws due has does = absurd (false≢true test)
tells_by p a p' a' did phase e (Serve slot) test t t' laws due has does = absurd (false≢true test)
tells_by p a p' a' did phase e (Close slot) test t t' laws due has does = absurd (false≢true test)
tells_by p a p' a' did phase e (NextBlock slot k) test t t' laws due has does =
    (block_tells p a p' a' did phase e slot k t t' laws due has does, block_darkens p a p' a' did phase e slot k t t' laws due has does)

block_of_phase : (p : PathState) (due : Due) → is_block p due ≡ true → is_of_phase p due ≡ true
block_of_phase p Rest test = absurd (false≢true test)
block_of_phase p Tick test = absurd (false≢true test)
block_of_phase p Poll test = absurd (false≢true test)
block_of_phase p (Address slot) test = absurd (false≢true test)
block_of_phase p (Execute slot) test = absurd (false≢true test)
block_of_phase p (Serve slot) test = absurd (false≢true test)
block_of_phase p (Close slot) test = absurd (false≢true test)
block_of_phase p (NextBlock slot k) test = refl

close_of_phase : (p : PathState) (due : Due) → is_close p due ≡ true → is_of_phase p due ≡ true
close_of_phase p Rest test = absurd (false≢true test)
close_of_phase p Tick test = absurd (false≢true test)
close_of_phase p Poll test = absurd (false≢true test)
close_of_phase p (Address slot) test = absurd (false≢true test)
close_of_phase p (Execute slot) test = absurd (false≢true test)
close_of_phase p (Serve slot) test = absurd (false≢true test)
close_of_phase p (Close slot) test = refl
close_of_phase p (NextBlock slot k) test = absurd (false≢true test)

pub blocks_keep : KeepsTies is_block
blocks_keep p a p' a' did phase e test t = phases_keep p a p' a' did phase e (block_of_phase p e.event.acts.due test) t

-- a block, in full
pub block_steps : EngineSteps is_block true
block_steps p a p' a' did phase e test t =
    let t' = blocks_keep p a p' a' did phase e test t in
    record {
      ties = λ _. t';
      tells = λ laws lit. (tells_by p a p' a' did phase e e.event.acts.due test t t' laws e.event.acts.is_due e.event.acts.slot e.event.acts.does).0 lit;
      darkens = λ laws dark. (tells_by p a p' a' did phase e e.event.acts.due test t t' laws e.event.acts.is_due e.event.acts.slot e.event.acts.does).1 dark;
    }

pub closes_keep : KeepsTies is_close
closes_keep p a p' a' did phase e test t = phases_keep p a p' a' did phase e (close_of_phase p e.event.acts.due test) t

-- the engine stopped, or it didn't
data Halts (did : Did) : Type 0 where
  halts : (cause : Cause) → did ≡ Stopped cause → Halts did
  goes_on : ((cause : Cause) → did ≢ Stopped cause) → is_dark did ≡ false → Halts did

halts_or : (did : Did) → Halts did
halts_or Idle = goes_on (λ cause h. absurd (cc h)) refl
halts_or (Sent command) = goes_on (λ cause h. absurd (cc h)) refl
halts_or (Direct slot) = goes_on (λ cause h. absurd (cc h)) refl
halts_or (Moved slot) = goes_on (λ cause h. absurd (cc h)) refl
halts_or (Finished slot) = goes_on (λ cause h. absurd (cc h)) refl
halts_or (Dropped slot why) = goes_on (λ cause h. absurd (cc h)) refl
halts_or (Stopped cause) = halts cause refl

close_by : (p : PathState) (a : ArrayState) (p' : PathState) (a' : ArrayState) (did : Did) (phase : Option Phase) (e : EngineEvent p a p' a' did phase) (due : Due)
    → is_close p due ≡ true → AreTied p → AreTied p' → StateLaws → IsDue (remembered p.engine.held p.regs) p.regs p.memory due
    → HasItsSlot (remembered p.engine.held p.regs) p.regs due
    → Does CardMade (behind_path p a) (behind e.card a' p'.script) (host_at p) p.memory p'.memory (outcome_of did e.event.left.held e.event.left.regs) due
    → Halts did
    → (is_dark did ≡ false → TellsSo EngineActs p a (engine_lines p p' did phase) p' a')
    × (is_dark did ≡ true → DarkensSo p a (engine_lines p p' did phase) p' a')
close_by p a p' a' did phase e Rest test t t' laws due has does how = absurd (false≢true test)
close_by p a p' a' did phase e Tick test t t' laws due has does how = absurd (false≢true test)
close_by p a p' a' did phase e Poll test t t' laws due has does how = absurd (false≢true test)
close_by p a p' a' did phase e (Address slot) test t t' laws due has does how = absurd (false≢true test)
close_by p a p' a' did phase e (Execute slot) test t t' laws due has does how = absurd (false≢true test)
close_by p a p' a' did phase e (Serve slot) test t t' laws due has does how = absurd (false≢true test)
close_by p a p' a' did phase e (NextBlock slot k) test t t' laws due has does how = absurd (false≢true test)
close_by p a p' a' did phase e (Close slot) test t t' laws due has does (halts cause is) =
    close_stops p a p' a' did phase e slot t t' laws due has does cause is
close_by p a p' a' did phase e (Close slot) test t t' laws due has does (goes_on apart lit) = (
  λ _. close_ends p a p' a' did phase e slot t t' laws due has does apart,
  λ dark. absurd (false≢true (sym lit ∙ dark)),
)

-- the end of a data phase, in full
pub close_steps : EngineSteps is_close true
close_steps p a p' a' did phase e test t =
    let t' = closes_keep p a p' a' did phase e test t in
    record {
      ties = λ _. t';
      tells = λ laws lit.
          (close_by p a p' a' did phase e e.event.acts.due test t t' laws e.event.acts.is_due e.event.acts.slot e.event.acts.does (halts_or did)).0 lit;
      darkens = λ laws dark.
          (close_by p a p' a' did phase e e.event.acts.due test t t' laws e.event.acts.is_due e.event.acts.slot e.event.acts.does (halts_or did)).1 dark;
    }

-- a direct command, in full
pub direct_steps : DirectSteps
direct_steps p a p' a' did phase e slot due direct t =
    let out = outcome_of did e.event.left.held e.event.left.regs in
    let t' = phases_keep p a p' a' did phase e (ap (is_of_phase p) due ∙ direct) t in
    let I : Due → Type 0 = λ d. IsDue (remembered p.engine.held p.regs) p.regs p.memory d in
    let H : Due → Type 0 = λ d. HasItsSlot (remembered p.engine.held p.regs) p.regs d in
    let D : Due → Type 0 = λ d. Does CardMade (behind_path p a) (behind e.card a' p'.script) (host_at p) p.memory p'.memory out d in
    let both : (laws : StateLaws) → DirectTold p a p' a' did phase =
    λ laws.
    direct_told p a p' a' did phase e slot t t' laws (subst I due e.event.acts.is_due) (subst H due e.event.acts.slot) (subst D due e.event.acts.does)
    direct in
    record { ties = λ _. t'; tells = λ laws lit. (both laws).0 lit; darkens = λ laws dark. (both laws).1 dark }

steps_by : (p : PathState) (a : ArrayState) (p' : PathState) (a' : ArrayState) (did : Did) (phase : Option Phase) (e : EngineEvent p a p' a' did phase) (due : Due)
    → e.event.acts.due ≡ due → is_of_phase p due ≡ true → AreTied p → EngineStep p a p' a' did phase
steps_by p a p' a' did phase e (NextBlock slot k) is test t = block_steps p a p' a' did phase e (ap (is_block p) is) t
steps_by p a p' a' did phase e (Close slot) is test t = close_steps p a p' a' did phase e (ap (is_close p) is) t
steps_by p a p' a' did phase e (Serve slot) is test t = direct_steps p a p' a' did phase e slot is test t
steps_by p a p' a' did phase e Rest is test t = absurd (false≢true test)
steps_by p a p' a' did phase e (Address slot) is test t = absurd (false≢true test)
steps_by p a p' a' did phase e (Execute slot) is test t = absurd (false≢true test)
steps_by p a p' a' did phase e Poll is test t = absurd (false≢true test)
steps_by p a p' a' did phase e Tick is test t = absurd (false≢true test)

-- whichever of them is due
pub phase_steps : PhaseSteps
phase_steps p a p' a' did phase e test t = steps_by p a p' a' did phase e e.event.acts.due refl test t
