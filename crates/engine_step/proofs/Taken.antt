-- An event, and the phase that is taken from the card after it.
use Rattle.std.proofs.Common.{◌≡◌, Bool, true, false, [], refl, sym, subst}
use Rattle.std.specs.Prelude.{◌↔◌, ◌⊎◌, Option}
use Rattle.array_edge.specs.Array.{ArrayState}
use Rattle.card_core.specs.Card.{CardState}
use Rattle.card_core.specs.declared.phase.Phase.{Phase}
use Rattle.card_link.specs.Behind.{Fits, link_state}
use Rattle.card_link.specs.Made.{CardMade}
use Rattle.card_store.specs.Store.{IsOpen, IsStore, Store}
use Rattle.cq_engine.specs.Ends.{EventEnds}
use Rattle.cq_engine.specs.Event.{Event}
use Rattle.cq_engine.specs.Holds.{AreCounted, Holds, LieIn}
use Rattle.cq_engine.specs.Outcome.{stop_of}
use Rattle.cq_engine.specs.Standings.{MovesBy, OneOpen, completed_by, set_up_of}
use Rattle.cq_engine.specs.declared.did.Did.{Did}
use Rattle.cq_engine.specs.declared.did.Did.TheVariants.{Idle}
use Rattle.cq_regs.specs.Slots.{IsRing}
use Rattle.cq_schedule.specs.Meaning.{rests}
use Rattle.piece_data.specs.Laws.{HasSameSpace}
use Rattle.world_state.specs.Engine.{EngineEvent, phase_left, phase_taken}
use Rattle.world_state.specs.Path.{PathState, behind_path, is_busy}

store_left : (card : CardState) (busy : Bool) → card.store ≡ (phase_left card busy).store
store_left card true = refl
store_left card false = refl

pub taken_event : (p q : PathState) (a a' : ArrayState) (did : Did) (p' : PathState) (phase : Option Phase)
    → (phase ≡ phase_taken q.card (is_busy q)) × (p' ≡ record q { card = phase_left q.card (is_busy q) })
    → Event CardMade (behind_path p a) (behind_path q a') p.engine q.engine p.regs q.regs p.memory q.memory did
    → q.driver ≡ p.driver → Fits (behind_path q a') → Holds q.engine q.regs → LieIn q.memory q.engine.held
    → EventEnds (link_state (behind_path p a)) (link_state (behind_path q a')) (stop_of did) → HasSameSpace p.memory q.memory
    → (did ≡ Idle) ↔ ((rests p.regs ≡ true) ⊎ (p.regs.ring ≡ [])) → IsRing q.regs.ring → MovesBy did p.regs q.regs
    → q.regs.completed ≡ completed_by did p.regs.completed → set_up_of q.regs ≡ set_up_of p.regs
    → (AreCounted p.engine.held → AreCounted q.engine.held) → (OneOpen p.regs.ring → OneOpen q.regs.ring) → IsStore q.card.store
    → EngineEvent p a p' a' did phase
taken_event p q a a' did p' phase taken event driver fits holds lie ends space idle ring slots done set_up counts one store =
    let left = store_left q.card (is_busy q) in
    subst (λ (after : PathState). EngineEvent p a after a' did phase) (sym taken.1)
    (record {
      card = q.card;
      event = event;
      driver = driver;
      left = refl;
      taken = taken.0;
      fits = subst (λ (store : Store). IsOpen store a') left fits;
      holds = holds;
      lie = lie;
      ends = ends;
      space = space;
      idle = idle;
      ring = ring;
      slots = slots;
      done = done;
      set_up = set_up;
      counts = counts;
      one = one;
      store = subst IsStore left store;
    })
