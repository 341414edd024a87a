-- What every event of the engine leaves of the path, and the ties that this keeps.
use Rattle.std.proofs.Common.{◌≡◌, ◌≢◌, ◌⊎◌, ◌<◌, ◌≤◌, ◌^◌, ℕ, sym, ◌∙◌, ap, subst}
use Rattle.std.specs.Prelude.{Bool, true, false, not, IfSome, unwrap_or, All, length}
use Rattle.std.proofs.lemmas.Bool.{false≢true}
use Rattle.bus_link.specs.Script.{Script}
use Rattle.card_core.specs.Card.{CardState, sectors}
use Rattle.card_store.specs.Store.{IsStore, sectors_of}
use Rattle.cq_engine.specs.Holds.{AreCounted, Holds, LieIn}
use Rattle.cq_engine.specs.Outcome.{Holding}
use Rattle.cq_engine.specs.Standings.{OneOpen}
use Rattle.cq_regs.specs.Slots.{IsRing}
use Rattle.cq_regs.specs.State.{Registers}
use Rattle.drv_core.specs.State.{is_recovering}
use Rattle.drv_recover.specs.Recovery.{IsAt}
use Rattle.drv_recover.specs.declared.recovery.RecoveryState.TheVariants as driver
use Rattle.drv_ring.specs.Layout.{HasLayout, size_of}
use Rattle.drv_ring.specs.declared.places.Layout.{Layout}
use Rattle.ext_csd.specs.Values.{fresh}
use Rattle.ext_csd.specs.declared.csd.ExtCsd.{ExtCsd}
use Rattle.host_mem.specs.Memory.{Memory}
use Rattle.piece_data.specs.Laws.{HasSameSpace}
use Rattle.piece_data.proofs.Kept.{range-same_space}
use Rattle.storage_machine.specs.Commands.{is_gone}
use Rattle.storage_model.specs.Faults.{IsHit, IsValidHits}
use Rattle.storage_model.specs.declared.faults.Hit.{Hit}
use Rattle.storage_model.specs.declared.plan.Plan.{Plan}
use Rattle.task_queue.specs.Queue.{depth as queue_depth}
use Rattle.world_state.specs.Path.{PathState, moved, plan_of, runs, under_way}
use Rattle.world_state.specs.Reading.{is_done, notice_of}
use Rattle.world_state.specs.Ties.{AreTied, HasHit, HasPhase, IsAhead, IsBeforeFault, IsCardOf, IsScript, NamesRung, TagIsTied, TagRuns, is_discarded, phase_words}
use Rattle.card_core.specs.Serving.{without_error}
use Rattle.std.specs.Prelude.{List}
use Rattle.phase_laws.proofs.SetUps.{as_set_up}

-- the path with other parts behind the driver
abbrev pub path_with : PathState → Registers → Memory → Holding → CardState → Script → PathState
path_with p r m g c s = record { driver = p.driver; regs = r; memory = m; engine = g; card = c; script = s }

-- ---- the card

-- what an event leaves of the card: all but its contents and its phases
pub record KeepsCard (old new : CardState) : Type 0 where
  pub queue : new.queue ≡ old.queue
  pub csd : new.csd ≡ old.csd
  pub depth : new.depth ≡ old.depth
  pub lines : new.lines ≡ old.lines
  pub through : new.through ≡ old.through
  pub sectors : sectors_of new.store ≡ sectors_of old.store
  pub room : new.store.cache.room ≡ old.store.cache.room
  pub last : old.store.cache.last ≤ 4294967295 → new.store.cache.last ≤ 4294967295

abbrev csd_of : (sectors depth lines : ℕ) → Bool → ExtCsd
csd_of sectors depth lines through = record (fresh sectors depth lines) { command_queue = true; barrier = true; cache = not through }

pub card_stays : (plan : Plan) (old new : CardState) → KeepsCard old new → IsCardOf plan old → IsCardOf plan new
card_stays plan old new k h = record {
  depth = k.depth ∙ h.depth;
  lines = k.lines ∙ h.lines;
  through = k.through ∙ h.through;
  csd =
      k.csd ∙ h.csd
      ∙ sym (ap (λ n. csd_of n new.depth new.lines new.through) (ap (λ o. unwrap_or o 0) k.sectors)
      ∙ ap (λ n. csd_of (sectors old) n new.lines new.through) k.depth
      ∙ ap (λ n. csd_of (sectors old) old.depth n new.through) k.lines
      ∙ ap (λ b. csd_of (sectors old) old.depth old.lines b) k.through);
  places = ap queue_depth k.queue ∙ h.places ∙ sym k.depth;
  room = k.room ∙ h.room ∙ sym k.lines;
  few = subst (λ n. n ≤ 65536) (sym (ap (λ o. unwrap_or o 0) k.sectors)) h.few;
  epoch = k.last h.epoch;
}

-- ---- the bus

pub record KeepsScript (old new : Script) : Type 0 where
  pub hits : new.hits ≡ old.hits
  pub ready : new.ready ≡ old.ready
  pub used : new.used ≡ old.used
  pub sent : old.sent ≤ 4294967295 → new.sent ≤ 4294967295

pub script_stays : (old new : Script) → KeepsScript old new → IsScript old → IsScript new
script_stays old new k h = record {
  rising = subst (λ hits. IsValidHits hits) (sym k.hits) h.rising;
  small = subst (λ (hits : List Hit). All IsHit hits) (sym k.hits) h.small;
  words = subst (λ n. n ≤ length new.ready) (sym k.used) (subst (λ (words : List ℕ). old.used ≤ length words) (sym k.ready) h.words);
  sent = k.sent h.sent;
}

-- ---- the memory

pub layout_stays : (old new : Memory) (layout : Layout) → HasSameSpace old new → HasLayout old layout → HasLayout new layout
layout_stays old new layout space h = record {
  depth = h.depth;
  below = h.below;
  narrow = h.narrow;
  inside = range-same_space old new layout.base (size_of layout) space h.inside;
}

-- ---- all of it

pub record Goes (p : PathState) (r : Registers) (m : Memory) (g : Holding) (c : CardState) (s : Script) : Type 0 where
  pub calm : p.driver.recovery ≡ driver.Calm
  pub holds : Holds g r
  pub lie : LieIn m g.held
  pub counts : AreCounted g.held
  pub one : OneOpen r.ring
  pub set_up : r ≡ as_set_up (plan_of p) r
  pub interrupts : (r.interrupts ≡ 0) ⊎ (r.interrupts ≡ 2)
  pub ring : IsRing r.ring
  pub small : r.completed < 2 ^ 32
  pub counted : r.coalescing.counter ≤ (plan_of p).coalesce
  pub halted : r.halted ≡ false
  pub space : HasSameSpace p.memory m
  pub store : IsStore c.store
  pub card : KeepsCard p.card c
  pub script : KeepsScript p.script s

-- what the slots, the phase and the notices are after it
pub record Leaves (p : PathState) (r : Registers) (m : Memory) (g : Holding) (c : CardState) (s : Script) : Type 0 where
  pub tags : (tag : ℕ) → tag < 32 → TagIsTied (path_with p r m g c s) tag
  pub running : runs (path_with p r m g c s) ≡ true → (tag : ℕ) → tag < 32 → TagRuns (path_with p r m g c s) tag
  pub begun : c.begun ≡ phase_words (path_with p r m g c s) (under_way (path_with p r m g c s))
  pub phase : IfSome (under_way (path_with p r m g c s)) (HasPhase (path_with p r m g c s))
  pub ahead : IfSome (under_way (path_with p r m g c s)) (IsAhead (path_with p r m g c s))
  pub hit : IfSome (under_way (path_with p r m g c s)) (HasHit (path_with p r m g c s))
  pub heard : IfSome (under_way (path_with p r m g c s)) (λ tag. is_gone s.hit ≡ false)
  pub fails : IfSome (under_way (path_with p r m g c s)) (λ tag. IsBeforeFault s.hit (moved (path_with p r m g c s)))
  pub names : NamesRung (path_with p r m g c s)
  pub told : r.completed ≢ 0 → (notice_of (path_with p r m g c s) ≡ true) ⊎ (0 < r.coalescing.counter)
  pub status : is_done (path_with p r m g c s) 31 ≡ true → r.direct_response ≡ without_error

pub tied_parts : (p : PathState) (r : Registers) (m : Memory) (g : Holding) (c : CardState) (s : Script) → AreTied p → Goes p r m g c s → Leaves p r m g c s
    → AreTied (path_with p r m g c s)
tied_parts p r m g c s t goes leaves = record {
  sound = t.sound;
  layout_fits = layout_stays p.memory m _ goes.space t.layout_fits;
  holds = goes.holds;
  lie = goes.lie;
  counts = goes.counts;
  one = goes.one;
  regs = record { same = goes.set_up; notice = goes.interrupts; ring = goes.ring; small = goes.small; counted = goes.counted };
  card = card_stays (plan_of p) p.card c goes.card t.card;
  store = goes.store;
  script = script_stays p.script s goes.script t.script;
  borne = record { waiting = t.borne.waiting; issued = t.borne.issued };
  recovery_at = subst (λ state. IsAt state r) (sym goes.calm) tt;
  halts = λ e. absurd (cc (sym goes.calm ∙ e));
  calm = λ _. goes.halted;
  held = λ e. absurd (false≢true (sym (ap is_recovering goes.calm) ∙ e));
  tags = λ _ tag below. leaves.tags tag below;
  running = leaves.running;
  alone = t.alone;
  emptied = λ e. absurd (false≢true (sym (ap is_discarded goes.calm) ∙ e));
  begun = leaves.begun;
  phase = leaves.phase;
  ahead = leaves.ahead;
  hit = leaves.hit;
  fails = leaves.fails;
  names = leaves.names;
  heard = leaves.heard;
  told = leaves.told;
  status = leaves.status;
}
