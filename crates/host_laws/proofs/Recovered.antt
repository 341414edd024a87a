-- The ties after each step of a recovery but the last.
use Rattle.std.proofs.Common.{◌≡◌, ◌≢◌, ◌∙◌, ◌⊎◌, ℕ, zero, suc, Bool, true, false, cond, List, [], Option, None, Some, Result, Ok, length, replicate, slice_index_or, option_map, inl, inr, refl, ap, sym, subst, arith, MatchBool}
use Rattle.std.proofs.lemmas.Bool.{false≢true}
use Rattle.std.proofs.lemmas.List.{length-replicate}
use Rattle.storage_model.specs.declared.faults.BusKind.{BusKind}
use Rattle.storage_model.specs.declared.faults.BusKind.TheVariants.{Lost, NoResp, Bad, Late}
use Rattle.array_edge.specs.Array.{ArrayState}
use Rattle.bus_link.specs.Script.{Script, armed, struck}
use Rattle.bus_link.specs.declared.link.LinkEnd.{LinkEnd}
use Rattle.card_core.specs.Card.{CardState}
use Rattle.card_core.specs.Response.{Responds, manage_response, refused, response_to}
use Rattle.card_core.specs.declared.ends.Dark.{Dark}
use Rattle.card_link.specs.Behind.{Behind}
use Rattle.card_link.specs.Made.{CardMade, IsHeard, IsLost, after_response, choice_of, hit_on, is_lost, response_seen, sent}
use Rattle.cmd_words.specs.declared.command.Command.{Command}
use Rattle.cmd_words.specs.declared.status.TheConstants.Status.{ILLEGAL_COMMAND}
use Rattle.cq_engine.proofs.Fresh.{holds_fresh}
use Rattle.cq_engine.specs.Standings.{OneOpen}
use Rattle.cq_regs.specs.State.{Registers}
use Rattle.cq_regs.specs.declared.slots.Progress.TheVariants.{Active}
use Rattle.cq_regs.specs.declared.slots.Ringed.{Ringed}
use Rattle.cq_schedule.specs.Order.{first_at}
use Rattle.drv_core.specs.State.{is_recovering}
use Rattle.drv_recover.specs.Recovery.{Discards, IsAt, IsCleared, discard_queue, resumed, told_by}
use Rattle.drv_recover.specs.declared.recovery.RecoveryState.{RecoveryState}
use Rattle.drv_recover.specs.declared.recovery.RecoveryState.TheVariants as driver
use Rattle.drv_recover.specs.declared.recovery.Step.{Step}
use Rattle.drv_recover.specs.declared.recovery.Step.TheVariants.{Discard, Again}
use Rattle.task_queue.specs.declared.queue.Place.{Place}
use Rattle.task_queue.specs.Queue.{empty, slot}
use Rattle.host_laws.proofs.Held.{held_back}
use Rattle.host_laws.proofs.Paths.{path_at, set_up_cleaned, set_up_cleared, set_up_resumed}
use Rattle.world_state.specs.Path.{PathState, behind_path, plan_of, under_way}
use Rattle.world_state.specs.Ties.{AreTied, IsCardOf, IsScript, is_discarded, phase_words}

-- a stopped engine has no phase under way, nor one without a task
stopped_way : (stopped : Bool) (first : Option ℕ) → stopped ≡ true → cond stopped None first ≡ None
stopped_way true first e = refl
stopped_way false first e = absurd (false≢true e)

pub none_stopped : (p : PathState) → p.regs.stopped ≡ true → under_way p ≡ None
none_stopped p e = stopped_way p.regs.stopped _ e

-- the path with another place of the recovery and other registers
abbrev pub at_place : PathState → RecoveryState → Registers → PathState
at_place p state regs = path_at p.driver.requests state regs p.memory p.engine p.card p.script

none_open : OneOpen []
none_open a b first second = absurd (false≢true first)

-- what was begun is nothing, where no phase is under way
pub begun_none : (p : PathState) → AreTied p → under_way p ≡ None → p.card.begun ≡ None
begun_none p t none = t.begun ∙ ap (phase_words p) none

-- all tasks are cleared
pub tied_cleared : (p : PathState) → AreTied p → p.driver.recovery ≡ driver.Halted
    → AreTied (at_place p driver.Cleared (record p.regs { ring = []; stopped = false }))
tied_cleared p t at = held_back (at_place p driver.Cleared (record p.regs { ring = []; stopped = false })) (record {
  recovering = refl;
  sound = t.sound;
  layout_fits = t.layout_fits;
  holds = holds_fresh p.engine.held p.engine.cause (record p.regs { ring = []; stopped = false }) refl refl;
  lie = t.lie;
  counts = t.counts;
  one = none_open;
  regs = set_up_cleared (plan_of p) p.regs t.regs;
  card = t.card;
  store = t.store;
  script = t.script;
  borne = record { waiting = t.borne.waiting; issued = t.borne.issued };
  recovery_at = record { halted = subst (λ (s : RecoveryState). IsAt s p.regs) at t.recovery_at; ring = refl; running = refl };
  halts = λ e. absurd (cc (e));
  completed = t.held (ap is_recovering at);
  alone = t.alone;
  emptied = λ e tag. absurd (false≢true e);
  begun = begun_none p t (none_stopped p (t.halts at));
  names = λ e. absurd (false≢true e);
  none = refl;
})

-- where a recovery has cleared the tasks
pub cleared_at : (p : PathState) → AreTied p → p.driver.recovery ≡ driver.Cleared → IsCleared p.regs
cleared_at p t at = subst (λ (s : RecoveryState). IsAt s p.regs) at t.recovery_at

no_way : (stopped : Bool) (ring : List Ringed) → stopped ≡ false → ring ≡ [] → cond stopped None (first_at Active ring) ≡ None
no_way stopped ring runs empty = rw (runs, empty) refl

pub none_rung : (p : PathState) → p.regs.ring ≡ [] → p.regs.stopped ≡ false → under_way p ≡ None
none_rung p empty runs = no_way p.regs.stopped p.regs.ring runs empty

pub none_cleared : (p : PathState) → IsCleared p.regs → under_way p ≡ None
none_cleared p c = none_rung p c.ring c.running

-- what was notified is cleared
pub tied_cleaned : (p : PathState) → AreTied p → p.driver.recovery ≡ driver.Discarded
    → AreTied (at_place p driver.Cleaned (record p.regs { interrupts = 0; completed = 0 }))
tied_cleaned p t at =
    let c : IsCleared p.regs = subst (λ (s : RecoveryState). IsAt s p.regs) at t.recovery_at in
    held_back (at_place p driver.Cleaned (record p.regs { interrupts = 0; completed = 0 })) (record {
      recovering = refl;
      sound = t.sound;
      layout_fits = t.layout_fits;
      holds = record { cause = t.holds.cause; tasks = t.holds.tasks };
      lie = t.lie;
      counts = t.counts;
      one = t.one;
      regs = set_up_cleaned (plan_of p) p.regs t.regs;
      card = t.card;
      store = t.store;
      script = t.script;
      borne = record { waiting = t.borne.waiting; issued = t.borne.issued };
      recovery_at = record { cleared = record { halted = c.halted; ring = c.ring; running = c.running }; completed = refl };
      halts = λ e. absurd (cc (e));
      completed = refl;
      alone = t.alone;
      emptied = λ e. t.emptied (rw at refl);
      begun = begun_none p t (none_cleared p c);
      names = t.names;
      none = none_cleared p c;
    })

-- the host interface is resumed
pub tied_resumed : (p : PathState) → AreTied p → p.driver.recovery ≡ driver.Cleaned → AreTied (at_place p driver.Resumed (resumed p.regs))
tied_resumed p t at =
    let k = subst (λ (s : RecoveryState). IsAt s p.regs) at t.recovery_at in
    let c = k.cleared in
    held_back (at_place p driver.Resumed (resumed p.regs)) (record {
      recovering = refl;
      sound = t.sound;
      layout_fits = t.layout_fits;
      holds = record { cause = t.holds.cause; tasks = t.holds.tasks };
      lie = t.lie;
      counts = t.counts;
      one = t.one;
      regs = set_up_resumed (plan_of p) p.regs t.regs;
      card = t.card;
      store = t.store;
      script = t.script;
      borne = record { waiting = t.borne.waiting; issued = t.borne.issued };
      recovery_at = record { halted = refl; ring = c.ring; running = c.running; completed = k.completed };
      halts = λ e. absurd (cc (e));
      completed = k.completed;
      alone = t.alone;
      emptied = λ e. t.emptied (rw at refl);
      begun = begun_none p t (none_cleared p c);
      names = t.names;
      none = none_cleared p c;
    })

-- CMD48 for the whole queue: what came of it
pub data Discarding (p : PathState) (a : ArrayState) (p' : PathState) (a' : ArrayState) (step : Step) : Type 0 where
  missed : hit_on (behind_path p a) discard_queue ≡ Some Lost → step ≡ Again Lost → p'.card ≡ p.card
      → p'.script ≡ struck (armed p.script discard_queue 0) → a' ≡ a → Discarding p a p' a' step
  unheard : hit_on (behind_path p a) discard_queue ≡ Some NoResp → step ≡ Again NoResp
      → p'.card ≡ record p.card { queue = empty (length p.card.queue.slots); phase = None }
      → p'.script ≡ struck (armed p.script discard_queue 0) → a' ≡ a → Discarding p a p' a' step
  done : hit_on (behind_path p a) discard_queue ≢ Some Lost → hit_on (behind_path p a) discard_queue ≢ Some NoResp → step ≡ Discard
      → p'.card ≡ record p.card { queue = empty (length p.card.queue.slots); phase = None }
      → p'.script ≡ armed p.script discard_queue 0 → a' ≡ a → Discarding p a p' a' step

discard_told : (card : CardState) (choice : ℕ) (old_array : ArrayState) (new : CardState) (new_array : ArrayState) (result : Result ℕ Dark) → card.csd.command_queue ≡ true
    → Responds (response_to card discard_queue choice) card old_array new new_array result
    → Responds (manage_response card true 0) card old_array new new_array result
unfolding response_to
discard_told card choice old_array new new_array result on r =
    subst (λ b. Responds (cond b (manage_response card true 0) (refused card ILLEGAL_COMMAND)) card old_array new new_array result) on r

answered_by : (p : PathState) (a : ArrayState) (p' : PathState) (a' : ArrayState) (step : Step) (result : Result ℕ LinkEnd) (answer : Result ℕ Dark) (word : ℕ) (hit : Option BusKind)
    → hit_on (behind_path p a) discard_queue ≡ hit → is_lost hit ≡ false → answer ≡ Ok word → step ≡ told_by result
    → result ≡ response_seen hit answer → p'.script ≡ after_response hit answer (armed p.script discard_queue 0)
    → p'.card ≡ record p.card { queue = empty (length p.card.queue.slots); phase = None } → a' ≡ a → Discarding p a p' a' step
answered_by p a p' a' step result answer word None h not_lost is told seen script card array =
    done (λ e. absurd (cc (h, e))) (λ e. absurd (cc (h, e))) (told ∙ ap told_by (seen ∙ ap (response_seen None) is)) card
    (script ∙ ap (λ x. after_response None x (armed p.script discard_queue 0)) is) array
answered_by p a p' a' step result answer word (Some Lost) h not_lost is told seen script card array = absurd (false≢true (sym not_lost))
answered_by p a p' a' step result answer word (Some NoResp) h not_lost is told seen script card array =
    unheard h (told ∙ ap told_by (seen ∙ ap (response_seen (Some NoResp)) is)) card
    (script ∙ ap (λ x. after_response (Some NoResp) x (armed p.script discard_queue 0)) is) array
answered_by p a p' a' step result answer word (Some (Bad block)) h not_lost is told seen script card array =
    done (λ e. absurd (cc (h, e))) (λ e. absurd (cc (h, e))) (told ∙ ap told_by (seen ∙ ap (response_seen (Some (Bad block))) is)) card
    (script ∙ ap (λ x. after_response (Some (Bad block)) x (armed p.script discard_queue 0)) is) array
answered_by p a p' a' step result answer word (Some Late) h not_lost is told seen script card array =
    done (λ e. absurd (cc (h, e))) (λ e. absurd (cc (h, e))) (told ∙ ap told_by (seen ∙ ap (response_seen (Some Late)) is)) card
    (script ∙ ap (λ x. after_response (Some Late) x (armed p.script discard_queue 0)) is) array

lost_is : (hit : Option BusKind) → is_lost hit ≡ true → hit ≡ Some Lost
lost_is None e = absurd (false≢true e)
lost_is (Some Lost) e = refl
lost_is (Some NoResp) e = absurd (false≢true e)
lost_is (Some (Bad block)) e = absurd (false≢true e)
lost_is (Some Late) e = absurd (false≢true e)

discards_by : (p : PathState) (a : ArrayState) (p' : PathState) (a' : ArrayState) (step : Step) (answer : Result ℕ LinkEnd) (lost : Bool) → p.card.csd.command_queue ≡ true
    → is_lost (hit_on (behind_path p a) discard_queue) ≡ lost → step ≡ told_by answer
    → MatchBool lost (IsLost Lost (behind_path p a) (behind_path p' a') (sent (behind_path p a) discard_queue) answer) (IsHeard discard_queue (behind_path p a) (behind_path p' a') answer)
    → Discarding p a p' a' step
discards_by p a p' a' step answer true on h told l =
    missed (lost_is (hit_on (behind_path p a) discard_queue) h) (told ∙ ap told_by l.answer) (ap (λ (b : Behind). b.card) l.behind)
    (ap (λ (b : Behind). b.script) l.behind) (ap (λ (b : Behind). b.array) l.behind)
discards_by p a p' a' step answer false on h told g =
    let r = discard_told p.card (choice_of (sent (behind_path p a) discard_queue) discard_queue) a p'.card a' g.answer on g.responds in
    answered_by p a p' a' step answer g.answer _ (hit_on (behind_path p a) discard_queue) refl h r.0 told g.seen g.script r.1 r.2

queueing : (p : PathState) → AreTied p → p.card.csd.command_queue ≡ true
queueing p t = ap (λ csd. csd.command_queue) t.card.csd

pub discarding : (p : PathState) (a : ArrayState) (p' : PathState) (a' : ArrayState) (step : Step) → AreTied p
    → Discards CardMade (behind_path p a) (behind_path p' a') step → Discarding p a p' a' step
discarding p a p' a' step t d =
    discards_by p a p' a' step d.answer (is_lost (hit_on (behind_path p a) discard_queue)) (queueing p t) refl d.told d.crossed

-- a queue without tasks
abbrev no_place : Option Place
no_place = None

none_at : (n i : ℕ) → slice_index_or (replicate n no_place) i None ≡ None
none_at zero i = refl
none_at (suc n) zero = refl
none_at (suc n) (suc i) = none_at n i

pub emptied_at : (depth tag : ℕ) → slot (empty depth) tag ≡ None
emptied_at depth tag = ap (λ place. option_map (λ (x : Place). x.queued) place) (none_at depth tag)

pub card_emptied : (p : PathState) → AreTied p → IsCardOf (plan_of p) (record p.card { queue = empty (length p.card.queue.slots); phase = None })
card_emptied p t = record {
  depth = t.card.depth;
  lines = t.card.lines;
  through = t.card.through;
  csd = t.card.csd;
  places = length-replicate (length p.card.queue.slots) no_place ∙ t.card.places;
  room = t.card.room;
  few = t.card.few;
  epoch = t.card.epoch;
}

pub script_armed : (script : Script) (command : Command) (blocks : ℕ) → IsScript script → IsScript (armed script command blocks)
script_armed script command blocks s = record { rising = s.rising; small = s.small; words = s.words; sent = omega arith }

pub script_struck : (script : Script) → IsScript script → IsScript (struck script)
script_struck script s = record { rising = s.rising; small = s.small; words = s.words; sent = s.sent }

-- the ties of a path whose tasks are cleared, with another card and another script
pub tied_asked : (p : PathState) (state : RecoveryState) (card : CardState) (script : Script) → AreTied p → p.driver.recovery ≡ driver.Cleared
    → IsAt state p.regs → is_recovering state ≡ true → IsCardOf (plan_of p) card → card.store ≡ p.card.store → card.begun ≡ p.card.begun
    → ((tag : ℕ) → state ≡ driver.Discarded → slot card.queue tag ≡ None) → (state ≡ driver.Discarded) ⊎ (state ≡ driver.Cleared) → IsScript script
    → AreTied (path_at p.driver.requests state p.regs p.memory p.engine card script)
tied_asked p state card script t at place busy is store begun empties which s =
    let c = cleared_at p t at in
    held_back (path_at p.driver.requests state p.regs p.memory p.engine card script) (record {
      recovering = busy;
      sound = t.sound;
      layout_fits = t.layout_fits;
      holds = record { cause = t.holds.cause; tasks = t.holds.tasks };
      lie = t.lie;
      counts = t.counts;
      one = t.one;
      regs = t.regs;
      card = is;
      store = rw store t.store;
      script = s;
      borne = record { waiting = t.borne.waiting; issued = t.borne.issued };
      recovery_at = place;
      halts = λ e. absurd (not_halted which e);
      completed = t.held (ap is_recovering at);
      alone = t.alone;
      emptied = λ e tag. empties tag (if_discarded which e);
      begun = begun ∙ begun_none p t (none_cleared p c);
      names = t.names;
      none = none_cleared p c;
    })
  where
    not_halted : (state ≡ driver.Discarded) ⊎ (state ≡ driver.Cleared) → state ≡ driver.Halted → ⊥
    not_halted (inl e) h = cc (e, h)
    not_halted (inr e) h = cc (e, h)

    if_discarded : (state ≡ driver.Discarded) ⊎ (state ≡ driver.Cleared) → is_discarded state ≡ true → state ≡ driver.Discarded
    if_discarded (inl e) h = e
    if_discarded (inr e) h = absurd (false≢true (sym (ap is_discarded e) ∙ h))
