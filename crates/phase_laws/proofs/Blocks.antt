-- The ties after a block of a data phase.
use Rattle.std.proofs.Common.{◌≡◌, ◌⊎◌, ◌<◌, ◌≤◌, ◌*◌, ◌+◌, ◌^◌, ℕ, refl, sym, ◌∙◌, ap, subst, inl, inr}
use Rattle.std.specs.Prelude.{Bool, true, false, not, cond, Option, Some, None, IfSome, is_some, Result, Ok, Err, List, slice_set, ◌==◌}
use Rattle.std.specs.Bool.{MatchBool}
use Rattle.std.specs.Int.RustNames.{bit_and}
use Rattle.std.specs.Option.{IsSomeAnd, option_map, option_map_or}
use Rattle.std.proofs.lemmas.Bool.{false≢true}
use Rattle.array_edge.specs.Array.{ArrayState}
use Rattle.bus_link.specs.Script.{Script, struck}
use Rattle.bus_link.specs.declared.link.Cause.{Cause}
use Rattle.bus_link.specs.declared.link.Cause.TheVariants.{Bus as BusFault, Dark as NoPower, Response}
use Rattle.bus_link.specs.declared.link.LinkEnd.{LinkEnd}
use Rattle.bus_link.specs.declared.link.LinkEnd.TheVariants as link_end
use Rattle.card_core.specs.Card.{CardState}
use Rattle.card_core.specs.Moving.{moved_on, next_put}
use Rattle.card_core.specs.Serving.{End, block_answer, by_end, word_of}
use Rattle.card_core.specs.declared.ends.BlockEnd.{BlockEnd}
use Rattle.card_core.specs.declared.ends.BlockEnd.TheVariants as block_end
use Rattle.card_core.specs.declared.phase.DataPhase.{DataPhase}
use Rattle.card_core.specs.declared.phase.Phase.{Phase}
use Rattle.card_link.specs.Behind.{Behind, behind}
use Rattle.card_link.specs.Made.{CardMade, after_block, block_seen, is_bad_block}
use Rattle.card_store.specs.Store.{Contents, IsSameStore, same, with_put}
use Rattle.cmd_words.specs.Command.{index_of}
use Rattle.cmd_words.specs.declared.status.Status.{Status as ErrorSet}
use Rattle.cmd_words.specs.declared.status.TheConstants.Status.{DEVICE_ECC_FAILED, ERROR}
use Rattle.cq_desc.specs.declared.task.TaskDesc.{TaskDesc}
use Rattle.cq_engine.specs.After.{after_block as block_ended, after_close, phase_ended}
use Rattle.cq_chain.specs.declared.pieces.Piece.{Piece}
use Rattle.cq_engine.specs.Event.{Does, Gives as GivesBlock, MovesBlock, Takes as TakesBlock, read_into}
use Rattle.cq_engine.specs.Outcome.{Host, Outcome, host_of, outcome_of, stop, stopped_with}
use Rattle.cq_engine.specs.Words.{data_error, execute_of, is_masked}
use Rattle.cq_engine.specs.declared.did.Did.{Did}
use Rattle.cq_regs.specs.Slots.{is_rung, progress_of}
use Rattle.cq_regs.specs.State.{Registers}
use Rattle.cq_regs.specs.declared.slots.Progress.TheVariants.{Active}
use Rattle.cq_schedule.specs.Held.{Places, held_at, noted, remembered, with_block}
use Rattle.cq_schedule.specs.Meaning.{HasItsSlot, IsDue, rests}
use Rattle.cq_schedule.specs.Order.{blocks_of, first_at, moved_of}
use Rattle.cq_schedule.specs.declared.held.HeldTask.{HeldTask}
use Rattle.cq_schedule.specs.declared.rules.Due.TheVariants.{Block as NextBlock}
use Rattle.host_mem.specs.Memory.{Memory}
use Rattle.piece_data.specs.Data.{block_of, parts}
use Rattle.storage_model.specs.declared.block.Block.{Block}
use Rattle.storage_model.specs.declared.faults.BusKind.{BusKind}
use Rattle.storage_model.specs.declared.faults.BusKind.TheVariants.{Lost, NoResp, Bad, Late}
use Rattle.intent_store.specs.declared.ends.StoreEnd.TheVariants.{Flash, PowerLost}
use Rattle.world_state.specs.Engine.{EngineEvent, phase_left}
use Rattle.drv_core.specs.State.{asks_notice}
use Rattle.drv_ring.specs.Layout.{IsTagOf}
use Rattle.storage_model.specs.declared.plan.Job.{Job}
use Rattle.world_state.specs.Path.{PathState, behind_path, job, layout, plan_of, under_way}
use Rattle.world_state.specs.Ties.{AreTied, named_by}
use Rattle.drv_ring.proofs.RingLaws.{parts-among}
use Rattle.piece_data.specs.Laws.{HasSameSpace, KeepsOthers}
use Rattle.phase_laws.proofs.Crossings.{BlockMade, bad, given, served, taken}
use Rattle.phase_laws.proofs.Dues.{block_active, works}
use Rattle.phase_laws.proofs.Events.{InPhase, goes_of, in_phase, stop_ties, with_driver}
use Rattle.phase_laws.proofs.Helds.{one_more_held, set_elsewhere, stays_held}
use Rattle.phase_laws.proofs.Jobs.{DataJob, data_job, read_keeps, reads, writes}
use Rattle.phase_laws.proofs.Endings.{Stops, moved_tied, phase_of}
use Rattle.phase_laws.proofs.Parts.{Goes, KeepsCard, KeepsScript, path_with}
use Rattle.phase_laws.proofs.SetUps.{stop_unseen}
use Rattle.phase_laws.proofs.Tags.{KeepsAsked, if_then, same_asked}

-- ---- the registers after a stop

pub stops_with : (regs : Registers) (information : ℕ) → regs.status_enable ≡ 2 → (regs.interrupts ≡ 0) ⊎ (regs.interrupts ≡ 2)
    → Stops regs (stopped_with regs information)
stops_with regs information enable notice = record {
  stopped = refl;
  ring = refl;
  completed = refl;
  interrupts = stop_unseen regs.interrupts regs.status_enable enable notice;
  coalescing = refl;
  status = λ _. refl;
}

-- a word with a bit of these errors stops the engine
pub masks : (plan_regs : Registers) (word : ℕ) → plan_regs.error_mask ≡ 3228041344 → (bit_and word 3228041344 == 0) ≡ false → is_masked plan_regs word ≡ true
masks regs word e some = ap (λ m. not (bit_and word m == 0)) e ∙ ap not some

-- what breaks a phase off stops the engine
pub broken_stops : (host : Host) (slot : ℕ) (desc : TaskDesc) (end : LinkEnd) → ((word : ℕ) → end ≡ link_end.Status word → is_masked host.regs word ≡ true)
    → (cause : Cause) × (after_close host slot desc (Err end) ≡ stop host (data_error (index_of (execute_of slot desc)) slot) cause)
    × IfSome (named_by (Some cause)) (λ tag. tag ≡ slot)
broken_stops host slot desc (link_end.Bus kind) masked = (BusFault kind (Some slot), refl, refl)
broken_stops host slot desc (link_end.Status word) masked = (
  Response word slot,
  ap (λ b. phase_ended host slot desc (cond b (Err (Response word slot)) (Ok word))) (masked word refl),
  refl,
)
broken_stops host slot desc link_end.Dark masked = (NoPower, refl, tt)

-- ---- the bus after a block

pub struck_keeps : (s : Script) → KeepsScript s (struck s)
struck_keeps s = record { hits = refl; ready = refl; used = refl; sent = λ h. h }

pub same_keeps : (s : Script) → KeepsScript s s
same_keeps s = record { hits = refl; ready = refl; used = refl; sent = λ h. h }

pub block_script : (hit : Option BusKind) (got : Result (Unit {0}) BlockEnd) (s : Script) → KeepsScript s (after_block hit got s)
block_script None got s = same_keeps s
block_script (Some Lost) got s = same_keeps s
block_script (Some NoResp) got s = same_keeps s
block_script (Some (Bad n)) got s = same_keeps s
block_script (Some Late) (Ok u) s = same_keeps s
block_script (Some Late) (Err (block_end.Status word)) s = struck_keeps s
block_script (Some Late) (Err block_end.Dark) s = same_keeps s

pub sent_same : (hit : Option BusKind) (got : Result (Unit {0}) BlockEnd) (s : Script) → (after_block hit got s).sent ≡ s.sent
sent_same None got s = refl
sent_same (Some Lost) got s = refl
sent_same (Some NoResp) got s = refl
sent_same (Some (Bad n)) got s = refl
sent_same (Some Late) (Ok u) s = refl
sent_same (Some Late) (Err (block_end.Status word)) s = refl
sent_same (Some Late) (Err block_end.Dark) s = refl

pub after_ok : (hit : Option BusKind) (s : Script) → after_block hit (Ok tt) s ≡ s
after_ok None s = refl
after_ok (Some Lost) s = refl
after_ok (Some NoResp) s = refl
after_ok (Some (Bad n)) s = refl
after_ok (Some Late) s = refl

pub seen_ok : (hit : Option BusKind) → block_seen hit (Ok tt) ≡ Ok tt
seen_ok None = refl
seen_ok (Some Lost) = refl
seen_ok (Some NoResp) = refl
seen_ok (Some (Bad n)) = refl
seen_ok (Some Late) = refl

pub seen_dark : (hit : Option BusKind) → block_seen hit (Err block_end.Dark) ≡ Err link_end.Dark
seen_dark None = refl
seen_dark (Some Lost) = refl
seen_dark (Some NoResp) = refl
seen_dark (Some (Bad n)) = refl
seen_dark (Some Late) = refl

pub seen_status : (hit : Option BusKind) (word : ℕ)
    → (block_seen hit (Err (block_end.Status word)) ≡ Err (link_end.Status word)) ⊎ (block_seen hit (Err (block_end.Status word)) ≡ Err (link_end.Bus Late))
seen_status None word = inl refl
seen_status (Some Lost) word = inl refl
seen_status (Some NoResp) word = inl refl
seen_status (Some (Bad n)) word = inl refl
seen_status (Some Late) word = inr refl

-- ---- the card after a block

same_store : (old new : CardState) → IsSameStore old.store new.store → old.store.cache.last ≤ 4294967295 → new.store.cache.last ≤ 4294967295
same_store old new s low = subst (λ n. n ≤ 4294967295) (sym s.last) low

pub keeps_by : (old after new : CardState) → KeepsCard old after → new ≡ record after { store = new.store } → IsSameStore old.store new.store → KeepsCard old new
keeps_by old after new k e s = record {
  queue = ap (λ x. x.queue) e ∙ k.queue;
  csd = ap (λ x. x.csd) e ∙ k.csd;
  depth = ap (λ x. x.depth) e ∙ k.depth;
  lines = ap (λ x. x.lines) e ∙ k.lines;
  through = ap (λ x. x.through) e ∙ k.through;
  sectors = s.sectors;
  room = s.room;
  last = same_store old new s;
}

pub card_itself : (card : CardState) → KeepsCard card card
card_itself card = record { queue = refl; csd = refl; depth = refl; lines = refl; through = refl; sectors = refl; room = refl; last = λ h. h }

moved_keeps : (card : CardState) (phase : DataPhase) (end : End) → KeepsCard card (by_end (moved_on card phase) card end)
moved_keeps card phase (Ok u) = record { queue = refl; csd = refl; depth = refl; lines = refl; through = refl; sectors = refl; room = refl; last = λ h. h }
moved_keeps card phase (Err why) = card_itself card

-- ---- a block that moved

-- the memory after a block: where the call had none, it is as it was
abbrev MemoryAfter : PathState → Memory → Result (Unit {0}) LinkEnd → Type 0
MemoryAfter p m (Ok _) = (tag : ℕ) → tag < 32 → KeepsAsked p m tag
MemoryAfter p m (Err end) = m ≡ p.memory

moved_ties : (p : PathState) (a : ArrayState) (p' : PathState) (a' : ArrayState) (did : Did) (phase : Option Phase) (e : EngineEvent p a p' a' did phase)
    (slot : ℕ) (i : InPhase p slot) → AreTied p → rests p.regs ≡ false
    → outcome_of did e.event.left.held e.event.left.regs ≡ block_ended (host_of (remembered p.engine.held p.regs) p.regs) slot i.h.task.desc (Ok tt)
    → p'.script ≡ p.script → e.card ≡ record (moved_on p.card (phase_of slot i.h)) { store = e.card.store } → KeepsCard p.card e.card
    → ((tag : ℕ) → tag < 32 → KeepsAsked p p'.memory tag) → is_bad_block p.script.hit (i.h.moved + 1) ≡ false → AreTied p'
moved_ties p a p' a' did phase e slot i t goes out script card keeps asked free =
    let regs : p'.regs ≡ p.regs = e.event.registers ∙ ap (λ o. o.host.regs) out in
    let places : Places = slice_set (remembered p.engine.held p.regs) slot (option_map with_block (held_at (remembered p.engine.held p.regs) slot)) in
    let held : p'.engine.held ≡ noted places p.regs =
    ap (λ g. g.held) e.event.keeps ∙ ap (λ o. noted o.host.held o.host.regs) out in
    let way : under_way p' ≡ Some slot =
    ap (λ r. cond r.stopped None (first_at Active r.ring)) regs ∙ ap (λ b. cond b None (first_at Active p.regs.ring)) i.going ∙ i.first in
    let whole : p'.card ≡ e.card = e.left ∙ ap (λ b. phase_left e.card b) (ap is_some way) in
    let G : Registers → Script → Type 0 = λ r s. Goes p r p'.memory p'.engine p'.card s in
    let T : Registers → Script → Type 0 = λ r s. AreTied (path_with p r p'.memory p'.engine p'.card s) in
    let C : CardState → Type 0 = λ c. c ≡ record (moved_on p.card (phase_of slot i.h)) { store = c.store } in
    let I : ℕ → Type 0 = λ n. (n ≡ 0) ⊎ (n ≡ 2) in
    let same = ap (λ r. r.coalescing) regs in
    let all = goes_of p a p' a' did phase e t i.calm goes (ap (λ k. k.timer) same) (subst I (sym (ap (λ r. r.interrupts) regs)) t.regs.notice)
    (subst (λ n. n < 2 ^ 32) (sym (ap (λ r. r.completed) regs)) t.regs.small)
    (subst (λ n. n ≤ (plan_of p).coalesce) (sym (ap (λ k. k.counter) same)) t.regs.counted) keeps (subst (KeepsScript p.script) (sym script) (same_keeps p.script)) in
    with_driver p p' e.driver
    (subst (λ r. T r p'.script) (sym regs) (subst (λ s. T p.regs s) (sym script)
    (moved_tied p p'.memory p'.engine p'.card slot i.h t (subst (λ s. G p.regs s) script (subst (λ r. G r p'.script) regs all)) i.going i.below i.first i.at
    i.open_phase
    (ap (λ x. held_at x slot) held ∙ one_more_held p.engine.held p.regs p.regs slot i.h i.below i.at i.far refl)
    (λ tag within apart far.
    ap (λ x. held_at x tag) held
    ∙ stays_held p.engine.held places p.regs p.regs tag within (set_elsewhere p.engine.held p.regs slot tag (option_map with_block (held_at (remembered p.engine.held p.regs) slot)) apart) refl far)
    (subst C (sym whole) card) asked free)))

-- ---- a block that stops the engine

-- the slot that a stop names is rung
pub rung_by : (p : PathState) (slot : ℕ) (cause : Cause) → is_rung (progress_of p.regs.ring slot) ≡ true → IfSome (named_by (Some cause)) (λ tag. tag ≡ slot)
    → IfSome (named_by (Some cause)) (λ tag. is_rung (progress_of p.regs.ring tag) ≡ true)
rung_by p slot cause rung named =
    if_then (named_by (Some cause)) (λ tag. tag ≡ slot) (λ tag. is_rung (progress_of p.regs.ring tag) ≡ true)
    (λ tag e. ap (λ n. is_rung (progress_of p.regs.ring n)) e ∙ rung) named

block_stops : (p : PathState) (a : ArrayState) (p' : PathState) (a' : ArrayState) (did : Did) (phase : Option Phase) (e : EngineEvent p a p' a' did phase)
    (slot : ℕ) (i : InPhase p slot) (end : LinkEnd) → AreTied p → rests p.regs ≡ false
    → outcome_of did e.event.left.held e.event.left.regs ≡ after_close (host_of (remembered p.engine.held p.regs) p.regs) slot i.h.task.desc (Err end)
    → ((word : ℕ) → end ≡ link_end.Status word → is_masked p.regs word ≡ true)
    → KeepsCard p.card e.card → KeepsScript p.script p'.script → p'.memory ≡ p.memory → AreTied p'
block_stops p a p' a' did phase e slot i end t goes out masked card script memory =
    let b = broken_stops (host_of (remembered p.engine.held p.regs) p.regs) slot i.h.task.desc end masked in
    let regs : p'.regs ≡ stopped_with p.regs (data_error (index_of (execute_of slot i.h.task.desc)) slot) =
    e.event.registers ∙ ap (λ o. o.host.regs) (out ∙ b.1) in
    stop_ties p a p' a' did phase e t i.calm goes
    (subst (Stops p.regs) (sym regs)
    (stops_with p.regs (data_error (index_of (execute_of slot i.h.task.desc)) slot) (ap (λ r. r.status_enable) t.regs.same) t.regs.notice)) card script memory b.0
    (ap (λ o. o.did) (out ∙ b.1)) (rung_by p slot b.0 (ap is_rung i.active) b.2)

-- ---- a block

status_only : (word other : ℕ) → link_end.Status word ≡ link_end.Status other → word ≡ other
status_only word other e = ap (λ end. word_in_end end) e
  where
    word_in_end : LinkEnd → ℕ
    word_in_end (link_end.Status w) = w
    word_in_end other = 0

made_ties : (p : PathState) (a : ArrayState) (p' : PathState) (a' : ArrayState) (did : Did) (phase : Option Phase) (e : EngineEvent p a p' a' did phase)
    (slot : ℕ) (i : InPhase p slot) (error : ErrorSet) (f : Contents → Contents) (answer : Result (Unit {0}) LinkEnd) → AreTied p → rests p.regs ≡ false
    → is_masked p.regs (word_of error) ≡ true
    → outcome_of did e.event.left.held e.event.left.regs ≡ block_ended (host_of (remembered p.engine.held p.regs) p.regs) slot i.h.task.desc answer
    → MemoryAfter p p'.memory answer
    → BlockMade error (phase_of slot i.h) f (behind_path p a) (behind e.card a' p'.script) answer → AreTied p'
made_ties p a p' a' did phase e slot i error f answer t goes masked out memory (bad n hit next seen new) =
    let O : Result (Unit {0}) LinkEnd → Type 0 =
    λ r. outcome_of did e.event.left.held e.event.left.regs ≡ block_ended (host_of (remembered p.engine.held p.regs) p.regs) slot i.h.task.desc r in
    block_stops p a p' a' did phase e slot i (link_end.Bus (Bad n)) t goes (subst O seen out) (λ word h. absurd (cc h))
    (subst (KeepsCard p.card) (sym (ap (λ b. b.card) new)) (card_itself p.card))
    (subst (KeepsScript p.script) (sym (ap (λ b. b.script) new)) (struck_keeps p.script)) (subst (MemoryAfter p p'.memory) seen memory)
made_ties p a p' a' did phase e slot i error f answer t goes masked out memory (served got none s script seen) =
    by_end_of s.end s.answers s.card
  where
    O : Result (Unit {0}) LinkEnd → Type 0
    O r = outcome_of did e.event.left.held e.event.left.regs ≡ block_ended (host_of (remembered p.engine.held p.regs) p.regs) slot i.h.task.desc r

    keeps : KeepsCard p.card e.card
    keeps = keeps_by p.card (by_end (moved_on p.card (phase_of slot i.h)) p.card s.end) e.card (moved_keeps p.card (phase_of slot i.h) s.end) s.card s.store

    lines : KeepsScript p.script p'.script
    lines = subst (KeepsScript p.script) (sym script) (block_script p.script.hit got p.script)

    breaks : (end : LinkEnd) → answer ≡ Err end → ((word : ℕ) → end ≡ link_end.Status word → is_masked p.regs word ≡ true) → AreTied p'
    breaks end is masked = block_stops p a p' a' did phase e slot i end t goes (subst O is out) masked keeps lines (subst (MemoryAfter p p'.memory) is memory)

    by_end_of : (end : End) → got ≡ block_answer error end → e.card ≡ record (by_end (moved_on p.card (phase_of slot i.h)) p.card end) { store = e.card.store } → AreTied p'
    by_end_of (Ok u) is card =
        let well : answer ≡ Ok tt = seen ∙ ap (block_seen p.script.hit) is ∙ seen_ok p.script.hit in
        moved_ties p a p' a' did phase e slot i t goes (subst O well out)
        (script ∙ ap (λ r. after_block p.script.hit r p.script) is ∙ after_ok p.script.hit p.script) card keeps (subst (MemoryAfter p p'.memory) well memory) none
    by_end_of (Err Flash) is card =
        elim (seen_status p.script.hit (word_of error)) [
          | inl x ↦
              breaks (link_end.Status (word_of error)) (seen ∙ ap (block_seen p.script.hit) is ∙ x)
              (λ word h. subst (λ w. is_masked p.regs w ≡ true) (status_only (word_of error) word h) masked)
          | inr x ↦ breaks (link_end.Bus Late) (seen ∙ ap (block_seen p.script.hit) is ∙ x) (λ word h. absurd (cc h))
        ]
    by_end_of (Err PowerLost) is card =
        breaks link_end.Dark (seen ∙ ap (block_seen p.script.hit) is ∙ seen_dark p.script.hit) (λ word h. absurd (cc h))

abbrev pub host_at : PathState → Host
host_at p = host_of (remembered p.engine.held p.regs) p.regs

read_memory : (p : PathState) (m : Memory) (slot k : ℕ) (block : Block) (i : InPhase p slot) (answer : Result (Unit {0}) LinkEnd) → AreTied p
    → i.h.task.desc.read ≡ true → m ≡ read_into p.memory i.h.task.pieces k block answer → HasSameSpace p.memory m
    → KeepsOthers (parts i.h.task.pieces (512 * k) 512) p.memory m
    → DataJob (layout p) slot (job p i.id) (asks_notice (plan_of p) (job p i.id)) i.h.task → MemoryAfter p m answer
read_memory p m slot k block i (Err end) t way written space others j = written
read_memory p m slot k block i (Ok u) t way written space others (writes sector blocks fill forced reliable high is task) =
    absurd (false≢true (sym (ap (λ x. x.desc.read) task) ∙ way))
read_memory p m slot k block i (Ok u) t way written space others (reads sector blocks high is task) =
    let P : List Piece → Type 0 = λ pieces. KeepsOthers (parts pieces (512 * k) 512) p.memory m in
    let F : Job → Type 0 = λ j. IsTagOf (layout p) slot j in
    read_keeps p m slot i.id sector blocks high t.layout_fits i.is_held is (subst F is i.asks.tag_fits)
    (parts-among (layout p) slot blocks (512 * k) 512 p.memory m space (subst P (ap (λ x. x.pieces) task) others))

pub block_ties : (p : PathState) (a : ArrayState) (p' : PathState) (a' : ArrayState) (did : Did) (phase : Option Phase) (e : EngineEvent p a p' a' did phase)
    (slot k : ℕ) → AreTied p → IsDue (remembered p.engine.held p.regs) p.regs p.memory (NextBlock slot k)
    → HasItsSlot (remembered p.engine.held p.regs) p.regs (NextBlock slot k)
    → Does CardMade (behind_path p a) (behind e.card a' p'.script) (host_at p) p.memory p'.memory (outcome_of did e.event.left.held e.event.left.regs) (NextBlock slot k)
    → AreTied p'
block_ties p a p' a' did phase e slot k t due has does = by_way i.h.task.desc.read refl (subst D i.there does)
  where
    old : Behind
    old = behind_path p a

    new : Behind
    new = behind e.card a' p'.script

    out : Outcome
    out = outcome_of did e.event.left.held e.event.left.regs

    goes : rests p.regs ≡ false
    goes = works (remembered p.engine.held p.regs) p.regs p.memory (NextBlock slot k) due (λ h. absurd (cc h))

    i : InPhase p slot
    i = in_phase p slot t goes has.0.below (block_active (remembered p.engine.held p.regs) p.regs p.memory slot k due)

    D : Option HeldTask → Type 0
    D o = IsSomeAnd o (λ held. MovesBlock CardMade old new (host_at p) p.memory p'.memory slot k out held.task)

    left : i.h.moved < i.h.task.desc.blocks
    left =
        let L : Option HeldTask → Type 0 = λ o. option_map_or (λ h. h.moved) o 0 < option_map_or (λ h. h.task.desc.blocks) o 0 in
        let less : moved_of (remembered p.engine.held p.regs) slot < blocks_of (remembered p.engine.held p.regs) slot =
        subst (λ n. n < blocks_of (remembered p.engine.held p.regs) slot) has.1 has.2 in
        subst L i.there less

    masked : (word : ℕ) → (bit_and word 3228041344 == 0) ≡ false → is_masked p.regs word ≡ true
    masked word some = masks p.regs word (ap (λ r. r.error_mask) t.regs.same) some

    by_way : (read : Bool) → i.h.task.desc.read ≡ read
        → MatchBool read (TakesBlock CardMade old new i.h.task.pieces k p.memory p'.memory out (block_ended (host_at p) slot i.h.task.desc))
        (GivesBlock CardMade old new (block_of p.memory i.h.task.pieces k) out (block_ended (host_at p) slot i.h.task.desc) × (p'.memory ≡ p.memory))
        → AreTied p'
    by_way true way x =
        made_ties p a p' a' did phase e slot i DEVICE_ECC_FAILED same x.answer t goes (masked (word_of DEVICE_ECC_FAILED) refl) x.outcome
        (read_memory p p'.memory slot k x.block i x.answer t way x.written x.space x.others
        (data_job (layout p) slot (job p i.id) (asks_notice (plan_of p) (job p i.id)) i.h.task i.task))
        (taken x.block (phase_of slot i.h) old new x.answer i.open_phase way left x.crossed)
    by_way false way x =
        made_ties p a p' a' did phase e slot i ERROR (with_put (next_put (phase_of slot i.h) (block_of p.memory i.h.task.pieces k))) x.0.answer t goes
        (masked (word_of ERROR) refl) x.0.outcome (kept_memory x.0.answer x.1)
        (given (block_of p.memory i.h.task.pieces k) (phase_of slot i.h) old new x.0.answer i.open_phase way left x.0.crossed)
      where
        kept_memory : (answer : Result (Unit {0}) LinkEnd) → p'.memory ≡ p.memory → MemoryAfter p p'.memory answer
        kept_memory (Ok u) same = λ tag within. same_asked p p'.memory tag same
        kept_memory (Err end) same = same
