-- What a block that moved tells, over contents: it prints nothing, and the storage machine goes on with its phase.
use Rattle.std.proofs.Common.{◌≡◌, ◌≢◌, ◌<◌, ◌+◌, ◌++◌, ◌*◌, ℕ, refl, sym, ◌∙◌, ap, subst, arith, inl, inr}
use Rattle.std.specs.Prelude.{Bool, true, false, cond, Option, Some, None, IfSome, is_some, length, List, [], ◌∷◌, OnOk, Result, Ok, Err, slice_set, MatchOption}
use Rattle.std.specs.Bool.{MatchBool}
use Rattle.std.specs.Option.{IsSomeAnd, option_map, option_map_or}
use Rattle.std.proofs.lemmas.Bool.{false≢true}
use Rattle.array_edge.specs.Array.{ArrayState}
use Rattle.bus_link.specs.declared.link.LinkEnd.{LinkEnd}
use Rattle.card_core.specs.Card.{CardState}
use Rattle.card_core.specs.Moving.{FindsRoom, HasRead, IsUntouched, moved_on, next_put}
use Rattle.card_core.specs.Serving.{End, Served, block_answer, by_end}
use Rattle.card_core.specs.declared.phase.DataPhase.{DataPhase}
use Rattle.card_core.specs.declared.phase.Phase.{Phase}
use Rattle.card_link.specs.Behind.{Behind, behind}
use Rattle.card_link.specs.Made.{CardMade, Gives, IsGiven, IsLost, IsTaken, Takes, after_block, block_seen, is_bad_block}
use Rattle.card_store.specs.Staging.{HasRoom}
use Rattle.card_store.specs.Store.{Contents, IsSameStore, Reads, Stands as StoreStands, Turns, same, with_put}
use Rattle.cmd_words.specs.declared.status.Status.{Status as ErrorSet}
use Rattle.cmd_words.specs.declared.status.TheConstants.Status.{DEVICE_ECC_FAILED, ERROR}
use Rattle.cq_chain.specs.declared.pieces.Piece.{Piece}
use Rattle.bus_link.specs.declared.link.Cause.{Cause}
use Rattle.card_core.specs.declared.ends.BlockEnd.{BlockEnd}
use Rattle.card_core.specs.declared.ends.BlockEnd.TheVariants as block_end
use Rattle.cq_desc.specs.declared.task.TaskDesc.{TaskDesc}
use Rattle.cq_engine.specs.After.{after_block as block_ended, phase_ended}
use Rattle.storage_model.specs.declared.faults.BusKind.{BusKind}
use Rattle.std.proofs.lemmas.Option.{same_Some}
use Rattle.std.specs.Prelude.{replicate}
use Rattle.cq_engine.specs.Event.{Does, Gives as GivesBlock, MovesBlock, Takes as TakesBlock}
use Rattle.cq_engine.specs.Outcome.{Holding, Host, Outcome, judged, outcome_of, word_in}
use Rattle.cq_engine.specs.declared.did.Did.{Did}
use Rattle.cq_engine.specs.declared.did.Did.TheVariants.{Moved}
use Rattle.cq_schedule.specs.Held.{Places, held_at, noted, remembered, with_block}
use Rattle.cq_schedule.specs.Meaning.{HasItsSlot, IsDue, rests}
use Rattle.cq_schedule.specs.Order.{blocks_of, first_at}
use Rattle.cq_regs.specs.declared.slots.Progress.TheVariants.{Active}
use Rattle.cq_schedule.specs.declared.held.HeldTask.{HeldTask}
use Rattle.cq_schedule.specs.declared.rules.Due.TheVariants.{Block as NextBlock}
use Rattle.drv_core.specs.State.{asks_notice}
use Rattle.drv_ring.specs.Changes.{ChangesAmong}
use Rattle.drv_ring.specs.Layout.{IsTagOf}
use Rattle.drv_ring.specs.Pieces.{tag_pieces}
use Rattle.drv_ring.specs.Task.{read_desc, write_desc}
use Rattle.drv_ring.proofs.RingLaws.{moved-keeps, parts-among}
use Rattle.drv_ring.proofs.Scattered.{pieces-apart}
use Rattle.host_mem.specs.Memory.{Memory}
use Rattle.intent_store.specs.Intent.{shown_by}
use Rattle.intent_store.specs.declared.ends.StoreEnd.TheVariants.{Flash, PowerLost}
use Rattle.piece_data.specs.Data.{block_of, parts}
use Rattle.piece_data.specs.Laws.{AreApart, ChangesBlock, HasSameSpace, KeepsOthers}
use Rattle.storage_machine.specs.Jobs.{is_read}
use Rattle.storage_model.specs.declared.block.Block.{Block}
use Rattle.storage_model.specs.declared.faults.Letter.TheVariants.{Engine as EngineActs}
use Rattle.storage_model.specs.declared.marks.Mark.TheVariants.{Put as PutMark}
use Rattle.storage_model.specs.declared.plan.Fill.{Fill}
use Rattle.storage_model.specs.declared.plan.Job.{Job}
use Rattle.storage_model.specs.declared.plan.Job.TheVariants.{Read, Write}
use Rattle.storage_model.specs.declared.trace.Item.{Item}
use Rattle.storage_machine.specs.Commands.{is_gone}
use Rattle.trace_effects.specs.Cuts.{places_of}
use Rattle.world_state.specs.Engine.{EngineEvent, engine_lines, phase_left}
use Rattle.world_state.specs.Laws.{StateLaws}
use Rattle.world_state.specs.Path.{PathState, behind_path, holder, job, layout, plan_of, under_way}
use Rattle.world_state.specs.Reading.{Context}
use Rattle.world_state.specs.Stands.{Agrees, HasReadSoFar, contents_of}
use Rattle.world_state.specs.Ties.{AreTied}
use Rattle.phase_laws.proofs.Blocks.{after_ok, host_at, seen_dark, seen_status}
use Rattle.phase_laws.proofs.Crossings.{BlockMade, bad, bad_block_at, given, moving_is, served, taken}
use Rattle.phase_laws.proofs.Dues.{block_active, works}
use Rattle.phase_laws.proofs.Endings.{phase_of}
use Rattle.phase_laws.proofs.Events.{InPhase, in_phase}
use Rattle.phase_laws.proofs.Few.{few_lines, more_places}
use Rattle.phase_laws.proofs.Helds.{one_more_held}
use Rattle.phase_laws.proofs.Jobs.{DataJob, data_job, reads, writes}
use Rattle.phase_laws.proofs.Moves.{BlockTold, TellsSo, moved_tells, way_is}
use Rattle.phase_laws.proofs.Parts.{path_with}
use Rattle.phase_laws.proofs.Tags.{of_some}
use Rattle.phase_laws.proofs.Tolds.{SoFar, data_stays, read_contents, read_so_far, same_data, write_contents}

-- ---- the deferral of a write's block

-- the card served the block, where no fault of the data is on it
pub is_given : (block : Block) (phase : DataPhase) (old new : Behind) (answer : Result (Unit {0}) LinkEnd) → old.card.phase ≡ Some phase
    → is_bad_block old.script.hit (phase.moved + 1) ≡ false → Gives block old new answer → IsGiven block old new answer
is_given block phase old new answer open_phase none g =
    let P : Option BusKind → Type 0 = λ o. MatchOption o (IsGiven block old new answer) (λ kind. IsLost kind old new old.script answer) in
    subst P (bad_block_at old.script old.card phase open_phase ∙ ap (λ b. cond b old.script.hit None) none) g

pub is_taken : (block : Block) (phase : DataPhase) (old new : Behind) (answer : Result (Unit {0}) LinkEnd) → old.card.phase ≡ Some phase
    → is_bad_block old.script.hit (phase.moved + 1) ≡ false → Takes block old new answer → IsTaken block old new answer
is_taken block phase old new answer open_phase none g =
    let P : Option BusKind → Type 0 = λ o. MatchOption o (IsTaken block old new answer) (λ kind. IsLost kind old new old.script answer) in
    subst P (bad_block_at old.script old.card phase open_phase ∙ ap (λ b. cond b old.script.hit None) none) g

-- what was read
pub has_read : (block : Block) (phase : DataPhase) (old new : Behind) (answer : Result (Unit {0}) LinkEnd) → old.card.phase ≡ Some phase
    → phase.task.read ≡ true → phase.moved < phase.task.blocks → (is : IsTaken block old new answer)
    → HasRead (phase.start + phase.moved) block old.card old.array new.card new.array is.answer
has_read block phase old new answer open_phase way left is =
    let T : Option DataPhase → Type 0 = λ o. MatchOption o (IsUntouched tt old.card old.array new.card new.array is.answer × (block ≡ record { 0 = replicate 512 0 }))
    (λ p. Served (block_answer DEVICE_ECC_FAILED) (by_end (moved_on old.card p) old.card) same old.card old.array new.card new.array is.answer
    × HasRead (p.start + p.moved) block old.card old.array new.card new.array is.answer) in
    (subst T (moving_is old.card phase true open_phase way left) is.gives).1

-- a put finds room where the places of the marks are fewer than the lines
pub finds_room : (p : PathState) (a : ArrayState) (slot : ℕ) (i : InPhase p slot) (block : Block) (c : Context) → i.h.task.desc.read ≡ false
    → i.h.moved < i.h.task.desc.blocks → Agrees p a c → (plan_of p).through ≡ false → length (places_of (contents_of p c).pend) < (plan_of p).lines
    → FindsRoom block p.card
finds_room p a slot i block c way left h through few =
    let P : Option DataPhase → Type 0 = λ o. IfSome o (λ phase. HasRoom (next_put phase block) p.card.store.cache) in
    let lines = few_lines (contents_of p c) p.card.store a h.tied.store h.told h.store in
    let room : p.card.store.cache.room ≡ (plan_of p).lines =
    h.tied.card.room ∙ h.tied.card.lines ∙ ap (λ b. cond b 1024 (plan_of p).lines) through in
    let free : length p.card.store.cache.lines < p.card.store.cache.room = omega (arith, lines, room, few) in
    subst P (sym (moving_is p.card (phase_of slot i.h) false i.open_phase way left)) (inl free)

-- ---- a write's block

if_so : (o : Option ℕ) (P : ℕ → Type 0) → ((id : ℕ) → o ≡ Some id → P id) → IfSome o P
if_so None P f = tt
if_so (Some id) P f = f id refl

no_read : (p : PathState) (m : Memory) (g : Holding) (card : CardState) (slot : ℕ) (i : InPhase p slot) (c : Context) → is_read (job p i.id) ≡ false
    → IfSome (under_way p) (HasReadSoFar (path_with p p.regs m g card p.script) c)
no_read p m g card slot i c not_read =
    let q : PathState = path_with p p.regs m g card p.script in
    let W : Option ℕ → Type 0 = λ o. IfSome o (HasReadSoFar q c) in
    subst W (sym (way_is p slot i))
    (if_so (holder p slot) (SoFar q c slot)
    (λ id is r. absurd (false≢true (sym (ap (λ n. is_read (job p n)) (same_Some id i.id (sym is ∙ i.is_held)) ∙ not_read) ∙ r))))

pub write_told : (p : PathState) (a : ArrayState) (m : Memory) (g : Holding) (card : CardState) (a' : ArrayState) (slot : ℕ) (i : InPhase p slot)
    (sector blocks : ℕ) (fill : Fill) (forced reliable high : Bool) → job p i.id ≡ Write sector blocks fill forced reliable high
    → i.h.task ≡ record { desc = write_desc sector blocks forced reliable high (asks_notice (plan_of p) (job p i.id)); pieces = tag_pieces (layout p) slot blocks }
    → i.h.moved < i.h.task.desc.blocks → held_at g.held slot ≡ Some (with_block i.h) → m ≡ p.memory
    → IsSameStore p.card.store card.store → is_some a'.told ≡ is_some a.told
    → Turns (with_put (next_put (phase_of slot i.h) (block_of p.memory i.h.task.pieces i.h.moved))) p.card.store a card.store a'
    → (FindsRoom (block_of p.memory i.h.task.pieces i.h.moved) p.card → a' ≡ a) → BlockTold p a m g card a'
write_told p a m g card a' slot i sector blocks fill forced reliable high is task left held memory store told turns room =
    let put = next_put (phase_of slot i.h) (block_of p.memory i.h.task.pieces i.h.moved) in
    let less : i.h.moved < blocks = subst (λ n. i.h.moved < n) (ap (λ t. t.desc.blocks) task) left in
    let after : (c : Context) → contents_of (path_with p p.regs m g card p.script) c ≡ with_put put (contents_of p c) =
    λ c. write_contents p m g card slot i sector blocks fill forced reliable high is task less held c in
    record {
      last = store.last;
      told = told;
      blocks = same_data p m g card memory;
      stored = λ c stands. subst (λ x. StoreStands x card.store a') (sym (after c)) (turns (contents_of p c) stands);
      read = λ c h. no_read p m g card slot i c (ap is_read is);
      deferred = λ c h through staged kept few.
          let more = more_places (contents_of p c).pend (PutMark put ∷ []) in
          let same_pend : length (places_of (contents_of (path_with p p.regs m g card p.script) c).pend) ≡ length (places_of ((contents_of p c).pend ++ PutMark put ∷ [])) =
          ap (λ x. length (places_of x.pend)) (after c) in
          let fewer : length (places_of (contents_of p c).pend) < (plan_of p).lines = omega (arith, more, same_pend, few) in
          let way : i.h.task.desc.read ≡ false = ap (λ t. t.desc.read) task in
          let as_it_was : a' ≡ a = room (finds_room p a slot i (block_of p.memory i.h.task.pieces i.h.moved) c way left h through fewer) in
          subst (λ x. IfSome (shown_by x) (λ pages. pages ≡ c.base)) (sym as_it_was) (h.deferred through staged kept fewer);
    }

-- ---- a read's block

pub read_told : (p : PathState) (a : ArrayState) (m : Memory) (g : Holding) (card : CardState) (a' : ArrayState) (slot : ℕ) (i : InPhase p slot)
    (sector blocks : ℕ) (high : Bool) (block : Block) → AreTied p → job p i.id ≡ Read sector blocks high
    → i.h.task ≡ record { desc = read_desc sector blocks high (asks_notice (plan_of p) (job p i.id)); pieces = tag_pieces (layout p) slot blocks }
    → held_at g.held slot ≡ Some (with_block i.h) → HasSameSpace p.memory m → KeepsOthers (parts i.h.task.pieces (512 * i.h.moved) 512) p.memory m
    → ChangesBlock i.h.task.pieces p.memory m i.h.moved block → Reads p.card.store a (i.h.task.desc.start + i.h.moved) block
    → IsSameStore p.card.store card.store → is_some a'.told ≡ is_some a.told → shown_by a' ≡ shown_by a → Turns same p.card.store a card.store a'
    → BlockTold p a m g card a'
read_told p a m g card a' slot i sector blocks high block t is task held space others change value store told pages turns =
    let F : Job → Type 0 = λ j. IsTagOf (layout p) slot j in
    let below = subst F is i.asks.tag_fits in
    let P : List Piece → Type 0 = λ ps. KeepsOthers (parts ps (512 * i.h.moved) 512) p.memory m in
    let among : ChangesAmong (tag_pieces (layout p) slot blocks) p.memory m =
    parts-among (layout p) slot blocks (512 * i.h.moved) 512 p.memory m space (subst P (ap (λ x. x.pieces) task) others) in
    let after : (c : Context) → contents_of (path_with p p.regs m g card p.script) c ≡ contents_of p c =
    λ c. (read_contents p m g card slot i sector blocks high is held c).0 in
    record {
      last = store.last;
      told = told;
      blocks = data_stays p m g card slot t i (λ tag within apart. moved-keeps (layout p) slot tag blocks p.memory m t.layout_fits below within apart among);
      stored = λ c stands. subst (λ x. StoreStands x card.store a') (sym (after c)) (turns (contents_of p c) stands);
      read = λ c h. read_so_far p a m g card slot i sector blocks high block is task held change value c h;
      deferred = λ c h through staged kept few.
          let fewer : length (places_of (contents_of p c).pend) < (plan_of p).lines =
          subst (λ x. length (places_of x.pend) < (plan_of p).lines) (after c) few in
          subst (λ o. IfSome o (λ pages. pages ≡ c.base)) (sym pages) (h.deferred through staged kept fewer);
    }

-- ---- the event

-- what a block that moved leaves is told
abbrev ToldBy : (p : PathState) (a : ArrayState) (p' : PathState) (a' : ArrayState) (card : CardState) (slot : ℕ) (i : InPhase p slot) (f : Contents → Contents) → Type 0
ToldBy p a p' a' card slot i f =
    held_at p'.engine.held slot ≡ Some (with_block i.h) → IsSameStore p.card.store card.store → is_some a'.told ≡ is_some a.told
    → Turns f p.card.store a card.store a' → BlockTold p a p'.memory p'.engine card a'

moved_event : (p : PathState) (a : ArrayState) (p' : PathState) (a' : ArrayState) (did : Did) (phase : Option Phase) (e : EngineEvent p a p' a' did phase)
    (slot k : ℕ) (i : InPhase p slot) (f : Contents → Contents) → AreTied p → AreTied p' → StateLaws
    → IsDue (remembered p.engine.held p.regs) p.regs p.memory (NextBlock slot k) → i.h.moved < i.h.task.desc.blocks → did ≡ Moved slot
    → outcome_of did e.event.left.held e.event.left.regs ≡ block_ended (host_at p) slot i.h.task.desc (Ok tt) → p'.script ≡ p.script
    → IsSameStore p.card.store e.card.store → is_some a'.told ≡ is_some a.told → Turns f p.card.store a e.card.store a'
    → ToldBy p a p' a' e.card slot i f → TellsSo EngineActs p a (engine_lines p p' did phase) p' a'
moved_event p a p' a' did phase e slot k i f t t' laws due left is out script store told turns told_by =
    let regs : p'.regs ≡ p.regs = e.event.registers ∙ ap (λ o. o.host.regs) out in
    let places : Places = slice_set (remembered p.engine.held p.regs) slot (option_map with_block (held_at (remembered p.engine.held p.regs) slot)) in
    let noted_so : p'.engine.held ≡ noted places p.regs = ap (λ g. g.held) e.event.keeps ∙ ap (λ o. noted o.host.held o.host.regs) out in
    let held : held_at p'.engine.held slot ≡ Some (with_block i.h) =
    ap (λ x. held_at x slot) noted_so ∙ one_more_held p.engine.held p.regs p.regs slot i.h i.below i.at i.far refl in
    let way : under_way p' ≡ Some slot =
    ap (λ r. cond r.stopped None (first_at Active r.ring)) regs ∙ ap (λ b. cond b None (first_at Active p.regs.ring)) i.going ∙ i.first in
    let whole : p'.card ≡ e.card = e.left ∙ ap (λ b. phase_left e.card b) (ap is_some way) in
    let q : CardState → PathState = λ c. path_with p p.regs p'.memory p'.engine c p.script in
    let path : p' ≡ q e.card =
    ap (λ d. record p' { driver = d }) e.driver ∙ ap (λ r. path_with p r p'.memory p'.engine p'.card p'.script) regs
    ∙ ap (λ s. path_with p p.regs p'.memory p'.engine p'.card s) script ∙ ap q whole in
    let lines : engine_lines p p' did phase ≡ [] = ap (λ d. engine_lines p p' d phase) is in
    let L : List Item → PathState → Type 0 = λ items x. TellsSo EngineActs p a items x a' in
    let heard : is_gone p.script.hit ≡ false = of_some (under_way p) slot (λ tag. is_gone p.script.hit ≡ false) (way_is p slot i) t.heard in
    subst (λ items. L items p') (sym lines) (subst (λ x. L [] x) (sym path)
    (moved_tells p a p'.memory p'.engine e.card a' slot k i laws heard due left held (subst AreTied path t') (told_by held store told turns)))

ended_apart : (host : Host) (slot other : ℕ) (desc : TaskDesc) (word : Result ℕ Cause) → Moved other ≢ (phase_ended host slot desc word).did
ended_apart host slot other desc (Ok word) e = absurd (cc e)
ended_apart host slot other desc (Err cause) e = absurd (cc e)

unseen : (hit : Option BusKind) (word : ℕ) → Ok tt ≢ block_seen hit (Err (block_end.Status word))
unseen hit word e =
    elim (seen_status hit word) [
      | inl x ↦ absurd (cc (e ∙ x))
      | inr x ↦ absurd (cc (e ∙ x))
    ]

got_ok : (hit : Option BusKind) (got : Result (Unit {0}) BlockEnd) → Ok tt ≡ block_seen hit got → got ≡ Ok tt
got_ok hit (Ok u) e = refl
got_ok hit (Err (block_end.Status word)) e = absurd (unseen hit word e)
got_ok hit (Err block_end.Dark) e = absurd (cc (e ∙ seen_dark hit))

made_tells : (p : PathState) (a : ArrayState) (p' : PathState) (a' : ArrayState) (did : Did) (phase : Option Phase) (e : EngineEvent p a p' a' did phase)
    (slot k : ℕ) (i : InPhase p slot) (error : ErrorSet) (f : Contents → Contents) (answer : Result (Unit {0}) LinkEnd) → AreTied p → AreTied p' → StateLaws
    → IsDue (remembered p.engine.held p.regs) p.regs p.memory (NextBlock slot k) → i.h.moved < i.h.task.desc.blocks → did ≡ Moved slot
    → outcome_of did e.event.left.held e.event.left.regs ≡ block_ended (host_at p) slot i.h.task.desc answer
    → (answer ≡ Ok tt → is_bad_block p.script.hit (i.h.moved + 1) ≡ false → ToldBy p a p' a' e.card slot i f)
    → BlockMade error (phase_of slot i.h) f (behind_path p a) (behind e.card a' p'.script) answer
    → TellsSo EngineActs p a (engine_lines p p' did phase) p' a'
made_tells p a p' a' did phase e slot k i error f (Err end) t t' laws due left is out told_by made =
    absurd (ended_apart (host_at p) slot slot i.h.task.desc (judged p.regs slot (word_in (Err end) (Some slot))) (sym is ∙ ap (λ o. o.did) out))
made_tells p a p' a' did phase e slot k i error f (Ok u) t t' laws due left is out told_by (bad n hit next seen new) = absurd (cc seen)
made_tells p a p' a' did phase e slot k i error f (Ok u) t t' laws due left is out told_by (served got none s script seen) =
    by_end_of s.end s.answers s.turns
  where
    well : got ≡ Ok tt
    well = got_ok p.script.hit got seen

    lines : p'.script ≡ p.script
    lines = script ∙ ap (λ r. after_block p.script.hit r p.script) well ∙ after_ok p.script.hit p.script

    by_end_of : (end : End) → got ≡ block_answer error end → Turns (by_end f same end) p.card.store a e.card.store a'
        → TellsSo EngineActs p a (engine_lines p p' did phase) p' a'
    by_end_of (Ok v) answers turns =
        moved_event p a p' a' did phase e slot k i f t t' laws due left is out lines s.store s.ends.tells turns (told_by refl none)
    by_end_of (Err Flash) answers turns = absurd (cc (sym well ∙ answers))
    by_end_of (Err PowerLost) answers turns = absurd (cc (sym well ∙ answers))

-- a block that moved
pub block_moved_tells : (p : PathState) (a : ArrayState) (p' : PathState) (a' : ArrayState) (did : Did) (phase : Option Phase) (e : EngineEvent p a p' a' did phase)
    (slot k : ℕ) → AreTied p → AreTied p' → StateLaws → IsDue (remembered p.engine.held p.regs) p.regs p.memory (NextBlock slot k)
    → HasItsSlot (remembered p.engine.held p.regs) p.regs (NextBlock slot k)
    → Does CardMade (behind_path p a) (behind e.card a' p'.script) (host_at p) p.memory p'.memory (outcome_of did e.event.left.held e.event.left.regs) (NextBlock slot k)
    → did ≡ Moved slot → TellsSo EngineActs p a (engine_lines p p' did phase) p' a'
block_moved_tells p a p' a' did phase e slot k t t' laws due has does is = by_way i.h.task.desc.read refl (subst D i.there does)
  where
    old : Behind
    old = behind_path p a

    new : Behind
    new = behind e.card a' p'.script

    out : Outcome
    out = outcome_of did e.event.left.held e.event.left.regs

    goes : rests p.regs ≡ false
    goes = works (remembered p.engine.held p.regs) p.regs p.memory (NextBlock slot k) due (λ h. absurd (cc h))

    i : InPhase p slot
    i = in_phase p slot t goes has.0.below (block_active (remembered p.engine.held p.regs) p.regs p.memory slot k due)

    D : Option HeldTask → Type 0
    D o = IsSomeAnd o (λ held. MovesBlock CardMade old new (host_at p) p.memory p'.memory slot k out held.task)

    number : k ≡ i.h.moved
    number = has.1 ∙ ap (λ o. option_map_or (λ h. h.moved) o 0) i.there

    left : i.h.moved < i.h.task.desc.blocks
    left =
        let blocks : blocks_of (remembered p.engine.held p.regs) slot ≡ i.h.task.desc.blocks = ap (λ o. option_map_or (λ h. h.task.desc.blocks) o 0) i.there in
        subst (λ n. n < i.h.task.desc.blocks) number (subst (λ n. k < n) blocks has.2)

    j : DataJob (layout p) slot (job p i.id) (asks_notice (plan_of p) (job p i.id)) i.h.task
    j = data_job (layout p) slot (job p i.id) (asks_notice (plan_of p) (job p i.id)) i.h.task i.task

    by_way : (read : Bool) → i.h.task.desc.read ≡ read
        → MatchBool read (TakesBlock CardMade old new i.h.task.pieces k p.memory p'.memory out (block_ended (host_at p) slot i.h.task.desc))
        (GivesBlock CardMade old new (block_of p.memory i.h.task.pieces k) out (block_ended (host_at p) slot i.h.task.desc) × (p'.memory ≡ p.memory))
        → TellsSo EngineActs p a (engine_lines p p' did phase) p' a'
    by_way true way x =
        made_tells p a p' a' did phase e slot k i DEVICE_ECC_FAILED same x.answer t t' laws due left is x.outcome
        (λ ok none held store told turns.
        let got : IsTaken x.block old new x.answer = is_taken x.block (phase_of slot i.h) old new x.answer i.open_phase none x.crossed in
        let read = has_read x.block (phase_of slot i.h) old new x.answer i.open_phase way left got in
        let well : got.answer ≡ Ok tt = got_ok p.script.hit got.answer (sym ok ∙ got.seen) in
        let value = subst (λ r. OnOk r (Reads p.card.store a (i.h.task.desc.start + i.h.moved) x.block)) well read.block in
        let others = subst (λ n. KeepsOthers (parts i.h.task.pieces (512 * n) 512) p.memory p'.memory) number x.others in
        by_job j x.block ok value (ap shown_by read.same) others x.space x.blocks held store told turns)
        (taken x.block (phase_of slot i.h) old new x.answer i.open_phase way left x.crossed)
      where
        by_job : DataJob (layout p) slot (job p i.id) (asks_notice (plan_of p) (job p i.id)) i.h.task → (block : Block) → x.answer ≡ Ok tt
            → Reads p.card.store a (i.h.task.desc.start + i.h.moved) block → shown_by a' ≡ shown_by a
            → KeepsOthers (parts i.h.task.pieces (512 * i.h.moved) 512) p.memory p'.memory → HasSameSpace p.memory p'.memory
            → (AreApart i.h.task.pieces → OnOk x.answer (ChangesBlock i.h.task.pieces p.memory p'.memory k block))
            → ToldBy p a p' a' e.card slot i same
        by_job (writes sector blocks fill forced reliable high job_is task) block ok value pages others space changes held store told turns =
            absurd (false≢true (sym (ap (λ v. v.desc.read) task) ∙ way))
        by_job (reads sector blocks high job_is task) block ok value pages others space changes held store told turns =
            let F : Job → Type 0 = λ v. IsTagOf (layout p) slot v in
            let below = subst F job_is i.asks.tag_fits in
            let apart : AreApart i.h.task.pieces = subst (λ ps. AreApart ps) (sym (ap (λ v. v.pieces) task)) (pieces-apart (layout p) slot blocks below) in
            let change = subst (λ r. OnOk r (ChangesBlock i.h.task.pieces p.memory p'.memory k block)) ok (changes apart) in
            read_told p a p'.memory p'.engine e.card a' slot i sector blocks high block t job_is task held space others
            (subst (λ n. ChangesBlock i.h.task.pieces p.memory p'.memory n block) number change) value store told pages turns
    by_way false way x =
        made_tells p a p' a' did phase e slot k i ERROR (with_put (next_put (phase_of slot i.h) (block_of p.memory i.h.task.pieces k))) x.0.answer t t' laws due
        left is x.0.outcome
        (λ ok none held store told turns.
        let G : ℕ → Type 0 = λ n. FindsRoom (block_of p.memory i.h.task.pieces n) p.card → a' ≡ a in
        let T : ℕ → Type 0 = λ n. Turns (with_put (next_put (phase_of slot i.h) (block_of p.memory i.h.task.pieces n))) p.card.store a e.card.store a' in
        let given_so = is_given (block_of p.memory i.h.task.pieces k) (phase_of slot i.h) old new x.0.answer i.open_phase none x.0.crossed in
        by_job j held store told (subst T number turns) (subst G number (λ room. (given_so.deferred room).1)))
        (given (block_of p.memory i.h.task.pieces k) (phase_of slot i.h) old new x.0.answer i.open_phase way left x.0.crossed)
      where
        by_job : DataJob (layout p) slot (job p i.id) (asks_notice (plan_of p) (job p i.id)) i.h.task
            → held_at p'.engine.held slot ≡ Some (with_block i.h) → IsSameStore p.card.store e.card.store → is_some a'.told ≡ is_some a.told
            → Turns (with_put (next_put (phase_of slot i.h) (block_of p.memory i.h.task.pieces i.h.moved))) p.card.store a e.card.store a'
            → (FindsRoom (block_of p.memory i.h.task.pieces i.h.moved) p.card → a' ≡ a) → BlockTold p a p'.memory p'.engine e.card a'
        by_job (reads sector blocks high job_is task) held store told turns room = absurd (false≢true (sym way ∙ ap (λ v. v.desc.read) task))
        by_job (writes sector blocks fill forced reliable high job_is task) held store told turns room =
            write_told p a p'.memory p'.engine e.card a' slot i sector blocks fill forced reliable high job_is task left held x.1 store told turns room
