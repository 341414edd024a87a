-- The lines of an interrupt, one answer after the other.
use Rattle.std.proofs.Common.{◌≡◌, ◌∙◌, ◌++◌, ◌+◌, ◌<◌, ◌≤◌, ◌&&◌, ℕ, zero, suc, Bool, true, false, List, [], ◌∷◌, Option, None, Some, MatchOption, length, map, drop, flat_map, nat_lt, get_or, slice_get, slice_set, refl, ap, sym, subst, arith, eq-eqb, lt-ltb, add-one, if◌then◌else◌}
use Rattle.std.proofs.lemmas.Bool.{false≢true}
use Rattle.std.proofs.lemmas.List.FromFn.{get_or-map-range_with_len, length-map-range_with_len}
use Rattle.std.proofs.lemmas.Slice.Eq.{bytes_eq-Decides}
use Rattle.std.specs.List.{range_with_len}
use Rattle.storage_model.specs.declared.block.Block.{Block}
use Rattle.storage_model.specs.declared.plan.Job.{Job}
use Rattle.storage_model.specs.declared.plan.Job.TheVariants.{Read as ReadJob, Write as WriteJob, Flush as FlushJob, Barrier as BarrierJob, Status as StatusJob}
use Rattle.storage_model.specs.declared.trace.Item.{Item}
use Rattle.storage_model.specs.declared.trace.Item.TheVariants.{Done, Read, Sector, Status}
use Rattle.storage_machine.specs.Cuts.{same_block, shows}
use Rattle.storage_machine.specs.Jobs.{is_read, is_status, job_of}
use Rattle.storage_machine.specs.Slots.{id_of, slot_at, tag_of}
use Rattle.storage_machine.specs.declared.slots.Question.TheVariants.{Collected as IsCollected}
use Rattle.storage_machine.specs.declared.state.Event.{Event}
use Rattle.storage_machine.specs.declared.state.Event.TheVariants.{Untold}
use Rattle.storage_machine.specs.declared.state.Owed.{Owed}
use Rattle.storage_machine.specs.declared.state.Owed.TheVariants.{Answers, Nothing, Sectors}
use Rattle.storage_machine.specs.declared.state.State.{State}
use Rattle.storage_order.specs.Events.{Fits, More, goes_on}
use Rattle.trace_effects.specs.Effects.{after_answer, after_read, after_sector, answers_left, effect, over, sectors_from}
use Rattle.trace_rules.specs.Lines.{done_holds, data_on, holds, is_answer_of, is_for, line_rule, read_holds, sector_by_owed, sector_holds, status_holds}
use Rattle.trace_rules.specs.Steps.{is_first_work, stands_in}
use Rattle.cut_order.specs.Order.{OrderState}
use Rattle.drv_jobs.specs.Sound.{IsSound}
use Rattle.drv_core.specs.State.{is_recovering}
use Rattle.drv_recover.specs.declared.recovery.RecoveryState.TheVariants as driver
use Rattle.drv_ring.specs.Asks.{HasBlocks}
use Rattle.drv_ring.specs.Layout.{IsTagOf}
use Rattle.drv_ring.specs.Pieces.{tag_pieces}
use Rattle.drv_ring.specs.declared.places.Layout.{Layout}
use Rattle.piece_data.specs.Data.{block_of}
use Rattle.host_laws.proofs.Tags.{not_below, not_lower}
use Rattle.host_laws.proofs.CollectTells.{answering, answering_same, calm, data_all, data_left, data_same, data_shown, next_collected, next_has, next_id, slots_answered, slots_left}
use Rattle.world_state.specs.Host.{answer_at, answer_of_holder, answer_of_job}
use Rattle.world_state.specs.Path.{PathState, holder, job, layout}
use Rattle.world_state.specs.Reading.{Context, blocks_held, data_by, is_done, state_of}
use Rattle.world_state.specs.Ties.{AreTied, IsIssued, IsVacant}

-- one run of lines after the other
pub more_join : (xs ys : List Item) (s u t : State) → More s xs u → More u ys t → More s (xs ++ ys) t
more_join [] ys s u t first rest = subst (λ (x : State). More x ys t) first rest
more_join (item ∷ xs) ys s u t first rest = (first.0, first.1, more_join xs ys (effect s item) u t first.2 rest)

-- a line that stands in no event
fits_untold : (s : State) (item : Item) → s.event ≡ Untold → holds s item ≡ true → is_for s.owed item ≡ true → is_first_work s item ≡ true → Fits s item
unfolding line_rule
fits_untold s item event is fits first = record {
  line = rw (is, fits) refl;
  stands = ap (λ (e : Event). stands_in s e item) event;
  first = first;
}

-- an answer is owed to the request
pub record AnswersTo (s : State) (k id : ℕ) : Type 0 where
  pub owed : s.owed ≡ Answers
  pub event : s.event ≡ Untold
  pub tag : tag_of IsCollected s.slots ≡ Some k
  pub named : id_of (slot_at s.slots k) ≡ id

answer_of : (s : State) (k id : ℕ) → AnswersTo s k id → is_answer_of s id ≡ true
answer_of s k id a = rw (a.owed, a.tag, a.named) (eq-eqb id id refl)

for_answers : (s : State) (k id : ℕ) (item : Item) → AnswersTo s k id → is_for Answers item ≡ true → is_for s.owed item ≡ true
for_answers s k id item a e = ap (λ (o : Owed). is_for o item) a.owed ∙ e

goes_answers : (s : State) (k id : ℕ) (item : Item) → AnswersTo s k id → goes_on s s.owed item ≡ true
goes_answers s k id item a = ap (λ (o : Owed). goes_on s o item) a.owed

done_more : (s t : State) (k id : ℕ) → AnswersTo s k id → is_read (job_of s.plan.jobs id) ≡ false → is_status (job_of s.plan.jobs id) ≡ false → after_answer s id ≡ t
    → More s (Done id ∷ []) t
unfolding effect holds done_holds
done_more s t k id a reads status to = (
  goes_answers s k id (Done id) a,
  fits_untold s (Done id) a.event (rw (answer_of s k id a, reads, status) refl) (for_answers s k id (Done id) a refl) refl,
  sym to,
)

status_more : (s t : State) (k id word : ℕ) → AnswersTo s k id → is_status (job_of s.plan.jobs id) ≡ true → word ≡ 0x900 → after_answer s id ≡ t → More s (Status id word ∷ []) t
unfolding effect holds status_holds
status_more s t k id word a status is to = (
  goes_answers s k id (Status id word) a,
  fits_untold s (Status id word) a.event (rw (answer_of s k id a, status, is) refl) (for_answers s k id (Status id word) a refl) refl,
  sym to,
)

read_more : (s t u : State) (k id : ℕ) (items : List Item) → AnswersTo s k id → is_read (job_of s.plan.jobs id) ≡ true → after_read s id ≡ u → More u items t
    → More s (Read id ∷ items) t
unfolding effect holds read_holds
read_more s t u k id items a reads to more = (
  goes_answers s k id (Read id) a,
  fits_untold s (Read id) a.event (rw (answer_of s k id a, reads) refl) (for_answers s k id (Read id) a refl) refl,
  subst (λ (x : State). More x items t) (sym to) more,
)

-- a sector of a read
record ShowsSector (s : State) (k j : ℕ) (value : Block) : Type 0 where
  owed : s.owed ≡ Sectors k j
  event : s.event ≡ Untold
  shown : shows (slice_get (data_on s k) j) value ≡ true

sector_more : (s t u : State) (k j : ℕ) (value : Block) (items : List Item) → ShowsSector s k j value → after_sector s ≡ u → More u items t → More s (Sector value ∷ items) t
unfolding effect holds sector_holds
sector_more s t u k j value items a to more = (
  ap (λ (o : Owed). goes_on s o (Sector value)) a.owed,
  fits_untold s (Sector value) a.event (ap (λ (o : Owed). sector_by_owed s value o) a.owed ∙ a.shown) (ap (λ (o : Owed). is_for o (Sector value)) a.owed) refl,
  subst (λ (x : State). More x items t) (sym to) more,
)

-- the answer of a tag that is done
pub answers_at : (p : PathState) (o : OrderState) (c : Context) (k id : ℕ) → k < 32 → is_done p k ≡ true → holder p k ≡ Some id → AnswersTo (answering p o c k) k id
unfolding answering
answers_at p o c k id low done held = record {
  owed = ap (λ b. if b then Answers else Nothing) (next_has p k id low done held);
  event = refl;
  tag = next_collected p k id low done held;
  named = next_id p k id low done held;
}

jobs_at : (p : PathState) (o : OrderState) (c : Context) (k id : ℕ) → job_of (answering p o c k).plan.jobs id ≡ job p id
unfolding answering state_of
jobs_at p o c k id = refl

answered_state : (p : PathState) (o : OrderState) (c : Context) (k id : ℕ) → IsSound p.driver.requests → is_done p k ≡ true → holder p k ≡ Some id → data_by (calm p) k (holder p k) ≡ []
    → after_answer (answering p o c k) id ≡ answering p o c (suc k)
unfolding answering after_answer
answered_state p o c k id sound done held none =
    ap (λ found. record (state_of (calm p) o c) { notice = false; slots = found; «data» = data_all p k; owed = answers_left found; event = Untold }) (slots_answered p k id sound done held)
    ∙ ap (λ found. record (state_of (calm p) o c) { notice = false; slots = slots_left p (suc k); «data» = found; owed = answers_left (slots_left p (suc k)); event = Untold }) (data_same p k done none)

-- between the sectors of a read
unfoldable pub sectoring : PathState → OrderState → Context → (k j : ℕ) → State
sectoring p o c k j = record (state_of (calm p) o c) {
  notice = false;
  slots = slots_left p (suc k);
  «data» = data_all p k;
  owed = Sectors k j;
  event = Untold;
}

read_state : (p : PathState) (o : OrderState) (c : Context) (k id : ℕ) → k < 32 → IsSound p.driver.requests → is_done p k ≡ true → holder p k ≡ Some id
    → after_read (answering p o c k) id ≡ sectoring p o c k 0
unfolding answering after_read sectoring
read_state p o c k id low sound done held =
    ap (λ found. record (state_of (calm p) o c) { notice = false; slots = found; «data» = data_all p k; owed = sectors_from (tag_of IsCollected (slots_left p k)); event = Untold }) (slots_answered p k id sound done held)
    ∙ ap (λ found. record (state_of (calm p) o c) { notice = false; slots = slots_left p (suc k); «data» = data_all p k; owed = sectors_from found; event = Untold }) (next_collected p k id low done held)

-- what the tag's data are
data_of_tag : (p : PathState) (k : ℕ) (found : List Block) → k < 32 → data_by (calm p) k (holder p k) ≡ found → get_or (data_all p k) k [] ≡ found
data_of_tag p k found low e =
    get_or-map-range_with_len (data_left p k) 0 32 k k [] low (let z : 0 + k ≡ k = omega arith in z)
    ∙ (ap (λ b. if b && is_done p k then [] else data_by (calm p) k (holder p k)) (not_below k) ∙ e)

data_seen : (p : PathState) (o : OrderState) (c : Context) (k j : ℕ) → data_on (sectoring p o c k j) k ≡ get_or (data_all p k) k []
unfolding sectoring
data_seen p o c k j = refl

block_at : (found rest : List Block) (j : ℕ) (value : Block) → drop j found ≡ value ∷ rest → slice_get found j ≡ Some value
block_at [] rest zero value e = absurd (cc (e))
block_at [] rest (suc j) value e = absurd (cc (e))
block_at (x ∷ found) rest zero value e = let same : x ≡ value = cc (e) in ap Some same
block_at (x ∷ found) rest (suc j) value e = block_at found rest j value e

block_next : (found rest : List Block) (j : ℕ) (value : Block) → drop j found ≡ value ∷ rest → drop (suc j) found ≡ rest
block_next [] rest zero value e = absurd (cc (e))
block_next [] rest (suc j) value e = absurd (cc (e))
block_next (x ∷ found) rest zero value e = let same : found ≡ rest = cc (e) in same
block_next (x ∷ found) rest (suc j) value e = block_next found rest j value e

same_self : (block : Block) → same_block block block ≡ true
same_self block = (bytes_eq-Decides block.0 block.0).1 refl

shows_one : (p : PathState) (o : OrderState) (c : Context) (k j : ℕ) (found rest : List Block) (value : Block) → k < 32 → data_by (calm p) k (holder p k) ≡ found
    → drop j found ≡ value ∷ rest → ShowsSector (sectoring p o c k j) k j value
unfolding sectoring
shows_one p o c k j found rest value low e at = record {
  owed = refl;
  event = refl;
  shown = ap (λ blocks. shows (slice_get blocks j) value) (data_of_tag p k found low e) ∙ (ap (λ x. shows x value) (block_at found rest j value at) ∙ same_self value);
}

next_sector : (p : PathState) (o : OrderState) (c : Context) (k j : ℕ) (found : List Block) → k < 32 → data_by (calm p) k (holder p k) ≡ found → nat_lt (j + 1) (length found) ≡ true
    → after_sector (sectoring p o c k j) ≡ sectoring p o c k (j + 1)
unfolding sectoring after_sector
next_sector p o c k j found low e more =
    let s : State = record (state_of (calm p) o c) { notice = false; slots = slots_left p (suc k); «data» = data_all p k; owed = Sectors k j; event = Untold } in
    ap (λ (blocks : List Block). if nat_lt (j + 1) (length blocks) then over s (Sectors k (j + 1)) else over (record s { «data» = slice_set s.data k [] }) (answers_left s.slots)) (data_of_tag p k found low e)
    ∙ ap (λ b. if b then over s (Sectors k (j + 1)) else over (record s { «data» = slice_set s.data k [] }) (answers_left s.slots)) more

last_sector : (p : PathState) (o : OrderState) (c : Context) (k j : ℕ) (found : List Block) → k < 32 → is_done p k ≡ true → data_by (calm p) k (holder p k) ≡ found → nat_lt (j + 1) (length found) ≡ false
    → after_sector (sectoring p o c k j) ≡ answering p o c (suc k)
unfolding sectoring after_sector answering
last_sector p o c k j found low done e last =
    let s : State = record (state_of (calm p) o c) { notice = false; slots = slots_left p (suc k); «data» = data_all p k; owed = Sectors k j; event = Untold } in
    ap (λ (blocks : List Block). if nat_lt (j + 1) (length blocks) then over s (Sectors k (j + 1)) else over (record s { «data» = slice_set s.data k [] }) (answers_left s.slots)) (data_of_tag p k found low e)
    ∙ (ap (λ b. if b then over s (Sectors k (j + 1)) else over (record s { «data» = slice_set s.data k [] }) (answers_left s.slots)) last
    ∙ ap (λ (found : List (List Block)). over (record s { «data» = found }) (answers_left s.slots)) (data_shown p k low done))

sectors_more : (p : PathState) (o : OrderState) (c : Context) (k j : ℕ) (found rest : List Block) → k < 32 → is_done p k ≡ true → data_by (calm p) k (holder p k) ≡ found
    → drop j found ≡ rest → j + length rest ≡ length found → 0 < length rest → More (sectoring p o c k j) (map Sector rest) (answering p o c (suc k))
sectors_more p o c k j found [] low done e at long some = absurd (omega (arith, some))
sectors_more p o c k j found (value ∷ []) low done e at long some =
    sector_more (sectoring p o c k j) (answering p o c (suc k)) (answering p o c (suc k)) k j value [] (shows_one p o c k j found [] value low e at)
    (last_sector p o c k j found low done e (not_lower (j + 1) (length found) (omega (arith, long)))) refl
sectors_more p o c k j found (value ∷ next ∷ rest) low done e at long some =
    sector_more (sectoring p o c k j) (answering p o c (suc k)) (sectoring p o c k (j + 1)) k j value (map Sector (next ∷ rest)) (shows_one p o c k j found (next ∷ rest) value low e at)
    (next_sector p o c k j found low e (lt-ltb (j + 1) (length found) (omega (arith, long))))
    (sectors_more p o c k (j + 1) found (next ∷ rest) low done e (ap (λ n. drop n found) (add-one j) ∙ block_next found (next ∷ rest) j value at) (omega (arith, long)) (omega arith))

-- the answer of a done tag
data_held : (p : PathState) (k id : ℕ) → is_done p k ≡ true → holder p k ≡ Some id → data_by (calm p) k (holder p k) ≡ blocks_held p k (job p id)
data_held p k id done held =
    ap (data_by (calm p) k) held ∙ ap (λ b. if b then blocks_held (calm p) k (job p id) else []) done

blocks_of_job : (p : PathState) (k : ℕ) (j other : Job) → j ≡ other → blocks_held p k j ≡ blocks_held p k other
blocks_of_job p k j other e = ap (blocks_held p k) e

done_answer : (p : PathState) (o : OrderState) (c : Context) (k id : ℕ) (j : Job) → job p id ≡ j → is_read j ≡ false → is_status j ≡ false → blocks_held p k j ≡ []
    → IsSound p.driver.requests → k < 32 → is_done p k ≡ true → holder p k ≡ Some id → More (answering p o c k) (Done id ∷ []) (answering p o c (suc k))
done_answer p o c k id j at reads status none sound low done held =
    done_more (answering p o c k) (answering p o c (suc k)) k id (answers_at p o c k id low done held)
    (ap is_read (jobs_at p o c k id ∙ at) ∙ reads) (ap is_status (jobs_at p o c k id ∙ at) ∙ status)
    (answered_state p o c k id sound done held (data_held p k id done held ∙ (blocks_of_job p k (job p id) j at ∙ none)))

read_answer : (p : PathState) (o : OrderState) (c : Context) (k id : ℕ) (j : Job) → job p id ≡ j → is_read j ≡ true → 0 < length (blocks_held p k j)
    → IsSound p.driver.requests → k < 32 → is_done p k ≡ true → holder p k ≡ Some id → More (answering p o c k) (Read id ∷ map Sector (blocks_held p k j)) (answering p o c (suc k))
read_answer p o c k id j at reads some sound low done held =
    read_more (answering p o c k) (answering p o c (suc k)) (sectoring p o c k 0) k id (map Sector (blocks_held p k j)) (answers_at p o c k id low done held)
    (ap is_read (jobs_at p o c k id ∙ at) ∙ reads) (read_state p o c k id low sound done held)
    (sectors_more p o c k 0 (blocks_held p k j) (blocks_held p k j) low done (data_held p k id done held ∙ blocks_of_job p k (job p id) j at) refl (omega arith) some)

-- a read has a block
some_blocks : (p : PathState) (k sector blocks : ℕ) (high : Bool) → 1 ≤ blocks → 0 < length (blocks_held p k (ReadJob sector blocks high))
some_blocks p k sector blocks high some =
    let long = length-map-range_with_len (block_of p.memory (tag_pieces (layout p) k blocks)) 0 blocks in
    omega (arith, long, some)

job_answer : (p : PathState) (o : OrderState) (c : Context) (k id : ℕ) (j : Job) → job p id ≡ j → HasBlocks j → (is_status j ≡ true → p.regs.direct_response ≡ 0x900)
    → IsSound p.driver.requests → k < 32 → is_done p k ≡ true → holder p k ≡ Some id → More (answering p o c k) (answer_of_job p k id j) (answering p o c (suc k))
job_answer p o c k id (ReadJob sector blocks high) at some word sound low done held =
    read_answer p o c k id (ReadJob sector blocks high) at refl (some_blocks p k sector blocks high some.0) sound low done held
job_answer p o c k id (WriteJob sector blocks fill forced reliable high) at some word sound low done held =
    done_answer p o c k id (WriteJob sector blocks fill forced reliable high) at refl refl refl sound low done held
job_answer p o c k id FlushJob at some word sound low done held = done_answer p o c k id FlushJob at refl refl refl sound low done held
job_answer p o c k id BarrierJob at some word sound low done held = done_answer p o c k id BarrierJob at refl refl refl sound low done held
job_answer p o c k id StatusJob at some word sound low done held =
    status_more (answering p o c k) (answering p o c (suc k)) k id p.regs.direct_response (answers_at p o c k id low done held)
    (ap is_status (jobs_at p o c k id ∙ at)) (word refl)
    (answered_state p o c k id sound done held (data_held p k id done held ∙ blocks_of_job p k (job p id) StatusJob at))

-- a status is the request of the last tag
status_last : (layout : Layout) (k : ℕ) (j : Job) → is_status j ≡ true → IsTagOf layout k j → k ≡ 31
status_last layout k (ReadJob sector blocks high) e fits = absurd (false≢true e)
status_last layout k (WriteJob sector blocks fill forced reliable high) e fits = absurd (false≢true e)
status_last layout k FlushJob e fits = absurd (false≢true e)
status_last layout k BarrierJob e fits = absurd (false≢true e)
status_last layout k StatusJob e fits = fits

holder_answer : (p : PathState) (o : OrderState) (c : Context) (k : ℕ) (found : Option ℕ) → holder p k ≡ found → AreTied p → k < 32 → is_done p k ≡ true
    → MatchOption found (IsVacant p k) (IsIssued p k) → More (answering p o c k) (answer_of_holder p k found) (answering p o c (suc k))
holder_answer p o c k None held t low done v = absurd (false≢true (sym v.silent ∙ done))
holder_answer p o c k (Some id) held t low done i =
    job_answer p o c k id (job p id) refl i.asks.blocks_fit
    (λ status. t.status (ap (is_done p) (sym (status_last (layout p) k (job p id) status i.asks.tag_fits)) ∙ done)) t.sound low done held

tag_answer : (p : PathState) (o : OrderState) (c : Context) (k : ℕ) (done : Bool) → is_done p k ≡ done → AreTied p → p.driver.recovery ≡ driver.Calm → k < 32
    → More (answering p o c k) (answer_at p p.regs.completed k) (answering p o c (suc k))
tag_answer p o c k true e t at low =
    subst (λ b. More (answering p o c k) (if b then answer_of_holder p k (holder p k) else []) (answering p o c (suc k))) (sym e)
    (holder_answer p o c k (holder p k) refl t low e (t.tags (ap is_recovering at) k low))
tag_answer p o c k false e t at low =
    subst (λ b. More (answering p o c k) (if b then answer_of_holder p k (holder p k) else []) (answering p o c (suc k))) (sym e)
    (sym (answering_same p o c k e))

pub tags_answers : (p : PathState) (o : OrderState) (c : Context) (k n : ℕ) → AreTied p → p.driver.recovery ≡ driver.Calm → k + n ≡ 32
    → More (answering p o c k) (flat_map (answer_at p p.regs.completed) (range_with_len k n)) (answering p o c 32)
tags_answers p o c k zero t at end = let e : k ≡ 32 = omega (arith, end) in ap (answering p o c) (sym e)
tags_answers p o c k (suc n) t at end =
    more_join (answer_at p p.regs.completed k) (flat_map (answer_at p p.regs.completed) (range_with_len (k + 1) n)) (answering p o c k) (answering p o c (suc k)) (answering p o c 32)
    (tag_answer p o c k (is_done p k) refl t at (omega (arith, end)))
    (subst (λ m. More (answering p o c m) (flat_map (answer_at p p.regs.completed) (range_with_len (k + 1) n)) (answering p o c 32)) (add-one k)
    (tags_answers p o c (k + 1) n t at (omega (arith, end))))
