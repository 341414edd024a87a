-- What an interrupt tells, with its answers.
use Rattle.std.proofs.Common.{◌≡◌, ◌∙◌, ◌+◌, ◌<◌, ◌==◌, ◌&&◌, ◌||◌, ℕ, Bool, true, false, not, List, [], ◌∷◌, Option, None, Some, IfSome, min, flat_map, option_map, refl, ap, sym, subst, eq-eqb, lt-ltb, if◌then◌else◌}
use Rattle.std.proofs.lemmas.Bool.{false≢true, and_parts}
use Rattle.std.specs.List.{list_any, range_with_len}
use Rattle.std.specs.Option.{option_map_or}
use Rattle.storage_model.specs.declared.faults.Letter.TheVariants.{Host as HostActs}
use Rattle.storage_model.specs.declared.trace.Item.{Item}
use Rattle.storage_model.specs.declared.trace.Item.TheVariants.{Irq}
use Rattle.storage_machine.specs.Commands.{is_calm, is_running}
use Rattle.storage_machine.specs.Host.{has_work, is_irq_due, is_silent}
use Rattle.storage_machine.specs.Slots.{asks, changed, changed_from, changed_slots, has, mask_of}
use Rattle.storage_machine.specs.declared.slots.Change.TheVariants.{Collect}
use Rattle.storage_machine.specs.declared.slots.Question.TheVariants.{Collected as IsCollected, Done as IsDone}
use Rattle.storage_machine.specs.declared.state.Event.TheVariants.{Untold}
use Rattle.storage_machine.specs.declared.state.Owed.{Owed}
use Rattle.storage_machine.specs.declared.state.Owed.TheVariants.{Answers, Nothing}
use Rattle.storage_machine.specs.declared.state.State.{State}
use Rattle.storage_machine.specs.declared.state.Standing.TheVariants as standing
use Rattle.storage_machine.specs.declared.state.Stop.TheVariants as stop
use Rattle.storage_machine.specs.declared.state.Task.{Task}
use Rattle.storage_order.specs.Events.{Happens, Lasts, More, closed, is_over, is_untold}
use Rattle.trace_effects.specs.Effects.{after_irq, answers_left, effect}
use Rattle.trace_rules.specs.Lines.{holds, irq_holds}
use Rattle.array_edge.specs.Array.{ArrayState}
use Rattle.bus_link.specs.declared.link.Cause.{Cause}
use Rattle.bus_link.specs.declared.link.Cause.TheVariants.{Bus as BusFault, Response, Dark}
use Rattle.cq_regs.specs.Slots.{is_rung, progress_of}
use Rattle.cq_schedule.specs.Held.{slots}
use Rattle.cut_order.specs.Order.{OrderState}
use Rattle.drv_core.specs.Event.{Collects}
use Rattle.drv_core.specs.Work.{is_noticed, is_possible, work_of}
use Rattle.drv_core.specs.declared.act.Act.{Act}
use Rattle.drv_core.specs.declared.work.Work.TheVariants.{Collect as CollectWork}
use Rattle.drv_jobs.proofs.HolderLaws.{fewer-freed_from}
use Rattle.drv_jobs.specs.Changes.{faults_of}
use Rattle.drv_recover.specs.declared.recovery.RecoveryState.TheVariants as driver
use Rattle.storage_machine.specs.Jobs.{is_read, phase_blocks, sector_of}
use Rattle.storage_model.specs.Contents.{contents_now, sector_at}
use Rattle.drv_core.specs.Judge.{error_of}
use Rattle.drv_ring.specs.Pieces.{tag_pieces}
use Rattle.piece_data.specs.Data.{block_of}
use Rattle.host_laws.proofs.Begun.{begun_told, fits_told, told, uncut}
use Rattle.host_laws.proofs.Collected.{collected_at, done_idle, holder_done, holder_left}
use Rattle.host_laws.proofs.CollectTells.{answering, calm, data_all, data_left, has_answer, slot_left, slots_left}
use Rattle.host_laws.proofs.CollectTold.{tags_answers}
use Rattle.host_laws.proofs.FailTells.{changed_map}
use Rattle.host_laws.proofs.Held.{none_done}
use Rattle.host_laws.proofs.Paths.{same_array}
use Rattle.host_laws.proofs.Recoveries.{event_at, no_blocks, no_data, owed_at, placed, recovery_at}
use Rattle.host_laws.proofs.Same.{agrees_same, range_same, way_active}
use Rattle.host_laws.proofs.Tags.{leaves_other, none_collected, none_of, task_with}
use Rattle.host_laws.proofs.TiesKept.{collects_to}
use Rattle.world_state.specs.Host.{HostEvent, answer_at, collect_lines, host_lines, moment_of}
use Rattle.world_state.specs.Laws.{StateLaws}
use Rattle.world_state.specs.Path.{PathState, holder, job, layout, moved, under_way}
use Rattle.world_state.specs.Reading.{Context, blocks_held, data_by, data_of, is_done, standing_at, standing_of, state_of, stop_by, stop_by_word, stop_of, task_at, tasks_of}
use Rattle.world_state.specs.Stands.{Agrees, AreNamed, HasReadSoFar, marks_moved_by, names, puts_by}
use Rattle.world_state.specs.Ties.{AreTied, NamesRung, named_by}
use Rattle.world_state.specs.Told.{Tells}

-- the collected tasks: one at least, where one was done
has_if : (done collected rest rest' : Bool) → (done ≡ true → collected ≡ true) → (rest ≡ true → rest' ≡ true) → (done || rest) ≡ true → (collected || rest') ≡ true
has_if true collected rest rest' one more e = rw (one refl) refl
has_if false true rest rest' one more e = refl
has_if false false rest rest' one more e = more e

one_collected : (tag : ℕ) (task : Option Task) → asks IsDone task ≡ true → asks IsCollected (changed Collect tag task) ≡ true
one_collected tag None e = absurd (false≢true e)
one_collected tag (Some t) e = ap (λ b. asks IsCollected (if b then Some (record t { standing = standing.Collected }) else Some t)) e

some_collected : (tag : ℕ) (tasks : List (Option Task)) → list_any (asks IsDone) tasks ≡ true → list_any (asks IsCollected) (changed_from Collect tag tasks) ≡ true
some_collected tag [] e = absurd (false≢true e)
some_collected tag (task ∷ tasks) e =
    has_if (asks IsDone task) (asks IsCollected (changed Collect tag task)) (list_any (asks IsDone) tasks) (list_any (asks IsCollected) (changed_from Collect (tag + 1) tasks))
    (one_collected tag task) (some_collected (tag + 1) tasks) e

-- at the first answer
slots_first : (p : PathState) → changed_slots Collect (tasks_of (calm p)) ≡ slots_left p 0
unfolding changed_slots tasks_of slots
slots_first p = changed_map Collect (task_at (calm p)) 0 32

data_first : (p : PathState) → data_of (calm p) ≡ data_all p 0
unfolding data_of slots
data_first p = refl

tasks_at : (p : PathState) (o : OrderState) (c : Context) → (state_of p o c).slots ≡ tasks_of p
unfolding state_of
tasks_at p o c = refl

collected_some : (p : PathState) → has IsDone (tasks_of (calm p)) ≡ true → has IsCollected (changed_slots Collect (tasks_of (calm p))) ≡ true
unfolding changed_slots
collected_some p some = some_collected 0 (tasks_of (calm p)) some

irq_state : (p : PathState) (o : OrderState) (c : Context) → has IsDone (tasks_of (calm p)) ≡ true → after_irq (told (state_of (calm p) o c)) ≡ answering p o c 0
unfolding state_of after_irq answering
irq_state p o c some =
    let s = state_of (calm p) o c in
    let owed : answers_left (slots_left p 0) ≡ Answers =
    ap (λ b. if b then Answers else Nothing) (ap (has IsCollected) (sym (slots_first p)) ∙ collected_some p some) in
    ap (λ found. record s { notice = false; slots = found; owed = Answers; event = Untold }) (slots_first p)
    ∙ (ap (λ found. record s { notice = false; slots = slots_left p 0; «data» = found; owed = Answers; event = Untold }) (data_first p)
    ∙ ap (λ found. record s { notice = false; slots = slots_left p 0; «data» = data_all p 0; owed = found; event = Untold }) (sym owed))

-- behind the last
all_below : (p : PathState) (tag : ℕ) → tag < 32 → has_answer p 32 tag ≡ is_done p tag
all_below p tag low = ap (λ b. b && is_done p tag) (lt-ltb tag 32 low)

slot_last : (p : PathState) (tag : ℕ) (done : Bool) → is_done p tag ≡ done → tag < 32 → slot_left p 32 tag ≡ task_at (collected_at p) tag
slot_last p tag true done low =
    ap (λ b. if b then None else changed Collect tag (task_at (calm p) tag)) (all_below p tag low ∙ done)
    ∙ sym (ap (option_map (λ id. task_with id (standing_at (collected_at p) tag))) (holder_done p tag done))
slot_last p tag false done low =
    ap (λ b. if b then None else changed Collect tag (task_at (calm p) tag)) (all_below p tag low ∙ done)
    ∙ (ap (λ b. changed Collect tag (option_map (λ id. task_with id (if b then standing.Done else standing_of (progress_of p.regs.ring tag))) (holder p tag))) done
    ∙ (leaves_other tag (holder p tag) (progress_of p.regs.ring tag)
    ∙ (ap (λ b. option_map (λ id. task_with id (if b then standing.Done else standing_of (progress_of p.regs.ring tag))) (holder p tag)) (sym (none_done 0 tag refl))
    ∙ sym (ap (option_map (λ id. task_with id (standing_at (collected_at p) tag))) (holder_left p tag done)))))

slots_last : (p : PathState) → slots_left p 32 ≡ tasks_of (collected_at p)
unfolding tasks_of slots
slots_last p = range_same (slot_left p 32) (task_at (collected_at p)) 0 32 (λ tag l h. slot_last p tag (is_done p tag) refl h)

data_none : (p : PathState) (tag : ℕ) (found : Option ℕ) → is_done p tag ≡ false → data_by (calm p) tag found ≡ []
data_none p tag None done = refl
data_none p tag (Some id) done = ap (λ b. if b then blocks_held (calm p) tag (job p id) else []) done

data_end : (p : PathState) (tag : ℕ) (done : Bool) → is_done p tag ≡ done → tag < 32 → data_left p 32 tag ≡ []
data_end p tag true done low = ap (λ b. if b then [] else data_by (calm p) tag (holder p tag)) (all_below p tag low ∙ done)
data_end p tag false done low =
    ap (λ b. if b then [] else data_by (calm p) tag (holder p tag)) (all_below p tag low ∙ done) ∙ data_none p tag (holder p tag) done

data_last : (p : PathState) → data_all p 32 ≡ data_of (collected_at p)
unfolding slots
data_last p = range_same (data_left p 32) (λ tag. no_blocks) 0 32 (λ tag l h. data_end p tag (is_done p tag) refl h) ∙ sym (no_data (collected_at p) refl)

task_uncollected : (p : PathState) (tag : ℕ) → asks IsCollected (task_at (collected_at p) tag) ≡ false
task_uncollected p tag =
    ap (λ b. asks IsCollected (option_map (λ id. task_with id (if b then standing.Done else standing_of (progress_of p.regs.ring tag))) (holder (collected_at p) tag))) (none_done 0 tag refl)
    ∙ none_collected (holder (collected_at p) tag) (progress_of p.regs.ring tag)

all_uncollected : (p : PathState) → has IsCollected (tasks_of (collected_at p)) ≡ false
unfolding tasks_of slots
all_uncollected p = none_of (asks IsCollected) (task_at (collected_at p)) 0 32 (λ tag l h. task_uncollected p tag)

none_left : (p : PathState) → answers_left (slots_left p 32) ≡ Nothing
none_left p =
    ap (λ found. if has IsCollected found then Answers else Nothing) (slots_last p)
    ∙ ap (λ b. if b then Answers else Nothing) (all_uncollected p)

-- a stop names no done request
rung_left : (p : PathState) (tag : ℕ) (done : Bool) → is_done p tag ≡ done → AreTied p → p.driver.recovery ≡ driver.Calm → is_rung (progress_of p.regs.ring tag) ≡ true → done ≡ false
rung_left p tag true e t at rung = absurd (false≢true (sym (ap is_rung (done_idle p tag t at e)) ∙ rung))
rung_left p tag false e t at rung = refl

stop_with : (p : PathState) (cause : Option Cause) → AreTied p → p.driver.recovery ≡ driver.Calm
    → IfSome (named_by cause) (λ tag. is_rung (progress_of p.regs.ring tag) ≡ true) → stop_by (collected_at p) cause ≡ stop_by p cause
stop_with p (Some (BusFault kind (Some tag))) t at rung = ap stop.Bus (holder_left p tag (rung_left p tag (is_done p tag) refl t at rung))
stop_with p (Some (BusFault kind None)) t at rung = refl
stop_with p (Some (Response word tag)) t at rung = ap (stop_by_word (error_of word)) (holder_left p tag (rung_left p tag (is_done p tag) refl t at rung))
stop_with p (Some Dark) t at rung = refl
stop_with p None t at rung = refl

stop_if : (p : PathState) (stopped : Bool) → p.regs.stopped ≡ stopped → AreTied p → p.driver.recovery ≡ driver.Calm → NamesRung p
    → (if stopped then stop_by (collected_at p) p.engine.cause else stop.Running) ≡ (if stopped then stop_by p p.engine.cause else stop.Running)
stop_if p true e t at names = stop_with p p.engine.cause t at (names e)
stop_if p false e t at names = refl

stop_left : (p : PathState) → AreTied p → p.driver.recovery ≡ driver.Calm → NamesRung p → stop_of (collected_at p) ≡ stop_of (calm p)
stop_left p t at names = stop_if p p.regs.stopped refl t at names

last_state : (p : PathState) (o : OrderState) (c : Context) → AreTied p → p.driver.recovery ≡ driver.Calm → NamesRung p
    → state_of (collected_at p) o c ≡ record (answering p o c 32) { owed = Nothing }
unfolding state_of answering
last_state p o c t at names =
    let s = state_of (collected_at p) o c in
    ap (λ found. record s { slots = found }) (sym (slots_last p))
    ∙ (ap (λ found. record s { slots = slots_left p 32; «data» = found }) (sym (data_last p))
    ∙ ap (λ found. record s { slots = slots_left p 32; «data» = data_all p 32; stop = found }) (stop_left p t at names))

-- the phase under way goes on
way_left : (p : PathState) (tag : ℕ) (done : Bool) → is_done p tag ≡ done → AreTied p → p.driver.recovery ≡ driver.Calm → under_way p ≡ Some tag → done ≡ false
way_left p tag done e t at way = rung_left p tag done e t at (ap is_rung (way_active p tag way))

marks_by : (p : PathState) (way : Option ℕ) → under_way p ≡ way → AreTied p → p.driver.recovery ≡ driver.Calm → marks_moved_by (collected_at p) way ≡ marks_moved_by p way
marks_by p None e t at = refl
marks_by p (Some tag) e t at =
    ap (λ found. option_map_or (λ id. puts_by p (moved p) (job p id)) found []) (holder_left p tag (way_left p tag (is_done p tag) refl t at e))

read_by : (p : PathState) (c : Context) (way : Option ℕ) → under_way p ≡ way → AreTied p → p.driver.recovery ≡ driver.Calm → IfSome way (HasReadSoFar p c)
    → IfSome way (HasReadSoFar (collected_at p) c)
read_by p c None e t at read = tt
read_by p c (Some tag) e t at read =
    subst (λ found. IfSome found (λ id. is_read (job p id) ≡ true → (k : ℕ) → k < moved p
    → block_of p.memory (tag_pieces (layout p) tag (phase_blocks (job p id))) k ≡ sector_at (contents_now c.base c.pend) (sector_of (job p id) + k)))
    (sym (holder_left p tag (way_left p tag (is_done p tag) refl t at e))) read

stop_calm : (p : PathState) → p.driver.recovery ≡ driver.Calm → stop_of (calm p) ≡ stop_of p
stop_calm p at = ap stop_of (sym (placed p driver.Calm at))

named_left : (p : PathState) (named : List ℕ) → AreTied p → p.driver.recovery ≡ driver.Calm → NamesRung p → AreNamed p named → AreNamed (collected_at p) named
named_left p named t at rung g = record {
  long = g.long;
  waiting = g.waiting;
  issued = λ tag id held.
      g.issued tag id (fewer-freed_from p.regs.completed p.driver.requests.holders tag id held)
      ∙ ap (λ s. min (faults_of p.driver.requests id + names s id) 4) (sym (stop_left p t at rung ∙ stop_calm p at));
}

effect_irq : (s : State) (mask : ℕ) → effect (told s) (Irq mask) ≡ after_irq (told s)
unfolding effect
effect_irq s mask = refl

irq_is : (s : State) (mask : ℕ) → is_irq_due s ≡ true → (mask == mask_of IsDone s.slots) ≡ true → holds (told s) (Irq mask) ≡ true
unfolding holds irq_holds
irq_is s mask due is = rw (due, is) refl

owed_last : (p : PathState) (o : OrderState) (c : Context) → (answering p o c 32).owed ≡ answers_left (slots_left p 32)
unfolding answering
owed_last p o c = refl

event_last : (p : PathState) (o : OrderState) (c : Context) → is_untold (answering p o c 32).event ≡ true
unfolding answering
event_last p o c = refl

-- the whole event over a calm path
irq_happens : (p : PathState) (o : OrderState) (c : Context) → StateLaws → AreTied (calm p) → AreTied p → p.driver.recovery ≡ driver.Calm → NamesRung p
    → work_of driver.Calm p.regs ≡ CollectWork → is_noticed p.regs ≡ true
    → Happens (state_of (calm p) o c) HostActs (Irq p.regs.completed ∷ flat_map (answer_at p p.regs.completed) (range_with_len 0 32)) (state_of (collected_at p) o c)
irq_happens p o c laws t t' at names w noticed =
    let s = state_of (calm p) o c in
    let host = laws.host (calm p) o c t in
    let due : is_irq_due s ≡ true = host.noticed ∙ noticed in
    let some : has IsDone (tasks_of (calm p)) ≡ true = ap (has IsDone) (sym (tasks_at (calm p) o c)) ∙ (and_parts (has IsDone s.slots) (s.notice || not (is_running s.stop)) due).0 in
    let recovery = recovery_at (calm p) o c in
    let works : has_work s ≡ true = host.work ∙ ap (λ x. is_possible x p.driver.requests) w in
    let first : effect (told s) (Irq p.regs.completed) ≡ answering p o c 0 = effect_irq s p.regs.completed ∙ irq_state p o c some in
    record {
      free = rw (owed_at (calm p) o c) refl;
      untold = rw (event_at (calm p) o c) refl;
      makes = subst (λ (x : State). Lasts x (Irq p.regs.completed) (flat_map (answer_at p p.regs.completed) (range_with_len 0 32)) (state_of (collected_at p) o c))
          (sym (begun_told s (owed_at (calm p) o c) (ap is_silent recovery) works)) (record {
            last = answering p o c 32;
            begins = record {
              told = refl;
              first = fits_told s (Irq p.regs.completed) (owed_at (calm p) o c) (irq_is s p.regs.completed due (eq-eqb p.regs.completed (mask_of IsDone s.slots) (sym host.mask))) refl (ap is_calm recovery);
              phase = uncut s.busy false refl;
              more = subst (λ (x : State). More x (flat_map (answer_at p p.regs.completed) (range_with_len 0 32)) (answering p o c 32)) (sym first) (tags_answers p o c 0 32 t' at refl);
            };
            over = ap is_over (owed_last p o c ∙ none_left p);
            event = event_last p o c;
            state = last_state p o c t' at names ∙ ap (λ (w : Owed). record (answering p o c 32) { owed = w }) (sym (ap closed (owed_last p o c ∙ none_left p)));
          });
    }

lines_slots : (p : PathState) (mask : ℕ) → Irq mask ∷ flat_map (answer_at p mask) (range_with_len 0 32) ≡ collect_lines p mask
unfolding slots
lines_slots p mask = refl

pub tells_collected : (p : PathState) (a : ArrayState) (p' : PathState) (a' : ArrayState) (act : Act) → StateLaws → HostEvent p a p' a' act → AreTied p → AreTied p' → NamesRung p
    → work_of p.driver.recovery p.regs ≡ CollectWork → p.driver.recovery ≡ driver.Calm → is_noticed p.regs ≡ true → Collects (moment_of p a) (moment_of p' a') act
    → Tells HostActs p a (host_lines p p' act) p' a'
tells_collected p a p' a' act laws e t t' rung w at noticed k o c g =
    let to = collects_to p a p' a' act e t at k in
    let from = placed p driver.Calm at in
    record {
      context = c;
      agrees = subst (λ (x : ArrayState). Agrees p' x c) (sym (same_array p p' a a' k.aside.link))
          (subst (λ (x : PathState). Agrees x a c) (sym to)
          (agrees_same p (collected_at p) a c g (subst AreTied to t') refl (marks_by p (under_way p) refl t at) refl refl refl (named_left p c.named t at rung g.named)
          (read_by p c (under_way p) refl t at g.read)));
      happens = subst (λ (x : Act). Happens (state_of p o c) HostActs (host_lines p p' x) (state_of p' o c)) (sym k.told)
          (subst (λ (x : List Item). Happens (state_of p o c) HostActs x (state_of p' o c)) (lines_slots p p.regs.completed)
          (subst (λ (x : PathState). Happens (state_of x o c) HostActs (Irq p.regs.completed ∷ flat_map (answer_at p p.regs.completed) (range_with_len 0 32)) (state_of p' o c)) (sym from)
          (subst (λ (x : PathState). Happens (state_of (calm p) o c) HostActs (Irq p.regs.completed ∷ flat_map (answer_at p p.regs.completed) (range_with_len 0 32)) (state_of x o c)) (sym to)
          (irq_happens p o c laws (subst AreTied from t) t at rung (sym (ap (λ s. work_of s p.regs) at) ∙ w) noticed))));
    }
