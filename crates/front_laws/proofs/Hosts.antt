-- An event of the host: its lines change neither contents nor marks, and a phase under way is under way between them too.
use Rattle.std.proofs.Common.{◌≡◌, ◌∙◌, ℕ, ◌<◌, Bool, true, false, cond, List, [], ◌∷◌, ◌++◌, Option, None, Some, Result, Ok, Err, flat_map, map, refl, ap, sym, subst}
use Rattle.std.specs.Prelude.{◌&&◌, ◌||◌, IfSome, if◌then◌else◌, is_some}
use Rattle.std.proofs.lemmas.Bool.{and_parts, false≢true, or_right}
use Rattle.storage_model.specs.declared.block.Block.{Block}
use Rattle.storage_model.specs.declared.faults.Letter.TheVariants.{Host as HostActs}
use Rattle.storage_model.specs.declared.plan.Job.{Job}
use Rattle.storage_model.specs.declared.plan.Job.TheVariants.{Read as ReadJob, Write as WriteJob, Flush as FlushJob, Barrier as BarrierJob, Status as StatusJob}
use Rattle.storage_model.specs.declared.trace.Item.{Item}
use Rattle.storage_model.specs.declared.trace.Item.TheVariants.{Card, Issue, Params, Address, Poll, Phase, Discard, Bus, Flash, Recover, Irq, Done, Read, Sector, Status, Fault, Refused, Cut, Lost, On, Left, Turn, Off}
use Rattle.storage_machine.specs.Commands.{due}
use Rattle.storage_machine.specs.Host.{has_work, is_silent, recovery_step, recovery_step_at}
use Rattle.storage_machine.specs.declared.commands.DueCommand.TheVariants.{Execute}
use Rattle.storage_machine.specs.declared.state.Event.{Event}
use Rattle.storage_machine.specs.declared.state.Event.TheVariants.{Untold, Told as ToldEvent}
use Rattle.storage_machine.specs.declared.state.Owed.TheVariants.{Nothing as NothingOwed}
use Rattle.storage_machine.specs.declared.state.Recovery.{Recovery}
use Rattle.storage_machine.specs.declared.state.Recovery.TheVariants as recovery
use Rattle.storage_machine.specs.declared.state.State.{State}
use Rattle.storage_order.specs.Events.{Begins, Lasts, More, Starts, closed}
use Rattle.storage_order.specs.Order.{is_phase}
use Rattle.trace_effects.specs.Effects.{begun, effect}
use Rattle.array_edge.specs.Array.{ArrayState}
use Rattle.card_link.specs.Behind.{Behind}
use Rattle.card_link.specs.Made.{CardMade}
use Rattle.card_store.specs.Store.{Stands as StoreStands}
use Rattle.cq_regs.specs.State.{Registers}
use Rattle.cq_regs.specs.Slots.{has_bit}
use Rattle.cq_regs.specs.declared.slots.Progress.TheVariants.{Active}
use Rattle.cq_schedule.specs.Held.{slots}
use Rattle.cq_schedule.specs.Order.{first_at}
use Rattle.cut_order.specs.Order.{OrderState}
use Rattle.drv_core.specs.Event.{Collects, Does, Issues, acknowledged, told_of}
use Rattle.drv_core.specs.Work.{is_noticed, work_of}
use Rattle.drv_core.specs.declared.act.Act.{Act}
use Rattle.drv_core.specs.declared.act.Act.TheVariants.{Nothing, Issued, Collected, Failed, Step as Stepped}
use Rattle.drv_core.specs.declared.act.Stop.{Stop}
use Rattle.drv_core.specs.declared.act.Stop.TheVariants as stop
use Rattle.drv_core.specs.declared.work.Work.{Work}
use Rattle.drv_core.specs.declared.work.Work.TheVariants as work
use Rattle.drv_jobs.specs.Next.{due_of}
use Rattle.drv_jobs.specs.declared.next.Due.{Due}
use Rattle.drv_jobs.specs.declared.next.Hold.{Hold}
use Rattle.drv_recover.specs.declared.recovery.RecoveryState.TheVariants as driver
use Rattle.drv_recover.specs.declared.recovery.Step.{Step}
use Rattle.drv_recover.specs.declared.recovery.Step.TheVariants as step
use Rattle.intent_store.specs.Intent.{shown_by}
use Rattle.front_laws.proofs.Answers.{Shrinks, all_answers, answer_shrinks, answers_shrink, is_answer, near_between, shrinks_then}
use Rattle.front_laws.proofs.Lines.{IsSame, all_still, is_still, more_behind, more_still, still_same}
use Rattle.front_laws.proofs.Now.{busy_of, shown_near}
use Rattle.front_laws.proofs.Singles.{is_single, shown_host, single_fronts, some_near}
use Rattle.front_laws.proofs.Ways.{way_calm, way_due, way_parts}
use Rattle.front_laws.proofs.Whole.{LeavesIdle, is_front, told_fronts}
use Rattle.front_laws.specs.Fronts.{FrontsNear, HostIsNear}
use Rattle.world_state.specs.Host.{HostEvent, answer_at, answer_of_holder, answer_of_job, cause_of, collect_lines, fault_lines, host_lines, moment_of, step_lines}
use Rattle.world_state.specs.Laws.{StateLaws}
use Rattle.world_state.specs.Path.{PathState, behind_path, holder, is_busy, job, under_way}
use Rattle.world_state.specs.Reading.{Context, blocks_held, recovery_of, state_of}
use Rattle.world_state.specs.Stands.{Agrees, IsNear, contents_of}
use Rattle.world_state.specs.Steps.{HostStep, HostSteps}
use Rattle.world_state.specs.Ties.{AreTied}
use Rattle.world_state.specs.Told.{Told, Tells}

-- the lines of an event

answers_both : (xs ys : List Item) → all_answers xs ≡ true → all_answers ys ≡ true → all_answers (xs ++ ys) ≡ true
answers_both [] ys h i = i
answers_both (x ∷ xs) ys h i =
    let parts = and_parts (is_answer x) (all_answers xs) h in
    ap (λ b. b && all_answers (xs ++ ys)) parts.0 ∙ answers_both xs ys parts.1 i

sectors_answer : (blocks : List Block) → all_answers (map Sector blocks) ≡ true
sectors_answer [] = refl
sectors_answer (block ∷ blocks) = sectors_answer blocks

job_answers : (p : PathState) (tag id : ℕ) (j : Job) → all_answers (answer_of_job p tag id j) ≡ true
job_answers p tag id (ReadJob sector blocks high) = sectors_answer (blocks_held p tag (ReadJob sector blocks high))
job_answers p tag id (WriteJob sector blocks fill forced reliable high) = refl
job_answers p tag id FlushJob = refl
job_answers p tag id BarrierJob = refl
job_answers p tag id StatusJob = refl

holder_answers : (p : PathState) (tag : ℕ) (holds : Option ℕ) → all_answers (answer_of_holder p tag holds) ≡ true
holder_answers p tag None = refl
holder_answers p tag (Some id) = job_answers p tag id (job p id)

tag_answers : (p : PathState) (tag : ℕ) (done : Bool) → all_answers (if done then answer_of_holder p tag (holder p tag) else []) ≡ true
tag_answers p tag true = holder_answers p tag (holder p tag)
tag_answers p tag false = refl

flat_answers : (p : PathState) (mask : ℕ) (tags : List ℕ) → all_answers (flat_map (answer_at p mask) tags) ≡ true
flat_answers p mask [] = refl
flat_answers p mask (tag ∷ tags) =
    answers_both (answer_at p mask tag) (flat_map (answer_at p mask) tags) (tag_answers p tag (has_bit mask tag)) (flat_answers p mask tags)

collect_answers : (p : PathState) (mask : ℕ) → all_answers (collect_lines p mask) ≡ true
collect_answers p mask = flat_answers p mask slots

answer_still : (item : Item) → is_answer item ≡ true → is_still item ≡ true
answer_still (Card sectors depth lines) h = absurd (false≢true h)
answer_still (Turn letter) h = absurd (false≢true h)
answer_still (Issue id tag) h = refl
answer_still (Params n id) h = refl
answer_still (Address n id) h = refl
answer_still (Poll n mask) h = refl
answer_still (Phase n id count kept) h = absurd (false≢true h)
answer_still (Bus n kind id) h = refl
answer_still (Flash id) h = refl
answer_still (Irq mask) h = refl
answer_still (Done id) h = refl
answer_still (Read id) h = refl
answer_still (Sector value) h = refl
answer_still (Status id word) h = refl
answer_still Recover h = refl
answer_still (Discard n) h = refl
answer_still (Fault id why) h = refl
answer_still (Refused id why) h = refl
answer_still Cut h = absurd (false≢true h)
answer_still (Lost id) h = absurd (false≢true h)
answer_still On h = absurd (false≢true h)
answer_still (Left sector value) h = absurd (false≢true h)
answer_still (Off end) h = absurd (false≢true h)

answers_still : (items : List Item) → all_answers items ≡ true → all_still items ≡ true
answers_still [] h = refl
answers_still (item ∷ items) h =
    let parts = and_parts (is_answer item) (all_answers items) h in
    ap (λ b. b && all_still items) (answer_still item parts.0) ∙ answers_still items parts.1

fault_still : (id : Option ℕ) (why : Stop) → all_still (fault_lines id why ++ Recover ∷ []) ≡ true
fault_still None why = refl
fault_still (Some id) stop.Retry = refl
fault_still (Some id) stop.Bus = refl
fault_still (Some id) stop.Flash = refl
fault_still (Some id) stop.Range = refl

step_still : (n : ℕ) (s : Step) → all_still (step_lines n s) ≡ true
step_still n step.Moved = refl
step_still n step.Discard = refl
step_still n (step.Again kind) = refl
step_still n step.Over = refl
step_still n step.Dark = refl

lines_still : (p p' : PathState) (act : Act) → all_still (host_lines p p' act) ≡ true
lines_still p p' Nothing = refl
lines_still p p' (Issued id tag) = refl
lines_still p p' (Collected mask) = answers_still (collect_lines p mask) (collect_answers p mask)
lines_still p p' (Failed id why) = fault_still id why
lines_still p p' (Stepped s) = step_still p'.script.sent s

front_of_still : (items : List Item) → all_still items ≡ true → is_front items ≡ true
front_of_still [] h = refl
front_of_still (item ∷ items) h =
    let parts = and_parts (is_still item) (all_still items) h in
    ap (λ b. b && all_still items) (or_right (is_phase item) (is_still item) parts.0) ∙ parts.1

-- the host's event begins

step_same : (s : State) (r : Recovery) → IsSame s (record (recovery_step_at (record s { owed = NothingOwed }) r) { event = Untold })
step_same s recovery.Calm = record { base = refl; pend = refl; plan = refl; busy = refl }
step_same s recovery.Halted = record { base = refl; pend = refl; plan = refl; busy = refl }
step_same s recovery.Cleared = record { base = refl; pend = refl; plan = refl; busy = refl }
step_same s recovery.Discarded = record { base = refl; pend = refl; plan = refl; busy = refl }
step_same s recovery.Cleaned = record { base = refl; pend = refl; plan = refl; busy = refl }
step_same s recovery.Resumed = record { base = refl; pend = refl; plan = refl; busy = refl }

begun_if : (s : State) (silent : Bool) (event : Event)
    → IsSame s (if silent then record (recovery_step_at (record s { owed = NothingOwed }) s.recovery) { event = Untold } else record s { owed = NothingOwed; event = event })
begun_if s true event = step_same s s.recovery
begun_if s false event = record { base = refl; pend = refl; plan = refl; busy = refl }

begun_same : (s : State) → IsSame s (begun s HostActs)
unfolding begun recovery_step
begun_same s = begun_if s (is_silent s.recovery) (if has_work (record s { owed = NothingOwed }) then ToldEvent HostActs else Untold)

due_if : (s : State) (silent : Bool) (event : Event) → silent ≡ false
    → due (if silent then record (recovery_step (record s { owed = NothingOwed })) { event = Untold } else record s { owed = NothingOwed; event = event }) ≡ due s
unfolding due
due_if s true event e = absurd (false≢true (sym e))
due_if s false event e = refl

due_begun : (s : State) → is_silent s.recovery ≡ false → due (begun s HostActs) ≡ due s
unfolding begun
due_begun s loud = due_if s (is_silent s.recovery) (if has_work (record s { owed = NothingOwed }) then ToldEvent HostActs else Untold) loud

due_closed : (s : State) → due (record s { owed = closed s.owed }) ≡ due s
unfolding due
due_closed s = refl

-- no phase is under way

leaves_idle : (p : PathState) (a : ArrayState) (items : List Item) → all_still items ≡ true → is_busy p ≡ false → LeavesIdle HostActs p a items
leaves_idle p a items still idle = λ o c agrees first others t e begins.
    let s : State = state_of p o c in
    let parts = and_parts (is_still first) (all_still others) (sym (ap all_still e) ∙ still) in
    (more_still (effect (begun s HostActs) first) t others parts.1 begins.more).busy
    ∙ (still_same (begun s HostActs) first parts.0).busy
    ∙ (begun_same s).busy
    ∙ busy_of p o c
    ∙ idle

-- a phase is under way

loud_of : (p : PathState) (o : OrderState) (c : Context) → p.driver.recovery ≡ driver.Calm → is_silent (state_of p o c).recovery ≡ false
unfolding state_of
loud_of p o c calm = ap (λ r. is_silent (recovery_of r)) calm

begun_near : StateLaws → (p : PathState) (a : ArrayState) (o : OrderState) (c : Context) (a' : ArrayState) (tag : ℕ) → Agrees p a c → under_way p ≡ Some tag → a' ≡ a
    → IfSome (shown_by a') (IsNear (begun (state_of p o c) HostActs))
begun_near laws p a o c a' tag agrees way same =
    let stands : StoreStands (contents_of p c) p.card.store a' = subst (λ (x : ArrayState). StoreStands (contents_of p c) p.card.store x) (sym same) agrees.store in
    shown_host (state_of p o c) (shown_by a') (loud_of p o c (way_calm p tag agrees.tied way)) (shown_near laws p a o c p.card.store a' agrees stands)

-- the state between two answers
between_near : StateLaws → (p : PathState) (a : ArrayState) (o : OrderState) (c : Context) (p' : PathState) (a' : ArrayState) (tag : ℕ) (w : Item) (ws : List Item) (item : Item) (rest : List Item)
    → Agrees p a c → under_way p ≡ Some tag → under_way p' ≡ Some tag → a' ≡ a → AreTied p' → all_answers (w ∷ (ws ++ item ∷ rest)) ≡ true
    → Told HostActs (state_of p o c) (w ∷ (ws ++ item ∷ rest)) p' o a' → (last : State) → Begins (begun (state_of p o c) HostActs) w ws last → IfSome (shown_by a') (IsNear last)
between_near laws p a o c p' a' tag w ws item rest agrees way way' same tied answers told last begins =
    let s : State = state_of p o c in
    let x : State = begun s HostActs in
    let lasts : Lasts x w (ws ++ item ∷ rest) (state_of p' o told.context) = told.happens.makes in
    let f : State = lasts.last in
    let parts = and_parts (is_answer w) (all_answers (ws ++ item ∷ rest)) answers in
    let behind = split_answers ws (item ∷ rest) parts.1 in
    let before : Shrinks x last = shrinks_then x (effect x w) last (answer_shrinks x w parts.0) (answers_shrink (effect x w) last ws behind.0 begins.more) in
    let after : Shrinks last f = answers_shrink last f (item ∷ rest) behind.1 (more_behind (effect x w) last f ws (item ∷ rest) begins.more lasts.begins.more) in
    let loud = loud_of p o c (way_calm p tag agrees.tied way) in
    let due_x : due x ≡ Execute tag = due_begun s loud ∙ way_due laws p o c tag agrees.tied agrees.number way in
    let due_f : due f ≡ Execute tag =
    sym (due_closed f) ∙ (sym (ap due lasts.state) ∙ way_due laws p' o told.context tag tied told.agrees.number way') in
    let busy : x.busy ≡ true = (begun_same s).busy ∙ (busy_of p o c ∙ ap is_some way) in
    some_near x last (shown_by a') (λ pages. near_between x last f tag pages busy due_x due_f before after) (begun_near laws p a o c a' tag agrees way same)
  where
    split_answers : (xs ys : List Item) → all_answers (xs ++ ys) ≡ true → (all_answers xs ≡ true) × (all_answers ys ≡ true)
    split_answers [] ys h = (refl, h)
    split_answers (y ∷ xs) ys h =
        let parts = and_parts (is_answer y) (all_answers (xs ++ ys)) h in
        let rest = split_answers xs ys parts.1 in
        (ap (λ b. b && all_answers xs) parts.0 ∙ rest.0, rest.1)

answers_fronts : StateLaws → (p : PathState) (a : ArrayState) (items : List Item) (p' : PathState) (a' : ArrayState) (tag : ℕ) → under_way p ≡ Some tag → under_way p' ≡ Some tag → a' ≡ a → AreTied p'
    → all_answers items ≡ true → Tells HostActs p a items p' a' → FrontsNear HostActs p a items a'
answers_fronts laws p a items p' a' tag way way' same tied answers tells = λ o c agrees whole item rest e last starts. by o c agrees whole item rest e last starts
  where
    by : (o : OrderState) (c : Context) → Agrees p a c → (whole : List Item) (item : Item) (rest : List Item) → items ≡ whole ++ item ∷ rest
        → (last : State) → Starts (state_of p o c) HostActs whole last → IfSome (shown_by a') (IsNear last)
    by o c agrees [] item rest e last starts = subst (λ (x : State). IfSome (shown_by a') (IsNear x)) (sym starts.goes) (begun_near laws p a o c a' tag agrees way same)
    by o c agrees (w ∷ ws) item rest e last starts =
        let told : Told HostActs (state_of p o c) (w ∷ (ws ++ item ∷ rest)) p' o a' =
        subst (λ (xs : List Item). Told HostActs (state_of p o c) xs p' o a') e (tells o c agrees) in
        between_near laws p a o c p' a' tag w ws item rest agrees way way' same tied (sym (ap all_answers e) ∙ answers) told last starts.goes

-- what there was to do while a phase is under way

not_recover : (noticed stopped : Bool) → (if noticed then work.Collect else if stopped then work.Fail else work.Issue) ≡ work.Recover → ⊥
not_recover true stopped e = absurd (cc (e))
not_recover false true e = absurd (cc (e))
not_recover false false e = absurd (cc (e))

not_fail : (noticed stopped : Bool) → stopped ≡ false → (if noticed then work.Collect else if stopped then work.Fail else work.Issue) ≡ work.Fail → ⊥
not_fail true stopped on e = absurd (cc (e))
not_fail false true on e = absurd (false≢true (sym on))
not_fail false false on e = absurd (cc (e))

issue_single : (p p' : PathState) (next : Result Due Hold) → is_single (host_lines p p' (told_of next)) ≡ true
issue_single p p' (Ok due) = refl
issue_single p p' (Err hold) = refl

way_after : (p p' : PathState) (tag : ℕ) → p'.regs ≡ acknowledged p.regs → under_way p ≡ Some tag → under_way p' ≡ Some tag
way_after p p' tag e way = ap (λ (r : Registers). cond r.stopped None (first_at Active r.ring)) e ∙ way

by_work : StateLaws → (p : PathState) (a : ArrayState) (p' : PathState) (a' : ArrayState) (act : Act) (tag : ℕ) (w : Work) → AreTied p → AreTied p' → under_way p ≡ Some tag
    → work_of p.driver.recovery p.regs ≡ w → Does CardMade (moment_of p a) (moment_of p' a') (cause_of p) act w → Tells HostActs p a (host_lines p p' act) p' a'
    → FrontsNear HostActs p a (host_lines p p' act) a'
by_work laws p a p' a' act tag work.Recover t t' way e does tells =
    absurd (not_recover (is_noticed p.regs) p.regs.stopped (sym (ap (λ r. work_of r p.regs) (way_calm p tag t way)) ∙ e))
by_work laws p a p' a' act tag work.Fail t t' way e does tells =
    absurd (not_fail (is_noticed p.regs) p.regs.stopped (way_parts p tag way).0 (sym (ap (λ r. work_of r p.regs) (way_calm p tag t way)) ∙ e))
by_work laws p a p' a' act tag work.Issue t t' way e does tells =
    let same : a' ≡ a = ap (λ (b : Behind). b.array) does.link in
    single_fronts HostActs p a (host_lines p p' act) a' (ap (λ x. is_single (host_lines p p' x)) does.told ∙ issue_single p p' (due_of p.driver.requests))
    (λ o c agrees. begun_near laws p a o c a' tag agrees way same)
by_work laws p a p' a' act tag work.Collect t t' way e does tells =
    let same : a' ≡ a = ap (λ (b : Behind). b.array) does.aside.link in
    answers_fronts laws p a (host_lines p p' act) p' a' tag way (way_after p p' tag does.regs way) same t'
    (ap (λ x. all_answers (host_lines p p' x)) does.told ∙ collect_answers p p.regs.completed) tells

by_way : StateLaws → (p : PathState) (a : ArrayState) (p' : PathState) (a' : ArrayState) (act : Act) (way : Option ℕ) → AreTied p → HostEvent p a p' a' act → HostStep p a p' a' act → under_way p ≡ way
    → FrontsNear HostActs p a (host_lines p p' act) a'
by_way laws p a p' a' act None t event makes e =
    let still = lines_still p p' act in
    told_fronts HostActs p a (host_lines p p' act) p' a' (makes.tells laws) (front_of_still (host_lines p p' act) still)
    (leaves_idle p a (host_lines p p' act) still (ap is_some e))
by_way laws p a p' a' act (Some tag) t event makes e =
    by_work laws p a p' a' act tag (work_of p.driver.recovery p.regs) t makes.ties e refl event.event (makes.tells laws)

pub host_near : HostIsNear
host_near laws steps p a p' a' act event t = by_way laws p a p' a' act (under_way p) t event (steps p a p' a' act event t) refl
