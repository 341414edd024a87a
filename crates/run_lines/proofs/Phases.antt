-- A phase that no letter tells is taken, the engine's or that of a due cut.
use Rattle.std.proofs.Common.{inl, inr, ◌≡◌, ◌∙◌, ℕ, Bool, true, false, Option, None, cond, ◌&&◌, ◌==◌, not, is_none, List, refl, ap, sym}
use Rattle.std.proofs.lemmas.Bool.{false≢true, and_left, and_parts, and_right, or_from}
use Rattle.storage_machine.specs.Commands.{due, hit, is_none_due, is_running, may_tick, next_number}
use Rattle.storage_machine.specs.Cuts.{has_own_line, is_due}
use Rattle.storage_machine.specs.Host.{has_work, recovery_steps}
use Rattle.storage_machine.specs.declared.commands.DueCommand.{DueCommand}
use Rattle.storage_machine.specs.declared.commands.DueCommand.TheVariants.{Idle, Execute}
use Rattle.storage_machine.specs.declared.state.Event.{Event}
use Rattle.storage_machine.specs.declared.state.Event.TheVariants.{Untold, Told, Due}
use Rattle.storage_machine.specs.declared.state.Owed.TheVariants.{Nothing}
use Rattle.storage_machine.specs.declared.state.State.{State}
use Rattle.storage_model.specs.declared.faults.Letter.TheVariants.{Engine}
use Rattle.storage_model.specs.declared.trace.Item.TheVariants.{Phase}
use Rattle.storage_order.proofs.Accepts.{holds_unbroken}
use Rattle.storage_order.specs.Events.{Fits, end_rule, ended, engine_step}
use Rattle.storage_order.specs.Order.{engine_first, forced, is_next, with_due}
use Rattle.storage_runs.proofs.Ends.{First}
use Rattle.run_lines.proofs.Engines.{engine_next, enters_first, hit_busy, untold_starts}
use Rattle.run_lines.proofs.Hosts.{idle_due}
use Rattle.storage_runs.proofs.Hushes.{Rests}
use Rattle.storage_runs.proofs.Lags.{IsBusied, IsTicked, Reached, calm_work, due_busy, due_tick}
use Rattle.storage_runs.proofs.Lines.{event_none}
use Rattle.storage_runs.proofs.Mores.{calm_steps, start_none}
use Rattle.storage_runs.proofs.Told.{phase_uncut}
use Rattle.storage_runs.proofs.Turns.{behind_rested, due_owed}
use Rattle.storage_runs.specs.Laws.{StandsAt, rested}
use Rattle.trace_effects.specs.Effects.{effect, letters_left}
use Rattle.storage_model.specs.declared.block.Block.{Block}
use Rattle.storage_model.specs.declared.faults.BusKind.{BusKind}
use Rattle.storage_model.specs.declared.plan.Job.{Job}
use Rattle.storage_machine.specs.Jobs.{job_of}
use Rattle.trace_effects.specs.Phases.{after_blocks, after_done, after_keep, after_phase, closed_by, done_with, event_with, phase_by, read_sectors, sectors_now}
use Rattle.trace_rules.specs.Lines.{holds, is_free, line_rule}
use Rattle.trace_rules.specs.Phases.{is_phase_of, is_whole, owed_by, phase_holds, tag_due}
use Rattle.trace_rules.specs.Steps.{earlier, is_cut_by, is_due_event, is_execute, stands_in, yields_to_cut}

-- a phase is judged alike whoever's event is told
pub phase_line : (s : State) (event : Event) (n id count : ℕ) (kept : Bool) → line_rule (record s { event = event }) (Phase n id count kept) ≡ line_rule s (Phase n id count kept)
unfolding line_rule holds phase_holds due hit
phase_line s event n id count kept = refl

-- with another phase under way, in another event
abbrev pub amid : State → Bool → ℕ → Event → State
amid s busy spent event = record s { busy = busy; spent = spent; event = event }

blocks_amid : (s : State) (busy : Bool) (spent : ℕ) (event : Event) (job : Job) (count : ℕ) (kept : Bool) → after_blocks (amid s busy spent event) job count kept ≡ amid (after_blocks s job count kept) busy spent event
unfolding after_blocks after_keep
blocks_amid s busy spent event job count true = refl
blocks_amid s busy spent event job count false = refl

done_amid : (s : State) (busy : Bool) (spent : ℕ) (event : Event) (tag id : ℕ) (job : Job) (sectors : List Block) (done : Bool)
    → done_with (amid s busy spent event) tag id job sectors done ≡ amid (done_with s tag id job sectors done) busy spent event
unfolding after_done
done_amid s busy spent event tag id job sectors true = refl
done_amid s busy spent event tag id job sectors false = refl

sectors_amid : (s : State) (busy : Bool) (spent : ℕ) (event : Event) (job : Job) → read_sectors (amid s busy spent event) job ≡ read_sectors s job
unfolding sectors_now
sectors_amid s busy spent event job = refl

abbrev pub moved_on : State → Job → ℕ → Option BusKind → ℕ → ℕ → Bool → State
moved_on s job tag kind id count kept = done_with (after_blocks s job count kept) tag id job (read_sectors s job) (is_whole s.plan.through job count kept && is_none kind)

pub moved_amid : (s : State) (busy : Bool) (spent : ℕ) (event : Event) (job : Job) (tag : ℕ) (kind : Option BusKind) (id count : ℕ) (kept : Bool)
    → moved_on (amid s busy spent event) job tag kind id count kept ≡ amid (moved_on s job tag kind id count kept) busy spent event
moved_amid s busy spent event job tag kind id count kept =
    ap (λ x. done_with x tag id job (read_sectors (amid s busy spent event) job) (is_whole s.plan.through job count kept && is_none kind)) (blocks_amid s busy spent event job count kept)
    ∙ (ap (λ sectors. done_with (amid (after_blocks s job count kept) busy spent event) tag id job sectors (is_whole s.plan.through job count kept && is_none kind)) (sectors_amid s busy spent event job)
    ∙ done_amid (after_blocks s job count kept) busy spent event tag id job (read_sectors s job) (is_whole s.plan.through job count kept && is_none kind))

-- what a phase does rests on neither
phase_amid : (s : State) (busy busy2 : Bool) (spent spent2 : ℕ) (event event2 : Event) (job : Job) (tag : ℕ) (kind : Option BusKind) (n id count : ℕ) (kept : Bool) → event_with event ≡ event_with event2
    → phase_by (amid s busy spent event) job tag kind n id count kept ≡ phase_by (amid s busy2 spent2 event2) job tag kind n id count kept
phase_amid s busy busy2 spent spent2 event event2 job tag kind n id count kept same =
    let owed = owed_by kind (is_whole s.plan.through job count kept) n id count in
    ap (λ x. closed_by x n owed) (moved_amid s busy spent event job tag kind id count kept)
    ∙ (ap (λ over. record (moved_on s job tag kind id count kept) { n = n; busy = false; spent = 0; owed = owed; event = over }) same
    ∙ sym (ap (λ x. closed_by x n owed) (moved_amid s busy2 spent2 event2 job tag kind id count kept)))

abbrev pub phase_at : State → DueCommand → Option BusKind → ℕ → ℕ → ℕ → Bool → State
phase_at s command kind n id count kept = phase_by s (job_of s.plan.jobs id) (tag_due command) kind n id count kept

pub phase_same : (q x y : State) (busy busy2 : Bool) (spent spent2 : ℕ) (event event2 : Event) (n id count : ℕ) (kept : Bool) → x ≡ amid q busy spent event → y ≡ amid q busy2 spent2 event2 → due x ≡ due y → hit x ≡ hit y
    → event_with event ≡ event_with event2 → effect x (Phase n id count kept) ≡ effect y (Phase n id count kept)
unfolding effect after_phase
phase_same q x y busy busy2 spent spent2 event event2 n id count kept at at2 command kind same =
    ap (λ z. phase_at z (due x) (hit x) n id count kept) at
    ∙ (phase_amid q busy busy2 spent spent2 event event2 (job_of q.plan.jobs id) (tag_due (due x)) (hit x) n id count kept same
    ∙ (sym (ap (λ z. phase_at z (due x) (hit x) n id count kept) at2)
    ∙ (ap (λ c. phase_at y c (hit x) n id count kept) command ∙ ap (λ k. phase_at y (due y) k n id count kept) kind)))

pub due_event : (s : State) (event : Event) → due (record s { event = event }) ≡ due s
unfolding due
due_event s event = refl

pub hit_event : (s : State) (event : Event) → hit (record s { event = event }) ≡ hit s
unfolding hit due
hit_event s event = refl

-- and after it an untold event is over as the engine's is
pub phase_effect : (s : State) (n id count : ℕ) (kept : Bool) → s.event ≡ Untold → effect s (Phase n id count kept) ≡ effect (record s { event = Told Engine }) (Phase n id count kept)
phase_effect s n id count kept e =
    phase_same s s (record s { event = Told Engine }) s.busy s.busy s.spent s.spent Untold (Told Engine) n id count kept (ap (λ event. record s { event = event }) e) refl
    (sym (due_event s (Told Engine))) (sym (hit_event s (Told Engine))) refl

-- under way it is judged as where it begins
pub busy_line : (q : State) (spent tag : ℕ) (n id count : ℕ) (kept : Bool) → due q ≡ Execute tag → line_rule (record q { busy = true; spent = spent }) (Phase n id count kept) ≡ line_rule q (Phase n id count kept)
unfolding line_rule holds phase_holds
busy_line q spent tag n id count kept at = rw (due_busy q spent tag at, hit_busy q spent tag at, at) refl

pub cut_by_event : (s : State) (event : Event) → is_cut_by (record s { event = event }) ≡ is_cut_by s
unfolding has_own_line due
cut_by_event s event = refl

own_busy : (q : State) (spent : ℕ) → has_own_line (record q { busy = true; spent = spent }) ≡ has_own_line q
unfolding has_own_line
own_busy q spent = refl

pub cut_by_busy : (q : State) (spent tag : ℕ) → due q ≡ Execute tag → is_cut_by (record q { busy = true; spent = spent }) ≡ is_cut_by q
cut_by_busy q spent tag at = ap (λ own. own && is_execute (due (record q { busy = true; spent = spent }))) (own_busy q spent) ∙ ap (λ c. has_own_line q && is_execute c) (due_busy q spent tag at ∙ sym at)

pub uncut_yields : (s : State) (n id count : ℕ) (kept : Bool) → is_cut_by s ≡ false → yields_to_cut s (Phase n id count kept) ≡ true
uncut_yields s n id count kept uncut = ap (λ cut. cond cut (is_due_event s.event && (count == 0)) true) uncut

-- the engine's phase, where no cut is due
pub phase_forced : (r : State) (n id count : ℕ) (kept : Bool) → letters_left r ≡ false → is_due r ≡ false → is_cut_by (recovery_steps r) ≡ false → is_due (recovery_steps r) ≡ false → forced r (Phase n id count kept) ≡ recovery_steps r
unfolding forced
phase_forced r n id count kept letters late uncut late_q =
    let q = recovery_steps r in
    let item = Phase n id count kept in
    ap (λ b. with_due (cond b r (engine_first q item)) item) (or_from (letters_left r) (is_due r && true) letters (and_left (is_due r) true late))
    ∙ (ap (λ b. with_due (cond b (engine_step q) q) item) (and_right (not (has_work q)) (is_cut_by q && not q.busy) (and_left (is_cut_by q) (not q.busy) uncut))
    ∙ ap (λ b. cond b (record q { event = Due }) q) (and_left (is_due q) true late_q))

-- where nothing is due, nothing is executed
pub idle_phase : (s : State) (n id count : ℕ) (kept : Bool) → due s ≡ Idle → holds s (Phase n id count kept) ≡ true → false ≡ true
unfolding holds phase_holds
idle_phase s n id count kept idle is = sym (ap (is_phase_of s id count kept) idle) ∙ (and_parts (n == next_number s) (is_phase_of s id count kept (due s)) is).1

ticked_idle : (q s : State) → IsTicked q s → due s ≡ Idle
ticked_idle q s x = ap due x.state ∙ (due_tick q ∙ idle_due (due q) (and_parts (is_none_due (due q)) (is_running q.stop && may_tick q.recovery) x.idle).0)

phase_next : (s : State) (n id count : ℕ) (kept : Bool) → letters_left s ≡ false → has_work s ≡ false → is_next s (Phase n id count kept) ≡ true
phase_next s n id count kept letters work = engine_next s (Phase n id count kept) letters work refl

-- the engine's phase is taken in q
phase_at_q : (m q b : State) (n id count : ℕ) (kept : Bool) → is_free m.owed ≡ true → m.event ≡ Untold → end_rule m ≡ None → letters_left (rested m) ≡ false → is_due (rested m) ≡ false → recovery_steps (rested m) ≡ q
    → q.event ≡ Untold → letters_left q ≡ false → has_work q ≡ false → is_due q ≡ false → is_cut_by q ≡ false → line_rule q (Phase n id count kept) ≡ None
    → effect q (Phase n id count kept) ≡ effect b (Phase n id count kept) → First m b (Phase n id count kept)
phase_at_q m q b n id count kept free e end letters late at e_q letters_q work late_q uncut line same =
    let item = Phase n id count kept in
    enters_first m q b item (untold_starts m item free e) end (record {
      entered = ap (λ x. forced x item) (behind_rested m item refl free)
          ∙ (phase_forced (rested m) n id count kept letters late (ap is_cut_by at ∙ uncut) (ap is_due at ∙ late_q) ∙ at);
      order = start_none q item (is_due (ended m)) (phase_next q n id count kept letters_q work) (sym (due_owed (ended m) Nothing) ∙ late);
      line = line;
      event = event_none q item (ap (λ event. stands_in q event item) e_q) refl (uncut_yields q n id count kept uncut) refl;
      effect = same;
    })

busied_first : (m q : State) (spent tag n id count : ℕ) (kept : Bool) → is_free m.owed ≡ true → m.event ≡ Untold → end_rule m ≡ None → letters_left (rested m) ≡ false → is_due (rested m) ≡ false → recovery_steps (rested m) ≡ q
    → due q ≡ Execute tag → has_work q ≡ false → is_due q ≡ false → Rests (record q { busy = true; spent = spent }) → letters_left (record q { busy = true; spent = spent }) ≡ false
    → is_cut_by (record q { busy = true; spent = spent }) ≡ false → line_rule (record q { busy = true; spent = spent }) (Phase n id count kept) ≡ None
    → First m (record q { busy = true; spent = spent; event = Told Engine }) (Phase n id count kept)
busied_first m q spent tag n id count kept free e end letters late at execute work late_q rest letters_s uncut line =
    let s = record q { busy = true; spent = spent } in
    phase_at_q m q (record q { busy = true; spent = spent; event = Told Engine }) n id count kept free e end letters late at rest.event letters_s work late_q
    (sym (cut_by_busy q spent tag execute) ∙ uncut)
    (sym (busy_line q spent tag n id count kept execute) ∙ line)
    (phase_same q q (record q { busy = true; spent = spent; event = Told Engine }) q.busy true q.spent spent Untold (Told Engine) n id count kept (ap (λ event. record q { event = event }) rest.event) refl
    (execute ∙ (sym (due_busy q spent tag execute) ∙ sym (due_event s (Told Engine))))
    (sym (hit_busy q spent tag execute) ∙ sym (hit_event s (Told Engine)))
    refl)

busied_phase : (m s : State) (n id count : ℕ) (kept : Bool) → is_free m.owed ≡ true → m.event ≡ Untold → end_rule m ≡ None → letters_left (rested m) ≡ false → is_due (rested m) ≡ false → IsBusied (recovery_steps (rested m)) s
    → Rests s → letters_left s ≡ false → is_cut_by s ≡ false → line_rule s (Phase n id count kept) ≡ None → First m (record s { event = Told Engine }) (Phase n id count kept)
busied_phase m s n id count kept free e end letters late x rest letters_s uncut line =
    let at = x.state in
    rw at (busied_first m (recovery_steps (rested m)) x.spent x.tag n id count kept free e end letters late refl x.execute x.work x.late (rw at at rest) (rw at at letters_s) (rw at at uncut) (rw at at line))

reached_phase : (m s : State) (n id count : ℕ) (kept : Bool) → is_free m.owed ≡ true → m.event ≡ Untold → end_rule m ≡ None → letters_left (rested m) ≡ false → is_due (rested m) ≡ false → Reached (rested m) s
    → Rests s → letters_left s ≡ false → has_work s ≡ false → is_due s ≡ false → is_cut_by s ≡ false → line_rule s (Phase n id count kept) ≡ None → First m (record s { event = Told Engine }) (Phase n id count kept)
reached_phase m s n id count kept free e end letters late (inl x) rest letters_s work late_s uncut line =
    phase_at_q m s (record s { event = Told Engine }) n id count kept free e end letters late (sym x.steps ∙ calm_steps s (calm_work s work)) rest.event letters_s work late_s uncut line (phase_effect s n id count kept rest.event)
reached_phase m s n id count kept free e end letters late (inr (inl x)) rest letters_s work late_s uncut line =
    absurd (false≢true (idle_phase s n id count kept (ticked_idle (recovery_steps (rested m)) s x) (holds_unbroken s (Phase n id count kept) None (ap (λ rule. earlier rule None) line))))
reached_phase m s n id count kept free e end letters late (inr (inr x)) rest letters_s work late_s uncut line = busied_phase m s n id count kept free e end letters late x rest letters_s uncut line

-- the engine's phase is taken
pub engine_phase : (m s : State) (n id count : ℕ) (kept : Bool) → StandsAt m s → m.event ≡ Untold → Reached (rested m) s → letters_left (rested m) ≡ false → is_due (rested m) ≡ false
    → Rests s → letters_left s ≡ false → has_work s ≡ false → is_due s ≡ false → Fits (record s { event = Told Engine }) (Phase n id count kept) → yields_to_cut (record s { event = Told Engine }) (Phase n id count kept) ≡ true
    → First m (record s { event = Told Engine }) (Phase n id count kept)
engine_phase m s n id count kept st e on letters late rest letters_s work late_s fits yields =
    let uncut = sym (cut_by_event s (Told Engine)) ∙ phase_uncut (record s { event = Told Engine }) Engine (Phase n id count kept) refl yields in
    let line = sym (phase_line s (Told Engine) n id count kept) ∙ fits.line in
    reached_phase m s n id count kept st.free e st.ends letters late on rest letters_s work late_s uncut line
