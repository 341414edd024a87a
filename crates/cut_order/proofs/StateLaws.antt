-- The order, as the storage machine asks for it and uses it: a letter's line and a cut change it, and no other line.
use Rattle.std.proofs.Common.{◌≡◌, ◌∙◌, ℕ, ◌+◌, Bool, true, false, cond, ◌&&◌, List, [], ◌∷◌, ◌++◌, Option, Some, None, refl, ap, sym}
use Rattle.std.proofs.lemmas.Bool.{true≢false}
use Rattle.std.specs.Prelude.{is_none, is_some, nat_lt, length}
use Rattle.storage_machine.specs.Commands.{due, hit}
use Rattle.storage_machine.specs.Cuts.{due_line, is_due, next_left, sent_so_far}
use Rattle.storage_machine.specs.Host.{is_silent, recovery_step, recovery_step_at, to_do}
use Rattle.storage_machine.specs.Jobs.{is_in_range, job_of}
use Rattle.storage_machine.specs.declared.commands.DueCommand.{DueCommand}
use Rattle.storage_machine.specs.declared.commands.DueCommand.TheVariants.{Idle, Address as AddressDue, Params as ParamsDue, Direct, Execute, Poll as PollDue}
use Rattle.storage_machine.specs.declared.state.Event.{Event}
use Rattle.storage_machine.specs.declared.state.Event.TheVariants.{Untold, Told, Due}
use Rattle.storage_machine.specs.declared.state.Owed.{Owed}
use Rattle.storage_machine.specs.declared.state.Owed.TheVariants.{Nothing, Sectors, Dark}
use Rattle.storage_machine.specs.declared.state.Recovery.{Recovery}
use Rattle.storage_machine.specs.declared.state.Recovery.TheVariants.{Calm, Halted, Cleared, Discarded, Cleaned, Resumed}
use Rattle.storage_machine.specs.declared.state.State.{State}
use Rattle.storage_model.specs.declared.block.Block.{Block}
use Rattle.storage_model.specs.declared.faults.Faults.{Faults}
use Rattle.storage_model.specs.declared.faults.Letter.{Letter}
use Rattle.storage_model.specs.declared.faults.Letter.TheVariants.{Host as HostActs, Engine as EngineActs, Card as CardActs, Cut as PowerActs}
use Rattle.storage_model.specs.declared.plan.Job.{Job}
use Rattle.storage_model.specs.declared.plan.Plan.{Plan}
use Rattle.storage_model.specs.declared.trace.End.{End}
use Rattle.storage_model.specs.declared.trace.End.TheVariants.{Good}
use Rattle.storage_model.specs.declared.trace.Item.{Item}
use Rattle.storage_model.specs.declared.trace.Item.TheVariants.{Card, Issue, Params, Address, Poll, Phase, Discard, Bus, Flash, Recover, Irq, Done, Read, Sector, Status, Fault, Refused, Cut, Lost, On, Left, Turn, Off}
use Rattle.storage_order.specs.Accept.{started}
use Rattle.storage_order.specs.Events.{ended, ended_by, engine_step, passed}
use Rattle.trace_effects.specs.Effects.{after_address, after_answer, after_bus, after_cut, after_discard, after_fault, after_flash, after_irq, after_issue, after_left, after_lost, after_off, after_on, after_params, after_poll, after_read, after_recover, after_sector, after_turn, begun, begun_by, cut_at, effect, first_cut, kept_at, left_from, left_mark, left_on, line_used, powered, shown_on}
use Rattle.trace_effects.specs.Cuts.{epochs_with, used}
use Rattle.trace_effects.specs.Phases.{after_blocks, after_done, after_keep, after_phase, done_with, read_sectors}
use Rattle.trace_rules.specs.Lines.{data_on}
use Rattle.trace_rules.specs.Phases.{is_whole, tag_due}
use Rattle.cut_order.specs.Order.{OrderState, cut_in, fresh, is_dark, is_line_due, line_at, order_of, tells_of_use, with_letter, with_line}

-- the machine's due line is the order's
pub due_line_is : (s : State) → due_line s ≡ line_at (order_of s) (sent_so_far s)
unfolding due_line
due_line_is s = refl

pub is_due_by : (s : State) (order : OrderState) (sent : ℕ) → order_of s ≡ order → sent_so_far s ≡ sent → is_due s ≡ (to_do s && is_line_due order sent)
is_due_by s order sent same count =
    ap (λ line. to_do s && is_some line) (due_line_is s)
    ∙ (ap (λ o. to_do s && is_line_due o (sent_so_far s)) same ∙ ap (λ n. to_do s && is_line_due order n) count)

-- at the start nothing is used
pub order_started : (base : List Block) (plan : Plan) (faults : Faults) → order_of (started base plan faults) ≡ fresh faults.turns faults.cuts
unfolding started
order_started base plan faults = refl

either : (b : Bool) (s t u : State) → order_of s ≡ order_of u → order_of t ≡ order_of u → order_of (cond b s t) ≡ order_of u
either true s t u left right = left
either false s t u left right = right

-- an event begins and ends
order_recovery_at : (s : State) (recovery : Recovery) → order_of (recovery_step_at s recovery) ≡ order_of s
order_recovery_at s Calm = refl
order_recovery_at s Halted = refl
order_recovery_at s Cleared = refl
order_recovery_at s Discarded = refl
order_recovery_at s Cleaned = refl
order_recovery_at s Resumed = refl

order_recovery : (s : State) → order_of (recovery_step s) ≡ order_of s
unfolding recovery_step
order_recovery s = order_recovery_at s s.recovery

order_begun_by : (s : State) (letter : Letter) → order_of (begun_by s letter) ≡ order_of s
order_begun_by s HostActs = either (is_silent s.recovery) _ _ s (order_recovery s) refl
order_begun_by s EngineActs = refl
order_begun_by s CardActs = refl
order_begun_by s PowerActs = refl

pub order_begun : (s : State) (letter : Letter) → order_of (begun s letter) ≡ order_of s
unfolding begun
order_begun s letter = order_begun_by (record s { owed = Nothing }) letter

order_passed : (s : State) (command : DueCommand) → order_of (passed s command) ≡ order_of s
order_passed s Idle = either _ _ s s refl refl
order_passed s (AddressDue tag) = either _ _ s s refl refl
order_passed s (ParamsDue tag) = either _ _ s s refl refl
order_passed s (Direct tag) = either _ _ s s refl refl
order_passed s (Execute tag) = either _ _ s s refl refl
order_passed s PollDue = either _ _ s s refl refl

order_engine : (s : State) → order_of (engine_step s) ≡ order_of s
unfolding engine_step
order_engine s = order_passed s (due s)

order_ended_by : (s : State) (event : Event) → order_of (ended_by s event) ≡ order_of s
order_ended_by s Untold = refl
order_ended_by s Due = refl
order_ended_by s (Told HostActs) = refl
order_ended_by s (Told EngineActs) = order_engine (record s { event = Untold })
order_ended_by s (Told CardActs) = refl
order_ended_by s (Told PowerActs) = refl

pub order_ended : (s : State) → order_of (ended s) ≡ order_of s
unfolding ended
order_ended s = order_ended_by s s.event

-- a letter's line uses the letter
pub order_turn : (s : State) (letter : Letter) → order_of (after_turn s letter) ≡ with_letter (order_of s)
unfolding after_turn
order_turn s letter = order_begun (record s { letters = (with_letter (order_of s)).letters }) letter

-- a loss of power uses the line that forced it
order_cut_by : (s : State) (event : Event) → record (order_of s) { used = used s.cuts (line_used s event) } ≡ cut_in event (order_of s) (sent_so_far s)
unfolding due_line
order_cut_by s Untold = refl
order_cut_by s Due = refl
order_cut_by s (Told letter) = refl

order_first : (s : State) → order_of (first_cut s) ≡ cut_in s.event (order_of s) (sent_so_far s)
order_first s = order_cut_by s s.event

order_cut_at : (s : State) (owed : Owed) → is_dark owed ≡ false → order_of (cut_at s owed) ≡ cut_in s.event (order_of s) (sent_so_far s)
order_cut_at s (Dark cuts) light = absurd (true≢false light)
order_cut_at s owed light = order_first s

pub order_cut : (s : State) → is_dark s.owed ≡ false → order_of (after_cut s) ≡ cut_in s.event (order_of s) (sent_so_far s)
unfolding after_cut
order_cut s light = order_cut_at s s.owed light

pub order_cut_due : (s : State) (order : OrderState) (sent : ℕ) → order_of s ≡ order → sent_so_far s ≡ sent → s.event ≡ Due → is_dark s.owed ≡ false → order_of (after_cut s) ≡ with_line order sent
order_cut_due s order sent same count due light =
    order_cut s light ∙ (ap (λ event. cut_in event (order_of s) (sent_so_far s)) due ∙ (ap (λ o. with_line o (sent_so_far s)) same ∙ ap (with_line order) count))

order_dark_at : (s : State) (owed : Owed) → is_dark owed ≡ true → order_of (cut_at s owed) ≡ order_of s
order_dark_at s (Dark cuts) dark = refl
order_dark_at s owed dark = absurd (true≢false (sym dark))

-- further ones use none
pub order_dark : (s : State) → is_dark s.owed ≡ true → order_of (after_cut s) ≡ order_of s
unfolding after_cut
order_dark s dark = order_dark_at s s.owed dark

-- the phase
order_blocks : (s : State) (job : Job) (count : ℕ) (kept : Bool) → order_of (after_blocks s job count kept) ≡ order_of s
unfolding after_blocks after_keep
order_blocks s job count kept = either kept _ _ s refl refl

order_done : (s : State) (tag id : ℕ) (job : Job) (sectors : List Block) (done : Bool) → order_of (done_with s tag id job sectors done) ≡ order_of s
unfolding after_done
order_done s tag id job sectors done = either done _ _ s refl refl

order_phase : (s : State) (n id count : ℕ) (kept : Bool) → order_of (after_phase s n id count kept) ≡ order_of s
unfolding after_phase
order_phase s n id count kept =
    let job = job_of s.plan.jobs id in
    order_done (after_blocks s job count kept) (tag_due (due s)) id job (read_sectors s job) (is_whole s.plan.through job count kept && is_none (hit s)) ∙ order_blocks s job count kept

order_address : (s : State) (n id : ℕ) → order_of (after_address s n id) ≡ order_of s
unfolding after_address
order_address s n id = either (is_in_range (job_of s.plan.jobs id) (length s.base)) _ _ s refl refl

order_shown : (s : State) (owed : Owed) → order_of (shown_on s owed) ≡ order_of s
order_shown s (Sectors tag k) = either (nat_lt (k + 1) (length (data_on s tag))) _ _ s refl refl
order_shown s owed = refl

order_sector : (s : State) → order_of (after_sector s) ≡ order_of s
unfolding after_sector
order_sector s = order_shown s s.owed

order_on_from : (s : State) (next : Option ℕ) → order_of (left_from s next) ≡ order_of s
order_on_from s None = refl
order_on_from s (Some sector) = refl

order_on : (s : State) → order_of (after_on s) ≡ order_of s
unfolding after_on
order_on s = order_on_from (powered s) (next_left s.pend 0)

order_left_on : (s : State) (sector : ℕ) (next : Option ℕ) → order_of (left_on s sector next) ≡ order_of s
order_left_on s sector None = refl
order_left_on s sector (Some later) = refl

order_left : (s : State) (sector : ℕ) (value : Block) → order_of (after_left s sector value) ≡ order_of s
unfolding after_left
order_left s sector value = order_left_on (record s { epochs = epochs_with s sector value; lefts = s.lefts ++ left_mark sector value ∷ [] }) sector (next_left s.pend (sector + 1))

order_kept : (s : State) (end : End) → order_of (kept_at s end) ≡ order_of s
unfolding after_keep
order_kept s Good = refl
order_kept s end = refl

order_off : (s : State) (end : End) → order_of (after_off s end) ≡ order_of s
unfolding after_off
order_off s end = order_kept s end

-- the other lines leave it
pub order_line : (s : State) (item : Item) → tells_of_use item ≡ false → order_of (effect s item) ≡ order_of s
unfolding effect after_answer after_bus after_discard after_fault after_flash after_irq after_issue after_lost after_params after_poll after_read after_recover
order_line s (Card sectors depth lines) other = refl
order_line s (Turn letter) other = absurd (true≢false other)
order_line s (Issue id tag) other = refl
order_line s (Params n id) other = refl
order_line s (Address n id) other = order_address s n id
order_line s (Poll n mask) other = refl
order_line s (Phase n id count kept) other = order_phase s n id count kept
order_line s (Discard n) other = refl
order_line s (Bus n kind id) other = refl
order_line s (Flash id) other = refl
order_line s Recover other = refl
order_line s (Irq mask) other = refl
order_line s (Done id) other = refl
order_line s (Read id) other = refl
order_line s (Sector value) other = order_sector s
order_line s (Status id word) other = refl
order_line s (Fault id why) other = refl
order_line s (Refused id why) other = refl
order_line s Cut other = absurd (true≢false other)
order_line s (Lost id) other = refl
order_line s On other = order_on s
order_line s (Left sector value) other = order_left s sector value
order_line s (Off end) other = order_off s end
