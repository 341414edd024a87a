-- The lines that change no contents do the same to control, whatever these are.
use Rattle.control_laws.proofs.Dues.{due_cut_same, due_same, line_same, to_do_same, work_same}
use Rattle.control_laws.proofs.Orders.{cond_passes, recovery_passes}
use Rattle.control_laws.specs.Laws.{AreContentsKept, changes_contents}
use Rattle.control_laws.specs.Parts.{Contents, SameOutline, contents_of, with_contents}
use Rattle.std.proofs.Common.{◌≡◌, ◌∙◌, ℕ, Bool, true, false, cond, ◌&&◌, ◌||◌, not, Option, length, refl, ap, sym}
use Rattle.std.proofs.lemmas.Bool.{false≢true}
use Rattle.storage_machine.specs.Commands.{is_calm}
use Rattle.storage_machine.specs.Host.{is_silent, recovery_step, recovery_step_at, recovery_steps, to_do}
use Rattle.storage_machine.specs.Jobs.{is_in_range, job_of}
use Rattle.storage_machine.specs.declared.state.Event.{Event}
use Rattle.storage_machine.specs.declared.state.Event.TheVariants.{Untold, Told, Due}
use Rattle.storage_machine.specs.declared.state.Owed.{Owed}
use Rattle.storage_machine.specs.declared.state.Owed.TheVariants.{Nothing, Dark}
use Rattle.storage_machine.specs.declared.state.Recovery.{Recovery}
use Rattle.storage_machine.specs.declared.state.Recovery.TheVariants.{Halted}
use Rattle.storage_machine.specs.declared.state.State.{State}
use Rattle.storage_machine.specs.declared.state.Stop.TheVariants.{Bus as BusStop}
use Rattle.storage_model.specs.declared.faults.BusKind.{BusKind}
use Rattle.storage_model.specs.declared.faults.BusKind.TheVariants.{NoResp}
use Rattle.storage_model.specs.declared.faults.Letter.{Letter}
use Rattle.storage_model.specs.declared.faults.Letter.TheVariants.{Host as HostActs, Cut as PowerActs}
use Rattle.storage_model.specs.declared.trace.Item.{Item}
use Rattle.storage_model.specs.declared.trace.Item.TheVariants.{Address, Phase, Bus, Read, Sector, Cut, Lost, On, Left, Turn, Off}
use Rattle.trace_effects.specs.Cuts.{used}
use Rattle.trace_effects.specs.Effects.{addressed, after_address, after_answer, after_bus, after_cut, after_discard, after_fault, after_flash, after_irq, after_issue, after_params, after_poll, after_read, after_recover, after_turn, at_cut, begun, begun_by, cut_at, effect, first_cut, is_last, is_quiet, letters_left, letters_used, line_used, named_more, over, uses_word, words_used}
use Rattle.trace_rules.specs.Lines.{is_poll}

-- letters

step_at : (c : Contents) (s : State) (recovery : Recovery) → recovery_step_at (with_contents c s) recovery ≡ with_contents c (recovery_step_at s recovery)
step_at c s Halted = refl
step_at c s recovery = refl

step_passes : (c : Contents) (s : State) → recovery_step (with_contents c s) ≡ with_contents c (recovery_step s)
unfolding recovery_step
step_passes c s = step_at c s s.recovery

abbrev told_with : State → Event → State
told_with s event = record s { event = event }

abbrev untold : State → State
untold s = record s { event = Untold }

begun_by_passes : (c : Contents) (s : State) (letter : Letter) → begun_by (with_contents c s) letter ≡ with_contents c (begun_by s letter)
begun_by_passes c s HostActs = cond_passes c (is_silent s.recovery) (is_silent s.recovery) _ _ _ _ refl
    (ap untold (step_passes c s))
    (ap (λ work. with_contents c (told_with s (cond work (Told HostActs) Untold))) (work_same c s))
begun_by_passes c s PowerActs = ap (λ due. with_contents c (told_with s (cond due Due (Told PowerActs)))) (due_cut_same c s)
begun_by_passes c s letter = refl

turn_passes : (c : Contents) (s : State) (letter : Letter) → after_turn (with_contents c s) letter ≡ with_contents c (after_turn s letter)
unfolding after_turn begun
turn_passes c s letter = begun_by_passes c (record s { letters = letters_used s; owed = Nothing }) letter

-- commands

addressed_passes : (c : Contents) (s : State) (id : ℕ) (inside : Bool) → over (addressed (with_contents c s) id inside) Nothing ≡ with_contents c (over (addressed s id inside) Nothing)
addressed_passes c s id true = refl
addressed_passes c s id false = refl

address_passes : (c : Contents) (s : State) (n id : ℕ) → SameOutline c (contents_of s) → after_address (with_contents c s) n id ≡ with_contents c (after_address s n id)
unfolding after_address
address_passes c s n id outline =
    ap (λ sectors. over (addressed (with_contents c (record s { n = n })) id (is_in_range (job_of s.plan.jobs id) sectors)) Nothing) outline.sectors
    ∙ addressed_passes c (record s { n = n }) id (is_in_range (job_of s.plan.jobs id) (length s.base))

word_same : (c : Contents) (s : State) (kind : BusKind) → uses_word (with_contents c s) kind ≡ uses_word s kind
word_same c s NoResp = ap (λ command. is_poll command) (due_same c s)
word_same c s kind = refl

abbrev bus_with : State → ℕ → Option ℕ → Bool → State
bus_with s n id word = over (record s {
  n = n;
  words = cond word (words_used s) s.words;
  named = named_more s.named id;
  stop = cond (is_calm s.recovery) (BusStop id) s.stop;
}) Nothing

bus_passes : (c : Contents) (s : State) (n : ℕ) (kind : BusKind) (id : Option ℕ) → after_bus (with_contents c s) n kind id ≡ with_contents c (after_bus s n kind id)
unfolding after_bus
bus_passes c s n kind id = ap (λ word. with_contents c (bus_with s n id word)) (word_same c s kind)

read_passes : (c : Contents) (s : State) (id : ℕ) → after_read (with_contents c s) id ≡ with_contents c (after_read s id)
unfolding after_read
read_passes c s id = refl

-- cuts

used_same : (c : Contents) (s : State) (event : Event) → line_used (with_contents c s) event ≡ line_used s event
used_same c s Due = line_same c s
used_same c s event = refl

last_same : (c : Contents) (s : State) → is_last (with_contents c s) ≡ is_last s
last_same c s =
    ap (λ some. is_quiet s.event && not (letters_left s || some)) (ap (λ t. to_do t) (recovery_passes c s) ∙ to_do_same c (recovery_steps s))

at_cut_passes : (c : Contents) (s : State) → at_cut (with_contents c s) ≡ with_contents c (at_cut s)
at_cut_passes c s = cond_passes c _ _ _ _ _ _ (last_same c s) (recovery_passes c s) refl

abbrev cut_with : State → State → Option ℕ → Bool → State
cut_with s t line some = over (record s {
  slots = t.slots;
  recovery = t.recovery;
  cuts = used s.cuts line;
  worked = some;
  spent = 0;
  notice = false;
  count = 0;
}) (Dark 0)

first_cut_passes : (c : Contents) (s : State) → first_cut (with_contents c s) ≡ with_contents c (first_cut s)
first_cut_passes c s =
    ap (λ t. cut_with (with_contents c s) t (line_used (with_contents c s) s.event) (to_do t)) (at_cut_passes c s)
    ∙ (ap (λ line. with_contents c (cut_with s (at_cut s) line (to_do (with_contents c (at_cut s))))) (used_same c s s.event)
    ∙ ap (λ some. with_contents c (cut_with s (at_cut s) (line_used s s.event) some)) (to_do_same c (at_cut s)))

cut_at_passes : (c : Contents) (s : State) (owed : Owed) → cut_at (with_contents c s) owed ≡ with_contents c (cut_at s owed)
cut_at_passes c s (Dark cuts) = refl
cut_at_passes c s owed = first_cut_passes c s

-- each line

pub effect_passes : (s : State) (c : Contents) (item : Item) → SameOutline c (contents_of s) → changes_contents item ≡ false → effect (with_contents c s) item ≡ with_contents c (effect s item)
unfolding effect after_issue after_params after_poll after_flash after_irq after_answer after_fault after_recover after_discard after_cut
effect_passes s c (Turn letter) outline off = turn_passes c s letter
effect_passes s c (Address n id) outline off = address_passes c s n id outline
effect_passes s c (Phase n id count kept) outline off = absurd (false≢true (sym off))
effect_passes s c (Bus n kind id) outline off = bus_passes c s n kind id
effect_passes s c (Read id) outline off = read_passes c s id
effect_passes s c (Sector value) outline off = absurd (false≢true (sym off))
effect_passes s c Cut outline off = cut_at_passes c s s.owed
effect_passes s c (Lost id) outline off = absurd (false≢true (sym off))
effect_passes s c On outline off = absurd (false≢true (sym off))
effect_passes s c (Left sector value) outline off = absurd (false≢true (sym off))
effect_passes s c (Off end) outline off = absurd (false≢true (sym off))
effect_passes s c item outline off = refl

pub contents_kept : (s : State) (item : Item) → AreContentsKept s item
contents_kept s item off = ap (λ t. contents_of t) (effect_passes s (contents_of s) item (record { sectors = refl; shown = λ tag. refl; puts = λ from. refl }) off)
