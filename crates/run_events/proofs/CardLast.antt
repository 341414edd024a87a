-- The card's event of the last letter, in which the power is lost while a phase is under way: its phase is taken as the engine's, and its cut likewise.
use Rattle.std.proofs.Common.{inl, inr, ◌≡◌, ◌∙◌, ◌⊎◌, ◌≤◌, ℕ, Bool, true, false, Option, None, cond, ◌&&◌, ◌||◌, not, is_none, is_some, nat_le, zip, ◌==◌, List, [], ◌∷◌, ◌++◌, refl, ap, sym}
use Rattle.std.proofs.lemmas.Bool.{false≢true, and_from, and_parts, and_right, eqb-true, or_from, or_parts}
use Rattle.std.specs.Prelude.{position}
use Rattle.storage_machine.specs.Commands.{due, hit, is_calm, next_number}
use Rattle.storage_machine.specs.Cuts.{due_line, is_due, sent_so_far}
use Rattle.storage_machine.specs.Host.{has_work, next_issue, to_do}
use Rattle.storage_machine.specs.declared.state.Event.{Event}
use Rattle.storage_machine.specs.declared.state.Event.TheVariants.{Untold, Told}
use Rattle.storage_machine.specs.declared.state.Owed.{Owed}
use Rattle.storage_machine.specs.declared.state.Owed.TheVariants.{Nothing, Closed, Dark}
use Rattle.storage_machine.specs.declared.state.State.{State}
use Rattle.storage_machine.specs.Jobs.{job_of}
use Rattle.storage_model.specs.declared.block.Block.{Block}
use Rattle.storage_model.specs.declared.faults.BusKind.{BusKind}
use Rattle.storage_model.specs.declared.plan.Job.{Job}
use Rattle.storage_model.specs.declared.faults.Letter.TheVariants.{Card}
use Rattle.storage_model.specs.declared.trace.Item.{Item}
use Rattle.storage_model.specs.declared.trace.Item.TheVariants.{Phase, Cut}
use Rattle.storage_order.proofs.Accepts.{holds_unbroken}
use Rattle.storage_order.specs.Accept.{accept_from}
use Rattle.storage_order.specs.Events.{Fits, Lasts, More, goes_on, end_rule, ended, ended_by, rule_of_end, is_untold}
use Rattle.storage_order.specs.Order.{forced, is_of_next, starts, starts_at}
use Rattle.storage_runs.proofs.Ends.{First, after_by, more_plan}
use Rattle.storage_runs.proofs.Lines.{event_none, one_taken}
use Rattle.storage_runs.proofs.Mores.{calm_steps, cut_is, is_untold_event, more_taken, not_true, start_none}
use Rattle.run_lines.proofs.Cuts.{plain_untold, plainly_cut, told_cut}
use Rattle.run_lines.proofs.Engines.{engine_next, enters_first}
use Rattle.storage_runs.proofs.Lags.{calm_work}
use Rattle.run_lines.proofs.Phases.{amid, cut_by_event, moved_amid, moved_on, phase_forced, phase_line, uncut_yields}
use Rattle.storage_runs.proofs.Turns.{behind_rested}
use Rattle.storage_runs.proofs.Told.{IsBegun, due_event, phase_uncut, untold_told}
use Rattle.storage_runs.specs.Laws.{Closes, rested}
use Rattle.storage_runs.specs.Runs.{StaysSo, Yields}
use Rattle.trace_effects.proofs.Sounds.{effect_keeps}
use Rattle.trace_effects.specs.Effects.{after_cut, cut_at, effect, first_cut, letters_left}
use Rattle.trace_effects.specs.Phases.{after_blocks, after_done, after_keep, after_phase, closed_by, done_with, event_with, phase_by, read_sectors}
use Rattle.trace_rules.specs.Lines.{cut_holds, holds, is_free, line_rule}
use Rattle.trace_rules.specs.Phases.{is_phase_of, is_whole, owed_by, phase_holds, tag_due}
use Rattle.trace_rules.specs.Steps.{earlier, is_cut, is_cut_by, is_line_of, is_nothing, is_under_way, stands_in}

-- the event under way is that of nobody
abbrev pub unsaid : State → State
unsaid b = record b { event = Untold }

phase_out : (s : State) (busy : Bool) (spent : ℕ) (job : Job) (tag : ℕ) (kind : Option BusKind) (n id count : ℕ) (kept : Bool)
    → record (phase_by (amid s busy spent (Told Card)) job tag kind n id count kept) { event = Untold } ≡ phase_by (amid s busy spent Untold) job tag kind n id count kept
phase_out s busy spent job tag kind n id count kept =
    let owed = owed_by kind (is_whole s.plan.through job count kept) n id count in
    ap {A = State} (λ x. record (closed_by x n owed) { event = Untold }) (moved_amid s busy spent (Told Card) job tag kind id count kept)
    ∙ sym (ap (λ x. closed_by x n owed) (moved_amid s busy spent Untold job tag kind id count kept))

-- the phase in an event of nobody
pub effect_out : (b : State) (n id count : ℕ) (kept : Bool) → b.event ≡ Told Card → effect (unsaid b) (Phase n id count kept) ≡ unsaid (effect b (Phase n id count kept))
unfolding effect after_phase due hit
effect_out b n id count kept e =
    sym (phase_out b b.busy b.spent (job_of b.plan.jobs id) (tag_due (due b)) (hit b) n id count kept)
    ∙ ap {A = State} (λ x. record x { event = Untold }) (ap (λ event. phase_by (record b { event = event }) (job_of b.plan.jobs id) (tag_due (due b)) (hit b) n id count kept) (sym e))

-- what a phase leaves
pub record IsLeft (s t : State) : Type 0 where
  pub faults : t.faults ≡ s.faults
  pub cuts : t.cuts ≡ s.cuts
  pub recovery : t.recovery ≡ s.recovery
  pub event : t.event ≡ s.event

blocks_left : (s : State) (job : Job) (count : ℕ) (kept : Bool) → IsLeft s (after_blocks s job count kept)
unfolding after_blocks after_keep
blocks_left s job count true = record { faults = refl; cuts = refl; recovery = refl; event = refl }
blocks_left s job count false = record { faults = refl; cuts = refl; recovery = refl; event = refl }

done_left : (s : State) (tag id : ℕ) (job : Job) (sectors : List Block) (done : Bool) → IsLeft s (done_with s tag id job sectors done)
unfolding after_done
done_left s tag id job sectors true = record { faults = refl; cuts = refl; recovery = refl; event = refl }
done_left s tag id job sectors false = record { faults = refl; cuts = refl; recovery = refl; event = refl }

moved_left : (s : State) (job : Job) (tag : ℕ) (kind : Option BusKind) (id count : ℕ) (kept : Bool) → IsLeft s (moved_on s job tag kind id count kept)
moved_left s job tag kind id count kept =
    let first = blocks_left s job count kept in
    let second = done_left (after_blocks s job count kept) tag id job (read_sectors s job) (is_whole s.plan.through job count kept && is_none kind) in
    record { faults = second.faults ∙ first.faults; cuts = second.cuts ∙ first.cuts; recovery = second.recovery ∙ first.recovery; event = second.event ∙ first.event }

-- the state behind the phase's line
pub record IsBehind (b p : State) (number : ℕ) : Type 0 where
  pub faults : p.faults ≡ b.faults
  pub cuts : p.cuts ≡ b.cuts
  pub recovery : p.recovery ≡ b.recovery
  pub event : p.event ≡ event_with b.event
  pub n : p.n ≡ number
  pub busy : p.busy ≡ false

pub behind : (b : State) (n id count : ℕ) (kept : Bool) → IsBehind b (effect b (Phase n id count kept)) n
unfolding effect after_phase
behind b n id count kept =
    let moved = moved_left b (job_of b.plan.jobs id) (tag_due (due b)) (hit b) id count kept in
    record { faults = moved.faults; cuts = moved.cuts; recovery = moved.recovery; event = ap event_with moved.event; n = refl; busy = refl }

sent_at : (p b : State) → p.faults ≡ b.faults → p.cuts ≡ b.cuts → sent_so_far p ≡ sent_so_far b → is_some (due_line p) ≡ is_some (due_line b)
unfolding due_line
sent_at p b faults cuts sent =
    ap (λ f. is_some (position (λ line. not line.1 && nat_le line.0 (sent_so_far p)) (zip f.cuts p.cuts))) faults
    ∙ (ap (λ c. is_some (position (λ line. not line.1 && nat_le line.0 (sent_so_far p)) (zip b.faults.cuts c))) cuts
    ∙ ap (λ k. is_some (position (λ line. not line.1 && nat_le line.0 k) (zip b.faults.cuts b.cuts))) sent)

sent_behind : (b p : State) (n : ℕ) → IsBehind b p n → b.busy ≡ true → n ≡ next_number b → sent_so_far p ≡ sent_so_far b
sent_behind b p n x busy is =
    ap (λ busy. cond busy (next_number p) p.n) x.busy ∙ (x.n ∙ (is ∙ sym (ap (λ busy. cond busy (next_number b) b.n) busy)))

undone : (some late : Bool) → some ≡ true → (some && late) ≡ false → late ≡ false
undone true late a b = b
undone false late a b = absurd (cc)

-- a cut isn't due behind the phase that was under way where it wasn't before
pub late_behind : (b p : State) (n : ℕ) → IsBehind b p n → to_do b ≡ true → is_due b ≡ false → b.busy ≡ true → n ≡ next_number b → is_due p ≡ false
late_behind b p n x some late busy is =
    and_right (to_do p) (is_some (due_line p)) (sent_at p b x.faults x.cuts (sent_behind b p n x busy is) ∙ undone (to_do b) (is_some (due_line b)) some late)

out_line : (p : State) → line_rule (unsaid p) Cut ≡ line_rule p Cut
unfolding line_rule holds cut_holds
out_line p = refl

pub plain_unsaid : (p : State) → plainly_cut (unsaid p) ≡ plainly_cut p
unfolding to_do
plain_unsaid p = refl

out_first : (p : State) → p.event ≡ Told Card → is_calm p.recovery ≡ true → first_cut (unsaid p) ≡ first_cut p
out_first p e calm = plain_untold (unsaid p) refl ∙ (plain_unsaid p ∙ sym (told_cut p Card e calm))

out_cut_by : (p : State) (owed : Owed) → p.event ≡ Told Card → is_calm p.recovery ≡ true → cut_at (unsaid p) owed ≡ cut_at p owed
out_cut_by p (Dark cuts) e calm = refl
out_cut_by p owed e calm = out_first p e calm

out_cut : (p : State) → p.event ≡ Told Card → is_calm p.recovery ≡ true → effect (unsaid p) Cut ≡ effect p Cut
unfolding effect after_cut
out_cut p e calm = out_cut_by p p.owed e calm

own_cut : (p : State) (owed : Owed) → is_calm p.recovery ≡ true → is_due p ≡ false → goes_on p owed Cut ≡ true → goes_on (unsaid p) owed Cut ≡ true
own_cut p Closed calm late on = and_from (is_calm p.recovery) (not (is_due (unsaid p))) calm (ap not (due_event p Untold ∙ late))
own_cut p owed calm late on = on

pub stands_cut : (p : State) (item : Item) (owed : Owed) → p.owed ≡ owed → p.event ≡ Told Card → goes_on p owed item ≡ true → stands_in p p.event item ≡ true → is_cut item ≡ true
stands_cut p item Nothing at e on stands = absurd (cc)
stands_cut p item owed at e on stands = sym (ap (λ o. cond (is_nothing o) (is_line_of Card (is_calm p.recovery) item && is_under_way p.busy item) (is_cut item)) at) ∙ (sym (ap (λ event. stands_in p event item) e) ∙ stands)

cut_more : (p last : State) (items : List Item) → p.event ≡ Told Card → is_calm p.recovery ≡ true → is_due p ≡ false → More p (Cut ∷ items) last → More (unsaid p) (Cut ∷ items) last
cut_more p last items e calm late go =
    (own_cut p p.owed calm late go.0, record { line = out_line p ∙ go.1.line; stands = refl; first = refl }, rw (out_cut p e calm) go.2)

pub more_cut : (p last : State) (item : Item) (items : List Item) → item ≡ Cut → p.event ≡ Told Card → is_calm p.recovery ≡ true → is_due p ≡ false → More p (item ∷ items) last → More (unsaid p) (item ∷ items) last
more_cut p last item items at e calm late go = rw at (cut_more p last items e calm late (rw at at go))

-- the further lines
more_out : (p last : State) (items : List Item) → p.event ≡ Told Card → is_calm p.recovery ≡ true → is_due p ≡ false → More p items last → is_untold last.event ≡ true → More (unsaid p) items last
more_out p last [] e calm late go over = absurd (false≢true (sym (ap (λ event. is_untold event) (ap (λ x. x.event) go ∙ e)) ∙ over))
more_out p last (item ∷ items) e calm late go over =
    let cut = cut_is item (stands_cut p item p.owed refl e go.0 go.1.stands) in
    more_cut p last item items cut e calm late go

pub cut_so : (p : State) (items : List Item) → p.event ≡ Told Card → is_calm p.recovery ≡ true → StaysSo p (Cut ∷ items) → StaysSo (unsaid p) (Cut ∷ items)
cut_so p items e calm so = (refl, rw (out_cut p e calm) so.1)

pub so_cut : (p : State) (item : Item) (items : List Item) → item ≡ Cut → p.event ≡ Told Card → is_calm p.recovery ≡ true → StaysSo p (item ∷ items) → StaysSo (unsaid p) (item ∷ items)
so_cut p item items at e calm so = rw at (cut_so p items e calm (rw at at so))

so_out : (p last : State) (items : List Item) → p.event ≡ Told Card → is_calm p.recovery ≡ true → More p items last → StaysSo p items → StaysSo (unsaid p) items
so_out p last [] e calm go so = tt
so_out p last (item ∷ items) e calm go so = so_cut p item items (cut_is item (stands_cut p item p.owed refl e go.0 go.1.stands)) e calm so

-- what is known where the card's event is the last letter's, and a phase is under way
pub record IsLast (b : State) (n id count : ℕ) (kept : Bool) : Type 0 where
  pub owed : b.owed ≡ Nothing
  pub event : b.event ≡ Told Card
  pub letters : letters_left b ≡ false
  pub work : has_work b ≡ false
  pub some : to_do b ≡ true
  pub late : is_due b ≡ false
  pub fits : Fits b (Phase n id count kept)
  pub uncut : is_cut_by b ≡ false

ended_card : (b : State) → b.event ≡ Told Card → ended b ≡ unsaid b
unfolding ended
ended_card b e = ap (ended_by b) e

end_card : (b : State) → b.event ≡ Told Card → end_rule b ≡ None
unfolding end_rule
end_card b e = ap (rule_of_end b) e

pub rested_card : (b : State) → b.event ≡ Told Card → b.owed ≡ Nothing → rested b ≡ unsaid b
rested_card b e owed = ap {A = State} (λ x. record x { owed = Nothing }) (ended_card b e) ∙ ap (λ o. record b { event = Untold; owed = o }) (sym owed)

own_next : (nothing next : Bool) → nothing ≡ true → next ≡ true → not (not nothing || (true && not next)) ≡ true
own_next true true a b = refl
own_next false next a b = absurd (cc)
own_next true false a b = absurd (cc)

card_starts : (b : State) (n id count : ℕ) (kept : Bool) → IsLast b n id count kept → starts b (Phase n id count kept) ≡ true
unfolding starts
card_starts b n id count kept x =
    let item = Phase n id count kept in
    and_from (is_free b.owed) (starts_at b b.event item) (ap is_free x.owed)
    (ap (λ event. starts_at b event item) x.event ∙ own_next (is_nothing b.owed) (not (letters_left b || has_work b)) (ap is_nothing x.owed) (ap not (or_from (letters_left b) (has_work b) x.letters x.work)))

pub work_event : (b : State) (event : Event) → has_work (record b { event = event }) ≡ has_work b
unfolding has_work next_issue
work_event b event = refl

card_forced : (b : State) (n id count : ℕ) (kept : Bool) → IsLast b n id count kept → forced (unsaid b) (Phase n id count kept) ≡ unsaid b
card_forced b n id count kept x =
    let y = unsaid b in
    let same = calm_steps y (calm_work b x.work) in
    phase_forced y n id count kept x.letters (due_event b Untold ∙ x.late) (ap is_cut_by same ∙ (cut_by_event b Untold ∙ x.uncut)) (ap is_due same ∙ (due_event b Untold ∙ x.late)) ∙ same

pub card_first : (b : State) (n id count : ℕ) (kept : Bool) → IsLast b n id count kept → First b (unsaid b) (Phase n id count kept)
card_first b n id count kept x =
    let y = unsaid b in
    let item = Phase n id count kept in
    enters_first b y y item (card_starts b n id count kept x) (end_card b x.event) (record {
      entered = ap (λ z. forced z item) (behind_rested b item refl (ap is_free x.owed) ∙ rested_card b x.event x.owed) ∙ card_forced b n id count kept x;
      order = start_none y item (is_due (ended b)) (engine_next y item x.letters (work_event b Untold ∙ x.work) refl) (ap is_due (ended_card b x.event) ∙ (due_event b Untold ∙ x.late));
      line = phase_line b Untold n id count kept ∙ x.fits.line;
      event = event_none y item refl refl (uncut_yields y n id count kept (cut_by_event b Untold ∙ x.uncut)) refl;
      effect = refl;
    })

pub number_of : (b : State) (n id count : ℕ) (kept : Bool) → holds b (Phase n id count kept) ≡ true → n ≡ next_number b
unfolding holds phase_holds
number_of b n id count kept is = eqb-true n (next_number b) (and_parts (n == next_number b) (is_phase_of b id count kept (due b)) is).0

pub busy_of : (b : State) (n id count : ℕ) (kept : Bool) → IsLast b n id count kept → b.busy ≡ true
busy_of b n id count kept x =
    (and_parts true b.busy (sym (ap (λ o. cond (is_nothing o) (true && b.busy) false) x.owed) ∙ (sym (ap (λ event. stands_in b event (Phase n id count kept)) x.event) ∙ x.fits.stands))).1

card_lasts : (b t : State) (n id count : ℕ) (kept : Bool) (items : List Item) → IsLast b n id count kept → Lasts b (Phase n id count kept) items t → StaysSo b (Phase n id count kept ∷ items) → 1 ≤ b.plan.depth
    → Closes b t (Phase n id count kept ∷ items)
card_lasts b t n id count kept items x lasts so depth =
    let item = Phase n id count kept in
    let p = effect b item in
    let left = behind b n id count kept in
    let e = left.event ∙ ap event_with x.event in
    let calm = ap is_calm left.recovery ∙ calm_work b x.work in
    let number = number_of b n id count kept (holds_unbroken b item None (ap (λ rule. earlier rule None) x.fits.line)) in
    let late = late_behind b p n left x.some x.late (busy_of b n id count kept x) number in
    let go = lasts.begins.more in
    let same = more_plan p lasts.last items go ∙ (effect_keeps b item).plan in
    let first = card_first b n id count kept x in
    let over = is_untold_event lasts.last.event lasts.event in
    record {
      takes = record {
        after = lasts.last;
        stands = after_by lasts.last t lasts.last.owed refl lasts.over over lasts.state (rw (ap (λ plan. plan.depth) same) depth);
        taken = λ more.
            one_taken b first.at item first.settled first.order first.line first.event (items ++ more)
            ∙ (ap (accept_from (items ++ more)) (first.effect ∙ effect_out b n id count kept x.event)
            ∙ more_taken (unsaid p) lasts.last items (more_out p lasts.last items e calm late go lasts.event) (so_out p lasts.last items e calm go so.1) more);
      };
      event = over;
    }

pub late_of : (b : State) → is_due b ≡ false ⊎ (b.event ≡ Untold) → b.event ≡ Told Card → is_due b ≡ false
late_of b (inl late) e = late
late_of b (inr untold) e = absurd (cc)

card_phase : (b t : State) (n id count : ℕ) (kept : Bool) (items : List Item) → not (letters_left b || has_work b) ≡ true → to_do b ≡ true → IsBegun b Card → Lasts b (Phase n id count kept) items t
    → Yields b (Phase n id count kept ∷ items) → StaysSo b (Phase n id count kept ∷ items) → 1 ≤ b.plan.depth → Closes b t (Phase n id count kept ∷ items)
card_phase b t n id count kept items none some begins lasts yields so depth =
    let e = untold_told b (Told Card) begins.event lasts.begins.told in
    let parts = or_parts (letters_left b) (has_work b) (not_true (letters_left b || has_work b) none) in
    card_lasts b t n id count kept items (record {
      owed = begins.owed;
      event = e;
      letters = parts.0;
      work = parts.1;
      some = some;
      late = late_of b begins.due e;
      fits = lasts.begins.first;
      uncut = phase_uncut b Card (Phase n id count kept) e yields;
    }) lasts so depth

-- the card's phase is the engine's in the acceptance
pub card_taken : (b t : State) (item : Item) (items : List Item) → is_of_next b Card item ≡ true → to_do b ≡ true → IsBegun b Card → Lasts b item items t → Yields b (item ∷ items) → StaysSo b (item ∷ items)
    → 1 ≤ b.plan.depth → Closes b t (item ∷ items)
card_taken b t (Phase n id count kept) items next some begins lasts yields so depth = card_phase b t n id count kept items next some begins lasts yields so depth
card_taken b t item items next some begins lasts yields so depth = absurd (cc)
