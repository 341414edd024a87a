-- The lines that change contents do the same to control, whatever these are.
use Rattle.control_laws.proofs.Dues.{due_same, hit_same}
use Rattle.control_laws.proofs.Effects.{effect_passes}
use Rattle.control_laws.specs.Laws.{changes_contents}
use Rattle.control_laws.specs.Parts.{Contents, SameControl, SameOutline, contents_of, with_contents}
use Rattle.std.proofs.Common.{◌≡◌, ◌∙◌, ℕ, ◌+◌, Bool, true, false, cond, ◌&&◌, nat_lt, is_none, Option, Some, None, List, [], ◌∷◌, ◌++◌, length, slice_set, refl, ap, sym, subst}
use Rattle.storage_machine.specs.Commands.{due, hit}
use Rattle.storage_machine.specs.Cuts.{next_left}
use Rattle.storage_machine.specs.Jobs.{job_of}
use Rattle.storage_machine.specs.declared.state.Owed.{Owed}
use Rattle.storage_machine.specs.declared.state.Owed.TheVariants.{Sectors}
use Rattle.storage_machine.specs.declared.state.State.{State}
use Rattle.storage_model.specs.declared.block.Block.{Block}
use Rattle.storage_model.specs.declared.plan.Job.{Job}
use Rattle.storage_model.specs.declared.trace.End.{End}
use Rattle.storage_model.specs.declared.trace.End.TheVariants.{Good, Fault as FaultEnd, Dead, Image}
use Rattle.storage_model.specs.declared.trace.Item.{Item}
use Rattle.storage_model.specs.declared.trace.Item.TheVariants.{Phase, Sector, Lost, On, Left, Off}
use Rattle.trace_effects.specs.Cuts.{epochs_with}
use Rattle.trace_effects.specs.Effects.{after_left, after_lost, after_off, after_on, after_sector, answers_left, effect, left_from, left_mark, left_on, over, powered, shown_on}
use Rattle.trace_effects.specs.Phases.{after_blocks, after_done, after_keep, after_phase, closed_by, done_with, phase_by, read_sectors}
use Rattle.trace_rules.specs.Lines.{data_on}
use Rattle.trace_rules.specs.Phases.{is_whole, owed_by, tag_due}

same_of : (c : Contents) (s t : State) → t ≡ with_contents c s → SameControl s t
same_of c s t at = at ∙ ap (λ d. with_contents d s) (sym (ap contents_of at))

same_to : (s t u : State) → u ≡ t → SameControl s t → SameControl s u
same_to s t u at same = subst (λ x. SameControl s x) (sym at) same

-- a phase

blocks_control : (c : Contents) (s : State) (job : Job) (tag n id count : ℕ) (kept done : Bool) (owed : Owed)
    → SameControl (closed_by (done_with (after_blocks s job count kept) tag id job (read_sectors s job) done) n owed)
    (closed_by (done_with (after_blocks (with_contents c s) job count kept) tag id job (read_sectors (with_contents c s) job) done) n owed)
unfolding after_blocks after_keep after_done
blocks_control c s job tag n id count true true owed = refl
blocks_control c s job tag n id count true false owed = refl
blocks_control c s job tag n id count false true owed = refl
blocks_control c s job tag n id count false false owed = refl

phase_control : (c : Contents) (s : State) (n id count : ℕ) (kept : Bool) → SameControl (after_phase s n id count kept) (after_phase (with_contents c s) n id count kept)
unfolding after_phase
phase_control c s n id count kept =
    let job = job_of s.plan.jobs id in
    same_to (phase_by s job (tag_due (due s)) (hit s) n id count kept) (phase_by (with_contents c s) job (tag_due (due s)) (hit s) n id count kept) (after_phase (with_contents c s) n id count kept)
    (ap (λ command. phase_by (with_contents c s) job (tag_due command) (hit (with_contents c s)) n id count kept) (due_same c s)
    ∙ ap (λ kind. phase_by (with_contents c s) job (tag_due (due s)) kind n id count kept) (hit_same c s))
    (blocks_control c s job (tag_due (due s)) n id count kept (is_whole s.plan.through job count kept && is_none (hit s)) (owed_by (hit s) (is_whole s.plan.through job count kept) n id count))

-- the sectors of a read

abbrev sectors_with : State → ℕ → ℕ → Bool → State
sectors_with s tag k more = cond more (over s (Sectors tag (k + 1))) (over (record s { «data» = slice_set s.data tag [] }) (answers_left s.slots))

sectors_control : (c : Contents) (s : State) (tag k : ℕ) (more : Bool) → SameControl (sectors_with s tag k more) (sectors_with (with_contents c s) tag k more)
sectors_control c s tag k true = refl
sectors_control c s tag k false = refl

shown_control : (c : Contents) (s : State) (owed : Owed) → SameOutline c (contents_of s) → SameControl (shown_on s owed) (shown_on (with_contents c s) owed)
shown_control c s (Sectors tag k) outline =
    let more = nat_lt (k + 1) (length (data_on s tag)) in
    same_to (sectors_with s tag k more) (sectors_with (with_contents c s) tag k more) (shown_on (with_contents c s) (Sectors tag k))
    (ap (λ size. sectors_with (with_contents c s) tag k (nat_lt (k + 1) size)) (outline.shown tag)) (sectors_control c s tag k more)
shown_control c s owed outline = refl

-- what is left, and the end

from_control : (c : Contents) (s : State) (next : Option ℕ) → SameControl (left_from s next) (left_from (with_contents c s) next)
from_control c s None = refl
from_control c s (Some sector) = refl

on_control : (c : Contents) (s : State) → SameOutline c (contents_of s) → SameControl (after_on s) (after_on (with_contents c s))
unfolding after_on
on_control c s outline =
    let next = next_left s.pend 0 in
    same_to (left_from (powered s) next) (left_from (powered (with_contents c s)) next) (after_on (with_contents c s))
    (ap (λ first. left_from (powered (with_contents c s)) first) (outline.puts 0)) (from_control c (powered s) next)

abbrev left_with : State → List ℕ → ℕ → Block → Option ℕ → State
left_with s epochs sector value next = left_on (record s { epochs = epochs; lefts = s.lefts ++ left_mark sector value ∷ [] }) sector next

left_next : (c : Contents) (s : State) (epochs others : List ℕ) (sector : ℕ) (value : Block) (next : Option ℕ) → SameControl (left_with s epochs sector value next) (left_with (with_contents c s) others sector value next)
left_next c s epochs others sector value None = refl
left_next c s epochs others sector value (Some next) = refl

left_control : (c : Contents) (s : State) (sector : ℕ) (value : Block) → SameOutline c (contents_of s) → SameControl (after_left s sector value) (after_left (with_contents c s) sector value)
unfolding after_left
left_control c s sector value outline =
    let next = next_left s.pend (sector + 1) in
    let others = epochs_with (with_contents c s) sector value in
    same_to (left_with s (epochs_with s sector value) sector value next) (left_with (with_contents c s) others sector value next) (after_left (with_contents c s) sector value)
    (ap (λ further. left_with (with_contents c s) others sector value further) (outline.puts (sector + 1)))
    (left_next c s (epochs_with s sector value) others sector value next)

off_control : (c : Contents) (s : State) (end : End) → SameControl (after_off s end) (after_off (with_contents c s) end)
unfolding after_off after_keep
off_control c s Good = refl
off_control c s FaultEnd = refl
off_control c s Dead = refl
off_control c s Image = refl

lost_control : (c : Contents) (s : State) (id : ℕ) → SameControl (after_lost s id) (after_lost (with_contents c s) id)
unfolding after_lost
lost_control c s id = refl

sector_control : (c : Contents) (s : State) → SameOutline c (contents_of s) → SameControl (after_sector s) (after_sector (with_contents c s))
unfolding after_sector
sector_control c s outline = shown_control c s s.owed outline

-- each line

plain_control : (s : State) (c : Contents) (item : Item) → SameOutline c (contents_of s) → changes_contents item ≡ false → SameControl (effect s item) (effect (with_contents c s) item)
plain_control s c item outline off = same_of c (effect s item) (effect (with_contents c s) item) (effect_passes s c item outline off)

pub effect_control : (s : State) (c : Contents) (item : Item) → SameOutline c (contents_of s) → SameControl (effect s item) (effect (with_contents c s) item)
unfolding effect
effect_control s c (Phase n id count kept) outline = phase_control c s n id count kept
effect_control s c (Sector value) outline = sector_control c s outline
effect_control s c (Lost id) outline = lost_control c s id
effect_control s c On outline = on_control c s outline
effect_control s c (Left sector value) outline = left_control c s sector value outline
effect_control s c (Off end) outline = off_control c s end
effect_control s c item outline = plain_control s c item outline refl
