-- Lines that change neither contents nor marks, and lines one after the other.
use Rattle.std.proofs.Common.{◌≡◌, ◌∙◌, ℕ, Bool, true, false, cond, List, [], ◌∷◌, ◌++◌, Option, None, Some, refl, ap, sym, subst}
use Rattle.std.specs.Prelude.{◌&&◌, ◌||◌, ◌+◌, length, nat_lt, if◌then◌else◌, slice_set}
use Rattle.std.proofs.lemmas.Bool.{and_parts}
use Rattle.storage_model.specs.declared.trace.Item.{Item}
use Rattle.storage_model.specs.declared.trace.Item.TheVariants.{Card, Issue, Params, Address, Poll, Phase, Discard, Bus, Flash, Recover, Irq, Done, Read, Sector, Status, Fault, Refused, Cut, Lost, On, Left, Turn, Off}
use Rattle.storage_model.specs.declared.block.Block.{Block}
use Rattle.storage_model.specs.declared.marks.Mark.{Mark}
use Rattle.storage_model.specs.declared.plan.Plan.{Plan}
use Rattle.storage_machine.specs.Jobs.{is_in_range, job_of}
use Rattle.storage_machine.specs.declared.state.Owed.{Owed}
use Rattle.storage_machine.specs.declared.state.Owed.TheVariants.{Card as CardOwed, Nothing, Closed, Bus as BusOwed, Flash as FlashOwed, Answers, Sectors, Recover as RecoverOwed, Dark, Left as LeftOwed, End as Ended}
use Rattle.storage_machine.specs.declared.state.State.{State}
use Rattle.storage_order.specs.Events.{More}
use Rattle.trace_effects.specs.Effects.{addressed, after_address, after_answer, after_bus, after_discard, after_fault, after_flash, after_irq, after_issue, after_params, after_poll, after_read, after_recover, after_sector, answers_left, effect, over, shown_on}
use Rattle.trace_rules.specs.Lines.{data_on}

-- no phase, and none of the lines around a loss of power
abbrev pub is_still : Item → Bool
is_still (Card sectors depth lines) = false
is_still (Turn letter) = false
is_still (Issue id tag) = true
is_still (Params n id) = true
is_still (Address n id) = true
is_still (Poll n mask) = true
is_still (Phase n id count kept) = false
is_still (Bus n kind id) = true
is_still (Flash id) = true
is_still (Irq mask) = true
is_still (Done id) = true
is_still (Read id) = true
is_still (Sector value) = true
is_still (Status id word) = true
is_still Recover = true
is_still (Discard n) = true
is_still (Fault id why) = true
is_still (Refused id why) = true
is_still Cut = false
is_still (Lost id) = false
is_still On = false
is_still (Left sector value) = false
is_still (Off end) = false

abbrev pub all_still : List Item → Bool
all_still [] = true
all_still (item ∷ items) = is_still item && all_still items

-- contents and marks are as they were, and so is whether a phase is under way
pub record IsSame (s t : State) : Type 0 where
  pub base : t.base ≡ s.base
  pub pend : t.pend ≡ s.pend
  pub plan : t.plan ≡ s.plan
  pub busy : t.busy ≡ s.busy

pub same_self : (s : State) → IsSame s s
same_self s = record { base = refl; pend = refl; plan = refl; busy = refl }

pub same_then : (s t u : State) → IsSame s t → IsSame t u → IsSame s u
same_then s t u first rest = record {
  base = rest.base ∙ first.base;
  pend = rest.pend ∙ first.pend;
  plan = rest.plan ∙ first.plan;
  busy = rest.busy ∙ first.busy;
}

shown_if : (s : State) (tag k : ℕ) (more : Bool) → IsSame s (if more then over s (Sectors tag (k + 1)) else over (record s { «data» = slice_set s.data tag [] }) (answers_left s.slots))
shown_if s tag k true = record { base = refl; pend = refl; plan = refl; busy = refl }
shown_if s tag k false = record { base = refl; pend = refl; plan = refl; busy = refl }

shown_same : (s : State) (owed : Owed) → IsSame s (shown_on s owed)
shown_same s CardOwed = same_self s
shown_same s Nothing = same_self s
shown_same s Closed = same_self s
shown_same s (BusOwed n id kind) = same_self s
shown_same s (FlashOwed id) = same_self s
shown_same s Answers = same_self s
shown_same s (Sectors tag k) = shown_if s tag k (nat_lt (k + 1) (length (data_on s tag)))
shown_same s RecoverOwed = same_self s
shown_same s (Dark cuts) = same_self s
shown_same s (LeftOwed from) = same_self s
shown_same s Ended = same_self s

addressed_if : (s : State) (n id : ℕ) (inside : Bool) → IsSame s (over (addressed (record s { n = n }) id inside) Nothing)
addressed_if s n id true = record { base = refl; pend = refl; plan = refl; busy = refl }
addressed_if s n id false = record { base = refl; pend = refl; plan = refl; busy = refl }

pub still_same : (s : State) (item : Item) → is_still item ≡ true → IsSame s (effect s item)
unfolding effect after_issue after_params after_address after_poll after_bus after_flash after_irq after_answer after_read after_sector after_recover after_discard after_fault
still_same s (Card sectors depth lines) h = absurd (cc (h))
still_same s (Turn letter) h = absurd (cc (h))
still_same s (Issue id tag) h = record { base = refl; pend = refl; plan = refl; busy = refl }
still_same s (Params n id) h = record { base = refl; pend = refl; plan = refl; busy = refl }
still_same s (Address n id) h = addressed_if s n id (is_in_range (job_of s.plan.jobs id) (length s.base))
still_same s (Poll n mask) h = record { base = refl; pend = refl; plan = refl; busy = refl }
still_same s (Phase n id count kept) h = absurd (cc (h))
still_same s (Bus n kind id) h = record { base = refl; pend = refl; plan = refl; busy = refl }
still_same s (Flash id) h = record { base = refl; pend = refl; plan = refl; busy = refl }
still_same s (Irq mask) h = record { base = refl; pend = refl; plan = refl; busy = refl }
still_same s (Done id) h = record { base = refl; pend = refl; plan = refl; busy = refl }
still_same s (Read id) h = record { base = refl; pend = refl; plan = refl; busy = refl }
still_same s (Sector value) h = shown_same s s.owed
still_same s (Status id word) h = record { base = refl; pend = refl; plan = refl; busy = refl }
still_same s Recover h = record { base = refl; pend = refl; plan = refl; busy = refl }
still_same s (Discard n) h = record { base = refl; pend = refl; plan = refl; busy = refl }
still_same s (Fault id why) h = record { base = refl; pend = refl; plan = refl; busy = refl }
still_same s (Refused id why) h = record { base = refl; pend = refl; plan = refl; busy = refl }
still_same s Cut h = absurd (cc (h))
still_same s (Lost id) h = absurd (cc (h))
still_same s On h = absurd (cc (h))
still_same s (Left sector value) h = absurd (cc (h))
still_same s (Off end) h = absurd (cc (h))

pub more_still : (s t : State) (items : List Item) → all_still items ≡ true → More s items t → IsSame s t
more_still s t [] h more = subst (λ x. IsSame s x) (sym more) (same_self s)
more_still s t (item ∷ items) h more =
    let parts = and_parts (is_still item) (all_still items) h in
    same_then s (effect s item) t (still_same s item parts.0) (more_still (effect s item) t items parts.1 more.2)

-- the lines at the begin are still too
pub still_front : (xs ys : List Item) → all_still (xs ++ ys) ≡ true → all_still xs ≡ true
still_front [] ys h = refl
still_front (x ∷ xs) ys h =
    let parts = and_parts (is_still x) (all_still (xs ++ ys)) h in
    ap (λ b. b && all_still xs) parts.0 ∙ still_front xs ys parts.1

pub still_both : (xs ys : List Item) → all_still xs ≡ true → all_still ys ≡ true → all_still (xs ++ ys) ≡ true
still_both [] ys h i = i
still_both (x ∷ xs) ys h i =
    let parts = and_parts (is_still x) (all_still xs) h in
    ap (λ b. b && all_still (xs ++ ys)) parts.0 ∙ still_both xs ys parts.1 i

-- lines lead to one state, and those behind the first of them lead on from there
pub more_one : (s t u : State) (items : List Item) → More s items t → More s items u → t ≡ u
more_one s t u [] one other = one ∙ sym other
more_one s t u (item ∷ items) one other = more_one (effect s item) t u items one.2 other.2

pub more_behind : (s t u : State) (xs ys : List Item) → More s xs t → More s (xs ++ ys) u → More t ys u
more_behind s t u [] ys first all = subst (λ x. More x ys u) (sym first) all
more_behind s t u (x ∷ xs) ys first all = more_behind (effect s x) t u xs ys first.2 all.2
