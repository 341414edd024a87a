-- Which slot is served next: the first rung slot decides.
use Rattle.std.proofs.Common.{◌≡◌, ◌≢◌, ℕ, ◌+◌, ◌<◌, ◌≤◌, true, false, List, sym, ap, ◌∙◌, subst, inl, inr, ⊎_elim, arith}
use Rattle.std.specs.Prelude.{Some, None, slice_get}
use Rattle.std.proofs.lemmas.Bool.{cases_lt, false≢true}
use Rattle.std.proofs.lemmas.Option.{none-some, same_Some, slice_get_past, slice_get_cases}
use Rattle.host_mem.specs.Memory.{Memory}
use Rattle.cq_regs.specs.declared.slots.Progress.TheVariants.{Rung}
use Rattle.cq_regs.specs.State.{Registers}
use Rattle.cq_regs.specs.Slots.{progress_of}
use Rattle.cq_task.specs.Meaning.{HasBarrier}
use Rattle.cq_schedule.specs.Held.{Places}
use Rattle.cq_schedule.specs.Order.{order_of, has_flag}
use Rattle.cq_schedule.specs.Meaning.{list_of, IsAt, Bars, HasBarBefore, IsHeldBack, CanServe, NoneServedBefore, IsNextServed}

-- each slot that was rung before the k-th is served already, with no queue barrier
pub record AreServed (held : Places) (regs : Registers) (k : ℕ) : Type 0 where
  pub started : (j slot : ℕ) → j < k → IsAt regs j slot → progress_of regs.ring slot ≢ Rung
  pub clear : (j slot : ℕ) → j < k → IsAt regs j slot → has_flag held slot ≡ false

pub served_none : (held : Places) (regs : Registers) → AreServed held regs 0
served_none held regs = record { started = λ j slot below at. absurd (omega arith); clear = λ j slot below at. absurd (omega arith) }

same_at : (regs : Registers) (j k slot other : ℕ) → j ≡ k → IsAt regs j other → IsAt regs k slot → slot ≡ other
same_at regs j k slot other e at here = same_Some slot other (sym here ∙ sym (ap (λ n. slice_get (order_of regs.ring) n) e) ∙ at)

pub served_more : (held : Places) (regs : Registers) (k slot : ℕ) → AreServed held regs k → IsAt regs k slot
    → progress_of regs.ring slot ≢ Rung → has_flag held slot ≡ false → AreServed held regs (k + 1)
served_more held regs k slot h here apart clear = record {
  started = λ j other below at.
      ⊎_elim (λ near. h.started j other near at)
      (λ far. subst (λ s. progress_of regs.ring s ≢ Rung) (same_at regs j k slot other (omega arith) at here) apart)
      (cases_lt j k);
  clear = λ j other below at.
      ⊎_elim (λ near. h.clear j other near at)
      (λ far. subst (λ s. has_flag held s ≡ false) (same_at regs j k slot other (omega arith) at here) clear)
      (cases_lt j k);
}

none_before : (held : Places) (regs : Registers) (memory : Memory) (k : ℕ) → AreServed held regs k → NoneServedBefore held regs memory k
none_before held regs memory k h j slot below can = h.started j slot below can.is_at can.is_rung

-- behind the last slot
pub none_at_end : (held : Places) (regs : Registers) (memory : Memory) (k : ℕ) → AreServed held regs k → slice_get (order_of regs.ring) k ≡ None
    → IsNextServed held regs memory None
none_at_end held regs memory k h past j slot can =
    ⊎_elim (λ near. none_before held regs memory k h j slot near can)
    (λ far. none-some slot (sym (beyond (order_of regs.ring) j k far past) ∙ can.is_at))
    (cases_lt j k)
  where
    beyond : (xs : List ℕ) (j k : ℕ) → k ≤ j → slice_get xs k ≡ None → slice_get xs j ≡ None
    beyond xs j k far past =
        ⊎_elim (λ here. absurd (none-some here.0 (sym past ∙ here.2)))
        (λ over. slice_get_past xs j (omega (arith, over.0)))
        (slice_get_cases xs k).1

-- at a slot with a queue barrier: it holds those that were rung later
none_behind : (held : Places) (regs : Registers) (memory : Memory) (k slot : ℕ) → AreServed held regs k → IsAt regs k slot
    → Bars held regs memory slot → ((other : ℕ) → slot ≡ other → ¬ CanServe held regs memory k other) → IsNextServed held regs memory None
none_behind held regs memory k slot h here bars none j other can =
    ⊎_elim (λ near. none_before held regs memory k h j other near can)
    (λ far. ⊎_elim (λ before. can.is_free (inr (record { place = k; slot = slot; before = before; is_at = here; bars = bars })))
    (λ within.
    let e : j ≡ k = omega arith in
    let same = same_at regs j k slot other e can.is_at here in
    none other same (subst (λ n. CanServe held regs memory n other) e can))
    (cases_lt k j))
    (cases_lt j k)

-- a slot that was served, with a queue barrier
pub none_behind_served : (held : Places) (regs : Registers) (memory : Memory) (k slot : ℕ) → AreServed held regs k → IsAt regs k slot
    → progress_of regs.ring slot ≢ Rung → has_flag held slot ≡ true → IsNextServed held regs memory None
none_behind_served held regs memory k slot h here apart flag =
    none_behind held regs memory k slot h here (inr (apart, flag))
    (λ other same can. subst (λ s. progress_of regs.ring s ≢ Rung) same apart can.is_rung)

-- a rung slot with a queue barrier, not the first
pub none_behind_rung : (held : Places) (regs : Registers) (memory : Memory) (k slot : ℕ) → AreServed held regs k → IsAt regs k slot
    → progress_of regs.ring slot ≡ Rung → 0 < k → HasBarrier memory (list_of regs) slot → IsNextServed held regs memory None
none_behind_rung held regs memory k slot h here rung behind bars =
    none_behind held regs memory k slot h here (inl (rung, bars))
    (λ other same can. subst (λ s. ¬ IsHeldBack held regs memory k s) (sym same) can.is_free (inl (behind, inl (rung, bars))))

bar_free : (held : Places) (regs : Registers) (memory : Memory) (k : ℕ) → AreServed held regs k → ¬ HasBarBefore held regs memory k
bar_free held regs memory k h b =
    ⊎_elim (λ rung. h.started b.place b.slot b.before b.is_at rung.0)
    (λ flagged. false≢true (sym (h.clear b.place b.slot b.before b.is_at) ∙ flagged.1))
    b.bars

-- the first rung slot, where it doesn't hold itself back
pub served_here : (held : Places) (regs : Registers) (memory : Memory) (k slot : ℕ) → AreServed held regs k → IsAt regs k slot
    → progress_of regs.ring slot ≡ Rung → ¬ ((0 < k) × HasBarrier memory (list_of regs) slot) → IsNextServed held regs memory (Some slot)
served_here held regs memory k slot h here rung free = record {
  place = k;
  serves = record {
    is_at = here;
    is_rung = rung;
    is_free = λ back.
        ⊎_elim
        (λ own. ⊎_elim (λ bar. free (own.0, bar.1)) (λ flagged. flagged.0 rung) own.1)
        (λ earlier. bar_free held regs memory k h earlier)
        back;
  };
  first = none_before held regs memory k h;
}
