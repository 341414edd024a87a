-- At most one thing is due.
use Rattle.std.proofs.Common.{◌≡◌, ℕ, refl, sym, ap, ◌∙◌, ⊎_elim, arith}
use Rattle.std.specs.Prelude.{Option, Some, None, slice_get}
use Rattle.std.specs.Option.{option_map_or, MatchOption}
use Rattle.std.proofs.lemmas.Bool.{cases_lt}
use Rattle.std.proofs.lemmas.Option.{same_Some}
use Rattle.host_mem.specs.Memory.{Memory}
use Rattle.cq_regs.specs.State.{Registers}
use Rattle.cq_schedule.specs.declared.rules.Due.{Due}
use Rattle.cq_schedule.specs.declared.rules.Due.TheVariants.{Serve}
use Rattle.cq_schedule.specs.Held.{Places}
use Rattle.cq_schedule.specs.Order.{order_of}
use Rattle.cq_schedule.specs.Meaning.{after_serving, before_serving, IsDue, IsDueThen, IsFirstServed, IsNextServed}

same_place : (regs : Registers) (j k a b : ℕ) → j ≡ k → slice_get (order_of regs.ring) j ≡ Some a → slice_get (order_of regs.ring) k ≡ Some b → a ≡ b
same_place regs j k a b e at here = same_Some a b (sym at ∙ ap (λ n. slice_get (order_of regs.ring) n) e ∙ here)

one_first : (held : Places) (regs : Registers) (memory : Memory) (a b : ℕ) → IsFirstServed held regs memory a → IsFirstServed held regs memory b → a ≡ b
one_first held regs memory a b p q =
    ⊎_elim (λ before. absurd (q.first p.place a before p.serves))
    (λ from.
    ⊎_elim (λ behind. absurd (p.first q.place b behind q.serves))
    (λ to. same_place regs p.place q.place a b (omega arith) p.serves.is_at q.serves.is_at)
    (cases_lt q.place p.place))
    (cases_lt p.place q.place)

pub one_served : (held : Places) (regs : Registers) (memory : Memory) (a b : Option ℕ) → IsNextServed held regs memory a → IsNextServed held regs memory b
    → a ≡ b
one_served held regs memory (Some a) (Some b) p q = ap (λ n. Some n) (one_first held regs memory a b p q)
one_served held regs memory (Some a) None p q = absurd (q p.place a p.serves)
one_served held regs memory None (Some b) p q = absurd (p q.place b q.serves)
one_served held regs memory None None p q = refl

then_one : (held : Places) (regs : Registers) (memory : Memory) (a b : Due) → IsDueThen held regs memory a → IsDueThen held regs memory b → a ≡ b
then_one held regs memory a b p q =
    p.is ∙ ap (λ served. option_map_or Serve served (after_serving held regs)) (one_served held regs memory p.served q.served p.next q.next) ∙ sym q.is

by_first : (held : Places) (regs : Registers) (memory : Memory) (a b : Due) (first : Option Due)
    → MatchOption first (IsDueThen held regs memory a) (λ due. a ≡ due) → MatchOption first (IsDueThen held regs memory b) (λ due. b ≡ due) → a ≡ b
by_first held regs memory a b None p q = then_one held regs memory a b p q
by_first held regs memory a b (Some due) p q = p ∙ sym q

pub one_due : (held : Places) (regs : Registers) (memory : Memory) (a b : Due) → IsDue held regs memory a → IsDue held regs memory b → a ≡ b
one_due held regs memory a b p q = by_first held regs memory a b (before_serving held regs) p q
