-- Lists of the tags' tasks: the first that is asked for, whether there is one, and the tasks after those below a tag were answered.
use Rattle.std.proofs.Common.{◌≡◌, ◌≢◌, ◌+◌, ◌<◌, ◌≤◌, ◌==◌, ◌||◌, ℕ, zero, suc, Bool, true, false, Option, None, Some, map, option_map, position, nat_lt, refl, ap, subst, arith, add-zero, eq-eqb, lt-ltb, ltb-true, ltb-false, if◌then◌else◌}
use Rattle.std.proofs.lemmas.List.FromFn.{length-map-range_with_len}
use Rattle.std.specs.List.{list_any, position_or_len, range_with_len}
use Rattle.storage_machine.specs.Slots.{asks, asks_of, changed}
use Rattle.storage_machine.specs.declared.slots.Change.TheVariants.{Answer, Collect}
use Rattle.storage_machine.specs.declared.slots.Question.TheVariants.{Collected as IsCollected, Done as IsDone}
use Rattle.storage_machine.specs.declared.state.Standing.{Standing}
use Rattle.storage_machine.specs.declared.state.Standing.TheVariants.{Done, Collected}
use Rattle.storage_machine.specs.declared.state.Task.{Task}
use Rattle.cq_regs.specs.declared.slots.Progress.{Progress}
use Rattle.cq_regs.specs.declared.slots.Progress.TheVariants as progress
use Rattle.world_state.specs.Reading.{standing_of}

-- the first of a list
first_place : {A : Type 0} (p : A → Bool) (f : ℕ → A) (a n i : ℕ) → i < n → p (f (a + i)) ≡ true → ((k : ℕ) → k < i → p (f (a + k)) ≡ false)
    → position_or_len p (map f (range_with_len a n)) ≡ i
first_place p f a zero i low here before = absurd (omega (arith, low))
first_place p f a (suc n) zero low here before =
    let at : p (f a) ≡ true = subst (λ k. p (f k) ≡ true) (add-zero a) here in
    rw at refl
first_place p f a (suc n) (suc i) low here before =
    let first : p (f a) ≡ false = subst (λ k. p (f k) ≡ false) (add-zero a) (before 0 (omega arith)) in
    let shift : a + suc i ≡ a + 1 + i = omega arith in
    let rest = first_place p f (a + 1) n i (omega (arith, low)) (subst (λ k. p (f k) ≡ true) shift here)
    (λ k l. subst (λ m. p (f m) ≡ false) (let e : a + suc k ≡ a + 1 + k = omega arith in e) (before (suc k) (omega (arith, l)))) in
    rw first (omega (arith, rest))

pub first_of : {A : Type 0} (p : A → Bool) (f : ℕ → A) (n i : ℕ) → i < n → p (f i) ≡ true → ((k : ℕ) → k < i → p (f k) ≡ false)
    → position p (map f (range_with_len 0 n)) ≡ Some i
first_of p f n i low here before =
    let at : position_or_len p (map f (range_with_len 0 n)) ≡ i =
    first_place p f 0 n i low (subst (λ k. p (f k) ≡ true) (let e : i ≡ 0 + i = omega arith in e) here)
    (λ k l. subst (λ m. p (f m) ≡ false) (let e : k ≡ 0 + k = omega arith in e) (before k l)) in
    let long = length-map-range_with_len f 0 n in
    rw (at, long, lt-ltb i n low) refl

-- whether there is one
pub none_of : {A : Type 0} (p : A → Bool) (f : ℕ → A) (a n : ℕ) → ((k : ℕ) → a ≤ k → k < a + n → p (f k) ≡ false) → list_any p (map f (range_with_len a n)) ≡ false
none_of p f a zero none = refl
none_of p f a (suc n) none = rw (none a (omega arith) (omega arith)) (none_of p f (a + 1) n (λ k l h. none k (omega (arith, l)) (omega (arith, h))))

or_true : (b c : Bool) → c ≡ true → (b || c) ≡ true
or_true true c e = refl
or_true false c e = e

pub some_of : {A : Type 0} (p : A → Bool) (f : ℕ → A) (a n i : ℕ) → i < n → p (f (a + i)) ≡ true → list_any p (map f (range_with_len a n)) ≡ true
some_of p f a zero i low here = absurd (omega (arith, low))
some_of p f a (suc n) zero low here =
    let at : p (f a) ≡ true = subst (λ k. p (f k) ≡ true) (add-zero a) here in
    rw at refl
some_of p f a (suc n) (suc i) low here =
    let shift : a + suc i ≡ a + 1 + i = omega arith in
    or_true (p (f a)) (list_any p (map f (range_with_len (a + 1) n))) (some_of p f (a + 1) n i (omega (arith, low)) (subst (λ k. p (f k) ≡ true) shift here))

-- what is collected
abbrev pub task_with : ℕ → Standing → Task
task_with id s = record { id = id; standing = s }

pub collects_done : (tag id : ℕ) → changed Collect tag (Some (task_with id Done)) ≡ Some (task_with id Collected)
collects_done tag id = refl

not_done : (g : Progress) → asks_of IsDone (standing_of g) ≡ false
not_done progress.Idle = refl
not_done progress.Rung = refl
not_done progress.Named = refl
not_done progress.Sent = refl
not_done progress.Ready = refl
not_done progress.Active = refl

not_collected : (g : Progress) → asks_of IsCollected (standing_of g) ≡ false
not_collected progress.Idle = refl
not_collected progress.Rung = refl
not_collected progress.Named = refl
not_collected progress.Sent = refl
not_collected progress.Ready = refl
not_collected progress.Active = refl

pub leaves_other : (tag : ℕ) (found : Option ℕ) (g : Progress)
    → changed Collect tag (option_map (λ id. task_with id (standing_of g)) found) ≡ option_map (λ id. task_with id (standing_of g)) found
leaves_other tag None g = refl
leaves_other tag (Some id) g = ap (λ b. if b then Some (task_with id Collected) else Some (task_with id (standing_of g))) (not_done g)

pub none_collected : (found : Option ℕ) (g : Progress) → asks IsCollected (option_map (λ id. task_with id (standing_of g)) found) ≡ false
none_collected None g = refl
none_collected (Some id) g = not_collected g

-- an answer leaves every other task
pub answer_leaves : (id tag : ℕ) (task : Option Task) → ((t : Task) → task ≡ Some t → (t.id == id) ≡ false) → changed (Answer id) tag task ≡ task
answer_leaves id tag None other = refl
answer_leaves id tag (Some t) other = ap (λ b. if b then None else Some t) (other t refl)

pub answer_takes : (id tag : ℕ) (s : Standing) → changed (Answer id) tag (Some (task_with id s)) ≡ None
answer_takes id tag s = ap (λ b. if b then None else Some (task_with id s)) (eq-eqb id id refl)

-- tags below a bound
not_lower_by : (n m : ℕ) (b : Bool) → nat_lt n m ≡ b → m ≤ n → b ≡ false
not_lower_by n m true e high = let low = ltb-true n m e in absurd (omega (arith, low, high))
not_lower_by n m false e high = refl

pub not_lower : (n m : ℕ) → m ≤ n → nat_lt n m ≡ false
not_lower n m high = not_lower_by n m (nat_lt n m) refl high

below_by : (tag k : ℕ) (b : Bool) → nat_lt tag k ≡ b → tag ≢ k → nat_lt tag (suc k) ≡ b
below_by tag k true e apart = let low = ltb-true tag k e in lt-ltb tag (suc k) (omega (arith, low))
below_by tag k false e apart = let high = ltb-false tag k e in not_lower tag (suc k) (omega (arith, high, apart))

pub below_more : (tag k : ℕ) → tag ≢ k → nat_lt tag (suc k) ≡ nat_lt tag k
below_more tag k apart = below_by tag k (nat_lt tag k) refl apart

pub below_that : (k : ℕ) → nat_lt k (suc k) ≡ true
below_that k = lt-ltb k (suc k) (omega arith)

pub not_below : (k : ℕ) → nat_lt k k ≡ false
not_below k = not_lower k k (omega arith)
