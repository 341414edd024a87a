-- The lines of the recovery's silent steps: the machine takes the same step.
use Rattle.std.proofs.Common.{◌≡◌, ◌∙◌, ap₂, ◌⊎◌, ◌+◌, ◌-◌, ℕ, inl, inr, get_or, arith, Bool, true, false, List, [], ◌∷◌, Option, None, Some, map, min, option_map, refl, ap, sym, subst, if◌then◌else◌}
use Rattle.std.proofs.lemmas.Bool.{false≢true}
use Rattle.storage_model.specs.declared.block.Block.{Block}
use Rattle.storage_model.specs.declared.faults.Letter.TheVariants.{Host as HostActs}
use Rattle.storage_machine.specs.Host.{is_silent, recovery_step}
use Rattle.storage_machine.specs.Slots.{no_tasks}
use Rattle.storage_machine.specs.declared.state.Event.TheVariants.{Untold}
use Rattle.storage_machine.specs.declared.state.Owed.TheVariants.{Nothing}
use Rattle.storage_machine.specs.declared.state.Stop.TheVariants as stop
use Rattle.storage_machine.specs.declared.state.Task.{Task}
use Rattle.storage_order.specs.Events.{Happens}
use Rattle.array_edge.specs.Array.{ArrayState}
use Rattle.bus_link.specs.Script.{Script}
use Rattle.card_core.specs.Card.{CardState}
use Rattle.cq_engine.specs.Outcome.{Holding}
use Rattle.cq_regs.specs.State.{Registers}
use Rattle.cq_regs.specs.declared.slots.Ringed.{Ringed}
use Rattle.cq_schedule.specs.Held.{slots}
use Rattle.cq_schedule.specs.Order.{order_of}
use Rattle.cut_order.specs.Order.{OrderState}
use Rattle.drv_core.specs.State.{is_recovering}
use Rattle.drv_core.specs.declared.act.Act.{Act}
use Rattle.drv_core.specs.declared.act.Act.TheVariants.{Step as Stepped}
use Rattle.drv_jobs.proofs.HolderLaws.{holder-none}
use Rattle.drv_jobs.specs.Changes.{faults_of, given_back}
use Rattle.drv_jobs.specs.Standings.{Standings, is_waiting}
use Rattle.drv_recover.specs.Recovery.{IsAt, IsOver, resumed}
use Rattle.drv_recover.specs.declared.recovery.RecoveryState.{RecoveryState}
use Rattle.drv_recover.specs.declared.recovery.RecoveryState.TheVariants as driver
use Rattle.drv_recover.specs.declared.recovery.Step.{Step}
use Rattle.drv_recover.specs.declared.recovery.Step.TheVariants.{Moved, Over}
use Rattle.host_mem.specs.Memory.{Memory}
use Rattle.host_laws.proofs.Begun.{begun_silent, rests_at}
use Rattle.host_laws.proofs.GivenBack.{WasHeld, given_back_at, over_at, waits_from}
use Rattle.host_laws.proofs.Held.{none_done}
use Rattle.host_laws.proofs.Paths.{path_at, path_is}
use Rattle.host_laws.proofs.Quiet.{agrees_quiet, none_spent, not_busy}
use Rattle.host_laws.proofs.Recovered.{at_place, none_cleared, none_rung, none_stopped}
use Rattle.host_laws.proofs.TiesKept.{IsSilentStep}
use Rattle.world_state.specs.Host.{host_lines}
use Rattle.world_state.specs.Path.{PathState, holder, job}
use Rattle.world_state.specs.Reading.{Context, blocks_held, data_by, data_of, recovery_of, standing_at, state_of, stop_by, stop_of, task_at, tasks_of}
use Rattle.world_state.specs.Stands.{Agrees, AreNamed, named_at, names, sent_of}
use Rattle.world_state.specs.Ties.{AreTied}
use Rattle.world_state.specs.Told.{Tells, Told}

-- between two events nothing is owed
pub owed_at : (p : PathState) (o : OrderState) (c : Context) → (state_of p o c).owed ≡ Nothing
unfolding state_of
owed_at p o c = refl

pub event_at : (p : PathState) (o : OrderState) (c : Context) → (state_of p o c).event ≡ Untold
unfolding state_of
event_at p o c = refl

pub recovery_at : (p : PathState) (o : OrderState) (c : Context) → (state_of p o c).recovery ≡ recovery_of p.driver.recovery
unfolding state_of
recovery_at p o c = refl

-- a path whose recovery is at a place
pub placed : (p : PathState) (state : RecoveryState) → p.driver.recovery ≡ state → p ≡ at_place p state p.regs
placed p state at = path_is p p.driver.requests state p.regs p.memory p.engine p.card p.script refl at refl refl refl refl refl

running_if : (recovering stopped : Bool) (s : _) → recovering ≡ true → (if recovering then stop.Running else if stopped then s else stop.Running) ≡ stop.Running
running_if true stopped s e = refl
running_if false stopped s e = absurd (false≢true e)

pub running : (p : PathState) → is_recovering p.driver.recovery ≡ true → stop_of p ≡ stop.Running
running p e = running_if (is_recovering p.driver.recovery) p.regs.stopped (stop_by p p.engine.cause) e

-- the counts of faults stay while no stop counts
pub named_at_place : (p : PathState) (state : RecoveryState) (regs : Registers) (card : CardState) (script : Script) (named : List ℕ) → is_recovering p.driver.recovery ≡ true
    → stop_of (path_at p.driver.requests state regs p.memory p.engine card script) ≡ stop.Running → AreNamed p named
    → AreNamed (path_at p.driver.requests state regs p.memory p.engine card script) named
named_at_place p state regs card script named e runs g = record {
  long = g.long;
  waiting = g.waiting;
  issued = λ tag id held.
      g.issued tag id held ∙ ap (λ s. min (faults_of p.driver.requests id + names s id) 4) (running p e ∙ sym runs);
}

-- the machine's step
cleared_state : (r : Standings) (g : Registers) (m : Memory) (e : Holding) (k : CardState) (s : Script) (o : OrderState) (c : Context) → g.stopped ≡ true
    → state_of (path_at r driver.Cleared (record g { ring = []; stopped = false }) m e k s) o c
    ≡ record (recovery_step (state_of (path_at r driver.Halted g m e k s) o c)) { event = Untold }
unfolding state_of recovery_step tasks_of data_of
cleared_state r g m e k s o c stopped =
    let p : PathState = path_at r driver.Halted g m e k s in
    let q : PathState = path_at r driver.Cleared (record g { ring = []; stopped = false }) m e k s in
    ap₂ (λ b n. record (state_of q o c) { busy = b; spent = n }) (sym (not_busy p (none_stopped p stopped))) (sym (none_spent p (none_stopped p stopped)))

cleaned_state : (r : Standings) (g : Registers) (m : Memory) (e : Holding) (k : CardState) (s : Script) (o : OrderState) (c : Context) → g.completed ≡ 0
    → state_of (path_at r driver.Cleaned (record g { interrupts = 0; completed = 0 }) m e k s) o c
    ≡ record (recovery_step (state_of (path_at r driver.Discarded g m e k s) o c)) { event = Untold }
unfolding state_of recovery_step tasks_of data_of
cleaned_state r g m e k s o c none =
    ap (λ n. state_of (path_at r driver.Cleaned (record g { interrupts = 0; completed = n }) m e k s) o c) (sym none)

resumed_state : (r : Standings) (g : Registers) (m : Memory) (e : Holding) (k : CardState) (s : Script) (o : OrderState) (c : Context)
    → state_of (path_at r driver.Resumed (resumed g) m e k s) o c
    ≡ record (recovery_step (state_of (path_at r driver.Cleaned g m e k s) o c)) { event = Untold }
unfolding state_of recovery_step tasks_of data_of
resumed_state r g m e k s o c = refl

-- no tag has a request
map_same : {A B : Type 0} (f g : A → B) (xs : List A) → ((x : A) → f x ≡ g x) → map f xs ≡ map g xs
map_same f g [] same = refl
map_same f g (x ∷ xs) same = rw (same x, map_same f g xs same) refl

abbrev no_task : Option Task
no_task = None

abbrev pub no_blocks : List Block
no_blocks = []

all_vacant : map (λ (tag : ℕ). no_task) slots ≡ no_tasks
unfolding slots no_tasks
all_vacant = refl

no_tasks_of : (p : PathState) → tasks_of (given_back_at p) ≡ no_tasks
unfolding tasks_of
no_tasks_of p =
    map_same (task_at (given_back_at p)) (λ (tag : ℕ). no_task) slots
    (λ tag. ap (λ found. option_map (λ id. record { id = id; standing = standing_at (given_back_at p) tag }) found) (holder-none tag)) ∙ all_vacant

no_data_at : (p : PathState) (tag : ℕ) (found : Option ℕ) → p.regs.completed ≡ 0 → data_by p tag found ≡ []
no_data_at p tag None none = refl
no_data_at p tag (Some id) none = ap (λ b. if b then blocks_held p tag (job p id) else []) (none_done p.regs.completed tag none)

pub no_data : (p : PathState) → p.regs.completed ≡ 0 → data_of p ≡ map (λ (tag : ℕ). no_blocks) slots
unfolding data_of
no_data p none = map_same (λ tag. data_by p tag (holder p tag)) (λ tag. no_blocks) slots (λ tag. no_data_at p tag (holder p tag) none)

back_state : (r : Standings) (g : Registers) (m : Memory) (e : Holding) (k : CardState) (s : Script) (o : OrderState) (c : Context) → IsOver g
    → state_of (path_at (given_back r) driver.Calm g m e k s) o c
    ≡ record (recovery_step (state_of (path_at r driver.Resumed g m e k s) o c)) { event = Untold }
unfolding state_of recovery_step
back_state r g m e k s o c over =
    let p : PathState = path_at r driver.Resumed g m e k s in
    let q : PathState = path_at (given_back r) driver.Calm g m e k s in
    ap (λ tasks. record (state_of q o c) { slots = tasks }) (no_tasks_of p)
    ∙ (ap (λ (ring : List Ringed). record (state_of q o c) { slots = no_tasks; order = order_of ring }) over.ring
    ∙ (ap (λ found. record (state_of q o c) { slots = no_tasks; order = []; «data» = found }) (no_data q over.completed ∙ sym (no_data p over.completed))
    ∙ ap (λ b. record (state_of q o c) { slots = no_tasks; order = []; «data» = data_of p; stop = if b then stop_by q e.cause else stop.Running }) over.running))

-- a silent step's event
silent_told : (p : PathState) (a : ArrayState) (p' : PathState) (a' : ArrayState) (act : Act) (o : OrderState) (c : Context) → is_silent (recovery_of p.driver.recovery) ≡ true
    → host_lines p p' act ≡ [] → state_of p' o c ≡ record (recovery_step (state_of p o c)) { event = Untold } → Agrees p' a' c
    → Told HostActs (state_of p o c) (host_lines p p' act) p' o a'
silent_told p a p' a' act o c silent none to g = record {
  context = c;
  agrees = g;
  happens = subst (λ items. Happens (state_of p o c) HostActs items (state_of p' o c)) (sym none)
      (rests_at (state_of p o c) (state_of p' o c) (owed_at p o c) (event_at p o c)
      (begun_silent (state_of p o c) (owed_at p o c) (ap is_silent (recovery_at p o c) ∙ silent) ∙ sym to) (event_at p' o c));
}

no_line : (p p' : PathState) (act : Act) (step : Step) → act ≡ Stepped step → host_lines p p' (Stepped step) ≡ [] → host_lines p p' act ≡ []
no_line p p' act step e none = ap (host_lines p p') e ∙ none

pub tells_halted : (p : PathState) (a : ArrayState) (p' : PathState) (a' : ArrayState) (act : Act) → AreTied p → AreTied p' → p.driver.recovery ≡ driver.Halted
    → IsSilentStep p a p' a' act Moved (at_place p driver.Cleared (record p.regs { ring = []; stopped = false })) → Tells HostActs p a (host_lines p p' act) p' a'
tells_halted p a p' a' act t t' at step o c g =
    let q = at_place p driver.Cleared (record p.regs { ring = []; stopped = false }) in
    let none = none_stopped p (t.halts at) in
    let busy : is_recovering p.driver.recovery ≡ true = ap is_recovering at in
    silent_told p a p' a' act o c (ap (λ r. is_silent (recovery_of r)) at) (no_line p p' act Moved step.told refl)
    (ap (λ x. state_of x o c) step.path
    ∙ (cleared_state p.driver.requests p.regs p.memory p.engine p.card p.script o c (t.halts at)
    ∙ ap (λ x. record (recovery_step (state_of x o c)) { event = Untold }) (sym (placed p driver.Halted at))))
    (subst (λ (x : ArrayState). Agrees p' x c) (sym step.array)
    (subst (λ (x : PathState). Agrees x a c) (sym step.path)
    (agrees_quiet p q a c c.n c.named g none (subst AreTied step.path t') refl refl refl (g.number ∙ ap (λ b. sent_of b c.n) (not_busy p none))
    (named_at_place p driver.Cleared (record p.regs { ring = []; stopped = false }) p.card p.script c.named busy refl g.named))))

pub tells_discarded : (p : PathState) (a : ArrayState) (p' : PathState) (a' : ArrayState) (act : Act) → AreTied p → AreTied p' → p.driver.recovery ≡ driver.Discarded
    → IsSilentStep p a p' a' act Moved (at_place p driver.Cleaned (record p.regs { interrupts = 0; completed = 0 })) → Tells HostActs p a (host_lines p p' act) p' a'
tells_discarded p a p' a' act t t' at step o c g =
    let q = at_place p driver.Cleaned (record p.regs { interrupts = 0; completed = 0 }) in
    let busy : is_recovering p.driver.recovery ≡ true = ap is_recovering at in
    let none = none_cleared p (subst (λ (s : RecoveryState). IsAt s p.regs) at t.recovery_at) in
    silent_told p a p' a' act o c (ap (λ r. is_silent (recovery_of r)) at) (no_line p p' act Moved step.told refl)
    (ap (λ x. state_of x o c) step.path
    ∙ (cleaned_state p.driver.requests p.regs p.memory p.engine p.card p.script o c (t.held busy)
    ∙ ap (λ x. record (recovery_step (state_of x o c)) { event = Untold }) (sym (placed p driver.Discarded at))))
    (subst (λ (x : ArrayState). Agrees p' x c) (sym step.array)
    (subst (λ (x : PathState). Agrees x a c) (sym step.path)
    (agrees_quiet p q a c c.n c.named g none (subst AreTied step.path t') none refl refl (g.number ∙ ap (λ b. sent_of b c.n) (not_busy p none))
    (named_at_place p driver.Cleaned (record p.regs { interrupts = 0; completed = 0 }) p.card p.script c.named busy refl g.named))))

pub tells_cleaned : (p : PathState) (a : ArrayState) (p' : PathState) (a' : ArrayState) (act : Act) → AreTied p → AreTied p' → p.driver.recovery ≡ driver.Cleaned
    → IsSilentStep p a p' a' act Moved (at_place p driver.Resumed (resumed p.regs)) → Tells HostActs p a (host_lines p p' act) p' a'
tells_cleaned p a p' a' act t t' at step o c g =
    let q = at_place p driver.Resumed (resumed p.regs) in
    let busy : is_recovering p.driver.recovery ≡ true = ap is_recovering at in
    let none = none_cleared p (subst (λ (s : RecoveryState). IsAt s p.regs) at t.recovery_at).cleared in
    silent_told p a p' a' act o c (ap (λ r. is_silent (recovery_of r)) at) (no_line p p' act Moved step.told refl)
    (ap (λ x. state_of x o c) step.path
    ∙ (resumed_state p.driver.requests p.regs p.memory p.engine p.card p.script o c
    ∙ ap (λ x. record (recovery_step (state_of x o c)) { event = Untold }) (sym (placed p driver.Cleaned at))))
    (subst (λ (x : ArrayState). Agrees p' x c) (sym step.array)
    (subst (λ (x : PathState). Agrees x a c) (sym step.path)
    (agrees_quiet p q a c c.n c.named g none (subst AreTied step.path t') none refl refl (g.number ∙ ap (λ b. sent_of b c.n) (not_busy p none))
    (named_at_place p driver.Resumed (resumed p.regs) p.card p.script c.named busy refl g.named))))

-- what waits again was named as often
named_again : (p : PathState) (named : List ℕ) (id : ℕ) → is_recovering p.driver.recovery ≡ true → AreNamed p named
    → (is_waiting p.driver.requests.waiting id ≡ true) ⊎ WasHeld p.driver.requests.holders (id - 1) → named_at named id ≡ min (faults_of p.driver.requests id) 4
named_again p named id e g (inl waits) = g.waiting id waits
named_again p named id e g (inr h) =
    let was = g.issued h.tag h.id h.held ∙ ap (λ s. min (faults_of p.driver.requests h.id + names s h.id) 4) (running p e) in
    let more : faults_of p.driver.requests h.id + 0 ≡ faults_of p.driver.requests h.id = omega arith in
    subst (λ n. get_or named n 0 ≡ min (get_or p.driver.requests.faults n 0) 4) h.at (was ∙ ap (λ n. min n 4) more)

named_back : (p : PathState) (named : List ℕ) → is_recovering p.driver.recovery ≡ true → AreNamed p named → AreNamed (given_back_at p) named
named_back p named e g = record {
  long = g.long;
  waiting = λ id waits. named_again p named id e g (waits_from p.driver.requests.waiting p.driver.requests.holders (id - 1) waits);
  issued = λ tag id held. absurd (cc (holder-none tag, held));
}

pub tells_resumed : (p : PathState) (a : ArrayState) (p' : PathState) (a' : ArrayState) (act : Act) → AreTied p → AreTied p' → p.driver.recovery ≡ driver.Resumed
    → IsSilentStep p a p' a' act Over (given_back_at p) → Tells HostActs p a (host_lines p p' act) p' a'
tells_resumed p a p' a' act t t' at step o c g =
    let over = over_at p t at in
    let busy : is_recovering p.driver.recovery ≡ true = ap is_recovering at in
    let none = none_rung p over.ring over.running in
    silent_told p a p' a' act o c (ap (λ r. is_silent (recovery_of r)) at) (no_line p p' act Over step.told refl)
    (ap (λ x. state_of x o c) step.path
    ∙ (back_state p.driver.requests p.regs p.memory p.engine p.card p.script o c over
    ∙ ap (λ x. record (recovery_step (state_of x o c)) { event = Untold }) (sym (placed p driver.Resumed at))))
    (subst (λ (x : ArrayState). Agrees p' x c) (sym step.array)
    (subst (λ (x : PathState). Agrees x a c) (sym step.path)
    (agrees_quiet p (given_back_at p) a c c.n c.named g none (subst AreTied step.path t') none refl refl (g.number ∙ ap (λ b. sent_of b c.n) (not_busy p none))
    (named_back p c.named busy g.named))))
