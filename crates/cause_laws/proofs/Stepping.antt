-- Each step that is the next one leaves less to do.
use Rattle.std.proofs.Common.{◌≡◌, ◌≢◌, ◌≤◌, ◌<◌, ◌+◌, ℕ, Bool, true, false, refl, sym, ◌∙◌, ap, subst, arith}
use Rattle.std.specs.Prelude.{Option, is_some}
use Rattle.storage_model.specs.declared.faults.Letter.{Letter}
use Rattle.storage_model.specs.declared.faults.Letter.TheVariants.{Host as HostActs, Engine as EngineActs, Card as CardActs, Cut as PowerActs}
use Rattle.array_edge.specs.Array.{ArrayState}
use Rattle.card_core.specs.declared.phase.Phase.{Phase}
use Rattle.cq_engine.specs.declared.did.Did.{Did}
use Rattle.cut_order.specs.Order.{OrderState}
use Rattle.drv_core.specs.Work.{has_work}
use Rattle.drv_core.specs.declared.act.Act.{Act}
use Rattle.fall_laws.specs.Falls.{AnewFalls, EngineFalls, EngineMost, IsAnew, IsEnding, OrderFalls}
use Rattle.host_falls.specs.HostFalls.{HostFalls, HostRests, IsReadOff}
use Rattle.world_state.specs.Engine.{EngineEvent, is_dark}
use Rattle.world_state.specs.Host.{HostEvent}
use Rattle.world_state.specs.Path.{PathState}
use Rattle.world_state.specs.Ties.{AreTied}
use Rattle.world_state.specs.Work.{answer_cost, issued, left_on_path, left_to_do}
use Rattle.world_steps.specs.World.{WorldState, chosen_of, is_to_do, order_behind}
use Rattle.cause_laws.specs.Falls.{DoStepsFall, LeavesLess, StepsFall, StopsByErrors}
use Rattle.cause_laws.proofs.Choosing.{Chosen, how_chosen, some_request}
use Rattle.cause_laws.proofs.Choosing.Chosen.{ByLine, ByLetter, ByWork, ByRest}

-- what events on the path leave
pub record PathFalls : Type 0 where
  pub host : HostFalls
  pub rests : HostRests
  pub read_off : IsReadOff
  pub engine : EngineFalls
  pub most : EngineMost
  pub anew : AnewFalls
  pub orders : OrderFalls

paid : (n n' : ℕ) → n' ≤ n → n' < n + answer_cost
paid n n' most = omega (arith, most)

-- by what is used
less_by : (w : WorldState) (actor : Letter) (p' : PathState) (o : OrderState) → order_behind w actor ≡ o → left_to_do p' o < left_to_do w.path w.order → LeavesLess w actor p'
less_by w actor p' o e less = let P : OrderState → Type 0 = λ o. left_to_do p' o < left_to_do w.path w.order in subst P (sym e) less

letter_less : (f : PathFalls) (w : WorldState) (actor : Letter) (p' : PathState) → Chosen w actor → actor ≢ PowerActs → left_on_path p' ≤ left_on_path w.path
    → (actor ≡ HostActs → has_work w.path.driver w.path.regs ≡ true → left_on_path p' < left_on_path w.path)
    → (actor ≡ EngineActs → has_work w.path.driver w.path.regs ≡ false → left_on_path p' < left_on_path w.path) → LeavesLess w actor p'
letter_less f w actor p' (ByLine is due order) lit most works rests = absurd (lit is)
letter_less f w actor p' (ByLetter more order) lit most works rests =
    less_by w actor p' _ order (f.orders.letter w.path p' w.order more (paid (left_on_path w.path) (left_on_path p') most))
letter_less f w actor p' (ByWork is work order) lit most works rests = less_by w actor p' w.order order (f.orders.same w.path p' w.order (works is work))
letter_less f w actor p' (ByRest is idle order) lit most works rests = less_by w actor p' w.order order (f.orders.same w.path p' w.order (rests is idle))

-- the host's event
less_most : (n n' : ℕ) → n' < n → n' ≤ n
less_most n n' less = omega (arith, less)

same_most : (n n' : ℕ) → n' ≡ n → n' ≤ n
same_most n n' same = omega (arith, same)

host_most : (f : PathFalls) (p : PathState) (a : ArrayState) (p' : PathState) (a' : ArrayState) (act : Act) (work : Bool) → has_work p.driver p.regs ≡ work
    → HostEvent p a p' a' act → AreTied p → AreTied p' → left_on_path p' ≤ left_on_path p
host_most f p a p' a' act true is e t t' = less_most (left_on_path p) (left_on_path p') (f.host p a p' a' act e t t' is)
host_most f p a p' a' act false is e t t' = same_most (left_on_path p) (left_on_path p') (f.rests p a p' a' act e is)

host_less : PathFalls → (w : WorldState) → AreTied w.path → (a : ArrayState) (p' : PathState) (a' : ArrayState) (act : Act) → HostEvent w.path a p' a' act → AreTied p'
    → HostActs ≡ chosen_of w → LeavesLess w HostActs p'
host_less f w t a p' a' act e t' is =
    letter_less f w HostActs p' (how_chosen w HostActs is) (λ e. cc e) (host_most f w.path a p' a' act (has_work w.path.driver w.path.regs) refl e t t')
    (λ is work. f.host w.path a p' a' act e t t' work) (λ is idle. absurd (cc is))

-- the engine's
engine_less : PathFalls → (w : WorldState) → AreTied w.path → is_to_do w.path ≡ true → StopsByErrors → (a : ArrayState) (p' : PathState) (a' : ArrayState) (did : Did)
    (phase : Option Phase) → EngineEvent w.path a p' a' did phase → AreTied p' → is_dark did ≡ false → EngineActs ≡ chosen_of w → LeavesLess w EngineActs p'
engine_less f w t some stops a p' a' did phase e t' lit is =
    let ends : IsEnding did = record { lit = lit; words = λ word tag by. stops w.path a p' a' did phase e t word tag by } in
    letter_less f w EngineActs p' (how_chosen w EngineActs is) (λ e. cc e) (f.most w.path a p' a' did phase e t t' ends)
    (λ is work. absurd (cc is)) (λ is idle. f.engine w.path a p' a' did phase e t t' idle (some_request w.path some idle) ends)

-- the card's
card_less : PathFalls → (w : WorldState) (p' : PathState) → p' ≡ record w.path { card = p'.card } → CardActs ≡ chosen_of w → LeavesLess w CardActs p'
card_less f w p' e is =
    let same : left_on_path p' ≡ left_on_path w.path =
    f.read_off w.path p' (ap (λ (p : PathState). p.driver) e) (ap (λ (p : PathState). p.regs) e) (ap (λ (p : PathState). p.engine) e) (ap (λ (p : PathState). p.script) e) in
    letter_less f w CardActs p' (how_chosen w CardActs is) (λ e. cc e) (same_most (left_on_path w.path) (left_on_path p') same)
    (λ is work. absurd (cc is)) (λ is idle. absurd (cc is))

-- behind a loss of power
lost_by : (f : PathFalls) (w : WorldState) (actor : Letter) (p' : PathState) → IsAnew w.path p' → Chosen w actor → actor ≢ HostActs → (actor ≡ EngineActs → 1 ≤ issued w.path)
    → LeavesLess w actor p'
lost_by f w actor p' anew (ByLine is due order) apart some =
    less_by w actor p' _ order (f.orders.line w.path p' w.order w.path.script.sent due (paid (left_on_path w.path) (left_on_path p') (f.anew.most w.path p' anew)))
lost_by f w actor p' anew (ByLetter more order) apart some =
    less_by w actor p' _ order (f.orders.letter w.path p' w.order more (paid (left_on_path w.path) (left_on_path p') (f.anew.most w.path p' anew)))
lost_by f w actor p' anew (ByWork is work order) apart some = absurd (apart is)
lost_by f w actor p' anew (ByRest is idle order) apart some =
    less_by w actor p' w.order order (f.orders.same w.path p' w.order (f.anew.issued w.path p' anew (some is)))

pub steps_fall : PathFalls → DoStepsFall
steps_fall f w t some = record {
  host = host_less f w t;
  engine = engine_less f w t some;
  card = card_less f w;
  lost = λ actor p' anew is apart issued. lost_by f w actor p' anew (how_chosen w actor is) apart issued;
}
