-- An event of one line at most: where it breaks off, the event has just begun.
use Rattle.std.proofs.Common.{◌≡◌, ◌∙◌, ℕ, Bool, true, false, List, [], ◌∷◌, ◌++◌, Option, None, Some, refl, ap, sym, subst}
use Rattle.std.specs.Prelude.{IfSome}
use Rattle.storage_model.specs.declared.block.Block.{Block}
use Rattle.storage_model.specs.declared.faults.Letter.{Letter}
use Rattle.storage_model.specs.declared.faults.Letter.TheVariants.{Host as HostActs, Card as CardActs, Cut as PowerActs}
use Rattle.storage_model.specs.declared.trace.Item.{Item}
use Rattle.storage_machine.specs.Host.{is_silent}
use Rattle.storage_machine.specs.declared.state.State.{State}
use Rattle.storage_order.specs.Events.{Starts}
use Rattle.trace_effects.specs.Effects.{begun}
use Rattle.array_edge.specs.Array.{ArrayState}
use Rattle.cut_order.specs.Order.{OrderState}
use Rattle.intent_store.specs.Intent.{shown_by}
use Rattle.front_laws.proofs.Nears.{near_begun_card, near_begun_host, near_begun_power}
use Rattle.front_laws.specs.Fronts.{FrontsNear}
use Rattle.world_state.specs.Path.{PathState}
use Rattle.world_state.specs.Reading.{Context, state_of}
use Rattle.world_state.specs.Stands.{Agrees, IsNear}

abbrev pub is_single : List Item → Bool
is_single [] = true
is_single (item ∷ []) = true
is_single (item ∷ other ∷ items) = false

no_other : (first item : Item) (ws rest : List Item) → is_single (first ∷ (ws ++ item ∷ rest)) ≡ true → ⊥
no_other first item [] rest h = absurd (cc (h))
no_other first item (w ∷ ws) rest h = absurd (cc (h))

pub single_fronts : (actor : Letter) (p : PathState) (a : ArrayState) (items : List Item) (a' : ArrayState) → is_single items ≡ true
    → ((o : OrderState) (c : Context) → Agrees p a c → IfSome (shown_by a') (IsNear (begun (state_of p o c) actor))) → FrontsNear actor p a items a'
single_fronts actor p a items a' single near = λ o c agrees whole item rest e last starts. by o c agrees whole item rest e last starts
  where
    by : (o : OrderState) (c : Context) → Agrees p a c → (whole : List Item) (item : Item) (rest : List Item) → items ≡ whole ++ item ∷ rest
        → (last : State) → Starts (state_of p o c) actor whole last → IfSome (shown_by a') (IsNear last)
    by o c agrees [] item rest e last starts = subst (λ (x : State). IfSome (shown_by a') (IsNear x)) (sym starts.goes) (near o c agrees)
    by o c agrees (w ∷ ws) item rest e last starts = absurd (no_other w item ws rest (sym (ap is_single e) ∙ single))

pub some_near : (s t : State) (shown : Option (List Block)) → ((pages : List Block) → IsNear s pages → IsNear t pages) → IfSome shown (IsNear s) → IfSome shown (IsNear t)
some_near s t None f h = tt
some_near s t (Some pages) f h = f pages h

pub shown_card : (s : State) (shown : Option (List Block)) → IfSome shown (IsNear s) → IfSome shown (IsNear (begun s CardActs))
shown_card s shown h = some_near s (begun s CardActs) shown (near_begun_card s) h

pub shown_power : (s : State) (shown : Option (List Block)) → IfSome shown (IsNear s) → IfSome shown (IsNear (begun s PowerActs))
shown_power s shown h = some_near s (begun s PowerActs) shown (near_begun_power s) h

pub shown_host : (s : State) (shown : Option (List Block)) → is_silent s.recovery ≡ false → IfSome shown (IsNear s) → IfSome shown (IsNear (begun s HostActs))
shown_host s shown loud h = some_near s (begun s HostActs) shown (λ pages. near_begun_host s pages loud) h
