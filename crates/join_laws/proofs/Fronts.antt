-- The whole lines before one that broke off begin the event.
use Rattle.std.proofs.Common.{◌≡◌, List, ◌∷◌, ◌++◌, subst}
use Rattle.array_edge.specs.Array.{ArrayState}
use Rattle.cut_order.specs.Order.{OrderState}
use Rattle.join_laws.proofs.Joins.{begins, first, rules, rules_cut}
use Rattle.join_laws.proofs.Lines.{goes_cut, goes_front, makes_front, stays_front, stays_none, yields_front}
use Rattle.join_laws.proofs.Near.{near_losing}
use Rattle.join_laws.specs.Fronts.{IsStoppedAtCut, IsStoppedBehind, IsStoppedDark, IsStoppedLast, IsStoppedLit, Stopped}
use Rattle.join_laws.specs.Joins.{DarkIn, OwnLines, before, within}
use Rattle.storage_machine.specs.Commands.{due}
use Rattle.storage_machine.specs.declared.state.Owed.{Owed}
use Rattle.storage_machine.specs.declared.state.State.{State}
use Rattle.storage_model.specs.declared.block.Block.{Block}
use Rattle.storage_model.specs.declared.faults.Letter.{Letter}
use Rattle.storage_model.specs.declared.trace.Item.{Item}
use Rattle.storage_model.specs.declared.trace.Item.TheVariants.{Cut}
use Rattle.storage_order.specs.Events.{Goes, Lasts, Starts, closed}
use Rattle.trace_effects.specs.Effects.{effect}
use Rattle.world_state.specs.Path.{PathState}
use Rattle.world_state.specs.Reading.{Context, state_of}
use Rattle.world_state.specs.Stands.{IsNear}
use Rattle.world_state.specs.Told.{Told}
use Rattle.world_steps.specs.Steps.{KeepsRules}
use Rattle.world_steps.specs.World.{WorldState, order_in}

module _ (w : WorldState) (c : Context) (actor : Letter) (whole : List Item) (item : Item) (rest : List Item) where
  abbrev lines : List Item
  lines = whole ++ item ∷ rest

  rules_front : OwnLines w c actor lines → KeepsRules w (before w c) actor whole
  rules_front own =
      rules w c actor lines whole own (stays_front (first w c actor) whole (item ∷ rest) (stays_none (first w c actor) lines own.none)) (yields_front (first w c actor) whole (item ∷ rest))

  stopped : (last : State) → OwnLines w c actor lines → Starts (within w c actor) actor whole last → Stopped w c actor whole
  stopped last own starts = record { last = last; begun = begins w c actor lines whole last own starts (rules_front own); starts = starts }

  lit : (p : PathState) (o : OrderState) (a : ArrayState) → OwnLines w c actor lines → Told actor (within w c actor) lines p o a → Stopped w c actor whole
  lit p o a own told =
      let front = makes_front (first w c actor) _ whole item rest told.happens.makes in
      stopped front.0 own (record { free = told.happens.free; untold = told.happens.untold; goes = front.1 })

  dark : (p : PathState) (a : ArrayState) → OwnLines w c actor lines → DarkIn w c actor lines p a → Stopped w c actor whole
  dark p a own d =
      let front = goes_front (first w c actor) d.last whole item rest d.starts.goes in
      stopped front.0 own (record { free = d.starts.free; untold = d.starts.untold; goes = front.1 })

  pub stopped_lit : IsStoppedLit w c actor whole item rest
  stopped_lit items p o a are own told =
      lit p o a (subst (OwnLines w c actor) are own) (subst (λ xs. Told actor (within w c actor) xs p o a) are told)

  pub stopped_dark : IsStoppedDark w c actor whole item rest
  stopped_dark items p a are own d =
      dark p a (subst (OwnLines w c actor) are own) (subst (λ xs. DarkIn w c actor xs p a) are d)

-- all of them
near_closed : (last : State) (owed : Owed) (pages : List Block) → IsNear (record last { owed = owed }) pages → IsNear last pages
unfolding due
near_closed last owed pages near = record { count = near.count; near = near.near }

pub stopped_last : (w : WorldState) (c : Context) (actor : Letter) (item : Item) (others : List Item) (p : PathState) (o : OrderState) (a : ArrayState) → IsStoppedLast w c actor item others p o a
stopped_last w c actor item others p o a own told =
    let items = item ∷ others in
    let lasts : Lasts (first w c actor) item others (state_of p o told.context) = told.happens.makes in
    record {
      last = lasts.last;
      begun = begins w c actor items items lasts.last own (record { free = told.happens.free; untold = told.happens.untold; goes = lasts.begins })
          (rules w c actor items items own (stays_none (first w c actor) items own.none) (λ yields. yields));
      near = λ pages near. near_closed lasts.last (closed lasts.last.owed) pages (subst (λ (x : State). IsNear x pages) lasts.state near);
    }

module _ (w : WorldState) (c : Context) (actor : Letter) (items : List Item) (p : PathState) (a : ArrayState) where
  pub stopped_at_cut : IsStoppedAtCut w c actor items p a
  stopped_at_cut own d = (
    begins w c actor items items d.last own d.starts (rules w c actor items items own (stays_none (first w c actor) items own.none) (λ yields. yields)),
    near_losing d.last p (order_in w actor) a d.losing,
  )

  pub stopped_behind : (whole : List Item) (a' : ArrayState) → IsStoppedBehind w c actor items p a whole a'
  stopped_behind whole a' own d stays so =
      let goes = goes_cut (first w c actor) d.last stays.last items whole d.starts.goes d.cut stays.more in
      record {
        last = stays.last;
        begun = begins w c actor items (items ++ Cut ∷ whole) stays.last own (record { free = d.starts.free; untold = d.starts.untold; goes = goes })
            (rules_cut w c actor items p a whole own d so);
        near = stays.near;
      }
