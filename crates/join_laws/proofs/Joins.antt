-- An event that goes on to its end, with its power on, on again behind a cut, or off for good.
use Rattle.std.proofs.Common.{◌≡◌, ◌∙◌, Bool, false, cond, List, [], ◌∷◌, ◌++◌, refl, ap, sym, subst}
use Rattle.array_edge.specs.Array.{ArrayState}
use Rattle.cut_order.specs.Order.{order_of, with_line}
use Rattle.storage_machine.specs.declared.state.State.{State}
use Rattle.storage_model.specs.declared.faults.Letter.{Letter}
use Rattle.storage_model.specs.declared.trace.End.{End}
use Rattle.storage_model.specs.declared.trace.Item.{Item}
use Rattle.storage_model.specs.declared.trace.Item.TheVariants.{Cut, Off}
use Rattle.storage_order.specs.Events.{Goes, Happens, Makes, Starts}
use Rattle.storage_runs.specs.Runs.{StaysSo, Yields, begun_next, shown, with_letter}
use Rattle.trace_effects.specs.Effects.{begun, effect}
use Rattle.join_laws.proofs.Lines.{ends_off, goes_cut, makes_cut, stays_cut, stays_none, yields_cut}
use Rattle.join_laws.specs.Joins.{DarkIn, IsBackOn, IsEndedIn, IsLit, OwnLines, before, within}
use Rattle.world_state.specs.Path.{PathState}
use Rattle.world_state.specs.Reading.{Context, state_of}
use Rattle.world_steps.specs.Steps.{Begun, KeepsRules, Shown}
use Rattle.world_steps.specs.World.{WorldState, order_behind, order_in, uses_line}

-- the state in which the actor's event has begun
module _ (w : WorldState) (c : Context) (actor : Letter) where
  abbrev pub first : State
  first = begun (within w c actor) actor

  first_is : (items : List Item) → OwnLines w c actor items → begun_next (before w c) actor ≡ first
  first_is items own = ap (λ s. begun s actor) (own.reads.letter actor)

  -- lines that begin as the event's own do, and tell of what is left as it was kept
  pub rules : (items all : List Item) → OwnLines w c actor items → StaysSo first all → (Yields first items → Yields first all) → KeepsRules w (before w c) actor all
  rules items all own stays more =
      let same = first_is items own in
      record {
        left = subst (λ s. StaysSo s all) (sym same) stays;
        yields = λ prompt next. subst (λ s. Yields s all) (sym same) (more (subst (λ s. Yields s items) same (own.yields prompt next)));
      }

  pub shows : (items all : List Item) (t : State) → OwnLines w c actor items → Happens (within w c actor) actor all t → KeepsRules w (before w c) actor all
      → Shown w (before w c) actor (shown (before w c) actor all) t
  shows items all t own happens keeps = record {
    items = all;
    shows = record { printed = refl; happens = subst (λ s. Happens s actor all t) (sym (own.reads.letter actor)) happens };
    rules = keeps;
  }

  pub begins : (items all : List Item) (t : State) → OwnLines w c actor items → Starts (within w c actor) actor all t → KeepsRules w (before w c) actor all
      → Begun w (before w c) actor (shown (before w c) actor all) t
  begins items all t own starts keeps = record {
    items = all;
    printed = refl;
    starts = subst (λ s. Starts s actor all t) (sym (own.reads.letter actor)) starts;
    rules = keeps;
  }

  -- no line of `cut` is used
  order_same : uses_line w actor ≡ false → order_in w actor ≡ order_behind w actor
  order_same off = ap (λ b. cond b (with_line w.order w.path.script.sent) (order_in w actor)) (sym off)

  pub is_lit : (items : List Item) (p : PathState) (a : ArrayState) → IsLit w c actor items p a
  is_lit items p a own off told =
      let t = state_of p (order_in w actor) told.context in (
        t,
        shows items items t own told.happens (rules items items own (stays_none first items own.none) (λ yields. yields)),
        record { context = told.context; state = ap (λ o. state_of p o told.context) (order_same off); agrees = told.agrees },
      )

  -- the rules of the lines up to the cut and behind it
  pub rules_cut : (items : List Item) (p : PathState) (a : ArrayState) (more : List Item) → OwnLines w c actor items → (d : DarkIn w c actor items p a) → StaysSo (effect d.last Cut) more
      → KeepsRules w (before w c) actor (items ++ Cut ∷ more)
  rules_cut items p a more own d so =
      rules items (items ++ Cut ∷ more) own (stays_cut first d.last items more d.starts.goes (stays_none first items own.none) so) (yields_cut first items more)

  happens_cut : (items : List Item) (p : PathState) (a : ArrayState) (more : List Item) (t : State) → (d : DarkIn w c actor items p a) → Makes first (items ++ Cut ∷ more) t
      → Happens (within w c actor) actor (items ++ Cut ∷ more) t
  happens_cut items p a more t d makes = record { free = d.starts.free; untold = d.starts.untold; makes = makes }

  pub is_back_on : (items : List Item) (p : PathState) (a : ArrayState) (more : List Item) (p' : PathState) (a' : ArrayState) → IsBackOn w c actor items p a more p' a'
  is_back_on items p a more p' a' own d back so order =
      let t = state_of p' (order_of (effect d.last Cut)) back.context in
      let goes = goes_cut first d.last back.last items more d.starts.goes d.cut back.more in
      let makes = makes_cut first back.last t items more goes back.over back.event back.state in (
        t,
        shows items (items ++ Cut ∷ more) t own (happens_cut items p a more t d makes) (rules_cut items p a more own d so),
        record { context = back.context; state = ap (λ o. state_of p' o back.context) order; agrees = back.agrees },
      )

  pub is_ended : (items : List Item) (p : PathState) (a : ArrayState) (front : List Item) (end : End) (a' : ArrayState) → IsEndedIn w c actor items p a front end a'
  is_ended items p a front end a' own d dark so =
      let more = front ++ Off end ∷ [] in
      let t = dark.last in
      let off = ends_off (effect d.last Cut) t front end dark.more in
      let goes = goes_cut first d.last t items more d.starts.goes d.cut dark.more in
      let makes = makes_cut first t t items more goes off.over off.event off.state in (
        t,
        shows items (items ++ Cut ∷ more) t own (happens_cut items p a more t d makes) (rules_cut items p a more own d so),
        off.owed,
        dark.near,
      )
