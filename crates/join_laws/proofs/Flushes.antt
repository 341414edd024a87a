-- The last flush loses power: the cut and the lines behind it are a part of the run.
use Rattle.std.proofs.Common.{◌≡◌, ◌∙◌, true, false, List, [], ◌∷◌, ◌++◌, refl, ap, sym}
use Rattle.array_edge.specs.Array.{ArrayState}
use Rattle.cut_order.specs.Order.{OrderState, order_of}
use Rattle.join_laws.proofs.Idle.{idle}
use Rattle.join_laws.proofs.Lines.{ends_off}
use Rattle.join_laws.specs.Flushes.{IsAtLast, IsFlushBackOn, IsFlushEnded, IsFlushStopped}
use Rattle.join_laws.specs.Joins.{before}
use Rattle.run_laws.specs.Whole.{Drops}
use Rattle.storage_machine.specs.declared.state.State.{State}
use Rattle.storage_model.specs.declared.trace.End.{End}
use Rattle.storage_model.specs.declared.trace.Item.{Item}
use Rattle.storage_model.specs.declared.trace.Item.TheVariants.{Cut, Off}
use Rattle.storage_order.specs.Events.{More}
use Rattle.trace_effects.specs.Effects.{after_cut, effect}
use Rattle.trace_rules.specs.Lines.{is_free}
use Rattle.world_state.specs.Path.{PathState, is_busy}
use Rattle.world_state.specs.Reading.{Context, state_of}
use Rattle.world_steps.specs.World.{WorldState}

state_free : (p : PathState) (o : OrderState) (c : Context) → is_free (state_of p o c).owed ≡ true
unfolding state_of
state_free p o c = refl

state_busy : (p : PathState) (o : OrderState) (c : Context) → (state_of p o c).busy ≡ is_busy p
unfolding state_of
state_busy p o c = refl

-- the cut between two events uses no line
order_cut : (p : PathState) (o : OrderState) (c : Context) → order_of (effect (state_of p o c) Cut) ≡ o
unfolding state_of effect after_cut
order_cut p o c = refl

module _ (w : WorldState) (c : Context) where
  drops : (items : List Item) (last : State) → IsAtLast w c → More (effect (before w c) Cut) items last → Drops (before w c) items last
  drops items last at more = record {
    free = state_free w.path w.order c;
    none = at.none;
    idle = state_busy w.path w.order c ∙ idle w.path at.tied (sym at.reads.to_do ∙ at.none);
    more = more;
  }

  pub flush_back_on : (more : List Item) (p : PathState) (a : ArrayState) → IsFlushBackOn w c more p a
  flush_back_on more p a at back =
      let t = state_of p (order_of (effect (before w c) Cut)) back.context in (
        t,
        record { items = more; last = back.last; printed = refl; drops = drops more back.last at back.more; over = back.over; state = back.state },
        record { context = back.context; state = ap (λ o. state_of p o back.context) (order_cut w.path w.order c); agrees = back.agrees },
      )

  pub flush_ended : (first : List Item) (end : End) (a : ArrayState) → IsFlushEnded w c first end a
  flush_ended first end a at dark =
      let off = ends_off (effect (before w c) Cut) dark.last first end dark.more in (
        dark.last,
        record { items = first ++ Off end ∷ []; last = dark.last; printed = refl; drops = drops (first ++ Off end ∷ []) dark.last at dark.more; over = off.over; state = off.state },
        off.owed,
        dark.near,
      )

  pub flush_stopped : (whole : List Item) (a : ArrayState) → IsFlushStopped w c whole a
  flush_stopped whole a at dark = ((whole, dark.last, refl, drops whole dark.last at dark.more), dark.near)
