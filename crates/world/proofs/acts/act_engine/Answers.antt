use Rattle.std.proofs.Common.{Bool, true, false, ◌≡◌, refl}
use Rattle.world_state.specs.Steps.{is_of_phase}
use Rattle.world_state.specs.Ties.{AreTied}
use Rattle.world.proofs.acts.act_engine.Goals as goal

-- the ties hold behind the event, also where power was lost in it
by_flag : (flag : Bool) → (P : Type 0) → (b : Bool) → b ≡ flag → (b ≡ true → P) → (b ≡ false → P) → P
by_flag true P b is then other = then is
by_flag false P b is then other = other is

pub cut-requires-clause-outlasts : goal.cut-requires-clause-outlasts
cut-requires-clause-outlasts g c =
    let event = c.engine_event-told.ensures.event in
    let due = is_of_phase c.args.path.now event.event.acts.due in
    c.back_again.ensures.outlasts c.engine_event-told.new.path
    (by_flag due (AreTied c.engine_event-told.new.path) due refl
    (λ is. c.phases_step.ensures.ties _ _ _ _ _ _ event is c.requires.tied)
    (λ is. c.commands_keep_ties.ensures.ties _ _ _ _ _ _ event is c.requires.tied))
