use Rattle.std.proofs.Common.{◌+◌, [], ◌∷◌, ap, rules}
use Rattle.std.specs.Prelude.{is_ok}
use Rattle.image_form.specs.Image.{Program}
use Rattle.intent_store.proofs.CallLemmas.{ended_call, next_call, not_ok}
use Rattle.intent_store.proofs.intent.Intent.finish.Goals as goal

pub returns-in_err-move_in-clause-calls : goal.returns-in_err-move_in-clause-calls
returns-in_err-move_in-clause-calls g c on =
    ended_call (Program (8 + c.args.sector)) (Program 1 ∷ []) _ _ c.move_in.result _ (ap is_ok c.in_err-move_in.was)
    (not_ok c.from_residual.result c.from_residual.ensures.0) (c.move_in.ensures.calls on)

pub returns-clause-calls : goal.returns-clause-calls
returns-clause-calls g c on =
    next_call (Program (8 + c.args.sector)) (Program 1 ∷ []) _ _ _ c.move_in.result _ (ap is_ok c.in_ok-move_in.was)
    (c.move_in.ensures.calls on) (c.shut.ensures.calls (search rules))
