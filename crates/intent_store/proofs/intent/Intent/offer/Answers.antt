use Rattle.std.proofs.Common.{rules, [], ◌∷◌, ap}
use Rattle.std.specs.Prelude.{is_ok}
use Rattle.image_form.specs.Image.{Program}
use Rattle.intent_store.proofs.CallLemmas.{ended_call, next_call, not_ok, one_call}
use Rattle.intent_store.proofs.intent.Intent.offer.Goals as goal

pub returns-in_err-keep-clause-calls : goal.returns-in_err-keep-clause-calls
returns-in_err-keep-clause-calls g c on =
    ended_call (Program 2) (Program 1 ∷ []) _ _ c.keep.result _ (ap is_ok c.in_err-keep.was) (not_ok c.from_residual.result c.from_residual.ensures.0) (c.keep.ensures.calls on)

pub returns-clause-calls : goal.returns-clause-calls
returns-clause-calls g c on =
    next_call (Program 2) (Program 1 ∷ []) _ _ _ c.keep.result _ (ap is_ok c.in_ok-keep.was) (c.keep.ensures.calls on)
    (one_call (Program 1) _ _ c.open.result (c.open.ensures.calls (search rules)))
