use Rattle.std.proofs.Common.{rules, ◌+◌, [], ◌∷◌, ap}
use Rattle.std.specs.Prelude.{is_ok}
use Rattle.image_form.specs.Image.{Program, finishing}
use Rattle.intent_store.proofs.CallLemmas.{not_ok, one_call}
use Rattle.intent_store.proofs.Looking.{for_less, for_then}
use Rattle.intent_store.proofs.intent.Intent.program.Goals as goal

pub returns-in_err-close-clause-calls : goal.returns-in_err-close-clause-calls
returns-in_err-close-clause-calls g c on =
    for_less c.args.self.now.gate finishing (Program (8 + c.args.sector) ∷ []) _ _ (is_ok c.close.result) _ (ap is_ok c.in_err-close.was)
    (not_ok c.from_residual.result c.from_residual.ensures.0) (c.close.ensures.finished on)

pub returns-clause-calls : goal.returns-clause-calls
returns-clause-calls g c on =
    for_then c.args.self.now.gate finishing (Program (8 + c.args.sector) ∷ []) _ _ _ (is_ok c.close.result) _ (ap is_ok c.in_ok-close.was) (c.close.ensures.finished on)
    (one_call (Program (8 + c.args.sector)) _ _ c.put.result (c.put.ensures.calls (search rules)))
