use Rattle.std.proofs.Common.{rules, ◌+◌, [], ◌∷◌, ap}
use Rattle.std.specs.Prelude.{is_ok}
use Rattle.image_form.specs.Image.{Program, finishing}
use Rattle.intent_store.proofs.CallLemmas.{not_ok}
use Rattle.intent_store.proofs.Looking.{for_less, for_then, makes_less, makes_then}
use Rattle.intent_store.proofs.intent.Intent.program_whole.Goals as goal

pub returns-in_err-close-clause-calls : goal.returns-in_err-close-clause-calls
returns-in_err-close-clause-calls g c on =
    for_less c.args.self.now.gate finishing (Program 2 ∷ Program 1 ∷ Program (8 + c.args.sector) ∷ Program 1 ∷ []) _ _ (is_ok c.close.result) _ (ap is_ok c.in_err-close.was)
    (not_ok c.from_residual.result c.from_residual.ensures.0) (c.close.ensures.finished on)

pub returns-in_err-offer-clause-calls : goal.returns-in_err-offer-clause-calls
returns-in_err-offer-clause-calls g c on =
    for_then c.args.self.now.gate finishing (Program 2 ∷ Program 1 ∷ Program (8 + c.args.sector) ∷ Program 1 ∷ []) _ _ _ (is_ok c.close.result) _ (ap is_ok c.in_ok-close.was) (c.close.ensures.finished on)
    (makes_less (Program 2 ∷ Program 1 ∷ []) (Program (8 + c.args.sector) ∷ Program 1 ∷ []) _ _ (is_ok c.offer.result) _ (ap is_ok c.in_err-offer.was)
    (not_ok c.from_residual-in_err-offer.result c.from_residual-in_err-offer.ensures.0) (c.offer.ensures.calls (search rules)))

pub returns-clause-calls : goal.returns-clause-calls
returns-clause-calls g c on =
    for_then c.args.self.now.gate finishing (Program 2 ∷ Program 1 ∷ Program (8 + c.args.sector) ∷ Program 1 ∷ []) _ _ _ (is_ok c.close.result) _ (ap is_ok c.in_ok-close.was) (c.close.ensures.finished on)
    (makes_then (Program 2 ∷ Program 1 ∷ []) (Program (8 + c.args.sector) ∷ Program 1 ∷ []) _ _ _ (is_ok c.offer.result) _ (ap is_ok c.in_ok-offer.was) (c.offer.ensures.calls (search rules))
    (c.finish.ensures.calls (search rules)))
