use Rattle.std.proofs.Common.{◌+◌, [], ◌∷◌, ap, rules}
use Rattle.std.specs.Prelude.{is_ok}
use Rattle.image_form.specs.Image.{Fetch, Program}
use Rattle.intent_store.proofs.CallLemmas.{ended_call, next_call, not_ok}
use Rattle.intent_store.proofs.intent.Intent.fetch_and_finish.Goals as goal

pub returns-in_err-fetch-clause-calls : goal.returns-in_err-fetch-clause-calls
returns-in_err-fetch-clause-calls g c on =
    ended_call (Fetch 2) (Program (8 + c.args.sector) ∷ Program 1 ∷ []) _ _ c.fetch.result _ (ap is_ok c.in_err-fetch.was)
    (not_ok c.from_residual.result c.from_residual.ensures.0) (c.fetch.ensures.call on)

pub returns-clause-calls : goal.returns-clause-calls
returns-clause-calls g c on =
    next_call (Fetch 2) (Program (8 + c.args.sector) ∷ Program 1 ∷ []) _ _ _ c.fetch.result _ (ap is_ok c.in_ok-fetch.was)
    (c.fetch.ensures.call on) (c.finish.ensures.calls (search rules))
