use Rattle.std.proofs.Common.{rules, ap, sym, refl, ◌∙◌}
use Rattle.std.specs.Prelude.{is_ok}
use Rattle.intent_store.proofs.CallLemmas.{not_ok}
use Rattle.intent_store.proofs.Looking.{looked_known, looked_call}
use Rattle.intent_store.proofs.intent.Intent.look.Goals as goal

pub returns-in-Some-clause-looked : goal.returns-in-Some-clause-looked
returns-in-Some-clause-looked g c on = looked_known c.args.self.now.gate c.in-Some.gate _ _ (search rules) refl

pub returns-in_err-fetch-clause-looked : goal.returns-in_err-fetch-clause-looked
returns-in_err-fetch-clause-looked g c on =
    looked_call c.args.self.now.gate _ _ c.fetch.result _ (search rules) (ap is_ok c.in_err-fetch.was ∙ sym (not_ok c.from_residual.result c.from_residual.ensures.0)) (c.fetch.ensures.call on)

pub returns-clause-looked : goal.returns-clause-looked
returns-clause-looked g c on = looked_call c.args.self.now.gate _ _ c.fetch.result _ (search rules) (ap is_ok c.in_ok-fetch.was) (c.fetch.ensures.call on)
