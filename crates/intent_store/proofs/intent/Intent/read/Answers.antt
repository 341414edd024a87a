use Rattle.std.proofs.Common.{ℕ, [], ◌∷◌, ap, subst, ◌∙◌}
use Rattle.std.specs.Prelude.{is_ok}
use Rattle.image_form.specs.Image.{Fetch}
use Rattle.intent_store.specs.Calls.{Makes, reading}
use Rattle.intent_store.proofs.CallLemmas.{not_ok, one_call}
use Rattle.intent_store.proofs.Looking.{known_is, told_found, look_done, look_failed}
use Rattle.intent_store.proofs.intent.Intent.read.Goals as goal

pub returns-in_err-look-clause-calls : goal.returns-in_err-look-clause-calls
returns-in_err-look-clause-calls g c on =
    look_failed c.args.self.now.gate (reading c.args.sector) _ _ (is_ok c.look.result) _ (λ known. (c.look.ensures.calls known).1) (ap is_ok c.in_err-look.was)
    (not_ok c.from_residual.result c.from_residual.ensures.0) (c.look.ensures.looked on)

pub returns-clause-calls : goal.returns-clause-calls
returns-clause-calls g c on =
    let P : ℕ → Type 0 = λ page. Makes (Fetch page ∷ []) (g.A.Array.state c.look.new.array) (g.A.Array.state c.fetch.new.array) (is_ok c.fetch.result) in
    look_done c.args.self.now.gate (reading c.args.sector) c.in_ok-look.field-0 (g.A.Array.state c.args.array.now) (g.A.Array.state c.look.new.array) _ (is_ok c.look.result) _
    (known_is c.args.self.now.gate c.in_ok-look.field-0 (λ known. (c.in_ok-look.ensures.calls known).0))
    (told_found c.look.new.self c.in_ok-look.field-0 (g.A.Array.state c.args.array.now) (g.A.Array.state c.look.new.array) (ap (λ s. s.told) c.look.ensures.same) c.look.ensures.stands c.in_ok-look.ensures.gate)
    (ap is_ok c.in_ok-look.was) (c.look.ensures.looked on)
    (subst P c.page_of-page.ensures (one_call (Fetch c.page_of-page.result) _ _ c.fetch.result (c.fetch.ensures.call (ap (λ s. s.powered) c.look.ensures.same ∙ on))))
