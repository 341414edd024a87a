use Rattle.std.proofs.Common.{rules, ap, subst, sym}
use Rattle.std.specs.Prelude.{is_ok}
use Rattle.image_form.specs.declared.gate.Gate.{Gate}
use Rattle.image_form.specs.Image.{finishing}
use Rattle.intent_store.specs.Calls.{Makes}
use Rattle.intent_store.proofs.CallLemmas.{no_calls, not_ok}
use Rattle.intent_store.proofs.Looking.{known_is, told_found, look_done, look_failed}
use Rattle.intent_store.proofs.intent.Intent.close.Goals as goal

pub returns-in-Shut-clause-calls : goal.returns-in-Shut-clause-calls
returns-in-Shut-clause-calls g c gate e on =
    let calls = c.in_ok-look.ensures.calls (search rules) in
    no_calls c.args.self.now.gate c.in_ok-look.field-0 gate _ _ e calls.0 c.in-Shut.is calls.2

pub returns-in_err-look-clause-finished : goal.returns-in_err-look-clause-finished
returns-in_err-look-clause-finished g c on =
    look_failed c.args.self.now.gate finishing _ _ (is_ok c.look.result) _ (λ known. (c.look.ensures.calls known).1) (ap is_ok c.in_err-look.was)
    (not_ok c.from_residual.result c.from_residual.ensures.0) (c.look.ensures.looked on)

pub returns-in-Ajar-clause-finished : goal.returns-in-Ajar-clause-finished
returns-in-Ajar-clause-finished g c on =
    let P : Gate → Type 0 = λ gate. Makes (finishing gate) (g.A.Array.state c.look.new.array) (g.A.Array.state c.fetch_and_finish.new.array) (is_ok c.fetch_and_finish.result) in
    look_done c.args.self.now.gate finishing c.in_ok-look.field-0 (g.A.Array.state c.args.array.now) (g.A.Array.state c.look.new.array) _ (is_ok c.look.result) _
    (known_is c.args.self.now.gate c.in_ok-look.field-0 (λ known. (c.in_ok-look.ensures.calls known).0))
    (told_found c.look.new.self c.in_ok-look.field-0 (g.A.Array.state c.args.array.now) (g.A.Array.state c.look.new.array) (ap (λ s. s.told) c.look.ensures.same) c.look.ensures.stands c.in_ok-look.ensures.gate)
    (ap is_ok c.in_ok-look.was) (c.look.ensures.looked on)
    (subst P (sym c.in-Ajar.is) (c.fetch_and_finish.ensures.calls (search rules)))
