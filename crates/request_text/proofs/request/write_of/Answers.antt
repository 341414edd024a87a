use Rattle.std.proofs.Common.{◌≡◌, ◌∷◌}
use Rattle.request_text.proofs.JobWords.{no_contents, no_write}
use Rattle.request_text.proofs.request.write_of.Goals as goal

pub returns-in_err-contents-clause-none : goal.returns-in_err-contents-clause-none
returns-in_err-contents-clause-none c =
    rw c.from_residual-in_err-contents.ensures (λ job digits valid placed.
    let one = c.in_ok-next.ensures in
    let two = c.in_ok-next-2.ensures in
    let three = c.in_ok-next-3.ensures in
    let parts : c.args.words ≡ c.in_ok-next.field-0.now ∷ c.in_ok-next-2.field-0.now ∷ c.in_ok-next-3.field-0.now ∷ c.next-3.new.self = cc in
    no_contents c.args.words c.next-3.new.self c.in_ok-next.field-0.now c.in_ok-next-2.field-0.now c.in_ok-next-3.field-0.now parts c.in_err-contents.ensures job digits)

pub returns-in_err-forced-clause-none : goal.returns-in_err-forced-clause-none
returns-in_err-forced-clause-none c =
    rw c.from_residual-in_err-forced.ensures (λ job digits valid placed.
    let one = c.in_ok-next.ensures in
    let two = c.in_ok-next-2.ensures in
    let three = c.in_ok-next-3.ensures in
    let four = c.in_ok-value.ensures in
    let parts : c.args.words ≡ c.in_ok-next.field-0.now ∷ c.in_ok-next-2.field-0.now ∷ c.in_ok-next-3.field-0.now ∷ c.in_ok-value.value.now ∷ c.next-4.new.self = cc in
    no_write c.args.words c.next-4.new.self c.in_ok-next.field-0.now c.in_ok-next-2.field-0.now c.in_ok-next-3.field-0.now c.in_ok-value.value.now parts c.in_err-forced.ensures job digits)
