-- A letter's line uses the letter in the machine too.
use Rattle.std.proofs.Common.{rules, ◌≡◌, ◌∙◌, ◌+◌, length, ap, sym}
use Rattle.cut_order.specs.Order.{front, with_letter}
use Rattle.cut_order.proofs.StateLaws.{order_turn}
use Rattle.cut_order.proofs.order.Order.use_letter.Goals as goal

pub returns-then-self-len-clause-turn : goal.returns-then-self-len-clause-turn
returns-then-self-len-clause-turn c =
    let self = c.self.inside in
    let letters : record { turns = self.turns; letters = self.letters + 1; cuts = self.cuts; used = front self.used (length self.cuts) } ≡ with_letter c.args.self.now = search rules in
    λ s letter same. order_turn s letter ∙ (ap with_letter same ∙ sym letters)

pub returns-else-self-len-clause-turn : goal.returns-else-self-len-clause-turn
returns-else-self-len-clause-turn c =
    let letters : c.args.self.now ≡ with_letter c.args.self.now = search rules in
    λ s letter same. order_turn s letter ∙ (ap with_letter same ∙ sym letters)
