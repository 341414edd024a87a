use Rattle.std.proofs.Common.{◌≡◌, ◌≤◌, false, length, sym, arith, ℕ}
use Rattle.std.specs.Prelude.{◌==◌, get_or}
use Rattle.storage_machine.proofs.UnusedLines.{none-any, past-all, some-any}
use Rattle.storage_machine.proofs.used.has_line.Goals as goal

pub returns-then-unused-place : goal.returns-then-unused-place
returns-then-unused-place c =
    sym (some-any (λ number. number == c.args.number) c.args.lines.now c.args.unused.now c.loop-place.place
    c.loop-place-test.true c.if-place-unused.true c.if-unused-place.true (grind (arith, c.if-lines-place.true)))

pub returns-then-number-lines : goal.returns-then-number-lines
returns-then-number-lines c =
    let above : (x : ℕ) → get_or c.args.lines.now c.loop-place.place 0 ≤ x → (x == c.args.number) ≡ false =
    λ x l. grind (arith, c.if-number-lines.true, l) in
    let past = past-all (λ number. number == c.args.number) c.args.lines.now c.args.unused.now c.loop-place.place
    (c.requires.rising c.if-rising.true) c.loop-place.invariant above in
    sym (none-any (λ number. number == c.args.number) c.args.lines.now c.args.unused.now (length c.args.lines.now) past (omega arith))

pub returns-else-place-unused : goal.returns-else-place-unused
returns-else-place-unused c =
    sym (none-any (λ number. number == c.args.number) c.args.lines.now c.args.unused.now c.loop-place.place c.loop-place.invariant
    (let far = c.if-place-unused.false in omega (arith, far)))

pub returns-after-loop-place : goal.returns-after-loop-place
returns-after-loop-place c =
    sym (none-any (λ number. number == c.args.number) c.args.lines.now c.args.unused.now c.loop-place.place c.loop-place.invariant
    (let far = c.loop-place-test.false in omega (arith, far)))
