use Rattle.std.proofs.Common.{◌+◌, ◌-◌, ◌∙◌, sym, length, arith, refl}
use Rattle.std.proofs.lemmas.Bool.{eqb-true}
use Rattle.raw_text.specs.Meaning.{IsBadAt}
use Rattle.raw_text.proofs.Meanings.{all_read, bad_line, bad_op, length_ops, no_bad_line, one_meaning, room_left, some_left, text_push, within_push}
use Rattle.raw_text.proofs.read.read_raw.Goals as goal

pub bad_after-requires : goal.bad_after-requires
bad_after-requires c = omega (arith, length_ops c.loop-rest.ops, c.loop-rest.invariant.within.bytes)

pub bad_after-requires-in_default-2 : goal.bad_after-requires-in_default-2
bad_after-requires-in_default-2 c = omega (arith, length_ops c.loop-rest.ops, c.loop-rest.invariant.within.bytes)

-- no line that fits comes next
bad_here : (c : goal.After-drop-ops-inside) → IsBadAt c.args.bytes.now (length c.loop-rest.ops + 1)
bad_here c =
    let bytes = c.args.bytes.now in
    let ops = c.loop-rest.ops in
    let rest = c.loop-rest.rest.now in
    let text = c.loop-rest.invariant.text in
    let within = c.loop-rest.invariant.within in
    let counted = room_left bytes ops rest text within in
    (ops, rest, bad_line bytes ops rest (16777216 - (length bytes - length rest)) text within (some_left rest c.is_empty.result c.is_empty.ensures c.loop-rest-test.true) counted c.in_default.ensures.none, refl)

pub returns-in_default-clause-bad : goal.returns-in_default-clause-bad
returns-in_default-clause-bad c = rw c.bad_after.ensures (bad_here c)

pub returns-in_default-clause-again : goal.returns-in_default-clause-again
returns-in_default-clause-again c = λ ops means. absurd (no_bad_line c.args.bytes.now ops (length c.loop-rest.ops + 1) means (bad_here c))

-- the next line is no operation's
bad_next : (c : goal.After-drop-ops-inside-in_default-2) → IsBadAt c.args.bytes.now (length c.loop-rest.ops + 1)
bad_next c =
    let bytes = c.args.bytes.now in
    let ops = c.loop-rest.ops in
    let rest = c.loop-rest.rest.now in
    let text = c.loop-rest.invariant.text in
    let within = c.loop-rest.invariant.within in
    let some = c.in-Some.ensures.some in
    (ops, rest, bad_op bytes ops rest c.in-Some.line.now c.in-Some.after.now text within (some_left rest c.is_empty.result c.is_empty.ensures c.loop-rest-test.true) some.0 some.1 (rw c.in_default-2.is at c.in_ok-op.ensures), refl)

pub returns-in_default-2-clause-bad : goal.returns-in_default-2-clause-bad
returns-in_default-2-clause-bad c = rw c.bad_after-in_default-2.ensures (bad_next c)

pub returns-in_default-2-clause-again : goal.returns-in_default-2-clause-again
returns-in_default-2-clause-again c = λ ops means. absurd (no_bad_line c.args.bytes.now ops (length c.loop-rest.ops + 1) means (bad_next c))

pub loop-rest-preserved : goal.loop-rest-preserved
loop-rest-preserved c =
    let bytes = c.args.bytes.now in
    let ops = c.loop-rest.ops in
    let rest = c.loop-rest.rest.now in
    let line = c.in-Some.line.now in
    let within = c.loop-rest.invariant.within in
    let some = c.in-Some.ensures.some in
    let valid = rw c.in-Some-2.is at c.in_ok-op.ensures in
    let counted = room_left bytes ops rest c.loop-rest.invariant.text within in
    rw c.in_ok-push.ensures.ok (record {
      text = text_push bytes ops c.in-Some-2.op rest line c.in-Some.after.now c.loop-rest.invariant.text some.0 valid.1;
      within = within_push ops c.in-Some-2.op line (16777216 - (length bytes - length rest)) within valid.0 valid.1 some.2 counted;
    })

pub returns-clause-again : goal.returns-clause-again
returns-clause-again c = λ ops means.
    let none = eqb-true (length c.loop-rest.rest.now) 0 (sym c.is_empty.ensures ∙ c.loop-rest-test.false) in
    let here = all_read c.args.bytes.now c.loop-rest.ops c.loop-rest.rest.now c.loop-rest.invariant.text c.loop-rest.invariant.within none in
    (one_meaning c.args.bytes.now c.loop-rest.ops ops here means, tt)
