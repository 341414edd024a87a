use Rattle.std.proofs.Common.{◌+◌, ◌∙◌, sym, length}
use Rattle.std.proofs.lemmas.Bool.{eqb-true}
use Rattle.fault_text.proofs.LineWords.{no_fault}
use Rattle.fault_text.proofs.Meanings.{all_read, bad_here, meaning_fits, no_bad_line, one_meaning, none_next, taken_more, taken_none}
use Rattle.fault_text.proofs.Valid.{meaning_valid}
use Rattle.fault_text.proofs.read.read_faults.Goals as goal

pub loop-rest-init : goal.loop-rest-init
loop-rest-init c = taken_none c.args.bytes.now c.no_faults-faults.result c.new-tally.result c.no_faults-faults.ensures c.new-tally.ensures

pub returns-in_default-clause-bad : goal.returns-in_default-clause-bad
returns-in_default-clause-bad c =
    bad_here c.args.bytes.now c.loop-rest.rest.now c.loop-rest.faults c.loop-rest.tally c.loop-rest.invariant (λ e. let empty = rw e at c.is_empty.ensures in cc)
    (λ fault after valid is room follows. no_fault fault c.loop-rest.rest.now after c.in_default.ensures is)

pub returns-in_default-clause-again : goal.returns-in_default-clause-again
returns-in_default-clause-again c = λ faults means.
    absurd (no_bad_line c.args.bytes.now faults (c.loop-rest.tally.lines + 1) means
    (bad_here c.args.bytes.now c.loop-rest.rest.now c.loop-rest.faults c.loop-rest.tally c.loop-rest.invariant (λ e. let empty = rw e at c.is_empty.ensures in cc)
    (λ fault after valid is room follows. no_fault fault c.loop-rest.rest.now after c.in_default.ensures is)))

pub returns-in_default-2-clause-bad : goal.returns-in_default-2-clause-bad
returns-in_default-2-clause-bad c =
    let read = rw c.in_default-2.is at c.in_ok-line.ensures in
    bad_here c.args.bytes.now c.loop-rest.rest.now c.loop-rest.faults c.loop-rest.tally c.loop-rest.invariant (λ e. let empty = rw e at c.is_empty.ensures in cc)
    (none_next c.loop-rest.rest.now c.in-Some.text.now c.in-Some.after.now c.loop-rest.tally c.in-Some.ensures.0 c.in-Some.ensures.1 read.1)

pub returns-in_default-2-clause-again : goal.returns-in_default-2-clause-again
returns-in_default-2-clause-again c = λ faults means.
    let read = rw c.in_default-2.is at c.in_ok-line.ensures in
    absurd (no_bad_line c.args.bytes.now faults (c.loop-rest.tally.lines + 1) means
    (bad_here c.args.bytes.now c.loop-rest.rest.now c.loop-rest.faults c.loop-rest.tally c.loop-rest.invariant (λ e. let empty = rw e at c.is_empty.ensures in cc)
    (none_next c.loop-rest.rest.now c.in-Some.text.now c.in-Some.after.now c.loop-rest.tally c.in-Some.ensures.0 c.in-Some.ensures.1 read.1)))

pub loop-rest-preserved : goal.loop-rest-preserved
loop-rest-preserved c =
    let read = rw c.in-Some-2.is at c.in_ok-line.ensures in
    let more = taken_more c.args.bytes.now c.loop-rest.rest.now c.in-Some.text.now c.in-Some.after.now c.loop-rest.faults c.loop-rest.tally c.in-Some-2.line c.loop-rest.invariant c.in-Some.ensures.0 read.0.0 in
    rw (c.in_ok-add.ensures, read.0.1) more

pub returns-clause-valid : goal.returns-clause-valid
returns-clause-valid c =
    let none = eqb-true (length c.loop-rest.rest.now) 0 (sym c.is_empty.ensures ∙ c.loop-rest-test.false) in
    meaning_valid c.args.bytes.now c.loop-rest.faults (all_read c.args.bytes.now c.loop-rest.rest.now c.loop-rest.faults c.loop-rest.tally c.loop-rest.invariant none)

pub returns-clause-short : goal.returns-clause-short
returns-clause-short c =
    let none = eqb-true (length c.loop-rest.rest.now) 0 (sym c.is_empty.ensures ∙ c.loop-rest-test.false) in
    meaning_fits c.args.bytes.now c.loop-rest.faults (all_read c.args.bytes.now c.loop-rest.rest.now c.loop-rest.faults c.loop-rest.tally c.loop-rest.invariant none)

pub returns-clause-again : goal.returns-clause-again
returns-clause-again c = λ faults means.
    let none = eqb-true (length c.loop-rest.rest.now) 0 (sym c.is_empty.ensures ∙ c.loop-rest-test.false) in
    (one_meaning c.args.bytes.now c.loop-rest.faults faults (all_read c.args.bytes.now c.loop-rest.rest.now c.loop-rest.faults c.loop-rest.tally c.loop-rest.invariant none) means, tt)
