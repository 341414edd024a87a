use Rattle.std.proofs.Common.{arith}
use Rattle.request_text.proofs.Digits.{no_more, push_block, taken_if}
use Rattle.request_text.proofs.blocks.take_blocks.Goals as goal

pub returns-in_default : goal.returns-in_default
returns-in_default c = no_more c.args.digits.now c.loop.counter c.args.count c.args.blocks.now c.loop.blocks c.loop.rest.now c.loop.invariant c.loop-test.true c.in_default.ensures.none

pub loop-preserved : goal.loop-preserved
loop-preserved c =
    push_block c.args.digits.now c.loop.counter c.args.blocks.now c.loop.blocks c.push.new.self c.loop.rest.now c.in-Some.after.now c.in-Some.block c.loop.invariant c.in-Some.ensures.some.0 c.in-Some.ensures.some.1 c.in_ok-push.ensures.ok

pub returns : goal.returns
returns c = taken_if c.args.digits.now c.loop.counter c.args.count c.args.blocks.now c.loop.blocks c.loop.rest.now c.is_empty.result c.loop.invariant (omega arith) c.is_empty.ensures
