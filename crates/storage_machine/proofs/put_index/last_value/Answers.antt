use Rattle.std.proofs.Common.{◌∙◌, arith}
use Rattle.storage_machine.proofs.OwnPuts.{value_bar, value_put}
use Rattle.storage_machine.proofs.put_index.last_value.Goals as goal

pub returns-in-Put : goal.returns-in-Put
returns-in-Put c = value_put c.args.value c.args.puts.now c.loop-end.end _ c.in-Put.put c.loop-end-test.true c.loop-end.invariant.0 c.in-Put.is ∙ c.loop-end.invariant.1

pub loop-end-preserved : goal.loop-end-preserved
loop-end-preserved c = (omega arith, value_bar c.args.value c.args.puts.now c.loop-end.end _ c.loop-end-test.true c.loop-end.invariant.0 c.in-Bar.is ∙ c.loop-end.invariant.1)
