use Rattle.trace_effects.proofs.Puts.{puts_more, puts_start}
use Rattle.trace_effects.proofs.keeping.puts_of.Goals as goal

pub loop-k-init : goal.loop-k-init
loop-k-init c = let start = puts_start c.args.plan.now.blocks c.args.sector c.args.fill c.args.reliable in cc

pub loop-k-preserved : goal.loop-k-preserved
loop-k-preserved c = let more = puts_more c.args.plan.now.blocks c.args.sector c.args.fill c.args.reliable c.loop-k.k in let pushed = c.in_ok-push.ensures.ok in cc
