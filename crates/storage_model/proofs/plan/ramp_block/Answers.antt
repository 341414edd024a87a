use Rattle.std.proofs.Common.{◌≡◌, ◌+◌, ◌*◌, arith, refl}
use Rattle.storage_model.proofs.Ramps.{ramp_start, ramp_more, ramp_whole}
use Rattle.storage_model.proofs.plan.ramp_block.Goals as goal

pub loop-i-init : goal.loop-i-init
loop-i-init c = (ramp_start c.args.start c.args.k, omega arith)

pub loop-i-preserved : goal.loop-i-preserved
loop-i-preserved c = (ramp_more c.args.start c.args.k (c.from.result + 31 * c.from-2.result) c.loop-i.i _ c.loop-i.byte-items (omega arith) (omega arith) refl c.loop-i.invariant.0, omega arith)

pub returns : goal.returns
returns c = ramp_whole c.args.start c.args.k 512 c.loop-i.byte-items (omega arith) (let n : c.loop-i.i ≡ 512 = omega arith in rw n at c.loop-i.invariant.0)
