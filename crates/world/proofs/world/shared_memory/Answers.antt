use Rattle.std.proofs.Common.{arith}
use Rattle.world.proofs.Memory.{layout_below}
use Rattle.world.proofs.world.shared_memory.Goals as goal

pub start-requires : goal.start-requires
start-requires c =
    let below = layout_below c.args.driver.now.requests.plan c.requires.valid in
    rw (c.layout-layout.ensures, c.size.ensures) (omega (arith, below))
