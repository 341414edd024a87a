use Rattle.std.proofs.Common.{subst, sym}
use Rattle.cqmmc_top.specs.Opened.{HasSectors}
use Rattle.cqmmc_top.proofs.Loading.{answers}
use Rattle.cqmmc_top.proofs.load.load.Goals as goal

pub returns-in-Ok-run_load : goal.returns-in-Ok-run_load
returns-in-Ok-run_load g c =
    answers g.K.Sink.took g.K.Sink.faults c.acceptance_takes_whole_runs.ensures.whole c.acceptance_takes_whole_runs.ensures.written c.args.seed c.sectors.result (g.A.Array.state c.args.array) (g.A.Array.state c.open.new.array)
    (g.A.Array.state c.run_load.new.array) c.in-Ok.ensures.image (subst (HasSectors (g.A.Array.state c.args.array)) (sym c.sectors.ensures.value) c.in-Ok.ensures.sectors) c.in-Ok.ensures.shown (c.in-Ok.ensures.kept c.in-Ok.ensures.image) c.in-Ok.ensures.faults c.in-Ok.ensures.cuts c.args.out.now c.conclude-status.result.0 c.conclude-status.result.1
    c.conclude-status.new.out c.conclude-status.ensures.other c.in-Ok-run_load.loaded c.in-Ok-run_load.ensures.loads c.conclude-status.ensures.concludes c.conclude-status.ensures.well
