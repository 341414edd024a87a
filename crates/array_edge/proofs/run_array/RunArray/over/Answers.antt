use Rattle.array_edge.proofs.Reaching.{met_none, run_none}
use Rattle.array_edge.proofs.run_array.RunArray.over.Goals as goal

pub invariant_of-result : goal.invariant_of-result
invariant_of-result g c = (
  rw (c.requires.fresh.0, c.requires.fresh.1, c.requires.start) (run_none g.S.RunStart.start c.args.script.hits),
  rw (c.requires.fresh.0, c.requires.fresh.1, c.requires.fresh.2, c.requires.fresh.3, c.requires.start) (met_none g.S.RunStart.start c.args.script.hits c.requires.valid),
  c.requires.hits,
)
