use Rattle.world.proofs.world.World.finish.Goals as goal

pub returns-clause-again : goal.returns-clause-again
returns-clause-again g c is = rw (← c.self.view_is) (c.end_run.ensures.again c.self.inside.order is)
