use Rattle.cqmmc_top.proofs.run.serve_over.Given as goal

abbrev pub ghosts-serve_behind : goal.ghosts-serve_behind
ghosts-serve_behind g a = record { start = g.S.RunStart.start; moment = g.A.Array.state a.script.inner; hits = a.script.hits }
