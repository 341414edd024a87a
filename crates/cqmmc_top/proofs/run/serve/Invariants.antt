use Rattle.cqmmc_top.proofs.run.serve.Given as goal

abbrev pub ghosts-serve_over : goal.ghosts-serve_over
ghosts-serve_over g a = record { start = g.A.Array.state a.array; hits = a.ready.hits }
