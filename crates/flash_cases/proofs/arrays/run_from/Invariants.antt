use Rattle.flash_cases.proofs.arrays.run_from.Given as goal

abbrev pub ghosts-run_script : goal.ghosts-run_script
ghosts-run_script g a = record { start = g.A.Array.state a.array; hits = a.hits }
