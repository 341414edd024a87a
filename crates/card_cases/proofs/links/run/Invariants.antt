use Rattle.card_cases.proofs.links.run.Given as goal

abbrev pub invariant-loop-k : goal.invariant-loop-k
invariant-loop-k g l = g.L.Link.fits l.link
