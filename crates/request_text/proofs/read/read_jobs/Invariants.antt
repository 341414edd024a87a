use Rattle.std.proofs.Common.{◌≡◌, ◌++◌, length}
use Rattle.request_text.specs.Lines.{IsSound}
use Rattle.request_text.specs.Requests.{requests_text}
use Rattle.request_text.proofs.read.read_jobs.Given as goal

-- what is left stands after the requests so far
abbrev pub invariant-loop-rest : goal.invariant-loop-rest
invariant-loop-rest l = record {
  sound : IsSound l.requests;
  parts : l.text ≡ requests_text l.requests.blocks l.requests.jobs ++ l.rest;
}

abbrev pub decreases-loop-rest : goal.decreases-loop-rest
decreases-loop-rest l = length l.rest
