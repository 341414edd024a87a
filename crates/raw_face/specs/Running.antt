-- The engine let run, and what it prints.
use Rattle.std.specs.Prelude.{◌≡◌, ◌≢◌, false, List, ◌++◌, Result, Err}
use Rattle.cq_engine.specs.declared.did.Did.{Did}
use Rattle.raw_face.specs.Output.{Output, nothing}
use Rattle.raw_machine.specs.Machine.{Moment}
use Rattle.raw_machine.specs.Running.{GoesOn, Happens, Step, end_after, goes_on, lines_of, steps_lines}
use Rattle.storage_model.specs.declared.ends.Halt.{Halt}
use Rattle.storage_model.specs.declared.ends.Halt.TheVariants.{SinkFailed}

-- what is printed after an event
abbrev pub output_after : Did → Output
output_after did = record { lines = lines_of did; end = end_after did }

-- The engine ran: events after which it goes on, and a last one after which it doesn't. Where the sink failed it may be any after which
-- something is printed.
pub record Runs (old : Moment) (result : Result (Unit {0}) Halt) (output : Output) (new : Moment) : Type 0 where
  pub steps : List Step
  pub between : Moment
  pub last : Did
  pub before : GoesOn old steps between
  pub event : Happens between last new
  pub over : result ≢ Err SinkFailed → goes_on last new.machine.regs ≡ false
  pub printed : result ≡ Err SinkFailed → output_after last ≢ nothing
  pub shown : output ≡ record { lines = steps_lines steps ++ lines_of last; end = end_after last }
