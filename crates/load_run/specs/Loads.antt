-- What the run of a load promises.
use Rattle.std.specs.Prelude.{◌≡◌, ℕ, [], Err}
use Rattle.storage_model.specs.Plan.{IsValidPlan}
use Rattle.storage_model.specs.declared.ends.Halt.TheVariants.{SinkFailed}
use Rattle.storage_model.specs.declared.faults.Faults.{Faults}
use Rattle.array_edge.specs.Array.{ArrayState}
use Rattle.load_count.specs.Counts.{counts}
use Rattle.load_count.specs.Lines.{Took, fresh}
use Rattle.load_count.specs.declared.sink.CountingSink.{CountingSink}
use Rattle.load_generator.specs.Load.{load_plan}
use Rattle.load_run.specs.declared.run.Loaded.{Loaded}
use Rattle.whole_run.specs.Whole.{Runs, halt_in}

-- no fault is to come
abbrev pub none : Faults
none = record { ready = []; bus = []; array = []; cuts = []; turns = [] }

-- It was a whole run of the plan of the number, whose lines were all taken, and the counts are those of its lines.
pub record Loads (n sectors : ℕ) (a : ArrayState) (loaded : Loaded) (a' : ArrayState) : Type 0 where
  pub valid : IsValidPlan (load_plan n sectors)
  pub sink : CountingSink
  pub runs : Runs Took (load_plan n sectors) none a fresh loaded.ended loaded.world a' sink
  pub whole : halt_in loaded.ended ≡ Err SinkFailed → ⊥
  pub counted : loaded.counts ≡ counts runs.lines
