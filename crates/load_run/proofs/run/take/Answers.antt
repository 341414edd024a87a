use Rattle.std.proofs.Common.{◌≡◌, Err, subst}
use Rattle.storage_model.specs.declared.ends.Halt.TheVariants.{SinkFailed}
use Rattle.load_count.specs.Lines.{Took}
use Rattle.load_generator.specs.Load.{load_plan}
use Rattle.load_run.specs.Loads.{none}
use Rattle.whole_run.specs.Whole.{Runs, halt_in}
use Rattle.load_run.proofs.Taken.{all_taken, never_rose, none_come}
use Rattle.load_run.proofs.run.take.Goals as goal

pub returns : goal.returns
returns g c = λ n sectors valid fresh.
    let run = c.run_to_end-ended in
    let plan = load_plan n sectors in
    let runs =
    subst (λ sink. Runs Took plan none (g.A.Array.state c.args.array.now) sink run.result run.new.world (g.A.Array.state run.new.array) run.new.out) c.new-out.ensures
    (run.ensures.runs plan none valid none_come fresh) in
    let whole : halt_in run.result ≡ Err SinkFailed → ⊥ = λ is. never_rose (run.ensures.failed is) in
    record {
      valid = valid;
      sink = run.new.out;
      runs = runs;
      whole = whole;
      counted = c.counts.ensures runs.lines (all_taken Took _ runs.lines (halt_in run.result) run.new.out whole runs.wrote);
    }
