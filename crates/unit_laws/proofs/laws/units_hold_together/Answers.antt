use Rattle.unit_laws.proofs.Parts.{are_bars, are_units, part_whole}
use Rattle.unit_laws.proofs.Runs.{are_puts, are_runs}
use Rattle.unit_laws.proofs.Steps.{stops}
use Rattle.unit_laws.proofs.Whole.{old_or_new}
use Rattle.unit_laws.proofs.laws.units_hold_together.Goals as goal

pub returns-clause-puts : goal.returns-clause-puts
returns-clause-puts c = λ form blocks sector fill reliable before units. are_puts form blocks sector fill reliable before units

pub returns-clause-runs : goal.returns-clause-runs
returns-clause-runs c = λ form blocks sector fill reliable before units. are_runs form blocks sector fill reliable before units

pub returns-clause-stop : goal.returns-clause-stop
returns-clause-stop c = λ form s n id. stops form s n id

pub returns-clause-whole : goal.returns-clause-whole
returns-clause-whole c = λ form base pend run left. old_or_new form base pend run left

pub returns-clause-blocks : goal.returns-clause-blocks
returns-clause-blocks c = are_units

pub returns-clause-bars : goal.returns-clause-bars
returns-clause-bars c = are_bars

pub returns-clause-part : goal.returns-clause-part
returns-clause-part c = part_whole
