use Rattle.unit_laws.proofs.Ones.{left_of_sectors, mix_of_sector, stand_one}
use Rattle.unit_laws.proofs.Runs.{phase_of_sectors}
use Rattle.unit_laws.proofs.Steps.{step_of_sectors}
use Rattle.unit_laws.proofs.laws.units_of_one_are_sectors.Goals as goal

pub returns-clause-mix : goal.returns-clause-mix
returns-clause-mix c = λ form one base pend e s left. mix_of_sector form one base pend e s left

pub returns-clause-left : goal.returns-clause-left
returns-clause-left c = λ form one base pend after. left_of_sectors form one base pend after

pub returns-clause-runs : goal.returns-clause-runs
returns-clause-runs c = λ form one pend. stand_one form one pend

pub returns-clause-phase : goal.returns-clause-phase
returns-clause-phase c = λ form plain s job count. phase_of_sectors form plain s job count

pub returns-clause-step : goal.returns-clause-step
returns-clause-step c = λ form one s. step_of_sectors form one s
