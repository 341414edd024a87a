use Rattle.std.proofs.Common.{◌≡◌, Err, IfErr, Ok, Result}
use Rattle.std.proofs.lemmas.Result.{err_from_is_err_and}
use Rattle.cqmmc_top.specs.Answers.{IsUnready, by_faults, by_memory, by_requests}
use Rattle.cqmmc_top.specs.declared.prepare.Ready.{Ready}
use Rattle.cqmmc_top.specs.declared.refusal.Refusal.{Refusal}
use Rattle.cqmmc_top.specs.declared.refusal.Refusal.TheVariants.{NoMemory}
use Rattle.cqmmc_top.proofs.prepare.prepare.Goals as goal

pub returns-in_err-plan-clause-refused : goal.returns-in_err-plan-clause-refused
returns-in_err-plan-clause-refused g c = let p = err_from_is_err_and c.from_residual.result c.from_residual.ensures.1 in rw (p.1, p.2) (by_requests c.in_err-plan.ensures.err)

pub returns-in_err-faults-clause-refused : goal.returns-in_err-faults-clause-refused
returns-in_err-faults-clause-refused g c =
    let p = err_from_is_err_and c.from_residual-in_err-faults.result c.from_residual-in_err-faults.ensures.1 in rw (p.1, p.2) (by_faults c.in_ok-plan.ensures.ok c.in_err-faults.ensures.err)

pub returns-clause-refused : goal.returns-clause-refused
returns-clause-refused g c = for_want _ c.take_world.ensures.memory
  where
    for_want : (result : Result Ready Refusal) → IfErr result (λ refusal. refusal ≡ NoMemory)
        → IfErr result (IsUnready (g.S1.Source.left c.args.first.now) (g.S1.Source.faults c.args.first.now) (g.S1.Source.faults c.take_plan.new.source) (g.S2.Source.left c.args.second.now) (g.S2.Source.faults c.args.second.now)
        (g.S2.Source.faults c.take_faults.new.source))
    for_want (Ok ready) is = tt
    for_want (Err refusal) is = rw is (by_memory c.in_ok-plan.ensures.ok c.in_ok-faults.ensures.ok)
