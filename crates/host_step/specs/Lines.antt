-- The lines of an event of the host, as they are printed: answers before it, and the others after it.
use Rattle.std.specs.Prelude.{ℕ, List, [], ◌∷◌, ◌++◌, Result}
use Rattle.storage_model.specs.declared.ends.Halt.{Halt}
use Rattle.storage_model.specs.declared.trace.Item.{Item}
use Rattle.storage_model.specs.declared.trace.Item.TheVariants.{Issue, Recover}
use Rattle.array_edge.specs.Array.{ArrayState}
use Rattle.drv_core.specs.Work.{work_of}
use Rattle.drv_core.specs.declared.act.Act.{Act}
use Rattle.drv_core.specs.declared.act.Act.TheVariants.{Issued, Failed, Step as Stepped}
use Rattle.drv_core.specs.declared.work.Work.{Work}
use Rattle.drv_core.specs.declared.work.Work.TheVariants.{Collect}
use Rattle.trace_print.specs.Prints.{Takes}
use Rattle.world_state.specs.Host.{HostEvent, collect_lines, fault_lines, host_lines, step_lines}
use Rattle.world_state.specs.Path.{PathState}

abbrev pub answers_by : PathState → Work → List Item
answers_by p Collect = collect_lines p p.regs.completed
answers_by p work = []

abbrev pub answers_of : PathState → List Item
answers_of p = answers_by p (work_of p.driver.recovery p.regs)

abbrev pub lines_behind : ℕ → Act → List Item
lines_behind n (Issued id tag) = Issue id tag ∷ []
lines_behind n (Failed id why) = fault_lines id why ++ Recover ∷ []
lines_behind n (Stepped step) = step_lines n step
lines_behind n act = []

-- the event took place, and its lines were taken, or begun where the sink failed
pub record HostPrints {K : Type 0} (took : K → List ℕ → K → Type 0) (p : PathState) (a : ArrayState) (old : K) (result : Result (Unit {0}) Halt) (p' : PathState) (a' : ArrayState) (new : K) : Type 0 where
  pub act : Act
  pub event : HostEvent p a p' a' act
  pub taken : Takes took old (host_lines p p' act) result new
