-- A run whose image was opened, from its openings to its end.
use Rattle.std.proofs.Common.{◌≡◌, ℕ, Bool, List, Option, Some, None, Result, Ok, Err, arith, inl, inr}
use Rattle.io_edge.specs.Sink.{Joins}
use Rattle.answer_laws.specs.Answers.{IsAnswered}
use Rattle.storage_machine.specs.declared.state.State.{State}
use Rattle.storage_model.specs.Count.{Count, Later, Rose}
use Rattle.storage_model.specs.declared.block.Block.{Block}
use Rattle.storage_model.specs.declared.ends.Halt.TheVariants.{SinkFailed}
use Rattle.storage_model.specs.declared.faults.Faults.{Faults}
use Rattle.storage_model.specs.declared.plan.Plan.{Plan}
use Rattle.storage_model.specs.declared.trace.Item.{Item}
use Rattle.run_laws.specs.Whole.{IsWholeFrontTaken, IsWholeTaken}
use Rattle.array_edge.specs.Array.{ArrayState}
use Rattle.array_edge.specs.Script.{HasMet, HasRun, IsWithinHits}
use Rattle.power_step.proofs.Counting.{later_both}
use Rattle.rest_array.specs.Rest.{CountsOn}
use Rattle.whole_run.specs.Whole.{Runs, halt_in}
use Rattle.whole_run.specs.declared.run.Stop.{Stop}
use Rattle.whole_run.specs.declared.run.Stop.TheVariants.{Before, Behind}
use Rattle.whole_run.proofs.Behind.{runs_on}
use Rattle.world.specs.Runs.{Boots}
use Rattle.world_steps.specs.World.{WorldState}
use Rattle.cqmmc_top.specs.Answers.{HasBegun, HasCalls}
use Rattle.cqmmc_top.specs.Command.{RunAnswers}
use Rattle.cqmmc_top.specs.Concludes.{Concludes, GoesOn}
use Rattle.cqmmc_top.specs.Texts.{AreFaultsOf, IsPlanOf}
use Rattle.cqmmc_top.proofs.Lines.{cuts_short, fails_short}
use Rattle.cqmmc_top.proofs.Openings.{openings}
use Rattle.cqmmc_top.proofs.Served.{answers, started, worked}

-- it ended well, or behind the first line
abbrev IsBehind : Result (Unit {0}) Stop → Type 0
IsBehind (Ok done) = Unit {0}
IsBehind (Err (Before halt)) = ⊥
IsBehind (Err (Behind halt)) = Unit {0}

module _ {K : Type 0} (took : K → List ℕ → K → Type 0) (both : Joins took) (faults_of : K → Count)
    (whole : (base : List Block) (plan : Plan) (faults : Faults) (lines : List Item) (t : State) → IsWholeTaken base plan faults lines t)
    (front : (base : List Block) (plan : Plan) (faults : Faults) (lines : List Item) → IsWholeFrontTaken base plan faults lines)
    (answered : (base : List Block) (plan : Plan) (faults : Faults) (lines : List Item) (id : ℕ) → IsAnswered base plan faults lines id)
    (requests fault_text : Option (List ℕ)) (first first' second second' : Count) (plan : Plan) (faults : Faults) (means : IsPlanOf requests plan) (meant : AreFaultsOf fault_text faults)
    (a m : ArrayState) (on_then : Bool) (failed cut asked looked : ℕ) (ran_then : HasRun a m faults.array asked looked) (met_then : HasMet a m faults.array failed cut asked looked)
    (b : ArrayState) (powered : Bool) (made lost programs fetches : ℕ) (within : IsWithinHits faults.array made lost programs fetches) (ran : HasRun a b faults.array programs fetches) (on : CountsOn m b)
    (old mid last new : K) (later_then : Later (faults_of old) (faults_of mid)) (later : Later (faults_of mid) (faults_of last)) (w1 w : WorldState) (status : ℕ) (world : Option WorldState)
    (some : status ≡ 0 → world ≡ Some w) (none : (status ≡ 0 → ⊥) → world ≡ None)
    (boots : Boots took plan faults (started a) old (Ok tt) w1 (worked m on_then failed cut asked looked) mid) where
  abbrev calls : HasCalls faults a m
  calls = record { programs = asked; fetches = looked; made = ran_then }

  begun : HasBegun faults a b
  begun =
      let few = meant.few in
      let fails = fails_short asked looked faults.array in
      let cuts = cuts_short asked looked faults.array in
      record { opened = m; calls = calls; openings = openings faults a m calls on_then failed cut met_then (omega (arith, fails, few)) (omega (arith, cuts, few)) (Ok tt) boots.openings; on = on }

  later_all : Later (faults_of old) (faults_of last)
  later_all = later_both (faults_of old) (faults_of mid) (faults_of last) later_then later

  rose_all : Rose (faults_of mid) (faults_of last) → Rose (faults_of old) (faults_of last)
  rose_all (inl up) = let low = later_then.value in inl (omega (arith, up, low))
  rose_all (inr end) = inr end

  after : (ended : Result (Unit {0}) Stop) → HasBegun faults a b → Runs took plan faults (started a) old ended w (worked b powered made lost programs fetches) last → IsBehind ended → Concludes took faults_of ended last status new
      → (halt_in ended ≡ Err SinkFailed → Rose (faults_of mid) (faults_of last)) → RunAnswers took faults_of requests first first' fault_text second second' a b old status world new
  after (Ok done) begun runs is says rose =
      answers took both faults_of whole front answered requests fault_text first first' second second' plan faults means meant a b powered made lost programs fetches within ran old last new later_all w status world some none
      (Ok done) begun runs says (λ is. rose_all (rose is))
  after (Err (Before halt)) begun runs is says rose = absurd is
  after (Err (Behind halt)) begun runs is says rose =
      answers took both faults_of whole front answered requests fault_text first first' second second' plan faults means meant a b powered made lost programs fetches within ran old last new later_all w status world some none
      (Err (Behind halt)) begun runs says (λ is. rose_all (rose is))

  pub behind : (ended : Result (Unit {0}) Stop) → GoesOn took w1 (worked m on_then failed cut asked looked) mid ended w (worked b powered made lost programs fetches) last → Concludes took faults_of ended last status new
      → (halt_in ended ≡ Err SinkFailed → Rose (faults_of mid) (faults_of last)) → RunAnswers took faults_of requests first first' fault_text second second' a b old status world new
  behind (Ok done) ends says rose =
      after (Ok tt) begun (runs_on took both plan faults (started a) old w1 (worked m on_then failed cut asked looked) mid w (worked b powered made lost programs fetches) last (Ok tt) boots ends) tt says rose
  behind (Err (Before halt)) ends says rose = absurd ends
  behind (Err (Behind halt)) ends says rose =
      after (Err (Behind halt)) begun (runs_on took both plan faults (started a) old w1 (worked m on_then failed cut asked looked) mid w (worked b powered made lost programs fetches) last (Err halt) boots ends) tt says rose
