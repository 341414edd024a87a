-- The letter's line of a step, with which it begins, and the actor's event behind it.
use Rattle.std.specs.Prelude.{◌≡◌, ◌∷◌, ℕ, List, [], Result, Ok, Err}
use Rattle.storage_model.specs.declared.ends.Halt.{Halt}
use Rattle.storage_model.specs.declared.ends.Halt.TheVariants.{SinkFailed}
use Rattle.storage_model.specs.declared.faults.Letter.{Letter}
use Rattle.storage_model.specs.declared.faults.Letter.TheVariants.{Host as HostActs, Engine as EngineActs, Card as CardActs, Cut as PowerActs}
use Rattle.storage_model.specs.declared.trace.Item.TheVariants.{Turn}
use Rattle.trace_text.specs.Trace.{items_text}
use Rattle.array_edge.specs.Array.{ArrayState}
use Rattle.power_step.specs.Wrote.{TakesPart}
use Rattle.step_laws.specs.Acts.{CardActed, EngineActed, HostActed, PowerActed}
use Rattle.step_laws.specs.Steps.{letter_lines}
use Rattle.world_state.specs.Path.{PathState}
use Rattle.world_steps.specs.World.{WorldState}

-- it was written; where the sink failed, in part
abbrev pub BeginsStep : {K : Type 0} → (K → List ℕ → K → Type 0) → WorldState → Letter → K → Result (Unit {0}) Halt → K → Type 0
BeginsStep took w actor old (Ok done) new = took old (items_text (letter_lines w actor)) new
BeginsStep took w actor old (Err halt) new = (halt ≡ SinkFailed) × (letter_lines w actor ≡ Turn actor ∷ []) × TakesPart took old (Turn actor ∷ []) new

-- the event of an actor
abbrev pub ActedBy : {K : Type 0} → (K → List ℕ → K → Type 0) → Letter → PathState → ArrayState → K → Result (Unit {0}) Halt → PathState → ArrayState → K → Type 0
ActedBy took HostActs p a old result p' a' new = HostActed took p a old result p' a' new
ActedBy took EngineActs p a old result p' a' new = EngineActed took p a old result p' a' new
ActedBy took CardActs p a old result p' a' new = CardActed took p a old result p' a' new
ActedBy took PowerActs p a old result p' a' new = PowerActed took p a old result p' a' new
