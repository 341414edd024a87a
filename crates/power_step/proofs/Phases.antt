-- The line of the phase that is under way when power is lost.
use Rattle.std.proofs.Common.{◌≡◌, ◌∙◌, ◌∷◌, List, [], Option, None, Some, ap, refl}
use Rattle.storage_model.specs.declared.trace.Item.{Item}
use Rattle.storage_model.specs.declared.trace.Item.TheVariants.{Phase as PhaseLine}
use Rattle.card_core.specs.declared.phase.Phase.{Phase}
use Rattle.power_laws.specs.Power.{phase_cut}
use Rattle.world_state.specs.Engine.{id_at, phase_line_of}
use Rattle.world_state.specs.Path.{PathState}

same_sent : (p p' : PathState) (phase : Option Phase) → p'.script ≡ p.script → phase_line_of p p' phase ≡ phase_line_of p p phase
same_sent p p' None is = refl
same_sent p p' (Some phase) is = ap (λ script. PhaseLine script.sent (id_at p phase.task) phase.count phase.kept ∷ []) is

-- it is told of the path whose card has forgotten the phase
pub line_of : (lines : List Item) (p p' : PathState) (phase : Option Phase) → lines ≡ phase_line_of p p' phase → p'.script ≡ p.script → phase ≡ p.card.begun → lines ≡ phase_cut p
line_of lines p p' phase are script is = are ∙ (same_sent p p' phase script ∙ ap (phase_line_of p p) is)
