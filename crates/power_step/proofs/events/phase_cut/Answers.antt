use Rattle.std.proofs.Common.{◌∙◌, ap}
use Rattle.trace_print.specs.Prints.{line_in}
use Rattle.world_state.specs.Path.{PathState}
use Rattle.power_step.proofs.Phases.{line_of}
use Rattle.power_step.proofs.events.phase_cut.Goals as goal

pub returns-clause-line : goal.returns-clause-line
returns-clause-line c =
    let inside = c.path.inside in
    let after : PathState = record { driver = inside.driver; regs = inside.regs; memory = inside.mem; engine = inside.engine; card = c.take_phase-phase.new.self; script = inside.script } in
    let line = c.phase_line.ensures c.args.path.now (ap (λ (p : PathState). p.driver) c.path.view_is) in
    line_of (line_in c.phase_line.result) c.args.path.now after c.take_phase-phase.result line (ap (λ (p : PathState). p.script) c.path.view_is)
    (c.take_phase-phase.ensures.value ∙ ap (λ (p : PathState). p.card.begun) c.path.view_is)
