-- An event of the engine that prints nothing: a block of the phase under way moved.
use Rattle.std.proofs.Common.{◌≡◌, ◌≤◌, ◌+◌, ℕ, refl, sym, ◌∙◌, ap}
use Rattle.std.specs.Prelude.{true, false, not, cond, nat_le, ◌&&◌, []}
use Rattle.std.proofs.lemmas.Bool.{le-leb}
use Rattle.storage_machine.specs.Commands.{due, hit, is_gone, job_on}
use Rattle.storage_machine.specs.Jobs.{phase_blocks}
use Rattle.storage_machine.specs.declared.commands.DueCommand.TheVariants.{Execute}
use Rattle.storage_machine.specs.declared.state.Event.TheVariants.{Told, Untold}
use Rattle.storage_machine.specs.declared.state.Owed.TheVariants.{Nothing}
use Rattle.storage_machine.specs.declared.state.State.{State}
use Rattle.storage_model.specs.declared.faults.Letter.TheVariants.{Engine as EngineActs}
use Rattle.storage_order.specs.Events.{Happens, end_rule, ended, engine_may_pass, engine_step, is_untold, may_pass, passed}
use Rattle.trace_effects.specs.Effects.{begun}
use Rattle.trace_rules.specs.Lines.{is_free}
use Rattle.trace_rules.specs.Steps.{unless}

-- the machine goes on with the phase
abbrev pub gone_on : State → State
gone_on s = record s { owed = Nothing; event = Untold; busy = true; spent = s.spent + 1 }

may_go : (s : State) (tag : ℕ) → is_gone (hit s) ≡ false → s.spent ≤ phase_blocks (job_on s tag) → may_pass s (Execute tag) ≡ true
may_go s tag heard few =
    ap (λ b. not b && nat_le s.spent (phase_blocks (job_on s tag))) heard ∙ le-leb s.spent (phase_blocks (job_on s tag)) few

told_due : (s : State) → due (record s { owed = Nothing; event = Told EngineActs }) ≡ due s
unfolding due
told_due s = refl

told_hit : (s : State) → hit (record s { owed = Nothing; event = Told EngineActs }) ≡ hit s
unfolding due hit
told_hit s = refl

untold_due : (s : State) → due (record s { owed = Nothing; event = Untold }) ≡ due s
unfolding due
untold_due s = refl

untold_hit : (s : State) → hit (record s { owed = Nothing; event = Untold }) ≡ hit s
unfolding due hit
untold_hit s = refl

pub passes : (s : State) (tag : ℕ) → is_free s.owed ≡ true → is_untold s.event ≡ true → due s ≡ Execute tag → is_gone (hit s) ≡ false
    → s.spent ≤ phase_blocks (job_on s tag) → Happens s EngineActs [] (gone_on s)
unfolding begun end_rule ended engine_may_pass engine_step
passes s tag free untold is heard few =
    let told : State = record s { owed = Nothing; event = Told EngineActs } in
    let quiet : State = record s { owed = Nothing; event = Untold } in
    let may : may_pass told (Execute tag) ≡ true = may_go told tag (ap is_gone (told_hit s) ∙ heard) few in
    let may_quiet : may_pass quiet (Execute tag) ≡ true = may_go quiet tag (ap is_gone (untold_hit s) ∙ heard) few in
    record {
      free = free;
      untold = untold;
      makes = (
        ap (λ d. unless (may_pass told d) 14) (told_due s ∙ is) ∙ ap (λ b. unless b 14) may,
        sym (ap (passed quiet) (untold_due s ∙ is) ∙ ap (λ b. cond b (record quiet { busy = true; spent = s.spent + 1 }) quiet) may_quiet),
      );
    }
