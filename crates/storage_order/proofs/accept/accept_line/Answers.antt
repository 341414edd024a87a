use Rattle.std.proofs.Common.{◌∙◌, sym, ap}
use Rattle.trace_effects.specs.Effects.{effect}
use Rattle.trace_rules.specs.Steps.{event_rule, lower}
use Rattle.storage_order.proofs.Accepts.{holds_unbroken, restored, rule_is}
use Rattle.storage_order.proofs.Settles.{settled_keeps}
use Rattle.trace_effects.proofs.Sounds.{effect_keeps, sound_kept}
use Rattle.storage_order.proofs.accept.accept_line.Goals as goal

pub returns-in-Some-clause-cause : goal.returns-in-Some-clause-cause
returns-in-Some-clause-cause c =
    rule_is c.args.s.now c.settle-order.new.s c.args.item.now c.settle-order.result _ c.settle-order.ensures.state c.settle-order.ensures.rule
    (sym c.in-Some.is ∙ c.rule_of.ensures)

pub returns-in-Some-clause-same : goal.returns-in-Some-clause-same
returns-in-Some-clause-same c =
    restored c.args.s.now c.settle-order.new.s _ c.args.item.now c.silent_of-before.result c.settle-order.ensures.state c.restore.ensures c.silent_of-before.ensures

pub returns-in-Some-clause-sound : goal.returns-in-Some-clause-sound
returns-in-Some-clause-sound c =
    let same = restored c.args.s.now c.settle-order.new.s c.restore.new.s c.args.item.now c.silent_of-before.result c.settle-order.ensures.state c.restore.ensures c.silent_of-before.ensures in
    rw same c.requires

pub apply-requires-clause-sound : goal.apply-requires-clause-sound
apply-requires-clause-sound c =
    rw c.settle-order.ensures.state (sound_kept c.args.s.now _ (settled_keeps c.args.s.now c.args.item.now c.silent_of-before.result) c.requires)

pub apply-requires-clause-holds : goal.apply-requires-clause-holds
apply-requires-clause-holds c =
    holds_unbroken c.settle-order.new.s c.args.item.now (lower c.settle-order.result (event_rule c.settle-order.new.s c.args.item.now)) (sym c.rule_of.ensures ∙ c.in-None.is)

pub returns-in-Ok-clause-accepted : goal.returns-in-Ok-clause-accepted
returns-in-Ok-clause-accepted c = (
  rule_is c.args.s.now c.settle-order.new.s c.args.item.now c.settle-order.result _ c.settle-order.ensures.state c.settle-order.ensures.rule (sym c.in-None.is ∙ c.rule_of.ensures),
  c.in-Ok.ensures.ok ∙ ap (λ t. effect t c.args.item.now) c.settle-order.ensures.state,
)

pub returns-in-Ok-clause-sound : goal.returns-in-Ok-clause-sound
returns-in-Ok-clause-sound c =
    let settled = sound_kept c.args.s.now _ (settled_keeps c.args.s.now c.args.item.now c.silent_of-before.result) c.requires in
    rw (c.in-Ok.ensures.ok, c.settle-order.ensures.state) (sound_kept _ _ (effect_keeps _ c.args.item.now) settled)

pub returns-in-Err-clause-same : goal.returns-in-Err-clause-same
returns-in-Err-clause-same c =
    restored c.args.s.now c.apply.new.s _ c.args.item.now c.silent_of-before.result (c.in-Err.ensures.err ∙ c.settle-order.ensures.state) c.restore-in-Err.ensures c.silent_of-before.ensures

pub returns-in-Err-clause-sound : goal.returns-in-Err-clause-sound
returns-in-Err-clause-sound c =
    let same = restored c.args.s.now c.apply.new.s c.restore-in-Err.new.s c.args.item.now c.silent_of-before.result (c.in-Err.ensures.err ∙ c.settle-order.ensures.state) c.restore-in-Err.ensures c.silent_of-before.ensures in
    rw same c.requires
