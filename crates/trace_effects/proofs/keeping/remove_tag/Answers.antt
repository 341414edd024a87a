use Rattle.std.proofs.Common.{rules, ◌==◌, not}
use Rattle.std.proofs.lemmas.Fn.{filter_same}
use Rattle.trace_effects.proofs.keeping.remove_tag.Goals as goal

pub returns : goal.returns
returns c = let kept = filter_same _ (λ other. not (other == c.args.tag)) _ (λ x b f' k. search rules) _ _ c.retain.ensures.filtered in cc
