use Rattle.std.proofs.Common.{rules}
use Rattle.intent_store.specs.Calls.{none_cut, one_cut}
use Rattle.world.proofs.boot.open_first.Goals as goal

pub loop-cuts-init : goal.loop-cuts-init
loop-cuts-init g c = record {
  few = search rules;
  cut = none_cut (g.A.Array.state c.args.array.now);
  kept = search rules;
  card = search rules;
  image = λ image. image;
  was_image = λ image. image;
}

pub loop-cuts-preserved : goal.loop-cuts-preserved
loop-cuts-preserved g c = record {
  few = search rules;
  cut =
      one_cut c.loop-cuts.cuts (g.A.Array.state c.args.array.now) (g.A.Array.state c.loop-cuts.array) (g.A.Array.state c.boot.new.array) c.boot.result c.loop-cuts.invariant.cut (search rules)
      (record { ends = c.boot.ensures.ends; calls = c.boot.ensures.calls; few = c.boot.ensures.few });
  kept = search rules;
  card = search rules;
  image = λ image. c.boot.ensures.image (c.loop-cuts.invariant.image image);
  was_image = λ image. c.loop-cuts.invariant.was_image (c.boot.ensures.was_image image);
}
