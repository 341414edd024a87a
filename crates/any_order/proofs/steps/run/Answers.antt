use Rattle.any_order.proofs.steps.run.Goals as goal

pub take-requires : goal.take-requires
take-requires g c = record {
  new = record {
    plan = c.args.plan;
    faults = c.args.faults;
    valid = c.requires.plan;
    coming = record { hits = c.requires.faults.bus; small = c.requires.faults.hits };
    fresh = c.in-Ok.ensures.fresh;
  };
}
