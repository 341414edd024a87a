use Rattle.any_order.proofs.steps.take.Goals as goal

pub take_steps-requires : goal.take_steps-requires
take_steps-requires g c =
    let new = c.requires.new in
    let boots = c.in_ok-boot.ensures.boots new.plan new.faults new.valid new.coming new.fresh in
    record { ready = boots.ready }
