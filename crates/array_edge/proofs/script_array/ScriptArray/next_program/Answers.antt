use Rattle.std.proofs.Common.{arith}
use Rattle.array_edge.proofs.Reached.{room_program, within_later}
use Rattle.array_edge.proofs.script_array.ScriptArray.next_program.Goals as goal

pub invariant_of-self : goal.invariant_of-self
invariant_of-self g c = record {
  valid = c.self.invariant.valid;
  within = within_later c.self.inside.hits c.self.inside.faults c.self.inside.cuts c.self.inside.programs c.saturating_add-self-inside.result c.self.inside.fetches c.self.inside.fetches (omega arith) (omega arith) c.self.invariant.within;
  power = c.self.invariant.power;
  past_programs = rw c.as_slice.ensures at c.meet_hit.ensures.past;
  past_fetches = c.self.invariant.past_fetches;
}

pub returns-clause-room : goal.returns-clause-room
returns-clause-room g c = room_program c.meet_hit.result c.self.inside.hits c.self.inside.faults c.self.inside.cuts c.self.inside.programs c.saturating_add-self-inside.result c.self.inside.fetches
    c.saturating_add-self-inside.ensures (omega arith) (rw c.as_slice.ensures at c.meet_hit.ensures.met) c.meet_hit.ensures.hit c.self.invariant.within
