use Rattle.std.proofs.Common.{arith}
use Rattle.array_edge.proofs.Reached.{room_fetch, within_later}
use Rattle.array_edge.proofs.script_array.ScriptArray.next_fetch.Goals as goal

pub invariant_of-self : goal.invariant_of-self
invariant_of-self g c = record {
  valid = c.self.invariant.valid;
  within = within_later c.self.inside.hits c.self.inside.faults c.self.inside.cuts c.self.inside.programs c.self.inside.programs c.self.inside.fetches c.saturating_add-self-inside.result (omega arith) (omega arith) c.self.invariant.within;
  power = c.self.invariant.power;
  past_programs = c.self.invariant.past_programs;
  past_fetches = rw c.as_slice.ensures at c.meet_hit.ensures.past;
}

pub returns-clause-room : goal.returns-clause-room
returns-clause-room g c = room_fetch c.meet_hit.result c.self.inside.hits c.self.inside.faults c.self.inside.cuts c.self.inside.programs c.self.inside.fetches c.saturating_add-self-inside.result
    c.saturating_add-self-inside.ensures (omega arith) (rw c.as_slice.ensures at c.meet_hit.ensures.met) c.meet_hit.ensures.hit c.self.invariant.within
