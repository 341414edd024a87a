use Rattle.request_text.proofs.Readings.{none_behind, none_without, sound_more}
use Rattle.request_text.proofs.read.Requests.next.Goals as goal

pub returns-in_default : goal.returns-in_default
returns-in_default c = none_without c.args.self.now.jobs c.args.self.now.blocks c.args.rest.now c.in_default.ensures

pub returns-then-branch : goal.returns-then-branch
returns-then-branch c =
    let taken = rw c.if-branch.true at c.in_ok-take.ensures in
    record {
      line = c.in-Some.line.now;
      free = c.in-Some.ensures.1;
      text = c.in-Some.ensures.0;
      added = taken;
      sound = sound_more c.args.self.now c.take.new.self c.in-Some.line.now c.requires taken;
    }

pub returns-else-branch : goal.returns-else-branch
returns-else-branch c =
    let none = rw c.if-branch.false at c.in_ok-take.ensures in
    none_behind c.args.self.now.jobs c.args.self.now.blocks c.args.rest.now c.in-Some.line.now c.in-Some.after.now c.in-Some.ensures.0 c.in-Some.ensures.1 none
