use Rattle.std.proofs.Common.{◌+◌, ap}
use Rattle.request_text.proofs.Readings.{text_more}
use Rattle.request_text.proofs.read.read_jobs.Goals as goal

pub loop-rest-preserved : goal.loop-rest-preserved
loop-rest-preserved c =
    let taken = rw c.in-Some.is at c.in_ok-after.ensures in
    record {
      sound = taken.sound;
      parts = text_more c.loop-rest.requests c.next.new.self c.args.text.now taken.line c.loop-rest.rest.now c.in-Some.after.now c.loop-rest.invariant.sound taken.added taken.text c.loop-rest.invariant.parts;
    }

pub returns-in_default-clause-bad : goal.returns-in_default-clause-bad
returns-in_default-clause-bad c =
    let none = rw c.in_default.is at c.in_ok-after.ensures in (
      c.loop-rest.requests.jobs,
      c.loop-rest.requests.blocks,
      c.loop-rest.rest.now,
      record {
        within = c.loop-rest.invariant.sound.within;
        parts = c.loop-rest.invariant.parts;
        more = λ e. let empty = rw e at c.is_empty.ensures in cc;
        none = none;
      },
      ap (λ n. c.args.settings + n + 1) c.len.ensures,
    )
