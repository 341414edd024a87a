use Rattle.std.proofs.Common.{◌≡◌, ◌+◌, ◌<◌, ◌≤◌, ap, arith, length}
use Rattle.std.specs.Prelude.{sum_by}
use Rattle.storage_model.specs.Plan.{blocks_of}
use Rattle.request_text.proofs.Readings.{blocks_fit, lists_read, no_request, one_read, read_follows}
use Rattle.request_text.proofs.read.Requests.take.Goals as goal

pub overflow_cast-len : goal.overflow_cast-len
overflow_cast-len c = omega (arith, c.len.ensures, blocks_fit c.args.self.now c.requires)

pub returns-in_default : goal.returns-in_default
returns-in_default c = no_request c.len.result c.args.self.now.jobs c.args.self.now.blocks c.args.line.now c.len.ensures c.in_default.ensures.none

pub returns-then-not-within : goal.returns-then-not-within
returns-then-not-within c = λ job more follows.
    let read = c.in-Some.ensures.some in
    let one = one_read c.len.result c.args.self.now.jobs c.args.self.now.blocks c.args.line.now c.in-Some.digits.now c.in-Some.job c.len.ensures read.0 read.1 read.2 job more follows in
    let moves : blocks_of c.in-Some.job ≡ blocks_of job = ap blocks_of one.0 in
    let held = rw c.if-not-within.true at c.within.ensures.1 (omega (arith, c.len-2.ensures, follows.count), omega (arith, c.requires.sum, c.blocks_moved.ensures, moves, follows.moved)) in
    cc

pub returns-then-not-branch : goal.returns-then-not-branch
returns-then-not-branch c = λ job more follows.
    let read = c.in-Some.ensures.some in
    let one = one_read c.len.result c.args.self.now.jobs c.args.self.now.blocks c.args.line.now c.in-Some.digits.now c.in-Some.job c.len.ensures read.0 read.1 read.2 job more follows in
    let none = rw c.if-not-branch.true at c.in_ok-take_listed.ensures in
    none more (lists_read c.in-Some.digits.now c.args.line.now c.args.self.now.jobs c.args.self.now.blocks c.in-Some.job job more one follows)

pub returns : goal.returns
returns c =
    let read = c.in-Some.ensures.some in
    let listed = rw c.if-not-branch.false at c.in_ok-take_listed.ensures in
    let fits = c.within.ensures.0 c.if-not-within.false in
    let count : length c.args.self.now.jobs < 65536 = omega (arith, c.len-2.ensures, fits.0) in
    let moved : sum_by blocks_of c.args.self.now.jobs + blocks_of c.in-Some.job ≤ 131072 = omega (arith, c.requires.sum, c.blocks_moved.ensures, fits.1) in
    record {
      job = c.in-Some.job;
      listed = listed.blocks;
      follows = read_follows c.len.result c.args.self.now.jobs c.args.self.now.blocks c.args.line.now c.in-Some.digits.now c.in-Some.job listed.blocks c.len.ensures read.0 read.1 read.2 listed.lists count moved;
      jobs = c.in_ok-push.ensures.ok;
      blocks = listed.list;
      moved = ap (λ n. c.args.self.now.moved + n) c.blocks_moved.ensures;
    }
