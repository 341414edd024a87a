use Rattle.std.proofs.Common.{◌∙◌}
use Rattle.drv_ring.proofs.Changed.{wide-low, wide-within}
use Rattle.drv_ring.proofs.words.write_words.Goals as goal

pub returns-then-wide-clause-low : goal.returns-then-wide-clause-low
returns-then-wide-clause-low c =
    let a = c.args in
    let first = c.write_word in
    let second = c.write_word-then-wide in
    wide-low a.wide c.if-wide.true a.mem.now first.new.mem second.new.mem a.at c.requires.inside first.ensures.within second.ensures.within
    ∙ first.ensures.written

pub returns-then-wide-clause-within : goal.returns-then-wide-clause-within
returns-then-wide-clause-within c =
    let a = c.args in
    let first = c.write_word in
    let second = c.write_word-then-wide in
    wide-within a.wide c.if-wide.true a.mem.now first.new.mem second.new.mem a.at first.ensures.within second.ensures.within
