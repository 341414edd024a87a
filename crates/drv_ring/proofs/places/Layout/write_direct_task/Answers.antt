use Rattle.std.proofs.Common.{ap, ◌∙◌}
use Rattle.cq_desc.specs.Direct.{direct_read}
use Rattle.drv_ring.proofs.Placed.{slot-first, slot-within}
use Rattle.drv_ring.proofs.places.Layout.write_direct_task.Goals as goal

pub returns-clause-word : goal.returns-clause-word
returns-clause-word c =
    let a = c.args in
    let first = c.write_words in
    let second = c.write_nothing in
    ap direct_read
    (slot-first a.self.now a.tag c.slot_at-slot.result c.descriptor_size.result a.mem.now first.new.mem second.new.mem c.requires.layout c.requires.tag
    c.slot_at-slot.ensures c.descriptor_size.ensures first.ensures.within second.ensures.within
    ∙ first.ensures.low)
    ∙ c.write_direct.ensures.read_again c.requires.range

pub returns-clause-within : goal.returns-clause-within
returns-clause-within c =
    let a = c.args in
    let first = c.write_words in
    let second = c.write_nothing in
    slot-within a.self.now a.tag c.slot_at-slot.result c.descriptor_size.result a.mem.now first.new.mem second.new.mem
    c.slot_at-slot.ensures c.descriptor_size.ensures first.ensures.within second.ensures.within
