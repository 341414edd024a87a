use Rattle.std.proofs.Common.{ap, ◌∙◌, arith}
use Rattle.cq_desc.specs.Task.{task_read}
use Rattle.drv_ring.proofs.Placed.{slot-first, slot-within}
use Rattle.drv_ring.proofs.places.Layout.write_data_slot.Goals as goal

pub returns-clause-word : goal.returns-clause-word
returns-clause-word c =
    let a = c.args in
    let first = c.write_words in
    let second = c.write_descriptor in
    ap task_read
    (slot-first a.self.now a.tag c.slot_at-slot.result c.descriptor_size.result a.mem.now first.new.mem second.new.mem c.requires.layout
    (omega (arith, c.requires.tag, c.requires.layout.depth)) c.slot_at-slot.ensures c.descriptor_size.ensures first.ensures.within
    second.ensures.within
    ∙ first.ensures.low)
    ∙ c.write_task.ensures.read_again c.requires.context

pub returns-clause-within : goal.returns-clause-within
returns-clause-within c =
    let a = c.args in
    let first = c.write_words in
    let second = c.write_descriptor in
    slot-within a.self.now a.tag c.slot_at-slot.result c.descriptor_size.result a.mem.now first.new.mem second.new.mem
    c.slot_at-slot.ensures c.descriptor_size.ensures first.ensures.within second.ensures.within
