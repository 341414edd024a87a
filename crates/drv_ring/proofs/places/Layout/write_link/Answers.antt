use Rattle.std.proofs.Common.{◌≡◌, ◌+◌, ◌-◌, ap, ◌∙◌, arith}
use Rattle.cq_chain.specs.Descriptors.{size_of}
use Rattle.drv_ring.specs.Layout.{row_at}
use Rattle.drv_ring.proofs.Filled.{gap-none, gap-link}
use Rattle.drv_ring.proofs.places.Layout.write_link.Goals as goal

pub returns-then-k-eq0-clause-within : goal.returns-then-k-eq0-clause-within
returns-then-k-eq0-clause-within c = gap-none c.args.self.now c.args.tag c.args.k c.args.mem.now

pub returns-clause-within : goal.returns-clause-within
returns-clause-within c =
    let a = c.args in
    let at = c.row_at.result + c.descriptor_size.result in
    let is : at ≡ row_at a.self.now a.tag (a.k - 1) + size_of a.self.now.wide =
    ap (λ p. p + c.descriptor_size.result) c.row_at.ensures ∙ ap (λ n. row_at a.self.now a.tag (a.k - 1) + n) c.descriptor_size.ensures in
    gap-link a.self.now a.tag a.k at a.mem.now c.write_descriptor.new.mem (omega (arith, c.if-k-eq0.false)) is (omega (arith, c.if-k-ne0.false)) c.write_descriptor.ensures.within
