use Rattle.std.proofs.Common.{◌≡◌, ◌/◌, ◌%◌, ◌+◌, ◌-◌, ◌++◌, ◌∙◌, arith, ap, drop}
use Rattle.host_mem.proofs.PageLaws.{part_read, page_within}
use Rattle.host_mem.proofs.pages.Pages.copy_part_out.Goals as goal

pub index-requires : goal.index-requires
index-requires c =
    let within = page_within c.self.inside.pages.items c.args.self.now (c.args.at / 4096) (c.args.at % 4096) c.args.at c.self.invariant c.self.view_is (omega arith) (omega (arith, c.requires.some, c.requires.within)) in
    omega (arith, c.self.inside.pages.ok.0)

pub returns-clause-copied : goal.returns-clause-copied
returns-clause-copied c =
    let start = c.args.at % 4096 in
    let count = c.min-count.result in
    let within = page_within c.self.inside.pages.items c.args.self.now (c.args.at / 4096) start c.args.at c.self.invariant c.self.view_is (omega arith) (omega (arith, c.requires.some, c.requires.within)) in
    let n : start + count - start ≡ count = omega arith in
    ap (λ bytes. bytes ++ drop count c.args.to.now)
    (c.copy_from_slice.ensures.after
    ∙ rw (n, c.deref.ensures)
    (part_read c.self.inside.pages.items c.args.self.now c.index.result.now (c.args.at / 4096) c.args.at start count c.self.invariant c.self.view_is within c.index.ensures (omega arith) (omega (arith, c.min-count.ensures))))
