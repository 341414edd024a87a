use Rattle.std.proofs.Common.{◌≡◌, ◌/◌, ◌%◌, ◌+◌, ◌-◌, ◌++◌, ◌∙◌, arith, ap, drop, take}
use Rattle.host_mem.proofs.PageLaws.{part_written, page_within, put_part}
use Rattle.host_mem.proofs.pages.Pages.copy_part_in.Goals as goal

pub index_mut-requires : goal.index_mut-requires
index_mut-requires c =
    let within = page_within c.self.inside.pages.items c.args.self.now (c.args.at / 4096) (c.args.at % 4096) c.args.at c.self.invariant c.self.view_is (omega arith) (omega (arith, c.requires.some, c.requires.within)) in
    omega (arith, c.self.inside.pages.ok.0)

pub returns-clause-copied : goal.returns-clause-copied
returns-clause-copied c =
    let start = c.args.at % 4096 in
    let count = c.min-count.result in
    let part = take count c.args.from.now in
    let within = page_within c.self.inside.pages.items c.args.self.now (c.args.at / 4096) start c.args.at c.self.invariant c.self.view_is (omega arith) (omega (arith, c.requires.some, c.requires.within)) in
    let n : start + count - start ≡ count = omega arith in
    part_written c.self.inside.pages.items c.args.self.now part c.index_mut.result.now _ (c.args.at / 4096) c.args.at start count c.self.invariant c.self.view_is within c.index_mut.ensures.value (omega arith) (omega (arith, c.min-count.ensures))
    (put_part start count (start + count - start) c.deref_mut.result.now c.copy_from_slice.new.self n
    ∙ ap (λ ys. take start c.deref_mut.result.now ++ (ys ++ drop (start + count) c.deref_mut.result.now)) c.copy_from_slice.ensures.after
    ∙ ap (λ ys. take start ys ++ (part ++ drop (start + count) ys)) c.deref_mut.ensures.value)
