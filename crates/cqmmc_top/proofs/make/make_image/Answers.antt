use Rattle.std.proofs.Common.{◌+◌, ap, arith, refl, subst, sym}
use Rattle.std.proofs.lemmas.Result.{on_ok_weaker}
use Rattle.array_edge.specs.Array.{ArrayState}
use Rattle.cqmmc_top.proofs.Leaving.{cleared_first, left_cleared, left_end}
use Rattle.cqmmc_top.proofs.Making.{image_made, wide}
use Rattle.cqmmc_top.specs.Made.{IsCleared}
use Rattle.cqmmc_top.proofs.make.make_image.Goals as goal

pub returns-clause-made : goal.returns-clause-made
returns-clause-made g c =
    on_ok_weaker _
    (λ written. image_made c.args.sectors c.write_super-superblock.result c.write_gate.result (c.write_super-superblock.ensures.form refl c.requires.some c.requires.most) (c.write_gate.ensures.form c.args.sectors (omega arith))
    (g.A.Array.state c.power_on.new.self).told (g.A.Array.state c.program_page.new.array).told (g.A.Array.state c.program_page-2.new.array).told (g.A.Array.state c.clear_pages.new.array).told (g.A.Array.state c.settle.new.array).told (g.A.Array.state c.program_settled.new.array).told
    (wide _ _ (8 + c.args.sectors) (g.met.A.Array.told_count c.power_on.new.self) (omega (arith, ap (λ (s : ArrayState). s.count) c.power_on.ensures, c.pages.ensures)))
    c.in_ok-program_page.ensures.written c.in_ok-program_page-2.ensures.written c.in_ok-clear_pages.ensures.blank c.in_ok-settle.ensures.same written)
    c.program_settled.ensures.written

pub returns-in_err-program_page-2-clause-left : goal.returns-in_err-program_page-2-clause-left
returns-in_err-program_page-2-clause-left g c =
    let first = cleared_first (8 + c.args.sectors) (g.A.Array.state c.power_on.new.self).told (g.A.Array.state c.program_page.new.array).told (omega arith)
    (wide _ _ (8 + c.args.sectors) (g.met.A.Array.told_count c.power_on.new.self) (omega (arith, ap (λ (s : ArrayState). s.count) c.power_on.ensures, c.pages.ensures))) c.in_ok-program_page.ensures.written in
    left_cleared c.args.sectors _ _ (c.program_page-2.ensures.cleared (omega arith) first)

pub returns-in_err-clear_pages-clause-left : goal.returns-in_err-clear_pages-clause-left
returns-in_err-clear_pages-clause-left g c =
    let first = cleared_first (8 + c.args.sectors) (g.A.Array.state c.power_on.new.self).told (g.A.Array.state c.program_page.new.array).told (omega arith)
    (wide _ _ (8 + c.args.sectors) (g.met.A.Array.told_count c.power_on.new.self) (omega (arith, ap (λ (s : ArrayState). s.count) c.power_on.ensures, c.pages.ensures))) c.in_ok-program_page.ensures.written in
    left_cleared c.args.sectors _ _ (c.clear_pages.ensures.cleared (c.program_page-2.ensures.cleared (omega arith) first))

pub returns-in_err-settle-clause-left : goal.returns-in_err-settle-clause-left
returns-in_err-settle-clause-left g c =
    let first = cleared_first (8 + c.args.sectors) (g.A.Array.state c.power_on.new.self).told (g.A.Array.state c.program_page.new.array).told (omega arith)
    (wide _ _ (8 + c.args.sectors) (g.met.A.Array.told_count c.power_on.new.self) (omega (arith, ap (λ (s : ArrayState). s.count) c.power_on.ensures, c.pages.ensures))) c.in_ok-program_page.ensures.written in
    left_cleared c.args.sectors _ _ (subst (λ told. IsCleared told) (sym c.settle.ensures.same) (c.clear_pages.ensures.cleared (c.program_page-2.ensures.cleared (omega arith) first)))

pub returns-clause-left : goal.returns-clause-left
returns-clause-left g c =
    let first = cleared_first (8 + c.args.sectors) (g.A.Array.state c.power_on.new.self).told (g.A.Array.state c.program_page.new.array).told (omega arith)
    (wide _ _ (8 + c.args.sectors) (g.met.A.Array.told_count c.power_on.new.self) (omega (arith, ap (λ (s : ArrayState). s.count) c.power_on.ensures, c.pages.ensures))) c.in_ok-program_page.ensures.written in
    let cleared = subst (λ told. IsCleared told) (sym c.settle.ensures.same) (c.clear_pages.ensures.cleared (c.program_page-2.ensures.cleared (omega arith) first)) in
    left_end c.args.sectors c.write_super-superblock.result (record { version = 1; sectors = c.args.sectors }) c.write_super-superblock.ensures.page _ (g.A.Array.state c.settle.new.array).told (g.A.Array.state c.program_settled.new.array).told c.program_settled.result cleared
    (image_made c.args.sectors c.write_super-superblock.result c.write_gate.result (c.write_super-superblock.ensures.form refl c.requires.some c.requires.most) (c.write_gate.ensures.form c.args.sectors (omega arith))
    (g.A.Array.state c.power_on.new.self).told (g.A.Array.state c.program_page.new.array).told (g.A.Array.state c.program_page-2.new.array).told (g.A.Array.state c.clear_pages.new.array).told (g.A.Array.state c.settle.new.array).told _
    (wide _ _ (8 + c.args.sectors) (g.met.A.Array.told_count c.power_on.new.self) (omega (arith, ap (λ (s : ArrayState). s.count) c.power_on.ensures, c.pages.ensures)))
    c.in_ok-program_page.ensures.written c.in_ok-program_page-2.ensures.written c.in_ok-clear_pages.ensures.blank c.in_ok-settle.ensures.same refl)
    c.program_settled.ensures.written c.program_settled.ensures.torn
