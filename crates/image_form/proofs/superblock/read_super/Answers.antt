use Rattle.std.proofs.Common.{◌≡◌, sym, ap, ◌∙◌, arith, false, true, Some}
use Rattle.storage_model.specs.declared.block.Block.{Block}
use Rattle.image_form.specs.declared.superblock.Super.{Super}
use Rattle.image_form.specs.Form.{page_of, super_head}
use Rattle.image_form.proofs.Forms.{IsSuper-read}
use Rattle.image_form.proofs.superblock.read_super.Goals as goal

pub returns-then-found-ne1-clause-exact : goal.returns-then-found-ne1-clause-exact
returns-then-found-ne1-clause-exact c s is =
    let e = IsSuper-read c.args.block.now _ _ c.get32.ensures c.get32-2.ensures s is in
    absurd (c.if-found-ne1.true (ap (λ (x : Super). x.version) e ∙ is.version))

pub returns-then-found-lt1-clause-exact : goal.returns-then-found-lt1-clause-exact
returns-then-found-lt1-clause-exact c s is =
    let e = IsSuper-read c.args.block.now _ _ c.get32.ensures c.get32-2.ensures s is in
    let n : c.get32-2.result ≡ s.sectors = ap (λ (x : Super). x.sectors) e in
    absurd (omega (arith, is.some))

pub returns-then-found-gt65536-clause-exact : goal.returns-then-found-gt65536-clause-exact
returns-then-found-gt65536-clause-exact c s is =
    let e = IsSuper-read c.args.block.now _ _ c.get32.ensures c.get32-2.ensures s is in
    let n : c.get32-2.result ≡ s.sectors = ap (λ (x : Super). x.sectors) e in
    absurd (omega (arith, is.most))

pub returns-then-not-are_equal-clause-exact : goal.returns-then-not-are_equal-clause-exact
returns-then-not-are_equal-clause-exact c s is =
    let e = IsSuper-read c.args.block.now _ _ c.get32.ensures c.get32-2.ensures s is in
    let same : c.args.block.now ≡ c.write_super.result =
    is.page ∙ ap (λ x. page_of (super_head x)) (sym e) ∙ sym c.write_super.ensures.page in
    let equal : false ≡ true = c.if-not-are_equal.ensures.1 (ap (λ (b : Block). b.0) same) in
    cc

pub returns-clause-exact : goal.returns-clause-exact
returns-clause-exact c s is = ap Some (IsSuper-read c.args.block.now _ _ c.get32.ensures c.get32-2.ensures s is)
