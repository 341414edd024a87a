use Rattle.std.proofs.Common.{◌*◌, List, sym, subst}
use Rattle.std.specs.Prelude.{OnOk, Result}
use Rattle.bus_link.specs.declared.link.LinkEnd.{LinkEnd}
use Rattle.cq_chain.specs.declared.pieces.Piece.{Piece}
use Rattle.cq_chain.specs.Descriptors.{AreInside}
use Rattle.piece_data.specs.Data.{parts}
use Rattle.piece_data.specs.Laws.{AreApart, ChangesBlock, KeepsOthers}
use Rattle.cq_engine.proofs.calls.take_into.Goals as goal

pub write_block-requires-clause-inside : goal.write_block-requires-clause-inside
write_block-requires-clause-inside c =
    let P : List Piece → Type 0 = λ pieces. AreInside c.args.mem.now pieces in
    subst P (sym c.as_slice.ensures.value) c.requires.lies.inside

pub returns-in-Ok-clause-others : goal.returns-in-Ok-clause-others
returns-in-Ok-clause-others c =
    let P : List Piece → Type 0 = λ pieces. KeepsOthers (parts pieces (512 * c.args.k) 512) c.args.mem.now c.write_block.new.mem in
    subst P c.as_slice.ensures.value c.write_block.ensures.others

pub returns-in-Ok-clause-blocks : goal.returns-in-Ok-clause-blocks
returns-in-Ok-clause-blocks c apart =
    let P : List Piece → Type 0 = λ pieces. AreApart pieces → ChangesBlock pieces c.args.mem.now c.write_block.new.mem c.args.k c.args.block.now in
    let Q : Result (Unit {0}) LinkEnd → Type 0 = λ answer. OnOk answer (ChangesBlock c.args.task.now.pieces c.args.mem.now c.write_block.new.mem c.args.k c.args.block.now) in
    subst Q (sym c.in-Ok.is) (subst P c.as_slice.ensures.value c.write_block.ensures.blocks apart)
