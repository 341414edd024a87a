use Rattle.std.proofs.Common.{◌≡◌, ◌∙◌, arith, sym, ap, map, [], ◌∷◌, ◌+◌, ◌-◌}
use Rattle.std.proofs.lemmas.Grind.{common_steps}
use Rattle.std.proofs.lemmas.Result.{err_from_is_err_and}
use Rattle.std.specs.List.{range_with_len}
use Rattle.io_edge.specs.Sink.{Joins}
use Rattle.storage_model.specs.declared.trace.Item.TheVariants.{Sector}
use Rattle.drv_ring.specs.Pieces.{tag_pieces}
use Rattle.piece_data.specs.Data.{block_of}
use Rattle.world_state.specs.Path.{layout}
use Rattle.host_step.proofs.Joined.{failed_amid, sectors_around, sectors_more, taken_more}
use Rattle.host_step.proofs.answers.print_blocks.Goals as goal

pub returns-in_err-print-clause-takes : goal.returns-in_err-print-clause-takes
returns-in_err-print-clause-takes g c =
    let both : Joins g.K.Sink.took = record { join = g.met.K.Sink.took_both } in
    let p = err_from_is_err_and c.from_residual.result c.from_residual.ensures.1 in
    let f = block_of c.args.path.now.memory (tag_pieces (layout c.args.path.now) c.args.tag c.args.blocks) in
    let k = c.loop-k.k in
    let value : c.read_block.new.block ≡ block_of c.args.path.now.memory (tag_pieces (layout c.args.path.now) c.args.tag c.args.blocks) k =
    rw (sym c.path.view_is)
    (c.read_block.ensures c.args.blocks c.loop-k-test.true c.requires.few ∙ ap (λ l. block_of c.path.inside.mem (tag_pieces l c.args.tag c.args.blocks) k) c.layout-layout.ensures) in
    rw (p.1, p.2)
    (failed_amid g.K.Sink.took both c.args.out.now c.loop-k.out c.print.new.out (map Sector (map f (range_with_len 0 k))) (Sector c.read_block.new.block ∷ [])
    (map Sector (map f (range_with_len (k + 1) (c.args.blocks - (k + 1))))) _ _ c.in_err-print.ensures.halt
    (sectors_around f c.args.blocks k c.read_block.new.block c.loop-k-test.true value) c.loop-k.invariant.taken c.in_err-print.ensures.takes)

pub loop-k-preserved : goal.loop-k-preserved
loop-k-preserved g c =
    let both : Joins g.K.Sink.took = record { join = g.met.K.Sink.took_both } in
    let f = block_of c.args.path.now.memory (tag_pieces (layout c.args.path.now) c.args.tag c.args.blocks) in
    let k = c.loop-k.k in
    let value : c.read_block.new.block ≡ block_of c.args.path.now.memory (tag_pieces (layout c.args.path.now) c.args.tag c.args.blocks) k =
    rw (sym c.path.view_is)
    (c.read_block.ensures c.args.blocks c.loop-k-test.true c.requires.few ∙ ap (λ l. block_of c.path.inside.mem (tag_pieces l c.args.tag c.args.blocks) k) c.layout-layout.ensures) in
    record {
      taken = taken_more g.K.Sink.took both c.args.out.now c.loop-k.out c.print.new.out (map Sector (map f (range_with_len 0 k))) (Sector c.read_block.new.block ∷ []) _
          (sectors_more f k c.read_block.new.block value) c.loop-k.invariant.taken c.in_ok-print.ensures.takes;
      faults = grind (arith, common_steps);
    }
