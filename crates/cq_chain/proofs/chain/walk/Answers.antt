use Rattle.std.proofs.Common.{◌≡◌, suc, ◌+◌, ◌-◌, ◌<◌, List, [], ◌∷◌, ◌++◌, sym, ap, ◌∙◌, arith, Ok, Err, length-append, append-nil}
use Rattle.std.proofs.lemmas.Result.{err_from_is_err_and}
use Rattle.cq_chain.specs.declared.pieces.Piece.{Piece}
use Rattle.cq_chain.specs.declared.fault.ChainFault.{ChainFault}
use Rattle.cq_chain.specs.declared.fault.ChainFault.TheVariants.{Short, TooMany}
use Rattle.cq_chain.specs.Descriptors.{pieces_of}
use Rattle.cq_chain.proofs.Walked.{Answer, walked, with_pieces, with_pieces-twice, finish, short_finish, some-unread, some-refused, some-end, some-on, none-walked, own-length}
use Rattle.cq_chain.proofs.Exact.{pieces-exact, fault-exact}
use Rattle.cq_chain.proofs.chain.walk.Goals as goal

pub returns-in_err-desc : goal.returns-in_err-desc
returns-in_err-desc c =
    let p = err_from_is_err_and c.from_residual.result c.from_residual.ensures.1 in
    let fault = c.in_err-desc.field-0.0 in
    let answer : c.from_residual.result ≡ Err fault = p.1 ∙ ap (λ (f : ChainFault). Err f) p.2 in
    let some : 0 < 512 - c.loop.counter = omega arith in
    let whole : walked c.args.mem.now c.args.wide 512 c.args.want c.args.at ≡ c.from_residual.result =
    c.loop.invariant.0
    ∙ ap (with_pieces c.loop.pieces)
    (some-unread c.args.mem.now c.args.wide (512 - c.loop.counter) c.loop.left c.loop.place fault some (sym c.in_err-desc.ensures.value))
    ∙ sym answer in
    record {
      pieces = pieces-exact c.args.mem.now c.args.wide 512 c.args.at c.args.want c.from_residual.result whole;
      fault = fault-exact c.args.mem.now c.args.wide 512 c.args.at c.args.want c.from_residual.result whole;
    }

pub returns-in_err-left : goal.returns-in_err-left
returns-in_err-left c =
    let p = err_from_is_err_and c.from_residual-in_err-left.result c.from_residual-in_err-left.ensures.1 in
    let fault = c.in_err-left.field-0.0 in
    let answer : c.from_residual-in_err-left.result ≡ Err fault = p.1 ∙ ap (λ (f : ChainFault). Err f) p.2 in
    let some : 0 < 512 - c.loop.counter = omega arith in
    let whole : walked c.args.mem.now c.args.wide 512 c.args.want c.args.at ≡ c.from_residual-in_err-left.result =
    c.loop.invariant.0
    ∙ ap (with_pieces c.loop.pieces)
    (some-refused c.args.mem.now c.args.wide (512 - c.loop.counter) c.loop.left c.loop.place c.in_ok-desc.desc fault some
    (sym c.in_ok-desc.ensures.value)
    (sym c.in_err-left.ensures))
    ∙ sym answer in
    record {
      pieces = pieces-exact c.args.mem.now c.args.wide 512 c.args.at c.args.want c.from_residual-in_err-left.result whole;
      fault = fault-exact c.args.mem.now c.args.wide 512 c.args.at c.args.want c.from_residual-in_err-left.result whole;
    }

pub returns-then-left-eq0 : goal.returns-then-left-eq0
returns-then-left-eq0 c =
    let some : 0 < 512 - c.loop.counter = omega arith in
    let own = pieces_of (c.in_ok-desc.desc ∷ []) in
    let e : c.loop.pieces ++ (own ++ []) ≡ c.add.new.self = ap (λ ps. c.loop.pieces ++ ps) (append-nil own) ∙ sym c.add.ensures in
    let whole : walked c.args.mem.now c.args.wide 512 c.args.want c.args.at ≡ Ok c.add.new.self =
    c.loop.invariant.0
    ∙ ap (with_pieces c.loop.pieces)
    (some-end c.args.mem.now c.args.wide (512 - c.loop.counter) c.loop.left c.loop.place c.in_ok-desc.desc c.in_ok-left.left some
    (sym c.in_ok-desc.ensures.value)
    (sym c.in_ok-left.ensures)
    (sym c.ends.ensures ∙ c.if-ends.true))
    ∙ ap (λ l. with_pieces c.loop.pieces (with_pieces own (finish l))) c.if-left-eq0.true
    ∙ ap (λ (ps : List Piece). Ok ps) e in
    record {
      pieces = pieces-exact c.args.mem.now c.args.wide 512 c.args.at c.args.want (Ok c.add.new.self) whole;
      fault = fault-exact c.args.mem.now c.args.wide 512 c.args.at c.args.want (Ok c.add.new.self) whole;
    }

pub returns-else-left-eq0 : goal.returns-else-left-eq0
returns-else-left-eq0 c =
    let some : 0 < 512 - c.loop.counter = omega arith in
    let own = pieces_of (c.in_ok-desc.desc ∷ []) in
    let whole : walked c.args.mem.now c.args.wide 512 c.args.want c.args.at ≡ Err Short =
    c.loop.invariant.0
    ∙ ap (with_pieces c.loop.pieces)
    (some-end c.args.mem.now c.args.wide (512 - c.loop.counter) c.loop.left c.loop.place c.in_ok-desc.desc c.in_ok-left.left some
    (sym c.in_ok-desc.ensures.value)
    (sym c.in_ok-left.ensures)
    (sym c.ends.ensures ∙ c.if-ends.true))
    ∙ ap (λ (a : Answer). with_pieces c.loop.pieces (with_pieces own a)) (short_finish c.in_ok-left.left c.if-left-eq0.false) in
    record {
      pieces = pieces-exact c.args.mem.now c.args.wide 512 c.args.at c.args.want (Err Short) whole;
      fault = fault-exact c.args.mem.now c.args.wide 512 c.args.at c.args.want (Err Short) whole;
    }

pub returns : goal.returns
returns c =
    let none : 512 - c.loop.counter ≡ 0 = omega arith in
    let whole : walked c.args.mem.now c.args.wide 512 c.args.want c.args.at ≡ Err TooMany =
    c.loop.invariant.0
    ∙ ap (with_pieces c.loop.pieces) (none-walked c.args.mem.now c.args.wide (512 - c.loop.counter) c.loop.left c.loop.place none) in
    record {
      pieces = pieces-exact c.args.mem.now c.args.wide 512 c.args.at c.args.want (Err TooMany) whole;
      fault = fault-exact c.args.mem.now c.args.wide 512 c.args.at c.args.want (Err TooMany) whole;
    }

pub loop-preserved : goal.loop-preserved
loop-preserved c =
    let own = pieces_of (c.in_ok-desc.desc ∷ []) in
    let n : 512 - c.loop.counter ≡ suc (512 - (c.loop.counter + 1)) = omega arith in
    let step =
    some-on c.args.mem.now c.args.wide (512 - c.loop.counter) (512 - (c.loop.counter + 1)) c.loop.left c.loop.place c.in_ok-desc.desc c.in_ok-left.left n
    (sym c.in_ok-desc.ensures.value)
    (sym c.in_ok-left.ensures)
    (sym c.ends.ensures ∙ c.if-ends.false) in (
      rw (c.add.ensures, c.next-place.ensures)
          (c.loop.invariant.0 ∙ ap (with_pieces c.loop.pieces) step ∙ with_pieces-twice c.loop.pieces own _),
      rw c.add.ensures (omega (arith, length-append c.loop.pieces own, own-length c.in_ok-desc.desc, c.loop.invariant.1)),
    )
