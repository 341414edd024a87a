use Rattle.std.proofs.Common.{◌≡◌, ◌+◌, ℕ, ap, ◌∙◌, refl, subst, sym}
use Rattle.host_mem.specs.Memory.{HasByte, HasRange, Memory, with_byte}
use Rattle.raw_face.proofs.Filling.{filled_has, filled_more, filled_none}
use Rattle.raw_face.proofs.access.fill_range.Goals as goal

pub loop-k-init : goal.loop-k-init
loop-k-init c = filled_none c.args.mem.now c.args.at c.args.value

pub unwrap-requires : goal.unwrap-requires
unwrap-requires c =
    let P : Memory → Type 0 = λ m. HasByte m (c.args.at + c.loop-k.k) in
    let Q : ℕ → Type 0 = λ n. HasByte c.loop-k.mem (c.args.at + n) in
    let range : HasRange c.args.mem.now c.args.at c.args.len = c.in_ok-check_range.ensures.inside.0 refl in
    c.set.ensures.inside.1
    (subst Q (sym c.from.ensures)
    (subst P (sym c.loop-k.invariant) (filled_has c.args.mem.now c.args.at c.loop-k.k c.args.value c.args.len range c.loop-k-test.true)))

pub loop-k-preserved : goal.loop-k-preserved
loop-k-preserved c =
    let range : HasRange c.args.mem.now c.args.at c.args.len = c.in_ok-check_range.ensures.inside.0 refl in
    let set : c.set.new.self ≡ with_byte c.loop-k.mem (c.args.at + c.from.result) c.args.value = rw c.unwrap.ensures at c.set.ensures.ok in
    set ∙ ap (λ n. with_byte c.loop-k.mem (c.args.at + n) c.args.value) c.from.ensures
    ∙ ap (λ m. with_byte m (c.args.at + c.loop-k.k) c.args.value) c.loop-k.invariant
    ∙ filled_more c.args.mem.now c.args.at c.loop-k.k c.args.value c.args.len range c.loop-k-test.true
