use Rattle.std.proofs.Common.{◌≡◌, ◌∙◌, arith, get_or}
use Rattle.std.proofs.lemmas.List.{get_or_default}
use Rattle.epoch_cache.proofs.table.move_to_end.Goals as goal

pub returns-in-Some : goal.returns-in-Some
returns-in-Some c =
    let e = c.in-Some.ensures in
    let pushed = rw c.unwrap.ensures at c.push_back.ensures.items in
    let size = c.args.order.now.ok.0 in
    let at : c.in-Some.slot ≡ get_or c.args.order.now.items c.args.k 0 = e.value ∙ get_or_default c.args.order.now.items c.args.k c.in-Some.slot 0 (omega (arith, size, c.requires)) in
    let left = e.items in
    cc

pub returns-in_default : goal.returns-in_default
returns-in_default c = let some = c.in_default.ensures.succeeds 0 c.requires in absurd (cc)

pub unwrap-requires : goal.unwrap-requires
unwrap-requires c =
    let e = c.in-Some.ensures in
    let less = e.len in
    let same = e.capacity in
    let room = c.args.order.now.small.1 in
    c.push_back.ensures.succeeds (omega (arith, less, same, room))
