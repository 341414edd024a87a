use Rattle.std.proofs.Common.{rules, ◌≡◌, ◌*◌, ◌≤◌, length, arith, refl}
use Rattle.std.proofs.lemmas.List.Edits.{length-between}
use Rattle.array_edge.proofs.GranuleWrites.{granule_written, granule_kept}
use Rattle.array_edge.proofs.hits.copy_granule.Goals as goal

room : (c : goal.After-copy_from_slice) → 64 * c.args.k ≤ length c.args.block.now.0
room c = omega arith

long : (c : goal.After-copy_from_slice) → length c.copy_from_slice.new.self ≡ 64
long c = omega (arith, length-between)

pub returns-clause-copied : goal.returns-clause-copied
returns-clause-copied c = granule_written c.args.block.now c.args.from.now c.args.k _ _ _ refl (omega arith) (room c) (long c) (search rules)

pub returns-clause-others : goal.returns-clause-others
returns-clause-others c = λ j apart below. granule_kept c.args.block.now c.args.k j _ _ _ refl (omega arith) (room c) (long c) apart
