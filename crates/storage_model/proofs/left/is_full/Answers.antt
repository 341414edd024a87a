use Rattle.std.proofs.Common.{◌≡◌, ◌↔◌, All, true, rules}
use Rattle.storage_model.proofs.Mixes.{full_is}
use Rattle.storage_model.proofs.left.is_full.Goals as goal

pub returns : goal.returns
returns c =
    let all : (c.all.result ≡ true) ↔ All (λ has. has ≡ true) c.args.cover.now = search rules in
    λ values left covers. full_is c.args.cover.now values left c.all.result c.told-cover covers all
