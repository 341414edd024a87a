use Rattle.std.proofs.Common.{◌≡◌, ◌*◌, length}
use Rattle.std.proofs.Math.ListN.{replicate}
use Rattle.std.specs.List.{AllByRecursion, flat_map}
use Rattle.host_mem.proofs.pages.Pages.start.Given as goal

abbrev pub invariant-loop : goal.invariant-loop
invariant-loop l =
    (flat_map (λ page. page.value) l.pages.items ≡ replicate (4096 * l.counter) 0)
    × AllByRecursion (λ page. length page.value ≡ 4096) l.pages.items
