use Rattle.std.proofs.Common.{◌≡◌, ◌≤◌, ◌-◌, ◌++◌, length, take, drop}
use Rattle.host_mem.proofs.pages.Pages.copy_out.Given as goal

abbrev pub invariant-loop-done : goal.invariant-loop-done
invariant-loop-done l =
    (l.done ≤ length l.initial.to) × (l.to ≡ take l.done (drop l.at l.self) ++ drop l.done l.initial.to)

abbrev pub decreases-loop-done : goal.decreases-loop-done
decreases-loop-done l = length l.initial.to - l.done
