use Rattle.std.proofs.Common.{◌≡◌, ℕ, ◌==◌}
use Rattle.std.specs.Prelude.{None, length, if◌then◌else◌, nat_lt, ◌&&◌}
use Rattle.std.specs.Int.{bit_at}
use Rattle.drv_jobs.specs.Standings.{holder_of}
use Rattle.drv_jobs.specs.Sound.{AreTied}
use Rattle.drv_jobs.proofs.holders.free_tags.Given as goal

abbrev pub invariant-loop-tag : goal.invariant-loop-tag
invariant-loop-tag l = record {
  tied : AreTied l.tags l.holders;
  depth : l.tags.depth ≡ l.initial.tags.depth;
  size : length l.holders ≡ length l.initial.holders;
  freed : (tag : ℕ) → holder_of l.holders tag
      ≡ (if nat_lt tag l.tag && (bit_at l.word tag == 1) then None else holder_of l.initial.holders tag);
}
