use Rattle.std.proofs.Common.{◌≡◌, ◌<◌, ◌≤◌, ◌-◌, All, length, vec_capacity, vec_len}
use Rattle.array_edge.specs.Array.{ArrayState}
use Rattle.card_store.specs.Store.{Contents, Stands}
use Rattle.left_laws.specs.Lines.{put_sectors}
use Rattle.power_step.proofs.pending.note_pending.Given as goal

abbrev pub invariant-loop-sector : goal.invariant-loop-sector
invariant-loop-sector l = record {
  room : 65536 ≤ vec_capacity l.sectors;
  few : vec_len l.sectors ≤ l.from;
  most : l.from ≤ 65536;
  below : All (λ sector. sector < 65536) l.sectors.items;
  noted : (c : Contents) (array : ArrayState) → Stands c l.store array → (l.sectors.items ≡ put_sectors c.pend l.from) × (l.from ≤ length c.base);
}

abbrev pub decreases-loop-sector : goal.decreases-loop-sector
decreases-loop-sector l = 65536 - l.from
