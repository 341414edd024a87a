-- Contents and marks after named sectors were made durable: a forced or reliable write keeps its own sectors, a cache flush keeps all (JESD84-B51, the cache).
use Rattle.std.specs.Prelude.{ℕ, ◌+◌, ◌&&◌, ◌||◌, Bool, true, not, nat_lt, nat_le, List, map}
use Rattle.storage_model.specs.Contents.{EpochPut, bars, put_all, puts_if}
use Rattle.storage_model.specs.declared.block.Block.{Block}
use Rattle.storage_model.specs.declared.marks.Mark.{Mark}
use Rattle.storage_model.specs.declared.marks.Mark.TheVariants.{Put as PutMark}

-- the sectors from `first` on, as many as `blocks`
abbrev pub is_named : ℕ → ℕ → ℕ → Bool
is_named first blocks s = nat_le first s && nat_lt s (first + blocks)

-- all sectors
abbrev pub every_sector : ℕ → Bool
every_sector s = true

-- the puts that become durable, where `last` is the last epoch: those of all epochs before it, and in it those on named sectors
abbrev pub is_kept : ℕ → (ℕ → Bool) → EpochPut → Bool
is_kept last named q = nat_lt q.epoch last || named q.put.sector

-- the contents then
unfoldable pub keep_base : (ℕ → Bool) → List Block → List Mark → List Block
keep_base named base pend = put_all base (puts_if (is_kept (bars pend) named) pend)

-- the marks then: the other puts, in order and without a barrier
unfoldable pub keep_pend : (ℕ → Bool) → List Mark → List Mark
keep_pend named pend = map PutMark (puts_if (λ q. not (is_kept (bars pend) named q)) pend)
