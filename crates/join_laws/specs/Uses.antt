-- The line of the fault text that a cut in an event uses: where the event is power's, the one that was due at its begin.
use Rattle.std.specs.Prelude.{◌≡◌, if◌then◌else◌}
use Rattle.storage_machine.specs.Cuts.{is_due, sent_so_far}
use Rattle.storage_machine.specs.declared.state.State.{State}
use Rattle.storage_model.specs.declared.faults.Letter.{Letter}
use Rattle.storage_model.specs.declared.faults.Letter.TheVariants.{Cut as PowerActs}
use Rattle.trace_rules.specs.Lines.{same_letter}
use Rattle.cut_order.specs.Order.{OrderState, with_line}
use Rattle.join_laws.specs.Joins.{within}
use Rattle.world_state.specs.Reading.{Context}
use Rattle.world_steps.specs.Reading.{Reads}
use Rattle.world_steps.specs.World.{WorldState, order_behind, order_in}

abbrev pub order_cut : State → Letter → OrderState → OrderState
order_cut s actor o = if same_letter actor PowerActs then (if is_due s then with_line o (sent_so_far s) else o) else o

-- so the order behind the event is that of the world
abbrev pub IsUsedBehind : WorldState → Context → Letter → Type 0
IsUsedBehind w c actor = Reads (record { path = w.path; order = order_in w actor }) c → order_cut (within w c actor) actor (order_in w actor) ≡ order_behind w actor
