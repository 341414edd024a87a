use Rattle.std.proofs.Common.{◌≡◌}
use Rattle.storage_machine.proofs.OwnPuts.{allows_own}
use Rattle.storage_machine.specs.PutIndex.{epochs_on, puts_on}
use Rattle.storage_machine.proofs.put_index.allows.Goals as goal

pub returns : goal.returns
returns c = λ base marks index inside before.
    let epochs : c.list_at-epochs.result.now ≡ epochs_on c.args.sector 0 marks = cc (c.list_at-epochs.ensures, c.as_slice.ensures.value, index.epochs_at c.args.sector) in
    let puts : c.list_at-puts.result.now ≡ puts_on c.args.sector marks = cc (c.list_at-puts.ensures, c.as_slice-2.ensures.value, index.puts_at c.args.sector) in
    allows_own base marks c.args.epoch c.args.sector c.args.value.now c.args.before.now c.list_at-epochs.result.now c.list_at-puts.result.now c.allows_in.result epochs puts c.allows_in.ensures inside before
