use Rattle.std.proofs.Common.{arith}
use Rattle.image_form.proofs.Heads.{head_bytes-written}
use Rattle.image_form.proofs.page.write_head.Goals as goal

pub returns : goal.returns
returns c =
    head_bytes-written c.args.letters.now c.put_front.new.bytes c.put32.new.bytes c.put32-2.new.bytes c.args.first c.args.second
    (omega arith) c.put_front.ensures c.put32.ensures c.put32-2.ensures
