use Rattle.std.proofs.Common.{arith, sym, ap}
use Rattle.image_form.proofs.Heads.{page_of-written}
use Rattle.image_form.proofs.page.write_page.Goals as goal

pub returns : goal.returns
returns c = ap (λ xs. record { 0 = xs }) (sym (page_of-written c.args.head.now c.put_front.new.bytes (omega arith) c.put_front.ensures))
