use Rattle.std.proofs.Common.{rules}
use Rattle.intent_store.proofs.WriteLemmas.{whole_write}
use Rattle.intent_store.proofs.pages.program.Goals as goal

pub returns-in-Ok-clause-call : goal.returns-in-Ok-clause-call
returns-in-Ok-clause-call g c on = record {
  on = on;
  is = record { block = c.args.block.now; written = whole_write _ _ _ _ c.in-Ok.ensures.written; number = search rules; fetches = search rules; unsettled = c.in-Ok.ensures.unsettled };
  ends = search rules;
}
