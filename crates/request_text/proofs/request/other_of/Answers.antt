use Rattle.std.proofs.Common.{codes, arith, rules}
use Rattle.storage_model.specs.declared.plan.Job.TheVariants.{Flush, Barrier, Status}
use Rattle.std.proofs.lemmas.Slice.Eq.{text_from_reads}
use Rattle.request_text.proofs.JobWords.{barrier_alone, flush_alone, reads_alone, status_alone}
use Rattle.request_text.proofs.request.other_of.Goals as goal

pub returns-in-flush : goal.returns-in-flush
returns-in-flush c =
    reads_alone c.args.first.now (codes "flush") c.args.words Flush c.alone.result flush_alone (text_from_reads _ _ (omega arith) (search rules)) c.alone.ensures

pub returns-in-barrier : goal.returns-in-barrier
returns-in-barrier c =
    reads_alone c.args.first.now (codes "barrier") c.args.words Barrier c.alone-in-barrier.result barrier_alone (text_from_reads _ _ (omega arith) (search rules)) c.alone-in-barrier.ensures

pub returns-in-status : goal.returns-in-status
returns-in-status c =
    reads_alone c.args.first.now (codes "status") c.args.words Status c.alone-in-status.result status_alone (text_from_reads _ _ (omega arith) (search rules)) c.alone-in-status.ensures
