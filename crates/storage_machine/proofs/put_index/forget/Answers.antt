use Rattle.storage_machine.proofs.SectorLists.{freed_bar, freed_put}
use Rattle.storage_machine.proofs.put_index.forget.Goals as goal

pub returns-in-Put : goal.returns-in-Put
returns-in-Put c = λ marks epochs puts freed.
    rw c.in-Put.is (freed_put marks c.in-Put.put epochs _ _ puts _ _ freed c.empty_at.ensures.at c.empty_at.ensures.long c.empty_at-in-Put.ensures.at c.empty_at-in-Put.ensures.long)

pub returns-in-Bar : goal.returns-in-Bar
returns-in-Bar c = λ marks epochs puts freed. rw c.in-Bar.is (freed_bar marks epochs _ puts _ freed)
