use Rattle.storage_machine.proofs.SectorLists.{index_bar}
use Rattle.storage_machine.proofs.put_index.note.Goals as goal

pub returns-in-Bar : goal.returns-in-Bar
returns-in-Bar c = λ marks index. rw c.in-Bar.is (index_bar marks _ _ _ index)
