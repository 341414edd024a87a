-- The task descriptor, in the low word of either form: JESD84-B51, annex B; the macros CQHCI_FORCED_PROG to CQHCI_BLK_ADDR of
-- the Linux driver's cqhci.h.
use Rattle.std.specs.Prelude.{ℕ, List, [], ◌∷◌, ◌==◌, Result}
use Rattle.cq_words.specs.declared.table.FieldValue.{FieldValue}
use Rattle.cq_words.specs.Table.{number_in, is_set}
use Rattle.cq_desc.specs.Fields.{VALID, END, INT, ACT, ACT_TASK, FORCED_PROGRAMMING, CONTEXT, TAG_REQUEST, DIRECTION, PRIORITY, QUEUE_BARRIER, RELIABLE_WRITE, BLOCK_COUNT, BLOCK_ADDRESS}
use Rattle.cq_desc.specs.declared.fault.DescFault.{DescFault}
use Rattle.cq_desc.specs.declared.task.TaskDesc.{TaskDesc}
use Rattle.cq_desc.specs.Descriptor.{at, bit, judged}

-- what stands in the fields of a task's word
abbrev pub task_table : TaskDesc → List FieldValue
task_table desc =
    at VALID 1 ∷ at ACT ACT_TASK ∷ at INT (bit desc.int) ∷ at FORCED_PROGRAMMING (bit desc.forced) ∷ at CONTEXT desc.context
    ∷ at TAG_REQUEST (bit desc.tag) ∷ at DIRECTION (bit desc.read) ∷ at PRIORITY (bit desc.high) ∷ at QUEUE_BARRIER (bit desc.barrier)
    ∷ at RELIABLE_WRITE (bit desc.reliable) ∷ at BLOCK_COUNT desc.blocks ∷ at BLOCK_ADDRESS desc.start ∷ []

-- a writer sets the end bit too, which a reader doesn't look at
abbrev pub written_task : TaskDesc → List FieldValue
written_task desc = at END 1 ∷ task_table desc

-- the task that a word's fields name
abbrev pub task_of : ℕ → TaskDesc
task_of word = record {
  int = is_set word INT;
  forced = is_set word FORCED_PROGRAMMING;
  context = number_in word CONTEXT;
  tag = is_set word TAG_REQUEST;
  read = is_set word DIRECTION;
  high = is_set word PRIORITY;
  barrier = is_set word QUEUE_BARRIER;
  reliable = is_set word RELIABLE_WRITE;
  blocks = number_in word BLOCK_COUNT;
  start = number_in word BLOCK_ADDRESS;
}

-- how a word reads
unfoldable pub task_read : ℕ → Result TaskDesc DescFault
task_read word = judged word (number_in word ACT == ACT_TASK) (task_of word)
