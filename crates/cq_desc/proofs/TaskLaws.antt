-- A task's word and its table.
use Rattle.std.proofs.Common.{◌≡◌, ℕ, true, refl, ap, ◌∙◌, Ok}
use Rattle.std.specs.Prelude.{◌==◌}
use Rattle.cq_words.specs.Table.{number_in, is_set, is_table, Holds}
use Rattle.cq_desc.specs.Fields.{VALID, INT, ACT, ACT_TASK, FORCED_PROGRAMMING, TAG_REQUEST, DIRECTION, PRIORITY, QUEUE_BARRIER, RELIABLE_WRITE}
use Rattle.cq_desc.specs.declared.task.TaskDesc.{TaskDesc}
use Rattle.cq_desc.specs.Descriptor.{bit}
use Rattle.cq_desc.specs.Task.{task_table, written_task, task_of, task_read}
use Rattle.cq_desc.proofs.FlagLaws.{is_set-bit, bit-is_set}

pub written_task-is_table : (desc : TaskDesc) → is_table (written_task desc) ≡ true
written_task-is_table desc = refl

-- a word reads as the task whose table it holds
pub task_read-holds : (word : ℕ) (desc : TaskDesc) → Holds word (task_table desc) → task_read word ≡ Ok desc
unfolding task_read
task_read-holds word desc (valid, (act, (int, (forced, (context, (tag, (direction, (priority, (barrier, (reliable, (blocks, (start, _)))))))))))) =
    rw (
      ap (λ n. n == 1) valid,
      ap (λ n. n == ACT_TASK) act,
      is_set-bit word INT desc.int int,
      is_set-bit word FORCED_PROGRAMMING desc.forced forced,
      context,
      is_set-bit word TAG_REQUEST desc.tag tag,
      is_set-bit word DIRECTION desc.read direction,
      is_set-bit word PRIORITY desc.high priority,
      is_set-bit word QUEUE_BARRIER desc.barrier barrier,
      is_set-bit word RELIABLE_WRITE desc.reliable reliable,
      blocks,
      start,
    )

-- a good word holds the table of the task that it reads as
pub task_of-holds : (word : ℕ) → is_set word VALID ≡ true → number_in word ACT ≡ ACT_TASK → Holds word (task_table (task_of word))
task_of-holds word valid act = (
  bit-is_set word VALID refl ∙ ap bit valid,
  (
    act,
    (
      bit-is_set word INT refl,
      (
        bit-is_set word FORCED_PROGRAMMING refl,
        (
          refl,
          (
            bit-is_set word TAG_REQUEST refl,
            (
              bit-is_set word DIRECTION refl,
              (
                bit-is_set word PRIORITY refl,
                (bit-is_set word QUEUE_BARRIER refl, (bit-is_set word RELIABLE_WRITE refl, (refl, (refl, tt)))),
              ),
            ),
          ),
        ),
      ),
    ),
  ),
)
