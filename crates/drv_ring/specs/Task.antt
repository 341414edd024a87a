-- What a job asks of the engine: the task that its slot is to mean (cqhci_prep_task_desc and cqhci_prep_dcmd_desc of the Linux
-- driver's cqhci-core.c). The context, the tag request and the queue barrier of a read or write stay 0; each direct command is a
-- queue barrier.
use Rattle.std.specs.Prelude.{ℕ, Bool, true, false}
use Rattle.storage_model.specs.declared.plan.Job.{Job}
use Rattle.storage_model.specs.declared.plan.Job.TheVariants.{Read, Write, Flush, Barrier, Status}
use Rattle.cmd_words.specs.declared.index.TheConstants.{SWITCH, SEND_STATUS}
use Rattle.cq_desc.specs.declared.task.TaskDesc.{TaskDesc}
use Rattle.cq_desc.specs.declared.direct.DirectDesc.{DirectDesc}
use Rattle.cq_task.specs.declared.slot.SlotTask.{SlotTask}
use Rattle.cq_task.specs.declared.slot.SlotTask.TheVariants.{Direct, Data}
use Rattle.drv_ring.specs.declared.places.Layout.{Layout}
use Rattle.drv_ring.specs.declared.task.TheConstants.{RESPONSE_R1, RESPONSE_R1B, FLUSH_CACHE, SET_BARRIER, CARD}
use Rattle.drv_ring.specs.Pieces.{tag_pieces}

abbrev pub read_desc : (sector blocks : ℕ) → (high int : Bool) → TaskDesc
read_desc sector blocks high int = record {
  int = int;
  forced = false;
  context = 0;
  tag = false;
  read = true;
  high = high;
  barrier = false;
  reliable = false;
  blocks = blocks;
  start = sector;
}

abbrev pub write_desc : (sector blocks : ℕ) → (forced reliable high int : Bool) → TaskDesc
write_desc sector blocks forced reliable high int = record {
  int = int;
  forced = forced;
  context = 0;
  tag = false;
  read = false;
  high = high;
  barrier = false;
  reliable = reliable;
  blocks = blocks;
  start = sector;
}

-- a SWITCH, which answers when it is carried out
abbrev pub switch_desc : (arg : ℕ) → (int : Bool) → DirectDesc
switch_desc arg int = record { int = int; barrier = true; index = SWITCH; timing = false; resp = RESPONSE_R1B; arg = arg }

-- a question for the device status
abbrev pub status_desc : (int : Bool) → DirectDesc
status_desc int = record { int = int; barrier = true; index = SEND_STATUS; timing = true; resp = RESPONSE_R1; arg = CARD }

-- a data task with the pieces of its blocks
abbrev pub data_task : Layout → (tag : ℕ) → TaskDesc → SlotTask
data_task layout tag desc = Data (record { desc = desc; pieces = tag_pieces layout tag desc.blocks })

abbrev pub task_of : Layout → (tag : ℕ) → Job → (int : Bool) → SlotTask
task_of layout tag (Read sector blocks high) int = data_task layout tag (read_desc sector blocks high int)
task_of layout tag (Write sector blocks fill forced reliable high) int =
    data_task layout tag (write_desc sector blocks forced reliable high int)
task_of layout tag Flush int = Direct (switch_desc FLUSH_CACHE int)
task_of layout tag Barrier int = Direct (switch_desc SET_BARRIER int)
task_of layout tag Status int = Direct (status_desc int)
