use Rattle.std.proofs.Common.{◌≡◌, List, sym, ap, subst, ◌∙◌}
use Rattle.std.specs.Prelude.{Option}
use Rattle.task_queue.specs.declared.queue.Place.{Place}
use Rattle.task_queue.specs.Places.{IsKept}
use Rattle.task_queue.specs.Queue.{marked}
use Rattle.task_queue.proofs.Marks.{kept_marked}
use Rattle.task_queue.proofs.queue.TaskQueue.make_ready.Goals as goal

pub invariant_of-self : goal.invariant_of-self
invariant_of-self c =
    let slots = c.self.inside.slots.items in
    let is : c.marked-self-inside.result.items ≡ marked c.args.mask slots = c.marked-self-inside.ensures ∙ ap (marked c.args.mask) c.as_slice.ensures.value in
    let P : List (Option Place) → Type 0 = λ s. IsKept s c.self.inside.waiting in
    subst P (sym is) (kept_marked c.args.mask slots c.self.inside.waiting c.self.invariant)
