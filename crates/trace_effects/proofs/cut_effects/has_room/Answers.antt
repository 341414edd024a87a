use Rattle.std.proofs.Common.{◌∙◌, arith, sym, drop, ap}
use Rattle.trace_effects.proofs.Places.{no_room, place_bar, place_put}
use Rattle.trace_effects.specs.Cuts.{places_of}
use Rattle.storage_model.proofs.Passes.{next_of}
use Rattle.storage_model.specs.Contents.{numbered}
use Rattle.storage_model.specs.declared.marks.Mark.TheVariants.{Bar, Put as PutMark}
use Rattle.trace_effects.proofs.cut_effects.has_room.Goals as goal
use Rattle.trace_effects.proofs.cut_effects.has_room.Goals.{in-Bar, in-Put+in_ok-note_place-in-Put}

pub loop-mark-init : goal.loop-mark-init
unfolding places_of
loop-mark-init c = (rw c.new-places.ensures.items, omega arith)

pub returns-then-len-from : goal.returns-then-len-from
returns-then-len-from c = sym (no_room c.loop-mark.places.items (numbered c.loop-mark.epoch (drop c.loop-mark.mark-index c.args.pend.now)) c.args.pend.now c.args.lines (omega arith) c.loop-mark.invariant.0)

pub loop-mark-preserved : goal.loop-mark-preserved
loop-mark-preserved c =
    elim c.match-mark.branch [
      | in-Bar w ↦
          let at = next_of c.args.pend.now c.loop-mark.mark-index _ Bar c.loop-mark-test.true w.in-Bar.is in
          let places = place_bar c.loop-mark.places.items c.loop-mark.epoch _ _ at in
          (rw (w.places-is, w.epoch-is) (places ∙ c.loop-mark.invariant.0), omega arith)
      | in-Put+in_ok-note_place-in-Put w ↦
          let at = next_of c.args.pend.now c.loop-mark.mark-index _ (PutMark w.in-Put.put) c.loop-mark-test.true w.in-Put.is in
          let places = place_put c.loop-mark.places.items c.match-mark.places.items c.loop-mark.epoch w.in-Put.put _ _ at (ap (λ v. v.items) w.places-is ∙ w.in_ok-note_place-in-Put.ensures) in
          (rw w.epoch-is (places ∙ c.loop-mark.invariant.0), omega arith)
    ]
