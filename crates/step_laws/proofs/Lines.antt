-- The lines of a step: the letter's line, and those of the event behind it.
use Rattle.std.proofs.Common.{◌≡◌, ◌∙◌, ℕ, ◌++◌, Bool, true, false, if◌then◌else◌, List, [], ◌∷◌, Result, Ok, Err, take, refl, sym, ap, subst, append_assoc}
use Rattle.std.proofs.lemmas.List.Concat.{flat_map-append}
use Rattle.storage_model.specs.declared.ends.Halt.{Halt}
use Rattle.storage_model.specs.declared.ends.Halt.TheVariants.{SinkFailed, OpenFault, PowerGone, BadImage}
use Rattle.storage_model.specs.declared.faults.Letter.{Letter}
use Rattle.storage_model.specs.declared.trace.Item.{Item}
use Rattle.storage_model.specs.declared.trace.Item.TheVariants.{Turn}
use Rattle.storage_runs.specs.Runs.{shown}
use Rattle.io_edge.specs.Sink.{Joins}
use Rattle.trace_print.proofs.Joined.{taken_behind}
use Rattle.trace_print.specs.Prints.{Breaks}
use Rattle.trace_text.specs.Trace.{item_text, items_text}
use Rattle.power_step.specs.Wrote.{TakesPart, Wrote}
use Rattle.join_laws.specs.Joins.{before}
use Rattle.world_state.specs.Reading.{Context}
use Rattle.world_steps.specs.Reading.{Reads}
use Rattle.world_steps.specs.World.{WorldState, shows_letter}
use Rattle.step_laws.specs.Steps.{letter_lines}

-- as the machine shows them
shown_by_flag : (flag : Bool) (actor : Letter) (items : List Item) → (if flag then Turn actor ∷ items else items) ≡ (if flag then Turn actor ∷ [] else []) ++ items
shown_by_flag true actor items = refl
shown_by_flag false actor items = refl

pub shown_is : (w : WorldState) (c : Context) (actor : Letter) (items : List Item) → Reads w c → shown (before w c) actor items ≡ letter_lines w actor ++ items
shown_is w c actor items reads =
    ap (λ flag. if flag then Turn actor ∷ items else items) (reads.shown actor) ∙ shown_by_flag (shows_letter w actor) actor items

module _ {K : Type 0} (took : K → List ℕ → K → Type 0) (both : Joins took) where
  -- whole lines, and then lines of which the last was written in part
  pub part_behind : (old mid new : K) (first whole : List Item) → took old (items_text first) mid → TakesPart took mid whole new → TakesPart took old (first ++ whole) new
  part_behind old mid new first whole taken part = record {
    whole = first ++ part.whole;
    item = part.item;
    are = ap (λ xs. first ++ xs) part.are ∙ sym (append_assoc first part.whole (part.item ∷ []));
    count = part.count;
    part = part.part;
    taken = subst (λ text. took old text new)
        (sym (ap (λ text. text ++ take part.count (item_text part.item)) (flat_map-append item_text first part.whole)
        ∙ append_assoc (items_text first) (items_text part.whole) (take part.count (item_text part.item))))
        (both.join old mid new (items_text first) (items_text part.whole ++ take part.count (item_text part.item)) taken part.taken);
  }

  pub wrote_behind : (old mid new : K) (first lines : List Item) (result : Result (Unit {0}) Halt) → took old (items_text first) mid → Wrote took mid lines result new
      → Wrote took old (first ++ lines) result new
  wrote_behind old mid new first lines (Err SinkFailed) taken wrote = part_behind old mid new first lines taken wrote
  wrote_behind old mid new first lines (Err OpenFault) taken wrote = taken_behind took both old mid new first lines taken wrote
  wrote_behind old mid new first lines (Err PowerGone) taken wrote = taken_behind took both old mid new first lines taken wrote
  wrote_behind old mid new first lines (Err BadImage) taken wrote = taken_behind took both old mid new first lines taken wrote
  wrote_behind old mid new first lines (Ok done) taken wrote = taken_behind took both old mid new first lines taken wrote

-- lines that broke off
pub broken_part : {K : Type 0} (took : K → List ℕ → K → Type 0) (old new : K) (items : List Item) → (b : Breaks took old items new) → TakesPart took old (b.whole ++ b.item ∷ []) new
broken_part took old new items b = record { whole = b.whole; item = b.item; are = refl; count = b.count; part = b.part; taken = b.taken }
