-- The lines of the requests that are lost.
use Rattle.std.proofs.Common.{◌≡◌, ◌∙◌, ◌≤◌, ℕ, List, [], ◌∷◌, Option, None, Some, Result, Err, fold, length, map, take, ap, subst, sym}
use Rattle.std.proofs.lemmas.List.{take_all}
use Rattle.io_edge.specs.Sink.{Joins}
use Rattle.storage_model.specs.declared.ends.Halt.{Halt}
use Rattle.storage_model.specs.declared.ends.Halt.TheVariants.{SinkFailed}
use Rattle.storage_model.specs.declared.trace.Item.TheVariants.{Lost}
use Rattle.cut_laws.specs.Lost.{above, lower, next_lost, lost_lines}
use Rattle.trace_print.specs.Prints.{Takes}
use Rattle.trace_text.specs.Trace.{items_text}
use Rattle.power_step.specs.Cut.{LostWritten}
use Rattle.power_step.proofs.Taking.{part_of_one, wrote_behind}

module _ {K : Type 0} (took : K → List ℕ → K → Type 0) (both : Joins took) (holders : List (Option ℕ)) where
  pub lost_next : (last id : ℕ) (old mid new : K) (result : Result (Unit {0}) Halt) → next_lost last holders ≡ Some id → took old (items_text (Lost id ∷ [])) mid
      → LostWritten took holders id mid result new → LostWritten took holders last old result new
  lost_next last id old mid new result next first rest = record {
    ids = id ∷ rest.ids;
    are = (next, rest.are);
    wrote = wrote_behind took both old mid new (Lost id ∷ []) (lost_lines rest.ids) result first rest.wrote;
  }

-- the line of one of them broke off
pub lost_broken : {K : Type 0} (took : K → List ℕ → K → Type 0) (holders : List (Option ℕ)) (last id : ℕ) (old new : K) (halt : Halt) → next_lost last holders ≡ Some id → Takes took old (Lost id ∷ []) (Err halt) new → halt ≡ SinkFailed
    → LostWritten took holders last old (Err halt) new
lost_broken took holders last id old new halt next line is = subst (λ h. Takes took old (Lost id ∷ []) (Err h) new → LostWritten took holders last old (Err h) new) (sym is)
    (λ part. record { ids = id ∷ []; are = (next, λ ok. absurd (cc)); wrote = part_of_one took old new (Lost id) part }) line

-- all tags were looked at
pub all_looked : (last tag : ℕ) (holders : List (Option ℕ)) (next : Option ℕ) → next ≡ fold lower None (map (above last) (take tag holders)) → length holders ≤ tag → next ≡ next_lost last holders
unfolding next_lost
all_looked last tag holders next is past = is ∙ ap (λ those. fold lower None (map (above last) those)) (take_all tag holders past)
