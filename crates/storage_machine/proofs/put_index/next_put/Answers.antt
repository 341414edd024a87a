use Rattle.std.proofs.Common.{◌≡◌, ◌∙◌, [], arith, ap, get_or, inl, inr, length, sym}
use Rattle.std.proofs.lemmas.Bool.{cases_lt}
use Rattle.std.proofs.lemmas.List.{get_or_past}
use Rattle.storage_machine.proofs.LowestPuts.{next_is, next_none}
use Rattle.storage_machine.proofs.put_index.next_put.Goals as goal

pub returns-then-list_at-gt0 : goal.returns-then-list_at-gt0
returns-then-list_at-gt0 c = λ marks index.
    sym (next_is c.args.from c.loop-sector.sector marks c.loop-sector.invariant.after (λ t above below. sym (index.puts_at t) ∙ c.loop-sector.invariant.free t above below)
    (λ none.
    let empty : c.list_at.result.now ≡ [] = c.list_at.ensures ∙ (ap (λ xs. get_or xs c.loop-sector.sector []) c.as_slice.ensures.value ∙ (index.puts_at c.loop-sector.sector ∙ none)) in
    omega (arith, ap length empty)))

pub returns : goal.returns
returns c = λ marks index.
    sym (next_none c.args.from marks (λ t above. elim (cases_lt t c.loop-sector.sector) [
      | inl below ↦ sym (index.puts_at t) ∙ c.loop-sector.invariant.free t above below
      | inr past ↦ sym (index.puts_at t) ∙ get_or_past c.args.index.now.puts.items t [] (omega (arith, past))
    ]))
