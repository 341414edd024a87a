-- The line of a run's end, and that of a cut, behind other lines.
use Rattle.std.proofs.Common.{◌∙◌, ◌≤◌, ◌++◌, ◌∷◌, arith, refl, List, [], Result, Ok, Err, ap, sym}
use Rattle.std.proofs.lemmas.List.{append_assoc}
use Rattle.storage_model.specs.declared.ends.Halt.{Halt}
use Rattle.storage_model.specs.declared.ends.Halt.TheVariants.{SinkFailed, OpenFault, PowerGone, BadImage}
use Rattle.storage_model.specs.declared.trace.End.{End}
use Rattle.storage_model.specs.declared.trace.Item.{Item}
use Rattle.std.specs.Prelude.{count_by}
use Rattle.storage_model.specs.declared.trace.Item.TheVariants.{Cut, Off}
use Rattle.trace_print.specs.Prints.{is_cut_line}
use Rattle.power_step.proofs.Counting.{count_join, count_yes}
use Rattle.power_step.specs.Loses.{EndsBy, HasEnd}

by_behind : (end : End) (front items : List Item) → EndsBy end items → EndsBy end (front ++ items)
by_behind end front items is = (front ++ is.0, ap (λ more. front ++ more) is.1 ∙ sym (append_assoc front is.0 (Off end ∷ [])))

pub end_behind : (result : Result (Unit {0}) Halt) (front items : List Item) → HasEnd items result → HasEnd (front ++ items) result
end_behind (Ok done) front items end = tt
end_behind (Err SinkFailed) front items end = tt
end_behind (Err OpenFault) front items end = by_behind _ front items end
end_behind (Err PowerGone) front items end = by_behind _ front items end
end_behind (Err BadImage) front items end = by_behind _ front items end

pub cut_behind : (front lines : List Item) → 1 ≤ count_by is_cut_line lines → 1 ≤ count_by is_cut_line (front ++ lines)
cut_behind front lines some = let join = count_join is_cut_line front lines in omega (arith, join, some)

pub cut_among : (front more : List Item) → 1 ≤ count_by is_cut_line (front ++ Cut ∷ more)
cut_among front more =
    let join = count_join is_cut_line front (Cut ∷ more) in
    let one = count_yes is_cut_line Cut more refl in
    omega (arith, join, one)
