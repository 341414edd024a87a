use Rattle.std.proofs.Common.{false, ◌∷◌, [], arith}
use Rattle.std.proofs.lemmas.List.Elements.{All-nil, All-cons}
use Rattle.storage_model.specs.Contents.{IsWithin}
use Rattle.storage_model.specs.declared.marks.Mark.TheVariants.{Bar, Put as PutMark}
use Rattle.text_cases.proofs.contents.marks.Goals as goal

pub returns : goal.returns
returns c = λ base long.
    let second = PutMark (record { sector = 1; value = c.args.second; reliable = false }) in
    All-cons (IsWithin base) (PutMark (record { sector = 0; value = c.args.first; reliable = false })) (Bar ∷ second ∷ []) (omega arith)
    (All-cons (IsWithin base) Bar (second ∷ []) tt (All-cons (IsWithin base) second [] (omega arith) (All-nil (IsWithin base))))
