use Rattle.std.proofs.Common.{◌≡◌, ◌∷◌, codes, arith, rules}
use Rattle.std.proofs.lemmas.Slice.Eq.{text_from_reads}
use Rattle.fault_text.proofs.fields.kind.Goals as goal

pub returns-in-noresp : goal.returns-in-noresp
returns-in-noresp c =
    let word : c.in_ok-next.field-0.now ≡ codes "noresp" = text_from_reads _ _ (omega arith) (search rules) in
    let parts = c.in_ok-next.ensures in
    let whole : c.args.words ≡ codes "noresp" ∷ c.next.new.self = cc in
    rw whole c.no_response.ensures
