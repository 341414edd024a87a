-- A run that nothing disturbs has no line of a fault of the flash or of a cut, and so answers each request.
use Rattle.std.proofs.Common.{◌≡◌, ◌∙◌, ◌+◌, ◌≤◌, ◌∷◌, ◌++◌, inl, inr, ℕ, Bool, true, false, All, List, [], Ok, arith, refl, sym}
use Rattle.std.proofs.lemmas.List.Elements.{All-nil, All-cons}
use Rattle.std.specs.Prelude.{count_by, length}
use Rattle.answer_laws.specs.Answers.{IsAnswered, IsEndedTrace}
use Rattle.array_edge.specs.Array.{ArrayState}
use Rattle.one_trace.specs.Traces.{is_plain}
use Rattle.power_step.proofs.Counting.{count_no, count_yes}
use Rattle.power_step.specs.Loses.{EndsBy}
use Rattle.storage_machine.specs.declared.state.State.{State}
use Rattle.storage_model.specs.declared.block.Block.{Block}
use Rattle.storage_model.specs.declared.faults.Faults.{Faults}
use Rattle.storage_model.specs.declared.plan.Plan.{Plan}
use Rattle.storage_model.specs.declared.trace.End.TheVariants.{Good}
use Rattle.storage_model.specs.declared.trace.Item.{Item}
use Rattle.storage_model.specs.declared.trace.Item.TheVariants.{Card, Issue, Params, Address, Poll, Phase, Discard, Bus, Flash, Recover, Irq, Done, Read, Sector, Status, Fault, Refused, Cut, Lost, On, Left, Turn, Off}
use Rattle.storage_order.specs.Accept.{accept}
use Rattle.trace_print.specs.Prints.{is_cut_line, is_flash}
use Rattle.cqmmc_top.specs.Run.{HasAnswers}

split_count : {X : Type 0} (p : X → Bool) (x : X) (xs : List X) (flag : Bool) → p x ≡ flag → count_by p (x ∷ xs) ≡ 0 → (p x ≡ false) × (count_by p xs ≡ 0)
split_count p x xs true is none = let more = count_yes p x xs is in absurd (omega (arith, more, none))
split_count p x xs false is none = (is, sym (count_no p x xs is) ∙ none)

plain_by : (line : Item) → is_flash line ≡ false → is_cut_line line ≡ false → is_plain line ≡ true
plain_by (Flash id) flash cut = absurd (cc flash)
plain_by Cut flash cut = absurd (cc cut)
plain_by (Card sectors depth lines) flash cut = refl
plain_by (Issue id tag) flash cut = refl
plain_by (Params n id) flash cut = refl
plain_by (Address n id) flash cut = refl
plain_by (Poll n mask) flash cut = refl
plain_by (Phase n id count kept) flash cut = refl
plain_by (Discard n) flash cut = refl
plain_by (Bus n kind id) flash cut = refl
plain_by Recover flash cut = refl
plain_by (Irq mask) flash cut = refl
plain_by (Done id) flash cut = refl
plain_by (Read id) flash cut = refl
plain_by (Sector block) flash cut = refl
plain_by (Status id word) flash cut = refl
plain_by (Fault id why) flash cut = refl
plain_by (Refused id limit) flash cut = refl
plain_by (Lost id) flash cut = refl
plain_by On flash cut = refl
plain_by (Left sector block) flash cut = refl
plain_by (Turn letter) flash cut = refl
plain_by (Off end) flash cut = refl

all_plain : (lines : List Item) → count_by is_flash lines ≡ 0 → count_by is_cut_line lines ≡ 0 → All (λ line. is_plain line ≡ true) lines
all_plain [] flash cut = All-nil (λ line. is_plain line ≡ true)
all_plain (x ∷ xs) flash cut =
    let f = split_count is_flash x xs (is_flash x) refl flash in
    let c = split_count is_cut_line x xs (is_cut_line x) refl cut in
    All-cons (λ line. is_plain line ≡ true) x xs (plain_by x f.0 c.0) (all_plain xs f.1 c.1)

pub has_answers : (answered : (base : List Block) (plan : Plan) (faults : Faults) (lines : List Item) (id : ℕ) → IsAnswered base plan faults lines id) (base : List Block) (plan : Plan) (faults : Faults) (lines : List Item) (t : State)
    → accept base plan faults lines ≡ Ok t → EndsBy Good lines → count_by is_flash lines ≡ 0 → count_by is_cut_line lines ≡ 0 → HasAnswers base plan lines
has_answers answered base plan faults lines t accepted ends flash cut id some most =
    answered base plan faults lines id
    (record { last = t; reached = record { plain = all_plain lines flash cut; taken = accepted }; front = ends.0; end = Good; ends = ends.1 })
    some most
