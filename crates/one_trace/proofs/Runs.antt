-- One run.
use Rattle.std.proofs.Common.{◌≡◌, ◌∙◌, true, All, List, [], ◌∷◌, ◌++◌, ap, sym, subst}
use Rattle.one_trace.proofs.Traces.{one_trace}
use Rattle.one_trace.specs.Traces.{IsGoodRun, IsOneRun, Reaches, is_plain}
use Rattle.run_laws.proofs.Whole.{whole_taken}
use Rattle.run_laws.specs.Whole.{card_line, off_lines}
use Rattle.storage_machine.specs.declared.state.State.{State}
use Rattle.storage_model.specs.Plan.{IsValidPlan}
use Rattle.storage_model.specs.declared.block.Block.{Block}
use Rattle.storage_model.specs.declared.faults.Faults.{Faults}
use Rattle.storage_model.specs.declared.plan.Plan.{Plan}
use Rattle.storage_model.specs.declared.trace.End.TheVariants.{Good}
use Rattle.storage_model.specs.declared.trace.Item.{Item}
use Rattle.storage_model.specs.declared.trace.Item.TheVariants.{Off}
use Rattle.storage_order.specs.Accept.{accept}
use Rattle.storage_runs.specs.Laws.{joined}

-- the lines of a run before its end
abbrev front_lines : List Block → Plan → List (List Item) → List Item
front_lines base plan parts = card_line base plan ∷ joined parts

printed_is : (base : List Block) (plan : Plan) (faults : Faults) (lines : List Item) (s : State) → (run : IsGoodRun base plan faults lines s) → lines ≡ front_lines base plan run.whole.parts ++ Off Good ∷ []
printed_is base plan faults lines s run = run.whole.printed ∙ ap (λ end. card_line base plan ∷ (joined run.whole.parts ++ off_lines end)) run.good

run_reaches : (base : List Block) (plan : Plan) (faults : Faults) (lines : List Item) (s : State) → IsValidPlan plan → (run : IsGoodRun base plan faults lines s)
    → Reaches base plan faults (front_lines base plan run.whole.parts ++ Off Good ∷ []) s
run_reaches base plan faults lines s valid run =
    let at = printed_is base plan faults lines s run in
    record {
      plain = subst (All (λ line. is_plain line ≡ true)) at run.plain;
      taken = ap (accept base plan faults) (sym at) ∙ whole_taken base plan faults lines s valid run.whole;
    }

pub one_run : (base : List Block) (plan : Plan) (faults : Faults) (lines others : List Item) (s t : State) → IsOneRun base plan faults lines others s t
one_run base plan faults lines others s t valid quiet left right =
    let one = one_trace base plan faults (front_lines base plan left.whole.parts) (front_lines base plan right.whole.parts) s t quiet
    (run_reaches base plan faults lines s valid left) (run_reaches base plan faults others t valid right) in
    (printed_is base plan faults lines s left ∙ (ap (λ front. front ++ Off Good ∷ []) one.0 ∙ sym (printed_is base plan faults others t right)), one.1)
