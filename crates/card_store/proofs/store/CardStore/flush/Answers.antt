use Rattle.std.proofs.Common.{Option, List, Some, ap, subst, sym, ◌∙◌}
use Rattle.std.specs.Prelude.{option_map}
use Rattle.image_form.specs.Image.{shown}
use Rattle.storage_model.specs.declared.block.Block.{Block}
use Rattle.intent_store.specs.Intent.{Known}
use Rattle.card_store.specs.Stands.{LinesStand}
use Rattle.card_store.proofs.Turning.{turns_flushed}
use Rattle.card_store.proofs.store.CardStore.flush.Goals as goal

pub returns-clause-ok : goal.returns-clause-ok
returns-clause-ok g c =
    rw (← c.self.view_is) (turns_flushed _ _ _ _
    (ap Some c.in_ok-stage_all.ensures.staged.sectors ∙ sym (ap (option_map (λ (known : Known). known.sectors)) c.in-Some.is))
    c.in_ok-stage_all.ensures.ok c.clear.ensures c.clear-2.ensures
    (λ base pend stands. subst (λ (told : Option (List Block)). LinesStand c.stage_all.new.cache (option_map shown told) base pend) (sym c.in_ok-settle.ensures.same) (c.in_ok-stage_all.ensures.staged.lines base pend stands)))
