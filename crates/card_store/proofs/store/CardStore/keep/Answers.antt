use Rattle.std.proofs.Common.{Option, List, Some, ap, subst, sym, ◌∙◌}
use Rattle.std.specs.Prelude.{option_map}
use Rattle.image_form.specs.Image.{shown}
use Rattle.storage_model.specs.Keep.{is_named}
use Rattle.storage_model.specs.declared.block.Block.{Block}
use Rattle.intent_store.specs.Intent.{Known}
use Rattle.card_store.specs.Stands.{LinesStand}
use Rattle.card_store.proofs.Turning.{spares_named, turns_kept}
use Rattle.card_store.proofs.store.CardStore.keep.Goals as goal

pub returns-clause-ok : goal.returns-clause-ok
returns-clause-ok g c =
    rw (← c.self.view_is) (turns_kept (is_named c.args.first c.args.blocks) _ _ _ _
    (ap Some (c.in_ok-stage_named.ensures.staged.sectors ∙ c.in_ok-stage_older.ensures.staged.sectors) ∙ sym (ap (option_map (λ (known : Known). known.sectors)) c.in-Some.is))
    c.in_ok-stage_named.ensures.now c.in_ok-stage_named.ensures.ok c.copy_from.ensures
    (spares_named c.args.first c.args.blocks c.self.inside.latest c.remove_all.new.self c.remove_all.ensures.named c.remove_all.ensures.others)
    (λ base pend stands. subst (λ (told : Option (List Block)). LinesStand c.stage_named.new.cache (option_map shown told) base pend) (sym c.in_ok-settle.ensures.same)
    (c.in_ok-stage_named.ensures.staged.lines base pend (c.in_ok-stage_older.ensures.staged.lines base pend stands))))
