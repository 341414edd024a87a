use Rattle.std.proofs.Common.{◌∙◌, ◌++◌, ap, sym, subst, List}
use Rattle.request_text.specs.Meaning.{AreSettings}
use Rattle.request_text.specs.Settings.{IsNew, kind_of, settings_text}
use Rattle.request_text.specs.declared.setting.Setting.{Setting}
use Rattle.request_text.proofs.SettingLists.{setting_shorter, settings_more, settings_text-more}
use Rattle.request_text.proofs.read.read_settings.Goals as goal

pub loop-setting-smaller : goal.loop-setting-smaller
loop-setting-smaller c = setting_shorter c.in-Some.setting c.loop-setting.rest.now c.in-Some.after.now c.in-Some.ensures.some.0 c.in-Some.ensures.some.2

pub loop-setting-preserved : goal.loop-setting-preserved
loop-setting-preserved c =
    let some = c.in-Some.ensures.some in
    let new = subst (λ (l : List Setting). IsNew (kind_of c.in-Some.setting) l) c.as_slice.ensures some.1 in
    let list = c.in_ok-push.ensures.ok in
    record {
      set = subst (λ (l : List Setting). AreSettings l) (sym list) (settings_more c.loop-setting.settings c.in-Some.setting c.loop-setting.invariant.set some.0 new);
      parts = settings_text-more c.loop-setting.settings c.in-Some.setting c.args.text.now c.loop-setting.rest.now c.in-Some.after.now c.loop-setting.invariant.parts some.2
          ∙ ap (λ (l : List Setting). settings_text l ++ c.in-Some.after.now) (sym list);
    }
