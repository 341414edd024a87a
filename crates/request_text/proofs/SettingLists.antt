-- Settings one after the other, and the plans that they make.
use Rattle.std.proofs.Common.{◌≡◌, ◌≢◌, ◌⊎◌, inl, inr, ℕ, ◌<◌, ◌≤◌, List, [], ◌∷◌, ◌++◌, length, Option, Some, None, refl, sym, ap, ◌∙◌, arith, append_assoc}
use Rattle.std.specs.Prelude.{All, fold}
use Rattle.std.proofs.lemmas.Grind.{flat_map-append}
use Rattle.std.proofs.lemmas.List.{append-nil, length-append}
use Rattle.std.proofs.lemmas.List.Elements.{All-nil, All-cons, All-head, All-tail, All-push}
use Rattle.storage_model.specs.declared.block.Block.{Block}
use Rattle.storage_model.specs.declared.plan.Job.{Job}
use Rattle.storage_model.specs.declared.plan.Plan.{Plan}
use Rattle.request_text.specs.declared.setting.Setting.{Setting}
use Rattle.request_text.specs.declared.setting.Setting.TheVariants.{Depth, Cache, Descriptors, Coalesce}
use Rattle.request_text.specs.Meaning.{AreSettings}
use Rattle.request_text.specs.Settings.{IsCache, AreOnce, IsNew, IsSetting, kind_of, plan_of, setting_text, settings_text, standard, with_cache, with_setting}
use Rattle.text_words.proofs.LineTexts.{line_long}
use Rattle.request_text.proofs.SettingTexts.{one_setting, setting_text-line}

once_push : (settings : List Setting) (setting : Setting) → AreOnce settings → IsNew (kind_of setting) settings → AreOnce (settings ++ setting ∷ [])
once_push [] setting once new = (All-nil (λ (other : Setting). kind_of other ≢ kind_of setting), tt)
once_push (first ∷ settings) setting once new =
    let apart : kind_of setting ≢ kind_of first = λ e. All-head (λ (other : Setting). kind_of other ≢ kind_of setting) first settings new (sym e) in (
      All-push (λ (other : Setting). kind_of other ≢ kind_of first) settings setting once.0 apart,
      once_push settings setting once.1 (All-tail (λ (other : Setting). kind_of other ≢ kind_of setting) first settings new),
    )

once_front : (settings more : List Setting) → AreOnce (settings ++ more) → AreOnce settings
once_front [] more once = tt
once_front (first ∷ settings) more once = (front settings more once.0, once_front settings more once.1)
  where
    front : (xs ys : List Setting) → IsNew (kind_of first) (xs ++ ys) → IsNew (kind_of first) xs
    front [] ys new = All-nil (λ (other : Setting). kind_of other ≢ kind_of first)
    front (x ∷ xs) ys new =
        All-cons (λ (other : Setting). kind_of other ≢ kind_of first) x xs (All-head (λ (other : Setting). kind_of other ≢ kind_of first) x (xs ++ ys) new)
        (front xs ys (All-tail (λ (other : Setting). kind_of other ≢ kind_of first) x (xs ++ ys) new))

-- a setting that stands behind others is of a new kind
pub once_new : (settings more : List Setting) (setting : Setting) → AreOnce (settings ++ setting ∷ more) → IsNew (kind_of setting) settings
once_new [] more setting once = All-nil (λ (other : Setting). kind_of other ≢ kind_of setting)
once_new (first ∷ settings) more setting once =
    All-cons (λ (other : Setting). kind_of other ≢ kind_of setting) first settings (λ e. apart settings more once.0 (sym e)) (once_new settings more setting once.1)
  where
    apart : (xs ys : List Setting) → IsNew (kind_of first) (xs ++ setting ∷ ys) → kind_of setting ≢ kind_of first
    apart [] ys new = All-head (λ (other : Setting). kind_of other ≢ kind_of first) setting ys new
    apart (x ∷ xs) ys new = apart xs ys (All-tail (λ (other : Setting). kind_of other ≢ kind_of first) x (xs ++ setting ∷ ys) new)

pub settings_more : (settings : List Setting) (setting : Setting) → AreSettings settings → IsSetting setting → IsNew (kind_of setting) settings → AreSettings (settings ++ setting ∷ [])
settings_more settings setting set valid new = record {
  each = All-push IsSetting settings setting set.each valid;
  once = once_push settings setting set.once new;
}

each_front : (xs ys : List Setting) → All IsSetting (xs ++ ys) → All IsSetting xs
each_front [] ys all = All-nil IsSetting
each_front (x ∷ xs) ys all = All-cons IsSetting x xs (All-head IsSetting x (xs ++ ys) all) (each_front xs ys (All-tail IsSetting x (xs ++ ys) all))

pub settings_front : (settings more : List Setting) → AreSettings (settings ++ more) → AreSettings settings
settings_front settings more set = record { each = each_front settings more set.each; once = once_front settings more set.once }

-- the text with one setting more
pub settings_text-more : (settings : List Setting) (setting : Setting) (whole rest after : List ℕ) → whole ≡ settings_text settings ++ rest → rest ≡ setting_text setting ++ after
    → whole ≡ settings_text (settings ++ setting ∷ []) ++ after
settings_text-more settings setting whole rest after is parts =
    is ∙ ap (λ t. settings_text settings ++ t) parts ∙ sym (append_assoc (settings_text settings) (setting_text setting) after)
    ∙ ap (λ t. t ++ after) (ap (λ t. settings_text settings ++ t) (sym (append-nil (setting_text setting))) ∙ sym (flat_map-append setting_text settings (setting ∷ [])))

pub setting_shorter : (setting : Setting) (rest after : List ℕ) → IsSetting setting → rest ≡ setting_text setting ++ after → length after < length rest
setting_shorter setting rest after valid is = omega (arith, line_long (setting_text setting) (setting_text-line setting valid), ap length is, length-append (setting_text setting) after)

-- of two texts that agree: the same settings, or one more
pub record Longer (settings : List Setting) (x : List ℕ) (others : List Setting) : Type 0 where
  pub setting : Setting
  pub more : List Setting
  pub list : others ≡ settings ++ setting ∷ more
  pub after : List ℕ
  pub text : x ≡ setting_text setting ++ after
  pub valid : IsSetting setting

abbrev pub Overlaps : List Setting → List ℕ → List Setting → List ℕ → Type 0
Overlaps settings x others y = ((settings ≡ others) × (x ≡ y)) ⊎ (Longer settings x others ⊎ Longer others y settings)

longer_more : (first other : Setting) (settings others : List Setting) (x : List ℕ) → first ≡ other → Longer settings x others → Longer (first ∷ settings) x (other ∷ others)
longer_more first other settings others x same longer = record {
  setting = longer.setting;
  more = longer.more;
  list = (let list = longer.list in cc);
  after = longer.after;
  text = longer.text;
  valid = longer.valid;
}

pub overlap : (settings others : List Setting) (x y : List ℕ) → All IsSetting settings → All IsSetting others → settings_text settings ++ x ≡ settings_text others ++ y → Overlaps settings x others y
overlap [] [] x y all each same = inl (refl, same)
overlap [] (other ∷ others) x y all each same = inr (inl (record {
  setting = other;
  more = others;
  list = refl;
  after = settings_text others ++ y;
  text = same ∙ append_assoc (setting_text other) (settings_text others) y;
  valid = All-head IsSetting other others each;
}))
overlap (first ∷ settings) [] x y all each same = inr (inr (record {
  setting = first;
  more = settings;
  list = refl;
  after = settings_text settings ++ x;
  text = sym same ∙ append_assoc (setting_text first) (settings_text settings) x;
  valid = All-head IsSetting first settings all;
}))
overlap (first ∷ settings) (other ∷ others) x y all each same =
    let parts = one_setting first other (settings_text settings ++ x) (settings_text others ++ y) (All-head IsSetting first settings all) (All-head IsSetting other others each)
    (sym (append_assoc (setting_text first) (settings_text settings) x) ∙ same ∙ append_assoc (setting_text other) (settings_text others) y) in
    let head = parts.0 in
    elim (overlap settings others x y (All-tail IsSetting first settings all) (All-tail IsSetting other others each) parts.1) [
      | inl equal ↦ (let tail = equal.0 in inl ((cc), equal.1))
      | inr longer ↦ elim longer [
        | inl left ↦ inr (inl (longer_more first other settings others x head left))
        | inr right ↦ inr (inr (longer_more other first others settings y (sym head) right))
      ]
    ]

-- settings leave the requests alone
cache_jobs : (plan : Plan) (lines : Option ℕ) → (with_cache plan lines).jobs ≡ plan.jobs
cache_jobs plan (Some lines) = refl
cache_jobs plan None = refl

cache_blocks : (plan : Plan) (lines : Option ℕ) → (with_cache plan lines).blocks ≡ plan.blocks
cache_blocks plan (Some lines) = refl
cache_blocks plan None = refl

one_jobs : (plan : Plan) (setting : Setting) → (with_setting plan setting).jobs ≡ plan.jobs
one_jobs plan (Depth depth) = refl
one_jobs plan (Cache lines) = cache_jobs plan lines
one_jobs plan (Descriptors wide) = refl
one_jobs plan (Coalesce count) = refl

one_blocks : (plan : Plan) (setting : Setting) → (with_setting plan setting).blocks ≡ plan.blocks
one_blocks plan (Depth depth) = refl
one_blocks plan (Cache lines) = cache_blocks plan lines
one_blocks plan (Descriptors wide) = refl
one_blocks plan (Coalesce count) = refl

fold_jobs : (plan : Plan) (settings : List Setting) → (fold with_setting plan settings).jobs ≡ plan.jobs
fold_jobs plan [] = refl
fold_jobs plan (setting ∷ settings) = fold_jobs (with_setting plan setting) settings ∙ one_jobs plan setting

fold_blocks : (plan : Plan) (settings : List Setting) → (fold with_setting plan settings).blocks ≡ plan.blocks
fold_blocks plan [] = refl
fold_blocks plan (setting ∷ settings) = fold_blocks (with_setting plan setting) settings ∙ one_blocks plan setting

pub plan_jobs : (settings : List Setting) (jobs : List Job) (blocks : List Block) → (plan_of settings jobs blocks).jobs ≡ jobs
plan_jobs settings jobs blocks = fold_jobs (standard jobs blocks) settings

pub plan_blocks : (settings : List Setting) (jobs : List Job) (blocks : List Block) → (plan_of settings jobs blocks).blocks ≡ blocks
plan_blocks settings jobs blocks = fold_blocks (standard jobs blocks) settings

-- a plan's own numbers are within their limits
pub record HasNumbers (plan : Plan) : Type 0 where
  pub depth : (1 ≤ plan.depth) × (plan.depth ≤ 31)
  pub lines : (1 ≤ plan.lines) × (plan.lines ≤ 1024)
  pub coalesce : plan.coalesce ≤ 31

cache_numbers : (plan : Plan) (lines : Option ℕ) → IsCache lines → HasNumbers plan → HasNumbers (with_cache plan lines)
cache_numbers plan (Some lines) valid numbers = record { depth = numbers.depth; lines = valid; coalesce = numbers.coalesce }
cache_numbers plan None valid numbers = record { depth = numbers.depth; lines = (omega arith, omega arith); coalesce = numbers.coalesce }

one_numbers : (plan : Plan) (setting : Setting) → IsSetting setting → HasNumbers plan → HasNumbers (with_setting plan setting)
one_numbers plan (Depth depth) valid numbers = record { depth = valid; lines = numbers.lines; coalesce = numbers.coalesce }
one_numbers plan (Cache lines) valid numbers = cache_numbers plan lines valid numbers
one_numbers plan (Descriptors wide) valid numbers = record { depth = numbers.depth; lines = numbers.lines; coalesce = numbers.coalesce }
one_numbers plan (Coalesce count) valid numbers = record { depth = numbers.depth; lines = numbers.lines; coalesce = valid }

fold_numbers : (plan : Plan) (settings : List Setting) → All IsSetting settings → HasNumbers plan → HasNumbers (fold with_setting plan settings)
fold_numbers plan [] each numbers = numbers
fold_numbers plan (setting ∷ settings) each numbers =
    fold_numbers (with_setting plan setting) settings (All-tail IsSetting setting settings each) (one_numbers plan setting (All-head IsSetting setting settings each) numbers)

pub plan_numbers : (settings : List Setting) (jobs : List Job) (blocks : List Block) → All IsSetting settings → HasNumbers (plan_of settings jobs blocks)
plan_numbers settings jobs blocks each =
    fold_numbers (standard jobs blocks) settings each (record { depth = (omega arith, omega arith); lines = (omega arith, omega arith); coalesce = omega arith })
