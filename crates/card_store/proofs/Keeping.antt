-- Once the lines of older epochs and of the named sectors are programmed, the others stand for the marks that stay.
use Rattle.std.proofs.Common.{◌≡◌, ℕ, ◌+◌, ◌-◌, ◌<◌, ◌≤◌, Bool, false, List, length, sym, ap, subst, ◌∙◌, arith}
use Rattle.std.specs.List.{AllByRecursion, list_any}
use Rattle.storage_model.proofs.Appends.{before_epoch-first}
use Rattle.storage_model.proofs.Durable.{bars-keep_pend, contents_now-keep, keep_base-other, length-keep_base, puts_at-keep_other}
use Rattle.storage_model.specs.Contents.{bars, before_epoch, puts_at, sector_at}
use Rattle.storage_model.specs.Keep.{keep_base, keep_pend}
use Rattle.storage_model.specs.declared.block.Block.{Block}
use Rattle.storage_model.specs.declared.marks.Mark.{Mark}
use Rattle.epoch_cache.specs.declared.line.Line.{Line}
use Rattle.card_store.proofs.Epochs.{before_epoch-now}
use Rattle.card_store.proofs.Putting.{none_other}
use Rattle.card_store.proofs.Standing.{all_also, all_both, is_at-true, is_at-from, later_epoch}
use Rattle.card_store.specs.Stands.{LineStands, StandsIn, is_at}

-- a line of the last epoch that stays
kept_stands : (named : ℕ → Bool) (base : List Block) (pend : List Mark) (last : ℕ) (shown : List Block) (line : Line) → LineStands base pend last shown (bars pend) line → line.epoch ≡ last → named line.sector ≡ false
    → LineStands (keep_base named base pend) (keep_pend named pend) last shown 0 line
kept_stands named base pend last shown line is now spared =
    let none = bars-keep_pend named pend in
    let matched = is.matched in
    let at : is.epoch ≡ bars pend = omega arith in
    let size = length-keep_base named base pend in
    let inside = is.sector in
    let puts : puts_at 0 line.sector (keep_pend named pend) ≡ puts_at (bars pend) line.sector pend = puts_at-keep_other named pend line.sector spared in
    let start : sector_at (before_epoch 0 (keep_base named base pend) (keep_pend named pend)) line.sector ≡ sector_at (before_epoch (bars pend) base pend) line.sector
    = ap (λ c. sector_at c line.sector) (before_epoch-first (keep_base named base pend) (keep_pend named pend)) ∙ keep_base-other named base pend line.sector inside spared in
    record {
      epoch = 0;
      matched = omega arith;
      begun = omega arith;
      within = omega arith;
      sector = omega arith;
      earlier = is.earlier;
      put = is.put;
      puts = puts ∙ ap (λ f. puts_at f line.sector pend) (sym at) ∙ is.puts;
      value = is.value;
      later = λ after. absurd (omega arith);
      mixed = λ _. rw (start, puts) (is.mixed at);
      ordinary = λ _ ordinary. is.ordinary at ordinary;
    }

kept_now : (named : ℕ → Bool) (lines : List Line) (last : ℕ) (shown base : List Block) (pend : List Mark) → AllByRecursion (λ line. line.epoch ≡ last) lines → AllByRecursion (λ line. named line.sector ≡ false) lines
    → StandsIn lines last shown base pend (bars pend) → StandsIn lines last shown (keep_base named base pend) (keep_pend named pend) 0
kept_now named lines last shown base pend now spared is =
    let none = bars-keep_pend named pend in
    let size = length-keep_base named base pend in
    let sectors = is.sectors in
    let P : Line → Type 0 = LineStands base pend last shown (bars pend) in
    let Q : Line → Type 0 = λ line. (line.epoch ≡ last) × (named line.sector ≡ false) in
    let both : AllByRecursion Q lines = all_both (λ line. line.epoch ≡ last) (λ line. named line.sector ≡ false) Q lines (λ line a b. (a, b)) now spared in
    record {
      within = omega arith;
      sectors = omega arith;
      lines = all_both P Q (LineStands (keep_base named base pend) (keep_pend named pend) last shown 0) lines (λ line here stays. kept_stands named base pend last shown line here stays.0 stays.1) is.lines both;
      later = λ f s after upto some. absurd (omega arith);
      bare = λ s inside gone.
          let below : s < length base = omega arith in
          let gone' : list_any (is_at (bars pend) last (bars pend) s) lines ≡ false = none_other (is_at (bars (keep_pend named pend)) last 0 s) (is_at (bars pend) last (bars pend) s) lines
          (λ line here. let at = is_at-true (bars pend) last (bars pend) s line here in let same = at.0 in is_at-from (bars (keep_pend named pend)) last 0 s line (omega arith) at.1) gone in
          let first : 0 + 1 ≡ bars (keep_pend named pend) + 1 = omega arith in
          is.bare s below gone'
          ∙ ap (λ c. sector_at c s) (before_epoch-now base pend ∙ sym (contents_now-keep named base pend) ∙ sym (ap (λ f. before_epoch f (keep_base named base pend) (keep_pend named pend)) first ∙ before_epoch-now (keep_base named base pend) (keep_pend named pend)));
    }

pub stands_kept : (named : ℕ → Bool) (lines : List Line) (last : ℕ) (shown base : List Block) (pend : List Mark) (e : ℕ) → AllByRecursion (λ line. line.epoch ≡ last) lines → AllByRecursion (λ line. named line.sector ≡ false) lines
    → StandsIn lines last shown base pend e → StandsIn lines last shown (keep_base named base pend) (keep_pend named pend) 0
stands_kept named lines last shown base pend e now spared is =
    let within = is.within in
    let more : e + (bars pend - e) ≡ bars pend = omega arith in
    let past : AllByRecursion (λ line. e + (bars pend - e) + last ≤ line.epoch + bars pend) lines = all_also (λ line. line.epoch ≡ last) (λ line. e + (bars pend - e) + last ≤ line.epoch + bars pend) lines (λ line same. omega arith) now in
    kept_now named lines last shown base pend now spared (subst (StandsIn lines last shown base pend) more (later_epoch lines last shown base pend e (bars pend - e) (omega arith) past is))
