-- A put goes into its sector's line of the last epoch, or into a new one.
use Rattle.std.proofs.Common.{◌≡◌, ◌≢◌, ℕ, ◌+◌, ◌<◌, ◌≤◌, inl, inr, Bool, true, false, ◌||◌, if◌then◌else◌, List, [], ◌∷◌, ◌++◌, length, map, refl, sym, ap, subst, ◌∙◌, arith}
use Rattle.std.proofs.lemmas.Bool.{cases_Bool, cases_lt, cases_eq, eq-eqb, ne_eqb, both_ways, or_left, or_right, or_parts, false_from_ne_true}
use Rattle.std.proofs.lemmas.List.Folds.{list_any-append}
use Rattle.std.specs.List.{AllByRecursion, list_any}
use Rattle.storage_model.proofs.Appends.{bars-append, before_epoch-append, puts_at-put, puts_at-put_elsewhere, puts_at-put_past, contents_now-put}
use Rattle.storage_model.proofs.Applied.{sector_put_other}
use Rattle.storage_model.proofs.Latest.{last_value}
use Rattle.storage_model.specs.Contents.{bars, before_epoch, contents_now, puts_at, sector_at}
use Rattle.storage_model.specs.declared.block.Block.{Block}
use Rattle.storage_model.specs.declared.marks.Put.{Put}
use Rattle.storage_model.specs.declared.marks.Mark.{Mark}
use Rattle.storage_model.specs.declared.marks.Mark.TheVariants.{Put as PutMark}
use Rattle.epoch_cache.specs.declared.line.Line.{Line}
use Rattle.epoch_cache.specs.Cache.{is_of, lines_with, new_line, renewed}
use Rattle.epoch_cache.proofs.CacheSteps.{is_of-true, is_of-from}
use Rattle.epoch_cache.proofs.TableSteps.{all_more}
use Rattle.card_store.proofs.Epochs.{before_epoch-next, before_epoch-now}
use Rattle.card_store.proofs.Segments.{shown-last, shown-put, some_reliable-put}
use Rattle.card_store.proofs.Standing.{is_at-true, is_at-from, some_or_none}
use Rattle.card_store.specs.Stands.{LineStands, StandsIn, is_at, some_reliable}

pub bars-put : (pend : List Mark) (put : Put) → bars (pend ++ PutMark put ∷ []) ≡ bars pend
bars-put pend put = let more = bars-append pend (PutMark put ∷ []) in omega arith

-- epochs in front of the end start as they did
start_put : (e : ℕ) (base : List Block) (pend : List Mark) (put : Put) → e ≤ bars pend → before_epoch e base (pend ++ PutMark put ∷ []) ≡ before_epoch e base pend
start_put e base pend put within = before_epoch-append e base pend (PutMark put ∷ []) within

pub puts_here : (pend : List Mark) (put : Put) → puts_at (bars pend) put.sector (pend ++ PutMark put ∷ []) ≡ puts_at (bars pend) put.sector pend ++ put ∷ []
puts_here pend put = puts_at-put (bars pend) put.sector pend put refl (eq-eqb put.sector put.sector refl)

pub puts_there : (f s : ℕ) (pend : List Mark) (put : Put) → (f ≡ bars pend → s ≡ put.sector → ⊥) → puts_at f s (pend ++ PutMark put ∷ []) ≡ puts_at f s pend
puts_there f s pend put apart = elim (cases_eq f (bars pend)) [
  | inl last ↦ puts_at-put_elsewhere f s pend put (ne_eqb put.sector s (λ same. apart last (sym same)))
  | inr earlier ↦ puts_at-put_past f s pend put earlier
]

-- another line
other_line : (base : List Block) (pend : List Mark) (last : ℕ) (shown : List Block) (e : ℕ) (put : Put) (line : Line) → e ≤ bars pend → LineStands base pend last shown e line → is_of last put.sector line ≡ false
    → LineStands base (pend ++ PutMark put ∷ []) last shown e line
other_line base pend last shown e put line within is other =
    let more = bars-put pend put in
    let matched = is.matched in
    let upto = is.within in
    let same : puts_at is.epoch line.sector (pend ++ PutMark put ∷ []) ≡ puts_at is.epoch line.sector pend = puts_there is.epoch line.sector pend put
    (λ now here. both_ways (is_of last put.sector line) other (is_of-from last put.sector line (omega arith) here)) in
    record {
      epoch = is.epoch;
      matched = omega arith;
      begun = is.begun;
      within = omega arith;
      sector = is.sector;
      earlier = is.earlier;
      put = is.put;
      puts = same ∙ is.puts;
      value = is.value;
      later = λ after. is.later after ∙ ap some_reliable (sym same);
      mixed = λ now.
          let same' : puts_at e line.sector (pend ++ PutMark put ∷ []) ≡ puts_at e line.sector pend = rw now at same in
          rw (start_put e base pend put within, same') (is.mixed now);
      ordinary = is.ordinary;
    }

-- the sector's line of the last epoch
renewed_line : (base : List Block) (pend : List Mark) (last : ℕ) (shown : List Block) (e : ℕ) (put : Put) (line : Line) → e ≤ bars pend → LineStands base pend last shown e line → is_of last put.sector line ≡ true
    → LineStands base (pend ++ PutMark put ∷ []) last shown e (renewed put line)
renewed_line base pend last shown e put line within is here =
    let more = bars-put pend put in
    let at = is_of-true last put.sector line here in
    let now_last = at.0 in
    let matched = is.matched in
    let now : is.epoch ≡ bars pend = omega arith in
    let puts : puts_at is.epoch line.sector (pend ++ PutMark put ∷ []) ≡ puts_at is.epoch line.sector pend ++ put ∷ [] = rw (now, at.1) (puts_here pend put) in
    record {
      epoch = is.epoch;
      matched = omega arith;
      begun = is.begun;
      within = omega arith;
      sector = is.sector;
      earlier = puts_at is.epoch line.sector pend;
      put = put;
      puts = puts;
      value = refl;
      later = λ after. ap (λ whole. whole || put.reliable) (is.later after) ∙ sym (some_reliable-put (puts_at is.epoch line.sector pend) put) ∙ ap some_reliable (sym puts);
      mixed = λ same.
          let puts' : puts_at e line.sector (pend ++ PutMark put ∷ []) ≡ puts_at e line.sector pend ++ put ∷ [] = rw same at puts in
          rw (start_put e base pend put within, puts')
          (shown-put line.whole (sector_at (before_epoch e base pend) line.sector) (puts_at e line.sector pend) put (sector_at shown line.sector) (is.mixed same));
      ordinary = λ same none. (or_parts line.whole put.reliable none).1;
    }

is_at-last : (n last s : ℕ) (line : Line) → is_at n last n s line ≡ true → is_of last s line ≡ true
is_at-last n last s line h = let at = is_at-true n last n s line h in let same = at.0 in is_of-from last s line (omega arith) at.1

is_last-at : (n last s : ℕ) (line : Line) → is_of last s line ≡ true → is_at n last n s line ≡ true
is_last-at n last s line h = let at = is_of-true last s line h in let same = at.0 in is_at-from n last n s line (omega arith) at.1

pub any_other : (p q : Line → Bool) (lines : List Line) → ((line : Line) → p line ≡ true → q line ≡ true) → list_any p lines ≡ true → list_any q lines ≡ true
any_other p q [] also some = some
any_other p q (line ∷ lines) also some = elim (cases_Bool (p line)) [
  | inl here ↦ or_left (q line) (list_any q lines) (also line here)
  | inr gone ↦ or_right (q line) (list_any q lines) (any_other p q lines also (rw gone at some))
]

pub none_other : (p q : Line → Bool) (lines : List Line) → ((line : Line) → q line ≡ true → p line ≡ true) → list_any p lines ≡ false → list_any q lines ≡ false
none_other p q lines also none = false_from_ne_true (list_any q lines) (λ some. both_ways (list_any p lines) none (any_other q p lines also some))

-- a new line
new_stands : (lines : List Line) (last : ℕ) (shown base : List Block) (pend : List Mark) (e : ℕ) (put : Put) → put.sector < length base → list_any (is_of last put.sector) lines ≡ false
    → StandsIn lines last shown base pend e → LineStands base (pend ++ PutMark put ∷ []) last shown e (new_line last put)
new_stands lines last shown base pend e put inside none is =
    let more = bars-put pend put in
    let gone : list_any (is_at (bars pend) last (bars pend) put.sector) lines ≡ false = none_other (is_of last put.sector) (is_at (bars pend) last (bars pend) put.sector) lines (is_at-last (bars pend) last put.sector) none in
    let start = sector_at (before_epoch e base pend) put.sector in
    record {
      epoch = bars pend;
      matched = omega arith;
      begun = is.within;
      within = omega arith;
      sector = inside;
      earlier = puts_at (bars pend) put.sector pend;
      put = put;
      puts = puts_here pend put;
      value = refl;
      later = λ after.
          let empty : puts_at (bars pend) put.sector pend ≡ [] = elim (some_or_none (puts_at (bars pend) put.sector pend)) [
            | inl empty ↦ empty
            | inr some ↦ absurd (both_ways (list_any (is_at (bars pend) last (bars pend) put.sector) lines) gone (is.later (bars pend) put.sector after (omega arith) some))
          ] in
          sym (ap some_reliable (puts_here pend put) ∙ some_reliable-put (puts_at (bars pend) put.sector pend) put ∙ ap (λ puts. some_reliable puts || put.reliable) empty);
      mixed = λ now.
          let bare : sector_at shown put.sector ≡ last_value start (puts_at e put.sector pend) = is.bare put.sector inside (subst (λ f. list_any (is_at (bars pend) last f put.sector) lines ≡ false) now gone) ∙ before_epoch-next e base pend put.sector inside in
          let puts : puts_at e put.sector (pend ++ PutMark put ∷ []) ≡ puts_at e put.sector pend ++ put ∷ [] = rw now at (puts_here pend put) in
          rw (start_put e base pend put is.within, puts, bare)
          (shown-put false start (puts_at e put.sector pend) put (last_value start (puts_at e put.sector pend)) (shown-last false start (puts_at e put.sector pend)));
      ordinary = λ now none. none;
    }

-- the lines with the put

renewed_all : (base : List Block) (pend : List Mark) (last : ℕ) (shown : List Block) (e : ℕ) (put : Put) (lines : List Line) → e ≤ bars pend → AllByRecursion (LineStands base pend last shown e) lines
    → AllByRecursion (LineStands base (pend ++ PutMark put ∷ []) last shown e) (map (λ line. if is_of last put.sector line then renewed put line else line) lines)
renewed_all base pend last shown e put [] within all = tt
renewed_all base pend last shown e put (line ∷ lines) within all =
    let rest = renewed_all base pend last shown e put lines within all.1 in
    elim (cases_Bool (is_of last put.sector line)) [
      | inl here ↦ rw here (renewed_line base pend last shown e put line within all.0 here, rest)
      | inr gone ↦ rw gone (other_line base pend last shown e put line within all.0 gone, rest)
    ]

others_all : (base : List Block) (pend : List Mark) (last : ℕ) (shown : List Block) (e : ℕ) (put : Put) (lines : List Line) → e ≤ bars pend → list_any (is_of last put.sector) lines ≡ false
    → AllByRecursion (LineStands base pend last shown e) lines → AllByRecursion (LineStands base (pend ++ PutMark put ∷ []) last shown e) lines
others_all base pend last shown e put [] within none all = tt
others_all base pend last shown e put (line ∷ lines) within none all =
    let parts = or_parts (is_of last put.sector line) (list_any (is_of last put.sector) lines) none in
    (other_line base pend last shown e put line within all.0 parts.0, others_all base pend last shown e put lines within parts.1 all.1)

any_renewed : (n last f s : ℕ) (put : Put) (lines : List Line) → list_any (is_at n last f s) (map (λ line. if is_of last put.sector line then renewed put line else line) lines) ≡ list_any (is_at n last f s) lines
any_renewed n last f s put [] = refl
any_renewed n last f s put (line ∷ lines) = elim (cases_Bool (is_of last put.sector line)) [
  | inl here ↦ rw (here, any_renewed n last f s put lines) refl
  | inr gone ↦ rw (gone, any_renewed n last f s put lines) refl
]

-- the lines have one for the put's sector, and all that they had
has_line : (n last : ℕ) (put : Put) (lines : List Line) → list_any (is_at n last n put.sector) (lines_with last put lines) ≡ true
unfolding lines_with
has_line n last put lines = elim (cases_Bool (list_any (is_of last put.sector) lines)) [
  | inl some ↦ rw (some, any_renewed n last n put.sector put lines) (any_other (is_of last put.sector) (is_at n last n put.sector) lines (is_last-at n last put.sector) some)
  | inr none ↦ rw (none, list_any-append (is_at n last n put.sector) lines (new_line last put ∷ []))
      (or_right (list_any (is_at n last n put.sector) lines) (is_at n last n put.sector (new_line last put) || false) (or_left (is_at n last n put.sector (new_line last put)) false (is_at-from n last n put.sector (new_line last put) (omega arith) refl)))
]

has_others : (n last f s : ℕ) (put : Put) (lines : List Line) → list_any (is_at n last f s) lines ≡ true → list_any (is_at n last f s) (lines_with last put lines) ≡ true
unfolding lines_with
has_others n last f s put lines h = elim (cases_Bool (list_any (is_of last put.sector) lines)) [
  | inl some ↦ rw (some, any_renewed n last f s put lines) h
  | inr none ↦ rw (none, list_any-append (is_at n last f s) lines (new_line last put ∷ [])) (or_left (list_any (is_at n last f s) lines) (is_at n last f s (new_line last put) || false) h)
]

pub stands_put : (lines : List Line) (last : ℕ) (shown base : List Block) (pend : List Mark) (e : ℕ) (put : Put) → put.sector < length base → StandsIn lines last shown base pend e
    → StandsIn (lines_with last put lines) last shown base (pend ++ PutMark put ∷ []) e
unfolding lines_with
stands_put lines last shown base pend e put inside is =
    let more = bars-put pend put in
    let within = is.within in
    record {
      within = omega arith;
      sectors = is.sectors;
      lines = elim (cases_Bool (list_any (is_of last put.sector) lines)) [
        | inl some ↦ rw some (renewed_all base pend last shown e put lines within is.lines)
        | inr none ↦ rw none (all_more (LineStands base (pend ++ PutMark put ∷ []) last shown e) lines (new_line last put) (others_all base pend last shown e put lines within none is.lines) (new_stands lines last shown base pend e put inside none is))
      ];
      later = λ f s after upto some. elim (cases_eq f (bars pend)) [
        | inl now ↦ elim (cases_eq s put.sector) [
          | inl here ↦ rw (more, now, here) (has_line (bars pend) last put lines)
          | inr there ↦ rw more (has_others (bars pend) last f s put lines (is.later f s after (omega arith) (λ none. some (puts_there f s pend put (λ _ same. there same) ∙ none))))
        ]
        | inr before ↦ rw more (has_others (bars pend) last f s put lines (is.later f s after (omega arith) (λ none. some (puts_there f s pend put (λ same _. before same) ∙ none))))
      ];
      bare = λ s here gone.
          let gone' : list_any (is_at (bars pend) last e s) (lines_with last put lines) ≡ false = rw more at gone in
          let old = is.bare s here (false_from_ne_true (list_any (is_at (bars pend) last e s) lines) (λ h. both_ways (list_any (is_at (bars pend) last e s) (lines_with last put lines)) gone' (has_others (bars pend) last e s put lines h))) in
          elim (cases_lt e (bars pend)) [
            | inl before ↦ rw (start_put (e + 1) base pend put (omega arith)) old
            | inr now ↦
                let same : e ≡ bars pend = omega arith in
                let apart : put.sector ≢ s = λ at. both_ways (list_any (is_at (bars pend) last e s) (lines_with last put lines)) gone' (rw (same, ← at) (has_line (bars pend) last put lines)) in
                let end : before_epoch (e + 1) base (pend ++ PutMark put ∷ []) ≡ contents_now base (pend ++ PutMark put ∷ []) = rw (same, ← more) (before_epoch-now base (pend ++ PutMark put ∷ [])) in
                let end' : before_epoch (e + 1) base pend ≡ contents_now base pend = rw same (before_epoch-now base pend) in
                rw (end, contents_now-put base pend put, sector_put_other (contents_now base pend) put s (ne_eqb put.sector s apart)) (old ∙ ap (λ c. sector_at c s) end')
          ];
    }
