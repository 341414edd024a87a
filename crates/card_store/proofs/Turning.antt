-- What a store and an array stand for, after a call.
use Rattle.std.proofs.Common.{◌≡◌, ◌≢◌, ℕ, ◌+◌, ◌<◌, ◌≤◌, inl, inr, Bool, true, false, ◌==◌, ◌||◌, if◌then◌else◌, nat_lt, nat_le, ◌⊎◌, Option, Some, None, MatchOption, List, [], ◌∷◌, ◌++◌, get_or, length, refl, sym, ap, subst, ◌∙◌, arith, get_or-set_same, get_or-set_other, length-append}
use Rattle.std.specs.Prelude.{option_map, IfSome, Result, Ok, Err, OnOk}
use Rattle.std.proofs.Math.Bool.{or-false}
use Rattle.std.proofs.Math.ListN.{set}
use Rattle.std.proofs.lemmas.Bool.{and_parts, leb-true, leb-false, ltb-true, ltb-false, cases_Bool, cases_eq, cases_lt, eq-eqb, ne_eqb, lt-ltb, or_right}
use Rattle.std.proofs.lemmas.List.{get_or_past}
use Rattle.std.specs.List.{AllByRecursion}
use Rattle.std.proofs.lemmas.List.Folds.{list_any-append}
use Rattle.storage_model.proofs.Appends.{bars-append, contents_now-none, puts_at-past}
use Rattle.storage_model.proofs.Durable.{bars-keep_pend, keep_pend-every, length-keep_base, puts_at-keep_named, puts_at-keep_other}
use Rattle.storage_model.specs.Contents.{bars, contents_now, puts_at, sector_at}
use Rattle.storage_model.specs.Left.{is_left}
use Rattle.storage_model.specs.Keep.{every_sector, is_named, keep_base, keep_pend}
use Rattle.epoch_cache.specs.Cache.{Cache, IsCache, newest_of, next_epoch}
use Rattle.card_store.proofs.Epochs.{before_epoch-now, puts_at-bar_last}
use Rattle.image_form.proofs.Images.{length-shown}
use Rattle.image_form.specs.Image.{shown}
use Rattle.card_store.proofs.Keeping.{stands_kept}
use Rattle.card_store.proofs.Reading.{read_newest, read_shown}
use Rattle.card_store.proofs.Standing.{stands_bar, stands_left}
use Rattle.storage_model.specs.declared.block.Block.{Block}
use Rattle.storage_model.specs.declared.marks.Put.{Put}
use Rattle.storage_model.specs.declared.marks.Mark.{Mark}
use Rattle.storage_model.specs.declared.marks.Mark.TheVariants.{Put as PutMark, Bar}
use Rattle.array_edge.specs.Array.{ArrayState, HasPage}
use Rattle.intent_store.specs.Intent.{IntentStands, IsKnown, Known, shown_by}
use Rattle.card_store.proofs.Putting.{bars-put, puts_here, puts_there}
use Rattle.card_store.specs.Staging.{Places}
use Rattle.card_store.specs.Stands.{LinesStand, StandsAt}
use Rattle.card_store.specs.Store.{HasSector, Says, Stands, Store, Turns, has_last_put, has_put, is_put_on, kept, none, same, sectors_of, with_bar, with_put}

pub says_none : (list : List Bool) → ((k : ℕ) → k < length list → get_or list k false ≡ false) → Says list none
says_none list all = record {
  each = λ s below. elim (cases_lt s (length list)) [
    | inl inside ↦ all s inside
    | inr past ↦ get_or_past list s false past
  ];
}

-- one more

pub has_put-put : (s : ℕ) (pend : List Mark) (put : Put) → has_put s (pend ++ PutMark put ∷ []) ≡ (has_put s pend || (put.sector == s))
has_put-put s pend put = list_any-append (is_put_on s) pend (PutMark put ∷ []) ∙ ap (λ b. has_put s pend || b) (or-false (put.sector == s))

says_more : (list : List Bool) (has has' : ℕ → Bool) (at : ℕ) → Says list has → at < length list → has' at ≡ true → ((s : ℕ) → s ≢ at → has' s ≡ has s) → Says (set list at true) has'
says_more list has has' at says inside here others = record {
  each = λ s below. elim (cases_eq s at) [
    | inl same ↦ rw (same, get_or-set_same) (sym here)
    | inr apart ↦ rw (get_or-set_other, others s apart) (says.each s below)
  ];
}

last_put : (s : ℕ) (pend : List Mark) (put : Put) → put.sector ≡ s → has_last_put s (pend ++ PutMark put ∷ []) ≡ true
last_put s pend put same =
    let more = length-append (puts_at (bars pend) put.sector pend) (put ∷ []) in
    rw (bars-put pend put, ← same, puts_here pend put) (lt-ltb 0 (length (puts_at (bars pend) put.sector pend ++ put ∷ [])) (omega arith))

last_others : (s : ℕ) (pend : List Mark) (put : Put) → s ≢ put.sector → has_last_put s (pend ++ PutMark put ∷ []) ≡ has_last_put s pend
last_others s pend put apart = rw (bars-put pend put, puts_there (bars pend) s pend put (λ _ same. apart same)) refl

pub inside_base : (sectors : Option ℕ) (s size : ℕ) → sectors ≡ Some size → MatchOption sectors ⊥ (λ n. s < n) → s < size
inside_base sectors s size is inside = subst (λ (o : Option ℕ). MatchOption o ⊥ (λ n. s < n)) is inside

pub turns_put : (put : Put) (old new : Store) (old_array array : ArrayState) → Places put old.cache old_array new.cache array → sectors_of new ≡ sectors_of old → HasSector old put.sector
    → put.sector < length old.pending → put.sector < length old.latest → new.pending ≡ set old.pending put.sector true → new.latest ≡ set old.latest put.sector true → Turns (with_put put) old old_array new array
turns_put put old new old_array array places sectors inside within within' pending latest c stands = record {
  sectors = sectors ∙ stands.sectors;
  lines = places c.base c.pend (inside_base (sectors_of old) put.sector (length c.base) stands.sectors inside) stands.lines;
  pending = rw pending (says_more old.pending (λ s. has_put s c.pend) (λ s. has_put s (c.pend ++ PutMark put ∷ [])) put.sector stands.pending within
      (has_put-put put.sector c.pend put ∙ or_right (has_put put.sector c.pend) (put.sector == put.sector) (eq-eqb put.sector put.sector refl))
      (λ s apart. has_put-put s c.pend put ∙ ap (λ b. has_put s c.pend || b) (ne_eqb put.sector s (λ at. apart (sym at))) ∙ or-false (has_put s c.pend)));
  latest = rw latest (says_more old.latest (λ s. has_last_put s c.pend) (λ s. has_last_put s (c.pend ++ PutMark put ∷ [])) put.sector stands.latest within'
      (last_put put.sector c.pend put refl) (λ s apart. last_others s c.pend put apart));
}

pub sector_most : (known : Option Known) (s : ℕ) → MatchOption (option_map (λ known. known.sectors) known) ⊥ (λ n. s < n) → IfSome known (λ known. known.sectors ≤ 65536) → s < 65536
sector_most None s inside most = absurd inside
sector_most (Some known) s inside most = omega arith

-- a barrier

last_none : (s : ℕ) (pend : List Mark) → has_last_put s (pend ++ Bar ∷ []) ≡ false
last_none s pend =
    let more : bars (pend ++ Bar ∷ []) ≡ bars pend + 1 = bars-append pend (Bar ∷ []) in
    rw (more, puts_at-bar_last (bars pend + 1) s pend, puts_at-past (bars pend + 1) s pend (omega arith)) refl

pub lines_bar : (old : Cache) (shown : Option (List Block)) (base : List Block) (pend : List Mark) → LinesStand old shown base pend → LinesStand (record old { last = old.last + 1 }) shown base (pend ++ Bar ∷ [])
lines_bar old None base pend stands = tt
lines_bar old (Some shown) base pend stands = record { e = stands.e; is = stands_bar old.lines old.last shown base pend stands.e stands.is }

next_is : (last : ℕ) → last ≢ 4294967295 → next_epoch last ≡ last + 1
next_is last more = rw (ne_eqb last 4294967295 more) refl

pub turns_bar : (old new : Store) (array : ArrayState) → old.cache.last ≢ 4294967295 → new.cache ≡ record old.cache { last = next_epoch old.cache.last } → new.known ≡ old.known → new.pending ≡ old.pending → Says new.latest none → Turns (with_bar old.cache.last) old array new array
turns_bar old new array more cache known pending latest c stands =
    rw (ne_eqb old.cache.last 4294967295 more) (record {
      sectors = ap (option_map (λ (known : Known). known.sectors)) known ∙ stands.sectors;
      lines = subst (λ (cache : Cache). LinesStand cache (shown_by array) c.base (c.pend ++ Bar ∷ [])) (sym (cache ∙ ap (λ n. record old.cache { last = n }) (next_is old.cache.last more))) (lines_bar old.cache (shown_by array) c.base c.pend stands.lines);
      pending = rw pending (record { each = λ s below. stands.pending.each s below ∙ sym (list_any-append (is_put_on s) c.pend (Bar ∷ []) ∙ or-false (has_put s c.pend)) });
      latest = record { each = λ s below. latest.each s below ∙ sym (last_none s c.pend) };
    })

pub turns_no_bar : (store : Store) (array : ArrayState) → store.cache.last ≡ 4294967295 → Turns (with_bar store.cache.last) store array store array
turns_no_bar store array end c stands = rw (eq-eqb store.cache.last 4294967295 end) stands

-- staged

pub turns_same : (old new : Store) (old_array array : ArrayState) → sectors_of new ≡ sectors_of old → new.pending ≡ old.pending → new.latest ≡ old.latest
    → ((base : List Block) (pend : List Mark) → LinesStand old.cache (shown_by old_array) base pend → LinesStand new.cache (shown_by array) base pend) → Turns same old old_array new array
turns_same old new old_array array sectors pending latest lines c stands = record {
  sectors = sectors ∙ stands.sectors;
  lines = lines c.base c.pend stands.lines;
  pending = rw pending stands.pending;
  latest = rw latest stands.latest;
}

-- flushed

pub lines_flushed : (cache : Cache) (shown : Option (List Block)) (base : List Block) (pend : List Mark) → cache.lines ≡ [] → LinesStand cache shown base pend → LinesStand cache shown (keep_base every_sector base pend) (keep_pend every_sector pend)
lines_flushed cache None base pend empty stands = tt
lines_flushed cache (Some shown) base pend empty stands = record {
  e = 0;
  is = stands_kept every_sector cache.lines cache.last shown base pend stands.e (rw empty tt) (rw empty tt) stands.is;
}

pub turns_flushed : (old new : Store) (old_array array : ArrayState) → sectors_of new ≡ sectors_of old → new.cache.lines ≡ [] → Says new.pending none → Says new.latest none
    → ((base : List Block) (pend : List Mark) → LinesStand old.cache (shown_by old_array) base pend → LinesStand new.cache (shown_by array) base pend) → Turns (kept every_sector) old old_array new array
unfolding puts_at
turns_flushed old new old_array array sectors empty pending latest lines c stands = record {
  sectors = sectors ∙ stands.sectors ∙ ap Some (sym (length-keep_base every_sector c.base c.pend));
  lines = lines_flushed new.cache (shown_by array) c.base c.pend empty (lines c.base c.pend stands.lines);
  pending = record { each = λ s below. pending.each s below ∙ sym (ap (has_put s) (keep_pend-every c.pend)) };
  latest = record { each = λ s below. latest.each s below ∙ sym (ap (has_last_put s) (keep_pend-every c.pend)) };
}

-- read

pub reads_line : (cache : Cache) (shown : Option (List Block)) (base : List Block) (pend : List Mark) (s : ℕ) (value : Block) → IsCache cache → s < length base → LinesStand cache shown base pend
    → newest_of s cache.lines ≡ Some value → IfSome shown (λ _. value ≡ sector_at (contents_now base pend) s)
reads_line cache None base pend s value is inside stands newest = tt
reads_line cache (Some shown) base pend s value is inside stands newest = read_newest cache.lines cache.last shown base pend stands.e s value is.order stands.is inside newest

pub reads_shown : (cache : Cache) (shown : Option (List Block)) (base : List Block) (pend : List Mark) (s : ℕ) (value : Block) → IsCache cache → s < length base → LinesStand cache shown base pend
    → newest_of s cache.lines ≡ None → HasPage shown s value → IfSome shown (λ _. value ≡ sector_at (contents_now base pend) s)
reads_shown cache None base pend s value is inside stands newest page = tt
reads_shown cache (Some shown) base pend s value is inside stands newest page = page ∙ read_shown cache.lines cache.last shown base pend stands.e s is.order stands.is inside newest

pub ok_also : {E : Type 0} (result : Result (Unit {0}) E) (P Q : Type 0) → (P → Q) → OnOk result P → OnOk result Q
ok_also (Ok done) P Q also h = also h
ok_also (Err end) P Q also h = h

-- opened

some_also : (o : Option (List Block)) (P Q : List Block → Type 0) → ((x : List Block) → P x → Q x) → IfSome o P → IfSome o Q
some_also None P Q also h = tt
some_also (Some x) P Q also h = also x h

first_stands : (cache : Cache) (sectors : List Block) → cache.lines ≡ [] → StandsAt cache sectors [] sectors
first_stands cache sectors empty = record {
  e = 0;
  is = rw empty (record {
    within = omega arith;
    sectors = refl;
    lines = tt;
    later = λ f s after upto some. absurd (omega arith);
    bare = λ s inside gone. ap (λ c. sector_at c s) (sym (before_epoch-now sectors [] ∙ contents_now-none sectors));
  });
}

opened_lines : (cache : Cache) (told : Option (List Block)) (known : Known) → cache.lines ≡ [] → IfSome told (IsKnown known)
    → IfSome (option_map shown told) (λ sectors. LinesStand cache (option_map shown told) sectors [] × (Some known.sectors ≡ Some (length sectors)))
opened_lines cache None known empty is = tt
opened_lines cache (Some pages) known empty is = (first_stands cache (shown pages) empty, ap Some (sym (length-shown pages is.image ∙ is.sectors)))

pub opened_stands : (store : Store) (array : ArrayState) (known : Known) → store.known ≡ Some known → IntentStands known array → store.cache.lines ≡ [] → Says store.pending none → Says store.latest none
    → IfSome (shown_by array) (λ sectors. Stands (record { base = sectors; pend = [] }) store array)
unfolding puts_at
opened_stands store array known is stands empty pending latest =
    some_also (shown_by array) (λ sectors. LinesStand store.cache (shown_by array) sectors [] × (Some known.sectors ≡ Some (length sectors))) (λ sectors. Stands (record { base = sectors; pend = [] }) store array)
    (λ sectors both. record {
      sectors = ap (option_map (λ (k : Known). k.sectors)) is ∙ both.1;
      lines = both.0;
      pending = pending;
      latest = latest;
    }) (opened_lines store.cache array.told known empty stands.told)

-- kept

has_here : (s : ℕ) (marks : List Mark) → bars marks ≡ 0 → has_put s marks ≡ nat_lt 0 (length (puts_at 0 s marks))
unfolding puts_at
has_here s [] none = refl
has_here s (Bar ∷ marks) none = absurd (omega arith)
has_here s (PutMark put ∷ marks) none = elim (cases_Bool (put.sector == s)) [
  | inl here ↦ rw here (sym (lt-ltb 0 _ (omega arith)))
  | inr gone ↦ rw gone (has_here s marks none)
]

kept_last : (named : ℕ → Bool) (s : ℕ) (pend : List Mark) → nat_lt 0 (length (puts_at 0 s (keep_pend named pend))) ≡ (if named s then false else has_last_put s pend)
kept_last named s pend = elim (cases_Bool (named s)) [
  | inl chosen ↦ rw (chosen, puts_at-keep_named named pend s chosen) refl
  | inr spared ↦ rw (spared, puts_at-keep_other named pend s spared) refl
]

pub lines_kept : (named : ℕ → Bool) (cache : Cache) (shown : Option (List Block)) (base : List Block) (pend : List Mark) → AllByRecursion (λ line. line.epoch ≡ cache.last) cache.lines → AllByRecursion (λ line. named line.sector ≡ false) cache.lines
    → LinesStand cache shown base pend → LinesStand cache shown (keep_base named base pend) (keep_pend named pend)
lines_kept named cache None base pend now spared stands = tt
lines_kept named cache (Some shown) base pend now spared stands = record { e = 0; is = stands_kept named cache.lines cache.last shown base pend stands.e now spared stands.is }

-- a list of sectors without the named ones
pub record Spares (named : ℕ → Bool) (old new : List Bool) : Type 0 where
  pub named_out : (s : ℕ) → named s ≡ true → get_or new s false ≡ false
  pub others : (s : ℕ) → named s ≡ false → get_or new s false ≡ get_or old s false

says_spared : (named : ℕ → Bool) (old new : List Bool) (has : ℕ → Bool) → Spares named old new → Says old has → Says new (λ s. if named s then false else has s)
says_spared named old new has spares says = record {
  each = λ s below. elim (cases_Bool (named s)) [
    | inl chosen ↦ rw (chosen, spares.named_out s chosen) refl
    | inr other ↦ rw (other, spares.others s other) (says.each s below)
  ];
}

pub turns_kept : (named : ℕ → Bool) (old new : Store) (old_array array : ArrayState) → sectors_of new ≡ sectors_of old → AllByRecursion (λ line. line.epoch ≡ new.cache.last) new.cache.lines → AllByRecursion (λ line. named line.sector ≡ false) new.cache.lines
    → new.pending ≡ new.latest → Spares named old.latest new.latest
    → ((base : List Block) (pend : List Mark) → LinesStand old.cache (shown_by old_array) base pend → LinesStand new.cache (shown_by array) base pend) → Turns (kept named) old old_array new array
turns_kept named old new old_array array sectors now spared same spares lines c stands =
    let says = says_spared named old.latest new.latest (λ s. has_last_put s c.pend) spares stands.latest in
    let none = bars-keep_pend named c.pend in
    record {
      sectors = sectors ∙ stands.sectors ∙ ap Some (sym (length-keep_base named c.base c.pend));
      lines = lines_kept named new.cache (shown_by array) c.base c.pend now spared (lines c.base c.pend stands.lines);
      pending = rw same (record { each = λ s below. says.each s below ∙ sym (has_here s (keep_pend named c.pend) none ∙ kept_last named s c.pend) });
      latest = record { each = λ s below. says.each s below ∙ sym (ap (λ n. nat_lt 0 (length (puts_at n s (keep_pend named c.pend)))) none ∙ kept_last named s c.pend) };
    }

pub spares_named : (first blocks : ℕ) (old new : List Bool) → ((s : ℕ) → first ≤ s → s < first + blocks → get_or new s false ≡ false) → ((s : ℕ) → (s < first) ⊎ (first + blocks ≤ s) → get_or new s false ≡ get_or old s false)
    → Spares (is_named first blocks) old new
spares_named first blocks old new out stay = record {
  named_out = λ s chosen. let parts = and_parts (nat_le first s) (nat_lt s (first + blocks)) chosen in out s (leb-true first s parts.0) (ltb-true s (first + blocks) parts.1);
  others = λ s spared. elim (cases_Bool (nat_le first s)) [
    | inl from ↦ stay s (inr (ltb-false s (first + blocks) (rw from at spared)))
    | inr before ↦ stay s (inl (leb-false first s before))
  ];
}

-- what is shown may be left

pub lines_left : (cache : Cache) (shown : Option (List Block)) (base : List Block) (pend : List Mark) → LinesStand cache shown base pend → IfSome shown (λ sectors. is_left base pend sectors ≡ true)
lines_left cache None base pend stands = tt
lines_left cache (Some shown) base pend stands = stands_left cache.lines cache.last shown base pend stands.e stands.is
