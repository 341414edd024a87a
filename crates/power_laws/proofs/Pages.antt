-- A cache has no more lines than its marks have places, so without marks the pages are the contents.
use Rattle.std.proofs.Common.{◌≡◌, ◌≢◌, ◌<◌, ◌≤◌, ◌+◌, ◌++◌, ◌==◌, ◌&&◌, ◌||◌, ℕ, suc, refl, sym, ◌∙◌, ap, subst, arith}
use Rattle.std.specs.Prelude.{Bool, true, false, not, cond, Option, Some, None, IfSome, is_some, length, List, [], ◌∷◌, map}
use Rattle.std.specs.List.{AllByRecursion, filter, fold, list_any}
use Rattle.std.specs.Option.{option_map}
use Rattle.std.proofs.lemmas.Bool.{and_parts, eq-eqb, eqb-true, false≢true, or_right, or_left}
use Rattle.std.proofs.lemmas.List.Folds.{list_any-append}
use Rattle.array_edge.specs.Array.{ArrayState}
use Rattle.card_store.specs.Stands.{LineStands, StandsAt, is_at}
use Rattle.card_store.specs.Store.{Contents, IsStore, Stands as StoreStands, Store}
use Rattle.epoch_cache.specs.Cache.{AreInOrder, IsBefore}
use Rattle.epoch_cache.specs.declared.line.Line.{Line}
use Rattle.image_form.specs.Image.{shown}
use Rattle.intent_store.specs.Intent.{shown_by}
use Rattle.storage_model.specs.Contents.{EpochPut, bars, before_epoch, numbered, puts_at, sector_at}
use Rattle.storage_model.specs.declared.block.Block.{Block}
use Rattle.storage_model.specs.declared.marks.Mark.{Mark}
use Rattle.storage_model.specs.declared.marks.Put.{Put}
use Rattle.trace_effects.specs.Cuts.{add_place, places_of}

abbrev Place : Type 0
Place = ℕ × ℕ

-- a line is the one of a place
abbrev is_there : ℕ → ℕ → Place → Line → Bool
is_there n last place line = (line.epoch + n == place.0 + last) && (line.sector == place.1)

-- ---- no more lines than places

all_filter : (P Q : Line → Type 0) (p : Line → Bool) (lines : List Line) → ((line : Line) → P line → p line ≡ true → Q line) → AllByRecursion P lines
    → AllByRecursion Q (filter p lines)
all_filter P Q p [] also all = tt
all_filter P Q p (line ∷ lines) also all = by_test (p line) refl (all_filter P Q p lines also all.1)
  where
    by_test : (b : Bool) → p line ≡ b → AllByRecursion Q (filter p lines) → AllByRecursion Q (cond b (line ∷ filter p lines) (filter p lines))
    by_test true e rest = (also line all.0 e, rest)
    by_test false e rest = rest

order_filter : (p : Line → Bool) (lines : List Line) → AreInOrder lines → AreInOrder (filter p lines)
order_filter p [] order = tt
order_filter p (line ∷ lines) order = by_test (p line) (order_filter p lines order.1)
  where
    by_test : (b : Bool) → AreInOrder (filter p lines) → AreInOrder (cond b (line ∷ filter p lines) (filter p lines))
    by_test true rest = (all_filter (IsBefore line) (IsBefore line) p lines (λ other before e. before) order.0, rest)
    by_test false rest = rest

filter_whole : (p : Line → Bool) (lines : List Line) → AllByRecursion (λ line. p line ≡ true) lines → filter p lines ≡ lines
filter_whole p [] all = refl
filter_whole p (line ∷ lines) all =
    ap (λ b. cond b (line ∷ filter p lines) (filter p lines)) all.0 ∙ ap (λ rest. line ∷ rest) (filter_whole p lines all.1)

there_parts : (n last : ℕ) (place : Place) (line : Line) → is_there n last place line ≡ true
    → (line.epoch + n ≡ place.0 + last) × (line.sector ≡ place.1)
there_parts n last place line e =
    let parts = and_parts (line.epoch + n == place.0 + last) (line.sector == place.1) e in
    (eqb-true (line.epoch + n) (place.0 + last) parts.0, eqb-true line.sector place.1 parts.1)

-- two lines are of two places
apart_lines : (n last : ℕ) (place : Place) (line other : Line) → IsBefore line other → is_there n last place line ≡ true → not (is_there n last place other) ≡ true
apart_lines n last place line other before e = by_other (is_there n last place other) refl
  where
    by_other : (b : Bool) → is_there n last place other ≡ b → not b ≡ true
    by_other false f = refl
    by_other true f =
        let x = there_parts n last place line e in
        let y = there_parts n last place other f in
        let less : line.epoch < other.epoch = before.sector (x.1 ∙ sym y.1) in
        let one : line.epoch + n ≡ place.0 + last = x.0 in
        let two : other.epoch + n ≡ place.0 + last = y.0 in
        absurd (omega (arith, less, one, two))

abbrev others : ℕ → ℕ → Place → List Line → List Line
others n last place lines = filter (λ line. not (is_there n last place line)) lines

one_out : (n last : ℕ) (place : Place) (lines : List Line) → AreInOrder lines → length lines ≤ length (others n last place lines) + 1
one_out n last place [] order = omega arith
one_out n last place (line ∷ lines) order = by_test (is_there n last place line) refl (one_out n last place lines order.1)
  where
    by_test : (b : Bool) → is_there n last place line ≡ b → length lines ≤ length (others n last place lines) + 1
        → length (line ∷ lines) ≤ length (cond (not b) (line ∷ others n last place lines) (others n last place lines)) + 1
    by_test true e less =
        let rest : others n last place lines ≡ lines =
        filter_whole (λ other. not (is_there n last place other)) lines
        (all_now (IsBefore line) (λ other. not (is_there n last place other) ≡ true) lines (λ other before. apart_lines n last place line other before e) order.0) in
        let same : length (others n last place lines) ≡ length lines = ap (λ xs. length xs) rest in
        omega (arith, same)
      where
        all_now : (P Q : Line → Type 0) (lines : List Line) → ((line : Line) → P line → Q line) → AllByRecursion P lines → AllByRecursion Q lines
        all_now P Q [] also all = tt
        all_now P Q (line ∷ lines) also all = (also line all.0, all_now P Q lines also all.1)
    by_test false e less = omega (arith, less)

later_place : (first rest : Bool) → not first ≡ true → (first || rest) ≡ true → rest ≡ true
later_place true rest e h = absurd (false≢true e)
later_place false rest e h = h

no_more : (n last : ℕ) (places : List Place) (lines : List Line) → AreInOrder lines
    → AllByRecursion (λ line. list_any (λ place. is_there n last place line) places ≡ true) lines → length lines ≤ length places
no_more n last [] [] order all = omega arith
no_more n last [] (line ∷ lines) order all = absurd (false≢true all.0)
no_more n last (place ∷ places) lines order all =
    let rest = others n last place lines in
    let fewer : length rest ≤ length places =
    no_more n last places rest (order_filter (λ line. not (is_there n last place line)) lines order)
    (all_filter (λ line. list_any (λ x. is_there n last x line) (place ∷ places) ≡ true) (λ line. list_any (λ x. is_there n last x line) places ≡ true)
    (λ line. not (is_there n last place line)) lines
    (λ line any apart. later_place (is_there n last place line) (list_any (λ x. is_there n last x line) places) apart any) all) in
    let one = one_out n last place lines order in
    omega (arith, fewer, one)

-- ---- the places of puts

abbrev is_place : ℕ → ℕ → Place → Bool
is_place e s place = (place.0 == e) && (place.1 == s)

abbrev is_put : ℕ → ℕ → EpochPut → Bool
is_put e s q = (q.epoch == e) && (q.put.sector == s)

added_keeps : (e s : ℕ) (places : List Place) (q : EpochPut) → list_any (is_place e s) places ≡ true → list_any (is_place e s) (add_place places q) ≡ true
added_keeps e s places q h = by_new (list_any (λ place. (place.0 == q.epoch) && (place.1 == q.put.sector)) places)
  where
    by_new : (b : Bool) → list_any (is_place e s) (cond b places (places ++ (q.epoch, q.put.sector) ∷ [])) ≡ true
    by_new true = h
    by_new false =
        list_any-append (is_place e s) places ((q.epoch, q.put.sector) ∷ [])
        ∙ or_left (list_any (is_place e s) places) (list_any (is_place e s) ((q.epoch, q.put.sector) ∷ [])) h

added_has : (places : List Place) (q : EpochPut) → list_any (is_place q.epoch q.put.sector) (add_place places q) ≡ true
added_has places q = by_new (list_any (is_place q.epoch q.put.sector) places) refl
  where
    here : list_any (is_place q.epoch q.put.sector) ((q.epoch, q.put.sector) ∷ []) ≡ true
    here =
        ap (λ b. (b && (q.put.sector == q.put.sector)) || false) (eq-eqb q.epoch q.epoch refl)
        ∙ ap (λ b. b || false) (eq-eqb q.put.sector q.put.sector refl)

    by_new : (b : Bool) → list_any (is_place q.epoch q.put.sector) places ≡ b
        → list_any (is_place q.epoch q.put.sector) (cond b places (places ++ (q.epoch, q.put.sector) ∷ [])) ≡ true
    by_new true e = e
    by_new false e =
        list_any-append (is_place q.epoch q.put.sector) places ((q.epoch, q.put.sector) ∷ [])
        ∙ or_right (list_any (is_place q.epoch q.put.sector) places) (list_any (is_place q.epoch q.put.sector) ((q.epoch, q.put.sector) ∷ [])) here

fold_keeps : (e s : ℕ) (qs : List EpochPut) (places : List Place) → list_any (is_place e s) places ≡ true
    → list_any (is_place e s) (fold add_place places qs) ≡ true
fold_keeps e s [] places h = h
fold_keeps e s (q ∷ qs) places h = fold_keeps e s qs (add_place places q) (added_keeps e s places q h)

fold_has : (e s : ℕ) (qs : List EpochPut) (places : List Place) → list_any (is_put e s) qs ≡ true
    → list_any (is_place e s) (fold add_place places qs) ≡ true
fold_has e s [] places h = absurd (false≢true h)
fold_has e s (q ∷ qs) places h = by_first (is_put e s q) refl h (fold_has e s qs (add_place places q))
  where
    by_first : (b : Bool) → is_put e s q ≡ b → (b || list_any (is_put e s) qs) ≡ true
        → (list_any (is_put e s) qs ≡ true → list_any (is_place e s) (fold add_place (add_place places q) qs) ≡ true) → list_any (is_place e s) (fold add_place (add_place places q) qs) ≡ true
    by_first true x h rest =
        let parts = and_parts (q.epoch == e) (q.put.sector == s) x in
        let P : ℕ → ℕ → Type 0 = λ u v. list_any (is_place u v) (add_place places q) ≡ true in
        fold_keeps e s qs (add_place places q)
        (subst (λ v. P e v) (eqb-true q.put.sector s parts.1) (subst (λ u. P u q.put.sector) (eqb-true q.epoch e parts.0) (added_has places q)))
    by_first false x h rest = rest h

filter_any : (test : EpochPut → Bool) (qs : List EpochPut) → filter test qs ≢ [] → list_any test qs ≡ true
filter_any test [] some = absurd (some refl)
filter_any test (q ∷ qs) some = by_test (test q) refl (filter_any test qs)
  where
    by_test : (b : Bool) → test q ≡ b → (filter test qs ≢ [] → list_any test qs ≡ true) → (b || list_any test qs) ≡ true
    by_test true e rest = refl
    by_test false e rest = rest (λ none. some (ap (λ b. cond b (q ∷ filter test qs) (filter test qs)) e ∙ none))

no_end : (earlier : List Put) (put : Put) → [] ≢ earlier ++ put ∷ []
no_end [] put e = cc
no_end (x ∷ earlier) put e = cc

has_place : (e s : ℕ) (pend : List Mark) (earlier : List Put) (put : Put) → puts_at e s pend ≡ earlier ++ put ∷ []
    → list_any (is_place e s) (places_of pend) ≡ true
unfolding places_of puts_at
has_place e s pend earlier put h =
    fold_has e s (numbered 0 pend) []
    (filter_any (is_put e s) (numbered 0 pend)
    (λ none. no_end earlier put (sym (ap (λ qs. map (λ (q : EpochPut). q.put) qs) none) ∙ h)))

any_also : (p q : Place → Bool) (places : List Place) → ((place : Place) → p place ≡ true → q place ≡ true) → list_any p places ≡ true
    → list_any q places ≡ true
any_also p q [] also h = h
any_also p q (place ∷ places) also h = by_first (p place) refl h (any_also p q places also)
  where
    by_first : (b : Bool) → p place ≡ b → (b || list_any p places) ≡ true → (list_any p places ≡ true → list_any q places ≡ true) → (q place || list_any q places) ≡ true
    by_first true e h rest = or_left (q place) (list_any q places) (also place e)
    by_first false e h rest = or_right (q place) (list_any q places) (rest h)

line_there : (base : List Block) (pend : List Mark) (last : ℕ) (pages : List Block) (e : ℕ) (line : Line) → LineStands base pend last pages e line
    → list_any (λ place. is_there (bars pend) last place line) (places_of pend) ≡ true
line_there base pend last pages e line is =
    any_also (is_place is.epoch line.sector) (λ place. is_there (bars pend) last place line) (places_of pend)
    (λ place h.
    let parts = and_parts (place.0 == is.epoch) (place.1 == line.sector) h in
    let epoch : line.epoch + bars pend ≡ place.0 + last = is.matched ∙ ap (λ n. n + last) (sym (eqb-true place.0 is.epoch parts.0)) in
    ap (λ b. b && (line.sector == place.1)) (eq-eqb (line.epoch + bars pend) (place.0 + last) epoch)
    ∙ eq-eqb line.sector place.1 (sym (eqb-true place.1 line.sector parts.1)))
    (has_place is.epoch line.sector pend is.earlier is.put is.puts)

lines_there : (base : List Block) (pend : List Mark) (last : ℕ) (pages : List Block) (e : ℕ) (lines : List Line)
    → AllByRecursion (LineStands base pend last pages e) lines
    → AllByRecursion (λ line. list_any (λ place. is_there (bars pend) last place line) (places_of pend) ≡ true) lines
lines_there base pend last pages e [] all = tt
lines_there base pend last pages e (line ∷ lines) all =
    (line_there base pend last pages e line all.0, lines_there base pend last pages e lines all.1)

few_by : (c : Contents) (store : Store) (told : Option (List Block)) → IsStore store → is_some told ≡ true
    → IfSome (option_map shown told) (StandsAt store.cache c.base c.pend) → length store.cache.lines ≤ length (places_of c.pend)
few_by c store None is tells h = absurd (false≢true tells)
few_by c store (Some pages) is tells h =
    no_more (bars c.pend) store.cache.last (places_of c.pend) store.cache.lines is.cache.order
    (lines_there c.base c.pend store.cache.last (shown pages) h.e store.cache.lines h.is.lines)

-- where the array tells its pages
pub few_lines : (c : Contents) (store : Store) (a : ArrayState) → IsStore store → is_some a.told ≡ true → StoreStands c store a
    → length store.cache.lines ≤ length (places_of c.pend)
few_lines c store a is tells h = few_by c store a.told is tells h.lines

-- ---- without marks

same_sectors : (xs ys : List Block) → length xs ≡ length ys → ((s : ℕ) → s < length ys → sector_at xs s ≡ sector_at ys s) → xs ≡ ys
same_sectors [] [] long same = refl
same_sectors [] (y ∷ ys) long same = absurd (omega (arith, long))
same_sectors (x ∷ xs) [] long same = absurd (omega (arith, long))
same_sectors (x ∷ xs) (y ∷ ys) long same =
    let rest : length xs ≡ length ys = omega (arith, long) in
    ap (λ z. z ∷ xs) (same 0 (omega arith)) ∙ ap (λ zs. y ∷ zs) (same_sectors xs ys rest (λ s low. same (suc s) (omega (arith, low))))

before_none : (e : ℕ) (base : List Block) → before_epoch e base [] ≡ base
unfolding before_epoch
before_none e base = refl

no_lines : (lines : List Line) → length lines ≤ 0 → lines ≡ []
no_lines [] none = refl
no_lines (line ∷ lines) none = absurd (omega (arith, none))

plain_by : (base : List Block) (store : Store) (told : Option (List Block)) → IsStore store → length store.cache.lines ≤ 0
    → IfSome (option_map shown told) (StandsAt store.cache base []) → IfSome (option_map shown told) (λ pages. pages ≡ base)
plain_by base store None is none h = tt
plain_by base store (Some pages) is none h =
    same_sectors (shown pages) base h.is.sectors
    (λ s low.
    h.is.bare s low (ap (λ (lines : List Line). list_any (is_at (bars []) store.cache.last h.e s) lines) (no_lines store.cache.lines none))
    ∙ ap (λ c. sector_at c s) (before_none (h.e + 1) base))

places_none : places_of [] ≡ []
unfolding places_of
places_none = refl

-- the pages are the contents
pub plain_pages : (base : List Block) (store : Store) (a : ArrayState) → IsStore store → is_some a.told ≡ true
    → StoreStands (record { base = base; pend = [] }) store a → IfSome (shown_by a) (λ pages. pages ≡ base)
plain_pages base store a is tells h =
    let few = few_lines (record { base = base; pend = [] }) store a is tells h in
    let none : length (places_of []) ≡ 0 = ap (λ ps. length ps) places_none in
    plain_by base store a.told is (omega (arith, few, none)) h.lines
