-- The bytes of pages, one page behind the other: what a page's bytes are among them, and what they become where a page changes.
use Rattle.std.proofs.Common.{Box, Global, ◌≡◌, ℕ, zero, suc, ◌+◌, ◌-◌, ◌*◌, ◌<◌, ◌≤◌, List, [], ◌∷◌, ◌++◌, length, take, drop, get_or, refl, sym, ap, ◌∙◌, arith, append_assoc, length-append, length-drop}
use Rattle.std.proofs.Math.ListN.{set, replicate}
use Rattle.std.proofs.Math.Seq.{take-append-add, drop-append-add}
use Rattle.std.proofs.lemmas.List.{append-nil, drop-append-le, drop-drop, drop-take, drop_all, drop_at, take_at, take-take, take-append-drop, take-append-le, get_or-append-add, get_or_append_left, set-append_left, set-append_right, length-take, replicate-append-replicate}
use Rattle.std.proofs.lemmas.Grind.{flat_map-append}
use borrow.Rule.Slice.PartMut.{put_mid}
use Rattle.std.specs.List.{AllByRecursion, flat_map}

abbrev pub Page : Type 0
Page = Box (List ℕ) Global

abbrev pub joined : List Page → List ℕ
joined pages = flat_map (λ page. page.value) pages

-- each page has its bytes
abbrev pub AreWhole : List Page → Type 0
AreWhole pages = AllByRecursion (λ page. length page.value ≡ 4096) pages

pub length_pages : (pages : List Page) → AreWhole pages → length (joined pages) ≡ 4096 * length pages
length_pages [] whole = refl
length_pages (page ∷ pages) whole =
    omega (arith, length-append page.value (joined pages), whole.0, length_pages pages whole.1)

pub page_within : (pages : List Page) (bytes : List ℕ) (k start at : ℕ) → AreWhole pages → joined pages ≡ bytes
    → at ≡ 4096 * k + start → at < length bytes → k < length pages
page_within pages bytes k start at whole same e below =
    let size : length bytes ≡ 4096 * length pages = ap length (sym same) ∙ length_pages pages whole in omega arith

-- a page is replaced

pub whole_set : (pages : List Page) (k : ℕ) (page : Page) → AreWhole pages → length page.value ≡ 4096 → AreWhole (set pages k page)
whole_set [] k page whole one = tt
whole_set (x ∷ pages) zero page whole one = (one, whole.1)
whole_set (x ∷ pages) (suc k) page whole one = (whole.0, whole_set pages k page whole.1 one)

-- the bytes in front of a page and those behind it
pub record IsAmong (pages : List Page) (k : ℕ) (d : Page) : Type 0 where
  pub front : List ℕ
  pub back : List ℕ
  pub size : length front ≡ 4096 * k
  pub here : length (get_or pages k d).value ≡ 4096
  pub whole : joined pages ≡ front ++ ((get_or pages k d).value ++ back)
  pub changed : (page : Page) → joined (set pages k page) ≡ front ++ (page.value ++ back)

pub among : (pages : List Page) (k : ℕ) (d : Page) → AreWhole pages → k < length pages → IsAmong pages k d
among [] k d whole below = absurd (omega arith)
among (x ∷ pages) zero d whole below = record {
  front = [];
  back = joined pages;
  size = omega arith;
  here = whole.0;
  whole = refl;
  changed = λ page. refl;
}
among (x ∷ pages) (suc k) d whole below =
    let rest = among pages k d whole.1 (omega arith) in
    record {
      front = x.value ++ rest.front;
      back = rest.back;
      size = omega (arith, length-append x.value rest.front, rest.size, whole.0);
      here = rest.here;
      whole = ap (λ bytes. x.value ++ bytes) rest.whole ∙ sym (append_assoc x.value rest.front ((get_or pages k d).value ++ rest.back));
      changed = λ page. ap (λ bytes. x.value ++ bytes) (rest.changed page) ∙ sym (append_assoc x.value rest.front (page.value ++ rest.back));
    }

-- a part of the bytes in the middle

middle_read : (front page back : List ℕ) (at start count : ℕ) → at ≡ length front + start → start + count ≤ length page
    → take count (drop start page) ≡ take count (drop at (front ++ (page ++ back)))
middle_read front page back at start count e h =
    let short : start ≤ length page = omega arith in
    let enough : count ≤ length (drop start page) = omega (arith, length-drop start page) in
    sym (
    ap (λ n. take count (drop n (front ++ (page ++ back)))) e
    ∙ ap (take count) (drop-append-add front (page ++ back) start ∙ drop-append-le start page back short)
    ∙ take-append-le count (drop start page) back enough
    )

middle_written : (front page back part : List ℕ) (at start n : ℕ) → at ≡ length front + start → start + n ≤ length page
    → front ++ ((take start page ++ (part ++ drop (start + n) page)) ++ back)
    ≡ take at (front ++ (page ++ back)) ++ (part ++ drop (at + n) (front ++ (page ++ back)))
middle_written front page back part at start n e h =
    let short : start ≤ length page = omega arith in
    let behind : at + n ≡ length front + (start + n) = omega arith in
    let before : take at (front ++ (page ++ back)) ≡ front ++ take start page =
    ap (λ n. take n (front ++ (page ++ back))) e ∙ take-append-add front (page ++ back) start
    ∙ ap (λ bytes. front ++ bytes) (take-append-le start page back short) in
    let after : drop (at + n) (front ++ (page ++ back)) ≡ drop (start + n) page ++ back =
    ap (λ n. drop n (front ++ (page ++ back))) behind ∙ drop-append-add front (page ++ back) (start + n)
    ∙ drop-append-le (start + n) page back h in
    rw (before, after)
    (ap (λ bytes. front ++ bytes) (append_assoc (take start page) (part ++ drop (start + n) page) back
    ∙ ap (λ bytes. take start page ++ bytes) (append_assoc part (drop (start + n) page) back))
    ∙ sym (append_assoc front (take start page) (part ++ (drop (start + n) page ++ back))))

middle_byte : (front page back : List ℕ) (at start : ℕ) → at ≡ length front + start → start < length page
    → get_or page start 0 ≡ get_or (front ++ (page ++ back)) at 0
middle_byte front page back at start e h =
    sym (
    ap (λ n. get_or (front ++ (page ++ back)) n 0) e
    ∙ get_or-append-add front (page ++ back) start 0
    ∙ get_or_append_left page back 0 start h
    )

middle_set : (front page back : List ℕ) (at start byte : ℕ) → at ≡ length front + start → start < length page
    → front ++ (set page start byte ++ back) ≡ set (front ++ (page ++ back)) at byte
middle_set front page back at start byte e h =
    let past : length front ≤ at = omega arith in
    let place : at - length front ≡ start = omega arith in
    sym (
    set-append_right front (page ++ back) (length front) at byte refl past
    ∙ ap (λ n. front ++ set (page ++ back) n byte) place
    ∙ ap (λ bytes. front ++ bytes) (set-append_left page back start byte h)
    )

-- a part of a page

pub part_read : (pages : List Page) (bytes : List ℕ) (page : Page) (k at start count : ℕ) → AreWhole pages
    → joined pages ≡ bytes → k < length pages → page ≡ get_or pages k page → at ≡ 4096 * k + start → start + count ≤ 4096
    → take count (drop start page.value) ≡ take count (drop at bytes)
part_read pages bytes page k at start count whole same below is e h =
    let it = among pages k page whole below in
    let from : page.value ≡ (get_or pages k page).value = ap (λ (it : Page). it.value) is in
    rw (from, ← same, it.whole)
    (middle_read it.front (get_or pages k page).value it.back at start count (omega (arith, it.size)) (omega (arith, it.here)))

pub part_written : (pages : List Page) (bytes part : List ℕ) (page new : Page) (k at start n : ℕ) → AreWhole pages
    → joined pages ≡ bytes → k < length pages → page ≡ get_or pages k page → at ≡ 4096 * k + start → start + n ≤ 4096
    → new.value ≡ take start page.value ++ (part ++ drop (start + n) page.value)
    → joined (set pages k new) ≡ take at bytes ++ (part ++ drop (at + n) bytes)
part_written pages bytes part page new k at start n whole same below is e h to =
    let it = among pages k page whole below in
    let from : page.value ≡ (get_or pages k page).value = ap (λ (it : Page). it.value) is in
    it.changed new
    ∙ ap (λ ys. it.front ++ (ys ++ it.back)) (to ∙ ap (λ ys. take start ys ++ (part ++ drop (start + n) ys)) from)
    ∙ middle_written it.front (get_or pages k page).value it.back part at start n (omega (arith, it.size)) (omega (arith, it.here))
    ∙ ap (λ ys. take at ys ++ (part ++ drop (at + n) ys)) (sym it.whole ∙ same)

pub put_part : (start count k : ℕ) (xs ys : List ℕ) → k ≡ count → put_mid start k xs ys ≡ take start xs ++ (ys ++ drop (start + count) xs)
put_part start count k xs ys e = rw (e, drop-drop count start xs) refl

pub byte_read : (pages : List Page) (bytes : List ℕ) (page : Page) (k at start : ℕ) → AreWhole pages
    → joined pages ≡ bytes → k < length pages → page ≡ get_or pages k page → at ≡ 4096 * k + start → start < 4096
    → get_or page.value start 0 ≡ get_or bytes at 0
byte_read pages bytes page k at start whole same below is e h =
    let it = among pages k page whole below in
    let from : page.value ≡ (get_or pages k page).value = ap (λ (it : Page). it.value) is in
    rw (from, ← same, it.whole)
    (middle_byte it.front (get_or pages k page).value it.back at start (omega (arith, it.size)) (omega (arith, it.here)))

pub byte_set : (pages : List Page) (bytes : List ℕ) (page new : Page) (k at start byte : ℕ) → AreWhole pages
    → joined pages ≡ bytes → k < length pages → page ≡ get_or pages k page → at ≡ 4096 * k + start → start < 4096
    → new.value ≡ set page.value start byte → joined (set pages k new) ≡ set bytes at byte
byte_set pages bytes page new k at start byte whole same below is e h to =
    let it = among pages k page whole below in
    let from : page.value ≡ (get_or pages k page).value = ap (λ (it : Page). it.value) is in
    it.changed new
    ∙ ap (λ ys. it.front ++ (ys ++ it.back)) (to ∙ ap (λ ys. set ys start byte) from)
    ∙ middle_set it.front (get_or pages k page).value it.back at start byte (omega (arith, it.size)) (omega (arith, it.here))
    ∙ ap (λ ys. set ys at byte) (sym it.whole ∙ same)

-- one page more

pub whole_more : (pages : List Page) (page : Page) → AreWhole pages → length page.value ≡ 4096 → AreWhole (pages ++ page ∷ [])
whole_more [] page whole one = (one, tt)
whole_more (x ∷ pages) page whole one = (whole.0, whole_more pages page whole.1 one)

pub zeros_more : (pages : List Page) (page : Page) (n k m : ℕ) → joined pages ≡ replicate n 0 → page.value ≡ replicate k 0
    → n + k ≡ m → joined (pages ++ page ∷ []) ≡ replicate m 0
zeros_more pages page n k m zeros one sum =
    flat_map-append (λ (it : Page). it.value) pages (page ∷ [])
    ∙ rw (zeros, append-nil, one, ← sum) (replicate-append-replicate n k 0)

-- a copy part by part

take_sum : (n m : ℕ) (xs : List ℕ) → take (n + m) xs ≡ take n xs ++ take m (drop n xs)
take_sum n m xs =
    let first : take n (take (n + m) xs) ≡ take n xs = take-take n (n + m) xs (omega arith) in
    sym (take-append-drop n (take (n + m) xs))
    ∙ ap (λ ys. ys ++ drop n (take (n + m) xs)) first
    ∙ ap (λ ys. take n xs ++ ys) (drop-take n m xs)

pub more_out : (bytes first now part : List ℕ) (at done more : ℕ) → at + length first ≤ length bytes → done + more ≤ length first
    → now ≡ take done (drop at bytes) ++ drop done first
    → part ≡ take more (drop (at + done) bytes) ++ drop more (drop done now)
    → put_mid done (length now - done) now part ≡ take (done + more) (drop at bytes) ++ drop (done + more) first
more_out bytes first now part at done more within enough so_far next =
    let from = drop at bytes in
    let size : length (take done from) ≡ done = omega (arith, length-take done from, length-drop at bytes) in
    let before : take done now ≡ take done from = ap (take done) so_far ∙ take_at (take done from) (drop done first) done size in
    let behind : drop done now ≡ drop done first = ap (drop done) so_far ∙ drop_at (take done from) (drop done first) done size in
    let none : drop (length now - done) (drop done now) ≡ [] =
    drop_all (length now - done) (drop done now) (omega (arith, length-drop done now)) in
    let there : drop (at + done) bytes ≡ drop done from = sym (drop-drop done at bytes) in
    rw (none, append-nil, next, before, behind, there, drop-drop more done first, take_sum done more from)
    (sym (append_assoc (take done from) (take more (drop done from)) (drop (done + more) first)))

pub more_in : (old now new from : List ℕ) (at done more : ℕ) → at + length from ≤ length old → done + more ≤ length from
    → now ≡ take at old ++ (take done from ++ drop (at + done) old)
    → new ≡ take (at + done) now ++ (take more (drop done from) ++ drop (at + done + more) now)
    → new ≡ take at old ++ (take (done + more) from ++ drop (at + (done + more)) old)
more_in old now new from at done more within enough so_far next =
    let front = take at old in
    let copied = take done from in
    let part = take more (drop done from) in
    let size : length (front ++ copied) ≡ at + done =
    omega (arith, length-append front copied, length-take at old, length-take done from) in
    let grouped : now ≡ (front ++ copied) ++ drop (at + done) old = so_far ∙ sym (append_assoc front copied (drop (at + done) old)) in
    let before : take (at + done) now ≡ front ++ copied =
    ap (take (at + done)) grouped ∙ take_at (front ++ copied) (drop (at + done) old) (at + done) size in
    let behind : drop (at + done) now ≡ drop (at + done) old =
    ap (drop (at + done)) grouped ∙ drop_at (front ++ copied) (drop (at + done) old) (at + done) size in
    let sum : at + done + more ≡ at + (done + more) = omega arith in
    let after : drop (at + done + more) now ≡ drop (at + (done + more)) old =
    sym (drop-drop more (at + done) now) ∙ ap (drop more) behind ∙ drop-drop more (at + done) old ∙ ap (λ n. drop n old) sum in
    let rest = drop (at + (done + more)) old in
    next
    ∙ ap (λ ys. ys ++ (part ++ drop (at + done + more) now)) before
    ∙ ap (λ ys. (front ++ copied) ++ (part ++ ys)) after
    ∙ append_assoc front copied (part ++ rest)
    ∙ ap (λ ys. front ++ ys) (sym (append_assoc copied part rest))
    ∙ ap (λ ys. front ++ (ys ++ rest)) (sym (take_sum done more from))
