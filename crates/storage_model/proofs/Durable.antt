-- What keeping does: to each sector, to the marks, and to what may be left. Keeping all sectors leaves the contents now, and no marks.
use Rattle.std.proofs.Common.{◌≡◌, ◌≢◌, ℕ, ◌+◌, ◌<◌, ◌≤◌, inl, inr, Bool, true, false, not, ◌||◌, ◌==◌, nat_lt, All, List, [], ◌∷◌, filter, map, length, refl, sym, ap, ◌∙◌, arith}
use Rattle.std.proofs.Math.Bool.{or-false}
use Rattle.std.proofs.Math.ListN.{length-set}
use Rattle.std.proofs.lemmas.Bool.{cases_Bool, cases_lt, lt-ltb, le-ltb, le-leb, eq-eqb, ne_eqb, eqb-true, or_right, or_left, or_parts, both_ways}
use Rattle.std.proofs.lemmas.List.{set_comm}
use Rattle.std.proofs.lemmas.List.Elements.{All-head, All-tail}
use Rattle.storage_model.proofs.Appends.{contents_now-numbered, length-put_all}
use Rattle.storage_model.proofs.Applied.{sector_put_same, sector_put_other}
use Rattle.storage_model.proofs.Scans.{own}
use Rattle.storage_model.specs.Contents.{EpochPut, IsWithin, bars, before_epoch, contents_now, numbered, put_all, put_on, puts_at, puts_if, sector_at}
use Rattle.storage_model.specs.Keep.{every_sector, is_kept, is_named, keep_base, keep_pend}
use Rattle.storage_model.specs.declared.block.Block.{Block}
use Rattle.storage_model.specs.declared.marks.Put.{Put}
use Rattle.storage_model.specs.declared.marks.Mark.{Mark}
use Rattle.storage_model.specs.declared.marks.Mark.TheVariants.{Put as PutMark, Bar}

or-true : (b : Bool) → (b || true) ≡ true
or-true b = or_right b true refl

-- Two tests that agree on the puts on a sector give it the same value.
pub put_all-same : (s : ℕ) (c c' : List Block) (test test' : EpochPut → Bool) (qs : List EpochPut) → s < length c → s < length c' → sector_at c s ≡ sector_at c' s
    → ((q : EpochPut) → (q.put.sector == s) ≡ true → test q ≡ test' q)
    → sector_at (put_all c (map (λ q. q.put) (filter test qs))) s ≡ sector_at (put_all c' (map (λ q. q.put) (filter test' qs))) s
put_all-same s c c' test test' [] inside inside' same agree = same
put_all-same s c c' test test' (q ∷ qs) inside inside' same agree =
    let long : s < length (put_on c q.put) = rw (length-set c q.put.sector q.put.value) inside in
    let long' : s < length (put_on c' q.put) = rw (length-set c' q.put.sector q.put.value) inside' in
    elim (cases_Bool (q.put.sector == s)) [
      | inl here ↦
          let both : sector_at (put_on c q.put) s ≡ sector_at (put_on c' q.put) s = sector_put_same c q.put s inside here ∙ sym (sector_put_same c' q.put s inside' here) in
          elim (cases_Bool (test' q)) [
            | inl chosen' ↦ rw (agree q here, chosen') (put_all-same s (put_on c q.put) (put_on c' q.put) test test' qs long long' both agree)
            | inr spared' ↦ rw (agree q here, spared') (put_all-same s c c' test test' qs inside inside' same agree)
          ]
      | inr there ↦
          let one : sector_at (put_on c q.put) s ≡ sector_at c s = sector_put_other c q.put s there in
          let one' : sector_at (put_on c' q.put) s ≡ sector_at c' s = sector_put_other c' q.put s there in
          elim (cases_Bool (test q)) [
            | inl chosen ↦ elim (cases_Bool (test' q)) [
              | inl chosen' ↦ rw (chosen, chosen') (put_all-same s (put_on c q.put) (put_on c' q.put) test test' qs long long' (one ∙ same ∙ sym one') agree)
              | inr spared' ↦ rw (chosen, spared') (put_all-same s (put_on c q.put) c' test test' qs long inside' (one ∙ same) agree)
            ]
            | inr spared ↦ elim (cases_Bool (test' q)) [
              | inl chosen' ↦ rw (spared, chosen') (put_all-same s c (put_on c' q.put) test test' qs inside long' (same ∙ sym one') agree)
              | inr spared' ↦ rw (spared, spared') (put_all-same s c c' test test' qs inside inside' same agree)
            ]
          ]
    ]

filter_all : (qs : List EpochPut) → filter (λ q. true) qs ≡ qs
filter_all [] = refl
filter_all (q ∷ qs) = ap (λ rest. q ∷ rest) (filter_all qs)

-- a named sector shows its value now, another the one in front of the last epoch

pub keep_base-named : (named : ℕ → Bool) (base : List Block) (pend : List Mark) (s : ℕ) → s < length base → named s ≡ true → sector_at (keep_base named base pend) s ≡ sector_at (contents_now base pend) s
unfolding keep_base
keep_base-named named base pend s inside chosen =
    let all : put_all base (map (λ (q : EpochPut). q.put) (filter (λ q. true) (numbered 0 pend))) ≡ contents_now base pend = rw (filter_all (numbered 0 pend)) (sym (contents_now-numbered base 0 pend)) in
    put_all-same s base base (is_kept (bars pend) named) (λ q. true) (numbered 0 pend) inside inside refl
    (λ q here. let at : q.put.sector ≡ s = eqb-true q.put.sector s here in rw (at, chosen) (or-true (nat_lt q.epoch (bars pend))))
    ∙ ap (λ c. sector_at c s) all

pub keep_base-other : (named : ℕ → Bool) (base : List Block) (pend : List Mark) (s : ℕ) → s < length base → named s ≡ false → sector_at (keep_base named base pend) s ≡ sector_at (before_epoch (bars pend) base pend) s
unfolding keep_base before_epoch
keep_base-other named base pend s inside spared =
    put_all-same s base base (is_kept (bars pend) named) (λ q. nat_lt q.epoch (bars pend)) (numbered 0 pend) inside inside refl
    (λ q here. let at : q.put.sector ≡ s = eqb-true q.put.sector s here in rw (at, spared) (or-false (nat_lt q.epoch (bars pend))))

pub length-keep_base : (named : ℕ → Bool) (base : List Block) (pend : List Mark) → length (keep_base named base pend) ≡ length base
unfolding keep_base
length-keep_base named base pend = length-put_all base (puts_if (is_kept (bars pend) named) pend)

-- the marks that stay have spared barrier

bars-map : (puts : List Put) → bars (map PutMark puts) ≡ 0
bars-map [] = refl
bars-map (put ∷ puts) = bars-map puts

pub bars-keep_pend : (named : ℕ → Bool) (pend : List Mark) → bars (keep_pend named pend) ≡ 0
unfolding keep_pend
bars-keep_pend named pend = bars-map (puts_if (λ q. not (is_kept (bars pend) named q)) pend)

-- on a named sector none stays, on another all of the last epoch

own-map : (s : ℕ) (puts : List Put) → own 0 s (numbered 0 (map PutMark puts)) ≡ filter (λ put. put.sector == s) puts
own-map s [] = refl
own-map s (put ∷ puts) =
    elim (cases_Bool (put.sector == s)) [
      | inl here ↦ rw here (ap (λ rest. put ∷ rest) (own-map s puts))
      | inr there ↦ rw there (own-map s puts)
    ]

others_named : (named : ℕ → Bool) (s last e : ℕ) (marks : List Mark) → named s ≡ true
    → filter (λ put. put.sector == s) (map (λ (q : EpochPut). q.put) (filter (λ q. not (is_kept last named q)) (numbered e marks))) ≡ []
others_named named s last e [] chosen = refl
others_named named s last e (Bar ∷ marks) chosen = others_named named s last (e + 1) marks chosen
others_named named s last e (PutMark put ∷ marks) chosen =
    elim (cases_Bool (is_kept last named (record { epoch = e; put = put }))) [
      | inl kept ↦ rw kept (others_named named s last e marks chosen)
      | inr stays ↦ elim (cases_Bool (put.sector == s)) [
        | inl here ↦
            let at : put.sector ≡ s = eqb-true put.sector s here in
            let kept : (nat_lt e last || named put.sector) ≡ true = rw (at, chosen) (or-true (nat_lt e last)) in
            cc
        | inr there ↦ rw (stays, there) (others_named named s last e marks chosen)
      ]
    ]

others_other : (named : ℕ → Bool) (s last e : ℕ) (marks : List Mark) → named s ≡ false → e + bars marks ≤ last
    → filter (λ put. put.sector == s) (map (λ (q : EpochPut). q.put) (filter (λ q. not (is_kept last named q)) (numbered e marks))) ≡ own last s (numbered e marks)
others_other named s last e [] spared within = refl
others_other named s last e (Bar ∷ marks) spared within = others_other named s last (e + 1) marks spared (omega arith)
others_other named s last e (PutMark put ∷ marks) spared within =
    elim (cases_Bool (put.sector == s)) [
      | inl here ↦
          let stays : named put.sector ≡ false = ap named (eqb-true put.sector s here) ∙ spared in
          elim (cases_lt e last) [
            | inl before ↦ rw (lt-ltb e last before, ne_eqb e last (omega arith)) (others_other named s last e marks spared within)
            | inr now ↦ rw (le-ltb e last now, eq-eqb e last (omega arith), stays, here) (ap (λ rest. put ∷ rest) (others_other named s last e marks spared within))
          ]
      | inr there ↦ elim (cases_Bool (is_kept last named (record { epoch = e; put = put }))) [
        | inl kept ↦ elim (cases_Bool (e == last)) [
          | inl same ↦ rw (kept, same, there) (others_other named s last e marks spared within)
          | inr past ↦ rw (kept, past) (others_other named s last e marks spared within)
        ]
        | inr stays ↦ elim (cases_Bool (e == last)) [
          | inl same ↦ rw (stays, same, there) (others_other named s last e marks spared within)
          | inr past ↦ rw (stays, past, there) (others_other named s last e marks spared within)
        ]
      ]
    ]

pub puts_at-keep_named : (named : ℕ → Bool) (pend : List Mark) (s : ℕ) → named s ≡ true → puts_at 0 s (keep_pend named pend) ≡ []
unfolding puts_at keep_pend
puts_at-keep_named named pend s chosen = own-map s (puts_if (λ q. not (is_kept (bars pend) named q)) pend) ∙ others_named named s (bars pend) 0 pend chosen

pub puts_at-keep_other : (named : ℕ → Bool) (pend : List Mark) (s : ℕ) → named s ≡ false → puts_at 0 s (keep_pend named pend) ≡ puts_at (bars pend) s pend
unfolding puts_at keep_pend
puts_at-keep_other named pend s spared = own-map s (puts_if (λ q. not (is_kept (bars pend) named q)) pend) ∙ others_other named s (bars pend) 0 pend spared (omega arith)

-- keeping all sectors leaves the contents now, and no marks

every_kept : (last : ℕ) (qs : List EpochPut) → filter (is_kept last every_sector) qs ≡ qs
every_kept last [] = refl
every_kept last (q ∷ qs) = rw (or-true (nat_lt q.epoch last)) (ap (λ rest. q ∷ rest) (every_kept last qs))

none_stays : (last : ℕ) (qs : List EpochPut) → filter (λ q. not (is_kept last every_sector q)) qs ≡ []
none_stays last [] = refl
none_stays last (q ∷ qs) = rw (or-true (nat_lt q.epoch last)) (none_stays last qs)

pub keep_base-every : (base : List Block) (pend : List Mark) → keep_base every_sector base pend ≡ contents_now base pend
unfolding keep_base
keep_base-every base pend = rw (every_kept (bars pend) (numbered 0 pend)) (sym (contents_now-numbered base 0 pend))

pub keep_pend-every : (pend : List Mark) → keep_pend every_sector pend ≡ []
unfolding keep_pend
keep_pend-every pend = rw (none_stays (bars pend) (numbered 0 pend)) refl

-- the sectors from 0 on, as many as there are, are all of them

all_kept : (base : List Block) (n last e : ℕ) (marks : List Mark) → length base ≤ n → All (IsWithin base) marks → filter (is_kept last (is_named 0 n)) (numbered e marks) ≡ numbered e marks
all_kept base n last e [] enough within = refl
all_kept base n last e (Bar ∷ marks) enough within = all_kept base n last (e + 1) marks enough (All-tail (IsWithin base) Bar marks within)
all_kept base n last e (PutMark put ∷ marks) enough within =
    let inside : put.sector < length base = All-head (IsWithin base) (PutMark put) marks within in
    rw (le-leb 0 put.sector (omega arith), lt-ltb put.sector (0 + n) (omega arith), or-true (nat_lt e last))
    (ap (λ rest. record { epoch = e; put = put } ∷ rest) (all_kept base n last e marks enough (All-tail (IsWithin base) (PutMark put) marks within)))

none_spared : (base : List Block) (n last e : ℕ) (marks : List Mark) → length base ≤ n → All (IsWithin base) marks → filter (λ q. not (is_kept last (is_named 0 n) q)) (numbered e marks) ≡ []
none_spared base n last e [] enough within = refl
none_spared base n last e (Bar ∷ marks) enough within = none_spared base n last (e + 1) marks enough (All-tail (IsWithin base) Bar marks within)
none_spared base n last e (PutMark put ∷ marks) enough within =
    let inside : put.sector < length base = All-head (IsWithin base) (PutMark put) marks within in
    rw (le-leb 0 put.sector (omega arith), lt-ltb put.sector (0 + n) (omega arith), or-true (nat_lt e last))
    (none_spared base n last e marks enough (All-tail (IsWithin base) (PutMark put) marks within))

pub keep_base-all : (base : List Block) (pend : List Mark) (n : ℕ) → length base ≤ n → All (IsWithin base) pend → keep_base (is_named 0 n) base pend ≡ contents_now base pend
unfolding keep_base
keep_base-all base pend n enough within = rw (all_kept base n (bars pend) 0 pend enough within) (sym (contents_now-numbered base 0 pend))

pub keep_pend-all : (base : List Block) (pend : List Mark) (n : ℕ) → length base ≤ n → All (IsWithin base) pend → keep_pend (is_named 0 n) pend ≡ []
unfolding keep_pend
keep_pend-all base pend n enough within = rw (none_spared base n (bars pend) 0 pend enough within) refl

-- keeping changes nothing of the contents now

put_past_kept : (named : ℕ → Bool) (last e : ℕ) (c : List Block) (put : Put) (marks : List Mark) → last ≤ e → named put.sector ≡ false
    → put_on (put_all c (map (λ (q : EpochPut). q.put) (filter (is_kept last named) (numbered e marks)))) put ≡ put_all (put_on c put) (map (λ (q : EpochPut). q.put) (filter (is_kept last named) (numbered e marks)))
put_past_kept named last e c put [] past spared = refl
put_past_kept named last e c put (Bar ∷ marks) past spared = put_past_kept named last (e + 1) c put marks (omega arith) spared
put_past_kept named last e c put (PutMark next ∷ marks) past spared =
    elim (cases_Bool (named next.sector)) [
      | inl chosen ↦
          let apart : next.sector ≢ put.sector = λ same. both_ways (named next.sector) (ap named same ∙ spared) chosen in
          rw (le-ltb e last past, chosen) (put_past_kept named last e (put_on c next) put marks past spared ∙ ap (λ b. put_all b (map (λ (q : EpochPut). q.put) (filter (is_kept last named) (numbered e marks)))) (set_comm c next.sector put.sector next.value put.value apart))
      | inr other ↦ rw (le-ltb e last past, other) (put_past_kept named last e c put marks past spared)
    ]

kept_then_others : (named : ℕ → Bool) (last e : ℕ) (c : List Block) (marks : List Mark) → e + bars marks ≡ last
    → put_all (put_all c (map (λ (q : EpochPut). q.put) (filter (is_kept last named) (numbered e marks)))) (map (λ (q : EpochPut). q.put) (filter (λ q. not (is_kept last named q)) (numbered e marks)))
    ≡ put_all c (map (λ (q : EpochPut). q.put) (numbered e marks))
kept_then_others named last e c [] within = refl
kept_then_others named last e c (Bar ∷ marks) within = kept_then_others named last (e + 1) c marks (omega arith)
kept_then_others named last e c (PutMark put ∷ marks) within =
    elim (cases_Bool (is_kept last named (record { epoch = e; put = put }))) [
      | inl kept ↦ rw kept (kept_then_others named last e (put_on c put) marks within)
      | inr stays ↦ elim (cases_lt e last) [
        | inl before ↦ let kept : (nat_lt e last || named put.sector) ≡ true = or_left (nat_lt e last) (named put.sector) (lt-ltb e last before) in absurd (both_ways (is_kept last named (record { epoch = e; put = put })) stays kept)
        | inr past ↦
            let spared : named put.sector ≡ false = (or_parts (nat_lt e last) (named put.sector) stays).1 in
            rw (stays, put_past_kept named last e c put marks past spared) (kept_then_others named last e (put_on c put) marks within)
      ]
    ]

now-map : (c : List Block) (puts : List Put) → contents_now c (map PutMark puts) ≡ put_all c puts
unfolding contents_now
now-map c [] = refl
now-map c (put ∷ puts) = now-map (put_on c put) puts

pub contents_now-keep : (named : ℕ → Bool) (base : List Block) (pend : List Mark) → contents_now (keep_base named base pend) (keep_pend named pend) ≡ contents_now base pend
unfolding keep_base keep_pend
contents_now-keep named base pend =
    now-map (put_all base (puts_if (is_kept (bars pend) named) pend)) (puts_if (λ q. not (is_kept (bars pend) named q)) pend)
    ∙ kept_then_others named (bars pend) 0 base pend (omega arith) ∙ sym (contents_now-numbered base 0 pend)
