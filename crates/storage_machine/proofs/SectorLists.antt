-- Lists by sector: what is added to one, and what is taken out.
use Rattle.std.proofs.Common.{◌≡◌, ◌⊎◌, ℕ, zero, suc, ◌+◌, ◌<◌, ◌≤◌, ◌^◌, inl, inr, Bool, true, false, ◌==◌, if◌then◌else◌, List, [], ◌∷◌, ◌++◌, drop, get_or, length, set, take, refl, sym, ap, ◌∙◌, arith}
use Rattle.std.proofs.lemmas.Bool.{cases_Bool, eq-eqb, eqb-true, eqb-false, le-ltb, lt-ltb, ne_eqb}
use Rattle.std.proofs.lemmas.List.{append-nil, drop_all, drop_more, get_or-set_other, get_or-set_same, take_more}
use Rattle.storage_model.proofs.Appends.{bars-append}
use Rattle.storage_model.specs.Contents.{bars}
use Rattle.storage_model.specs.declared.block.Block.{Block}
use Rattle.storage_model.specs.declared.marks.Put.{Put}
use Rattle.storage_model.specs.declared.marks.Mark.{Mark}
use Rattle.storage_model.specs.declared.marks.Mark.TheVariants.{Put as PutMark, Bar}
use Rattle.storage_machine.proofs.OwnPuts.{epochs_none, epochs_on-append, puts_on-append, same_length}
use Rattle.storage_machine.specs.PutIndex.{IsFreed, IsIndex, alone, count_below, count_same, epochs_on, puts_on, value_after}

-- one more list, which is empty
pub one_more : {X : Type 0} (xs : List (List X)) (s : ℕ) → get_or (xs ++ [] ∷ []) s [] ≡ get_or xs s []
one_more [] zero = refl
one_more [] (suc s) = refl
one_more (x ∷ xs) zero = refl
one_more (x ∷ xs) (suc s) = one_more xs s

-- one list is another
pub set_if : {X : Type 0} (xs : List (List X)) (k s : ℕ) (v : List X) → k < length xs → get_or (set xs k v) s [] ≡ (if s == k then v else get_or xs s [])
set_if xs k s v inside =
    elim (cases_Bool (s == k)) [
      | inl same ↦ let is : s ≡ k = eqb-true s k same in rw same (rw is (get_or-set_same xs k v [] inside))
      | inr other ↦ rw other (get_or-set_other xs k s v [] (eqb-false s k other))
    ]

-- one mark more

turned : (s k : ℕ) → (s == k) ≡ false → (k == s) ≡ false
turned s k other = ne_eqb k s (λ is. eqb-false s k other (sym is))

epochs_put : (s e : ℕ) (put : Put) → epochs_on s e (PutMark put ∷ []) ≡ (if s == put.sector then e ∷ [] else [])
epochs_put s e put =
    elim (cases_Bool (s == put.sector)) [
      | inl same ↦ rw (same, eq-eqb put.sector s (sym (eqb-true s put.sector same))) refl
      | inr other ↦ rw (other, turned s put.sector other) refl
    ]

puts_put : (s : ℕ) (put : Put) → puts_on s (PutMark put ∷ []) ≡ (if s == put.sector then alone put ∷ [] else [])
puts_put s put =
    elim (cases_Bool (s == put.sector)) [
      | inl same ↦ rw (same, eq-eqb put.sector s (sym (eqb-true s put.sector same))) refl
      | inr other ↦ rw (other, turned s put.sector other) refl
    ]

added : {X : Type 0} (here : Bool) (old : List X) (x : X) → (if here then old ++ x ∷ [] else old) ≡ old ++ (if here then x ∷ [] else [])
added true old x = refl
added false old x = sym (append-nil old)

pub index_none : (last : ℕ) (epochs : List (List ℕ)) (puts : List (List Mark)) → epochs ≡ [] → puts ≡ [] → last ≡ 0 → IsIndex [] epochs puts last
index_none last epochs puts no_epochs no_puts none = record {
  epochs_at = λ s. rw no_epochs refl;
  puts_at = λ s. rw no_puts refl;
  at_last = none;
  short = rw (no_epochs, no_puts) (omega arith, omega arith);
}

pub index_bar : (marks : List Mark) (epochs : List (List ℕ)) (puts : List (List Mark)) (last : ℕ) → IsIndex marks epochs puts last → IsIndex (marks ++ Bar ∷ []) epochs puts (last + 1)
index_bar marks epochs puts last index = record {
  epochs_at = λ s. index.epochs_at s ∙ sym (epochs_on-append s 0 marks (Bar ∷ []) ∙ append-nil (epochs_on s 0 marks));
  puts_at = λ s. index.puts_at s ∙ sym (puts_on-append s marks (Bar ∷ []) ∙ append-nil (puts_on s marks));
  at_last = omega (arith, index.at_last, bars-append marks (Bar ∷ []));
  short = index.short;
}

pub index_put : (marks : List Mark) (put : Put) (epochs epochs' : List (List ℕ)) (puts puts' : List (List Mark)) (last : ℕ) → IsIndex marks epochs puts last
    → ((s : ℕ) → get_or epochs' s [] ≡ (if s == put.sector then get_or epochs s [] ++ last ∷ [] else get_or epochs s []))
    → ((s : ℕ) → get_or puts' s [] ≡ (if s == put.sector then get_or puts s [] ++ alone put ∷ [] else get_or puts s []))
    → length epochs' ≤ 2 ^ 32 → length puts' ≤ 2 ^ 32 → IsIndex (marks ++ PutMark put ∷ []) epochs' puts' last
index_put marks put epochs epochs' puts puts' last index more_epochs more_puts few_epochs few_puts = record {
  epochs_at = λ s.
      let at : last ≡ 0 + bars marks = omega (arith, index.at_last) in
      more_epochs s ∙ (added (s == put.sector) (get_or epochs s []) last
      ∙ (ap (λ old. old ++ (if s == put.sector then last ∷ [] else [])) (index.epochs_at s)
      ∙ (ap (λ e. epochs_on s 0 marks ++ (if s == put.sector then e ∷ [] else [])) at
      ∙ (ap (λ new. epochs_on s 0 marks ++ new) (sym (epochs_put s (0 + bars marks) put)) ∙ sym (epochs_on-append s 0 marks (PutMark put ∷ []))))));
  puts_at = λ s.
      more_puts s ∙ (added (s == put.sector) (get_or puts s []) (alone put)
      ∙ (ap (λ old. old ++ (if s == put.sector then alone put ∷ [] else [])) (index.puts_at s)
      ∙ (ap (λ new. puts_on s marks ++ new) (sym (puts_put s put)) ∙ sym (puts_on-append s marks (PutMark put ∷ [])))));
  at_last = omega (arith, index.at_last, bars-append marks (PutMark put ∷ []));
  short = (few_epochs, few_puts);
}

pub bars_few : (marks : List Mark) → bars marks ≤ length marks
bars_few [] = omega arith
bars_few (PutMark put ∷ marks) = let rest = bars_few marks in omega (arith, rest)
bars_few (Bar ∷ marks) = let rest = bars_few marks in omega (arith, rest)

-- marks are taken out

pub freed_none : (epochs : List (List ℕ)) (puts : List (List Mark)) → IsFreed [] epochs puts epochs puts
freed_none epochs puts = record { each = λ s. inr (refl, refl, refl); long = (refl, refl) }

pub freed_bar : (marks : List Mark) (epochs epochs' : List (List ℕ)) (puts puts' : List (List Mark)) → IsFreed marks epochs puts epochs' puts' → IsFreed (marks ++ Bar ∷ []) epochs puts epochs' puts'
freed_bar marks epochs epochs' puts puts' freed = record {
  each = λ s. elim (freed.each s) [
    | inl none ↦ inl none
    | inr same ↦ inr (same.0, same.1, puts_on-append s marks (Bar ∷ []) ∙ (append-nil (puts_on s marks) ∙ same.2))
  ];
  long = freed.long;
}

freed_here : (s : ℕ) (marks : List Mark) (put : Put) (epochs epochs' epochs'' : List (List ℕ)) (puts puts' puts'' : List (List Mark))
    → get_or epochs'' s [] ≡ (if s == put.sector then [] else get_or epochs' s []) → get_or puts'' s [] ≡ (if s == put.sector then [] else get_or puts' s [])
    → ((get_or epochs' s [] ≡ []) × (get_or puts' s [] ≡ [])) ⊎ ((get_or epochs' s [] ≡ get_or epochs s []) × (get_or puts' s [] ≡ get_or puts s []) × (puts_on s marks ≡ []))
    → ((get_or epochs'' s [] ≡ []) × (get_or puts'' s [] ≡ [])) ⊎ ((get_or epochs'' s [] ≡ get_or epochs s []) × (get_or puts'' s [] ≡ get_or puts s []) × (puts_on s (marks ++ PutMark put ∷ []) ≡ []))
freed_here s marks put epochs epochs' epochs'' puts puts' puts'' at_epochs at_puts before =
    elim (cases_Bool (s == put.sector)) [
      | inl here ↦
          let e : get_or epochs'' s [] ≡ [] = rw here at at_epochs in
          let p : get_or puts'' s [] ≡ [] = rw here at at_puts in
          inl (e, p)
      | inr other ↦
          let e : get_or epochs'' s [] ≡ get_or epochs' s [] = rw other at at_epochs in
          let p : get_or puts'' s [] ≡ get_or puts' s [] = rw other at at_puts in
          let none : puts_on s (PutMark put ∷ []) ≡ [] = puts_put s put ∙ ap (λ (b : Bool). if b then alone put ∷ [] else []) other in
          elim before [
            | inl gone ↦ inl (e ∙ gone.0, p ∙ gone.1)
            | inr same ↦ inr (e ∙ same.0, p ∙ same.1, puts_on-append s marks (PutMark put ∷ []) ∙ (ap (λ xs. puts_on s marks ++ xs) none ∙ (append-nil (puts_on s marks) ∙ same.2)))
          ]
    ]

pub freed_put : (marks : List Mark) (put : Put) (epochs epochs' epochs'' : List (List ℕ)) (puts puts' puts'' : List (List Mark)) → IsFreed marks epochs puts epochs' puts'
    → ((s : ℕ) → get_or epochs'' s [] ≡ (if s == put.sector then [] else get_or epochs' s [])) → length epochs'' ≡ length epochs'
    → ((s : ℕ) → get_or puts'' s [] ≡ (if s == put.sector then [] else get_or puts' s [])) → length puts'' ≡ length puts'
    → IsFreed (marks ++ PutMark put ∷ []) epochs puts epochs'' puts''
freed_put marks put epochs epochs' epochs'' puts puts' puts'' freed at_epochs long_epochs at_puts long_puts = record {
  each = λ s. freed_here s marks put epochs epochs' epochs'' puts puts' puts'' (at_epochs s) (at_puts s) (freed.each s);
  long = (long_epochs ∙ freed.long.0, long_puts ∙ freed.long.1);
}

pub freed_all : (marks : List Mark) (epochs epochs' : List (List ℕ)) (puts puts' : List (List Mark)) (last : ℕ) → IsIndex marks epochs puts last → IsFreed marks epochs puts epochs' puts' → IsIndex [] epochs' puts' 0
freed_all marks epochs epochs' puts puts' last index freed = record {
  epochs_at = λ s. elim (freed.each s) [
    | inl none ↦ none.0
    | inr same ↦ same.0 ∙ (index.epochs_at s ∙ epochs_none s 0 marks same.2)
  ];
  puts_at = λ s. elim (freed.each s) [
    | inl none ↦ none.1
    | inr same ↦ same.1 ∙ (index.puts_at s ∙ same.2)
  ];
  at_last = refl;
  short = (omega (arith, index.short.0, freed.long.0), omega (arith, index.short.1, freed.long.1));
}

-- the value of a sector, one mark after the other

pub walk_here : (s : ℕ) (value : Block) (put : Put) (marks more : List Mark) → marks ≡ PutMark put ∷ more → put.sector ≡ s → value_after put.value (puts_on s more) ≡ value_after value (puts_on s marks)
walk_here s value put marks more is here = rw (is, eq-eqb put.sector s here) refl

pub walk_other : (s : ℕ) (value : Block) (put : Put) (marks more : List Mark) → marks ≡ PutMark put ∷ more → (put.sector ≡ s → ⊥) → value_after value (puts_on s more) ≡ value_after value (puts_on s marks)
walk_other s value put marks more is other = rw (is, ne_eqb put.sector s other) refl

pub walk_bar : (s : ℕ) (value : Block) (marks more : List Mark) → marks ≡ Bar ∷ more → value_after value (puts_on s more) ≡ value_after value (puts_on s marks)
walk_bar s value marks more is = rw is refl

-- epochs at the start of a list

pub below_more : (e i : ℕ) (xs : List ℕ) → i < length xs → get_or xs i 0 < e → count_below e (drop i xs) ≡ suc (count_below e (drop (i + 1) xs))
below_more e i xs inside below = rw (drop_more xs i 0 inside, lt-ltb (get_or xs i 0) e below) refl

pub below_stop : (e i : ℕ) (xs : List ℕ) → i < length xs → e ≤ get_or xs i 0 → count_below e (drop i xs) ≡ 0
below_stop e i xs inside above = rw (drop_more xs i 0 inside, le-ltb (get_or xs i 0) e above) refl

pub below_end : (e i : ℕ) (xs : List ℕ) → length xs ≤ i → count_below e (drop i xs) ≡ 0
below_end e i xs past = rw (drop_all i xs past) refl

pub same_more : (e i : ℕ) (xs : List ℕ) → i < length xs → get_or xs i 0 ≡ e → count_same e (drop i xs) ≡ suc (count_same e (drop (i + 1) xs))
same_more e i xs inside here = rw (drop_more xs i 0 inside, eq-eqb (get_or xs i 0) e here) refl

pub same_stop : (e i : ℕ) (xs : List ℕ) → i < length xs → (get_or xs i 0 ≡ e → ⊥) → count_same e (drop i xs) ≡ 0
same_stop e i xs inside other = rw (drop_more xs i 0 inside, ne_eqb (get_or xs i 0) e other) refl

pub same_end : (e i : ℕ) (xs : List ℕ) → length xs ≤ i → count_same e (drop i xs) ≡ 0
same_end e i xs past = rw (drop_all i xs past) refl

-- there are as many epochs as puts
pub own_lengths : (marks : List Mark) (epochs : List (List ℕ)) (puts : List (List Mark)) (last s : ℕ) → IsIndex marks epochs puts last → length (get_or epochs s []) ≡ length (get_or puts s [])
own_lengths marks epochs puts last s index = ap length (index.epochs_at s) ∙ (same_length s 0 marks ∙ sym (ap length (index.puts_at s)))

-- the marks as far as the next
pub freed_more : (marks : List Mark) (i : ℕ) (mark d : Mark) (epochs epochs' : List (List ℕ)) (puts puts' : List (List Mark)) → i < length marks → get_or marks i d ≡ mark
    → IsFreed (take i marks ++ mark ∷ []) epochs puts epochs' puts' → IsFreed (take (i + 1) marks) epochs puts epochs' puts'
freed_more marks i mark d epochs epochs' puts puts' inside is freed = rw (take_more marks i d inside, is) freed
