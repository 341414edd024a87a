-- A fault text has one meaning or one first bad line.
use Rattle.std.proofs.Common.{◌≡◌, ◌≢◌, ◌⊎◌, inl, inr, ℕ, ◌+◌, ◌<◌, ◌≤◌, List, [], ◌∷◌, ◌++◌, length, refl, sym, ap, ◌∙◌, subst, arith, append_assoc}
use Rattle.std.specs.Prelude.{All}
use Rattle.std.proofs.lemmas.Grind.{flat_map-append}
use Rattle.std.proofs.lemmas.List.{append-nil, length-append}
use Rattle.std.proofs.lemmas.List.Elements.{All-head, All-tail}
use Rattle.storage_model.specs.declared.faults.Faults.{Faults}
use Rattle.text_words.specs.Texts.{IsBadAt}
use Rattle.text_words.proofs.BadLines.{HasLines, no_bad_line as no_bad_text}
use Rattle.text_words.proofs.LineLists.{lines_ended, none_next as no_next_line, one_list}
use Rattle.text_words.proofs.LineTexts.{cut, lines_of}
use Rattle.text_words.proofs.Lines.{IsFree}
use Rattle.fault_text.specs.declared.line.FaultLine.{FaultLine}
use Rattle.fault_text.specs.declared.tally.Tally.{Tally}
use Rattle.fault_text.specs.Faults.{AreWithin, Means, faults_of, texts}
use Rattle.fault_text.specs.Lines.{IsLine, line_text}
use Rattle.fault_text.specs.Tally.{Follows, IsNext, with_faults, with_line}
use Rattle.fault_text.proofs.Counts.{All-back, faults-push, follows_within, room_within, tally-push, tally_of, within-push, within_front, within_none}
use Rattle.fault_text.proofs.Lengths.{texts-short}
use Rattle.fault_text.proofs.LineWords.{fault_is_line, fault_line, fault_parts, one_line}

texts-append : (lines more : List FaultLine) → texts (lines ++ more) ≡ texts lines ++ texts more
texts-append lines more = flat_map-append line_text lines more

texts-push : (lines : List FaultLine) (line : FaultLine) → texts (lines ++ line ∷ []) ≡ texts lines ++ line_text line
texts-push lines line = texts-append lines (line ∷ []) ∙ ap (λ t. texts lines ++ t) (append-nil (line_text line))

same_line_text : (fault other : FaultLine) → IsLine fault → IsLine other → line_text fault ≡ line_text other → fault ≡ other
same_line_text fault other valid sound same = (one_line fault other [] [] valid sound (ap (λ t. t ++ []) same)).0

same_lines : (bytes : List ℕ) (lines others : List FaultLine) → bytes ≡ texts lines → bytes ≡ texts others → All IsLine lines → All IsLine others → lines ≡ others
same_lines bytes lines others text also all each = one_list line_text IsLine fault_is_line same_line_text lines others all each (sym text ∙ also)

-- a text means one list of each kind of faults
pub one_meaning : (bytes : List ℕ) (faults others : Faults) → Means bytes faults → Means bytes others → faults ≡ others
one_meaning bytes faults others means also =
    means.meant ∙ ap faults_of (same_lines bytes means.lines also.lines means.text also.text means.within.each also.within.each) ∙ sym also.meant

not_empty : (more b : List ℕ) → [] ≡ more ++ 10 ∷ b → ⊥
not_empty more b none = omega (arith, ap length none, length-append more (10 ∷ b))

-- each front of whole lines is a fault text
has_lines : HasLines Means
has_lines = record {
  front = λ a b faults means.
      elim (cut IsLine line_text fault_is_line means.lines [] a b means.within.each (append-nil (texts means.lines) ∙ sym means.text)) [
        | inl within ↦ (
            let P : List FaultLine → Type 0 = λ all. AreWithin all in (
              faults_of within.front,
              record { lines = within.front; text = within.whole; within = within_front within.front within.back (subst P within.list means.within); meant = refl },
            )
            )
        | inr behind ↦ absurd (not_empty behind.more b behind.rest)
      ];
  ended = λ bytes faults means. rw means.text (lines_ended IsLine line_text fault_is_line means.lines means.within.each);
}

-- a text that means faults has no bad line
pub no_bad_line : (bytes : List ℕ) (faults : Faults) (number : ℕ) → Means bytes faults → IsBadAt Means bytes number → ⊥
no_bad_line bytes faults number means bad = no_bad_text Means has_lines bytes faults number means bad

-- a text that means faults has not more than 16 MiB
pub meaning_fits : (bytes : List ℕ) (faults : Faults) → Means bytes faults → length bytes ≤ 16777216
meaning_fits bytes faults means =
    omega (arith, ap length means.text, texts-short means.lines means.within.each, means.within.count, means.within.letters)

-- what has been read of a text: lines, the faults that they mean, and their counts
pub record IsTaken (bytes rest : List ℕ) (faults : Faults) (tally : Tally) : Type 0 where
  pub lines : List FaultLine
  pub text : bytes ≡ texts lines ++ rest
  pub within : AreWithin lines
  pub meant : faults ≡ faults_of lines
  pub counted : tally ≡ tally_of lines

pub taken_none : (bytes : List ℕ) (faults : Faults) (tally : Tally) → faults ≡ faults_of [] → tally ≡ tally_of [] → IsTaken bytes bytes faults tally
taken_none bytes faults tally meant counted = record { lines = []; text = refl; within = within_none; meant = meant; counted = counted }

-- one line more
pub taken_more : (bytes rest text after : List ℕ) (faults : Faults) (tally : Tally) (line : FaultLine) → IsTaken bytes rest faults tally → rest ≡ text ++ 10 ∷ after → IsNext text tally line
    → IsTaken bytes after (with_faults faults line) (with_line tally line)
taken_more bytes rest text after faults tally line taken parts next =
    let P : Tally → Type 0 = λ t. Follows t line in
    let follows = subst P taken.counted next.follows in
    let room : length taken.lines < 4096 = omega (arith, next.room, ap (λ t. t.lines) taken.counted) in
    record {
      lines = taken.lines ++ line ∷ [];
      text = taken.text ∙ ap (λ t. texts taken.lines ++ t) (fault_parts line rest text after parts next.is) ∙ sym (append_assoc (texts taken.lines) (line_text line) after)
          ∙ ap (λ t. t ++ after) (sym (texts-push taken.lines line));
      within = within-push taken.lines line taken.within next.valid room follows;
      meant = ap (λ f. with_faults f line) taken.meant ∙ sym (faults-push taken.lines line);
      counted = ap (λ t. with_line t line) taken.counted ∙ sym (tally-push taken.lines line follows);
    }

-- the line after those taken is the first bad one, where none can follow
pub bad_here : (bytes rest : List ℕ) (faults : Faults) (tally : Tally) → IsTaken bytes rest faults tally → rest ≢ []
    → ((fault : FaultLine) (after : List ℕ) → IsLine fault → rest ≡ line_text fault ++ after → tally.lines < 4096 → ¬ Follows tally fault) → IsBadAt Means bytes (tally.lines + 1)
bad_here bytes rest faults tally taken more none = (
  texts taken.lines,
  rest,
  record {
    text = taken.text;
    meaning = faults_of taken.lines;
    means = record { lines = taken.lines; text = refl; within = taken.within; meant = refl };
    more = more;
    bad = λ next after other parts free means.
        no_next_line line_text IsLine fault_is_line same_line_text AreWithin (λ all sound. sound.each) within_front taken.lines rest taken.within
        (λ fault behind is wider.
        let P : Tally → Type 0 = λ t. Follows t fault in
        none fault behind (All-head IsLine fault [] (All-back taken.lines (fault ∷ []) wider.each)) is (omega (arith, room_within taken.lines fault wider, ap (λ t. t.lines) taken.counted))
        (subst P (sym taken.counted) (follows_within taken.lines fault wider))) next after means.lines parts free means.within means.text;
  },
  ap (λ t. t.lines + 1) taken.counted ∙ ap (λ n. n + 1) (sym (lines_of IsLine line_text fault_is_line taken.lines taken.within.each)),
)

-- where the front up to a line feed is no line that can follow, none can
pub none_next : (rest text after : List ℕ) (tally : Tally) → rest ≡ text ++ 10 ∷ after → IsFree 10 text → ((line : FaultLine) → ¬ IsNext text tally line)
    → (fault : FaultLine) (more : List ℕ) → IsLine fault → rest ≡ line_text fault ++ more → tally.lines < 4096 → ¬ Follows tally fault
none_next rest text after tally parts free none = λ fault more valid is room follows.
    none fault (record { valid = valid; is = (fault_line fault rest more text after valid parts free is).0; room = room; follows = follows })

nothing : (rest : List ℕ) → length rest ≡ 0 → rest ≡ []
nothing [] none = refl
nothing (b ∷ rest) none = absurd (omega arith)

-- the faults of a text of which nothing is left
pub all_read : (bytes rest : List ℕ) (faults : Faults) (tally : Tally) → IsTaken bytes rest faults tally → length rest ≡ 0 → Means bytes faults
all_read bytes rest faults tally taken none = record {
  lines = taken.lines;
  text = taken.text ∙ ap (λ more. texts taken.lines ++ more) (nothing rest none) ∙ append-nil (texts taken.lines);
  within = taken.within;
  meant = taken.meant;
}
