-- Words of letters.
use Rattle.std.proofs.Common.{◌≡◌, ◌≢◌, ℕ, zero, suc, ◌<◌, List, [], ◌∷◌, length, get_or, map, refl, arith}
use Rattle.std.proofs.lemmas.List.Elements.{All-nil, All-cons}
use Rattle.storage_model.specs.declared.faults.Letter.{Letter}
use Rattle.storage_model.specs.declared.faults.Letter.TheVariants.{Host, Engine, Card, Cut}
use Rattle.text_words.proofs.Lines.{IsWord}
use Rattle.fault_text.specs.Lines.{letter_byte}

-- a byte of a word of letters is a letter
pub no_letters : (word : List ℕ) (letters : List Letter) (i : ℕ) → i < length word → ((letter : Letter) → get_or word i 0 ≢ letter_byte letter) → word ≢ map letter_byte letters
no_letters [] letters i below none is = omega arith
no_letters (b ∷ word) [] i below none is = cc
no_letters (b ∷ word) (letter ∷ letters) zero below none is = none letter (let e : b ≡ letter_byte letter = cc in e)
no_letters (b ∷ word) (letter ∷ letters) (suc i) below none is = no_letters word letters i (omega arith) none (let e : word ≡ map letter_byte letters = cc in e)

letter_high : (letter : Letter) → 32 < letter_byte letter
letter_high Host = omega arith
letter_high Engine = omega arith
letter_high Card = omega arith
letter_high Cut = omega arith

-- letters are a word
pub letters_word : (letters : List Letter) → IsWord (map letter_byte letters)
letters_word [] = All-nil (λ b. 32 < b)
letters_word (letter ∷ letters) = All-cons (λ b. 32 < b) (letter_byte letter) (map letter_byte letters) (letter_high letter) (letters_word letters)

same_letter : (letter other : Letter) → letter_byte letter ≡ letter_byte other → letter ≡ other
same_letter Host Host e = refl
same_letter Host Engine e = absurd (omega arith)
same_letter Host Card e = absurd (omega arith)
same_letter Host Cut e = absurd (omega arith)
same_letter Engine Host e = absurd (omega arith)
same_letter Engine Engine e = refl
same_letter Engine Card e = absurd (omega arith)
same_letter Engine Cut e = absurd (omega arith)
same_letter Card Host e = absurd (omega arith)
same_letter Card Engine e = absurd (omega arith)
same_letter Card Card e = refl
same_letter Card Cut e = absurd (omega arith)
same_letter Cut Host e = absurd (omega arith)
same_letter Cut Engine e = absurd (omega arith)
same_letter Cut Card e = absurd (omega arith)
same_letter Cut Cut e = refl

-- a word is of one list of letters
pub same_letters : (letters others : List Letter) → map letter_byte letters ≡ map letter_byte others → letters ≡ others
same_letters [] [] same = refl
same_letters [] (other ∷ others) same = cc
same_letters (letter ∷ letters) [] same = cc
same_letters (letter ∷ letters) (other ∷ others) same =
    let head = same_letter letter other (cc) in
    let tail = same_letters letters others (cc) in
    cc
