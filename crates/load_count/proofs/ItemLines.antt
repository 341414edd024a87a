-- What the line of an item does to the sink.
use Rattle.std.proofs.Common.{◌≡◌, inl, inr, ◌==◌, ◌&&◌, ℕ, ◌+◌, ◌≤◌, ◌<◌, Bool, true, false, if◌then◌else◌, List, [], ◌∷◌, Option, Some, None, codes, decimal, ◌∙◌, ap, refl, length, lt-ltb, ne_eqb, arith}
use Rattle.std.specs.Prelude.{fold, not, slice_index}
use Rattle.std.proofs.lemmas.Bool.{and_parts, not-true}
use Rattle.std.specs.Int.{to_be_bytes, w32}
use Rattle.std.proofs.lemmas.List.Sums.{fold-append}
use Rattle.hex.specs.Hex.{encode_lower}
use Rattle.storage_model.specs.declared.block.Block.{Block}
use Rattle.storage_model.specs.declared.faults.BusKind.{BusKind}
use Rattle.storage_model.specs.declared.faults.BusKind.TheVariants.{Lost as LostCommand, NoResp, Bad as BadBlock, Late}
use Rattle.storage_model.specs.declared.faults.Letter.{Letter}
use Rattle.storage_model.specs.declared.faults.Letter.TheVariants.{Host, Engine, Card as CardLetter, Cut as CutLetter}
use Rattle.storage_model.specs.declared.trace.End.{End}
use Rattle.storage_model.specs.declared.trace.End.TheVariants.{Good, Fault as FaultEnd, Dead, Image}
use Rattle.storage_model.specs.declared.trace.Why.{Why}
use Rattle.storage_model.specs.declared.trace.Why.TheVariants.{Bus as BusFault, Flash as FlashFault}
use Rattle.storage_model.specs.declared.trace.Item.{Item}
use Rattle.storage_model.specs.declared.trace.Limit.{Limit}
use Rattle.storage_model.specs.declared.trace.Limit.TheVariants.{Range, Align}
use Rattle.storage_model.specs.declared.trace.Item.TheVariants.{Card, Issue, Params, Address, Poll, Phase, Discard, Bus, Flash, Recover, Irq, Done, Read, Sector, Status, Fault, Refused, Cut, Lost, On, Left, Turn, Off}
use Rattle.text_words.specs.Words.{hex_byte, hex_word, is_one_byte, line}
use Rattle.text_words.proofs.Sectors.{either}
use Rattle.trace_text.specs.Trace.{data_words, end_text, id_text, item_text, item_words, items_text, kept_words, kind_words, letter_text, limit_text, lines_text, why_text}
use Rattle.trace_text.proofs.ItemWords.{data_digits, data_fill}
use Rattle.load_count.specs.Counts.{counts}
use Rattle.load_count.specs.Lines.{answered, at_start, begun, ended, fresh, is_digit, moved, none, step, told}
use Rattle.load_count.specs.declared.counts.Counts.{Counts}
use Rattle.load_count.specs.declared.line.Line.{Line}
use Rattle.load_count.proofs.LinesTaken.{at, behind, line_taken, worded}
use Rattle.load_count.specs.declared.sink.CountingSink.{CountingSink}
use Rattle.load_count.proofs.Plain.{ArePlain, IsNumber, hex_plain, number, plain}
use Rattle.load_count.proofs.Totals.{count_item, counts_by_items}

-- ---- the words are plain

plain_number : (n : ℕ) → plain (decimal n) ≡ true
plain_number n = (number n).plain

plain_lines : (lines : Option ℕ) → plain (lines_text lines) ≡ true
plain_lines (Some n) = plain_number n
plain_lines None = refl

plain_id : (id : Option ℕ) → plain (id_text id) ≡ true
plain_id (Some n) = plain_number n
plain_id None = refl

plain_why : (why : Why) → plain (why_text why) ≡ true
plain_why BusFault = refl
plain_why FlashFault = refl

plain_limit : (limit : Limit) → plain (limit_text limit) ≡ true
plain_limit Range = refl
plain_limit Align = refl

plain_letter : (letter : Letter) → plain (letter_text letter) ≡ true
plain_letter Host = refl
plain_letter Engine = refl
plain_letter CardLetter = refl
plain_letter CutLetter = refl

plain_end : (end : End) → plain (end_text end) ≡ true
plain_end Good = refl
plain_end FaultEnd = refl
plain_end Dead = refl
plain_end Image = refl

plain_kept : (kept : Bool) → ArePlain (kept_words kept)
plain_kept true = (refl, tt)
plain_kept false = tt

plain_kind : (kind : BusKind) (id : Option ℕ) → ArePlain (kind_words kind id)
plain_kind LostCommand id = (refl, (plain_id id, tt))
plain_kind NoResp id = (refl, (plain_id id, tt))
plain_kind (BadBlock block) id = (refl, (plain_number block, (plain_id id, tt)))
plain_kind Late id = (refl, (plain_id id, tt))

plain_data : (value : Block) → ArePlain (data_words value)
plain_data value =
    elim (either (is_one_byte value.0)) [
      | inl same ↦ rw (data_fill value same) (refl, (hex_plain (slice_index value.0 0 ∷ []), tt))
      | inr other ↦ rw (data_digits value other) (hex_plain value.0, tt)
    ]

plain_words : (item : Item) → ArePlain (item_words item)
plain_words (Card sectors depth lines) = (refl, (plain_number sectors, (plain_number depth, (plain_lines lines, tt))))
plain_words (Issue id tag) = (refl, (plain_number id, (plain_number tag, tt)))
plain_words (Params n id) = (refl, (plain_number n, (plain_number id, tt)))
plain_words (Address n id) = (refl, (plain_number n, (plain_number id, tt)))
plain_words (Poll n mask) = (refl, (plain_number n, (hex_plain (to_be_bytes w32 mask), tt)))
plain_words (Phase n id count kept) = (refl, (plain_number n, (plain_number id, (plain_number count, plain_kept kept))))
plain_words (Discard n) = (refl, (plain_number n, tt))
plain_words (Bus n kind id) = (refl, (plain_number n, plain_kind kind id))
plain_words (Flash id) = (refl, (plain_id id, tt))
plain_words Recover = (refl, tt)
plain_words (Irq mask) = (refl, (hex_plain (to_be_bytes w32 mask), tt))
plain_words (Done id) = (plain_number id, (refl, tt))
plain_words (Read id) = (plain_number id, (refl, tt))
plain_words (Sector value) = plain_data value
plain_words (Status id word) = (plain_number id, (refl, (hex_plain (to_be_bytes w32 word), tt)))
plain_words (Fault id why) = (plain_number id, (refl, (plain_why why, tt)))
plain_words (Refused id why) = (plain_number id, (refl, (plain_limit why, tt)))
plain_words Cut = (refl, tt)
plain_words (Lost id) = (plain_number id, (refl, tt))
plain_words On = (refl, tt)
plain_words (Left sector value) = (refl, (plain_number sector, plain_data value))
plain_words (Turn letter) = (refl, (plain_letter letter, tt))
plain_words (Off end) = (refl, (plain_end end, tt))

-- ---- the letters and the words of a line

behind_words : (line : Line) (word : List ℕ) (k : ℕ) → k ≤ line.words → k ≤ 255 → k ≤ (behind line word).words
unfolding begun
behind_words line [] k some few = some
behind_words line (x ∷ word) k some few = omega (arith, some, few)

behind_first : (line : Line) (word : List ℕ) → 1 ≤ line.words → (behind line word).first ≡ line.first
unfolding begun
behind_first line [] some = refl
behind_first line (x ∷ word) some = rw (ne_eqb line.words 0 (λ is. omega (arith, some, is))) refl

behind_second : (line : Line) (word : List ℕ) → 2 ≤ line.words → (behind line word).second ≡ line.second
unfolding begun
behind_second line [] some = refl
behind_second line (x ∷ word) some = rw (ne_eqb line.words 1 (λ is. omega (arith, some, is))) refl

behind_most : (line : Line) (word : List ℕ) → (behind line word).words ≤ line.words + 1
unfolding begun
behind_most line [] = omega arith
behind_most line (x ∷ word) = omega arith

-- a space follows
abbrev parted : Line → List ℕ → Line
parted line word = record (behind line word) { within = false }

first_stays : (line : Line) (words : List (List ℕ)) → 1 ≤ line.words → (worded line words).first ≡ line.first
first_stays line [] some = refl
first_stays line (word ∷ []) some = behind_first line word some
first_stays line (word ∷ next ∷ words) some = first_stays (parted line word) (next ∷ words) (behind_words line word 1 some (omega arith)) ∙ behind_first line word some

second_stays : (line : Line) (words : List (List ℕ)) → 2 ≤ line.words → (worded line words).second ≡ line.second
second_stays line [] some = refl
second_stays line (word ∷ []) some = behind_second line word some
second_stays line (word ∷ next ∷ words) some = second_stays (parted line word) (next ∷ words) (behind_words line word 2 some (omega arith)) ∙ behind_second line word some

words_most : (line : Line) (words : List (List ℕ)) → (worded line words).words ≤ line.words + length words
words_most line [] = omega arith
words_most line (word ∷ []) = behind_most line word
words_most line (word ∷ next ∷ words) = let rest = words_most (parted line word) (next ∷ words) in let one = behind_most line word in omega (arith, rest, one)

first_is : (x : ℕ) (xs : List ℕ) (words : List (List ℕ)) → (worded at_start ((x ∷ xs) ∷ words)).first ≡ x
unfolding begun
first_is x xs [] = refl
first_is x xs (next ∷ words) = first_stays (parted at_start (x ∷ xs)) (next ∷ words) (omega arith)

second_is : (x : ℕ) (xs : List ℕ) (y : ℕ) (ys : List ℕ) (words : List (List ℕ)) → (worded at_start ((x ∷ xs) ∷ (y ∷ ys) ∷ words)).second ≡ y
unfolding begun
second_is x xs y ys [] = refl
second_is x xs y ys (next ∷ words) = second_stays (parted (parted at_start (x ∷ xs)) (y ∷ ys)) (next ∷ words) (omega arith)

-- ---- what a line adds

abbrev is_other : List ℕ → Bool
is_other [] = false
is_other (x ∷ word) = not (is_digit x) && (not (x == 112) && not (x == 111))

-- a line of no answer, phase or end
other_line : (c : Counts) (word : List ℕ) (words : List (List ℕ)) → is_other word ≡ true → told c (worded at_start (word ∷ words)) ≡ c
unfolding told
other_line c [] words h = absurd (cc h)
other_line c (x ∷ word) words h =
    let parts = and_parts (not (is_digit x)) (not (x == 112) && not (x == 111)) h in
    let rest = and_parts (not (x == 112)) (not (x == 111)) parts.1 in
    rw (first_is x word words, not-true (is_digit x) parts.0, not-true (x == 112) rest.0, not-true (x == 111) rest.1) refl

answer_line : (c : Counts) (word : List ℕ) (y : ℕ) (ys : List ℕ) (words : List (List ℕ)) → IsNumber word → told c (worded at_start (word ∷ (y ∷ ys) ∷ words)) ≡ answered c y
unfolding told
answer_line c word y ys words number =
    rw number.is (rw (first_is number.first number.rest ((y ∷ ys) ∷ words), second_is number.first number.rest y ys words, number.digit) refl)

unmoved : (c : Counts) (n : ℕ) → n < 4 → moved c n ≡ c
unfolding moved
unmoved c n few = rw (lt-ltb n 4 few, lt-ltb n 5 (omega (arith, few))) refl

-- a line of at most three words that begins as a phase does
short_line : (c : Counts) (word : List ℕ) (words : List (List ℕ)) → length words ≤ 2 → told c (worded at_start ((112 ∷ word) ∷ words)) ≡ c
unfolding told
short_line c word words few =
    let most = words_most at_start ((112 ∷ word) ∷ words) in
    rw (first_is 112 word words) (unmoved c (worded at_start ((112 ∷ word) ∷ words)).words (omega (arith, most, few)))

four : (a b d : Bool) (c e f g : Counts) → e ≡ c → f ≡ c → g ≡ c → (if a then e else if b then f else if d then g else c) ≡ c
four true b d c e f g one two three = one
four false true d c e f g one two three = two
four false false true c e f g one two three = three
four false false false c e f g one two three = refl

not_answered : (c : Counts) → answered c 0 ≡ c
unfolding answered
not_answered c = refl

not_moved : (c : Counts) → moved c 1 ≡ c
unfolding moved
not_moved c = refl

not_ended : (c : Counts) → ended c 0 ≡ c
unfolding ended
not_ended c = refl

begun_first : (x : ℕ) → begun at_start x ≡ record { words = 1; first = x; second = 0; within = true }
unfolding begun
begun_first x = refl

one_word : (c : Counts) (word : List ℕ) → told c (worded at_start (word ∷ [])) ≡ c
unfolding told
one_word c [] = refl
one_word c (x ∷ word) = rw (begun_first x) (four (is_digit x) (x == 112) (x == 111) c (answered c 0) (moved c 1) (ended c 0) (not_answered c) (not_moved c) (not_ended c))

end_line : (c : Counts) (y : ℕ) (ys : List ℕ) → told c (worded at_start (codes "off" ∷ (y ∷ ys) ∷ [])) ≡ ended c y
unfolding told
end_line c y ys = rw (first_is 111 (102 ∷ 102 ∷ []) ((y ∷ ys) ∷ []), second_is 111 (102 ∷ 102 ∷ []) y ys []) refl

five_words : (c : Counts) (kept : Bool) (x : ℕ) (xs : List ℕ) (y : ℕ) (ys : List ℕ) (z : ℕ) (zs : List ℕ)
    → told c (worded at_start (codes "phase" ∷ (x ∷ xs) ∷ (y ∷ ys) ∷ (z ∷ zs) ∷ kept_words kept)) ≡ moved c (if kept then 5 else 4)
unfolding told begun
five_words c true x xs y ys z zs = refl
five_words c false x xs y ys z zs = refl

phase_words : (c : Counts) (n id count : ℕ) (kept : Bool) → told c (worded at_start (codes "phase" ∷ decimal n ∷ decimal id ∷ decimal count ∷ kept_words kept)) ≡ moved c (if kept then 5 else 4)
phase_words c n id count kept =
    let a = number n in
    let b = number id in
    let d = number count in
    rw (a.is, b.is, d.is) (five_words c kept a.first a.rest b.first b.rest d.first d.rest)

told_phase : (c : Counts) (n id count : ℕ) (kept : Bool) → moved c (if kept then 5 else 4) ≡ count_item c (Phase n id count kept)
unfolding moved
told_phase c n id count true = refl
told_phase c n id count false = refl

told_answer : (c : Counts) (id : ℕ) → (answered c 111 ≡ count_item c (Done id)) × (answered c 100 ≡ count_item c (Read id)) × (answered c 108 ≡ count_item c (Lost id)) × (answered c 115 ≡ c)
unfolding answered
told_answer c id = (refl, refl, refl, refl)

told_fault : (c : Counts) (id : ℕ) (why : Why) (limit : Limit) → (answered c 102 ≡ count_item c (Fault id why)) × (answered c 114 ≡ count_item c (Refused id limit))
unfolding answered
told_fault c id why limit = (refl, refl)

told_end : (c : Counts) (end : End) → told c (worded at_start (codes "off" ∷ end_text end ∷ [])) ≡ count_item c (Off end)
unfolding ended
told_end c Good = end_line c 111 (codes "k")
told_end c FaultEnd = end_line c 102 (codes "ault")
told_end c Dead = end_line c 100 (codes "ead")
told_end c Image = end_line c 105 (codes "mage")

told_data : (c : Counts) (value : Block) → told c (worded at_start (data_words value)) ≡ c
told_data c value =
    elim (either (is_one_byte value.0)) [
      | inl same ↦ rw (data_fill value same) (other_line c (codes "fill") (hex_byte (slice_index value.0 0) ∷ []) refl)
      | inr other ↦ rw (data_digits value other) (one_word c (encode_lower value.0))
    ]

told_item : (c : Counts) (item : Item) → told c (worded at_start (item_words item)) ≡ count_item c item
told_item c (Card sectors depth lines) = other_line c (codes "card") (decimal sectors ∷ decimal depth ∷ lines_text lines ∷ []) refl
told_item c (Issue id tag) = other_line c (codes "issue") (decimal id ∷ decimal tag ∷ []) refl
told_item c (Params n id) = short_line c (codes "arams") (decimal n ∷ decimal id ∷ []) (omega arith)
told_item c (Address n id) = other_line c (codes "address") (decimal n ∷ decimal id ∷ []) refl
told_item c (Poll n mask) = short_line c (codes "oll") (decimal n ∷ hex_word mask ∷ []) (omega arith)
told_item c (Phase n id count kept) = phase_words c n id count kept ∙ told_phase c n id count kept
told_item c (Discard n) = other_line c (codes "discard") (decimal n ∷ []) refl
told_item c (Bus n kind id) = other_line c (codes "bus") (decimal n ∷ kind_words kind id) refl
told_item c (Flash id) = other_line c (codes "flash") (id_text id ∷ []) refl
told_item c Recover = one_word c (codes "recover")
told_item c (Irq mask) = other_line c (codes "irq") (hex_word mask ∷ []) refl
told_item c (Done id) = answer_line c (decimal id) 111 (codes "k") [] (number id) ∙ (told_answer c id).0
told_item c (Read id) = answer_line c (decimal id) 100 (codes "ata") [] (number id) ∙ (told_answer c id).1
told_item c (Sector value) = told_data c value
told_item c (Status id word) = answer_line c (decimal id) 115 (codes "tatus") (hex_word word ∷ []) (number id) ∙ (told_answer c id).3
told_item c (Fault id why) = answer_line c (decimal id) 102 (codes "ault") (why_text why ∷ []) (number id) ∙ (told_fault c id why Range).0
told_item c (Refused id why) = answer_line c (decimal id) 114 (codes "efused") (limit_text why ∷ []) (number id) ∙ (told_fault c id BusFault why).1
told_item c Cut = one_word c (codes "cut")
told_item c (Lost id) = answer_line c (decimal id) 108 (codes "ost") [] (number id) ∙ (told_answer c id).2
told_item c On = one_word c (codes "on")
told_item c (Left sector value) = other_line c (codes "left") (decimal sector ∷ data_words value) refl
told_item c (Turn letter) = other_line c (codes "turn") (letter_text letter ∷ []) refl
told_item c (Off end) = told_end c end

-- ---- lines one after the other

item_taken : (c : Counts) (item : Item) → fold step (at c at_start) (item_text item) ≡ at (count_item c item) at_start
unfolding item_text
item_taken c item = line_taken c (item_words item) (plain_words item) ∙ ap (λ counts. at counts at_start) (told_item c item)

items_taken : (c : Counts) (items : List Item) → fold step (at c at_start) (items_text items) ≡ at (fold count_item c items) at_start
items_taken c [] = refl
items_taken c (item ∷ items) =
    fold-append step (at c at_start) (item_text item) (items_text items)
    ∙ ap (λ sink. fold step sink (items_text items)) (item_taken c item)
    ∙ items_taken (count_item c item) items

-- the counts kept behind the text of some lines are the counts of these
pub counts_behind : (items : List Item) (sink : CountingSink) → sink ≡ fold step fresh (items_text items) → sink.counts ≡ counts items
counts_behind items sink is = ap (λ at. at.counts) (is ∙ items_taken none items) ∙ counts_by_items items
