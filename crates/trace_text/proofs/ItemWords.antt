-- The words of a line determine its item, and it determines them.
use Rattle.std.proofs.Common.{◌≡◌, ◌≢◌, inl, inr, ℕ, zero, suc, ◌^◌, ◌<◌, Bool, true, false, List, [], ◌∷◌, length, codes, decimal, Option, Some, None, refl, sym, ap, ◌∙◌, arith}
use Rattle.std.specs.Prelude.{IfSome, slice_index, ◌==◌, if◌then◌else◌}
use Rattle.std.specs.Str.{bytes_eq}
use Rattle.std.specs.List.{list_all}
use Rattle.std.proofs.Math.ListN.{replicate}
use Rattle.std.proofs.lemmas.List.{length-replicate}
use Rattle.std.proofs.lemmas.List.Elements.{All-replicate}
use Rattle.std.proofs.lemmas.List.Sums.{list_all-from_AllPass}
use Rattle.std.proofs.lemmas.Bool.Decides.{Decides-eqb}
use Rattle.text_words.proofs.Bytes.{encode_lower-injective}
use Rattle.std.proofs.lemmas.Fmt.{length-decimal-le}
use Rattle.hex.specs.Hex.{IsBytes, encode_lower, lower_digits}
use Rattle.hex.proofs.HexLemmas.{length-encode_with}
use Rattle.storage_model.specs.declared.block.Block.{Block}
use Rattle.storage_model.specs.declared.faults.BusKind.{BusKind}
use Rattle.storage_model.specs.declared.faults.BusKind.TheVariants.{Lost as LostCommand, NoResp, Bad as BadBlock, Late}
use Rattle.storage_model.specs.declared.faults.Letter.{Letter}
use Rattle.storage_model.specs.declared.trace.End.{End}
use Rattle.storage_model.specs.declared.trace.Why.{Why}
use Rattle.storage_model.specs.declared.trace.Item.{Item}
use Rattle.storage_model.specs.declared.trace.Limit.{Limit}
use Rattle.storage_model.specs.declared.trace.Item.TheVariants.{Card, Issue, Params, Address, Poll, Phase, Discard, Bus, Flash, Recover, Irq, Done, Read, Sector, Status, Fault, Refused, Cut, Lost, On, Left, Turn, Off}
use Rattle.text_words.specs.Words.{hex_byte, hex_word, is_one_byte}
use Rattle.text_words.proofs.Sectors.{bytes_digits, bytes_fill, bytes_words-some, either}
use Rattle.text_words.proofs.Spellings.{decimal_low}
use Rattle.trace_text.specs.declared.keyword.Keyword.{Keyword}
use Rattle.trace_text.specs.declared.keyword.Keyword.TheVariants.{Card as CardWord, Issue as IssueWord, Params as ParamsWord, Address as AddressWord, Poll as PollWord, Phase as PhaseWord, Discard as DiscardWord, Bus as BusWord, Flash as FlashWord, Recover as RecoverWord, Irq as IrqWord, Cut as CutWord, On as OnWord, Left as LeftWord, Turn as TurnWord, Off as OffWord}
use Rattle.trace_text.specs.declared.keyword.Outcome.{Outcome}
use Rattle.trace_text.specs.declared.keyword.Outcome.TheVariants.{Done as DoneOutcome, Read as ReadOutcome, Status as StatusOutcome, Fault as FaultOutcome, Refused as RefusedOutcome, Lost as LostOutcome}
use Rattle.trace_text.specs.Names.{keyword_text, outcome_text}
use Rattle.trace_text.specs.Trace.{IsBlock, IsItem, IsKind, data_words, end_text, id_text, item_words, kept_words, kind_words, letter_text, limit_text, lines_text, why_text}

-- a sector's words are `fill` and a byte, or one word of digits
pub data_fill : (value : Block) → is_one_byte value.0 ≡ true → data_words value ≡ codes "fill" ∷ hex_byte (slice_index value.0 0) ∷ []
data_fill value same = bytes_fill value.0 same

pub data_digits : (value : Block) → is_one_byte value.0 ≡ false → data_words value ≡ encode_lower value.0 ∷ []
data_digits value other = bytes_digits value.0 other

pub data_words-some : (value : Block) → data_words value ≢ []
data_words-some value none = bytes_words-some value.0 none

-- the word that names an item
abbrev pub name_of : Item → Option Keyword
name_of (Card sectors depth lines) = Some CardWord
name_of (Issue id tag) = Some IssueWord
name_of (Params n id) = Some ParamsWord
name_of (Address n id) = Some AddressWord
name_of (Poll n mask) = Some PollWord
name_of (Phase n id count kept) = Some PhaseWord
name_of (Discard n) = Some DiscardWord
name_of (Bus n kind id) = Some BusWord
name_of (Flash id) = Some FlashWord
name_of Recover = Some RecoverWord
name_of (Irq mask) = Some IrqWord
name_of Cut = Some CutWord
name_of On = Some OnWord
name_of (Left sector value) = Some LeftWord
name_of (Turn letter) = Some TurnWord
name_of (Off end) = Some OffWord
name_of _ = None

-- the outcome that an item answers
abbrev pub answer_of : Item → Option Outcome
answer_of (Done id) = Some DoneOutcome
answer_of (Read id) = Some ReadOutcome
answer_of (Status id word) = Some StatusOutcome
answer_of (Fault id why) = Some FaultOutcome
answer_of (Refused id why) = Some RefusedOutcome
answer_of (Lost id) = Some LostOutcome
answer_of _ = None

-- texts, read back
abbrev keyword_of : List ℕ → Option Keyword
keyword_of text =
    if bytes_eq text (codes "card") then Some CardWord else
    if bytes_eq text (codes "issue") then Some IssueWord else
    if bytes_eq text (codes "params") then Some ParamsWord else
    if bytes_eq text (codes "address") then Some AddressWord else
    if bytes_eq text (codes "poll") then Some PollWord else
    if bytes_eq text (codes "phase") then Some PhaseWord else
    if bytes_eq text (codes "discard") then Some DiscardWord else
    if bytes_eq text (codes "bus") then Some BusWord else
    if bytes_eq text (codes "flash") then Some FlashWord else
    if bytes_eq text (codes "recover") then Some RecoverWord else
    if bytes_eq text (codes "irq") then Some IrqWord else
    if bytes_eq text (codes "cut") then Some CutWord else
    if bytes_eq text (codes "on") then Some OnWord else
    if bytes_eq text (codes "left") then Some LeftWord else
    if bytes_eq text (codes "turn") then Some TurnWord else
    if bytes_eq text (codes "off") then Some OffWord else
    None

abbrev outcome_of : List ℕ → Option Outcome
outcome_of text =
    if bytes_eq text (codes "ok") then Some DoneOutcome else
    if bytes_eq text (codes "data") then Some ReadOutcome else
    if bytes_eq text (codes "status") then Some StatusOutcome else
    if bytes_eq text (codes "fault") then Some FaultOutcome else
    if bytes_eq text (codes "refused") then Some RefusedOutcome else
    if bytes_eq text (codes "lost") then Some LostOutcome else
    None

keyword_of-text : (keyword : Keyword) → keyword_of (keyword_text keyword) ≡ Some keyword
keyword_of-text CardWord = refl
keyword_of-text IssueWord = refl
keyword_of-text ParamsWord = refl
keyword_of-text AddressWord = refl
keyword_of-text PollWord = refl
keyword_of-text PhaseWord = refl
keyword_of-text DiscardWord = refl
keyword_of-text BusWord = refl
keyword_of-text FlashWord = refl
keyword_of-text RecoverWord = refl
keyword_of-text IrqWord = refl
keyword_of-text CutWord = refl
keyword_of-text OnWord = refl
keyword_of-text LeftWord = refl
keyword_of-text TurnWord = refl
keyword_of-text OffWord = refl

outcome_of-text : (outcome : Outcome) → outcome_of (outcome_text outcome) ≡ Some outcome
outcome_of-text DoneOutcome = refl
outcome_of-text ReadOutcome = refl
outcome_of-text StatusOutcome = refl
outcome_of-text FaultOutcome = refl
outcome_of-text RefusedOutcome = refl
outcome_of-text LostOutcome = refl

-- no number, and not the first word of a sector's bytes
pub record IsName (first : List ℕ) : Type 0 where
  pub number : (n : ℕ) → n < 2 ^ 32 → first ≢ decimal n
  pub fill : first ≢ codes "fill"
  pub digits : length first < 1024

high_name : (keyword : Keyword) → (57 < slice_index (keyword_text keyword) 0) × (length (keyword_text keyword) < 1024)
high_name CardWord = (omega arith, omega arith)
high_name IssueWord = (omega arith, omega arith)
high_name ParamsWord = (omega arith, omega arith)
high_name AddressWord = (omega arith, omega arith)
high_name PollWord = (omega arith, omega arith)
high_name PhaseWord = (omega arith, omega arith)
high_name DiscardWord = (omega arith, omega arith)
high_name BusWord = (omega arith, omega arith)
high_name FlashWord = (omega arith, omega arith)
high_name RecoverWord = (omega arith, omega arith)
high_name IrqWord = (omega arith, omega arith)
high_name CutWord = (omega arith, omega arith)
high_name OnWord = (omega arith, omega arith)
high_name LeftWord = (omega arith, omega arith)
high_name TurnWord = (omega arith, omega arith)
high_name OffWord = (omega arith, omega arith)

pub name : (keyword : Keyword) → IsName (keyword_text keyword)
name keyword = record {
  number = λ n fits e. omega (arith, decimal_low n fits, high_name keyword, ap (λ w. slice_index w 0) e);
  fill = λ e.
      let known = keyword_of-text keyword in
      let unknown : keyword_of (codes "fill") ≡ None = refl in
      let both : None ≡ Some keyword = sym unknown ∙ sym (ap (λ (text : List ℕ). keyword_of text) e) ∙ known in
      cc;
  digits = (high_name keyword).1;
}

-- all the bytes of a sector are too long for a name
not_digits : (value : Block) (first : List ℕ) → IsBlock value → length first < 1024 → first ≢ encode_lower value.0
not_digits value first block short e = omega (arith, ap length e, length-encode_with lower_digits value.0, block.long)

-- a sector's words begin with `fill` or with all digits
pub no_data : (value : Block) (first : List ℕ) (words : List (List ℕ)) → IsBlock value → first ≢ codes "fill" → length first < 1024 → first ∷ words ≡ data_words value → ⊥
no_data value first words block other short is =
    elim (either (is_one_byte value.0)) [
      | inl same ↦ (let shape = data_fill value same in other (cc))
      | inr more ↦ (let shape = data_digits value more in not_digits value first block short (cc))
    ]

pub decimal_short : (n : ℕ) → n < 2 ^ 32 → length (decimal n) < 1024
decimal_short n fits = omega (arith, length-decimal-le 10 n (omega arith) (omega arith) (omega arith))

pub decimal_not_fill : (n : ℕ) → n < 2 ^ 32 → decimal n ≢ codes "fill"
decimal_not_fill n fits e = omega (arith, decimal_low n fits, ap (λ w. slice_index w 0) e)

named_text : (keyword other : Keyword) → keyword_text keyword ≡ keyword_text other → Some other ≡ Some keyword
named_text keyword other e = sym (keyword_of-text other) ∙ sym (ap (λ (text : List ℕ). keyword_of text) e) ∙ keyword_of-text keyword

outcome_same : (outcome other : Outcome) → outcome_text outcome ≡ outcome_text other → Some other ≡ Some outcome
outcome_same outcome other e = sym (outcome_of-text other) ∙ sym (ap (λ (text : List ℕ). outcome_of text) e) ∙ outcome_of-text outcome

-- a line that begins with a name is of the items with that name
pub named : (keyword : Keyword) (words : List (List ℕ)) (item : Item) → IsItem item → keyword_text keyword ∷ words ≡ item_words item → name_of item ≡ Some keyword
named keyword words (Card sectors depth lines) valid is = named_text keyword CardWord (cc)
named keyword words (Issue id tag) valid is = named_text keyword IssueWord (cc)
named keyword words (Params n id) valid is = named_text keyword ParamsWord (cc)
named keyword words (Address n id) valid is = named_text keyword AddressWord (cc)
named keyword words (Poll n mask) valid is = named_text keyword PollWord (cc)
named keyword words (Phase n id count kept) valid is = named_text keyword PhaseWord (cc)
named keyword words (Discard n) valid is = named_text keyword DiscardWord (cc)
named keyword words (Bus n kind id) valid is = named_text keyword BusWord (cc)
named keyword words (Flash id) valid is = named_text keyword FlashWord (cc)
named keyword words Recover valid is = named_text keyword RecoverWord (cc)
named keyword words (Irq mask) valid is = named_text keyword IrqWord (cc)
named keyword words (Done id) valid is = absurd ((name keyword).number id valid (cc))
named keyword words (Read id) valid is = absurd ((name keyword).number id valid (cc))
named keyword words (Sector value) valid is = absurd (no_data value (keyword_text keyword) words valid (name keyword).fill (name keyword).digits is)
named keyword words (Status id word) valid is = absurd ((name keyword).number id valid.0 (cc))
named keyword words (Fault id why) valid is = absurd ((name keyword).number id valid (cc))
named keyword words (Refused id why) valid is = absurd ((name keyword).number id valid (cc))
named keyword words Cut valid is = named_text keyword CutWord (cc)
named keyword words (Lost id) valid is = absurd ((name keyword).number id valid (cc))
named keyword words On valid is = named_text keyword OnWord (cc)
named keyword words (Left sector value) valid is = named_text keyword LeftWord (cc)
named keyword words (Turn letter) valid is = named_text keyword TurnWord (cc)
named keyword words (Off end) valid is = named_text keyword OffWord (cc)

-- a line that begins with a number is an answer
record Answers (item : Item) (words : List (List ℕ)) : Type 0 where
  outcome : Outcome
  answer : answer_of item ≡ Some outcome
  more : List (List ℕ)
  parts : words ≡ outcome_text outcome ∷ more

answered : (number : ℕ) (words : List (List ℕ)) (item : Item) → number < 2 ^ 32 → IsItem item → decimal number ∷ words ≡ item_words item → Answers item words
answered number words (Card sectors depth lines) fits valid is = absurd ((name CardWord).number number fits (cc))
answered number words (Issue id tag) fits valid is = absurd ((name IssueWord).number number fits (cc))
answered number words (Params n id) fits valid is = absurd ((name ParamsWord).number number fits (cc))
answered number words (Address n id) fits valid is = absurd ((name AddressWord).number number fits (cc))
answered number words (Poll n mask) fits valid is = absurd ((name PollWord).number number fits (cc))
answered number words (Phase n id count kept) fits valid is = absurd ((name PhaseWord).number number fits (cc))
answered number words (Discard n) fits valid is = absurd ((name DiscardWord).number number fits (cc))
answered number words (Bus n kind id) fits valid is = absurd ((name BusWord).number number fits (cc))
answered number words (Flash id) fits valid is = absurd ((name FlashWord).number number fits (cc))
answered number words Recover fits valid is = absurd ((name RecoverWord).number number fits (cc))
answered number words (Irq mask) fits valid is = absurd ((name IrqWord).number number fits (cc))
answered number words (Done id) fits valid is = record { outcome = DoneOutcome; answer = refl; more = []; parts = cc }
answered number words (Read id) fits valid is = record { outcome = ReadOutcome; answer = refl; more = []; parts = cc }
answered number words (Sector value) fits valid is = absurd (no_data value (decimal number) words valid (decimal_not_fill number fits) (decimal_short number fits) is)
answered number words (Status id word) fits valid is = record { outcome = StatusOutcome; answer = refl; more = hex_word word ∷ []; parts = cc }
answered number words (Fault id why) fits valid is = record { outcome = FaultOutcome; answer = refl; more = why_text why ∷ []; parts = cc }
answered number words (Refused id why) fits valid is = record { outcome = RefusedOutcome; answer = refl; more = limit_text why ∷ []; parts = cc }
answered number words Cut fits valid is = absurd ((name CutWord).number number fits (cc))
answered number words (Lost id) fits valid is = record { outcome = LostOutcome; answer = refl; more = []; parts = cc }
answered number words On fits valid is = absurd ((name OnWord).number number fits (cc))
answered number words (Left sector value) fits valid is = absurd ((name LeftWord).number number fits (cc))
answered number words (Turn letter) fits valid is = absurd ((name TurnWord).number number fits (cc))
answered number words (Off end) fits valid is = absurd ((name OffWord).number number fits (cc))

-- the item of a line with a number and an outcome
pub answers : (number : ℕ) (outcome : Outcome) (words : List (List ℕ)) (item : Item) → number < 2 ^ 32 → IsItem item → decimal number ∷ outcome_text outcome ∷ words ≡ item_words item → answer_of item ≡ Some outcome
answers number outcome words item fits valid is =
    let found = answered number (outcome_text outcome ∷ words) item fits valid is in
    let parts = found.parts in
    found.answer ∙ outcome_same outcome found.outcome (cc)

-- what is read of the words after a name is read of the line
pub no_card : (words : List (List ℕ)) → ((f : ℕ × ℕ × Option ℕ) → ¬ ((f.0 < 2 ^ 32) × (f.1 < 2 ^ 8) × IfSome f.2 (λ n. n < 2 ^ 16) × (words ≡ decimal f.0 ∷ decimal f.1 ∷ lines_text f.2 ∷ []))) → (item : Item) → ¬ (IsItem item × (codes "card" ∷ words ≡ item_words item))
no_card words none (Card sectors depth lines) p = (let is = p.1 in none (sectors, depth, lines) (p.0.0, p.0.1, p.0.2, cc))
no_card words none item p = (let other = named CardWord words item p.0 p.1 in cc)

pub no_issue : (words : List (List ℕ)) → ((f : ℕ × ℕ) → ¬ ((f.0 < 2 ^ 32) × (f.1 < 2 ^ 8) × (words ≡ decimal f.0 ∷ decimal f.1 ∷ []))) → (item : Item) → ¬ (IsItem item × (codes "issue" ∷ words ≡ item_words item))
no_issue words none (Issue id tag) p = (let is = p.1 in none (id, tag) (p.0.0, p.0.1, cc))
no_issue words none item p = (let other = named IssueWord words item p.0 p.1 in cc)

pub no_params : (words : List (List ℕ)) → ((f : ℕ × ℕ) → ¬ ((f.0 < 2 ^ 32) × (f.1 < 2 ^ 32) × (words ≡ decimal f.0 ∷ decimal f.1 ∷ []))) → (item : Item) → ¬ (IsItem item × (codes "params" ∷ words ≡ item_words item))
no_params words none (Params n id) p = (let is = p.1 in none (n, id) (p.0.0, p.0.1, cc))
no_params words none item p = (let other = named ParamsWord words item p.0 p.1 in cc)

pub no_address : (words : List (List ℕ)) → ((f : ℕ × ℕ) → ¬ ((f.0 < 2 ^ 32) × (f.1 < 2 ^ 32) × (words ≡ decimal f.0 ∷ decimal f.1 ∷ []))) → (item : Item) → ¬ (IsItem item × (codes "address" ∷ words ≡ item_words item))
no_address words none (Address n id) p = (let is = p.1 in none (n, id) (p.0.0, p.0.1, cc))
no_address words none item p = (let other = named AddressWord words item p.0 p.1 in cc)

pub no_poll : (words : List (List ℕ)) → ((f : ℕ × ℕ) → ¬ ((f.0 < 2 ^ 32) × (f.1 < 2 ^ 32) × (words ≡ decimal f.0 ∷ hex_word f.1 ∷ []))) → (item : Item) → ¬ (IsItem item × (codes "poll" ∷ words ≡ item_words item))
no_poll words none (Poll n mask) p = (let is = p.1 in none (n, mask) (p.0.0, p.0.1, cc))
no_poll words none item p = (let other = named PollWord words item p.0 p.1 in cc)

pub no_phase : (words : List (List ℕ)) → ((f : ℕ × ℕ × ℕ × Bool) → ¬ ((f.0 < 2 ^ 32) × (f.1 < 2 ^ 32) × (f.2 < 2 ^ 16) × (words ≡ decimal f.0 ∷ decimal f.1 ∷ decimal f.2 ∷ kept_words f.3))) → (item : Item) → ¬ (IsItem item × (codes "phase" ∷ words ≡ item_words item))
no_phase words none (Phase n id count kept) p = (let is = p.1 in none (n, id, count, kept) (p.0.0, p.0.1, p.0.2, cc))
no_phase words none item p = (let other = named PhaseWord words item p.0 p.1 in cc)

pub no_discard : (words : List (List ℕ)) → ((f : ℕ) → ¬ ((f < 2 ^ 32) × (words ≡ decimal f ∷ []))) → (item : Item) → ¬ (IsItem item × (codes "discard" ∷ words ≡ item_words item))
no_discard words none (Discard n) p = (let is = p.1 in none n (p.0, cc))
no_discard words none item p = (let other = named DiscardWord words item p.0 p.1 in cc)

pub no_bus : (words : List (List ℕ)) → ((f : ℕ × BusKind × Option ℕ) → ¬ ((f.0 < 2 ^ 32) × IsKind f.1 × IfSome f.2 (λ n. n < 2 ^ 32) × (words ≡ decimal f.0 ∷ kind_words f.1 f.2))) → (item : Item) → ¬ (IsItem item × (codes "bus" ∷ words ≡ item_words item))
no_bus words none (Bus n kind id) p = (let is = p.1 in none (n, kind, id) (p.0.0, p.0.1, p.0.2, cc))
no_bus words none item p = (let other = named BusWord words item p.0 p.1 in cc)

pub no_flash : (words : List (List ℕ)) → ((f : Option ℕ) → ¬ (IfSome f (λ n. n < 2 ^ 32) × (words ≡ id_text f ∷ []))) → (item : Item) → ¬ (IsItem item × (codes "flash" ∷ words ≡ item_words item))
no_flash words none (Flash id) p = (let is = p.1 in none id (p.0, cc))
no_flash words none item p = (let other = named FlashWord words item p.0 p.1 in cc)

pub no_irq : (words : List (List ℕ)) → ((f : ℕ) → ¬ ((f < 2 ^ 32) × (words ≡ hex_word f ∷ []))) → (item : Item) → ¬ (IsItem item × (codes "irq" ∷ words ≡ item_words item))
no_irq words none (Irq mask) p = (let is = p.1 in none mask (p.0, cc))
no_irq words none item p = (let other = named IrqWord words item p.0 p.1 in cc)

pub no_left : (words : List (List ℕ)) → ((f : ℕ × Block) → ¬ ((f.0 < 2 ^ 32) × IsBlock f.1 × (words ≡ decimal f.0 ∷ data_words f.1))) → (item : Item) → ¬ (IsItem item × (codes "left" ∷ words ≡ item_words item))
no_left words none (Left sector value) p = (let is = p.1 in none (sector, value) (p.0.0, p.0.1, cc))
no_left words none item p = (let other = named LeftWord words item p.0 p.1 in cc)

pub no_turn : (words : List (List ℕ)) → ((f : Letter) → ¬ (words ≡ letter_text f ∷ [])) → (item : Item) → ¬ (IsItem item × (codes "turn" ∷ words ≡ item_words item))
no_turn words none (Turn letter) p = (let is = p.1 in none letter (cc))
no_turn words none item p = (let other = named TurnWord words item p.0 p.1 in cc)

pub no_off : (words : List (List ℕ)) → ((f : End) → ¬ (words ≡ end_text f ∷ [])) → (item : Item) → ¬ (IsItem item × (codes "off" ∷ words ≡ item_words item))
no_off words none (Off end) p = (let is = p.1 in none end (cc))
no_off words none item p = (let other = named OffWord words item p.0 p.1 in cc)

pub no_recover : (words : List (List ℕ)) → words ≢ [] → (item : Item) → ¬ (IsItem item × (codes "recover" ∷ words ≡ item_words item))
no_recover words none Recover p = (let is = p.1 in none (cc))
no_recover words none item p = (let other = named RecoverWord words item p.0 p.1 in cc)

pub no_cut : (words : List (List ℕ)) → words ≢ [] → (item : Item) → ¬ (IsItem item × (codes "cut" ∷ words ≡ item_words item))
no_cut words none Cut p = (let is = p.1 in none (cc))
no_cut words none item p = (let other = named CutWord words item p.0 p.1 in cc)

pub no_on : (words : List (List ℕ)) → words ≢ [] → (item : Item) → ¬ (IsItem item × (codes "on" ∷ words ≡ item_words item))
no_on words none On p = (let is = p.1 in none (cc))
no_on words none item p = (let other = named OnWord words item p.0 p.1 in cc)

-- the answers
pub no_answer_ok : (number : ℕ) (words : List (List ℕ)) → number < 2 ^ 32 → words ≢ [] → (item : Item) → ¬ (IsItem item × (decimal number ∷ codes "ok" ∷ words ≡ item_words item))
no_answer_ok number words fits none (Done id) p = (let is = p.1 in none (cc))
no_answer_ok number words fits none item p = (let other = answers number DoneOutcome words item fits p.0 p.1 in cc)

pub no_answer_data : (number : ℕ) (words : List (List ℕ)) → number < 2 ^ 32 → words ≢ [] → (item : Item) → ¬ (IsItem item × (decimal number ∷ codes "data" ∷ words ≡ item_words item))
no_answer_data number words fits none (Read id) p = (let is = p.1 in none (cc))
no_answer_data number words fits none item p = (let other = answers number ReadOutcome words item fits p.0 p.1 in cc)

pub no_answer_lost : (number : ℕ) (words : List (List ℕ)) → number < 2 ^ 32 → words ≢ [] → (item : Item) → ¬ (IsItem item × (decimal number ∷ codes "lost" ∷ words ≡ item_words item))
no_answer_lost number words fits none (Lost id) p = (let is = p.1 in none (cc))
no_answer_lost number words fits none item p = (let other = answers number LostOutcome words item fits p.0 p.1 in cc)

pub no_answer_refused : (number : ℕ) (words : List (List ℕ)) → number < 2 ^ 32 → ((f : Limit) → ¬ (words ≡ limit_text f ∷ [])) → (item : Item) → ¬ (IsItem item × (decimal number ∷ codes "refused" ∷ words ≡ item_words item))
no_answer_refused number words fits none (Refused id why) p = (let is = p.1 in none why (cc))
no_answer_refused number words fits none item p = (let other = answers number RefusedOutcome words item fits p.0 p.1 in cc)

pub no_answer_status : (number : ℕ) (words : List (List ℕ)) → number < 2 ^ 32 → ((n : ℕ) → ¬ ((n < 2 ^ 32) × (words ≡ hex_word n ∷ []))) → (item : Item) → ¬ (IsItem item × (decimal number ∷ codes "status" ∷ words ≡ item_words item))
no_answer_status number words fits none (Status id word) p = (let is = p.1 in none word (p.0.1, cc))
no_answer_status number words fits none item p = (let other = answers number StatusOutcome words item fits p.0 p.1 in cc)

pub no_answer_fault : (number : ℕ) (words : List (List ℕ)) → number < 2 ^ 32 → ((f : Why) → ¬ (words ≡ why_text f ∷ [])) → (item : Item) → ¬ (IsItem item × (decimal number ∷ codes "fault" ∷ words ≡ item_words item))
no_answer_fault number words fits none (Fault id why) p = (let is = p.1 in none why (cc))
no_answer_fault number words fits none item p = (let other = answers number FaultOutcome words item fits p.0 p.1 in cc)

pub no_lone_number : (number : ℕ) → number < 2 ^ 32 → (item : Item) → ¬ (IsItem item × (decimal number ∷ [] ≡ item_words item))
no_lone_number number fits item p = (let parts = (answered number [] item fits p.0 p.1).parts in cc)

pub no_other_outcome : (number : ℕ) (second : List ℕ) (words : List (List ℕ)) → number < 2 ^ 32 → ((outcome : Outcome) → second ≢ outcome_text outcome) → (item : Item) → ¬ (IsItem item × (decimal number ∷ second ∷ words ≡ item_words item))
no_other_outcome number second words fits none item p =
    let found = answered number (second ∷ words) item fits p.0 p.1 in
    let parts = found.parts in
    none found.outcome (cc)

-- a line that begins with neither a name nor a number is a sector's bytes
pub no_other : (first : List ℕ) (words : List (List ℕ)) → ((keyword : Keyword) → first ≢ keyword_text keyword) → ((n : ℕ) → ¬ ((n < 2 ^ 32) × (first ≡ decimal n)))
    → ((value : Block) → ¬ (IsBlock value × (first ∷ words ≡ data_words value))) → (item : Item) → ¬ (IsItem item × (first ∷ words ≡ item_words item))
no_other first words keyword number block (Card sectors depth lines) p = (let is = p.1 in keyword CardWord (cc))
no_other first words keyword number block (Issue id tag) p = (let is = p.1 in keyword IssueWord (cc))
no_other first words keyword number block (Params n id) p = (let is = p.1 in keyword ParamsWord (cc))
no_other first words keyword number block (Address n id) p = (let is = p.1 in keyword AddressWord (cc))
no_other first words keyword number block (Poll n mask) p = (let is = p.1 in keyword PollWord (cc))
no_other first words keyword number block (Phase n id count kept) p = (let is = p.1 in keyword PhaseWord (cc))
no_other first words keyword number block (Discard n) p = (let is = p.1 in keyword DiscardWord (cc))
no_other first words keyword number block (Bus n kind id) p = (let is = p.1 in keyword BusWord (cc))
no_other first words keyword number block (Flash id) p = (let is = p.1 in keyword FlashWord (cc))
no_other first words keyword number block Recover p = (let is = p.1 in keyword RecoverWord (cc))
no_other first words keyword number block (Irq mask) p = (let is = p.1 in keyword IrqWord (cc))
no_other first words keyword number block (Done id) p = (let is = p.1 in number id (p.0, cc))
no_other first words keyword number block (Read id) p = (let is = p.1 in number id (p.0, cc))
no_other first words keyword number block (Sector value) p = block value p
no_other first words keyword number block (Status id word) p = (let is = p.1 in number id (p.0.0, cc))
no_other first words keyword number block (Fault id why) p = (let is = p.1 in number id (p.0, cc))
no_other first words keyword number block (Refused id why) p = (let is = p.1 in number id (p.0, cc))
no_other first words keyword number block Cut p = (let is = p.1 in keyword CutWord (cc))
no_other first words keyword number block (Lost id) p = (let is = p.1 in number id (p.0, cc))
no_other first words keyword number block On p = (let is = p.1 in keyword OnWord (cc))
no_other first words keyword number block (Left sector value) p = (let is = p.1 in keyword LeftWord (cc))
no_other first words keyword number block (Turn letter) p = (let is = p.1 in keyword TurnWord (cc))
no_other first words keyword number block (Off end) p = (let is = p.1 in keyword OffWord (cc))

-- a sector of one byte throughout
pub no_filled : (words : List (List ℕ)) → ((b : ℕ) → ¬ ((b < 2 ^ 8) × (words ≡ hex_byte b ∷ []))) → (value : Block) → ¬ (IsBlock value × (codes "fill" ∷ words ≡ data_words value))
no_filled words none value p =
    elim (either (is_one_byte value.0)) [
      | inl same ↦ (let shape = data_fill value same in let is = p.1 in none (slice_index value.0 0) (p.0.bytes 0, cc))
      | inr more ↦ (let shape = data_digits value more in let is = p.1 in not_digits value (codes "fill") p.0 (omega arith) (cc))
    ]

filled_bytes : (n byte : ℕ) → byte < 256 → IsBytes (replicate n byte)
filled_bytes zero byte fits k = omega arith
filled_bytes (suc n) byte fits zero = fits
filled_bytes (suc n) byte fits (suc k) = filled_bytes n byte fits k

filled_first : (n byte : ℕ) → 0 < n → slice_index (replicate n byte) 0 ≡ byte
filled_first zero byte some = absurd (omega arith)
filled_first (suc n) byte some = refl

filled_same : (n byte : ℕ) → list_all (λ b. b == byte) (replicate n byte) ≡ true
filled_same n byte = list_all-from_AllPass (λ b. b == byte) (replicate n byte) (All-replicate (λ b. (b == byte) ≡ true) n byte ((Decides-eqb byte byte).1 refl))

filled_one : (n byte : ℕ) (bytes : List ℕ) → 0 < n → bytes ≡ replicate n byte → is_one_byte bytes ≡ true
filled_one n byte bytes some is = rw (is, filled_first n byte some) (filled_same n byte)

pub filled_block : (n byte : ℕ) (value : Block) → n ≡ 512 → byte < 256 → value.0 ≡ replicate n byte → IsBlock value × (codes "fill" ∷ hex_byte byte ∷ [] ≡ data_words value)
filled_block n byte value long fits is =
    let first : slice_index value.0 0 ≡ byte = rw is (filled_first n byte (omega arith)) in
    let shape = data_fill value (filled_one n byte value.0 (omega arith) is) in (
      record { bytes = rw is (filled_bytes n byte fits); long = rw is (length-replicate n byte ∙ long) },
      (cc),
    )

-- a sector of all its digits
pub no_more_words : (word : List ℕ) (words : List (List ℕ)) → word ≢ codes "fill" → words ≢ [] → (value : Block) → ¬ (IsBlock value × (word ∷ words ≡ data_words value))
no_more_words word words other more value p =
    elim (either (is_one_byte value.0)) [
      | inl same ↦ (let shape = data_fill value same in let is = p.1 in other (cc))
      | inr plain ↦ (let shape = data_digits value plain in let is = p.1 in more (cc))
    ]

pub no_digits : (word : List ℕ) (words : List (List ℕ)) → word ≢ codes "fill" → ((bytes : List ℕ) → ¬ (IsBytes bytes × (length bytes ≡ 512) × (word ≡ encode_lower bytes))) → (value : Block) → ¬ (IsBlock value × (word ∷ words ≡ data_words value))
no_digits word words other none value p =
    elim (either (is_one_byte value.0)) [
      | inl same ↦ (let shape = data_fill value same in let is = p.1 in other (cc))
      | inr plain ↦ (let shape = data_digits value plain in let is = p.1 in none value.0 (p.0.bytes, p.0.long, cc))
    ]

pub no_equal_digits : (word : List ℕ) (words : List (List ℕ)) (bytes : List ℕ) → word ≢ codes "fill" → IsBytes bytes → word ≡ encode_lower bytes → is_one_byte bytes ≡ true
    → (value : Block) → ¬ (IsBlock value × (word ∷ words ≡ data_words value))
no_equal_digits word words bytes other fits text one value p =
    elim (either (is_one_byte value.0)) [
      | inl same ↦ (let shape = data_fill value same in let is = p.1 in other (cc))
      | inr plain ↦ (
          let shape = data_digits value plain in
          let is = p.1 in
          let equal : encode_lower value.0 ≡ encode_lower bytes = cc in
          let bytes_equal = encode_lower-injective value.0 bytes p.0.bytes fits equal in
          let both = ap (λ (xs : List ℕ). is_one_byte xs) bytes_equal in
          cc
          )
    ]

abbrev pub first_byte : List (List ℕ) → ℕ
first_byte [] = 0
first_byte (word ∷ words) = slice_index word 0

no_bad_kind : (words : List (List ℕ)) → ((f : ℕ × Option ℕ) → ¬ ((f.0 < 2 ^ 16) × IfSome f.1 (λ n. n < 2 ^ 32) × (words ≡ decimal f.0 ∷ id_text f.1 ∷ [])))
    → (kind : BusKind) (id : Option ℕ) → IsKind kind → IfSome id (λ n. n < 2 ^ 32) → codes "data" ∷ words ≡ kind_words kind id → ⊥
no_bad_kind words none (BadBlock block) id fits small is = none (block, id) (fits, small, cc)
no_bad_kind words none LostCommand id fits small is = omega (arith, ap first_byte is)
no_bad_kind words none NoResp id fits small is = omega (arith, ap first_byte is)
no_bad_kind words none Late id fits small is = omega (arith, ap first_byte is)

pub no_bad_block : (words : List (List ℕ)) → ((f : ℕ × Option ℕ) → ¬ ((f.0 < 2 ^ 16) × IfSome f.1 (λ n. n < 2 ^ 32) × (words ≡ decimal f.0 ∷ id_text f.1 ∷ [])))
    → (f : BusKind × Option ℕ) → ¬ (IsKind f.0 × IfSome f.1 (λ n. n < 2 ^ 32) × (codes "data" ∷ words ≡ kind_words f.0 f.1))
no_bad_block words none f p = no_bad_kind words none f.0 f.1 p.0 p.1 p.2
