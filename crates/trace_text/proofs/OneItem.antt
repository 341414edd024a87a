-- A line is of one item, and no item's text begins another.
use Rattle.std.proofs.Common.{◌≡◌, ◌≢◌, inl, inr, ℕ, ◌+◌, ◌*◌, ◌^◌, ◌<◌, Bool, true, false, List, [], ◌∷◌, ◌++◌, length, codes, decimal, Option, Some, None, refl, sym, ap, ◌∙◌, arith, rules}
use Rattle.std.specs.Prelude.{IfSome, slice_index, ◌==◌}
use Rattle.std.specs.List.{list_all}
use Rattle.std.specs.Int.{w32, to_be_bytes, from_be_bytes}
use Rattle.std.proofs.lemmas.Bool.{and_parts, eqb-true}
use Rattle.std.proofs.lemmas.Fmt.{decimal_injective}
use Rattle.std.proofs.lemmas.List.{append-nil}
use Rattle.std.proofs.lemmas.Nat.{from_be_bytes-to_be_bytes_4}
use Rattle.storage_model.specs.declared.block.Block.{Block}
use Rattle.storage_model.specs.declared.faults.BusKind.{BusKind}
use Rattle.storage_model.specs.declared.faults.BusKind.TheVariants.{Lost as LostCommand, NoResp, Bad as BadBlock, Late}
use Rattle.storage_model.specs.declared.faults.Letter.{Letter}
use Rattle.storage_model.specs.declared.faults.Letter.TheVariants.{Host, Engine, Card as CardLetter, Cut as CutLetter}
use Rattle.storage_model.specs.declared.trace.End.{End}
use Rattle.storage_model.specs.declared.trace.End.TheVariants.{Good, Fault as FaultEnd, Dead, Image}
use Rattle.storage_model.specs.declared.trace.Why.{Why}
use Rattle.storage_model.specs.declared.trace.Why.TheVariants.{Bus as BusFault, Flash as FlashFault}
use Rattle.storage_model.specs.declared.trace.Item.{Item}
use Rattle.storage_model.specs.declared.trace.Limit.{Limit}
use Rattle.storage_model.specs.declared.trace.Limit.TheVariants.{Range, Align}
use Rattle.storage_model.specs.declared.trace.Item.TheVariants.{Card, Issue, Params, Address, Poll, Phase, Discard, Bus, Flash, Recover, Irq, Done, Read, Sector, Status, Fault, Refused, Cut, Lost, On, Left, Turn, Off}
use Rattle.text_words.specs.Words.{hex_word, is_one_byte, spaced}
use Rattle.text_words.proofs.Bytes.{encode_lower-injective, hex_byte-injective}
use Rattle.text_words.proofs.Lines.{line_free}
use Rattle.text_words.proofs.Spellings.{decimal_high, decimal_low}
use Rattle.trace_text.specs.declared.keyword.Keyword.TheVariants.{Card as CardWord, Issue as IssueWord, Params as ParamsWord, Address as AddressWord, Poll as PollWord, Phase as PhaseWord, Discard as DiscardWord, Bus as BusWord, Flash as FlashWord, Recover as RecoverWord, Irq as IrqWord, Cut as CutWord, On as OnWord, Left as LeftWord, Turn as TurnWord, Off as OffWord}
use Rattle.trace_text.specs.declared.keyword.Outcome.TheVariants.{Done as DoneOutcome, Read as ReadOutcome, Status as StatusOutcome, Fault as FaultOutcome, Refused as RefusedOutcome, Lost as LostOutcome}
use Rattle.trace_text.specs.Names.{keyword_text}
use Rattle.trace_text.specs.Trace.{IsBlock, IsItem, IsKind, data_words, end_text, id_text, item_text, item_words, kept_words, kind_words, letter_text, limit_text, lines_text, why_text}
use Rattle.text_words.proofs.Sectors.{either}
use Rattle.trace_text.proofs.ItemWords.{answers, data_digits, data_fill, decimal_not_fill, decimal_short, name, named, no_data}
use Rattle.trace_text.proofs.ItemTexts.{item_line, item_text-line, item_words-plain, words_from_line, words_of-item}

same_hex : (m n : ℕ) → m < 2 ^ 32 → n < 2 ^ 32 → hex_word m ≡ hex_word n → m ≡ n
same_hex m n fits small same =
    let bytes = encode_lower-injective (to_be_bytes w32 m) (to_be_bytes w32 n) (search rules) (search rules) same in
    sym (from_be_bytes-to_be_bytes_4 m fits) ∙ ap (λ (xs : List ℕ). from_be_bytes w32 xs) bytes ∙ from_be_bytes-to_be_bytes_4 n small

no_decimal : (n : ℕ) (text : List ℕ) → n < 2 ^ 32 → 57 < slice_index text 0 → decimal n ≢ text
no_decimal n text fits high e = omega (arith, decimal_low n fits, ap (λ w. slice_index w 0) e)

same_lines : (lines other : Option ℕ) → IfSome lines (λ n. n < 2 ^ 16) → IfSome other (λ n. n < 2 ^ 16) → lines_text lines ≡ lines_text other → lines ≡ other
same_lines (Some m) (Some n) fits small e = ap Some (decimal_injective m n (omega arith) (omega arith) e)
same_lines (Some m) None fits small e = absurd (no_decimal m (codes "off") (omega arith) (omega arith) e)
same_lines None (Some n) fits small e = absurd (no_decimal n (codes "off") (omega arith) (omega arith) (sym e))
same_lines None None fits small e = refl

-- no number is `-`
no_dash : (n : ℕ) → n < 2 ^ 32 → decimal n ≢ codes "-"
no_dash n fits e = omega (arith, decimal_high n fits, ap (λ w. slice_index w 0) e)

same_id : (id other : Option ℕ) → IfSome id (λ n. n < 2 ^ 32) → IfSome other (λ n. n < 2 ^ 32) → id_text id ≡ id_text other → id ≡ other
same_id (Some m) (Some n) fits small e = ap Some (decimal_injective m n (omega arith) (omega arith) e)
same_id (Some m) None fits small e = absurd (no_dash m fits e)
same_id None (Some n) fits small e = absurd (no_dash n small (sym e))
same_id None None fits small e = refl

same_kept : (kept other : Bool) → kept_words kept ≡ kept_words other → kept ≡ other
same_kept true true e = refl
same_kept true false e = cc
same_kept false true e = cc
same_kept false false e = refl

same_why : (why other : Why) → why_text why ≡ why_text other → why ≡ other
same_why BusFault BusFault e = refl
same_why BusFault FlashFault e = absurd (omega (arith, ap (λ w. slice_index w 0) e))
same_why FlashFault BusFault e = absurd (omega (arith, ap (λ w. slice_index w 0) e))
same_why FlashFault FlashFault e = refl

same_limit : (limit other : Limit) → limit_text limit ≡ limit_text other → limit ≡ other
same_limit Range Range e = refl
same_limit Range Align e = absurd (omega (arith, ap (λ w. slice_index w 0) e))
same_limit Align Range e = absurd (omega (arith, ap (λ w. slice_index w 0) e))
same_limit Align Align e = refl

same_letter : (letter other : Letter) → letter_text letter ≡ letter_text other → letter ≡ other
same_letter Host Host e = refl
same_letter Host Engine e = absurd (omega (arith, ap (λ w. slice_index w 0) e))
same_letter Host CardLetter e = absurd (omega (arith, ap (λ w. slice_index w 0) e))
same_letter Host CutLetter e = absurd (omega (arith, ap (λ w. slice_index w 0) e))
same_letter Engine Host e = absurd (omega (arith, ap (λ w. slice_index w 0) e))
same_letter Engine Engine e = refl
same_letter Engine CardLetter e = absurd (omega (arith, ap (λ w. slice_index w 0) e))
same_letter Engine CutLetter e = absurd (omega (arith, ap (λ w. slice_index w 0) e))
same_letter CardLetter Host e = absurd (omega (arith, ap (λ w. slice_index w 0) e))
same_letter CardLetter Engine e = absurd (omega (arith, ap (λ w. slice_index w 0) e))
same_letter CardLetter CardLetter e = refl
same_letter CardLetter CutLetter e = absurd (omega (arith, ap (λ w. slice_index w 0) e))
same_letter CutLetter Host e = absurd (omega (arith, ap (λ w. slice_index w 0) e))
same_letter CutLetter Engine e = absurd (omega (arith, ap (λ w. slice_index w 0) e))
same_letter CutLetter CardLetter e = absurd (omega (arith, ap (λ w. slice_index w 0) e))
same_letter CutLetter CutLetter e = refl

same_end : (end other : End) → end_text end ≡ end_text other → end ≡ other
same_end Good Good e = refl
same_end Good FaultEnd e = absurd (omega (arith, ap (λ w. slice_index w 0) e))
same_end Good Dead e = absurd (omega (arith, ap (λ w. slice_index w 0) e))
same_end Good Image e = absurd (omega (arith, ap (λ w. slice_index w 0) e))
same_end FaultEnd Good e = absurd (omega (arith, ap (λ w. slice_index w 0) e))
same_end FaultEnd FaultEnd e = refl
same_end FaultEnd Dead e = absurd (omega (arith, ap (λ w. slice_index w 0) e))
same_end FaultEnd Image e = absurd (omega (arith, ap (λ w. slice_index w 0) e))
same_end Dead Good e = absurd (omega (arith, ap (λ w. slice_index w 0) e))
same_end Dead FaultEnd e = absurd (omega (arith, ap (λ w. slice_index w 0) e))
same_end Dead Dead e = refl
same_end Dead Image e = absurd (omega (arith, ap (λ w. slice_index w 0) e))
same_end Image Good e = absurd (omega (arith, ap (λ w. slice_index w 0) e))
same_end Image FaultEnd e = absurd (omega (arith, ap (λ w. slice_index w 0) e))
same_end Image Dead e = absurd (omega (arith, ap (λ w. slice_index w 0) e))
same_end Image Image e = refl

-- the first two bytes of the first word
abbrev mark_of : List (List ℕ) → ℕ
mark_of [] = 0
mark_of (word ∷ words) = slice_index word 0 + 256 * slice_index word 1

same_kind : (kind other : BusKind) (id also : Option ℕ) → IsKind kind → IsKind other → IfSome id (λ n. n < 2 ^ 32) → IfSome also (λ n. n < 2 ^ 32)
    → kind_words kind id ≡ kind_words other also → (kind ≡ other) × (id ≡ also)
same_kind LostCommand LostCommand id also fits small few less e = (refl, same_id id also few less (cc))
same_kind LostCommand NoResp id also fits small few less e = absurd (omega (arith, ap mark_of e))
same_kind LostCommand (BadBlock block2) id also fits small few less e = absurd (omega (arith, ap mark_of e))
same_kind LostCommand Late id also fits small few less e = absurd (omega (arith, ap mark_of e))
same_kind NoResp LostCommand id also fits small few less e = absurd (omega (arith, ap mark_of e))
same_kind NoResp NoResp id also fits small few less e = (refl, same_id id also few less (cc))
same_kind NoResp (BadBlock block2) id also fits small few less e = absurd (omega (arith, ap mark_of e))
same_kind NoResp Late id also fits small few less e = absurd (omega (arith, ap mark_of e))
same_kind (BadBlock block) LostCommand id also fits small few less e = absurd (omega (arith, ap mark_of e))
same_kind (BadBlock block) NoResp id also fits small few less e = absurd (omega (arith, ap mark_of e))
same_kind (BadBlock block) (BadBlock block2) id also fits small few less e = (ap BadBlock (decimal_injective block block2 (omega arith) (omega arith) (cc)), same_id id also few less (cc))
same_kind (BadBlock block) Late id also fits small few less e = absurd (omega (arith, ap mark_of e))
same_kind Late LostCommand id also fits small few less e = absurd (omega (arith, ap mark_of e))
same_kind Late NoResp id also fits small few less e = absurd (omega (arith, ap mark_of e))
same_kind Late (BadBlock block2) id also fits small few less e = absurd (omega (arith, ap mark_of e))
same_kind Late Late id also fits small few less e = (refl, same_id id also few less (cc))

same_filled : (xs ys : List ℕ) (b : ℕ) → length xs ≡ length ys → list_all (λ x. x == b) xs ≡ true → list_all (λ x. x == b) ys ≡ true → xs ≡ ys
same_filled [] [] b long all each = refl
same_filled [] (y ∷ ys) b long all each = absurd (omega arith)
same_filled (x ∷ xs) [] b long all each = absurd (omega arith)
same_filled (x ∷ xs) (y ∷ ys) b long all each =
    let one = and_parts (x == b) (list_all (λ x. x == b) xs) all in
    let two = and_parts (y == b) (list_all (λ x. x == b) ys) each in
    let head = eqb-true x b one.0 in
    let also = eqb-true y b two.0 in
    let tail = same_filled xs ys b (omega arith) one.1 two.1 in
    cc

same_block : (value other : Block) → value.0 ≡ other.0 → value ≡ other
same_block value other e = ap (λ (xs : List ℕ). record { 0 = xs }) e

same_data : (value other : Block) → IsBlock value → IsBlock other → data_words value ≡ data_words other → value ≡ other
same_data value other block also e =
    elim (either (is_one_byte value.0)) [
      | inl one ↦ elim (either (is_one_byte other.0)) [
        | inl two ↦ (
            let shape = data_fill value one in
            let form = data_fill other two in
            let byte = hex_byte-injective (slice_index value.0 0) (slice_index other.0 0) (block.bytes 0) (also.bytes 0) (cc) in
            let all : list_all (λ x. x == slice_index other.0 0) value.0 ≡ true = rw (sym byte) one in
            same_block value other (same_filled value.0 other.0 (slice_index other.0 0) (block.long ∙ sym also.long) all two)
            )
        | inr many ↦ (let shape = data_fill value one in let form = data_digits other many in cc)
      ]
      | inr many ↦ elim (either (is_one_byte other.0)) [
        | inl two ↦ (let shape = data_digits value many in let form = data_fill other two in cc)
        | inr more ↦ (
            let shape = data_digits value many in
            let form = data_digits other more in
            same_block value other (encode_lower-injective value.0 other.0 block.bytes also.bytes (cc))
            )
      ]
    ]

abbrev is_sector : Item → Bool
is_sector (Sector value) = true
is_sector _ = false

sector_of : (value : Block) (other : Item) → IsBlock value → IsItem other → data_words value ≡ item_words other → is_sector other ≡ true
sector_of value (Card sectors depth lines) block sound is = absurd (no_data value (keyword_text CardWord) _ block (name CardWord).fill (name CardWord).digits (sym is))
sector_of value (Issue id tag) block sound is = absurd (no_data value (keyword_text IssueWord) _ block (name IssueWord).fill (name IssueWord).digits (sym is))
sector_of value (Params n id) block sound is = absurd (no_data value (keyword_text ParamsWord) _ block (name ParamsWord).fill (name ParamsWord).digits (sym is))
sector_of value (Address n id) block sound is = absurd (no_data value (keyword_text AddressWord) _ block (name AddressWord).fill (name AddressWord).digits (sym is))
sector_of value (Poll n mask) block sound is = absurd (no_data value (keyword_text PollWord) _ block (name PollWord).fill (name PollWord).digits (sym is))
sector_of value (Phase n id count kept) block sound is = absurd (no_data value (keyword_text PhaseWord) _ block (name PhaseWord).fill (name PhaseWord).digits (sym is))
sector_of value (Discard n) block sound is = absurd (no_data value (keyword_text DiscardWord) _ block (name DiscardWord).fill (name DiscardWord).digits (sym is))
sector_of value (Bus n kind id) block sound is = absurd (no_data value (keyword_text BusWord) _ block (name BusWord).fill (name BusWord).digits (sym is))
sector_of value (Flash id) block sound is = absurd (no_data value (keyword_text FlashWord) _ block (name FlashWord).fill (name FlashWord).digits (sym is))
sector_of value Recover block sound is = absurd (no_data value (keyword_text RecoverWord) _ block (name RecoverWord).fill (name RecoverWord).digits (sym is))
sector_of value (Irq mask) block sound is = absurd (no_data value (keyword_text IrqWord) _ block (name IrqWord).fill (name IrqWord).digits (sym is))
sector_of value (Done id) block sound is = absurd (no_data value (decimal id) _ block (decimal_not_fill id sound) (decimal_short id sound) (sym is))
sector_of value (Read id) block sound is = absurd (no_data value (decimal id) _ block (decimal_not_fill id sound) (decimal_short id sound) (sym is))
sector_of value (Sector also) block sound is = refl
sector_of value (Status id word) block sound is = absurd (no_data value (decimal id) _ block (decimal_not_fill id sound.0) (decimal_short id sound.0) (sym is))
sector_of value (Fault id why) block sound is = absurd (no_data value (decimal id) _ block (decimal_not_fill id sound) (decimal_short id sound) (sym is))
sector_of value (Refused id why) block sound is = absurd (no_data value (decimal id) _ block (decimal_not_fill id sound) (decimal_short id sound) (sym is))
sector_of value Cut block sound is = absurd (no_data value (keyword_text CutWord) _ block (name CutWord).fill (name CutWord).digits (sym is))
sector_of value (Lost id) block sound is = absurd (no_data value (decimal id) _ block (decimal_not_fill id sound) (decimal_short id sound) (sym is))
sector_of value On block sound is = absurd (no_data value (keyword_text OnWord) _ block (name OnWord).fill (name OnWord).digits (sym is))
sector_of value (Left sector bytes) block sound is = absurd (no_data value (keyword_text LeftWord) _ block (name LeftWord).fill (name LeftWord).digits (sym is))
sector_of value (Turn letter) block sound is = absurd (no_data value (keyword_text TurnWord) _ block (name TurnWord).fill (name TurnWord).digits (sym is))
sector_of value (Off end) block sound is = absurd (no_data value (keyword_text OffWord) _ block (name OffWord).fill (name OffWord).digits (sym is))

same_item_card : (sectors : ℕ) (depth : ℕ) (lines : Option ℕ) (other : Item) → IsItem (Card sectors depth lines) → IsItem other → item_words (Card sectors depth lines) ≡ item_words other → (Card sectors depth lines) ≡ other
same_item_card sectors depth lines (Card sectors2 depth2 lines2) valid sound is =
    let e0 = decimal_injective sectors sectors2 (omega (arith, valid.0)) (omega (arith, sound.0)) (cc) in
    let e1 = decimal_injective depth depth2 (omega (arith, valid.1)) (omega (arith, sound.1)) (cc) in
    let e2 = same_lines lines lines2 valid.2 sound.2 (cc) in
    cc
same_item_card sectors depth lines other valid sound is = (let found = named CardWord _ other sound is in cc)

same_item_issue : (id : ℕ) (tag : ℕ) (other : Item) → IsItem (Issue id tag) → IsItem other → item_words (Issue id tag) ≡ item_words other → (Issue id tag) ≡ other
same_item_issue id tag (Issue id2 tag2) valid sound is =
    let e0 = decimal_injective id id2 (omega (arith, valid.0)) (omega (arith, sound.0)) (cc) in
    let e1 = decimal_injective tag tag2 (omega (arith, valid.1)) (omega (arith, sound.1)) (cc) in
    cc
same_item_issue id tag other valid sound is = (let found = named IssueWord _ other sound is in cc)

same_item_params : (n : ℕ) (id : ℕ) (other : Item) → IsItem (Params n id) → IsItem other → item_words (Params n id) ≡ item_words other → (Params n id) ≡ other
same_item_params n id (Params n2 id2) valid sound is =
    let e0 = decimal_injective n n2 (omega (arith, valid.0)) (omega (arith, sound.0)) (cc) in
    let e1 = decimal_injective id id2 (omega (arith, valid.1)) (omega (arith, sound.1)) (cc) in
    cc
same_item_params n id other valid sound is = (let found = named ParamsWord _ other sound is in cc)

same_item_address : (n : ℕ) (id : ℕ) (other : Item) → IsItem (Address n id) → IsItem other → item_words (Address n id) ≡ item_words other → (Address n id) ≡ other
same_item_address n id (Address n2 id2) valid sound is =
    let e0 = decimal_injective n n2 (omega (arith, valid.0)) (omega (arith, sound.0)) (cc) in
    let e1 = decimal_injective id id2 (omega (arith, valid.1)) (omega (arith, sound.1)) (cc) in
    cc
same_item_address n id other valid sound is = (let found = named AddressWord _ other sound is in cc)

same_item_poll : (n : ℕ) (mask : ℕ) (other : Item) → IsItem (Poll n mask) → IsItem other → item_words (Poll n mask) ≡ item_words other → (Poll n mask) ≡ other
same_item_poll n mask (Poll n2 mask2) valid sound is =
    let e0 = decimal_injective n n2 (omega (arith, valid.0)) (omega (arith, sound.0)) (cc) in
    let e1 = same_hex mask mask2 valid.1 sound.1 (cc) in
    cc
same_item_poll n mask other valid sound is = (let found = named PollWord _ other sound is in cc)

same_item_phase : (n : ℕ) (id : ℕ) (count : ℕ) (kept : Bool) (other : Item) → IsItem (Phase n id count kept) → IsItem other → item_words (Phase n id count kept) ≡ item_words other → (Phase n id count kept) ≡ other
same_item_phase n id count kept (Phase n2 id2 count2 kept2) valid sound is =
    let e0 = decimal_injective n n2 (omega (arith, valid.0)) (omega (arith, sound.0)) (cc) in
    let e1 = decimal_injective id id2 (omega (arith, valid.1)) (omega (arith, sound.1)) (cc) in
    let e2 = decimal_injective count count2 (omega (arith, valid.2)) (omega (arith, sound.2)) (cc) in
    let e3 = same_kept kept kept2 (cc) in
    cc
same_item_phase n id count kept other valid sound is = (let found = named PhaseWord _ other sound is in cc)

same_item_discard : (n : ℕ) (other : Item) → IsItem (Discard n) → IsItem other → item_words (Discard n) ≡ item_words other → (Discard n) ≡ other
same_item_discard n (Discard n2) valid sound is =
    let e0 = decimal_injective n n2 (omega (arith, valid)) (omega (arith, sound)) (cc) in
    cc
same_item_discard n other valid sound is = (let found = named DiscardWord _ other sound is in cc)

same_item_bus : (n : ℕ) (kind : BusKind) (id : Option ℕ) (other : Item) → IsItem (Bus n kind id) → IsItem other → item_words (Bus n kind id) ≡ item_words other → (Bus n kind id) ≡ other
same_item_bus n kind id (Bus n2 kind2 id2) valid sound is =
    let first = decimal_injective n n2 (omega (arith, valid.0)) (omega (arith, sound.0)) (cc) in
    let rest = same_kind kind kind2 id id2 valid.1 sound.1 valid.2 sound.2 (cc) in
    let one = rest.0 in
    let two = rest.1 in
    cc
same_item_bus n kind id other valid sound is = (let found = named BusWord _ other sound is in cc)

same_item_flash : (id : Option ℕ) (other : Item) → IsItem (Flash id) → IsItem other → item_words (Flash id) ≡ item_words other → (Flash id) ≡ other
same_item_flash id (Flash id2) valid sound is =
    let e0 = same_id id id2 valid sound (cc) in
    cc
same_item_flash id other valid sound is = (let found = named FlashWord _ other sound is in cc)

same_item_recover : (other : Item) → IsItem other → item_words Recover ≡ item_words other → Recover ≡ other
same_item_recover Recover sound is = refl
same_item_recover other sound is = (let found = named RecoverWord _ other sound is in cc)

same_item_irq : (mask : ℕ) (other : Item) → IsItem (Irq mask) → IsItem other → item_words (Irq mask) ≡ item_words other → (Irq mask) ≡ other
same_item_irq mask (Irq mask2) valid sound is =
    let e0 = same_hex mask mask2 valid sound (cc) in
    cc
same_item_irq mask other valid sound is = (let found = named IrqWord _ other sound is in cc)

same_item_done : (id : ℕ) (other : Item) → IsItem (Done id) → IsItem other → item_words (Done id) ≡ item_words other → (Done id) ≡ other
same_item_done id (Done id2) valid sound is =
    let e0 = decimal_injective id id2 (omega (arith, valid)) (omega (arith, sound)) (cc) in
    cc
same_item_done id other valid sound is = (let found = answers id DoneOutcome _ other valid sound is in cc)

same_item_read : (id : ℕ) (other : Item) → IsItem (Read id) → IsItem other → item_words (Read id) ≡ item_words other → (Read id) ≡ other
same_item_read id (Read id2) valid sound is =
    let e0 = decimal_injective id id2 (omega (arith, valid)) (omega (arith, sound)) (cc) in
    cc
same_item_read id other valid sound is = (let found = answers id ReadOutcome _ other valid sound is in cc)

same_item_sector : (value : Block) (other : Item) → IsItem (Sector value) → IsItem other → item_words (Sector value) ≡ item_words other → (Sector value) ≡ other
same_item_sector value (Sector value2) valid sound is = ap Sector (same_data value value2 valid sound is)
same_item_sector value other valid sound is = (let found = sector_of value other valid sound is in cc)

same_item_status : (id : ℕ) (word : ℕ) (other : Item) → IsItem (Status id word) → IsItem other → item_words (Status id word) ≡ item_words other → (Status id word) ≡ other
same_item_status id word (Status id2 word2) valid sound is =
    let e0 = decimal_injective id id2 (omega (arith, valid.0)) (omega (arith, sound.0)) (cc) in
    let e1 = same_hex word word2 valid.1 sound.1 (cc) in
    cc
same_item_status id word other valid sound is = (let found = answers id StatusOutcome _ other valid.0 sound is in cc)

same_item_fault : (id : ℕ) (why : Why) (other : Item) → IsItem (Fault id why) → IsItem other → item_words (Fault id why) ≡ item_words other → (Fault id why) ≡ other
same_item_fault id why (Fault id2 why2) valid sound is =
    let e0 = decimal_injective id id2 (omega (arith, valid)) (omega (arith, sound)) (cc) in
    let e1 = same_why why why2 (cc) in
    cc
same_item_fault id why other valid sound is = (let found = answers id FaultOutcome _ other valid sound is in cc)

same_item_refused : (id : ℕ) (why : Limit) (other : Item) → IsItem (Refused id why) → IsItem other → item_words (Refused id why) ≡ item_words other → (Refused id why) ≡ other
same_item_refused id why (Refused id2 why2) valid sound is =
    let e0 = decimal_injective id id2 (omega (arith, valid)) (omega (arith, sound)) (cc) in
    let e1 = same_limit why why2 (cc) in
    cc
same_item_refused id why other valid sound is = (let found = answers id RefusedOutcome _ other valid sound is in cc)

same_item_cut : (other : Item) → IsItem other → item_words Cut ≡ item_words other → Cut ≡ other
same_item_cut Cut sound is = refl
same_item_cut other sound is = (let found = named CutWord _ other sound is in cc)

same_item_lost : (id : ℕ) (other : Item) → IsItem (Lost id) → IsItem other → item_words (Lost id) ≡ item_words other → (Lost id) ≡ other
same_item_lost id (Lost id2) valid sound is =
    let e0 = decimal_injective id id2 (omega (arith, valid)) (omega (arith, sound)) (cc) in
    cc
same_item_lost id other valid sound is = (let found = answers id LostOutcome _ other valid sound is in cc)

same_item_on : (other : Item) → IsItem other → item_words On ≡ item_words other → On ≡ other
same_item_on On sound is = refl
same_item_on other sound is = (let found = named OnWord _ other sound is in cc)

same_item_left : (sector : ℕ) (value : Block) (other : Item) → IsItem (Left sector value) → IsItem other → item_words (Left sector value) ≡ item_words other → (Left sector value) ≡ other
same_item_left sector value (Left sector2 value2) valid sound is =
    let e0 = decimal_injective sector sector2 (omega (arith, valid.0)) (omega (arith, sound.0)) (cc) in
    let e1 = same_data value value2 valid.1 sound.1 (cc) in
    cc
same_item_left sector value other valid sound is = (let found = named LeftWord _ other sound is in cc)

same_item_turn : (letter : Letter) (other : Item) → IsItem (Turn letter) → IsItem other → item_words (Turn letter) ≡ item_words other → (Turn letter) ≡ other
same_item_turn letter (Turn letter2) valid sound is =
    let e0 = same_letter letter letter2 (cc) in
    cc
same_item_turn letter other valid sound is = (let found = named TurnWord _ other sound is in cc)

same_item_off : (end : End) (other : Item) → IsItem (Off end) → IsItem other → item_words (Off end) ≡ item_words other → (Off end) ≡ other
same_item_off end (Off end2) valid sound is =
    let e0 = same_end end end2 (cc) in
    cc
same_item_off end other valid sound is = (let found = named OffWord _ other sound is in cc)

-- an item is determined by its words
pub same_item : (item other : Item) → IsItem item → IsItem other → item_words item ≡ item_words other → item ≡ other
same_item (Card sectors depth lines) other valid sound is = same_item_card sectors depth lines other valid sound is
same_item (Issue id tag) other valid sound is = same_item_issue id tag other valid sound is
same_item (Params n id) other valid sound is = same_item_params n id other valid sound is
same_item (Address n id) other valid sound is = same_item_address n id other valid sound is
same_item (Poll n mask) other valid sound is = same_item_poll n mask other valid sound is
same_item (Phase n id count kept) other valid sound is = same_item_phase n id count kept other valid sound is
same_item (Discard n) other valid sound is = same_item_discard n other valid sound is
same_item (Bus n kind id) other valid sound is = same_item_bus n kind id other valid sound is
same_item (Flash id) other valid sound is = same_item_flash id other valid sound is
same_item Recover other valid sound is = same_item_recover other sound is
same_item (Irq mask) other valid sound is = same_item_irq mask other valid sound is
same_item (Done id) other valid sound is = same_item_done id other valid sound is
same_item (Read id) other valid sound is = same_item_read id other valid sound is
same_item (Sector value) other valid sound is = same_item_sector value other valid sound is
same_item (Status id word) other valid sound is = same_item_status id word other valid sound is
same_item (Fault id why) other valid sound is = same_item_fault id why other valid sound is
same_item (Refused id why) other valid sound is = same_item_refused id why other valid sound is
same_item Cut other valid sound is = same_item_cut other sound is
same_item (Lost id) other valid sound is = same_item_lost id other valid sound is
same_item On other valid sound is = same_item_on other sound is
same_item (Left sector value) other valid sound is = same_item_left sector value other valid sound is
same_item (Turn letter) other valid sound is = same_item_turn letter other valid sound is
same_item (Off end) other valid sound is = same_item_off end other valid sound is

-- no text of an item begins another, and it has one meaning
pub one_item : (item other : Item) (x y : List ℕ) → IsItem item → IsItem other → item_text item ++ x ≡ item_text other ++ y → (item ≡ other) × (x ≡ y)
one_item item other x y valid sound same =
    let parts = item_line other (item_text item ++ x) y (spaced (item_words item)) x sound (item_text-line item x) (line_free (item_words item) (item_words-plain item valid)) same in
    (same_item item other valid sound (sym (words_of-item item valid) ∙ words_from_line (spaced (item_words item)) other sound parts.0), parts.1)

pub no_proper_front : (item other : Item) (more : List ℕ) → IsItem item → IsItem other → item_text item ++ more ≡ item_text other → (item ≡ other) × (more ≡ [])
no_proper_front item other more valid sound same = one_item item other more [] valid sound (same ∙ sym (append-nil (item_text other)))
