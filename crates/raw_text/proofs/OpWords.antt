-- The words of a line determine its operation, and it determines them.
use Rattle.std.proofs.Common.{◌≡◌, ◌≢◌, ℕ, ◌*◌, ◌^◌, ◌<◌, ◌≤◌, List, [], ◌∷◌, length, codes, decimal, Option, Some, None, Ok, refl, sym, ap, ◌∙◌, arith}
use Rattle.std.specs.Prelude.{if◌then◌else◌}
use Rattle.std.specs.Str.{bytes_eq}
use Rattle.std.proofs.lemmas.Fmt.{decimal_injective}
use Rattle.hex.specs.Hex.{decode_of, encode_lower, lower_digits}
use Rattle.hex.proofs.HexLemmas.{decode_of-encode_lower, decode_of-ok, decode_of-same, length-encode_with}
use Rattle.text_words.specs.Words.{hex_byte}
use Rattle.text_words.proofs.Bytes.{encode_lower-injective, hex_byte-injective}
use Rattle.raw_text.specs.declared.keyword.Keyword.{Keyword}
use Rattle.raw_text.specs.declared.keyword.Keyword.TheVariants.{Poke as PokeWord, Fill as FillWord, Peek as PeekWord, Write as WriteWord, Read as ReadWord, Go as GoWord, Show as ShowWord, Discard as DiscardWord}
use Rattle.raw_text.specs.declared.op.RawOp.{RawOp}
use Rattle.raw_text.specs.declared.op.RawOp.TheVariants.{Poke, Fill, Peek, Write, Read, Go, Show, Discard}
use Rattle.text_words.specs.HexNumber.{hex_number}
use Rattle.raw_text.specs.Names.{keyword_text}
use Rattle.raw_text.specs.Raw.{ArePoked, IsOp, op_words}
use Rattle.text_words.proofs.HexNumbers.{hex_number-injective}

-- the word that names an operation
abbrev pub name_of : RawOp → Keyword
name_of (Poke address bytes) = PokeWord
name_of (Fill address count value) = FillWord
name_of (Peek address count) = PeekWord
name_of (Write reg value) = WriteWord
name_of (Read reg) = ReadWord
name_of Go = GoWord
name_of (Show sector) = ShowWord
name_of Discard = DiscardWord

-- texts, read back
abbrev keyword_of : List ℕ → Option Keyword
keyword_of text =
    if bytes_eq text (codes "poke") then Some PokeWord else
    if bytes_eq text (codes "fill") then Some FillWord else
    if bytes_eq text (codes "peek") then Some PeekWord else
    if bytes_eq text (codes "w") then Some WriteWord else
    if bytes_eq text (codes "r") then Some ReadWord else
    if bytes_eq text (codes "go") then Some GoWord else
    if bytes_eq text (codes "show") then Some ShowWord else
    if bytes_eq text (codes "discard") then Some DiscardWord else
    None

keyword_of-text : (keyword : Keyword) → keyword_of (keyword_text keyword) ≡ Some keyword
keyword_of-text PokeWord = refl
keyword_of-text FillWord = refl
keyword_of-text PeekWord = refl
keyword_of-text WriteWord = refl
keyword_of-text ReadWord = refl
keyword_of-text GoWord = refl
keyword_of-text ShowWord = refl
keyword_of-text DiscardWord = refl

named_text : (keyword other : Keyword) → keyword_text keyword ≡ keyword_text other → other ≡ keyword
named_text keyword other e =
    let both : Some other ≡ Some keyword = sym (keyword_of-text other) ∙ sym (ap (λ (text : List ℕ). keyword_of text) e) ∙ keyword_of-text keyword in
    cc

-- a line that begins with a name is of the operations with that name
pub named : (keyword : Keyword) (words : List (List ℕ)) (op : RawOp) → keyword_text keyword ∷ words ≡ op_words op → name_of op ≡ keyword
named keyword words (Poke address bytes) is = named_text keyword PokeWord (cc)
named keyword words (Fill address count value) is = named_text keyword FillWord (cc)
named keyword words (Peek address count) is = named_text keyword PeekWord (cc)
named keyword words (Write reg value) is = named_text keyword WriteWord (cc)
named keyword words (Read reg) is = named_text keyword ReadWord (cc)
named keyword words Go is = named_text keyword GoWord (cc)
named keyword words (Show sector) is = named_text keyword ShowWord (cc)
named keyword words Discard is = named_text keyword DiscardWord (cc)

-- every operation's line begins with a name
pub no_name : (first : List ℕ) (words : List (List ℕ)) → ((keyword : Keyword) → first ≢ keyword_text keyword) → (op : RawOp) → first ∷ words ≡ op_words op → ⊥
no_name first words none (Poke address bytes) is = none PokeWord (cc)
no_name first words none (Fill address count value) is = none FillWord (cc)
no_name first words none (Peek address count) is = none PeekWord (cc)
no_name first words none (Write reg value) is = none WriteWord (cc)
no_name first words none (Read reg) is = none ReadWord (cc)
no_name first words none Go is = none GoWord (cc)
no_name first words none (Show sector) is = none ShowWord (cc)
no_name first words none Discard is = none DiscardWord (cc)

-- what can't be read after a name is of no operation
pub no_fill : (words : List (List ℕ)) → ((f : ℕ × ℕ × ℕ) → ¬ ((f.0 < 2 ^ 64) × (1 ≤ f.1) × (f.1 ≤ 1048576) × (f.2 < 2 ^ 8) × (words ≡ hex_number f.0 ∷ decimal f.1 ∷ hex_byte f.2 ∷ [])))
    → (op : RawOp) → ¬ (IsOp op × (codes "fill" ∷ words ≡ op_words op))
no_fill words none (Fill address count value) p = (let is = p.1 in none (address, count, value) (p.0.0, p.0.1, p.0.2, p.0.3, cc))
no_fill words none op p = (let other = named FillWord words op p.1 in cc)

pub no_peek : (words : List (List ℕ)) → ((f : ℕ × ℕ) → ¬ ((f.0 < 2 ^ 64) × (1 ≤ f.1) × (f.1 ≤ 512) × (words ≡ hex_number f.0 ∷ decimal f.1 ∷ [])))
    → (op : RawOp) → ¬ (IsOp op × (codes "peek" ∷ words ≡ op_words op))
no_peek words none (Peek address count) p = (let is = p.1 in none (address, count) (p.0.0, p.0.1, p.0.2, cc))
no_peek words none op p = (let other = named PeekWord words op p.1 in cc)

pub no_write : (words : List (List ℕ)) → ((f : ℕ × ℕ) → ¬ ((f.0 < 2 ^ 8) × (f.1 < 2 ^ 32) × (words ≡ hex_byte f.0 ∷ hex_number f.1 ∷ [])))
    → (op : RawOp) → ¬ (IsOp op × (codes "w" ∷ words ≡ op_words op))
no_write words none (Write reg value) p = (let is = p.1 in none (reg, value) (p.0.0, p.0.1, cc))
no_write words none op p = (let other = named WriteWord words op p.1 in cc)

pub no_read : (words : List (List ℕ)) → ((byte : ℕ) → ¬ ((byte < 2 ^ 8) × (words ≡ hex_byte byte ∷ [])))
    → (op : RawOp) → ¬ (IsOp op × (codes "r" ∷ words ≡ op_words op))
no_read words none (Read reg) p = (let is = p.1 in none reg (p.0, cc))
no_read words none op p = (let other = named ReadWord words op p.1 in cc)

pub no_poke : (words : List (List ℕ)) → ((address : ℕ) (word : List ℕ) → address < 2 ^ 64 → ¬ (words ≡ hex_number address ∷ word ∷ []))
    → (op : RawOp) → ¬ (IsOp op × (codes "poke" ∷ words ≡ op_words op))
no_poke words none (Poke address bytes) p = (let is = p.1 in none address (encode_lower bytes) p.0.0 (cc))
no_poke words none op p = (let other = named PokeWord words op p.1 in cc)

pub no_poked : (words : List (List ℕ)) (address : ℕ) (word : List ℕ) → words ≡ hex_number address ∷ word ∷ [] → ((bytes : List ℕ) → ¬ (ArePoked bytes × (word ≡ encode_lower bytes)))
    → (op : RawOp) → ¬ (IsOp op × (codes "poke" ∷ words ≡ op_words op))
no_poked words address word parts none (Poke place bytes) p = (let is = p.1 in none bytes (p.0.1, cc))
no_poked words address word parts none op p = (let other = named PokeWord words op p.1 in cc)

-- an operation is determined by its words
pub same_op : (op other : RawOp) → IsOp op → IsOp other → op_words op ≡ op_words other → op ≡ other
same_op (Poke address bytes) (Poke place values) valid sound is =
    let one = hex_number-injective address place valid.0 sound.0 (cc) in
    let two = encode_lower-injective bytes values valid.1.each sound.1.each (cc) in
    cc
same_op (Poke address bytes) other valid sound is = (let found = named PokeWord _ other is in cc)
same_op (Fill address count value) (Fill place times byte) valid sound is =
    let one = hex_number-injective address place valid.0 sound.0 (cc) in
    let two = decimal_injective count times (omega (arith, valid.2)) (omega (arith, sound.2)) (cc) in
    let three = hex_byte-injective value byte valid.3 sound.3 (cc) in
    cc
same_op (Fill address count value) other valid sound is = (let found = named FillWord _ other is in cc)
same_op (Peek address count) (Peek place times) valid sound is =
    let one = hex_number-injective address place valid.0 sound.0 (cc) in
    let two = decimal_injective count times (omega (arith, valid.2)) (omega (arith, sound.2)) (cc) in
    cc
same_op (Peek address count) other valid sound is = (let found = named PeekWord _ other is in cc)
same_op (Write reg value) (Write offset word) valid sound is =
    let one = hex_byte-injective reg offset valid.0 sound.0 (cc) in
    let two = hex_number-injective value word (omega (arith, valid.1)) (omega (arith, sound.1)) (cc) in
    cc
same_op (Write reg value) other valid sound is = (let found = named WriteWord _ other is in cc)
same_op (Read reg) (Read offset) valid sound is = ap Read (hex_byte-injective reg offset valid sound (cc))
same_op (Read reg) other valid sound is = (let found = named ReadWord _ other is in cc)
same_op Go Go valid sound is = refl
same_op Go other valid sound is = (let found = named GoWord _ other is in cc)
same_op (Show sector) (Show number) valid sound is = ap Show (decimal_injective sector number (omega (arith, valid)) (omega (arith, sound)) (cc))
same_op (Show sector) other valid sound is = (let found = named ShowWord _ other is in cc)
same_op Discard Discard valid sound is = refl
same_op Discard other valid sound is = (let found = named DiscardWord _ other is in cc)

-- how many digits a poke has
pub poked_digits : (word bytes : List ℕ) → ArePoked bytes → word ≡ encode_lower bytes → (2 ≤ length word) × (length word ≤ 1024)
poked_digits word bytes poked text =
    let long = length-encode_with lower_digits bytes in
    let same = ap length text in
    let least = poked.least in
    let most = poked.most in
    (omega arith, omega arith)

-- a poke's digits decode
pub poke_decodes : (word bytes : List ℕ) → ArePoked bytes → word ≡ encode_lower bytes → decode_of word ≡ Ok bytes
poke_decodes word bytes poked text = ap (λ (t : List ℕ). decode_of t) text ∙ decode_of-encode_lower bytes poked.each

-- decoded digits are those of no other bytes
pub same_decoded : (word bytes other : List ℕ) → decode_of word ≡ Ok bytes → ArePoked other → word ≡ encode_lower other → other ≡ bytes
same_decoded word bytes other decoded poked text = decode_of-same word other bytes (poke_decodes word other poked text) decoded

pub decoded_poke : (word bytes : List ℕ) → decode_of word ≡ Ok bytes → 0 < length word → length word ≤ 1024 → ArePoked bytes
decoded_poke word bytes decoded some few =
    let parts = decode_of-ok word bytes decoded in
    let long = parts.2 in
    record { each = parts.3; least = omega arith; most = omega arith }

pub decoded_room : (word bytes : List ℕ) → decode_of word ≡ Ok bytes → length word ≤ 1024 → 2 * length bytes ≤ 1024
decoded_room word bytes decoded few = (let long = (decode_of-ok word bytes decoded).2 in omega arith)
