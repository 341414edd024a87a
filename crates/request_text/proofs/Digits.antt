-- The digits of blocks determine them.
use Rattle.std.proofs.Common.{◌≡◌, ◌≢◌, ℕ, ◌+◌, ◌-◌, Bool, true, false, nat_eq, ◌<◌, ◌≤◌, List, [], ◌∷◌, ◌++◌, length, take, drop, refl, sym, ap, subst, ◌∙◌, arith, append_assoc}
use Rattle.std.specs.Prelude.{All, MatchBool}
use Rattle.std.proofs.lemmas.Bool.{eqb-true}
use Rattle.std.proofs.lemmas.List.{append-nil, length-append, length-take, take-append-drop}
use Rattle.std.proofs.lemmas.List.Elements.{All-nil, All-head, All-tail, All-push}
use Rattle.std.proofs.lemmas.Grind.{flat_map-append}
use Rattle.hex.specs.Hex.{encode_lower, lower_digits}
use Rattle.hex.proofs.HexLemmas.{length-encode_with}
use Rattle.storage_model.specs.declared.block.Block.{Block}
use Rattle.text_words.proofs.Bytes.{encode_lower-injective}
use Rattle.text_words.proofs.Lines.{IsWord}
use Rattle.text_words.proofs.Spellings.{digits_word}
use Rattle.std.proofs.lemmas.List.Elements.{All-append}
use Rattle.request_text.specs.Lines.{AreAdded, Spells}
use Rattle.request_text.specs.Requests.{IsBlock, digits_of}

-- fronts of one length are determined
pub same_fronts : (a b x y : List ℕ) → length a ≡ length b → a ++ x ≡ b ++ y → (a ≡ b) × (x ≡ y)
same_fronts [] [] x y long same = (refl, same)
same_fronts [] (d ∷ b) x y long same = absurd (omega arith)
same_fronts (c ∷ a) [] x y long same = absurd (omega arith)
same_fronts (c ∷ a) (d ∷ b) x y long same =
    let rest = same_fronts a b x y (omega arith) (cc) in
    let head : c ≡ d = cc in
    let tail = rest.0 in
    (cc, rest.1)

pub block_digits : (block : Block) → IsBlock block → length (encode_lower block.0) ≡ 1024
block_digits block valid = omega (arith, length-encode_with lower_digits block.0, valid.long)

same_block : (block other : Block) → block.0 ≡ other.0 → block ≡ other
same_block block other e = ap (λ (xs : List ℕ). record { 0 = xs }) e

-- a text begins with the digits of one block
pub one_block : (block other : Block) (x y : List ℕ) → IsBlock block → IsBlock other → encode_lower block.0 ++ x ≡ encode_lower other.0 ++ y → (block ≡ other) × (x ≡ y)
one_block block other x y valid sound same =
    let parts = same_fronts (encode_lower block.0) (encode_lower other.0) x y (block_digits block valid ∙ sym (block_digits other sound)) same in
    (same_block block other (encode_lower-injective block.0 other.0 valid.bytes sound.bytes parts.0), parts.1)

-- the first 1,024 bytes of a text that begins with the digits of a block
pub front_digits : (text after : List ℕ) (block : Block) → IsBlock block → 1024 ≤ length text → text ≡ encode_lower block.0 ++ after → take 1024 text ≡ encode_lower block.0
front_digits text after block valid long is =
    (same_fronts (take 1024 text) (encode_lower block.0) (drop 1024 text) after (omega (arith, length-take 1024 text, block_digits block valid)) (take-append-drop 1024 text ∙ is)).0

pub short_digits : (text after : List ℕ) (block : Block) → IsBlock block → length text < 1024 → text ≡ encode_lower block.0 ++ after → ⊥
short_digits text after block valid short is = omega (arith, block_digits block valid, ap length is, length-append (encode_lower block.0) after)

-- blocks and what follows their digits
pub record SoFar (digits : List ℕ) (count : ℕ) (old new : List Block) (rest : List ℕ) : Type 0 where
  pub blocks : List Block
  pub each : All IsBlock blocks
  pub long : length blocks ≡ count
  pub text : digits ≡ digits_of blocks ++ rest
  pub list : new ≡ old ++ blocks

record Remains (count : ℕ) (rest : List ℕ) : Type 0 where
  more : List Block
  each : All IsBlock more
  long : length more ≡ count
  text : rest ≡ digits_of more

remains : (xs ys : List Block) (count : ℕ) (rest : List ℕ) → All IsBlock xs → All IsBlock ys → length ys ≡ length xs + count → digits_of xs ++ rest ≡ digits_of ys → Remains count rest
remains [] ys count rest each all long same = record { more = ys; each = all; long = omega arith; text = same }
remains (x ∷ xs) [] count rest each all long same = absurd (omega arith)
remains (x ∷ xs) (y ∷ ys) count rest each all long same =
    let parts = one_block x y (digits_of xs ++ rest) (digits_of ys) (All-head IsBlock x xs each) (All-head IsBlock y ys all) (sym (append_assoc (encode_lower x.0) (digits_of xs) rest) ∙ same) in
    remains xs ys count rest (All-tail IsBlock x xs each) (All-tail IsBlock y ys all) (omega arith) parts.1

pub same_blocks : (xs ys : List Block) → All IsBlock xs → All IsBlock ys → length xs ≡ length ys → digits_of xs ≡ digits_of ys → xs ≡ ys
same_blocks [] [] each all long same = refl
same_blocks [] (y ∷ ys) each all long same = absurd (omega arith)
same_blocks (x ∷ xs) [] each all long same = absurd (omega arith)
same_blocks (x ∷ xs) (y ∷ ys) each all long same =
    let parts = one_block x y (digits_of xs) (digits_of ys) (All-head IsBlock x xs each) (All-head IsBlock y ys all) same in
    let head = parts.0 in
    let tail = same_blocks xs ys (All-tail IsBlock x xs each) (All-tail IsBlock y ys all) (omega arith) parts.1 in
    cc

pub push_block : (digits : List ℕ) (count : ℕ) (old new then : List Block) (rest after : List ℕ) (block : Block) → SoFar digits count old new rest → IsBlock block → rest ≡ encode_lower block.0 ++ after → then ≡ new ++ block ∷ [] → SoFar digits (count + 1) old then after
push_block digits count old new then rest after block read valid is list = record {
  blocks = read.blocks ++ block ∷ [];
  each = All-push IsBlock read.blocks block read.each valid;
  long = omega (arith, length-append read.blocks (block ∷ []), read.long);
  text = read.text ∙ ap (λ t. digits_of read.blocks ++ t) is ∙ sym (append_assoc (digits_of read.blocks) (encode_lower block.0) after)
      ∙ ap (λ t. t ++ after) (ap (λ t. digits_of read.blocks ++ t) (sym (append-nil (encode_lower block.0))) ∙ sym (flat_map-append (λ b. encode_lower b.0) read.blocks (block ∷ [])));
  list = list ∙ ap (λ l. l ++ block ∷ []) read.list ∙ append_assoc old read.blocks (block ∷ []);
}

-- where no block follows, there are no more
pub no_more : (digits : List ℕ) (count all : ℕ) (old new : List Block) (rest : List ℕ) → SoFar digits count old new rest → count < all
    → ((block : Block) (after : List ℕ) → IsBlock block → ¬ (rest ≡ encode_lower block.0 ++ after)) → (list : List Block) → ¬ Spells digits all list
no_more digits count all old new rest read less none list spells =
    let left = remains read.blocks list (all - count) rest read.each spells.each (omega (arith, read.long, spells.long)) (sym read.text ∙ spells.text) in
    first_none left.more (omega (arith, left.long)) left.each left.text
  where
    first_none : (more : List Block) → 0 < length more → All IsBlock more → rest ≡ digits_of more → ⊥
    first_none [] some each is = omega arith
    first_none (block ∷ more) some each is = none block (digits_of more) (All-head IsBlock block more each) is

empty_rest : (rest : List ℕ) (more : List Block) → rest ≡ digits_of more → length more ≡ 0 → rest ≡ []
empty_rest rest [] is none = is
empty_rest rest (block ∷ more) is none = absurd (omega arith)

-- nothing may be left
pub none_left : (digits : List ℕ) (count : ℕ) (old new : List Block) (rest : List ℕ) → SoFar digits count old new rest → rest ≢ [] → (list : List Block) → ¬ Spells digits count list
none_left digits count old new rest read more list spells =
    let left = remains read.blocks list 0 rest read.each spells.each (omega (arith, read.long, spells.long)) (sym read.text ∙ spells.text) in
    more (empty_rest rest left.more left.text left.long)

pub all_taken : (digits : List ℕ) (count : ℕ) (old new : List Block) (rest : List ℕ) → SoFar digits count old new rest → rest ≡ [] → AreAdded digits count old new
all_taken digits count old new rest read none = record {
  blocks = read.blocks;
  spelled = record { each = read.each; long = read.long; text = read.text ∙ ap (λ t. digits_of read.blocks ++ t) none ∙ append-nil (digits_of read.blocks) };
  list = read.list;
}

nothing : (rest : List ℕ) → length rest ≡ 0 → rest ≡ []
nothing [] none = refl
nothing (b ∷ rest) none = absurd (omega arith)

-- whether all was taken
pub taken_if : (digits : List ℕ) (count all : ℕ) (old new : List Block) (rest : List ℕ) (empty : Bool) → SoFar digits count old new rest → count ≡ all → empty ≡ nat_eq (length rest) 0
    → MatchBool empty (AreAdded digits all old new) ((list : List Block) → ¬ Spells digits all list)
taken_if digits count all old new rest true read same is =
    all_taken digits all old new rest (subst (λ (n : ℕ). SoFar digits n old new rest) same read) (nothing rest (eqb-true (length rest) 0 (sym is)))
taken_if digits count all old new rest false read same is =
    none_left digits all old new rest (subst (λ (n : ℕ). SoFar digits n old new rest) same read) (λ e. let here = rw e at is in cc)

-- the digits of blocks are a word
pub digits_of-word : (blocks : List Block) → All IsBlock blocks → IsWord (digits_of blocks)
digits_of-word [] each = All-nil (λ b. 32 < b)
digits_of-word (block ∷ blocks) each =
    All-append (λ b. 32 < b) (encode_lower block.0) (digits_of blocks) (digits_word block.0 ((All-head IsBlock block blocks each).bytes)) (digits_of-word blocks (All-tail IsBlock block blocks each))
