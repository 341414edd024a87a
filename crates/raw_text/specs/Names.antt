-- The words that tell lines apart.
use Rattle.std.specs.Prelude.{ℕ, List, codes}
use Rattle.raw_text.specs.declared.keyword.Keyword.{Keyword}
use Rattle.raw_text.specs.declared.keyword.Keyword.TheVariants.{Poke, Fill, Peek, Write, Read, Go, Show, Discard}

-- the first word of a line
abbrev pub keyword_text : Keyword → List ℕ
keyword_text Poke = codes "poke"
keyword_text Fill = codes "fill"
keyword_text Peek = codes "peek"
keyword_text Write = codes "w"
keyword_text Read = codes "r"
keyword_text Go = codes "go"
keyword_text Show = codes "show"
keyword_text Discard = codes "discard"
