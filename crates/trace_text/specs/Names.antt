-- The words that tell lines apart.
use Rattle.std.specs.Prelude.{ℕ, List, codes}
use Rattle.trace_text.specs.declared.keyword.Keyword.{Keyword}
use Rattle.trace_text.specs.declared.keyword.Keyword.TheVariants.{Card, Issue, Params, Address, Poll, Phase, Discard, Bus, Flash, Recover, Irq, Cut, On, Left, Turn, Off}
use Rattle.trace_text.specs.declared.keyword.Outcome.{Outcome}
use Rattle.trace_text.specs.declared.keyword.Outcome.TheVariants.{Done, Read, Status, Fault, Refused, Lost}

-- the first word of a line
abbrev pub keyword_text : Keyword → List ℕ
keyword_text Card = codes "card"
keyword_text Issue = codes "issue"
keyword_text Params = codes "params"
keyword_text Address = codes "address"
keyword_text Poll = codes "poll"
keyword_text Phase = codes "phase"
keyword_text Discard = codes "discard"
keyword_text Bus = codes "bus"
keyword_text Flash = codes "flash"
keyword_text Recover = codes "recover"
keyword_text Irq = codes "irq"
keyword_text Cut = codes "cut"
keyword_text On = codes "on"
keyword_text Left = codes "left"
keyword_text Turn = codes "turn"
keyword_text Off = codes "off"

-- the second word of an answer
abbrev pub outcome_text : Outcome → List ℕ
outcome_text Done = codes "ok"
outcome_text Read = codes "data"
outcome_text Status = codes "status"
outcome_text Fault = codes "fault"
outcome_text Refused = codes "refused"
outcome_text Lost = codes "lost"
