-- The eight lines of a load.
use Rattle.std.specs.Prelude.{ℕ, List, [], ◌∷◌, ◌++◌, Option, None, Some, codes, decimal}
use Rattle.storage_model.specs.declared.trace.End.{End}
use Rattle.storage_model.specs.declared.trace.Item.TheVariants.{Off}
use Rattle.text_words.specs.Words.{line}
use Rattle.trace_text.specs.Trace.{item_words}
use Rattle.load_count.specs.declared.counts.Counts.{Counts}

-- a name and a number
abbrev pub count_text : List ℕ → ℕ → List ℕ
count_text name number = line (name ∷ decimal number ∷ [])

-- the line of the end, as in the trace
abbrev pub end_text : Option End → List ℕ
end_text None = []
end_text (Some end) = line (item_words (Off end))

abbrev pub counts_text : Counts → List ℕ
counts_text counts =
    count_text (codes "requests") 4096
    ++ count_text (codes "ok") counts.ok
    ++ count_text (codes "data") counts.reads
    ++ count_text (codes "fault") counts.fault
    ++ count_text (codes "lost") counts.lost
    ++ count_text (codes "phases") counts.phases
    ++ count_text (codes "kept") counts.kept
    ++ end_text counts.end
