-- What is printed at once.
use Rattle.std.specs.Prelude.{List, [], ◌∷◌, Option, Some, None}
use Rattle.raw_face.specs.Output.{Output}
use Rattle.raw_face.specs.declared.reply.Reply.{Reply}
use Rattle.raw_lines.specs.declared.raw_line.RawLine.{RawLine}

-- a line, if there is one
abbrev pub lines_in : Option RawLine → List RawLine
lines_in None = []
lines_in (Some line) = line ∷ []

abbrev pub output_of : Reply → Output
output_of reply = record { lines = lines_in reply.line; end = reply.end }
