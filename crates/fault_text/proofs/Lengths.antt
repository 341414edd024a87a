-- A line's text is short but for its letters.
use Rattle.std.proofs.Common.{ℕ, ◌+◌, ◌*◌, ◌^◌, ◌<◌, ◌≤◌, Bool, true, false, List, [], ◌∷◌, length, decimal, arith}
use Rattle.std.specs.Prelude.{All, flat_map}
use Rattle.std.proofs.lemmas.Fmt.{length-decimal-le}
use Rattle.std.proofs.lemmas.List.{length-append, length-map}
use Rattle.std.proofs.lemmas.List.Elements.{All-head, All-tail}
use Rattle.storage_model.specs.declared.faults.BusKind.TheVariants.{Lost, NoResp, Bad, Late}
use Rattle.fault_text.specs.declared.line.FaultLine.{FaultLine}
use Rattle.fault_text.specs.declared.line.FaultLine.TheVariants.{Ready, Bus, Program, Fetch, Cut, Turn}
use Rattle.fault_text.specs.Faults.{letters_of, texts}
use Rattle.fault_text.specs.Lines.{IsLine, fault_word, letter_byte, line_text}
use Rattle.text_words.proofs.HexNumbers.{number_of_8}

decimal_short : (n : ℕ) → n < 2 ^ 32 → length (decimal n) ≤ 10
decimal_short n fits = length-decimal-le 10 n (omega arith) (omega arith) (omega arith)

fault_short : (cut : Bool) → length (fault_word cut) ≤ 4
fault_short true = omega arith
fault_short false = omega arith

pub line_text-short : (fault : FaultLine) → IsLine fault → length (line_text fault) ≤ 40 + length (letters_of fault)
unfolding line_text
line_text-short (Ready mask) valid = simp length-append (omega (arith, number_of_8 mask valid))
line_text-short (Bus n Lost) valid = simp length-append (omega (arith, decimal_short n (omega (arith, valid.1))))
line_text-short (Bus n NoResp) valid = simp length-append (omega (arith, decimal_short n (omega (arith, valid.1))))
line_text-short (Bus n (Bad block)) valid = simp length-append (omega (arith, decimal_short n (omega (arith, valid.1)), decimal_short block (omega (arith, valid.2.1))))
line_text-short (Bus n Late) valid = simp length-append (omega (arith, decimal_short n (omega (arith, valid.1))))
line_text-short (Program n cut mask) valid = simp length-append (omega (arith, number_of_8 mask (omega (arith, valid.2)), decimal_short n valid.1, fault_short cut))
line_text-short (Fetch n) valid = simp length-append (omega (arith, decimal_short n valid.1))
line_text-short (Cut n) valid = simp length-append (omega (arith, decimal_short n valid))
line_text-short (Turn letters) valid = simp length-append (omega (arith, length-map letters letter_byte))

pub texts-short : (lines : List FaultLine) → All IsLine lines → length (texts lines) ≤ 40 * length lines + length (flat_map letters_of lines)
texts-short [] each = omega arith
texts-short (line ∷ lines) each =
    omega (arith, line_text-short line (All-head IsLine line lines each), texts-short lines (All-tail IsLine line lines each), length-append (line_text line) (texts lines), length-append (letters_of line) (flat_map letters_of lines))
