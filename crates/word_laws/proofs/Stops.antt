-- An event that did not stop the engine by a response, and one that did by an error.
use Rattle.std.proofs.Common.{◌≡◌, ℕ, true, sym, ◌∙◌, ap}
use Rattle.std.specs.Prelude.{Option, is_some}
use Rattle.bus_link.specs.declared.link.Cause.TheVariants.{Bus as BusFault, Dark as NoPower, Response}
use Rattle.cmd_words.specs.declared.command.Command.{Command}
use Rattle.cq_engine.specs.declared.did.Did.{Did}
use Rattle.cq_engine.specs.declared.did.Did.TheVariants.{Direct, Finished, Idle, Moved, Sent, Stopped}
use Rattle.drv_core.specs.Judge.{error_of}
use Rattle.storage_model.specs.declared.faults.BusKind.{BusKind}
use Rattle.word_laws.specs.Words.{StopsByError}

abbrev word_in : Did → ℕ
word_in (Stopped (Response word tag)) = word
word_in did = 0

pub by_error : (did : Did) (error slot : ℕ) → did ≡ Stopped (Response error slot) → is_some (error_of error) ≡ true → StopsByError did
by_error did error slot is known word tag e = ap (λ d. is_some (error_of (word_in d))) (sym e ∙ is) ∙ known

pub by_bus : (did : Did) (kind : BusKind) (who : Option ℕ) → did ≡ Stopped (BusFault kind who) → StopsByError did
by_bus did kind who is word tag e = absurd (cc (sym is ∙ e))

pub by_dark : (did : Did) → did ≡ Stopped NoPower → StopsByError did
by_dark did is word tag e = absurd (cc (sym is ∙ e))

pub idle_on : (did : Did) → did ≡ Idle → StopsByError did
idle_on did is word tag e = absurd (cc (sym is ∙ e))

pub sent_on : (did : Did) (command : Command) → did ≡ Sent command → StopsByError did
sent_on did command is word tag e = absurd (cc (sym is ∙ e))

pub moved_on : (did : Did) (slot : ℕ) → did ≡ Moved slot → StopsByError did
moved_on did slot is word tag e = absurd (cc (sym is ∙ e))

pub finished_on : (did : Did) (slot : ℕ) → did ≡ Finished slot → StopsByError did
finished_on did slot is word tag e = absurd (cc (sym is ∙ e))

pub served_on : (did : Did) (slot : ℕ) → did ≡ Direct slot → StopsByError did
served_on did slot is word tag e = absurd (cc (sym is ∙ e))
