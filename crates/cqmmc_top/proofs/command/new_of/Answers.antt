use Rattle.std.proofs.Common.{◌≡◌, arith, string_bytes, sym, ◌∙◌}
use Rattle.cqmmc_top.proofs.Forms.{no_other}
use Rattle.cqmmc_top.proofs.command.new_of.Goals as goal

pub returns-then-sectors-lt1-clause-none : goal.returns-then-sectors-lt1-clause-none
returns-then-sectors-lt1-clause-none c = λ n some most is.
    let same : n ≡ c.in_ok-sectors.sectors = no_other (string_bytes c.args.sectors.now) c.in_ok-sectors.sectors n c.in_ok-sectors.ensures.0 (sym c.as_bytes.ensures.value ∙ c.in_ok-sectors.ensures.1) most is in
    omega arith

pub returns-then-sectors-gt65536-clause-none : goal.returns-then-sectors-gt65536-clause-none
returns-then-sectors-gt65536-clause-none c = λ n some most is.
    let same : n ≡ c.in_ok-sectors.sectors = no_other (string_bytes c.args.sectors.now) c.in_ok-sectors.sectors n c.in_ok-sectors.ensures.0 (sym c.as_bytes.ensures.value ∙ c.in_ok-sectors.ensures.1) most is in
    omega arith
