-- What a script's calls do, from what the inner array's calls do.
use Rattle.std.proofs.Common.{◌≡◌, ℕ, Result, Ok, ap}
use Rattle.storage_model.specs.Granule.{IsMasked}
use Rattle.storage_model.specs.declared.block.Block.{Block}
use Rattle.storage_model.specs.declared.faults.ArrayHit.{ArrayHit}
use Rattle.array_edge.specs.Array.{ArrayState, Fetched, Programmed}
use Rattle.array_edge.specs.Script.{IsBroken, Script, after_hit, end_of_hit}
use Rattle.array_edge.specs.declared.array.ArrayEnd.{ArrayEnd}

pub broken : {A : Type 0} (state : A → ArrayState) (hit : ArrayHit) (old read written new : Script A) (page : ℕ) (block seen left : Block) (first second result : Result (Unit {0}) ArrayEnd)
    → Fetched (state old.inner) page seen (state read.inner) first → first ≡ Ok tt → read ≡ record old { inner = read.inner }
    → IsMasked hit.mask seen block left
    → Programmed (state read.inner) page left (state written.inner) second → second ≡ Ok tt → written ≡ record read { inner = written.inner; powered = (state written.inner).powered }
    → result ≡ end_of_hit hit (Ok tt) → new ≡ after_hit hit (Ok tt) written
    → IsBroken state hit old page block new result
broken state hit old read written new page block seen left first second result fetched first_ok read_is masked programmed second_ok written_is result_is new_is =
    let inner = ap (λ s. s.inner) new_is in
    record {
      seen = seen;
      left = left;
      between = state read.inner;
      answer = Ok tt;
      fetched = rw first_ok at fetched;
      masked = masked;
      programmed = rw (inner, ← second_ok) programmed;
      ended = result_is;
      after = cc;
    }
