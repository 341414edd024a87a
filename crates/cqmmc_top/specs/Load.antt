-- What a load answers: the counts of a trace that the machine accepts for the plan of the number.
use Rattle.std.specs.Prelude.{◌≡◌, ◌⊎◌, ◌≤◌, ℕ, ◌+◌, true, List, OnOk, Option, Some, None, Result, Ok, Err, count_by}
use Rattle.storage_model.specs.Count.{Count, Later, Rose}
use Rattle.storage_model.specs.declared.block.Block.{Block}
use Rattle.storage_model.specs.declared.ends.Halt.{Halt}
use Rattle.storage_model.specs.declared.ends.Halt.TheVariants.{SinkFailed, OpenFault, PowerGone, BadImage as BadPages}
use Rattle.storage_model.specs.declared.trace.Item.{Item}
use Rattle.trace_print.specs.Prints.{halt_faults, is_cut_line, is_flash}
use Rattle.array_edge.specs.Array.{ArrayState}
use Rattle.intent_store.specs.Intent.{ShowsImage, shown_by}
use Rattle.io_edge.specs.Sink.{TookPart}
use Rattle.load_count.specs.Counts.{counts}
use Rattle.load_count.specs.Told.{counts_text}
use Rattle.load_count.specs.declared.counts.Counts.{Counts}
use Rattle.load_generator.specs.Load.{load_plan}
use Rattle.load_run.specs.Loads.{none}
use Rattle.whole_run.specs.Whole.{halt_in}
use Rattle.whole_run.specs.declared.run.Stop.{Stop}
use Rattle.whole_run.specs.declared.run.Stop.TheVariants.{Before}
use Rattle.world_steps.specs.World.{WorldState}
use Rattle.cqmmc_top.specs.Opened.{HasSectors, OpeningRefused}
use Rattle.cqmmc_top.specs.Print.{run_status}
use Rattle.cqmmc_top.specs.Refusal.{Says}
use Rattle.cqmmc_top.specs.Answers.{IsStill}
use Rattle.cqmmc_top.specs.Run.{EndedSo}
use Rattle.cqmmc_top.specs.declared.refusal.Refusal.{Refusal}
use Rattle.cqmmc_top.specs.declared.refusal.Refusal.TheVariants.{BadImage, ArrayFault, NoPower, NoMemory}

-- a load is refused by an opening, or by want of memory behind one
abbrev pub LoadRefused : ArrayState → ArrayState → Refusal → Type 0
LoadRefused old new NoMemory = ShowsImage old
LoadRefused old new BadImage = OpeningRefused old new BadImage
LoadRefused old new ArrayFault = OpeningRefused old new ArrayFault
LoadRefused old new NoPower = OpeningRefused old new NoPower
LoadRefused old new _ = ⊥

module _ {K : Type 0} (took : K → List ℕ → K → Type 0) (faults_of : K → Count) where
  -- the lines of the counts were written and the status of the run answered, or the sink failed within them
  pub record Tells (kept : Counts) (result : Result (Unit {0}) Halt) (out : K) (status : ℕ) (out' : K) : Type 0 where
    pub later : Later (faults_of out) (faults_of out')
    pub told : ((status ≡ run_status result) × took out (counts_text kept) out') ⊎ ((status ≡ 5) × TookPart took out (counts_text kept) out' × Rose (faults_of out) (faults_of out'))

  -- a run whose image wasn't opened is refused, and of each other one the counts are told
  abbrev pub ConcludesLoad : Result (Unit {0}) Stop → Counts → K → ℕ → K → Type 0
  ConcludesLoad (Err (Before BadPages)) kept out status out' = Says took faults_of BadImage out status out'
  ConcludesLoad (Err (Before OpenFault)) kept out status out' = Says took faults_of ArrayFault out status out'
  ConcludesLoad (Err (Before PowerGone)) kept out status out' = Says took faults_of NoPower out status out'
  ConcludesLoad ended kept out status out' = Tells kept (halt_in ended) out status out'

  -- it was refused by a cause, and the image shows what it showed
  pub record IsRefusedLoad (old new : ArrayState) (out : K) (status : ℕ) (world : Option WorldState) (out' : K) : Type 0 where
    pub refusal : Refusal
    pub cause : LoadRefused old new refusal
    pub says : Says took faults_of refusal out status out'
    pub shown : shown_by new ≡ shown_by old
    pub kept : ShowsImage old → ShowsImage new
    pub none : world ≡ None

  -- A run of the plan of the number, for the sectors of the image, without a fault text. Its lines are a trace that the machine accepts; the array shows what
  -- the clause of `run` says for it, and what is written are the counts of these lines. With status 0 alone the run is handed back, with all of it settled; where no count of the array rose it ended well.
  pub record IsLoaded (n : ℕ) (old new : ArrayState) (out : K) (status : ℕ) (world : Option WorldState) (out' : K) : Type 0 where
    pub sectors : ℕ
    pub image : ShowsImage old
    pub has_sectors : HasSectors old sectors
    pub result : Result (Unit {0}) Halt
    pub whole : result ≡ Err SinkFailed → ⊥
    pub lines : List Item
    pub run : WorldState
    pub ended : (base : List Block) → shown_by old ≡ Some base → EndedSo base (load_plan n sectors) none lines result (Some run) new
    pub settled : OnOk result (new.settled ≡ true)
    pub kept : ShowsImage new
    pub flash : (old.faults.value + (count_by is_flash lines + halt_faults result) ≤ new.faults.value) ⊎ (new.faults.stands ≡ true)
    pub cuts : (old.cuts.value + count_by is_cut_line lines ≤ new.cuts.value) ⊎ (new.cuts.stands ≡ true)
    pub completes : IsStill old.faults new.faults → IsStill old.cuts new.cuts → result ≡ Ok tt
    pub tells : Tells (counts lines) result out status out'
    pub handed : status ≡ 0 → world ≡ Some run
    pub withheld : (status ≡ 0 → ⊥) → world ≡ None

  abbrev pub LoadAnswers : ℕ → ArrayState → ArrayState → K → ℕ → Option WorldState → K → Type 0
  LoadAnswers n old new out status world out' = IsRefusedLoad old new out status world out' ⊎ IsLoaded n old new out status world out'
