-- What a load answers, by what its run came to.
use Rattle.std.proofs.Common.{◌≡◌, ◌≤◌, ◌⊎◌, ◌+◌, inl, inr, ℕ, suc, true, List, [], None, Some, Option, IfSome, OnOk, Result, Ok, Err, refl, subst, sym, ◌∙◌, arith}
use Rattle.std.specs.Option.{option_map}
use Rattle.std.specs.Prelude.{count_by}
use Rattle.storage_machine.specs.declared.state.State.{State}
use Rattle.storage_model.specs.Count.{Count, Later, Rose}
use Rattle.storage_model.specs.declared.block.Block.{Block}
use Rattle.storage_model.specs.declared.ends.Halt.{Halt}
use Rattle.storage_model.specs.declared.ends.Halt.TheVariants.{SinkFailed, OpenFault, PowerGone, BadImage as BadPages}
use Rattle.storage_model.specs.declared.faults.Faults.{Faults}
use Rattle.storage_model.specs.declared.plan.Plan.{Plan}
use Rattle.storage_model.specs.Plan.{IsValidPlan}
use Rattle.storage_model.specs.declared.trace.End.{End}
use Rattle.storage_model.specs.declared.trace.End.TheVariants.{Fault, Dead, Image}
use Rattle.storage_model.specs.declared.trace.Item.{Item}
use Rattle.array_edge.specs.Array.{ArrayState}
use Rattle.image_form.specs.Image.{IsImage, shown}
use Rattle.intent_store.specs.Intent.{IsNoImage, ShowsImage, shown_by}
use Rattle.load_count.specs.Counts.{counts}
use Rattle.load_count.specs.Lines.{Took, fresh}
use Rattle.load_count.specs.declared.counts.Counts.{Counts}
use Rattle.load_count.specs.declared.sink.CountingSink.{CountingSink}
use Rattle.load_generator.specs.Load.{load_plan}
use Rattle.load_run.specs.Loads.{Loads, none}
use Rattle.load_run.specs.declared.run.Loaded.{Loaded}
use Rattle.step_laws.specs.Steps.{NeedsCut}
use Rattle.io_edge.specs.Sink.{TookPart}
use Rattle.power_step.specs.Loses.{EndsBy}
use Rattle.run_laws.specs.Whole.{Front, IsAccepted, IsWholeFrontTaken, IsWholeTaken, Whole}
use Rattle.storage_order.specs.Accept.{accept}
use Rattle.trace_print.specs.Prints.{RoseBy, halt_faults, is_cut_line, is_flash}
use Rattle.whole_run.specs.Cuts.{RoseWith}
use Rattle.whole_run.specs.Whole.{Runs, halt_in}
use Rattle.whole_run.specs.declared.run.Stop.{Stop}
use Rattle.whole_run.specs.declared.run.Stop.TheVariants.{Before, Behind}
use Rattle.world_steps.specs.World.{WorldState}
use Rattle.world_state.specs.Stands.{IsNear}
use Rattle.cqmmc_top.specs.Load.{ConcludesLoad, LoadAnswers, LoadRefused, Tells}
use Rattle.cqmmc_top.specs.Opened.{HasSectors}
use Rattle.cqmmc_top.specs.Refusal.{Says, refusal_text, status_of}
use Rattle.cqmmc_top.specs.Run.{EndedEarly, EndedSo}
use Rattle.cqmmc_top.specs.Answers.{IsStill}
use Rattle.cqmmc_top.specs.declared.refusal.Refusal.{Refusal}
use Rattle.cqmmc_top.specs.declared.refusal.Refusal.TheVariants.{BadImage, ArrayFault, NoPower}
use Rattle.cqmmc_top.proofs.Served.{ended_early, ended_well}

-- pages that show what an image showed are no other
no_image : (old mid : ArrayState) → shown_by mid ≡ shown_by old → ShowsImage mid → IsNoImage mid → IsNoImage old
no_image old mid same image none = untold old.told mid.told same image none
  where
    untold : (a b : Option (List Block)) → option_map shown b ≡ option_map shown a → IfSome b IsImage → IfSome b (λ pages. IsImage pages → ⊥) → IfSome a (λ pages. IsImage pages → ⊥)
    untold None b same image none = tt
    untold (Some pages) None same image none = absurd (cc same)
    untold (Some pages) (Some others) same image none = absurd (none image)

rose_since : (a b c : Count) → Later a b → Rose b c → Rose a c
rose_since a b c later (inl up) = let low = later.value in inl (omega (arith, up, low))
rose_since a b c later (inr end) = inr end

explained : (n : ℕ) (a b c : Count) → Later a b → RoseBy n b c → (a.value + n ≤ c.value) ⊎ (c.stands ≡ true)
explained n a b c later (inl up) = let low = later.value in inl (omega (arith, up, low))
explained n a b c later (inr end) = inr end

cut_since : (n : ℕ) (a b c : Count) → Later a b → RoseWith n 0 0 b c → (a.value + n ≤ c.value) ⊎ (c.stands ≡ true)
cut_since n a b c later (inl up) = let low = later.value in inl (omega (arith, up, low))
cut_since n a b c later (inr end) = inr end

gone_since : (a b c : Count) → Later a b → RoseBy 8 b c → (a.value + 8 ≤ c.value) ⊎ (c.stands ≡ true)
gone_since a b c later (inl up) = let low = later.value in inl (omega (arith, up, low))
gone_since a b c later (inr end) = inr end

abbrev IsSaid : {K : Type 0} → (K → List ℕ → K → Type 0) → (K → Count) → Refusal → ℕ → K → K → Type 0
IsSaid took faults_of refusal status out out' = ((status ≡ status_of refusal) × took out (refusal_text refusal) out') ⊎ ((status ≡ 5) × TookPart took out (refusal_text refusal) out' × Rose (faults_of out) (faults_of out'))

module _ {K : Type 0} (took : K → List ℕ → K → Type 0) (faults_of : K → Count)
    (accepted : (base : List Block) (plan : Plan) (faults : Faults) (lines : List Item) (t : State) → IsWholeTaken base plan faults lines t)
    (front : (base : List Block) (plan : Plan) (faults : Faults) (lines : List Item) → IsWholeFrontTaken base plan faults lines)
    (n sectors : ℕ) (old mid new : ArrayState) (image : ShowsImage old) (has : HasSectors old sectors) (same : shown_by mid ≡ shown_by old) (still : ShowsImage mid)
    (faults : Later old.faults mid.faults) (cuts : Later old.cuts mid.cuts)
    (out : K) (status : ℕ) (world : Option WorldState) (out' : K) (withheld : (status ≡ 0 → ⊥) → world ≡ None) where
  not_zero : (refusal : Refusal) (number : ℕ) → status_of refusal ≡ suc number → IsSaid took faults_of refusal status out out' → status ≡ 0 → ⊥
  not_zero refusal number is (inl all) zero = absurd (cc (is, all.0, zero))
  not_zero refusal number is (inr part) zero = absurd (cc (part.0, zero))

  -- the image wasn't opened again
  refused : (refusal : Refusal) (number : ℕ) → status_of refusal ≡ suc number → LoadRefused old new refusal → shown_by new ≡ shown_by mid → (ShowsImage mid → ShowsImage new) → Says took faults_of refusal out status out'
      → LoadAnswers took faults_of n old new out status world out'
  refused refusal number is cause shown kept says = inl (record {
    refusal = refusal;
    cause = cause;
    says = says;
    shown = shown ∙ same;
    kept = λ _. kept still;
    none = withheld (not_zero refusal number is says.said);
  })

  -- where no count rose it ended well
  failed : IsStill old.faults new.faults → {n : ℕ} → RoseBy n mid.faults new.faults → 1 ≤ n → ⊥
  failed is (inl up) some = let low = faults.value in let kept = is.0 in omega (arith, up, low, kept, some)
  failed is (inr end) some = cc (end, is.1)

  dead : IsStill old.cuts new.cuts → {n : ℕ} → 1 ≤ n → RoseWith n 0 0 mid.cuts new.cuts → ⊥
  dead is some (inl up) = let low = cuts.value in let kept = is.0 in omega (arith, up, low, kept, some)
  dead is some (inr end) = cc (end, is.1)

  completed : (result : Result (Unit {0}) Halt) → (result ≡ Err SinkFailed → ⊥) → (result ≡ Err OpenFault → ⊥) → (NeedsCut result → ⊥) → result ≡ Ok tt
  completed (Ok done) whole lit powered = refl
  completed (Err SinkFailed) whole lit powered = absurd (whole refl)
  completed (Err OpenFault) whole lit powered = absurd (lit refl)
  completed (Err PowerGone) whole lit powered = absurd (powered tt)
  completed (Err BadPages) whole lit powered = absurd (powered tt)

  -- it was run, and its counts are told
  loaded : (result : Result (Unit {0}) Halt) (lines : List Item) (w : WorldState) (kept : Counts) → kept ≡ counts lines → (result ≡ Err SinkFailed → ⊥)
      → ((base : List Block) → shown_by old ≡ Some base → EndedSo base (load_plan n sectors) none lines result (Some w) new) → OnOk result (new.settled ≡ true) → ShowsImage new
      → RoseBy (count_by is_flash lines + halt_faults result) mid.faults new.faults → RoseWith (count_by is_cut_line lines) 0 0 mid.cuts new.cuts → (NeedsCut result → 1 ≤ count_by is_cut_line lines) → (status ≡ 0 → world ≡ Some w) → Tells took faults_of kept result out status out'
      → LoadAnswers took faults_of n old new out status world out'
  loaded result lines w kept are whole ended settled shows flash cut dark well tells = inr (record {
    sectors = sectors;
    image = image;
    has_sectors = has;
    result = result;
    whole = whole;
    lines = lines;
    run = w;
    ended = ended;
    settled = settled;
    kept = shows;
    flash = explained (count_by is_flash lines + halt_faults result) old.faults mid.faults new.faults faults flash;
    cuts = cut_since (count_by is_cut_line lines) old.cuts mid.cuts new.cuts cuts cut;
    completes = λ no_fault no_cut. completed result whole (λ is. failed no_fault flash (subst (λ (r : Result (Unit {0}) Halt). 1 ≤ count_by is_flash lines + halt_faults r) (sym is) (omega arith))) (λ needs. dead no_cut (dark needs) cut);
    tells = subst (λ kept. Tells took faults_of kept result out status out') are tells;
    handed = well;
    withheld = withheld;
  })

  module _ (w : WorldState) (kept : Counts) (sink : CountingSink) (valid : IsValidPlan (load_plan n sectors)) (well : status ≡ 0 → world ≡ Some w) where
    taken : (base : List Block) (lines : List Item) (t : State) → Whole base (load_plan n sectors) none lines t → accept base (load_plan n sectors) none lines ≡ Ok t
    taken base lines t it = accepted base (load_plan n sectors) none lines t valid it

    fronts : (base : List Block) (lines : List Item) → (lines ≡ []) ⊎ Front base (load_plan n sectors) none lines → IsAccepted base (load_plan n sectors) none lines
    fronts base lines it = front base (load_plan n sectors) none lines valid it

    early : (end : End) (base : List Block) (lines : List Item) → EndsBy end lines → (t : State) × Whole base (load_plan n sectors) none lines t × IfSome (shown_by new) (IsNear t) → EndedEarly end base (load_plan n sectors) none lines new
    early end base lines = ended_early base (load_plan n sectors) none lines new (Some w) (taken base lines) (fronts base lines) end

    by_end : (ended : Result (Unit {0}) Stop) (runs : Runs Took (load_plan n sectors) none mid fresh ended w new sink) → (halt_in ended ≡ Err SinkFailed → ⊥) → kept ≡ counts runs.lines
        → ConcludesLoad took faults_of ended kept out status out' → LoadAnswers took faults_of n old new out status world out'
    by_end (Ok done) runs whole are tells =
        loaded (Ok tt) runs.lines w kept are whole
        (λ base shown. ended_well base (load_plan n sectors) none runs.lines new (Some w) (taken base runs.lines) (fronts base runs.lines) w refl (runs.tells base (same ∙ shown)))
        (runs.settled refl) (runs.image still) runs.flash runs.cuts (λ none. absurd none) well tells
    by_end (Err (Before SinkFailed)) runs whole are tells = absurd (whole refl)
    by_end (Err (Before OpenFault)) runs whole are says = refused ArrayFault 6 refl (rose_since old.faults mid.faults new.faults faults runs.before.1) runs.before.3 runs.before.2 says
    by_end (Err (Before PowerGone)) runs whole are says = refused NoPower 7 refl (gone_since old.cuts mid.cuts new.cuts cuts runs.before.1) runs.before.3 runs.before.2 says
    by_end (Err (Before BadPages)) runs whole are says = refused BadImage 5 refl (no_image old mid same still runs.before.1) runs.before.3 runs.before.2 says
    by_end (Err (Behind SinkFailed)) runs whole are tells = absurd (whole refl)
    by_end (Err (Behind OpenFault)) runs whole are tells =
        loaded (Err OpenFault) runs.lines w kept are whole (λ base shown. early Fault base runs.lines runs.ends.0 (runs.tells base (same ∙ shown))) tt (runs.image still) runs.flash runs.cuts runs.ends.1 well tells
    by_end (Err (Behind PowerGone)) runs whole are tells =
        loaded (Err PowerGone) runs.lines w kept are whole (λ base shown. early Dead base runs.lines runs.ends.0 (runs.tells base (same ∙ shown))) tt (runs.image still) runs.flash runs.cuts runs.ends.1 well tells
    by_end (Err (Behind BadPages)) runs whole are tells =
        loaded (Err BadPages) runs.lines w kept are whole (λ base shown. early Image base runs.lines runs.ends.0 (runs.tells base (same ∙ shown))) tt (runs.image still) runs.flash runs.cuts runs.ends.1 well tells

  pub answers : (it : Loaded) → Loads n sectors mid it new → ConcludesLoad took faults_of it.ended it.counts out status out' → (status ≡ 0 → world ≡ Some it.world) → LoadAnswers took faults_of n old new out status world out'
  answers it loads tells well = by_end it.world it.counts loads.sink loads.valid well it.ended loads.runs loads.whole loads.counted tells
