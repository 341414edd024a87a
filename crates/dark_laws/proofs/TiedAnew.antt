-- The ties hold of the path that is set up anew.
use Rattle.std.proofs.Common.{if◌then◌else◌, ◌≡◌, ◌∙◌, ℕ, zero, suc, ◌≤◌, ◌<◌, ◌==◌, inl, true, false, Option, Some, None, MatchOption, IfSome, [], length, get_or, replicate, refl, ap, sym, subst, arith}
use Rattle.std.specs.Prelude.{All, not, option_map, unwrap_or}
use Rattle.std.proofs.lemmas.List.{length-replicate}
use Rattle.std.proofs.lemmas.List.Elements.{All-nil}
use Rattle.std.proofs.lemmas.Nat.Bits.{bit_at-zero}
use Rattle.array_edge.specs.Array.{ArrayState}
use Rattle.bus_link.specs.Script.{Script}
use Rattle.card_core.specs.Card.{CardState, sectors, set_up as card_set_up}
use Rattle.cq_engine.proofs.Counting.{counted_none}
use Rattle.cq_engine.proofs.Lying.{lie_none}
use Rattle.cq_engine.specs.Holds.{Holds}
use Rattle.cq_engine.specs.Outcome.{holds_nothing}
use Rattle.cq_regs.specs.Effects.{at_reset}
use Rattle.cq_regs.specs.Slots.{IsRing, has_bit}
use Rattle.drv_core.specs.SetUp.{coalescing_word, set_up}
use Rattle.drv_jobs.proofs.HolderLaws.{holder-none, length-no_holders}
use Rattle.drv_jobs.proofs.SoundLaws.{AreHeld-none}
use Rattle.drv_jobs.specs.Changes.{faults_of, forgotten}
use Rattle.drv_jobs.specs.Sound.{IsSound}
use Rattle.drv_jobs.specs.Standings.{Standings, holder_of, is_waiting}
use Rattle.ext_csd.specs.Values.{fresh}
use Rattle.intent_store.specs.Intent.{Known}
use Rattle.storage_model.specs.Faults.{IsHit, IsValidHits}
use Rattle.storage_model.specs.declared.plan.Plan.{Plan}
use Rattle.drv_core.specs.State.{layout_of}
use Rattle.drv_jobs.specs.declared.requests.TheConstants.{MOST_FAULTS}
use Rattle.drv_ring.specs.Layout.{HasLayout, size_of}
use Rattle.drv_ring.specs.declared.places.Layout.{Layout}
use Rattle.host_mem.specs.Memory.{Memory}
use Rattle.piece_data.proofs.Kept.{range-same_space}
use Rattle.piece_data.specs.Laws.{HasSameSpace}
use Rattle.task_queue.specs.Queue.{empty, slot}
use Rattle.dark_laws.proofs.Anew.{count_none}
use Rattle.dark_laws.specs.Anew.{IsCardAnew, IsSameScript, IsTiedAnew, IsTiedOn, Outlasts, set_anew, IsOutlasted}
use Rattle.world_state.specs.Path.{PathState, layout, plan_of}
use Rattle.world_state.specs.Ties.{AreBorne, AreTied, HasSetUp, IsCardOf, IsInImage, IsIssued, IsScript, IsVacant, TagIsTied, TagRuns}

pub tied_on : (p : PathState) → IsTiedOn p
tied_on p tied = record {
  sound = tied.sound;
  layout_fits = tied.layout_fits;
  depth = tied.card.depth;
  lines = tied.card.lines;
  through = tied.card.through;
  room = tied.card.room;
  script = tied.script;
  borne = tied.borne;
}

-- an event in which power is lost

layout_kept : (old new : Memory) (layout : Layout) → HasSameSpace old new → HasLayout old layout → HasLayout new layout
layout_kept old new layout space fits = record {
  depth = fits.depth;
  below = fits.below;
  narrow = fits.narrow;
  inside = range-same_space old new layout.base (size_of layout) space fits.inside;
}

borne_kept : (p p' : PathState) → p'.driver ≡ p.driver → AreBorne p → AreBorne p'
borne_kept p p' same borne =
    let from : p.driver ≡ p'.driver = sym same in
    record {
      waiting = subst (λ d. (id : ℕ) → is_waiting d.requests.waiting id ≡ true → faults_of d.requests id < MOST_FAULTS) from borne.waiting;
      issued = subst (λ d. (tag id : ℕ) → holder_of d.requests.holders tag ≡ Some id → faults_of d.requests id < MOST_FAULTS) from borne.issued;
    }

pub outlasted : (p p' : PathState) → IsOutlasted p p'
outlasted p p' out stays =
    let plan : plan_of p ≡ plan_of p' = ap (λ d. d.requests.plan) (sym stays.driver) in
    record {
      sound = subst (λ d. IsSound d.requests) (sym stays.driver) out.sound;
      layout_fits = subst (λ x. HasLayout p'.memory (layout_of x)) plan (layout_kept p.memory p'.memory (layout p) stays.space out.layout_fits);
      depth = stays.card.depth ∙ out.depth ∙ ap (λ x. x.depth) plan;
      lines = stays.card.lines ∙ out.lines ∙ ap (λ x. if x.through then 1024 else x.lines) plan;
      through = stays.card.through ∙ out.through ∙ ap (λ x. x.through) plan;
      room = stays.card.room ∙ out.room ∙ sym stays.card.lines;
      script = stays.script;
      borne = borne_kept p p' stays.driver out.borne;
    }

-- the requests

sound_forgotten : (s : Standings) → IsSound s → IsSound (forgotten s)
sound_forgotten s sound = record {
  plan = sound.plan;
  waiting = sound.waiting;
  faults = sound.faults;
  holders = length-no_holders;
  held = AreHeld-none s.waiting;
}

-- the registers and the engine

no_bit : (slot : ℕ) → has_bit 0 slot ≡ false
no_bit slot = ap (λ n. n == 1) (bit_at-zero slot)

ring_none : IsRing []
ring_none = record {
  apart = λ i j d less few. absurd (omega (arith, less, few));
  below = All-nil _;
  started = All-nil _;
}

has_set_up : (plan : Plan) → HasSetUp plan (set_up plan at_reset)
has_set_up plan = record {
  same = refl;
  notice = inl refl;
  ring = ring_none;
  small = omega arith;
  counted = let none = count_none (coalescing_word plan.coalesce) in omega (arith, none);
}

holds_anew : (plan : Plan) → Holds holds_nothing (set_up plan at_reset)
holds_anew plan = record {
  cause = λ stopped. absurd (cc stopped);
  tasks = λ runs slot few begun. absurd (cc begun);
}

-- the card

no_place : {X : Type 0} (depth i : ℕ) → get_or {A = Option X} (replicate depth None) i None ≡ None
no_place zero i = refl
no_place (suc depth) zero = refl
no_place (suc depth) (suc i) = no_place depth i

no_task : (depth tag : ℕ) → slot (empty depth) tag ≡ None
no_task depth tag = ap (option_map (λ place. place.queued)) (no_place depth tag)

sectors_few : (known : Option Known) → IfSome known (λ known. known.sectors ≤ 65536) → unwrap_or (option_map (λ known. known.sectors) known) 0 ≤ 65536
sectors_few None most = omega arith
sectors_few (Some known) most = most

card_anew : (p : PathState) (card : CardState) (a' : ArrayState) → Outlasts p → IsCardAnew p.card card a' → IsCardOf (plan_of p) card
card_anew p card a' out anew =
    let depth : card.depth ≡ p.card.depth = ap (λ c. c.depth) anew.card in
    let lines : card.lines ≡ p.card.lines = ap (λ c. c.lines) anew.card in
    let through : card.through ≡ p.card.through = ap (λ c. c.through) anew.card in
    let last = anew.last in
    record {
      depth = depth ∙ out.depth;
      lines = lines ∙ out.lines;
      through = through ∙ out.through;
      csd = ap (λ c. c.csd) anew.card ∙ csd_as (sectors card) depth lines through;
      places = ap (λ c. length c.queue.slots) anew.card ∙ length-replicate p.card.depth None ∙ sym depth;
      room = anew.room ∙ out.room ∙ sym lines;
      few = sectors_few card.store.known anew.store.most;
      epoch = omega (arith, last);
    }
  where
    csd_as : (n : ℕ) → card.depth ≡ p.card.depth → card.lines ≡ p.card.lines → card.through ≡ p.card.through → card_set_up p.card n ≡ card_set_up card n
    csd_as n depth lines through =
        ap (λ x. record (fresh n x p.card.lines) { command_queue = true; barrier = true; cache = not p.card.through }) (sym depth)
        ∙ ap (λ x. record (fresh n card.depth x) { command_queue = true; barrier = true; cache = not p.card.through }) (sym lines)
        ∙ ap (λ x. record (fresh n card.depth card.lines) { command_queue = true; barrier = true; cache = not x }) (sym through)

-- the script

script_anew : (old new : Script) → IsSameScript old new → IsScript old → IsScript new
script_anew old new same is =
    let words = is.words in
    let sent = is.sent in
    let used = same.used in
    let count = same.sent in
    let long : length new.ready ≡ length old.ready = ap (λ xs. length xs) same.ready in
    record {
      rising = subst IsValidHits (sym same.hits) is.rising;
      small = subst (All IsHit) (sym same.hits) is.small;
      words = omega (arith, words, used, long);
      sent = omega (arith, sent, count);
    }

-- the tags

module _ (p : PathState) (card : CardState) (script : Script) (a' : ArrayState) (out : Outlasts p) (anew : IsCardAnew p.card card a') where
  abbrev q : PathState
  q = set_anew p card script

  vacant : (tag : ℕ) → IsVacant q tag
  vacant tag = record { idle = refl; silent = no_bit tag }

  tag_tied : (tag : ℕ) → TagIsTied q tag
  tag_tied tag = let P : Option ℕ → Type 0 = λ o. MatchOption o (IsVacant q tag) (IsIssued q tag) in subst P (sym (holder-none tag)) (vacant tag)

  queue_empty : (tag : ℕ) → slot card.queue tag ≡ None
  queue_empty tag = ap (λ c. slot c.queue tag) anew.card ∙ no_task p.card.depth tag

  tag_runs : (tag : ℕ) → TagRuns q tag
  tag_runs tag = record {
    holds = λ begun. absurd (cc begun);
    queue = record { queued = queue_empty tag; chosen = λ ready. absurd (cc ready); waits = λ named. absurd (cc named) };
    inside = let P : Option ℕ → Type 0 = λ o. IfSome o (IsInImage q tag) in subst P (sym (holder-none tag)) tt;
  }

  borne : AreBorne q
  borne = record { waiting = out.borne.waiting; issued = λ tag id at. absurd (cc (holder-none tag, at)) }

  pub ties : IsSameScript p.script script → AreTied q
  ties same = record {
    sound = sound_forgotten p.driver.requests out.sound;
    layout_fits = out.layout_fits;
    holds = holds_anew (plan_of p);
    lie = lie_none p.memory;
    counts = counted_none;
    one = λ one other open_one open_other. absurd (cc open_one);
    regs = has_set_up (plan_of p);
    card = card_anew p card a' out anew;
    store = anew.store;
    script = script_anew p.script script same out.script;
    borne = borne;
    recovery_at = tt;
    calm = λ calm. refl;
    halts = λ halted. absurd (cc halted);
    held = λ recovering. absurd (cc recovering);
    tags = λ calm tag few. tag_tied tag;
    running = λ runs tag few. tag_runs tag;
    alone = λ direct tag few. holder-none tag;
    emptied = λ discarded. absurd (cc discarded);
    begun = ap (λ c. c.begun) anew.card;
    phase = tt;
    ahead = tt;
    hit = tt;
    fails = tt;
    names = λ stopped. absurd (cc stopped);
    heard = tt;
    told = λ some. absurd (some refl);
    status = λ done. absurd (cc done);
  }

pub tied_anew : (p : PathState) (a : ArrayState) (p' : PathState) (a' : ArrayState) → IsTiedAnew p a p' a'
tied_anew p a p' a' out anew = subst AreTied (sym anew.path) (ties p p'.card p'.script a' out anew.card anew.script)
