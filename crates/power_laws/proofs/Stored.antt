-- The path with another store: the ties stay.
use Rattle.std.proofs.Common.{◌≡◌, ◌≤◌, ◌+◌, ℕ, sym, ◌∙◌, ap, subst}
use Rattle.std.specs.Prelude.{Bool, true, not, Option, Some, None, IfSome, MatchOption, unwrap_or}
use Rattle.std.specs.Option.{IsSomeAnd}
use Rattle.card_core.specs.Card.{CardState, sectors}
use Rattle.card_store.specs.Store.{IsSameStore, IsStore, Store}
use Rattle.ext_csd.specs.Values.{fresh}
use Rattle.ext_csd.specs.declared.csd.ExtCsd.{ExtCsd}
use Rattle.storage_machine.specs.Jobs.{sector_of}
use Rattle.storage_model.specs.Plan.{blocks_of}
use Rattle.storage_model.specs.declared.plan.Plan.{Plan}
use Rattle.world_state.specs.Path.{PathState, holder, job}
use Rattle.world_state.specs.Ties.{AreTied, HoldsJob, IsCardOf, IsInImage, IsIssued, IsVacant, TagRuns}

abbrev pub with_store : PathState → Store → PathState
with_store p st = record p { card = record p.card { store = st } }

abbrev csd_of : (sectors depth lines : ℕ) → Bool → ExtCsd
csd_of sectors depth lines through = record (fresh sectors depth lines) { command_queue = true; barrier = true; cache = not through }

-- the image is as large as it was
same_sectors : (card : CardState) (st : Store) → IsSameStore card.store st → sectors (record card { store = st }) ≡ sectors card
same_sectors card st s = ap (λ o. unwrap_or o 0) s.sectors

card_stored : (plan : Plan) (card : CardState) (st : Store) → IsSameStore card.store st → IsCardOf plan card → IsCardOf plan (record card { store = st })
card_stored plan card st s h = record {
  depth = h.depth;
  lines = h.lines;
  through = h.through;
  csd = h.csd ∙ sym (ap (λ n. csd_of n card.depth card.lines card.through) (same_sectors card st s));
  places = h.places;
  room = s.room ∙ h.room;
  few = subst (λ n. n ≤ 65536) (sym (same_sectors card st s)) h.few;
  epoch = subst (λ n. n ≤ 4294967295) (sym s.last) h.epoch;
}

-- ---- of a tag

some_then : {X : Type 0} (o : Option X) (P Q : X → Type 0) → ((x : X) → P x → Q x) → IsSomeAnd o P → IsSomeAnd o Q
some_then None P Q f h = absurd h
some_then (Some x) P Q f h = f x h

if_then : {X : Type 0} (o : Option X) (P Q : X → Type 0) → ((x : X) → P x → Q x) → IfSome o P → IfSome o Q
if_then None P Q f h = tt
if_then (Some x) P Q f h = f x h

tag_stored : (p : PathState) (st : Store) (tag : ℕ) (o : Option ℕ) → MatchOption o (IsVacant p tag) (IsIssued p tag)
    → MatchOption o (IsVacant (with_store p st) tag) (IsIssued (with_store p st) tag)
tag_stored p st tag None h = record { idle = h.idle; silent = h.silent }
tag_stored p st tag (Some id) h = record { asks = h.asks; data_held = h.data_held; rung = h.rung }

inside_stored : (p : PathState) (st : Store) (tag id : ℕ) → IsSameStore p.card.store st → IsInImage p tag id → IsInImage (with_store p st) tag id
inside_stored p st tag id s h way = subst (λ n. sector_of (job p id) + blocks_of (job p id) ≤ n) (sym (same_sectors p.card st s)) (h way)

runs_stored : (p : PathState) (st : Store) (tag : ℕ) → IsSameStore p.card.store st → TagRuns p tag → TagRuns (with_store p st) tag
runs_stored p st tag s h = record {
  holds = λ begun. some_then (holder p tag) (HoldsJob p tag) (HoldsJob (with_store p st) tag) (λ id x. record { held = x.held }) (h.holds begun);
  queue = record { queued = h.queue.queued; chosen = h.queue.chosen; waits = h.queue.waits };
  inside = if_then (holder p tag) (IsInImage p tag) (IsInImage (with_store p st) tag) (λ id x. inside_stored p st tag id s x) h.inside;
}

-- ---- all of them

pub stored_ties : (p : PathState) (st : Store) → IsSameStore p.card.store st → IsStore st → AreTied p → AreTied (with_store p st)
stored_ties p st s store t = record {
  sound = t.sound;
  layout_fits = t.layout_fits;
  holds = t.holds;
  lie = t.lie;
  counts = t.counts;
  one = t.one;
  regs = t.regs;
  card = card_stored p.driver.requests.plan p.card st s t.card;
  store = store;
  script = t.script;
  borne = record { waiting = t.borne.waiting; issued = t.borne.issued };
  recovery_at = t.recovery_at;
  calm = t.calm;
  halts = t.halts;
  held = t.held;
  tags = λ still tag below. tag_stored p st tag (holder p tag) (t.tags still tag below);
  running = λ goes tag below. runs_stored p st tag s (t.running goes tag below);
  alone = t.alone;
  emptied = t.emptied;
  begun = t.begun;
  phase = t.phase;
  ahead = t.ahead;
  hit = t.hit;
  fails = t.fails;
  names = t.names;
  heard = t.heard;
  told = t.told;
  status = t.status;
}
