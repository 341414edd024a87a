-- What an operation makes of a machine, told by contents and marks.
use Rattle.std.proofs.Common.{◌≡◌, ◌≢◌, ◌⊎◌, ℕ, Bool, true, false, List, [], ◌++◌, Option, None, Some, Result, Ok, Err, IfSome, MatchBool, IsSomeAnd, is_some, option_map, unwrap_or, nat_lt, replicate, length, refl, sym, ◌∙◌, ap, subst, inl, inr}
use Rattle.std.specs.Option.{option_map_or}
use Rattle.std.proofs.lemmas.Bool.{false≢true}
use Rattle.array_edge.specs.Array.{ArrayState}
use Rattle.card_core.specs.Card.{CardState, sectors}
use Rattle.raw_machine.specs.Answering.{Answers}
use Rattle.card_store.specs.Store.{Contents, Stands as StoreStands}
use Rattle.card_store.proofs.Turning.{ok_also}
use Rattle.cmd_words.specs.declared.command.Command.TheVariants.{Manage}
use Rattle.cq_engine.proofs.Written.{IsCalm}
use Rattle.cq_engine.specs.declared.did.Did.{Did}
use Rattle.cq_engine.specs.declared.did.Did.TheVariants.{Idle, Sent, Direct, Moved, Finished, Dropped, Stopped}
use Rattle.cq_regs.specs.Effects.{written}
use Rattle.cq_regs.specs.Slots.{progress_of}
use Rattle.cq_regs.specs.State.{Registers}
use Rattle.cq_regs.specs.Table.{row_at}
use Rattle.cq_regs.specs.declared.slots.Progress.{Progress}
use Rattle.cq_regs.specs.declared.slots.Progress.TheVariants.{Active, Named}
use Rattle.cq_schedule.specs.Held.{held_at}
use Rattle.cq_schedule.specs.Holding.{is_begun}
use Rattle.host_mem.specs.Memory.{Memory}
use Rattle.raw_face.specs.Access.{IsPeekedIn, IsPokedIn, read_output}
use Rattle.raw_face.specs.ByTask.{RawPokes, RawSector, Reaches, ReachesEnd}
use Rattle.raw_face.specs.Operation.{Discards, IsPeeked, IsPoked, IsRead, IsWritten, ShowsSector, with_card, with_memory, with_regs}
use Rattle.raw_face.specs.Output.{Output, nothing, one}
use Rattle.raw_face.specs.Running.{Runs, output_after}
use Rattle.raw_face.specs.Sector.{HasFlushed, HasShown, IsOutside, TurnsStore, flushed}
use Rattle.raw_lines.specs.declared.raw_line.RawLine.{RawLine}
use Rattle.raw_lines.specs.declared.raw_line.RawLine.TheVariants.{Outside}
use Rattle.raw_machine.specs.Machine.{Moment, moment}
use Rattle.raw_machine.specs.Running.{end_after, goes_on, lines_of, steps_lines}
use Rattle.raw_machine.specs.State.{PlainCard, RawState, turned, with_registers}
use Rattle.raw_machine.specs.Telling.{Tells, plain}
use Rattle.raw_machine.proofs.Answered.{IsAnswered, answered}
use Rattle.raw_machine.proofs.WholeTasks.{RunsTold, run_told}
use Rattle.raw_text.specs.declared.op.RawOp.TheVariants.{Poke, Fill, Peek, Write, Read, Go, Show, Discard}
use Rattle.storage_model.specs.Contents.{contents_now, sector_at}
use Rattle.storage_model.specs.declared.block.Block.{Block}
use Rattle.storage_model.specs.declared.ends.Halt.{Halt}
use Rattle.storage_model.specs.declared.ends.Halt.TheVariants.{SinkFailed, OpenFault, PowerGone, BadImage}

-- the memory accessed

tells_memory : (old : Moment) (state : RawState) (memory : Memory) → Tells old state
    → Tells (moment (with_memory old.machine memory) old.array) (record state { memory = memory })
tells_memory old state memory t = record {
  memory = refl;
  regs = t.regs;
  card = t.card;
  contents = t.contents;
  told = t.told;
  script = t.script;
  rung = t.rung;
  tasks = t.tasks;
  between = t.between;
}

pokes : (address : ℕ) (bytes : List ℕ) (old new : Moment) (output : Output) (state : RawState) → IsPoked address bytes old output new → Tells old state
    → RawPokes address bytes state output (record state { memory = new.machine.memory })
pokes address bytes old new output state poked t = record {
  memory = new.machine.memory;
  poked = subst (λ memory. IsPokedIn address bytes memory output new.machine.memory) (sym t.memory) poked.memory;
  after = refl;
}

poked_tells : (address : ℕ) (bytes : List ℕ) (old new : Moment) (output : Output) (state : RawState) → IsPoked address bytes old output new → Tells old state
    → Tells new (record state { memory = new.machine.memory })
poked_tells address bytes old new output state poked t =
    subst (λ m. Tells m (record state { memory = new.machine.memory })) (sym poked.after) (tells_memory old state new.machine.memory t)

pub poke_by_task : (address : ℕ) (bytes : List ℕ) (old new : Moment) (result : Result (Unit {0}) Halt) (output : Output) → IsPoked address bytes old output new
    → (state : RawState) → Tells old state → Reaches (Poke address bytes) state result output new
poke_by_task address bytes old new result output poked state t = record {
  after = record state { memory = new.machine.memory };
  makes = pokes address bytes old new output state poked t;
  tells = poked_tells address bytes old new output state poked t;
}

pub fill_by_task : (address count value : ℕ) (old new : Moment) (result : Result (Unit {0}) Halt) (output : Output)
    → IsPoked address (replicate count value) old output new → (state : RawState) → Tells old state → Reaches (Fill address count value) state result output new
fill_by_task address count value old new result output poked state t = record {
  after = record state { memory = new.machine.memory };
  makes = pokes address (replicate count value) old new output state poked t;
  tells = poked_tells address (replicate count value) old new output state poked t;
}

pub peek_by_task : (address count : ℕ) (old new : Moment) (result : Result (Unit {0}) Halt) (output : Output) → IsPeeked address count old output new
    → (state : RawState) → Tells old state → Reaches (Peek address count) state result output new
peek_by_task address count old new result output peeked state t = record {
  after = state;
  makes = record { memory = subst (λ memory. IsPeekedIn address count memory output) (sym t.memory) peeked.memory; after = refl };
  tells = subst (λ m. Tells m state) (sym peeked.after) t;
}

-- a register accessed

named_is_begun : (p : Progress) → p ≡ Named → is_begun p ≡ true
named_is_begun p e = ap is_begun e

active_is_begun : (p : Progress) → p ≡ Active → is_begun p ≡ true
active_is_begun p e = ap is_begun e

tells_registers : (old : Moment) (state : RawState) (regs : Registers) → IsCalm old.machine.regs regs → Tells old state
    → Tells (moment (with_regs old.machine regs) old.array) (with_registers state regs)
tells_registers old state regs calm t = record {
  memory = t.memory;
  regs = refl;
  card = t.card;
  contents = t.contents;
  told = t.told;
  script = t.script;
  rung = calm.rung t.rung;
  tasks = λ runs slot below begun.
      let c = calm.begun slot begun in
      let B : Progress → Type 0 = λ p. is_begun p ≡ true in
      let P : Progress → Type 0 = λ p. IsSomeAnd (held_at old.machine.engine.held slot)
      (λ h. (h.progress ≡ p) × (state.tasks slot ≡ Some h.task) × (p ≢ Active → h.moved ≡ 0)) in
      subst P c.1 (t.tasks (sym c.0 ∙ runs) slot below (subst B (sym c.1) begun));
  between = λ runs slot. (
    λ named. let c = calm.begun slot (named_is_begun (progress_of regs.ring slot) named) in (t.between (sym c.0 ∙ runs) slot).0 (c.1 ∙ named),
    λ active. let c = calm.begun slot (active_is_begun (progress_of regs.ring slot) active) in (t.between (sym c.0 ∙ runs) slot).1 (c.1 ∙ active),
  );
}

pub write_by_task : (reg value : ℕ) (old new : Moment) (result : Result (Unit {0}) Halt) (output : Output) → IsWritten reg value old output new
    → IsCalm old.machine.regs new.machine.regs → (state : RawState) → Tells old state → Reaches (Write reg value) state result output new
write_by_task reg value old new result output is calm state t =
    let W : Registers → Registers = λ regs. option_map_or (λ row. written regs row value) (row_at reg) regs in
    let to : new.machine.regs ≡ W old.machine.regs = ap (λ (m : Moment). m.machine.regs) is.after in
    let direct : Tells (moment (with_regs old.machine (W old.machine.regs)) old.array) (with_registers state (W old.machine.regs)) =
    tells_registers old state (W old.machine.regs) (subst (IsCalm old.machine.regs) to calm) t in
    record {
      after = with_registers state (W state.regs);
      makes = record { shown = is.shown; after = refl };
      tells = subst (λ regs. Tells new (with_registers state (W regs))) (sym t.regs)
          (subst (λ m. Tells m (with_registers state (W old.machine.regs))) (sym is.after) direct);
    }

pub read_by_task : (reg : ℕ) (old new : Moment) (result : Result (Unit {0}) Halt) (output : Output) → IsRead reg old output new → (state : RawState) → Tells old state
    → Reaches (Read reg) state result output new
read_by_task reg old new result output is state t = record {
  after = state;
  makes = record { shown = is.shown ∙ ap (λ regs. read_output regs reg) (sym t.regs); after = refl };
  tells = subst (λ m. Tells m state) (sym is.after) t;
}

-- the card

tells_card : (old new : Moment) (state : RawState) (card : PlainCard) → new.machine ≡ with_card old.machine new.machine.card → Tells old state
    → card ≡ plain new.machine.card card.contents → StoreStands card.contents new.machine.card.store new.array → is_some new.array.told ≡ is_some old.array.told
    → Tells new (record state { card = card })
tells_card old new state card machine t is contents told =
    let from : new ≡ moment (with_card old.machine new.machine.card) new.array = ap (λ m. moment m new.array) machine in
    let direct : Tells (moment (with_card old.machine new.machine.card) new.array) (record state { card = card }) = record {
      memory = t.memory;
      regs = t.regs;
      card = is;
      contents = contents;
      told = told ∙ t.told;
      script = t.script;
      rung = t.rung;
      tasks = t.tasks;
      between = t.between;
    } in
    subst (λ m. Tells m (record state { card = card })) (sym from) direct

-- where only the store of a card changed
plain_turned : (old new : CardState) (c : Contents) → new ≡ record old { store = new.store } → new.store.cache.last ≡ old.store.cache.last → plain old c ≡ plain new c
plain_turned old new c is last =
    ap (λ epoch. record (plain old c) { epoch = epoch }) (sym last)
    ∙ ap (λ card. plain card c) (sym is)

turned_tells : (old new : Moment) (state : RawState) (f : Contents → Contents) → new.machine ≡ with_card old.machine new.machine.card
    → TurnsStore f old.machine.card old.array new.machine.card new.array → is_some new.array.told ≡ is_some old.array.told → Tells old state
    → Tells new (record state { card = turned f state.card })
turned_tells old new state f machine turns told t =
    let c = state.card.contents in
    tells_card old new state (turned f state.card) machine t
    (ap (turned f) t.card ∙ plain_turned old.machine.card new.machine.card (f c) turns.card turns.store.last)
    (turns.turns c t.contents) told

told_says : (told : Option (List Block)) (shown : List Block → List Block) (P : Type 0) → is_some told ≡ true → IfSome (option_map shown told) (λ _. P) → P
told_says None shown P some says = absurd (false≢true some)
told_says (Some pages) shown P some says = says

shows_by : (b : Bool) (sector : ℕ) (old new : Moment) (output : Output) (state : RawState) → new.machine ≡ with_card old.machine new.machine.card → Tells old state
    → MatchBool b (HasShown sector old.machine.card old.array output new.machine.card new.array) (IsOutside old.machine.card old.array output new.machine.card new.array)
    → MatchBool b (RawSector sector state.card output) (output ≡ one Outside) × Tells new state
shows_by true sector old new output state machine t h =
    let now = sector_at (contents_now state.card.contents.base state.card.contents.pend) sector in (
      record {
        value = h.value;
        end = h.end;
        reads = ok_also h.end _ (h.value ≡ now) (λ reads. told_says old.array.told _ (h.value ≡ now) t.told (reads state.card.contents t.contents)) h.reads;
        shown = h.shown;
      },
      turned_tells old new state (λ c. c) machine h.turns (ap is_some h.told) t,
    )
shows_by false sector old new output state machine t h = (
  h.shown,
  tells_card old new state state.card machine t (t.card ∙ ap (λ card. plain card state.card.contents) (sym h.card))
      (subst (λ store. StoreStands state.card.contents store new.array) (sym (ap (λ (card : CardState). card.store) h.card))
      (subst (StoreStands state.card.contents old.machine.card.store) (sym h.array) t.contents)) (ap (λ (array : ArrayState). is_some array.told) h.array),
)

pub show_by_task : (sector : ℕ) (old new : Moment) (result : Result (Unit {0}) Halt) (output : Output) → ShowsSector sector old output new → (state : RawState)
    → Tells old state → Reaches (Show sector) state result output new
show_by_task sector old new result output is state t =
    let Q : ℕ → Type 0 = λ n. MatchBool (nat_lt sector n) (HasShown sector old.machine.card old.array output new.machine.card new.array)
    (IsOutside old.machine.card old.array output new.machine.card new.array) in
    let same : sectors old.machine.card ≡ length state.card.contents.base = ap (λ n. unwrap_or n 0) t.contents.sectors in
    let both = shows_by (nat_lt sector (length state.card.contents.base)) sector old new output state is.machine t (subst Q same is.card) in
    record { after = state; makes = record { shown = both.0; after = refl }; tells = both.1 }

pub finish_by_task : (old new : Moment) (output : Output) → HasFlushed old.machine.card old.array output new.machine.card new.array
    → new.machine ≡ with_card old.machine new.machine.card → (state : RawState) → Tells old state → ReachesEnd state output new
finish_by_task old new output is machine state t = record {
  after = record state { card = turned (flushed is.end) state.card };
  flushes = record { end = is.end; shown = is.shown; after = refl };
  tells = turned_tells old new state (flushed is.end) machine is.turns is.ends.tells t;
}

pub discard_by_task : (old new : Moment) (result : Result (Unit {0}) Halt) (output : Output) → Discards old output new → (state : RawState) → Tells old state
    → Reaches Discard state result output new
discard_by_task old new result output is state t =
    let c = state.card.contents in
    let a : IsAnswered (Manage true 0) old.machine.card new.machine.card old.array new.array c is.card.answer =
    answered (Manage true 0) 0 old.machine.card new.machine.card old.array new.array c is.card.answer t.contents (λ poll. absurd (false≢true poll)) is.card.responds in
    record {
      after = record state { card = plain new.machine.card a.after };
      makes = record {
        answer = is.card.answer;
        card = plain new.machine.card a.after;
        answers = subst (λ card. Answers (Manage true 0) card is.card.answer (plain new.machine.card a.after)) (sym t.card) a.answers;
        shown = is.card.shown;
        after = refl;
      };
      tells = tells_card old new state (plain new.machine.card a.after) is.machine t refl a.stands a.told;
    }

-- the engine

-- lines, and what is printed after the last event
abbrev with_last : List RawLine → Did → Output
with_last lines last = record { lines = lines ++ lines_of last; end = end_after last }

-- the last event of a run ended it, or printed a line
ended : (did : Did) (regs : Registers) → output_after did ≢ nothing → (goes_on did regs ≡ false) ⊎ (lines_of did ≢ [])
ended Idle regs some = absurd (some refl)
ended (Sent command) regs some = absurd (some refl)
ended (Direct slot) regs some = inr (λ e. cc e)
ended (Moved slot) regs some = absurd (some refl)
ended (Finished slot) regs some = inr (λ e. cc e)
ended (Dropped slot why) regs some = inr (λ e. cc e)
ended (Stopped cause) regs some = inl refl

pub over_or_printed : (result : Result (Unit {0}) Halt) (did : Did) (regs : Registers) → (result ≢ Err SinkFailed → goes_on did regs ≡ false)
    → (result ≡ Err SinkFailed → output_after did ≢ nothing) → (goes_on did regs ≡ false) ⊎ (lines_of did ≢ [])
over_or_printed (Ok done) did regs over printed = inl (over (λ e. cc e))
over_or_printed (Err SinkFailed) did regs over printed = ended did regs (printed refl)
over_or_printed (Err OpenFault) did regs over printed = inl (over (λ e. cc e))
over_or_printed (Err PowerGone) did regs over printed = inl (over (λ e. cc e))
over_or_printed (Err BadImage) did regs over printed = inl (over (λ e. cc e))

pub go_by_task : (old new : Moment) (result : Result (Unit {0}) Halt) (output : Output) → Runs old result output new
    → (state : RawState) → Tells old state → Reaches Go state result output new
go_by_task old new result output runs state t =
    let told : RunsTold state (steps_lines runs.steps) runs.last new =
    run_told old runs.between new runs.steps runs.last state t runs.before runs.event
    (over_or_printed result runs.last new.machine.regs runs.over runs.printed) in
    record {
      after = told.after;
      makes = record {
        lines = told.told;
        between = told.between;
        last = runs.last;
        before = told.before;
        event = told.event;
        over = λ apart. subst (λ regs. goes_on runs.last regs ≡ false) (sym told.tells.regs) (runs.over apart);
        printed = runs.printed;
        shown = runs.shown ∙ ap (λ lines. with_last lines runs.last) (sym told.lines_same);
      };
      tells = told.tells;
    }
