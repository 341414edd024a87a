-- A raw script task by task: from a machine switched on, over each operation in turn, up to what the array shows at the end.
use Rattle.std.proofs.Common.{◌≡◌, ℕ, ◌<◌, true, List, [], Option, None, Some, Result, Ok, Err, IfSome, OnOk, is_some, option_map, unwrap_or, length, refl, sym, ◌∙◌, ap, subst}
use Rattle.std.proofs.lemmas.Bool.{false≢true}
use Rattle.std.proofs.lemmas.List.{ext_get_or}
use Rattle.std.proofs.lemmas.List.Elements.{All-nil}
use Rattle.array_edge.specs.Array.{ArrayState}
use Rattle.card_core.specs.Card.{HoldsNothing, sectors}
use Rattle.card_store.specs.Stands.{LinesStand, StandsIn}
use Rattle.card_store.specs.Store.{Stands as StoreStands}
use Rattle.card_store.proofs.Reading.{read_shown}
use Rattle.card_store.proofs.Turning.{lines_left}
use Rattle.cq_regs.specs.Slots.{is_rung}
use Rattle.epoch_cache.specs.Cache.{Cache, newest_of}
use Rattle.epoch_cache.specs.declared.line.Line.{Line}
use Rattle.ext_csd.specs.Values.{fresh}
use Rattle.intent_store.specs.Intent.{shown_by}
use Rattle.intent_store.specs.declared.ends.StoreEnd.{StoreEnd}
use Rattle.intent_store.specs.declared.ends.StoreEnd.TheVariants.{Flash, PowerLost}
use Rattle.raw_face.specs.Booting.{switched_on}
use Rattle.raw_face.specs.ByTask.{switched_on_state}
use Rattle.raw_face.specs.Operation.{Finishes}
use Rattle.raw_face.specs.Output.{Output, halt_of}
use Rattle.raw_face.specs.Sector.{flush_output}
use Rattle.raw_machine.specs.Machine.{Machine, Moment, moment, switched_off}
use Rattle.raw_machine.specs.State.{PlainCard, RawState}
use Rattle.raw_machine.specs.Telling.{Tells}
use Rattle.raw_text.specs.declared.op.RawOp.{RawOp}
use Rattle.storage_model.specs.Contents.{contents_now}
use Rattle.storage_model.proofs.Appends.{length-contents_now}
use Rattle.storage_model.specs.declared.block.Block.{Block}
use Rattle.storage_model.specs.declared.ends.Halt.{Halt}
use Rattle.storage_model.specs.declared.marks.Mark.{Mark}
use Rattle.task_queue.specs.Queue.{empty}
use Rattle.cqmmc_top.specs.Raw.{Plays, goes_on, halts, finishes}
use Rattle.cqmmc_top.specs.RawByTask.{IsTold, PlaysTold, now}
use Rattle.cqmmc_top.specs.RawByTask as told

-- where a cache holds nothing, what is shown is the contents now

shown_without_lines : (lines : List Line) (last : ℕ) (shown base : List Block) (pend : List Mark) (e : ℕ) → lines ≡ [] → StandsIn lines last shown base pend e
    → shown ≡ contents_now base pend
unfolding newest_of
shown_without_lines lines last shown base pend e none stands =
    let bare : StandsIn [] last shown base pend e = subst (λ lines. StandsIn lines last shown base pend e) none stands in
    ext_get_or (record { 0 = [] }) shown (contents_now base pend) (stands.sectors ∙ sym (length-contents_now base pend))
    (λ s below. read_shown [] last shown base pend e s tt bare (subst (λ n. s < n) stands.sectors below) refl)

shown_now : (cache : Cache) (told : Option (List Block)) (base : List Block) (pend : List Mark) → is_some told ≡ true → cache.lines ≡ [] → LinesStand cache told base pend
    → told ≡ Some (contents_now base pend)
shown_now cache None base pend some none stands = absurd (false≢true some)
shown_now cache (Some shown) base pend some none stands = ap Some (shown_without_lines cache.lines cache.last shown base pend stands.e none stands.is)

mapped_some : (pages : Option (List Block)) (f : List Block → List Block) → is_some pages ≡ true → is_some (option_map f pages) ≡ true
mapped_some None f some = some
mapped_some (Some pages) f some = refl

-- a machine that holds nothing shows its contents now
empty_shown : (m : Moment) (state : RawState) → Tells m state → HoldsNothing m.machine.card → shown_by m.array ≡ Some (now state.card.contents)
empty_shown m state t none =
    shown_now m.machine.card.store.cache (shown_by m.array) state.card.contents.base state.card.contents.pend (mapped_some m.array.told _ t.told) none t.contents.lines

-- only after a flush that went well does a script end well
flushed_well : (end : Result (Unit {0}) StoreEnd) (output : Output) (P : Type 0) (done : Unit {0}) → output ≡ flush_output end → Ok done ≡ halt_of output.end
    → OnOk end P → P
flushed_well (Ok ok) output P done is well h = h
flushed_well (Err Flash) output P done is well h = absurd (cc (well ∙ ap (λ (o : Output). halt_of o.end) is))
flushed_well (Err PowerLost) output P done is well h = absurd (cc (well ∙ ap (λ (o : Output). halt_of o.end) is))

module _ {K : Type 0} (took : K → List ℕ → K → Type 0) where
  finished_well : (old new : Moment) (out out' : K) (result : Result (Unit {0}) Halt) (state : RawState) → Finishes took old out result new out' → Tells new state
      → OnOk result (shown_by new.array ≡ Some (now state.card.contents))
  finished_well old new out out' (Ok done) state does t =
      empty_shown new state t (flushed_well does.card.end does.output (HoldsNothing new.machine.card) done does.card.shown does.shows.1 does.card.empty)
  finished_well old new out out' (Err halt) state does t = tt

  -- a script from a state on, up to one that machine and array are in at the end
  record GoesTo (ops : List RawOp) (state : RawState) (out : K) (result : Result (Unit {0}) Halt) (new : Moment) (out' : K) : Type 0 where
    pub after : RawState
    pub plays : PlaysTold took ops state out result after out'
    pub tells : Tells new after
    pub kept : OnOk result (shown_by new.array ≡ Some (now after.card.contents))

  plays_told : {ops : List RawOp} {old new : Moment} {out out' : K} {result : Result (Unit {0}) Halt} → Plays took ops old out result new out' → (state : RawState)
      → Tells old state → GoesTo ops state out result new out'
  plays_told (goes_on does plays) state t =
      let reached = does.by_task state t in
      let rest = plays_told plays reached.after reached.tells in
      record {
        after = rest.after;
        plays = told.goes_on (record { output = does.output; makes = reached.makes; shows = does.shows }) rest.plays;
        tells = rest.tells;
        kept = rest.kept;
      }
  plays_told (halts does) state t =
      let reached = does.by_task state t in
      record {
        after = reached.after;
        plays = told.halts (record { output = does.output; makes = reached.makes; shows = does.shows });
        tells = reached.tells;
        kept = tt;
      }
  plays_told {ops} {old} {new} {out} {out'} {result} (finishes does) state t =
      let reached = does.by_task state t in
      record {
        after = reached.after;
        plays = told.finishes (record { output = does.output; flushes = reached.flushes; shows = does.shows });
        tells = reached.tells;
        kept = finished_well old new out out' result reached.after does reached.tells;
      }

  -- from a machine switched on
  is_told : (base : List Block) (ops : List RawOp) (begin end : Moment) (out out' : K) (result : Result (Unit {0}) Halt) → Plays took ops begin out result end out'
      → Tells begin (switched_on_state base) → IsTold took base ops out result end out'
  is_told base ops begin end out out' result plays t =
      let to = plays_told plays (switched_on_state base) t in
      record {
        state = to.after;
        plays = to.plays;
        tells = to.tells;
        left = lines_left end.machine.card.store.cache (shown_by end.array) to.after.card.contents.base to.after.card.contents.pend to.tells.contents.lines;
        kept = to.kept;
      }

-- a machine that was switched on

-- its card, by the number of sectors and the last epoch
abbrev card_on : (base : List Block) (sectors epoch : ℕ) → PlainCard
card_on base sectors epoch = record {
  queue = empty 31;
  csd = record (fresh sectors 31 64) { command_queue = true; barrier = true; cache = true };
  contents = record { base = base; pend = [] };
  epoch = epoch;
}

tells_on : (off begin : Machine) (array : ArrayState) (base : List Block) → off ≡ switched_off off.card.store → begin ≡ switched_on off begin
    → StoreStands (record { base = base; pend = [] }) begin.card.store array → begin.card.store.cache.last ≡ 0 → is_some array.told ≡ true
    → Tells (moment begin array) (switched_on_state base)
tells_on off begin array base is on stands last some =
    let from : begin ≡ switched_on (switched_off off.card.store) begin = on ∙ ap (λ machine. switched_on machine begin) is in
    let count : sectors begin.card ≡ length base = ap (λ n. unwrap_or n 0) stands.sectors in
    let direct : Tells (moment (switched_on (switched_off off.card.store) begin) array) (switched_on_state base) = record {
      memory = refl;
      regs = refl;
      card = ap (λ n. card_on base n 0) (sym count) ∙ ap (card_on base (sectors begin.card)) (sym last);
      contents = stands;
      told = some;
      script = record { hits = refl; ready = refl; hit = refl };
      rung = All-nil (λ r. is_rung r.progress ≡ true);
      tasks = λ runs slot below begun. absurd (false≢true begun);
      between = λ runs slot. (λ named. cc named, λ active. cc active);
    } in
    subst (λ machine. Tells (moment machine array) (switched_on_state base)) (sym from) direct

some_told : (pages : Option (List Block)) (f : List Block → List Block) (base : List Block) → option_map f pages ≡ Some base → is_some pages ≡ true
some_told None f base is = absurd (cc is)
some_told (Some pages) f base is = refl

at_shown : (shown was : Option (List Block)) (P Q : List Block → Type 0) → shown ≡ was → ((base : List Block) → shown ≡ Some base → P base → Q base) → IfSome shown P
    → IfSome was Q
at_shown None None P Q is also h = tt
at_shown None (Some other) P Q is also h = absurd (cc is)
at_shown (Some base) None P Q is also h = absurd (cc is)
at_shown (Some base) (Some other) P Q is also h =
    let same : base ≡ other = cc is in
    subst Q same (also base refl h)

pub script_told : {K : Type 0} (took : K → List ℕ → K → Type 0) (off begin : Machine) (old array : ArrayState) (ops : List RawOp) (end : Moment) (out out' : K)
    (result : Result (Unit {0}) Halt) → off ≡ switched_off off.card.store → begin ≡ switched_on off begin
    → IfSome (shown_by array) (λ base. StoreStands (record { base = base; pend = [] }) begin.card.store array) → begin.card.store.cache.last ≡ 0
    → shown_by array ≡ shown_by old → Plays took ops (moment begin array) out result end out' → IfSome (shown_by old) (λ base. IsTold took base ops out result end out')
script_told took off begin old array ops end out out' result is on contents last shown plays =
    at_shown (shown_by array) (shown_by old) (λ base. StoreStands (record { base = base; pend = [] }) begin.card.store array)
    (λ base. IsTold took base ops out result end out') shown
    (λ base some stands. is_told took base ops (moment begin array) end out out' result plays
    (tells_on off begin array base is on stands last (some_told array.told _ base some))) contents
