-- What a call of the bus uses up of the script: words and faults, and a fault of the data or of the end of a phase waits until it stops the engine.
use Rattle.std.proofs.Common.{◌≡◌, ◌≤◌, ◌+◌, ◌-◌, ◌*◌, ℕ, length, refl, sym, ◌∙◌, ap, arith, Bool, true, false}
use Rattle.std.specs.Prelude.{cond, is_some, MatchOption, Option, Some, None, Result, Ok, Err}
use Rattle.std.proofs.lemmas.Bool.{false≢true}
use Rattle.storage_model.specs.declared.block.Block.{Block}
use Rattle.storage_model.specs.declared.faults.BusKind.{BusKind}
use Rattle.storage_model.specs.declared.faults.BusKind.TheVariants.{Lost, NoResp, Bad, Late}
use Rattle.bus_link.specs.Hits.{raised}
use Rattle.bus_link.specs.Script.{Script, struck}
use Rattle.bus_link.specs.declared.link.LinkEnd.{LinkEnd}
use Rattle.bus_link.specs.declared.link.LinkEnd.TheVariants.{Bus, Status, Dark as NoPower}
use Rattle.card_core.specs.Card.{blocks_of}
use Rattle.card_core.specs.declared.ends.BlockEnd.{BlockEnd}
use Rattle.card_core.specs.declared.ends.BlockEnd.TheVariants as block_end
use Rattle.card_core.specs.declared.ends.Dark.{Dark}
use Rattle.card_core.specs.declared.phase.DataPhase.{DataPhase}
use Rattle.card_link.specs.Behind.{Behind}
use Rattle.card_link.specs.Made.{Closes, Exchanges, Gives, IsGiven, IsLost, IsTaken, Takes, after_block, after_close, bad_block, block_seen, close_seen, hit_on, is_bad_block}
use Rattle.cmd_words.specs.declared.command.Command.{Command}
use Rattle.world_state.specs.Ties.{IsScript}
use Rattle.fall_laws.specs.Falls.{ScriptGoesOn}
use Rattle.host_falls.proofs.Crossings.{crosses, fewer_left, number_left, one_less_left}
use Rattle.fall_laws.proofs.Shapes.{is_struck}

-- what a fault costs that is used up and has not stopped the engine
abbrev pub waits : Option BusKind → ℕ
waits hit = cond (is_some hit) 6400101 0

pub record Charges (old new : Script) (busy struck : Bool) : Type 0 where
  pub on : ScriptGoesOn old new
  pub words : length new.ready - new.used ≤ length old.ready - old.used
  pub spent : 12800200 * number_left new.hits new.sent + waits new.hit ≤ 12800200 * number_left old.hits old.sent + cond busy (waits old.hit) 0
  pub stops : struck ≡ true → 12800200 * number_left new.hits new.sent + 6400101 ≤ 12800200 * number_left old.hits old.sent + cond busy (waits old.hit) 0

-- a command
struck_is : {T : Type 0} (answer : Result T LinkEnd) → is_struck answer ≡ true → (kind : BusKind) × (answer ≡ Err (Bus kind))
struck_is (Ok x) e = absurd (false≢true e)
struck_is (Err (Bus kind)) e = (kind, refl)
struck_is (Err (Status word)) e = absurd (false≢true e)
struck_is (Err NoPower) e = absurd (false≢true e)

hit_pays : (old new : Behind) (command : Command) (h : Option BusKind) → hit_on old command ≡ h → IsScript old.script
    → 12800200 * number_left old.script.hits (raised old.script.sent) + waits h ≤ 12800200 * number_left old.script.hits old.script.sent
hit_pays old new command None is script =
    let fewer = fewer_left old.script.hits old.script.sent script.sent in
    omega (arith, fewer)
hit_pays old new command (Some kind) is script =
    let less = one_less_left old.script.hits old.script.sent command (blocks_of old.card command) script.small script.sent (ap is_some is) in
    omega (arith, less)

pub command_charges : (old new : Behind) (command : Command) (answer : Result ℕ LinkEnd) (busy : Bool) → Exchanges command old new answer → IsScript old.script
    → Charges old.script new.script busy (is_struck answer)
command_charges old new command answer busy e script =
    let c = crosses old new command answer e in
    let left : number_left new.script.hits new.script.sent ≡ number_left old.script.hits (raised old.script.sent) =
    ap (λ hits. number_left hits new.script.sent) c.hits ∙ ap (λ n. number_left old.script.hits n) c.sent in
    let hit : waits new.script.hit ≡ waits (hit_on old command) = ap waits c.hit in
    let pays = hit_pays old new command (hit_on old command) refl script in
    let ready : length new.script.ready ≡ length old.script.ready = ap length c.ready in
    let used = c.used in
    let sent = c.sent in
    let small = script.sent in
    record {
      on = record { hits = c.hits; ready = c.ready; sent = omega (arith, sent, small); used = c.used };
      words = omega (arith, ready, used);
      spent = omega (arith, left, hit, pays);
      stops = λ e.
          let at = struck_is answer e in
          let some : waits (hit_on old command) ≡ 6400101 = ap (λ b. cond b 6400101 0) (c.fault at.0 at.1) in
          omega (arith, left, some, pays);
    }

-- within a data phase nothing but the count of faults changes
abbrev Stays : Script → Script → Type 0
Stays old new = new ≡ record old { faults = new.faults }

phase_charges : (old new : Script) (struck : Bool) → Stays old new → (struck ≡ true → is_some old.hit ≡ true) → Charges old new true struck
phase_charges old new struck same fault =
    let left : number_left new.hits new.sent ≡ number_left old.hits old.sent = ap (λ (s : Script). number_left s.hits s.sent) same in
    let hit : waits new.hit ≡ waits old.hit = ap (λ (s : Script). waits s.hit) same in
    let words : length new.ready - new.used ≡ length old.ready - old.used = ap (λ (s : Script). length s.ready - s.used) same in
    let sent : new.sent ≡ old.sent = ap (λ (s : Script). s.sent) same in
    let used : new.used ≡ old.used = ap (λ (s : Script). s.used) same in
    record {
      on = record {
        hits = ap (λ (s : Script). s.hits) same;
        ready = ap (λ (s : Script). s.ready) same;
        sent = omega (arith, sent);
        used = omega (arith, used);
      };
      words = omega (arith, words);
      spent = omega (arith, left, hit);
      stops = λ e. let some : waits old.hit ≡ 6400101 = ap (λ b. cond b 6400101 0) (fault e) in omega (arith, left, some);
    }

block_stays : (h : Option BusKind) (a : Result (Unit {0}) BlockEnd) (s : Script) → Stays s (after_block h a s)
block_stays None a s = refl
block_stays (Some Lost) a s = refl
block_stays (Some NoResp) a s = refl
block_stays (Some (Bad block)) a s = refl
block_stays (Some Late) (Ok _) s = refl
block_stays (Some Late) (Err block_end.Dark) s = refl
block_stays (Some Late) (Err (block_end.Status word)) s = refl

block_fault : (h : Option BusKind) (a : Result (Unit {0}) BlockEnd) → is_struck (block_seen h a) ≡ true → is_some h ≡ true
block_fault (Some kind) a e = refl
block_fault None (Ok _) e = absurd (false≢true e)
block_fault None (Err block_end.Dark) e = absurd (false≢true e)
block_fault None (Err (block_end.Status word)) e = absurd (false≢true e)

bad_if : (b : Bool) (h : Option BusKind) (kind : BusKind) → cond b h None ≡ Some kind → is_some h ≡ true
bad_if true h kind e = ap is_some e
bad_if false h kind e = absurd (cc e)

bad_some : (s : Script) (phase : Option DataPhase) (kind : BusKind) → bad_block s phase ≡ Some kind → is_some s.hit ≡ true
bad_some s None kind e = absurd (cc e)
bad_some s (Some phase) kind e = bad_if (is_bad_block s.hit (phase.moved + 1)) s.hit kind e

lost_stays : {T : Type 0} (kind : BusKind) (old new : Behind) (result : Result T LinkEnd) → IsLost kind old new old.script result
    → Stays old.script new.script
lost_stays kind old new result l =
    ap (λ (b : Behind). b.script) l.behind ∙ ap (λ n. record old.script { faults = n }) (ap (λ (b : Behind). b.script.faults) (sym l.behind))

moved_stays : (old new : Behind) (a : Result (Unit {0}) BlockEnd) → new.script ≡ after_block old.script.hit a old.script → Stays old.script new.script
moved_stays old new a e =
    e ∙ block_stays old.script.hit a old.script ∙ ap (λ n. record old.script { faults = n }) (ap (λ (s : Script). s.faults) (sym e))

pub give_charges : (block : Block) (old new : Behind) (result : Result (Unit {0}) LinkEnd) → Gives block old new result
    → Charges old.script new.script true (is_struck result)
give_charges block old new result g = by (bad_block old.script old.card.phase) refl g
  where
    by : (bad : Option BusKind) → bad_block old.script old.card.phase ≡ bad
        → MatchOption bad (IsGiven block old new result) (λ kind. IsLost kind old new old.script result) → Charges old.script new.script true (is_struck result)
    by None is g =
        phase_charges old.script new.script (is_struck result) (moved_stays old new g.answer g.script)
        (λ e. block_fault old.script.hit g.answer (ap is_struck (sym g.seen) ∙ e))
    by (Some kind) is l =
        phase_charges old.script new.script (is_struck result) (lost_stays kind old new result l) (λ e. bad_some old.script old.card.phase kind is)

pub take_charges : (block : Block) (old new : Behind) (result : Result (Unit {0}) LinkEnd) → Takes block old new result
    → Charges old.script new.script true (is_struck result)
take_charges block old new result g = by (bad_block old.script old.card.phase) refl g
  where
    by : (bad : Option BusKind) → bad_block old.script old.card.phase ≡ bad
        → MatchOption bad (IsTaken block old new result) (λ kind. IsLost kind old new old.script result) → Charges old.script new.script true (is_struck result)
    by None is g =
        phase_charges old.script new.script (is_struck result) (moved_stays old new g.answer g.script)
        (λ e. block_fault old.script.hit g.answer (ap is_struck (sym g.seen) ∙ e))
    by (Some kind) is l =
        phase_charges old.script new.script (is_struck result) (lost_stays kind old new result l) (λ e. bad_some old.script old.card.phase kind is)

close_stays : (h : Option BusKind) (a : Result ℕ Dark) (s : Script) → Stays s (after_close h a s)
close_stays None a s = refl
close_stays (Some Lost) a s = refl
close_stays (Some NoResp) a s = refl
close_stays (Some (Bad block)) a s = refl
close_stays (Some Late) (Ok word) s = refl
close_stays (Some Late) (Err dark) s = refl

close_fault : (h : Option BusKind) (a : Result ℕ Dark) → is_struck (close_seen h a) ≡ true → is_some h ≡ true
close_fault (Some kind) a e = refl
close_fault None (Ok word) e = absurd (false≢true e)
close_fault None (Err dark) e = absurd (false≢true e)

pub close_charges : (old new : Behind) (result : Result ℕ LinkEnd) → Closes old new result → Charges old.script new.script true (is_struck result)
close_charges old new result c =
    phase_charges old.script new.script (is_struck result)
    (c.script ∙ close_stays old.script.hit c.answer old.script ∙ ap (λ n. record old.script { faults = n }) (ap (λ (s : Script). s.faults) (sym c.script)))
    (λ e. close_fault old.script.hit c.answer (ap is_struck (sym c.seen) ∙ e))
