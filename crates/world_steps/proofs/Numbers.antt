-- Where no command is sent, the number of commands stays.
use Rattle.std.proofs.Common.{◌≡◌, ℕ, refl, ◌∙◌, ap, Bool, true, false}
use Rattle.std.specs.Prelude.{MatchOption, Option, Some, None, Result, Ok, Err}
use Rattle.std.specs.Bool.{MatchBool}
use Rattle.std.specs.Option.{IsSomeAnd}
use Rattle.std.proofs.lemmas.Bool.{true≢false}
use Rattle.bus_link.specs.Script.{Script}
use Rattle.bus_link.specs.declared.link.LinkEnd.{LinkEnd}
use Rattle.card_core.specs.declared.ends.BlockEnd.{BlockEnd}
use Rattle.card_core.specs.declared.ends.BlockEnd.TheVariants as block_end
use Rattle.card_core.specs.declared.ends.Dark.{Dark}
use Rattle.card_link.specs.Behind.{Behind}
use Rattle.card_link.specs.Made.{CardMade, Closes, Gives, IsGiven, IsLost, IsTaken, Takes, after_block, after_close, bad_block}
use Rattle.cq_engine.specs.Event.{Does, Gives as GivesBlock, Takes as TakesBlock}
use Rattle.cq_engine.specs.After.{after_block as block_after}
use Rattle.cq_engine.specs.Outcome.{Host, Outcome}
use Rattle.cq_schedule.specs.Held.{held_at}
use Rattle.cq_schedule.specs.declared.rules.Due.{Due}
use Rattle.cq_schedule.specs.declared.rules.Due.TheVariants.{Rest, Block as NextBlock, Close, Address, Serve, Execute, Poll, Tick}
use Rattle.cq_task.specs.declared.slot.DataTask.{DataTask}
use Rattle.host_mem.specs.Memory.{Memory}
use Rattle.piece_data.specs.Data.{block_of}
use Rattle.state_laws.proofs.Tasks.{the_one}
use Rattle.storage_model.specs.declared.block.Block.{Block}
use Rattle.storage_model.specs.declared.faults.BusKind.{BusKind}
use Rattle.storage_model.specs.declared.faults.BusKind.TheVariants.{Lost, NoResp, Bad, Late}
use Rattle.world_steps.proofs.Dues.{is_command}

abbrev pub IsSent : Behind → Behind → Type 0
IsSent old new = new.script.sent ≡ old.script.sent

block_sent : (hit : Option BusKind) (answer : Result (Unit {0}) BlockEnd) (script : Script) → (after_block hit answer script).sent ≡ script.sent
block_sent None answer script = refl
block_sent (Some Lost) answer script = refl
block_sent (Some NoResp) answer script = refl
block_sent (Some (Bad block)) answer script = refl
block_sent (Some Late) (Ok done) script = refl
block_sent (Some Late) (Err block_end.Dark) script = refl
block_sent (Some Late) (Err (block_end.Status word)) script = refl

close_sent : (hit : Option BusKind) (answer : Result ℕ Dark) (script : Script) → (after_close hit answer script).sent ≡ script.sent
close_sent None answer script = refl
close_sent (Some Lost) answer script = refl
close_sent (Some NoResp) answer script = refl
close_sent (Some (Bad block)) answer script = refl
close_sent (Some Late) (Ok word) script = refl
close_sent (Some Late) (Err end) script = refl

gives_sent : (block : Block) (old new : Behind) (result : Result (Unit {0}) LinkEnd) → Gives block old new result → IsSent old new
gives_sent block old new result g = by (bad_block old.script old.card.phase) g
  where
    by : (bad : Option BusKind) → MatchOption bad (IsGiven block old new result) (λ kind. IsLost kind old new old.script result) → IsSent old new
    by None x = ap (λ (s : Script). s.sent) x.script ∙ block_sent old.script.hit x.answer old.script
    by (Some kind) x = ap (λ (b : Behind). b.script.sent) x.behind

takes_sent : (block : Block) (old new : Behind) (result : Result (Unit {0}) LinkEnd) → Takes block old new result → IsSent old new
takes_sent block old new result g = by (bad_block old.script old.card.phase) g
  where
    by : (bad : Option BusKind) → MatchOption bad (IsTaken block old new result) (λ kind. IsLost kind old new old.script result) → IsSent old new
    by None x = ap (λ (s : Script). s.sent) x.script ∙ block_sent old.script.hit x.answer old.script
    by (Some kind) x = ap (λ (b : Behind). b.script.sent) x.behind

closes_sent : (old new : Behind) (result : Result ℕ LinkEnd) → Closes old new result → IsSent old new
closes_sent old new result x = ap (λ (s : Script). s.sent) x.script ∙ close_sent old.script.hit x.answer old.script

moves_sent : (old new : Behind) (host : Host) (memory memory' : Memory) (slot k : ℕ) (outcome : Outcome) (task : DataTask) (read : Bool)
    → MatchBool read (TakesBlock CardMade old new task.pieces k memory memory' outcome (block_after host slot task.desc))
    (GivesBlock CardMade old new (block_of memory task.pieces k) outcome (block_after host slot task.desc) × (memory' ≡ memory)) → IsSent old new
moves_sent old new host memory memory' slot k outcome task true d = takes_sent d.block old new d.answer d.crossed
moves_sent old new host memory memory' slot k outcome task false d = gives_sent (block_of memory task.pieces k) old new d.0.answer d.0.crossed

pub does_not_send : (old new : Behind) (host : Host) (memory memory' : Memory) (outcome : Outcome) (due : Due) → is_command due ≡ false
    → Does CardMade old new host memory memory' outcome due → IsSent old new
does_not_send old new host memory memory' outcome Rest e d = ap (λ (b : Behind). b.script.sent) d.0.link
does_not_send old new host memory memory' outcome Tick e d = ap (λ (b : Behind). b.script.sent) d.0.link
does_not_send old new host memory memory' outcome (NextBlock slot k) e d =
    let x = the_one (held_at host.held slot) _ d in
    moves_sent old new host memory memory' slot k outcome x.0.task x.0.task.desc.read x.2
does_not_send old new host memory memory' outcome (Close slot) e d =
    let x = the_one (held_at host.held slot) _ d.0 in
    closes_sent old new x.2.answer x.2.crossed
does_not_send old new host memory memory' outcome (Serve slot) e d = absurd (true≢false e)
does_not_send old new host memory memory' outcome (Address slot) e d = absurd (true≢false e)
does_not_send old new host memory memory' outcome (Execute slot) e d = absurd (true≢false e)
does_not_send old new host memory memory' outcome Poll e d = absurd (true≢false e)
