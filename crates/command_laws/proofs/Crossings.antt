-- A command that only tells: it is lost, the card acted without a response, or it is answered.
use Rattle.std.proofs.Common.{◌≡◌, ℕ, false, refl, ◌∙◌, ap, subst}
use Rattle.std.specs.Prelude.{Option, Some, None, Result, Ok, Err}
use Rattle.std.specs.Bool.{MatchBool}
use Rattle.array_edge.specs.Array.{ArrayState}
use Rattle.bus_link.specs.Script.{Script, struck}
use Rattle.bus_link.specs.declared.link.LinkEnd.{LinkEnd}
use Rattle.bus_link.specs.declared.link.LinkEnd.TheVariants.{Bus}
use Rattle.card_core.specs.Card.{CardState}
use Rattle.card_core.specs.Response.{Responds, Response, response_to}
use Rattle.card_core.specs.Response.Response.{Tell}
use Rattle.card_link.specs.Behind.{Behind, behind}
use Rattle.card_link.specs.Made.{Exchanges, IsHeard, IsLost, after_response, choice_of, heard, hit_on, is_lost, response_seen, sent}
use Rattle.cmd_words.specs.declared.command.Command.{Command}
use Rattle.storage_machine.specs.Commands.{is_gone}
use Rattle.storage_model.specs.declared.faults.BusKind.{BusKind}
use Rattle.storage_model.specs.declared.faults.BusKind.TheVariants.{Lost, NoResp, Bad, Late}

pub data Crossed (command : Command) (word : ℕ) (told : CardState) (old new : Behind) (result : Result ℕ LinkEnd) : Type 0 where
  lost : hit_on old command ≡ Some Lost → result ≡ Err (Bus Lost) → new ≡ behind old.card old.array (struck (sent old command))
      → Crossed command word told old new result
  silent : hit_on old command ≡ Some NoResp → result ≡ Err (Bus NoResp) → new ≡ behind told old.array (struck (heard (sent old command) command))
      → Crossed command word told old new result
  answered : is_gone (hit_on old command) ≡ false → result ≡ Ok word → new ≡ behind told old.array (heard (sent old command) command)
      → Crossed command word told old new result

behind_is : (new : Behind) (card : CardState) (array : ArrayState) (script : Script) → new.card ≡ card → new.array ≡ array → new.script ≡ script
    → new ≡ behind card array script
behind_is new card array script c a s =
    ap (λ x. behind x new.array new.script) c ∙ ap (λ x. behind card x new.script) a ∙ ap (λ x. behind card array x) s

-- what was heard, by the fault
record IsTold (command : Command) (word : ℕ) (told : CardState) (hit : Option BusKind) (old new : Behind) (result : Result ℕ LinkEnd) : Type 0 where
  pub new_is : new ≡ behind told old.array (after_response hit (Ok word) (heard (sent old command) command))
  pub seen : result ≡ response_seen hit (Ok word)

told_by : (command : Command) (word : ℕ) (told : CardState) (hit : Option BusKind) (old new : Behind) (result : Result ℕ LinkEnd)
    → hit_on old command ≡ hit → response_to old.card command (choice_of (sent old command) command) ≡ Tell word told
    → IsHeard command old new result → IsTold command word told hit old new result
told_by command word told hit old new result e r h =
    let R : Response → Type 0 = λ response. Responds response old.card old.array new.card new.array h.answer in
    let tells : (h.answer ≡ Ok word) × (new.card ≡ told) × (new.array ≡ old.array) = subst R r h.responds in
    let own = heard (sent old command) command in
    record {
      new_is =
          behind_is new told old.array (after_response hit (Ok word) own) tells.1 tells.2
          (h.script ∙ ap (λ x. after_response x h.answer own) e ∙ ap (λ x. after_response hit x own) tells.0);
      seen = h.seen ∙ ap (λ x. response_seen x h.answer) e ∙ ap (λ x. response_seen hit x) tells.0;
    }

crossed_by : (command : Command) (word : ℕ) (told : CardState) (hit : Option BusKind) (old new : Behind) (result : Result ℕ LinkEnd)
    → hit_on old command ≡ hit → response_to old.card command (choice_of (sent old command) command) ≡ Tell word told
    → MatchBool (is_lost hit) (IsLost Lost old new (sent old command) result) (IsHeard command old new result)
    → Crossed command word told old new result
crossed_by command word told (Some Lost) old new result e r h = lost e h.answer h.behind
crossed_by command word told (Some NoResp) old new result e r h =
    let t = told_by command word told (Some NoResp) old new result e r h in silent e t.seen t.new_is
crossed_by command word told (Some Late) old new result e r h =
    let t = told_by command word told (Some Late) old new result e r h in answered (ap is_gone e) t.seen t.new_is
crossed_by command word told (Some (Bad block)) old new result e r h =
    let t = told_by command word told (Some (Bad block)) old new result e r h in answered (ap is_gone e) t.seen t.new_is
crossed_by command word told None old new result e r h =
    let t = told_by command word told None old new result e r h in answered (ap is_gone e) t.seen t.new_is

pub crossed : (command : Command) (word : ℕ) (told : CardState) (old new : Behind) (result : Result ℕ LinkEnd)
    → response_to old.card command (choice_of (sent old command) command) ≡ Tell word told → Exchanges command old new result
    → Crossed command word told old new result
crossed command word told old new result r e = crossed_by command word told (hit_on old command) old new result refl r e
