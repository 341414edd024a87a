-- What a command that crosses the bus makes of its script, and which faults are left then.
use Rattle.std.proofs.Common.{◌≡◌, ◌≤◌, ◌+◌, ◌==◌, ℕ, refl, sym, ◌∙◌, ap, arith, Bool, true, false, List, length}
use Rattle.std.specs.Prelude.{cond, count_by, is_some, nat_lt, Option, Some, None, Result, Ok, Err, All}
use Rattle.std.specs.Bool.{MatchBool}
use Rattle.std.proofs.lemmas.Bool.{eqb-true, false≢true, le-ltb, ltb-true, lt-ltb}
use Rattle.storage_model.specs.Faults.{IsHit}
use Rattle.storage_model.specs.declared.faults.BusKind.{BusKind}
use Rattle.storage_model.specs.declared.faults.BusKind.TheVariants.{Lost, NoResp, Bad, Late}
use Rattle.storage_model.specs.declared.faults.Hit.{Hit}
use Rattle.bus_link.specs.Hits.{fault_of, hit_of, if_of_kind, raised}
use Rattle.bus_link.specs.Link.{is_poll}
use Rattle.bus_link.specs.Script.{Script, word_used}
use Rattle.bus_link.specs.declared.link.LinkEnd.{LinkEnd}
use Rattle.bus_link.specs.declared.link.LinkEnd.TheVariants.{Bus}
use Rattle.card_core.specs.declared.ends.Dark.{Dark}
use Rattle.card_link.specs.Behind.{Behind}
use Rattle.card_link.specs.Made.{Exchanges, IsHeard, IsLost, after_response, heard, hit_on, is_lost, response_seen, sent}
use Rattle.cmd_words.specs.declared.command.Command.{Command}
use Rattle.host_falls.proofs.Sums.{fewer, fewer_by_one, found_all}

-- the faults whose number is still to come
abbrev pub number_left : List Hit → ℕ → ℕ
number_left hits sent = count_by (λ hit. nat_lt sent hit.n) hits

-- a command crossed
pub record Crosses (old new : Behind) (command : Command) (answer : Result ℕ LinkEnd) : Type 0 where
  pub hits : new.script.hits ≡ old.script.hits
  pub ready : new.script.ready ≡ old.script.ready
  pub used : old.script.used ≤ new.script.used
  pub sent : new.script.sent ≡ raised old.script.sent
  pub hit : new.script.hit ≡ hit_on old command
  pub fault : (kind : BusKind) → answer ≡ Err (Bus kind) → is_some (hit_on old command) ≡ true

lost_is : (h : Option BusKind) → is_lost h ≡ true → is_some h ≡ true
lost_is None e = absurd (false≢true e)
lost_is (Some kind) e = refl

seen_fault : (h : Option BusKind) (a : Result ℕ Dark) (kind : BusKind) → response_seen h a ≡ Err (Bus kind) → is_some h ≡ true
seen_fault (Some k) a kind e = refl
seen_fault None (Ok word) kind e = absurd (cc e)
seen_fault None (Err dark) kind e = absurd (cc e)

-- but for the count of faults, which nothing here reads
pub after_is : (h : Option BusKind) (a : Result ℕ Dark) (s : Script) → after_response h a s ≡ record s { faults = (after_response h a s).faults }
after_is None (Ok word) s = refl
after_is None (Err dark) s = refl
after_is (Some Lost) (Ok word) s = refl
after_is (Some NoResp) (Ok word) s = refl
after_is (Some (Bad block)) (Ok word) s = refl
after_is (Some Late) (Ok word) s = refl
after_is (Some Lost) (Err dark) s = refl
after_is (Some NoResp) (Err dark) s = refl
after_is (Some (Bad block)) (Err dark) s = refl
after_is (Some Late) (Err dark) s = refl

word_is : (s : Script) → word_used s ≡ record s { used = (word_used s).used }
word_is s = by (nat_lt s.used (length s.ready))
  where
    by : (b : Bool) → cond b (record s { used = s.used + 1 }) s ≡ record s { used = (cond b (record s { used = s.used + 1 }) s).used }
    by true = refl
    by false = refl

word_more : (s : Script) → s.used ≤ (word_used s).used
word_more s = by (nat_lt s.used (length s.ready))
  where
    by : (b : Bool) → s.used ≤ (cond b (record s { used = s.used + 1 }) s).used
    by true = omega arith
    by false = omega arith

heard_is : (b : Bool) (s : Script) → cond b (word_used s) s ≡ record s { used = (cond b (word_used s) s).used }
heard_is true s = word_is s
heard_is false s = refl

heard_more : (b : Bool) (s : Script) → s.used ≤ (cond b (word_used s) s).used
heard_more true s = word_more s
heard_more false s = omega arith

pub heard_crosses : (old new : Behind) (command : Command) (answer : Result ℕ LinkEnd) → IsHeard command old new answer
    → Crosses old new command answer
heard_crosses old new command answer h =
    let before = sent old command in
    let middle = heard before command in
    let is : new.script ≡ record middle { faults = new.script.faults } =
    h.script ∙ after_is (hit_on old command) h.answer middle ∙ ap (λ n. record middle { faults = n }) (ap (λ (s : Script). s.faults) (sym h.script)) in
    let m : middle ≡ record before { used = middle.used } = heard_is (is_poll command) before in
    record {
      hits = ap (λ (s : Script). s.hits) is ∙ ap (λ (s : Script). s.hits) m;
      ready = ap (λ (s : Script). s.ready) is ∙ ap (λ (s : Script). s.ready) m;
      used =
          let more : old.script.used ≤ middle.used = heard_more (is_poll command) before in
          let same : new.script.used ≡ middle.used = ap (λ (s : Script). s.used) is in
          omega (arith, more, same);
      sent = ap (λ (s : Script). s.sent) is ∙ ap (λ (s : Script). s.sent) m;
      hit = ap (λ (s : Script). s.hit) is ∙ ap (λ (s : Script). s.hit) m;
      fault = λ kind e. seen_fault (hit_on old command) h.answer kind (sym h.seen ∙ e);
    }

lost_crosses : (old new : Behind) (command : Command) (answer : Result ℕ LinkEnd) → is_lost (hit_on old command) ≡ true
    → IsLost Lost old new (sent old command) answer → Crosses old new command answer
lost_crosses old new command answer is l = record {
  hits = ap (λ (b : Behind). b.script.hits) l.behind;
  ready = ap (λ (b : Behind). b.script.ready) l.behind;
  used =
      let same : new.script.used ≡ old.script.used = ap (λ (b : Behind). b.script.used) l.behind in
      omega (arith, same);
  sent = ap (λ (b : Behind). b.script.sent) l.behind;
  hit = ap (λ (b : Behind). b.script.hit) l.behind;
  fault = λ kind e. lost_is (hit_on old command) is;
}

pub crosses : (old new : Behind) (command : Command) (answer : Result ℕ LinkEnd) → Exchanges command old new answer
    → Crosses old new command answer
crosses old new command answer e = by (is_lost (hit_on old command)) refl e
  where
    by : (b : Bool) → is_lost (hit_on old command) ≡ b
        → MatchBool b (IsLost Lost old new (sent old command) answer) (IsHeard command old new answer) → Crosses old new command answer
    by true is e = lost_crosses old new command answer is e
    by false is e = heard_crosses old new command answer e

-- a number more is used
raised_up : (sent n : ℕ) → sent ≤ 4294967295 → nat_lt (raised sent) n ≡ true → nat_lt sent n ≡ true
raised_up sent n small less =
    let low = ltb-true (raised sent) n less in
    lt-ltb sent n (omega (arith, low, small))

pub fewer_left : (hits : List Hit) (sent : ℕ) → sent ≤ 4294967295 → number_left hits (raised sent) ≤ number_left hits sent
fewer_left hits sent small =
    fewer (λ (hit : Hit). nat_lt (raised sent) hit.n) (λ (hit : Hit). nat_lt sent hit.n) hits (λ hit less. raised_up sent hit.n small less)

-- and where a fault has it, it is used up
pub one_less_left : (hits : List Hit) (sent : ℕ) (command : Command) (blocks : ℕ) → All IsHit hits → sent ≤ 4294967295
    → is_some (hit_of hits (raised sent) command blocks) ≡ true → number_left hits (raised sent) + 1 ≤ number_left hits sent
one_less_left hits sent command blocks all small some = by (fault_of hits (raised sent)) refl some
  where
    by : (found : Option Hit) → fault_of hits (raised sent) ≡ found → is_some (if_of_kind found command blocks) ≡ true
        → number_left hits (raised sent) + 1 ≤ number_left hits sent
    by None is some = absurd (false≢true some)
    by (Some h) is some =
        let found = found_all IsHit (λ hit. hit.n == raised sent) hits h all is in
        let at : h.n ≡ raised sent = eqb-true h.n (raised sent) found.1 in
        let low : h.n ≤ 4294967294 = found.0.1 in
        fewer_by_one (λ (hit : Hit). nat_lt (raised sent) hit.n) (λ (hit : Hit). nat_lt sent hit.n) (λ hit. hit.n == raised sent) hits h
        (λ hit less. raised_up sent hit.n small less) is (le-ltb (raised sent) h.n (omega (arith, at))) (lt-ltb sent h.n (omega (arith, at, low, small)))
