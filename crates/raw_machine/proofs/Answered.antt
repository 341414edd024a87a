-- What a command that the card answered is in contents. A command looks at the queue, the extended CSD and the number of sectors alone, so a card
-- that has these answers as the card itself.
use Rattle.std.proofs.Common.{◌≡◌, ℕ, length, refl, sym, ◌∙◌, ap, subst, arith}
use Rattle.std.specs.Prelude.{◌+◌, Bool, true, false, nat_lt, Option, Some, None, is_some, is_ok, cond, Result, Ok, Err, [], slice_index_or, unwrap_or}
use Rattle.std.specs.Bool.{MatchBool, beq}
use Rattle.std.specs.Option.{option_map_or}
use Rattle.std.specs.Result.{result_ok}
use Rattle.std.proofs.lemmas.Bool.{true≢false}
use Rattle.std.proofs.lemmas.List.{get_or_past}
use Rattle.array_edge.specs.Array.{ArrayState}
use Rattle.bus_link.specs.Hits.{hit_of, raised}
use Rattle.bus_link.specs.Link.{is_poll}
use Rattle.bus_link.specs.Script.{Script, armed, next_word, word_used}
use Rattle.bus_link.specs.declared.link.LinkEnd.{LinkEnd}
use Rattle.card_core.specs.Card.{CardState, blocks_of}
use Rattle.card_core.specs.Response.{Responds, Response, accepted, change_response, forgotten, if_queueing, poll_response, refused, response_to, task_to_execute, with_begun}
use Rattle.card_core.specs.Response.Response.{FlushCache, SetBarrier, Tell}
use Rattle.card_core.specs.Serving.{by_end, word_of}
use Rattle.card_core.specs.declared.ends.Dark.{Dark}
use Rattle.card_link.specs.Behind.{Behind}
use Rattle.card_link.specs.Made.{Exchanges, IsHeard, IsLost, after_response, choice_of, heard, hit_on, is_lost, response_seen, sent}
use Rattle.card_store.specs.Store.{Contents, Stands as StoreStands, Store, kept, same, sectors_of, with_bar}
use Rattle.cmd_words.specs.declared.command.Command.{Command}
use Rattle.cmd_words.specs.declared.command.Command.TheVariants.{Address, Execute, Manage, Other, Params, Status, Switch}
use Rattle.cmd_words.specs.declared.command.Task.{Task}
use Rattle.cmd_words.specs.declared.status.Status.{Status as ErrorSet}
use Rattle.cmd_words.specs.declared.status.TheConstants.Status.{ADDRESS_OUT_OF_RANGE, ILLEGAL_COMMAND, SWITCH_ERROR}
use Rattle.cq_engine.specs.Words.{has_error}
use Rattle.epoch_cache.specs.Cache.{next_epoch}
use Rattle.ext_csd.specs.Switch.{Switched, switched}
use Rattle.ext_csd.specs.declared.csd.ExtCsd.{ExtCsd}
use Rattle.ext_csd.specs.declared.switch.Change.{Change}
use Rattle.ext_csd.specs.declared.switch.Change.TheVariants.{Barrier, CacheOff, Flush, Plain}
use Rattle.storage_model.specs.Keep.{every_sector}
use Rattle.storage_model.specs.declared.faults.BusKind.{BusKind}
use Rattle.storage_model.specs.declared.faults.BusKind.TheVariants.{Lost}
use Rattle.task_queue.specs.Places.{Queue}
use Rattle.task_queue.specs.Queue.{addressed, params_answer, take_answer}
use Rattle.task_queue.specs.declared.queue.Queued.{Queued}
use Rattle.raw_machine.specs.Answering.{Answers, Follows, all_ready, card_of, seen}
use Rattle.raw_machine.specs.Moving.{phase_of}
use Rattle.raw_machine.specs.State.{PlainCard}
use Rattle.raw_machine.specs.Telling.{IsQuietScript, plain}

-- the cards have the same queue and extended CSD, and the first one has this store
record IsAlike (held : Store) (card card' : CardState) : Type 0 where
  pub queue : card.queue ≡ card'.queue
  pub csd : card.csd ≡ card'.csd
  pub store : card.store ≡ held

-- the same is answered and done, and the cards after it are alike
abbrev AreAlike : Store → Response → Response → Type 0
AreAlike held (Tell word card) (Tell word' card') = (word ≡ word') × IsAlike held card card'
AreAlike held (SetBarrier card) (SetBarrier card') = IsAlike held card card'
AreAlike held (FlushCache well badly) (FlushCache well' badly') = IsAlike held well well' × IsAlike held badly badly'
AreAlike held _ _ = ⊥

-- the card of which a script tells
abbrev twin : CardState → Contents → CardState
twin old c = card_of (plain old c)

either_alike : (held : Store) (b : Bool) (good bad good' bad' : Response) → AreAlike held good good' → AreAlike held bad bad'
    → AreAlike held (cond b good bad) (cond b good' bad')
either_alike held true good bad good' bad' y n = y
either_alike held false good bad good' bad' y n = n

either_card : (held : Store) (b : Bool) (good bad good' bad' : CardState) → IsAlike held good good' → IsAlike held bad bad'
    → IsAlike held (cond b good bad) (cond b good' bad')
either_card held true good bad good' bad' y n = y
either_card held false good bad good' bad' y n = n

-- a task on a card of so many sectors gets its start sector
abbrev placed : CardState → (start sectors : ℕ) → Task → Response
placed card start sectors task =
    cond (nat_lt sectors (start + task.blocks)) (Tell (word_of ADDRESS_OUT_OF_RANGE) (record card { queue = forgotten card.queue task }))
    (accepted (record card { queue = addressed card.queue start }))

module _ (old : CardState) (c : Contents) where
  itself : IsAlike old.store old (twin old c)
  itself = record { queue = refl; csd = refl; store = refl }

  refused_alike : (error : ErrorSet) → AreAlike old.store (refused old error) (refused (twin old c) error)
  refused_alike error = (refl, itself)

  queueing_alike : (response response' : Response) → AreAlike old.store response response'
      → AreAlike old.store (if_queueing old response) (if_queueing (twin old c) response')
  queueing_alike response response' a =
      either_alike old.store old.csd.command_queue response (refused old ILLEGAL_COMMAND) response' (refused (twin old c) ILLEGAL_COMMAND) a
      (refused_alike ILLEGAL_COMMAND)

  params_alike : (ok : Bool) (task : Task)
      → AreAlike old.store (cond ok (accepted (record old { queue = record old.queue { waiting = Some task } })) (refused old ILLEGAL_COMMAND))
      (cond ok (accepted (record (twin old c) { queue = record old.queue { waiting = Some task } })) (refused (twin old c) ILLEGAL_COMMAND))
  params_alike true task = (refl, record { queue = refl; csd = refl; store = refl })
  params_alike false task = refused_alike ILLEGAL_COMMAND

  address_alike : (start sectors : ℕ) (waiting : Option Task) → sectors ≡ length c.base
      → AreAlike old.store (option_map_or (placed old start sectors) waiting (refused old ILLEGAL_COMMAND))
      (option_map_or (placed (twin old c) start (length c.base)) waiting (refused (twin old c) ILLEGAL_COMMAND))
  address_alike start sectors None e = refused_alike ILLEGAL_COMMAND
  address_alike start sectors (Some task) e =
      let P : ℕ → Type 0 = λ n. AreAlike old.store (placed old start n task) (placed (twin old c) start (length c.base) task) in
      subst P (sym e)
      (either_alike old.store (nat_lt (length c.base) (start + task.blocks)) _ _ _ _ (refl, record { queue = refl; csd = refl; store = refl })
      (refl, record { queue = refl; csd = refl; store = refl }))

  execute_alike : (queued : Option Queued)
      → AreAlike old.store (option_map_or (λ q. accepted (with_begun old q)) queued (refused old ILLEGAL_COMMAND))
      (option_map_or (λ q. accepted (with_begun (twin old c) q)) queued (refused (twin old c) ILLEGAL_COMMAND))
  execute_alike None = refused_alike ILLEGAL_COMMAND
  execute_alike (Some queued) = (refl, record { queue = refl; csd = refl; store = refl })

  change_alike : (csd : ExtCsd) (change : Change) → AreAlike old.store (change_response old csd change) (change_response (twin old c) csd change)
  change_alike csd Plain = (refl, record { queue = refl; csd = refl; store = refl })
  change_alike csd Barrier = record { queue = refl; csd = refl; store = refl }
  change_alike csd Flush = (record { queue = refl; csd = refl; store = refl }, record { queue = refl; csd = refl; store = refl })
  change_alike csd CacheOff = (record { queue = refl; csd = refl; store = refl }, itself)

  switch_alike : (switch : Option Switched)
      → AreAlike old.store (option_map_or (λ s. change_response old s.csd s.change) switch (refused old SWITCH_ERROR))
      (option_map_or (λ s. change_response (twin old c) s.csd s.change) switch (refused (twin old c) SWITCH_ERROR))
  switch_alike None = refused_alike SWITCH_ERROR
  switch_alike (Some switch) = change_alike switch.csd switch.change

  alike : sectors_of old.store ≡ Some (length c.base) → (command : Command) (choice : ℕ)
      → AreAlike old.store (response_to old command choice) (response_to (twin old c) command choice)
  unfolding response_to
  alike size (Switch arg) choice = switch_alike (switched old.csd arg)
  alike size (Status true rca) choice = queueing_alike _ _ (refl, record { queue = refl; csd = refl; store = refl })
  alike size (Status false rca) choice = (refl, record { queue = refl; csd = refl; store = refl })
  alike size (Params task) choice = queueing_alike _ _ (params_alike (is_ok (params_answer old.queue task)) task)
  alike size (Address start) choice =
      queueing_alike _ _ (address_alike start (unwrap_or (sectors_of old.store) 0) old.queue.waiting (ap (λ n. unwrap_or n 0) size))
  alike size (Execute read task) choice = queueing_alike _ _ (execute_alike (task_to_execute old read task))
  alike size (Manage whole task) choice = queueing_alike _ _ (refl, record { queue = refl; csd = refl; store = refl })
  alike size (Other index arg) choice = refused_alike ILLEGAL_COMMAND

-- only a poll asks which tasks are ready
chosen : (card : CardState) (command : Command) (choice : ℕ) → (is_poll command ≡ true → choice ≡ all_ready)
    → response_to card command choice ≡ response_to card command all_ready
unfolding response_to
chosen card (Status true rca) choice e = ap (λ n. if_queueing card (poll_response card n)) (e refl)
chosen card (Status false rca) choice e = refl
chosen card (Switch arg) choice e = refl
chosen card (Params task) choice e = refl
chosen card (Address start) choice e = refl
chosen card (Execute read task) choice e = refl
chosen card (Manage whole task) choice e = refl
chosen card (Other index arg) choice e = refl

-- a card of these parts, as a script sees it
pub plain_is : (card : CardState) (c : Contents) (queue : Queue) (csd : ExtCsd) (epoch : ℕ) → card.queue ≡ queue → card.csd ≡ csd
    → card.store.cache.last ≡ epoch → plain card c ≡ record { queue = queue; csd = csd; contents = c; epoch = epoch }
plain_is card c queue csd epoch q x e =
    let made : Queue → ExtCsd → ℕ → PlainCard = λ q x e. record { queue = q; csd = x; contents = c; epoch = e } in
    ap (λ q. made q card.csd card.store.cache.last) q ∙ ap (λ x. made queue x card.store.cache.last) x ∙ ap (λ e. made queue csd e) e

-- what the card did is what follows from the response, with contents in the place of the store
record IsFollowed (response : Response) (old new : CardState) (array array' : ArrayState) (c : Contents) (answer : Result ℕ Dark) : Type 0 where
  pub after : Contents
  pub follows : Follows response (plain old c) answer (plain new after)
  pub stands : StoreStands after new.store array'
  pub told : is_some array'.told ≡ is_some array.told

followed : (response response' : Response) (old new : CardState) (array array' : ArrayState) (c : Contents) (answer : Result ℕ Dark)
    → AreAlike old.store response response' → StoreStands c old.store array → Responds response old array new array' answer
    → IsFollowed response' old new array array' c answer
followed (Tell word card) (Tell word' card') old new array array' c answer a stands r =
    let well : ℕ → Result ℕ Dark = λ w. Ok w in
    let stays : new.store ≡ old.store = ap (λ n. n.store) r.1 ∙ a.1.store in
    let P : Store → Type 0 = λ s. StoreStands c s array in
    let Q : ArrayState → Type 0 = λ t. StoreStands c new.store t in
    record {
      after = c;
      follows = (
        r.0 ∙ ap well a.0,
        plain_is new c card'.queue card'.csd old.store.cache.last (ap (λ n. n.queue) r.1 ∙ a.1.queue) (ap (λ n. n.csd) r.1 ∙ a.1.csd)
            (ap (λ s. s.cache.last) stays),
      );
      stands = subst Q (sym r.2) (subst P (sym stays) stands);
      told = ap (λ t. is_some t.told) r.2;
    }
followed (SetBarrier card) (SetBarrier card') old new array array' c answer a stands b = record {
  after = with_bar old.store.cache.last c;
  follows = (
    b.answer,
    plain_is new (with_bar old.store.cache.last c) card'.queue card'.csd (next_epoch old.store.cache.last) (ap (λ n. n.queue) b.card ∙ a.queue)
        (ap (λ n. n.csd) b.card ∙ a.csd) (ap (λ cache. cache.last) b.epoch),
  );
  stands = b.turns c stands;
  told = ap (λ t. is_some t.told) b.array;
}
followed (FlushCache well badly) (FlushCache well' badly') old new array array' c answer a stands s =
    let both : IsAlike old.store (by_end well badly s.end) (by_end well' badly' s.end) =
    either_card old.store (is_ok s.end) well badly well' badly' a.0 a.1 in
    record {
      after = by_end (kept every_sector) same s.end c;
      follows = record {
        end = s.end;
        answers = s.answers;
        after =
            plain_is new (by_end (kept every_sector) same s.end c) (by_end well' badly' s.end).queue (by_end well' badly' s.end).csd
            old.store.cache.last (ap (λ n. n.queue) s.card ∙ both.queue) (ap (λ n. n.csd) s.card ∙ both.csd) s.store.last;
      };
      stands = s.turns c stands;
      told = s.ends.tells;
    }
followed _ _ old new array array' c answer a stands r = absurd a

-- The card answered a command, as a script can tell it.
pub record IsAnswered (command : Command) (old new : CardState) (array array' : ArrayState) (c : Contents) (answer : Result ℕ Dark) : Type 0 where
  pub after : Contents
  pub answers : Answers command (plain old c) answer (plain new after)
  pub stands : StoreStands after new.store array'
  pub told : is_some array'.told ≡ is_some array.told

pub answered : (command : Command) (choice : ℕ) (old new : CardState) (array array' : ArrayState) (c : Contents) (answer : Result ℕ Dark)
    → StoreStands c old.store array → (is_poll command ≡ true → choice ≡ all_ready)
    → Responds (response_to old command choice) old array new array' answer → IsAnswered command old new array array' c answer
answered command choice old new array array' c answer stands ready r =
    let P : Response → Type 0 = λ response. Responds response old array new array' answer in
    let f = followed (response_to old command all_ready) (response_to (twin old c) command all_ready) old new array array' c answer
    (alike old c stands.sectors command all_ready) stands (subst P (chosen old command choice ready) r) in
    record { after = f.after; answers = f.follows; stands = f.stands; told = f.told }

-- a bus without faults stays so
quiet_either : (b : Bool) (first second : Script) → IsQuietScript first → IsQuietScript second → IsQuietScript (cond b first second)
quiet_either true first second f s = f
quiet_either false first second f s = s

quiet_sent : (script : Script) (command : Command) (blocks : ℕ) → IsQuietScript script → IsQuietScript (armed script command blocks)
quiet_sent script command blocks q =
    record { hits = q.hits; ready = q.ready; hit = ap (λ hits. hit_of hits (raised script.sent) command blocks) q.hits }

quiet_heard : (script : Script) (command : Command) → IsQuietScript script → IsQuietScript (heard script command)
quiet_heard script command q =
    quiet_either (is_poll command) (word_used script) script
    (quiet_either _ _ script (record { hits = q.hits; ready = q.ready; hit = q.hit }) q) q

unhit : (old : Behind) (command : Command) → IsQuietScript old.script → hit_on old command ≡ None
unhit old command q = ap (λ hits. hit_of hits (raised old.script.sent) command (blocks_of old.card command)) q.hits

-- no command is lost
heard_so : (command : Command) (old new : Behind) (result : Result ℕ LinkEnd) → IsQuietScript old.script → Exchanges command old new result
    → IsHeard command old new result
heard_so command old new result q e =
    let P : Option BusKind → Type 0 = λ hit.
    MatchBool (is_lost hit) (IsLost Lost old new (sent old command) result) (IsHeard command old new result) in
    subst P (unhit old command q) e

seen_is : (answer : Result ℕ Dark) → response_seen None answer ≡ seen answer
seen_is (Ok word) = refl
seen_is (Err dark) = refl

ready_all : (script : Script) → IsQuietScript script → next_word script ≡ all_ready
ready_all script q =
    ap (λ ready. slice_index_or ready script.used all_ready) q.ready ∙ get_or_past {X = ℕ} [] script.used all_ready (omega arith)

-- The same over a bus without faults.
pub record IsExchanged (command : Command) (old new : Behind) (c : Contents) (result : Result ℕ LinkEnd) : Type 0 where
  pub answer : Result ℕ Dark
  pub seen_so : result ≡ seen answer
  pub script : IsQuietScript new.script
  pub is : IsAnswered command old.card new.card old.array new.array c answer

heard_script : (command : Command) (old new : Behind) (result : Result ℕ LinkEnd) → IsQuietScript old.script → IsHeard command old new result
    → IsQuietScript new.script
heard_script command old new result q h =
    let next = heard (sent old command) command in
    let same_script : new.script ≡ next = h.script ∙ ap (λ hit. after_response hit h.answer next) (unhit old command q) in
    let P : Script → Type 0 = λ s. IsQuietScript s in
    subst P (sym same_script)
    (quiet_heard (sent old command) command (quiet_sent old.script command (blocks_of old.card command) q))

heard_seen : (command : Command) (old new : Behind) (result : Result ℕ LinkEnd) → IsQuietScript old.script → (h : IsHeard command old new result)
    → result ≡ seen h.answer
heard_seen command old new result q h = h.seen ∙ ap (λ hit. response_seen hit h.answer) (unhit old command q) ∙ seen_is h.answer

pub exchanged : (command : Command) (old new : Behind) (c : Contents) (result : Result ℕ LinkEnd) → IsQuietScript old.script
    → StoreStands c old.card.store old.array → Exchanges command old new result → IsExchanged command old new c result
exchanged command old new c result q stands e =
    let h = heard_so command old new result q e in
    let out = sent old command in
    let out_quiet : IsQuietScript out = quiet_sent old.script command (blocks_of old.card command) q in
    record {
      answer = h.answer;
      seen_so = heard_seen command old new result q h;
      script = heard_script command old new result q h;
      is =
          answered command (choice_of out command) old.card new.card old.array new.array c h.answer stands
          (λ polls. ap (λ b. cond b (next_word out) 0) polls ∙ ready_all out out_quiet) h.responds;
    }

-- CMD46 or CMD47 had no error: a task was taken out of the queue, and its data phase is open. Nothing else is different.
pub record HasBegun (read : Bool) (slot word : ℕ) (old new : Behind) (c : Contents) : Type 0 where
  pub queued : Queued
  pub taken : task_to_execute (card_of (plain old.card c)) read slot ≡ Some queued
  pub direction : queued.task.read ≡ read
  pub answers : Answers (Execute read slot) (plain old.card c) (Ok word) (plain new.card c)
  pub card : new.card ≡ with_begun old.card queued
  pub phase : new.card.phase ≡ Some (phase_of queued)
  pub array : new.array ≡ old.array
  pub script : IsQuietScript new.script
  pub stands : StoreStands c new.card.store new.array

-- a task is begun, and the card answers so, or the answer has an error
record IsBegun (on : Bool) (place : Option Queued) (word : ℕ) (old new : CardState) (before after : ArrayState) (c : Contents) : Type 0 where
  pub queued : Queued
  pub is : place ≡ Some queued
  pub card : new ≡ with_begun old queued
  pub array : after ≡ before
  pub follows : Follows
      (cond on (option_map_or (λ q. accepted (with_begun (twin old c) q)) place (refused (twin old c) ILLEGAL_COMMAND))
      (refused (twin old c) ILLEGAL_COMMAND)) (plain old c) (Ok word) (plain new c)

not_refused : (word : ℕ) (answer : Result ℕ Dark) → has_error word ≡ false → answer ≡ Ok word → answer ≡ Ok (word_of ILLEGAL_COMMAND) → ⊥
not_refused word answer none is told =
    let w : word_of ILLEGAL_COMMAND ≡ word = cc (is, told) in
    true≢false (ap has_error w ∙ none)

begun_if : (on : Bool) (place : Option Queued) (word : ℕ) (old new : CardState) (array array' : ArrayState) (c : Contents) (answer : Result ℕ Dark)
    → has_error word ≡ false → answer ≡ Ok word
    → Responds (cond on (option_map_or (λ q. accepted (with_begun old q)) place (refused old ILLEGAL_COMMAND)) (refused old ILLEGAL_COMMAND))
    old array new array' answer → IsBegun on place word old new array array' c
begun_if false place word old new array array' c answer none is r = absurd (not_refused word answer none is r.0)
begun_if true None word old new array array' c answer none is r = absurd (not_refused word answer none is r.0)
begun_if true (Some queued) word old new array array' c answer none is r = record {
  queued = queued;
  is = refl;
  card = r.1;
  array = r.2;
  follows = (
    sym is ∙ r.0,
    plain_is new c (with_begun old queued).queue old.csd old.store.cache.last (ap (λ n. n.queue) r.1) (ap (λ n. n.csd) r.1)
        (ap (λ n. n.store.cache.last) r.1),
  );
}

same_way : (a b : Bool) → beq a b ≡ true → a ≡ b
same_way true true e = refl
same_way true false e = sym e
same_way false true e = e
same_way false false e = refl

-- the task to execute is of the direction
in_direction : (agrees : Bool) (task queued : Queued) (read : Bool) → beq task.task.read read ≡ agrees
    → cond agrees (Some task) None ≡ Some queued → queued.task.read ≡ read
in_direction true task queued read way e =
    let same_task : task ≡ queued = cc e in
    let P : Queued → Type 0 = λ q. q.task.read ≡ read in
    subst P same_task (same_way task.task.read read way)
in_direction false task queued read way e = absurd (cc e)

directed : (place : Option Queued) (queued : Queued) (read : Bool)
    → option_map_or (λ q. cond (beq q.task.read read) (Some q) None) place None ≡ Some queued → queued.task.read ≡ read
directed None queued read e = absurd (cc e)
directed (Some task) queued read e = in_direction (beq task.task.read read) task queued read refl e

-- a word that is seen was answered
answer_of : (answer : Result ℕ Dark) (word : ℕ) → Ok word ≡ seen answer → answer ≡ Ok word
answer_of (Ok other) word e = let same_word : word ≡ other = cc e in let well : ℕ → Result ℕ Dark = λ w. Ok w in ap well (sym same_word)
answer_of (Err dark) word e = absurd (cc e)

pub begun : (read : Bool) (slot word : ℕ) (old new : Behind) (c : Contents) → IsQuietScript old.script → StoreStands c old.card.store old.array
    → Exchanges (Execute read slot) old new (Ok word) → has_error word ≡ false → HasBegun read slot word old new c
unfolding response_to
begun read slot word old new c q stands e none =
    let h = heard_so (Execute read slot) old new (Ok word) q e in
    let is : h.answer ≡ Ok word = answer_of h.answer word (heard_seen (Execute read slot) old new (Ok word) q h) in
    let b = begun_if old.card.csd.command_queue (task_to_execute old.card read slot) word old.card new.card old.array new.array c h.answer none is h.responds in
    let P : Store → Type 0 = λ s. StoreStands c s old.array in
    let Q : ArrayState → Type 0 = λ t. StoreStands c new.card.store t in
    record {
      queued = b.queued;
      taken = b.is;
      direction = directed (result_ok (take_answer old.card.queue slot)) b.queued read b.is;
      answers = b.follows;
      card = b.card;
      phase = ap (λ card. card.phase) b.card;
      array = b.array;
      script = heard_script (Execute read slot) old new (Ok word) q h;
      stands = subst Q (sym b.array) (subst P (sym (ap (λ card. card.store) b.card)) stands);
    }
