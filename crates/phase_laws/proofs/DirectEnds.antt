-- How a direct command ends in the card: well, with a fault of the flash, or with the loss of power.
use Rattle.std.proofs.Common.{◌≡◌, ◌⊎◌, ◌≤◌, ◌&&◌, ℕ, refl, sym, ◌∙◌, ap, subst, inl, inr}
use Rattle.std.specs.Prelude.{Bool, true, false, cond, nat_le, Option, Some, None, Result, Ok, Err}
use Rattle.std.proofs.lemmas.Bool.{false≢true}
use Rattle.array_edge.specs.Array.{ArrayState}
use Rattle.bus_link.specs.Hits.{befalls, if_of_kind, is_execute, raised}
use Rattle.bus_link.specs.Script.{Script, armed}
use Rattle.card_core.specs.Card.{CardState}
use Rattle.card_core.specs.Response.{IsBarred, Responds, with_direct}
use Rattle.card_core.specs.Response as response
use Rattle.card_core.specs.Serving.{End, Served, by_end, without_error, word_answer, word_of}
use Rattle.card_core.specs.declared.ends.Dark.{Dark}
use Rattle.card_link.specs.Made.{after_response, is_lost}
use Rattle.card_store.specs.Store.{IsStore, Turns, kept as keeps, same, with_bar}
use Rattle.cmd_words.specs.declared.command.Command.{Command}
use Rattle.cmd_words.specs.declared.status.TheConstants.Status.{ERROR}
use Rattle.cq_desc.specs.declared.direct.DirectDesc.{DirectDesc}
use Rattle.intent_store.specs.declared.ends.StoreEnd.TheVariants.{Flash, PowerLost}
use Rattle.storage_model.specs.Keep.{every_sector}
use Rattle.storage_model.specs.declared.faults.BusKind.{BusKind}
use Rattle.storage_model.specs.declared.faults.BusKind.TheVariants.{Bad, Late, Lost, NoResp}
use Rattle.storage_model.specs.declared.faults.Hit.{Hit}
use Rattle.storage_model.specs.declared.plan.Job.{Job}
use Rattle.storage_model.specs.declared.plan.Job.TheVariants.{Flush, Barrier, Status}
use Rattle.trace_rules.specs.Phases.{is_whole}
use Rattle.world_state.specs.Path.{PathState, under_way}
use Rattle.phase_laws.proofs.BlockStops.{phase_so}
use Rattle.phase_laws.proofs.DirectLeft.{DirectLeft, barred_left, flushed_left, status_left, unflushed_left}
use Rattle.phase_laws.proofs.Directs.{DirectJob, asks, bars, direct_facts, flushes}

-- ---- what befalls it

two_kind : (kind : BusKind) (command : Command) (blocks : ℕ) → is_execute command ≡ false → is_lost (cond (befalls kind command blocks) (Some kind) None) ≡ false
    → (cond (befalls kind command blocks) (Some kind) None ≡ None) ⊎ (cond (befalls kind command blocks) (Some kind) None ≡ Some NoResp)
two_kind Lost command blocks plain free = absurd (false≢true (sym free))
two_kind NoResp command blocks plain free = inr refl
two_kind (Bad n) command blocks plain free = inl (ap (λ b. cond (b && nat_le n blocks) (Some (Bad n)) None) plain)
two_kind Late command blocks plain free = inl (ap (λ b. cond b (Some Late) None) plain)

-- nothing, or no response
pub two_kinds : (o : Option Hit) (command : Command) (blocks : ℕ) → is_execute command ≡ false → is_lost (if_of_kind o command blocks) ≡ false
    → (if_of_kind o command blocks ≡ None) ⊎ (if_of_kind o command blocks ≡ Some NoResp)
two_kinds None command blocks plain free = inl refl
two_kinds (Some hit) command blocks plain free = two_kind hit.kind command blocks plain free

pub response_sent : (hit : Option BusKind) (word : Result ℕ Dark) (s : Script) (command : Command) (blocks : ℕ)
    → (after_response hit word (armed s command blocks)).sent ≡ raised s.sent
response_sent None word s command blocks = refl
response_sent (Some Lost) word s command blocks = refl
response_sent (Some (Bad n)) word s command blocks = refl
response_sent (Some Late) word s command blocks = refl
response_sent (Some NoResp) (Ok word) s command blocks = refl
response_sent (Some NoResp) (Err end) s command blocks = refl

pub plain_command : (card : CardState) (j : Job) (int : Bool) (desc : DirectDesc) (on : card.csd.barrier ≡ true) (d : DirectJob j int desc)
    → is_execute (direct_facts card j int desc on d).command ≡ false
unfolding direct_facts
plain_command card j int desc on (flushes is e) = refl
plain_command card j int desc on (bars is e) = refl
plain_command card j int desc on (asks is e) = refl

-- ---- how it ends

pub data DirectEnd (p : PathState) (a : ArrayState) (j : Job) (new c : CardState) (a' : ArrayState) (word : Result ℕ Dark) : Type 0 where
  well : (count : ℕ) (kept : Bool) → word ≡ Ok without_error → new.begun ≡ phase_so 31 count kept → DirectLeft p a j count kept c a'
      → ((through : Bool) → is_whole through j count kept ≡ true) → DirectEnd p a j new c a' word
  fails : word ≡ Ok (word_of ERROR) → new.begun ≡ phase_so 31 0 false → DirectLeft p a j 0 false c a'
      → ((through : Bool) → is_whole through j 0 false ≡ false) → DirectEnd p a j new c a' word
  dark : word ≡ Err (record {}) → new.begun ≡ phase_so 31 0 false → DirectLeft p a j 0 false c a'
      → ((through : Bool) → is_whole through j 0 false ≡ false) → DirectEnd p a j new c a' word

flush_end : (p : PathState) (a : ArrayState) (new c : CardState) (a' : ArrayState) (word : Result ℕ Dark) → under_way p ≡ None → c.store ≡ new.store → IsStore c.store
    → Served word_answer (by_end (with_direct p.card 1 true) (with_direct p.card 0 false)) (keeps every_sector) p.card a new a' word
    → DirectEnd p a Flush new c a' word
flush_end p a new c a' word way alike store s = by_how s.end s.answers s.card s.turns
  where
    last : c.store.cache.last ≡ p.card.store.cache.last
    last = ap (λ v. v.cache.last) alike ∙ s.store.last

    by_how : (end : End) → word ≡ word_answer end → new ≡ record (by_end (with_direct p.card 1 true) (with_direct p.card 0 false) end) { store = new.store }
        → Turns (by_end (keeps every_sector) same end) p.card.store a new.store a' → DirectEnd p a Flush new c a' word
    by_how (Ok u) is card turns =
        well 1 true is (ap (λ v. v.begun) card)
        (flushed_left p a c a' way last s.ends.tells (subst (λ v. Turns (keeps every_sector) p.card.store a v a') (sym alike) turns) store) (λ through. refl)
    by_how (Err Flash) is card turns =
        fails is (ap (λ v. v.begun) card)
        (unflushed_left p a c a' way last s.ends.tells (subst (λ v. Turns same p.card.store a v a') (sym alike) turns) store) (λ through. refl)
    by_how (Err PowerLost) is card turns =
        dark is (ap (λ v. v.begun) card)
        (unflushed_left p a c a' way last s.ends.tells (subst (λ v. Turns same p.card.store a v a') (sym alike) turns) store) (λ through. refl)

barrier_end : (p : PathState) (a : ArrayState) (new c : CardState) (a' : ArrayState) (word : Result ℕ Dark) → under_way p ≡ None → c.store ≡ new.store
    → IsStore c.store → p.card.store.cache.last ≤ 4294967295 → IsBarred (with_direct p.card 1 false) p.card a new a' word → DirectEnd p a Barrier new c a' word
barrier_end p a new c a' word way alike store low s =
    well 1 false s.answer (ap (λ v. v.begun) s.card)
    (barred_left p a c a' way low (ap (λ v. v.cache.last) alike ∙ ap (λ v. v.last) s.epoch)
    (subst (λ v. Turns (with_bar p.card.store.cache.last) p.card.store a v a') (sym alike) s.turns) store s.array)
    (λ through. refl)

status_end : (p : PathState) (a : ArrayState) (new c : CardState) (a' : ArrayState) (word : Result ℕ Dark) → under_way p ≡ None → c.store ≡ new.store → IsStore c.store
    → Responds (response.Tell without_error (with_direct p.card 1 false)) p.card a new a' word → DirectEnd p a Status new c a' word
status_end p a new c a' word way alike store s =
    well 1 false s.0 (ap (λ v. v.begun) s.1) (status_left p a c a' way (alike ∙ ap (λ v. v.store) s.1) s.2 store) (λ through. refl)

-- new is the card that the command left, c the one behind it, of the same store
pub direct_end : (p : PathState) (a : ArrayState) (j : Job) (int : Bool) (desc : DirectDesc) (on : p.card.csd.barrier ≡ true) (d : DirectJob j int desc)
    (new c : CardState) (a' : ArrayState) (word : Result ℕ Dark) → under_way p ≡ None → c.store ≡ new.store → IsStore c.store → p.card.store.cache.last ≤ 4294967295
    → Responds (direct_facts p.card j int desc on d).does p.card a new a' word → DirectEnd p a j new c a' word
unfolding direct_facts
direct_end p a j int desc on (flushes is e) new c a' word way alike store low s =
    subst (λ v. DirectEnd p a v new c a' word) (sym is) (flush_end p a new c a' word way alike store s)
direct_end p a j int desc on (bars is e) new c a' word way alike store low s =
    subst (λ v. DirectEnd p a v new c a' word) (sym is) (barrier_end p a new c a' word way alike store low s)
direct_end p a j int desc on (asks is e) new c a' word way alike store low s =
    subst (λ v. DirectEnd p a v new c a' word) (sym is) (status_end p a new c a' word way alike store s)
