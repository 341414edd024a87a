-- Contents and numbers after a command: no data phase was under way, and none is.
use Rattle.std.proofs.Common.{◌≡◌, ◌≢◌, ◌<◌, ◌≤◌, ◌+◌, ◌-◌, ◌==◌, ℕ, false, cond, length, refl, sym, ◌∙◌, ap, subst, arith, min, inl, inr}
use Rattle.std.specs.Prelude.{is_some, List, ◌++◌, Some, None, IfSome, slice_index_or}
use Rattle.std.proofs.lemmas.Bool.{eq-eqb, false≢true, ne_eqb}
use Rattle.std.proofs.lemmas.Bool.Decides.{eqb_tells}
use Rattle.std.proofs.lemmas.List.{get_or-set_other, get_or-set_same, length-set}
use Rattle.array_edge.specs.Array.{ArrayState}
use Rattle.bus_link.specs.Script.{Script}
use Rattle.card_core.specs.Card.{CardState}
use Rattle.card_store.specs.Store.{Contents, Stands as StoreStands, Store}
use Rattle.cq_engine.specs.Outcome.{Holding}
use Rattle.cq_regs.specs.State.{Registers}
use Rattle.drv_jobs.specs.Changes.{faults_of}
use Rattle.drv_jobs.specs.Sound.{IsHeld}
use Rattle.intent_store.specs.Intent.{shown_by}
use Rattle.storage_machine.specs.declared.state.Stop.TheVariants as stop
use Rattle.storage_model.specs.declared.block.Block.{Block}
use Rattle.storage_model.specs.declared.marks.Mark.{Mark}
use Rattle.trace_effects.specs.Cuts.{places_of}
use Rattle.trace_effects.specs.Effects.{named_more}
use Rattle.world_state.specs.Path.{PathState, holder, plan_of, under_way}
use Rattle.world_state.specs.Reading.{Context, stop_of}
use Rattle.world_state.specs.Stands.{Agrees, AreNamed, HasReadSoFar, contents_of, marks_moved_by, named_at, names, sent_of}
use Rattle.world_state.specs.Ties.{AreTied}
use Rattle.command_laws.proofs.Onwards.{quiet}
use Rattle.command_laws.proofs.Parts.{path_with}

abbrev pub contents_at : List Block → List Mark → Contents
contents_at base pend = record { base = base; pend = pend }

-- the context with another number, and other counts of faults
abbrev pub context_with : Context → ℕ → List ℕ → Context
context_with c n named = record c { n = n; named = named }

pub agrees_on : (p : PathState) (engine : Holding) (regs : Registers) (card : CardState) (script : Script) (a : ArrayState) (c : Context) (n : ℕ) (named : List ℕ)
    → Agrees p a c → AreTied (path_with p engine regs card script) → under_way p ≡ None → under_way (path_with p engine regs card script) ≡ None
    → card.store ≡ p.card.store → script.sent ≡ n → AreNamed (path_with p engine regs card script) named
    → Agrees (path_with p engine regs card script) a (context_with c n named)
agrees_on p engine regs card script a c n named g t was way store number are =
    let q = path_with p engine regs card script in
    let same : contents_of p c ≡ contents_of q (context_with c n named) =
    ap (λ w. contents_at c.base (c.pend ++ marks_moved_by p w)) was ∙ sym (ap (λ w. contents_at c.base (c.pend ++ marks_moved_by q w)) way) in
    let S : Contents → Store → Type 0 = λ x s. StoreStands x s a in
    let D : Contents → Type 0 =
    λ x. (plan_of p).through ≡ false → c.staged ≡ false → c.kept ≡ false → length (places_of x.pend) < (plan_of p).lines
    → IfSome (shown_by a) (λ pages. pages ≡ c.base) in
    record {
      told = g.told;
      tied = t;
      number = number ∙ sym (ap (λ o. sent_of (is_some o) n) way);
      named = are;
      store = subst (λ x. S x card.store) same (subst (λ s. S (contents_of p c) s) (sym store) g.store);
      within = g.within;
      read = quiet (HasReadSoFar q (context_with c n named)) (under_way q) way;
      few = g.few;
      deferred = subst D same g.deferred;
    }

-- no fault named a request
pub named_same : (p : PathState) (engine : Holding) (regs : Registers) (card : CardState) (script : Script) (named : List ℕ) → AreNamed p named
    → stop_of p ≡ stop.Running → ((id : ℕ) → names (stop_of (path_with p engine regs card script)) id ≡ 0) → AreNamed (path_with p engine regs card script) named
named_same p engine regs card script named g was none = record {
  long = g.long;
  waiting = g.waiting;
  issued = λ tag id is.
      g.issued tag id is ∙ ap (λ s. min (faults_of p.driver.requests id + names s id) 4) was
      ∙ sym (ap (λ n. min (faults_of p.driver.requests id + n) 4) (none id));
}

one_more : (f n : ℕ) → n ≡ min (f + 0) 4 → min (n + 1) 4 ≡ min (f + 1) 4
one_more f n e = rw e (omega arith)

apart_by : (a b : ℕ) → 1 ≤ a → 1 ≤ b → a ≢ b → a - 1 ≢ b - 1
apart_by a b low high apart e = apart (omega (arith, low, high, e))

-- one fault named a request
pub named_once : (p : PathState) (engine : Holding) (regs : Registers) (card : CardState) (script : Script) (named : List ℕ) (slot id : ℕ) → AreTied p → AreNamed p named
    → stop_of p ≡ stop.Running → holder p slot ≡ Some id → stop_of (path_with p engine regs card script) ≡ stop.Bus (Some id)
    → AreNamed (path_with p engine regs card script) (named_more named (Some id))
named_once p engine regs card script named slot id t g was is now =
    let held : IsHeld p.driver.requests.waiting p.driver.requests.holders slot id = t.sound.held slot id is in
    let more = min (named_at named id + 1) 4 in
    let inside : id - 1 < length named = omega (arith, held.above, held.below, t.sound.waiting, g.long) in
    record {
      long = length-set named (id - 1) more ∙ g.long;
      waiting = λ other waits.
          let apart : other - 1 ≢ id - 1 = λ e.
          false≢true (sym held.waits ∙ ap (λ k. slice_index_or p.driver.requests.waiting k false) (sym e) ∙ waits) in
          get_or-set_other named (id - 1) (other - 1) more 0 apart ∙ g.waiting other waits;
      issued = λ tag other at.
          let Goal : ℕ → Type 0 = λ n.
          named_at (named_more named (Some id)) n ≡ min (faults_of p.driver.requests n + names (stop_of (path_with p engine regs card script)) n) 4 in
          let now_is : (n : ℕ) → names (stop_of (path_with p engine regs card script)) n ≡ cond (id == n) 1 0 = λ n. ap (λ s. names s n) now in
          let then_is : (n : ℕ) → names (stop_of p) n ≡ 0 = λ n. ap (λ s. names s n) was in
          elim (eqb_tells other id) [
            | inl e ↦
                let own : named_at named id ≡ min (faults_of p.driver.requests id + 0) 4 =
                g.issued slot id is ∙ ap (λ n. min (faults_of p.driver.requests id + n) 4) (then_is id) in
                subst Goal (sym e.1)
                (get_or-set_same named (id - 1) more 0 inside ∙ one_more (faults_of p.driver.requests id) (named_at named id) own
                ∙ sym (ap (λ n. min (faults_of p.driver.requests id + n) 4) (now_is id ∙ ap (λ b. cond b 1 0) (eq-eqb id id refl))))
            | inr e ↦
                let others : IsHeld p.driver.requests.waiting p.driver.requests.holders tag other = t.sound.held tag other at in
                get_or-set_other named (id - 1) (other - 1) more 0 (apart_by other id others.above held.above e.1)
                ∙ g.issued tag other at ∙ ap (λ n. min (faults_of p.driver.requests other + n) 4) (then_is other)
                ∙ sym (ap (λ n. min (faults_of p.driver.requests other + n) 4)
                (now_is other ∙ ap (λ b. cond b 1 0) (ne_eqb id other (λ x. e.1 (sym x)))))
          ];
    }
