-- What a loss of power comes to, by what comes of the openings.
use Rattle.std.proofs.Common.{◌≡◌, ◌∷◌, inl, inr, ℕ, List, [], OnOk, Result, Ok, Err, refl, sym, subst}
use Rattle.io_edge.specs.Sink.{Joins}
use Rattle.storage_model.specs.declared.ends.Halt.{Halt}
use Rattle.storage_model.specs.declared.ends.Halt.TheVariants.{SinkFailed}
use Rattle.storage_model.specs.declared.trace.Item.TheVariants.{Cut, On}
use Rattle.array_edge.specs.Array.{ArrayState}
use Rattle.card_core.specs.Card.{CardState}
use Rattle.dark_laws.specs.Anew.{Outlasts, set_anew}
use Rattle.trace_print.specs.Prints.{Takes}
use Rattle.trace_text.specs.Trace.{items_text}
use Rattle.world_state.specs.Path.{PathState}
use Rattle.power_step.specs.Cut.{LostWritten, OpensAgain, PowerReturns}
use Rattle.power_step.specs.Loses.{IsBackOn, Loses}
use Rattle.power_step.proofs.Backs.{AreNoted, lit_back, lit_loses, unlit_loses}
use Rattle.power_step.proofs.Darks.{opens_dark}
use Rattle.power_step.proofs.Taking.{part_of_one}
use Rattle.power_step.specs.Wrote.{TakesPart}

module _ {K : Type 0} (took : K → List ℕ → K → Type 0) (pending : List ℕ) (old : K) (card : CardState) (a : ArrayState) where
  -- the run ended in an opening
  pub stays_off : (new : K) (card' : CardState) (a' : ArrayState) (halt : Halt) → OpensAgain took old card a (Err halt) new card' a' → PowerReturns took pending old card a (Err halt) new card' a'
  stays_off new card' a' halt opens = inl (record { halt = halt; failed = refl; opens = opens })

  -- the line that the power is on broke off
  pub unlit : (mid new : K) (card' : CardState) (a' : ArrayState) (halt : Halt) → OpensAgain took old card a (Ok tt) mid card' a' → Takes took mid (On ∷ []) (Err halt) new → halt ≡ SinkFailed
      → PowerReturns took pending old card a (Err halt) new card' a'
  unlit mid new card' a' halt opens line is = subst (λ h. Takes took mid (On ∷ []) (Err h) new → PowerReturns took pending old card a (Err h) new card' a') (sym is)
      (λ part. inr (inl (record { failed = refl; reopened = mid; opens = opens; part = part_of_one took mid new On part }))) line

module _ {K : Type 0} (took : K → List ℕ → K → Type 0) (both : Joins took) (p : PathState) (a : ArrayState) (out : Outlasts p) (pending : List ℕ) (noted : AreNoted pending p.card) (begun : PathState) (is : begun ≡ set_anew p p.card p.script) where
  module _ (old m1 m2 new : K) (card' : CardState) (a' : ArrayState) (result : Result (Unit {0}) Halt) (first : took old (items_text (Cut ∷ [])) m1) (lost : LostWritten took p.driver.requests.holders 0 m1 (Ok tt) m2) where
    unlit_at : (m3 : K) → OpensAgain took m2 begun.card a (Ok tt) m3 card' a' → TakesPart took m3 (On ∷ []) new → Loses took p a old (Err SinkFailed) (record begun { card = card' }) a' new
    unlit_at m3 opens part =
        unlit_loses took both p (record begun { card = card' }) a out old m1 m2 m3 new card' a' first lost
        (subst (λ (q : PathState). OpensAgain took m2 q.card a (Ok tt) m3 card' a') is opens) part

    pub cut_loses : PowerReturns took pending m2 begun.card a result new card' a' → Loses took p a old result (record begun { card = card' }) a' new
    cut_loses (inl off) =
        subst (λ r. Loses took p a old r (record begun { card = card' }) a' new) (sym off.failed)
        (opens_dark took both p (record begun { card = card' }) a out old m1 first m2 lost begun.card card' a' new off.halt off.opens)
    cut_loses (inr (inl off)) =
        subst (λ r. Loses took p a old r (record begun { card = card' }) a' new) (sym off.failed) (unlit_at off.reopened off.opens off.part)
    cut_loses (inr (inr on)) = lit_loses took both p a out pending noted begun is old m1 m2 on.reopened on.lit new on.opened card' on.shown a' result first lost on.opens on.on on.left on.store

    pub cut_back : PowerReturns took pending m2 begun.card a result new card' a' → OnOk result (IsBackOn p a (record begun { card = card' }) a')
    cut_back (inl off) = subst (λ r. OnOk r (IsBackOn p a (record begun { card = card' }) a')) (sym off.failed) tt
    cut_back (inr (inl off)) = subst (λ r. OnOk r (IsBackOn p a (record begun { card = card' }) a')) (sym off.failed) tt
    cut_back (inr (inr on)) = lit_back took both p a out pending noted begun is old m1 m2 on.reopened on.lit new on.opened card' on.shown a' result first lost on.opens on.on on.left on.store
