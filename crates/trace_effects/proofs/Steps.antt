-- The silent steps of a recovery that are taken before a cut.
use Rattle.std.proofs.Common.{inl, inr, ◌≡◌, ◌∙◌, ◌⊎◌, Bool, true, false, Option, ℕ, cond, ◌||◌, List, refl, ap}
use Rattle.std.specs.List.{list_any}
use Rattle.storage_machine.specs.Host.{recovery_steps, recovery_steps_at, to_do}
use Rattle.storage_machine.specs.Slots.{has, no_tasks}
use Rattle.storage_machine.specs.declared.slots.Question.TheVariants.{Issued}
use Rattle.storage_machine.specs.declared.state.Owed.TheVariants.{Dark}
use Rattle.storage_machine.specs.declared.state.Recovery.{Recovery}
use Rattle.storage_machine.specs.declared.state.Recovery.TheVariants.{Calm, Halted, Cleared, Discarded, Cleaned, Resumed}
use Rattle.storage_machine.specs.declared.state.State.{State}
use Rattle.trace_effects.specs.Cuts.{used}
use Rattle.trace_effects.specs.Effects.{at_cut, first_cut, is_last, line_used, over}

-- behind the last of them only what waits is to do
none_issued : has Issued no_tasks ≡ false
unfolding no_tasks
none_issued = refl

only_waits : (waits issued : Bool) → issued ≡ false → (waits || (issued || false)) ≡ waits
only_waits true issued none = refl
only_waits false true none = absurd (cc)
only_waits false false none = refl

to_do_over : (s : State) → to_do (record s { recovery = Calm; slots = no_tasks }) ≡ list_any (λ waits. waits) s.waiting
unfolding to_do
to_do_over s = only_waits (list_any (λ waits. waits) s.waiting) (has Issued no_tasks) none_issued

steps_over : (s : State) (recovery : Recovery) → (recovery ≡ Discarded) ⊎ ((recovery ≡ Cleaned) ⊎ (recovery ≡ Resumed)) → recovery_steps_at s recovery ≡ record s { recovery = Calm; slots = no_tasks }
steps_over s recovery (inl at) = ap (recovery_steps_at s) at
steps_over s recovery (inr (inl at)) = ap (recovery_steps_at s) at
steps_over s recovery (inr (inr at)) = ap (recovery_steps_at s) at

pub waits_over : (s : State) → (s.recovery ≡ Discarded) ⊎ ((s.recovery ≡ Cleaned) ⊎ (s.recovery ≡ Resumed)) → to_do (recovery_steps s) ≡ list_any (λ waits. waits) s.waiting
unfolding recovery_steps
waits_over s at = ap to_do (steps_over s s.recovery at) ∙ to_do_over s

-- they change the tasks and the recovery alone
abbrev pub Touched : State → State → Type 0
Touched s y = y ≡ record s { slots = y.slots; recovery = y.recovery }

touched_at : (s : State) (recovery : Recovery) → Touched s (recovery_steps_at s recovery)
touched_at s Calm = refl
touched_at s Halted = refl
touched_at s Cleared = refl
touched_at s Discarded = refl
touched_at s Cleaned = refl
touched_at s Resumed = refl

touched_by : (s : State) (last : Bool) → Touched s (cond last (recovery_steps s) s)
unfolding recovery_steps
touched_by s true = touched_at s s.recovery
touched_by s false = refl

pub touched : (s : State) → Touched s (at_cut s)
touched s = touched_by s (is_last s)

-- the power is lost behind them
pub cut_behind : (s a : State) (line : Option ℕ) (cuts : List Bool) (worked : Bool) → line ≡ line_used s s.event → a ≡ at_cut s → worked ≡ to_do a → cuts ≡ used a.cuts line
    → over (record a { worked = worked; cuts = cuts; spent = 0; notice = false; count = 0 }) (Dark 0) ≡ first_cut s
cut_behind s a line cuts worked at_line at at_worked at_cuts =
    ap (λ w. over (record a { worked = w; cuts = cuts; spent = 0; notice = false; count = 0 }) (Dark 0)) at_worked
    ∙ (ap (λ c. over (record a { worked = to_do a; cuts = c; spent = 0; notice = false; count = 0 }) (Dark 0)) at_cuts
    ∙ (ap (λ l. over (record a { worked = to_do a; cuts = used a.cuts l; spent = 0; notice = false; count = 0 }) (Dark 0)) at_line
    ∙ (ap (λ y. over (record y { worked = to_do y; cuts = used y.cuts (line_used s s.event); spent = 0; notice = false; count = 0 }) (Dark 0)) at
    ∙ ap (λ z. over (record z {
      slots = (at_cut s).slots;
      recovery = (at_cut s).recovery;
      worked = to_do (at_cut s);
      cuts = used z.cuts (line_used s s.event);
      spent = 0;
      notice = false;
      count = 0;
    }) (Dark 0)) (touched s))))
