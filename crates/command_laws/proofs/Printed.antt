-- An event of the engine that prints one line, and one that prints none.
use Rattle.std.proofs.Common.{◌≡◌, Bool, true, false, cond, refl, ◌∙◌, ap}
use Rattle.std.specs.Prelude.{not, ◌&&◌, [], ◌∷◌, None}
use Rattle.storage_machine.specs.Cuts.{least}
use Rattle.storage_machine.specs.Commands.{due, hit, is_calm}
use Rattle.storage_machine.specs.declared.state.Event.TheVariants.{Told as ToldEvent}
use Rattle.storage_machine.specs.declared.state.Owed.TheVariants.{Nothing}
use Rattle.storage_machine.specs.declared.state.State.{State}
use Rattle.storage_model.specs.declared.faults.Letter.TheVariants.{Engine as EngineActs}
use Rattle.storage_model.specs.declared.trace.Item.{Item}
use Rattle.storage_order.specs.Events.{Happens, closed, end_rule, ended, is_over, is_untold}
use Rattle.trace_effects.specs.Effects.{begun, effect}
use Rattle.trace_rules.specs.Lines.{holds, is_for, is_free, line_rule, owing, owing_past, rule_of}
use Rattle.trace_rules.specs.Steps.{is_cut, is_first_work, is_line_of}

-- an event of the engine has begun
abbrev pub told : State → State
told s = record s { owed = Nothing; event = ToldEvent EngineActs }

not_and : (b : Bool) → not (b && false) ≡ true
not_and true = refl
not_and false = refl

line_holds : (s : State) (item : Item) → holds (told s) item ≡ true → line_rule (told s) item ≡ None
unfolding line_rule
line_holds s item h =
    ap (λ b. cond b (cond (is_for (told s).owed item) None (owing (told s).owed)) (least (owing_past (told s) item) (rule_of item))) h

pub one_line : (s : State) (item : Item) (t : State) → is_free s.owed ≡ true → is_untold s.event ≡ true → holds (told s) item ≡ true
    → is_line_of EngineActs (is_calm s.recovery) item ≡ true → is_first_work (told s) item ≡ true → is_cut item ≡ false
    → is_over (effect (told s) item).owed ≡ true → is_untold (effect (told s) item).event ≡ true
    → t ≡ record (effect (told s) item) { owed = closed (effect (told s) item).owed } → Happens s EngineActs (item ∷ []) t
unfolding begun
one_line s item t free untold h of_engine first no_cut over event e = record {
  free = free;
  untold = untold;
  makes = record {
    last = effect (told s) item;
    begins = record {
      told = refl;
      first = record { line = line_holds s item h; stands = of_engine; first = first };
      phase = ap (λ b. not (s.busy && b)) no_cut ∙ not_and s.busy;
      more = refl;
    };
    over = over;
    event = event;
    state = e;
  };
}

pub no_line : (s t : State) → is_free s.owed ≡ true → is_untold s.event ≡ true → end_rule (told s) ≡ None → t ≡ ended (told s) → Happens s EngineActs [] t
unfolding begun
no_line s t free untold h e = record { free = free; untold = untold; makes = (h, e) }

-- what is due, and what befalls it, doesn't hang on the event
pub due_told : (s : State) → due (told s) ≡ due s
unfolding due
due_told s = refl

pub hit_told : (s : State) → hit (told s) ≡ hit s
unfolding hit due
hit_told s = refl
