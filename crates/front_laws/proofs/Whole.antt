-- An event's lines of which the first may be a phase's and the others change neither contents nor marks: what may be left behind them is near each state between.
use Rattle.std.proofs.Common.{◌≡◌, ◌∙◌, ℕ, Bool, true, false, cond, List, [], ◌∷◌, ◌++◌, Option, None, Some, refl, ap, sym, subst}
use Rattle.std.specs.Prelude.{◌&&◌, ◌||◌, IfSome, if◌then◌else◌, is_some}
use Rattle.std.proofs.lemmas.Bool.{and_parts, false≢true}
use Rattle.storage_model.specs.Left.{is_left}
use Rattle.storage_model.specs.declared.block.Block.{Block}
use Rattle.storage_model.specs.declared.faults.Letter.{Letter}
use Rattle.storage_model.specs.declared.marks.Mark.{Mark}
use Rattle.storage_model.specs.declared.trace.Item.{Item}
use Rattle.storage_model.specs.declared.trace.Item.TheVariants.{Card, Issue, Params, Address, Poll, Phase, Discard, Bus, Flash, Recover, Irq, Done, Read, Sector, Status, Fault, Refused, Cut, Lost, On, Left, Turn, Off}
use Rattle.storage_machine.specs.Cuts.{least}
use Rattle.storage_machine.specs.declared.state.State.{State}
use Rattle.storage_order.specs.Events.{Begins, Fits, Happens, Lasts, Makes, More, Starts}
use Rattle.storage_order.specs.Order.{is_phase}
use Rattle.trace_effects.specs.Effects.{begun, effect}
use Rattle.trace_rules.specs.Lines.{holds, is_for, line_rule, owing, owing_past, rule_of}
use Rattle.array_edge.specs.Array.{ArrayState}
use Rattle.card_store.proofs.Turning.{lines_left}
use Rattle.card_store.specs.Stands.{LinesStand}
use Rattle.card_store.specs.Store.{Stands as StoreStands, Store}
use Rattle.cut_order.specs.Order.{OrderState}
use Rattle.intent_store.specs.Intent.{shown_by}
use Rattle.front_laws.proofs.Lines.{all_still, is_still, more_still, still_front, still_same}
use Rattle.front_laws.proofs.Nears.{near_left}
use Rattle.front_laws.proofs.Now.{busy_of}
use Rattle.front_laws.proofs.Phases.{phase_near}
use Rattle.front_laws.specs.Fronts.{FrontsNear}
use Rattle.std.proofs.lemmas.List.{append-nil}
use Rattle.world_state.specs.Path.{PathState, is_busy, under_way}
use Rattle.world_state.specs.Reading.{Context, state_of}
use Rattle.world_state.specs.Stands.{Agrees, IsNear, contents_of, marks_moved, marks_moved_by}
use Rattle.world_state.specs.Told.{Darkened, Darkens, Told, Tells}

abbrev pub is_front : List Item → Bool
is_front [] = true
is_front (item ∷ items) = (is_phase item || is_still item) && all_still items

-- a line that may stand
holds_if : (b c : Bool) (owed : Option ℕ) (past : Option ℕ) (rule : ℕ) → (if b then (if c then None else owed) else least past rule) ≡ None → b ≡ true
holds_if true c owed past rule e = refl
holds_if false c owed None rule e = absurd (cc (e))
holds_if false c owed (Some other) rule e = absurd (cc (e))

pub fits_holds : (s : State) (item : Item) → Fits s item → holds s item ≡ true
unfolding line_rule
fits_holds s item fits = holds_if (holds s item) (is_for s.owed item) (owing s.owed) (owing_past s item) (rule_of item) fits.line

-- what may be left behind the first line
still_near : (s : State) (item : Item) (pages : List Block) → is_still item ≡ true → is_left (effect s item).base (effect s item).pend pages ≡ true → IsNear s pages
still_near s item pages still h =
    let same = still_same s item still in
    near_left s pages (subst (λ base. is_left base s.pend pages ≡ true) same.base (subst (λ pend. is_left (effect s item).base pend pages ≡ true) same.pend h))

first_near : (s : State) (item : Item) (pages : List Block) → (is_phase item || is_still item) ≡ true → holds s item ≡ true
    → is_left (effect s item).base (effect s item).pend pages ≡ true → IsNear s pages
unfolding holds
first_near s (Card sectors depth lines) pages may h left = absurd (cc (may))
first_near s (Turn letter) pages may h left = absurd (cc (may))
first_near s (Issue id tag) pages may h left = still_near s (Issue id tag) pages refl left
first_near s (Params n id) pages may h left = still_near s (Params n id) pages refl left
first_near s (Address n id) pages may h left = still_near s (Address n id) pages refl left
first_near s (Poll n mask) pages may h left = still_near s (Poll n mask) pages refl left
first_near s (Phase n id count kept) pages may h left = phase_near s n id count kept pages h left
first_near s (Bus n kind id) pages may h left = still_near s (Bus n kind id) pages refl left
first_near s (Flash id) pages may h left = still_near s (Flash id) pages refl left
first_near s (Irq mask) pages may h left = still_near s (Irq mask) pages refl left
first_near s (Done id) pages may h left = still_near s (Done id) pages refl left
first_near s (Read id) pages may h left = still_near s (Read id) pages refl left
first_near s (Sector value) pages may h left = still_near s (Sector value) pages refl left
first_near s (Status id word) pages may h left = still_near s (Status id word) pages refl left
first_near s Recover pages may h left = still_near s Recover pages refl left
first_near s (Discard n) pages may h left = still_near s (Discard n) pages refl left
first_near s (Fault id why) pages may h left = still_near s (Fault id why) pages refl left
first_near s (Refused id why) pages may h left = still_near s (Refused id why) pages refl left
first_near s Cut pages may h left = absurd (cc (may))
first_near s (Lost id) pages may h left = absurd (cc (may))
first_near s On pages may h left = absurd (cc (may))
first_near s (Left sector value) pages may h left = absurd (cc (may))
first_near s (Off end) pages may h left = absurd (cc (may))

-- behind still lines the same may be left
back_left : (s t : State) (items : List Item) (pages : List Block) → all_still items ≡ true → More s items t → is_left t.base t.pend pages ≡ true → is_left s.base s.pend pages ≡ true
back_left s t items pages still more h =
    let same = more_still s t items still more in
    subst (λ base. is_left base s.pend pages ≡ true) same.base (subst (λ pend. is_left t.base pend pages ≡ true) same.pend h)

on_left : (s t : State) (items : List Item) (pages : List Block) → all_still items ≡ true → More s items t → is_left s.base s.pend pages ≡ true → is_left t.base t.pend pages ≡ true
on_left s t items pages still more h =
    let same = more_still s t items still more in
    subst (λ base. is_left base t.pend pages ≡ true) (sym same.base) (subst (λ pend. is_left s.base pend pages ≡ true) (sym same.pend) h)

pub no_items : {X : Type 0} (whole : List X) (item : X) (rest : List X) → [] ≡ whole ++ item ∷ rest → ⊥
no_items [] item rest e = absurd (cc (e))
no_items (w ∷ ws) item rest e = absurd (cc (e))

-- between the lines
module _ (s t : State) (actor : Letter) (first : Item) (others : List Item) (begins : Begins (begun s actor) first others t) (front : is_front (first ∷ others) ≡ true)
    (pages : List Block) (left : is_left t.base t.pend pages ≡ true) where
  behind : is_left (effect (begun s actor) first).base (effect (begun s actor) first).pend pages ≡ true
  behind = back_left (effect (begun s actor) first) t others pages (and_parts (is_phase first || is_still first) (all_still others) front).1 begins.more left

  between : (whole : List Item) (item : Item) (rest : List Item) → first ∷ others ≡ whole ++ item ∷ rest → (last : State) → Starts s actor whole last → IsNear last pages
  between [] item rest e last starts =
      let near : IsNear (begun s actor) pages =
      first_near (begun s actor) first pages (and_parts (is_phase first || is_still first) (all_still others) front).0 (fits_holds (begun s actor) first begins.first) behind in
      subst (λ (x : State). IsNear x pages) (sym starts.goes) near
  between (w ∷ ws) item rest e last starts =
      let same : first ≡ w = cc (e) in
      let more : others ≡ ws ++ item ∷ rest = cc (e) in
      let still : all_still ws ≡ true =
      still_front ws (item ∷ rest) (sym (ap all_still more) ∙ (and_parts (is_phase first || is_still first) (all_still others) front).1) in
      near_left last pages (on_left (effect (begun s actor) w) last ws pages still starts.goes.more
      (subst (λ x. is_left (effect (begun s actor) x).base (effect (begun s actor) x).pend pages ≡ true) same behind))

-- whatever the array shows
pub shown_between : (s t : State) (actor : Letter) (first : Item) (others : List Item) (shown : Option (List Block)) → Begins (begun s actor) first others t → is_front (first ∷ others) ≡ true
    → IfSome shown (λ pages. is_left t.base t.pend pages ≡ true)
    → (whole : List Item) (item : Item) (rest : List Item) → first ∷ others ≡ whole ++ item ∷ rest → (last : State) → Starts s actor whole last → IfSome shown (IsNear last)
shown_between s t actor first others None begins front left whole item rest e last starts = tt
shown_between s t actor first others (Some pages) begins front left whole item rest e last starts = between s t actor first others begins front pages left whole item rest e last starts

-- the contents with which a loss of power goes on
dark_shown : (last : State) (store : Store) (a : ArrayState) → StoreStands (record { base = last.base; pend = last.pend }) store a → IfSome (shown_by a) (λ pages. is_left last.base last.pend pages ≡ true)
dark_shown last store a stands = lines_left store.cache (shown_by a) last.base last.pend stands.lines

pub dark_fronts : (actor : Letter) (p : PathState) (a : ArrayState) (items : List Item) (p' : PathState) (a' : ArrayState) → Darkens actor p a items p' a' → is_front items ≡ true
    → FrontsNear actor p a items a'
dark_fronts actor p a [] p' a' darkens front = λ o c agrees whole item rest e last starts. absurd (no_items whole item rest e)
dark_fronts actor p a (first ∷ others) p' a' darkens front = λ o c agrees whole item rest e last starts.
    let d : Darkened actor (state_of p o c) (first ∷ others) p' o a' = darkens o c agrees in
    shown_between (state_of p o c) d.last actor first others (shown_by a') d.starts.goes front (dark_shown d.last p'.card.store a' d.losing.store) whole item rest e last starts

-- no phase is under way behind the event
none_moved : (p : PathState) (way : Option ℕ) → under_way p ≡ way → is_some way ≡ false → marks_moved_by p way ≡ []
none_moved p None e h = refl
none_moved p (Some tag) e h = absurd (false≢true (sym h))

pub no_marks : (p : PathState) → is_busy p ≡ false → marks_moved p ≡ []
no_marks p h = none_moved p (under_way p) refl h

state_left : (p : PathState) (o : OrderState) (c : Context) (t : State) (pages : List Block) → state_of p o c ≡ t → marks_moved p ≡ []
    → is_left c.base (c.pend ++ marks_moved p) pages ≡ true → is_left t.base t.pend pages ≡ true
unfolding state_of
state_left p o c t pages e none h =
    let plain : is_left c.base c.pend pages ≡ true =
    subst (λ pend. is_left c.base pend pages ≡ true) (append-nil c.pend) (subst (λ marks. is_left c.base (c.pend ++ marks) pages ≡ true) none h) in
    subst (λ (x : State). is_left x.base x.pend pages ≡ true) e plain

told_shown : (p : PathState) (o : OrderState) (c : Context) (t : State) (shown : Option (List Block)) → state_of p o c ≡ t → marks_moved p ≡ []
    → IfSome shown (λ pages. is_left c.base (c.pend ++ marks_moved p) pages ≡ true) → IfSome shown (λ pages. is_left t.base t.pend pages ≡ true)
told_shown p o c t None e none h = tt
told_shown p o c t (Some pages) e none h = state_left p o c t pages e none h

-- an event leaves no phase under way
abbrev pub LeavesIdle : Letter → PathState → ArrayState → List Item → Type 0
LeavesIdle actor p a items =
    (o : OrderState) (c : Context) → Agrees p a c → (first : Item) (others : List Item) (t : State) → items ≡ first ∷ others → Begins (begun (state_of p o c) actor) first others t → t.busy ≡ false

pub told_fronts : (actor : Letter) (p : PathState) (a : ArrayState) (items : List Item) (p' : PathState) (a' : ArrayState) → Tells actor p a items p' a' → is_front items ≡ true
    → LeavesIdle actor p a items → FrontsNear actor p a items a'
told_fronts actor p a [] p' a' tells front idle = λ o c agrees whole item rest e last starts. absurd (no_items whole item rest e)
told_fronts actor p a (first ∷ others) p' a' tells front idle = λ o c agrees whole item rest e last starts.
    let told : Told actor (state_of p o c) (first ∷ others) p' o a' = tells o c agrees in
    let lasts : Lasts (begun (state_of p o c) actor) first others (state_of p' o told.context) = told.happens.makes in
    let busy : is_busy p' ≡ false =
    sym (busy_of p' o told.context) ∙ (ap (λ (x : State). x.busy) lasts.state ∙ idle o c agrees first others lasts.last refl lasts.begins) in
    let shown = told_shown p' o told.context _ (shown_by a') lasts.state (no_marks p' busy)
    (lines_left p'.card.store.cache (shown_by a') told.context.base (told.context.pend ++ marks_moved p') told.agrees.store.lines) in
    shown_between (state_of p o c) lasts.last actor first others (shown_by a') lasts.begins front shown whole item rest e last starts
