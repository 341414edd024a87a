-- The power is on again: the path is set up anew, and what is left is shown.
use Rattle.std.proofs.Common.{◌≡◌, ◌∙◌, ◌++◌, ◌∷◌, ◌<◌, inl, inr, ℕ, true, All, IfSome, List, [], Option, None, Some, OnOk, Result, Ok, Err, is_some, length, map, option_map, unwrap_or, ap, refl, sym, subst, arith}
use Rattle.io_edge.specs.Sink.{Joins}
use Rattle.storage_machine.specs.declared.state.State.{State}
use Rattle.storage_model.specs.Count.{Later}
use Rattle.storage_model.specs.declared.block.Block.{Block}
use Rattle.storage_model.specs.declared.ends.Halt.{Halt}
use Rattle.storage_model.specs.declared.ends.Halt.TheVariants.{SinkFailed, OpenFault, PowerGone, BadImage}
use Rattle.storage_model.specs.declared.trace.End.TheVariants.{Fault}
use Rattle.storage_model.specs.declared.trace.Item.{Item}
use Rattle.storage_model.specs.declared.trace.Item.TheVariants.{Cut, Off, On}
use Rattle.storage_runs.specs.Runs.{StaysSo}
use Rattle.trace_effects.specs.Effects.{effect}
use Rattle.trace_print.specs.Prints.{RoseBy, halt_faults, is_cut_line, is_flash}
use Rattle.trace_text.specs.Trace.{items_text}
use Rattle.array_edge.specs.Array.{ArrayState}
use Rattle.intent_store.specs.Intent.{ShowsImage, shown_by}
use Rattle.card_core.specs.Card.{CardState, idle_card, set_up as card_set_up}
use Rattle.card_store.specs.Store.{Contents, IsStore, Stands}
use Rattle.cut_laws.specs.Laws.{further_cuts}
use Rattle.cut_laws.specs.Lost.{lost_lines}
use Rattle.cut_order.specs.Order.{OrderState}
use Rattle.left_laws.specs.Lines.{CanBeLeft, left_line, lines_below, put_sectors}
use Rattle.drv_core.specs.SetUp.{coalescing_word}
use Rattle.dark_laws.proofs.Anew.{count_none}
use Rattle.dark_laws.proofs.Back.{is_back}
use Rattle.dark_laws.proofs.Ends.{ends_dark}
use Rattle.dark_laws.proofs.Kept.{left_so}
use Rattle.dark_laws.proofs.Pages.{pages_left}
use Rattle.dark_laws.proofs.TiedAnew.{tied_anew}
use Rattle.dark_laws.specs.Anew.{IsCardAnew, IsSetAnew, Leads, Outlasts, set_anew}
use Rattle.dark_laws.specs.Ends.{ShowsSome}
use Rattle.dark_laws.specs.Kept.{LeavesSo}
use Rattle.world_state.specs.Path.{PathState, plan_of}
use Rattle.world_state.specs.Told.{ComesBack, IsLosing, StaysDark}
use Rattle.power_step.specs.Cut.{ArePlain, EndsLeft, EndsUnread, IsKept, IsOpened, IsRead, LeftWritten, LostWritten, OpensAgain, ShowsFirst, ShowsTaken}
use Rattle.power_step.specs.Loses.{HasEnd, IsBackOn, Leaves, Loses}
use Rattle.power_step.specs.Wrote.{TakesPart, Wrote}
use Rattle.power_step.proofs.Counting.{count_join, count_no, cuts_counted, cuts_flash, later_both, rose_before}
use Rattle.power_step.proofs.Darks.{AreCounted, causes_of, counted_behind}
use Rattle.power_step.proofs.Lefts.{ends_behind, read_shown}
use Rattle.power_step.proofs.Sectors.{one_at, part_at, sectors_below}
use Rattle.power_step.proofs.Taking.{part_behind, wrote_behind}

-- an array that tells its pages shows contents
pub record Shows (a : ArrayState) : Type 0 where
  pub after : List Block
  pub shown : shown_by a ≡ Some after

shows_told : {X Y : Type 0} (f : X → Y) (told : Option X) → is_some told ≡ true → (y : Y) × (option_map f told ≡ Some y)
shows_told f None is = absurd (cc)
shows_told f (Some pages) is = (f pages, refl)

shows_of : (a : ArrayState) → is_some a.told ≡ true → Shows a
shows_of a told = let it : (after : List Block) × (shown_by a ≡ Some after) = shows_told _ a.told told in record { after = it.0; shown = it.1 }

if_more : {X : Type 0} (P Q : X → Type 0) (o : Option X) → ((x : X) → P x → Q x) → IfSome o P → IfSome o Q
if_more P Q None more holds = tt
if_more P Q (Some x) more holds = more x holds

end_of : (result : Result (Unit {0}) Halt) (items : List Item) → EndsLeft result items → HasEnd items result
end_of (Ok done) items ends = tt
end_of (Err SinkFailed) items ends = tt
end_of (Err OpenFault) items ends = ends
end_of (Err PowerGone) items ends = absurd ends
end_of (Err BadImage) items ends = absurd ends

ok_more : {A B : Type 0} (result : Result (Unit {0}) Halt) → (A → B) → OnOk result A → OnOk result B
ok_more (Ok done) more holds = more holds
ok_more (Err halt) more holds = tt

-- the card that was opened, and read since
module _ (card card1 card2 : CardState) (a1 a2 : ArrayState) (opened : IsOpened card card1 a1) (read : IsRead card1 a1 card2 a2) where
  pub card_anew : IsStore card2.store → IsCardAnew card card2 a2
  card_anew store = record {
    card =
        read.same ∙ ap {A = CardState} (λ c. record c { store = card2.store }) opened.card
        ∙ ap {A = ℕ} (λ n. record (idle_card card.depth card.lines card.through card2.store) { csd = card_set_up card n }) (ap (λ o. unwrap_or o 0) (sym read.store.sectors));
    room = read.store.room ∙ opened.room;
    last = read.store.last ∙ opened.last;
    store = store;
    stands =
        subst (λ shown. IfSome shown (λ shown. Stands (record { base = shown; pend = [] }) card2.store a2)) (sym (read_shown card1 card2 a1 a2 read))
        (if_more (λ shown. Stands (record { base = shown; pend = [] }) card1.store a1) (λ shown. Stands (record { base = shown; pend = [] }) card2.store a2) (shown_by a1) read.stands opened.stands);
  }

  pub powered_on : a2.powered ≡ true
  powered_on = ap (λ x. x.powered) read.array ∙ opened.powered

-- the pages of the array, and its counts
pub kept_read : (cuts faults : ℕ) (card1 card2 : CardState) (a a1 a2 : ArrayState) → IsKept cuts 0 a a1 → IsRead card1 a1 card2 a2 → RoseBy faults a1.faults a2.faults → IsKept cuts faults a a2
kept_read cuts faults card1 card2 a a1 a2 kept read rose =
    let same : a1.cuts ≡ a2.cuts = ap (λ x. x.cuts) (sym read.array) in
    record {
      shown = read_shown card1 card2 a1 a2 read ∙ kept.shown;
      tells = ap (λ x. is_some x.told) read.array ∙ kept.tells;
      image = λ is. subst (λ (x : ArrayState). ShowsImage x) (sym read.array) (kept.image is);
      later_faults = later_both a.faults a1.faults a2.faults kept.later_faults read.faults;
      later_cuts = subst (λ n. Later a.cuts n) same kept.later_cuts;
      cut = subst (λ n. RoseBy cuts a.cuts n) same kept.cut;
      failed = rose_before faults a.faults a1.faults a2.faults kept.later_faults rose;
    }

counted_left : (cuts : ℕ) (items : List Item) → ArePlain items → AreCounted cuts (further_cuts cuts ++ On ∷ items)
counted_left cuts items plain =
    let none = cuts_flash cuts in
    let none' = plain.no_flash in
    let some = cuts_counted cuts in
    let uncut = plain.no_cut in
    record {
      no_flash = let on = count_no is_flash On items refl in count_join is_flash (further_cuts cuts) (On ∷ items) ∙ omega (arith, none, none', on);
      cut = let on = count_no is_cut_line On items refl in count_join is_cut_line (further_cuts cuts) (On ∷ items) ∙ omega (arith, some, uncut, on);
    }

-- the lines behind the cut, where these are what is left
abbrev pub lines_on : List ℕ → ℕ → List Item → List Item
lines_on ids cuts items = lost_lines ids ++ (further_cuts cuts ++ On ∷ items)

module _ (s : State) (o : OrderState) (p p' : PathState) (a a' : ArrayState) (out : Outlasts p) (losing : IsLosing s p o a) (kept : shown_by a' ≡ shown_by a) (ids : List ℕ) (cuts : ℕ) (after : List Block) (leads : Leads p a ids cuts after) where
  some : ShowsSome s p o a a' ids cuts after
  some = record { loses = record { out = out; losing = losing; kept = kept; lost = leads.lost }; few = leads.few; shows = leads.shows }

  so : LeavesSo s ids cuts after
  so = left_so s p o a out losing ids cuts after leads

  pub leaves_taken : (items : List Item) → ShowsTaken (put_sectors s.pend (length after)) after items → StaysDark s (lines_on ids cuts items) a'
  leaves_taken items shows =
      let part = part_at s.pend (length after) shows.0 shows.1 in
      let are : items ≡ lines_below s.pend after part.sector = shows.2 ∙ ap (map (left_line after)) part.are in
      subst (λ xs. StaysDark s (lines_on ids cuts xs) a') (sym are) ((ends_dark s p o a a').leaving ids cuts after part.sector some part.below)

  leaves_unread : (items : List Item) → EndsUnread (put_sectors s.pend (length after)) after items → StaysDark s (lines_on ids cuts items) a'
  leaves_unread items shows =
      let front = one_at s.pend (length after) shows.0 shows.1 in
      let are : items ≡ lines_below s.pend after front.sector ++ Off Fault ∷ [] = shows.2 ∙ ap (λ xs. map (left_line after) xs ++ Off Fault ∷ []) front.are in
      subst (λ xs. StaysDark s (lines_on ids cuts xs) a') (sym are) ((ends_dark s p o a a').unread ids cuts after front.sector some front.below front.put)

  pub leaves_by : (result : Result (Unit {0}) Halt) (items : List Item) → OnOk result (IsSetAnew p a p' a') → ShowsFirst (put_sectors s.pend (length after)) after result items → Leaves s (lines_on ids cuts items) result p' a'
  leaves_by (Ok done) items anew is = subst (λ xs. ComesBack s (lines_on ids cuts xs) p' a') (sym is) (is_back s p o a p' a' out losing anew ids cuts after leads)
  leaves_by (Err SinkFailed) items anew (inl shows) = leaves_taken items shows
  leaves_by (Err SinkFailed) items anew (inr shows) = leaves_unread items shows
  leaves_by (Err OpenFault) items anew shows = leaves_unread items shows
  leaves_by (Err PowerGone) items anew none = absurd none
  leaves_by (Err BadImage) items anew none = absurd none

  pub so_taken : (items : List Item) → ShowsTaken (put_sectors s.pend (length after)) after items → StaysSo (effect s Cut) (lines_on ids cuts items)
  so_taken items shows =
      let part = part_at s.pend (length after) shows.0 shows.1 in
      let are : items ≡ lines_below s.pend after part.sector = shows.2 ∙ ap (map (left_line after)) part.are in
      subst (λ xs. StaysSo (effect s Cut) (lines_on ids cuts xs)) (sym are) (so.below part.sector part.below)

  so_unread : (items : List Item) → EndsUnread (put_sectors s.pend (length after)) after items → StaysSo (effect s Cut) (lines_on ids cuts items)
  so_unread items shows =
      let front = one_at s.pend (length after) shows.0 shows.1 in
      let are : items ≡ lines_below s.pend after front.sector ++ Off Fault ∷ [] = shows.2 ∙ ap (λ xs. map (left_line after) xs ++ Off Fault ∷ []) front.are in
      subst (λ xs. StaysSo (effect s Cut) (lines_on ids cuts xs)) (sym are) (so.unread front.sector (let few = front.below in omega (arith, few)))

  pub so_by : (result : Result (Unit {0}) Halt) (items : List Item) → ShowsFirst (put_sectors s.pend (length after)) after result items → StaysSo (effect s Cut) (lines_on ids cuts items)
  so_by (Ok done) items is = subst (λ xs. StaysSo (effect s Cut) (lines_on ids cuts xs)) (sym is) so.all
  so_by (Err SinkFailed) items (inl shows) = so_taken items shows
  so_by (Err SinkFailed) items (inr shows) = so_unread items shows
  so_by (Err OpenFault) items shows = so_unread items shows
  so_by (Err PowerGone) items none = absurd none
  so_by (Err BadImage) items none = absurd none

-- what was noted of a store is what the lines are of
abbrev pub AreNoted : List ℕ → CardState → Type 0
AreNoted pending card = (c : Contents) (array : ArrayState) → Stands c card.store array → pending ≡ put_sectors c.pend (length c.base)

module _ {K : Type 0} (took : K → List ℕ → K → Type 0) (both : Joins took) (p : PathState) (a : ArrayState) (out : Outlasts p) (pending : List ℕ) (noted : AreNoted pending p.card) where
  module _ (old m1 m2 m3 m4 new : K) (card1 card2 : CardState) (a1 a2 : ArrayState) (result : Result (Unit {0}) Halt) (first : took old (items_text (Cut ∷ [])) m1) (lost : LostWritten took p.driver.requests.holders 0 m1 (Ok tt) m2)
      (opens : OpensAgain took m2 p.card a (Ok tt) m3 card1 a1) (on : took m3 (items_text (On ∷ [])) m4) (left : LeftWritten took pending m4 card1 a1 result new card2 a2) where
    abbrev q : PathState
    q = set_anew p card2 p.script

    abbrev items : List Item
    items = lines_on lost.ids opens.cuts left.items

    wrote_on : Wrote took old (Cut ∷ items) result new
    wrote_on =
        let cuts : took m2 (items_text (further_cuts opens.cuts)) m3 = subst (λ xs. took m2 (items_text xs) m3) opens.lines.0 opens.wrote in
        wrote_behind took both old m1 new (Cut ∷ []) items result first
        (wrote_behind took both m1 m2 new (lost_lines lost.ids) (further_cuts opens.cuts ++ On ∷ left.items) result lost.wrote
        (wrote_behind took both m2 m3 new (further_cuts opens.cuts) (On ∷ left.items) result cuts (wrote_behind took both m3 m4 new (On ∷ []) left.items result on left.wrote)))

    kept_on : IsKept opens.cuts (halt_faults result) a a2
    kept_on = kept_read opens.cuts (halt_faults result) card1 card2 a a1 a2 opens.kept left.read left.failed

    ends_on : EndsLeft result items
    ends_on = ends_behind result (lost_lines lost.ids) (further_cuts opens.cuts ++ On ∷ left.items) (ends_behind result (further_cuts opens.cuts) (On ∷ left.items) (ends_behind result (On ∷ []) left.items left.ends))

    module _ (store : IsStore card2.store) where
      pub set_on : IsSetAnew p a q a2
      set_on = record {
        path = refl;
        script = record { ready = refl; hits = refl; used = refl; sent = refl };
        card = card_anew p.card card1 card2 a1 a2 opens.opened left.read store;
        shown = kept_on.shown;
      }

      pub back_on : IsBackOn p a q a2
      back_on = record {
        ready = record { tied = tied_anew p a q a2 out set_on; is_open = left.read.is_open; powered = powered_on p.card card1 card2 a1 a2 opens.opened left.read };
        anew = record {
          requests = refl;
          calm = refl;
          ring = refl;
          running = refl;
          counted = count_none (coalescing_word (plan_of p).coalesce);
          script = record { hits = refl; ready = refl; sent = omega arith; used = omega arith };
        };
        plan = refl;
        empty = ap (λ x. x.lines) left.read.cache ∙ opens.opened.lines;
      }

    module _ (s : State) (o : OrderState) (losing : IsLosing s p o a) where
      shows : Shows a
      shows = shows_of a losing.told

      abbrev after : List Block
      after = shows.after

      can : CanBeLeft s.base s.pend after
      can = subst (λ shown. IfSome shown (CanBeLeft s.base s.pend)) shows.shown (pages_left s p o a losing)

      are_put : pending ≡ put_sectors s.pend (length after)
      are_put = noted (record { base = s.base; pend = s.pend }) a losing.store ∙ ap (put_sectors s.pend) (sym can.size)

      shown_on : shown_by a1 ≡ Some after
      shown_on = opens.kept.shown ∙ shows.shown

      firsts : ShowsFirst (put_sectors s.pend (length after)) after result left.items
      firsts =
          let stands = subst (λ shown. IfSome shown (λ shown. Stands (record { base = shown; pend = [] }) card1.store a1)) shown_on opens.opened.stands in
          subst (λ xs. ShowsFirst xs after result left.items) are_put (left.shows after shown_on stands (subst (All (λ k. k < length after)) (sym are_put) (sectors_below s.pend (length after))))

      leads : Leads p a lost.ids opens.cuts after
      leads = record { lost = lost.are; few = opens.lines.1; shows = shows.shown }

      leaves_on : OnOk result (IsSetAnew p a q a2) → Leaves s items result q a2
      leaves_on anew = leaves_by s o p q a a2 out losing kept_on.shown lost.ids opens.cuts after leads result left.items anew firsts

      so_on : StaysSo (effect s Cut) items
      so_on = so_by s o p q a a2 out losing kept_on.shown lost.ids opens.cuts after leads result left.items firsts

    pub loses_on : OnOk result (IsStore card2.store) → Loses took p a old result q a2 new
    loses_on store =
        let counted = counted_behind opens.cuts lost.ids (further_cuts opens.cuts ++ On ∷ left.items) (counted_left opens.cuts left.items left.plain) in
        record {
          items = items;
          wrote = wrote_on;
          end = end_of result items ends_on;
          leaves = λ s o losing. leaves_on s o losing (ok_more result (λ store. set_on store) store);
          stays = λ s o losing. so_on s o losing;
          causes = causes_of opens.cuts a a2 items result counted.no_flash counted.cut kept_on;
          image = kept_on.image;
        }

    pub back_if : OnOk result (IsStore card2.store) → OnOk result (IsBackOn p a q a2)
    back_if store = ok_more result (λ store. back_on store) store

-- the line that the power is on broke off
module _ {K : Type 0} (took : K → List ℕ → K → Type 0) (both : Joins took) (p p' : PathState) (a : ArrayState) (out : Outlasts p) where
  module _ (old m1 m2 m3 new : K) (card1 : CardState) (a1 : ArrayState) (first : took old (items_text (Cut ∷ [])) m1) (lost : LostWritten took p.driver.requests.holders 0 m1 (Ok tt) m2)
      (opens : OpensAgain took m2 p.card a (Ok tt) m3 card1 a1) (part : TakesPart took m3 (On ∷ []) new) where
    part_on : TakesPart took old (Cut ∷ lines_on lost.ids opens.cuts []) new
    part_on =
        let cuts : took m2 (items_text (further_cuts opens.cuts)) m3 = subst (λ xs. took m2 (items_text xs) m3) opens.lines.0 opens.wrote in
        part_behind took both old m1 new (Cut ∷ []) (lines_on lost.ids opens.cuts []) first
        (part_behind took both m1 m2 new (lost_lines lost.ids) (further_cuts opens.cuts ++ On ∷ []) lost.wrote (part_behind took both m2 m3 new (further_cuts opens.cuts) (On ∷ []) cuts part))

    module _ (s : State) (o : OrderState) (losing : IsLosing s p o a) where
      told_then : Shows a
      told_then = shows_of a losing.told

      leads_on : Leads p a lost.ids opens.cuts told_then.after
      leads_on = record { lost = lost.are; few = opens.lines.1; shows = told_then.shown }

      dark_on : StaysDark s (lines_on lost.ids opens.cuts []) a1
      dark_on = leaves_taken s o p p' a a1 out losing opens.kept.shown lost.ids opens.cuts told_then.after leads_on [] (0, omega arith, refl)

      stays_on : StaysSo (effect s Cut) (lines_on lost.ids opens.cuts [])
      stays_on = so_taken s o p p' a a1 out losing opens.kept.shown lost.ids opens.cuts told_then.after leads_on [] (0, omega arith, refl)

    pub unlit_loses : Loses took p a old (Err SinkFailed) p' a1 new
    unlit_loses =
        let counted = counted_behind opens.cuts lost.ids (further_cuts opens.cuts ++ On ∷ []) (counted_left opens.cuts [] (record { no_flash = refl; no_cut = refl })) in
        record {
          items = lines_on lost.ids opens.cuts [];
          wrote = part_on;
          end = tt;
          leaves = λ s o losing. dark_on s o losing;
          stays = λ s o losing. stays_on s o losing;
          causes = causes_of opens.cuts a a1 (lines_on lost.ids opens.cuts []) (Err SinkFailed) counted.no_flash counted.cut opens.kept;
          image = opens.kept.image;
        }

-- the same of the path that was set up anew before the openings
module _ {K : Type 0} (took : K → List ℕ → K → Type 0) (both : Joins took) (p : PathState) (a : ArrayState) (out : Outlasts p) (pending : List ℕ) (noted : AreNoted pending p.card) (begun : PathState) (is : begun ≡ set_anew p p.card p.script) where
  module _ (old m1 m2 m3 m4 new : K) (card1 card2 : CardState) (a1 a2 : ArrayState) (result : Result (Unit {0}) Halt) (first : took old (items_text (Cut ∷ [])) m1) (lost : LostWritten took p.driver.requests.holders 0 m1 (Ok tt) m2)
      (opens : OpensAgain took m2 begun.card a (Ok tt) m3 card1 a1) (on : took m3 (items_text (On ∷ [])) m4) (left : LeftWritten took pending m4 card1 a1 result new card2 a2) (store : OnOk result (IsStore card2.store)) where
    pub lit_loses : Loses took p a old result (record begun { card = card2 }) a2 new
    lit_loses =
        subst (λ q. OpensAgain took m2 q.card a (Ok tt) m3 card1 a1 → Loses took p a old result (record q { card = card2 }) a2 new) (sym is)
        (λ opens. loses_on took both p a out pending noted old m1 m2 m3 m4 new card1 card2 a1 a2 result first lost opens on left store) opens

    pub lit_back : OnOk result (IsBackOn p a (record begun { card = card2 }) a2)
    lit_back =
        subst (λ q. OpensAgain took m2 q.card a (Ok tt) m3 card1 a1 → OnOk result (IsBackOn p a (record q { card = card2 }) a2)) (sym is)
        (λ opens. back_if took both p a out pending noted old m1 m2 m3 m4 new card1 card2 a1 a2 result first lost opens on left store) opens
