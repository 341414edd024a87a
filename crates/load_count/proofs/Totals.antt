-- Counts of items, one after the other.
use Rattle.std.proofs.Common.{◌≡◌, ℕ, ◌+◌, Bool, true, false, List, [], ◌∷◌, ◌∙◌, ap, refl, arith}
use Rattle.std.specs.Prelude.{cond, fold}
use Rattle.std.specs.Io.Iter.{u64_saturate}
use Rattle.storage_model.specs.declared.trace.Item.{Item}
use Rattle.load_count.specs.Counts.{counts, end_behind, is_data, is_fault, is_kept, is_lost, is_ok, is_phase}
use Rattle.load_count.specs.Lines.{none, raised}
use Rattle.load_count.specs.declared.counts.Counts.{Counts}

-- one more where it is so
abbrev pub raised_if : Bool → ℕ → ℕ
raised_if true n = raised n
raised_if false n = n

-- what an item adds
abbrev pub count_item : Counts → Item → Counts
count_item counts item = record {
  ok = raised_if (is_ok item) counts.ok;
  reads = raised_if (is_data item) counts.reads;
  fault = raised_if (is_fault item) counts.fault;
  lost = raised_if (is_lost item) counts.lost;
  phases = raised_if (is_phase item) counts.phases;
  kept = raised_if (is_kept item) counts.kept;
  end = end_behind counts.end item;
}

raised_most : (a : ℕ) → raised (u64_saturate a) ≡ u64_saturate (a + 1)
raised_most a = omega arith

number_from : (kind : Item → Bool) (a : ℕ) (items : List Item) → fold (λ n item. raised_if (kind item) n) (u64_saturate a) items ≡ u64_saturate (fold (λ n item. n + cond (kind item) 1 0) a items)
number_from kind a [] = refl
number_from kind a (item ∷ items) = ap (λ n. fold (λ n item. raised_if (kind item) n) n items) (one (kind item)) ∙ number_from kind (a + cond (kind item) 1 0) items
  where
    one : (b : Bool) → raised_if b (u64_saturate a) ≡ u64_saturate (a + cond b 1 0)
    one true = raised_most a
    one false = omega arith

-- the counts, each by itself
each : (c : Counts) (items : List Item) → fold count_item c items ≡ record {
  ok = fold (λ n item. raised_if (is_ok item) n) c.ok items;
  reads = fold (λ n item. raised_if (is_data item) n) c.reads items;
  fault = fold (λ n item. raised_if (is_fault item) n) c.fault items;
  lost = fold (λ n item. raised_if (is_lost item) n) c.lost items;
  phases = fold (λ n item. raised_if (is_phase item) n) c.phases items;
  kept = fold (λ n item. raised_if (is_kept item) n) c.kept items;
  end = fold end_behind c.end items;
}
each c [] = refl
each c (item ∷ items) = each (count_item c item) items

pub counts_by_items : (items : List Item) → fold count_item none items ≡ counts items
counts_by_items items =
    each none items
    ∙ rw (number_from is_ok 0 items, number_from is_data 0 items, number_from is_fault 0 items, number_from is_lost 0 items, number_from is_phase 0 items, number_from is_kept 0 items) refl
