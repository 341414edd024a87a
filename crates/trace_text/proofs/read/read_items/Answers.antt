use Rattle.std.proofs.Common.{◌+◌, ◌-◌, ◌∙◌, ap, sym, length, arith}
use Rattle.std.proofs.lemmas.Bool.{eqb-true}
use Rattle.std.proofs.lemmas.List.{length-append}
use Rattle.text_words.specs.Texts.{IsBadAt}
use Rattle.trace_text.specs.Trace.{Means, item_text}
use Rattle.trace_text.proofs.ItemTexts.{item_text-long}
use Rattle.trace_text.proofs.ItemMeanings.{all_read, bad_here, length_items, no_bad_item, one_meaning, room_left, some_left, text_push, within_push}
use Rattle.trace_text.proofs.read.read_items.Goals as goal

pub bad_after-requires : goal.bad_after-requires
bad_after-requires c = omega (arith, length_items c.loop-rest.items, c.loop-rest.invariant.within.bytes)

pub loop-rest-smaller : goal.loop-rest-smaller
loop-rest-smaller c =
    omega (arith, item_text-long c.in-Some.item, ap length c.in-Some.ensures.some.1, length-append (item_text c.in-Some.item) c.in-Some.after.now)

-- no item that fits comes next
bad_next : (c : goal.After-drop-items-inside) → IsBadAt Means c.args.bytes.now (length c.loop-rest.items + 1)
bad_next c =
    let bytes = c.args.bytes.now in
    let items = c.loop-rest.items in
    let rest = c.loop-rest.rest.now in
    let text = c.loop-rest.invariant.text in
    let within = c.loop-rest.invariant.within in
    bad_here bytes items rest (16777216 - (length bytes - length rest)) text within (some_left rest c.is_empty.result c.is_empty.ensures c.loop-rest-test.true) (room_left bytes items rest text within) c.in_default.ensures.none

pub returns-in_default-clause-bad : goal.returns-in_default-clause-bad
returns-in_default-clause-bad c = rw c.bad_after.ensures (bad_next c)

pub returns-in_default-clause-again : goal.returns-in_default-clause-again
returns-in_default-clause-again c = λ items means. absurd (no_bad_item c.args.bytes.now items (length c.loop-rest.items + 1) means (bad_next c))

pub loop-rest-preserved : goal.loop-rest-preserved
loop-rest-preserved c =
    let bytes = c.args.bytes.now in
    let items = c.loop-rest.items in
    let rest = c.loop-rest.rest.now in
    let text = c.loop-rest.invariant.text in
    let within = c.loop-rest.invariant.within in
    let some = c.in-Some.ensures.some in
    rw c.in_ok-push.ensures.ok (record {
      text = text_push bytes items c.in-Some.item rest c.in-Some.after.now text some.1;
      within = within_push items c.in-Some.item (16777216 - (length bytes - length rest)) within some.0 some.2 (room_left bytes items rest text within);
    })

pub returns-clause-again : goal.returns-clause-again
returns-clause-again c = λ items means.
    let none = eqb-true (length c.loop-rest.rest.now) 0 (sym c.is_empty.ensures ∙ c.loop-rest-test.false) in
    let here = all_read c.args.bytes.now c.loop-rest.items c.loop-rest.rest.now c.loop-rest.invariant.text c.loop-rest.invariant.within none in
    (one_meaning c.args.bytes.now c.loop-rest.items items here means, tt)
