use Rattle.std.proofs.Common.{◌≡◌, ◌∙◌, suc, sym, ap, refl, arith}
use Rattle.std.specs.Option.{option_map}
use Rattle.mach_signature.specs.EntitlementReads.{rest_or, value_at}
use Rattle.mach_signature.specs.EntitlementSpans.{spelled_text}
use Rattle.mach_signature.specs.EntitlementValues.{value_under}
use Rattle.mach_signature.specs.EntitlementViews.{seen_span, seen_value}
use Rattle.mach_signature.specs.declared.entitlements.parts.Group.TheVariants.{Array, Dictionary}
use Rattle.mach_signature.specs.declared.entitlements.parts.Value.{Value}
use Rattle.mach_signature.specs.declared.entitlements.parts.Value.TheVariants as values
use Rattle.mach_signature.proofs.EntitlementSteps.{entry_parts, found_is_some, found_same, others_read, same_dictionaries, some_of_map}
use Rattle.mach_signature.proofs.EntitlementSteps.{readable_front, readable_steps, whole_end}
use Rattle.mach_signature.proofs.entitlements.compare.+comparison.Goals as goal

-- ---- arrays

pub same_in_order-returns-in_default : goal.same_in_order-returns-in_default
same_in_order-returns-in_default t c x y first second =
    readable_steps c.args.first_steps Array (seen_span c.args.first) x (omega arith) first

pub same_in_order-returns-in_default-checked_sub : goal.same_in_order-returns-in_default-checked_sub
same_in_order-returns-in_default-checked_sub t c x y first second =
    readable_steps c.args.steps Array (seen_span c.args.second) y (omega arith) second

pub same_in_order-returns-in_default-front_at : goal.same_in_order-returns-in_default-front_at
same_in_order-returns-in_default-front_at t c x y first second =
    let more : c.args.first_steps ≡ suc c.in-Some.first_less = omega arith in
    readable_front c.args.first_steps c.in-Some.first_less Array (seen_span c.args.first) x more first _ c.in_default-front_at.ensures

pub same_in_order-returns-in_default-front_at-2 : goal.same_in_order-returns-in_default-front_at-2
same_in_order-returns-in_default-front_at-2 t c x y first second =
    let more : c.args.steps ≡ suc c.in-Some-checked_sub.less = omega arith in
    readable_front c.args.steps c.in-Some-checked_sub.less Array (seen_span c.args.second) y more second _ c.in_default-front_at-2.ensures

pub same_in_order-returns-then-not-same_value : goal.same_in_order-returns-then-not-same_value
same_in_order-returns-then-not-same_value t c x y first second =
    let first_more : c.args.first_steps ≡ suc c.in-Some.first_less = omega arith in
    let more : c.args.steps ≡ suc c.in-Some-checked_sub.less = omega arith in
    let d = c.in-Entry.first in
    let e = c.in-Entry-front-2.second in
    let first_front = rw c.in-Entry.is at c.in-Ok.ensures in
    let front = rw c.in-Entry-front-2.is at c.in-Ok-front_at.ensures in
    let p = entry_parts c.args.first_steps c.in-Some.first_less Array (seen_span c.args.first) x first_more first (spelled_text (seen_span d.key))
    (seen_value d.value) (option_map seen_span d.rest) first_front in
    let q = entry_parts c.args.steps c.in-Some-checked_sub.less Array (seen_span c.args.second) y more second (spelled_text (seen_span e.key))
    (seen_value e.value) (option_map seen_span e.rest) front in
    let no = sym (c.same_value.ensures p.first q.first p.is_first q.is_first) ∙ c.if-not-same_value.true in
    rw p.whole (rw q.whole (rw no refl))

pub same_in_order-returns-in-End-front : goal.same_in_order-returns-in-End-front
same_in_order-returns-in-End-front t c x y first second =
    let first_more : c.args.first_steps ≡ suc c.in-Some.first_less = omega arith in
    let more : c.args.steps ≡ suc c.in-Some-checked_sub.less = omega arith in
    let first_front = rw c.in-End.is at c.in-Ok.ensures in
    let front = rw c.in-End-front.is at c.in-Ok-front_at.ensures in
    rw (whole_end c.args.first_steps c.in-Some.first_less Array (seen_span c.args.first) x first_more first _ first_front)
    (rw (whole_end c.args.steps c.in-Some-checked_sub.less Array (seen_span c.args.second) y more second _ front) refl)

pub same_in_order-returns-in-Entry-front : goal.same_in_order-returns-in-Entry-front
same_in_order-returns-in-Entry-front t c x y first second =
    let first_more : c.args.first_steps ≡ suc c.in-Some.first_less = omega arith in
    let more : c.args.steps ≡ suc c.in-Some-checked_sub.less = omega arith in
    let e = c.in-Entry-front.field-0 in
    let first_front = rw c.in-End.is at c.in-Ok.ensures in
    let front = rw c.in-Entry-front.is at c.in-Ok-front_at.ensures in
    let q = entry_parts c.args.steps c.in-Some-checked_sub.less Array (seen_span c.args.second) y more second (spelled_text (seen_span e.key))
    (seen_value e.value) (option_map seen_span e.rest) front in
    rw (whole_end c.args.first_steps c.in-Some.first_less Array (seen_span c.args.first) x first_more first _ first_front) (rw q.whole refl)

pub same_in_order-returns-in_default-front : goal.same_in_order-returns-in_default-front
same_in_order-returns-in_default-front t c x y first second =
    let first_more : c.args.first_steps ≡ suc c.in-Some.first_less = omega arith in
    let more : c.args.steps ≡ suc c.in-Some-checked_sub.less = omega arith in
    let d = c.in-Entry.first in
    let first_front = rw c.in-Entry.is at c.in-Ok.ensures in
    let front = rw c.in_default-front.is at c.in-Ok-front_at.ensures in
    let p = entry_parts c.args.first_steps c.in-Some.first_less Array (seen_span c.args.first) x first_more first (spelled_text (seen_span d.key))
    (seen_value d.value) (option_map seen_span d.rest) first_front in
    rw p.whole (rw (whole_end c.args.steps c.in-Some-checked_sub.less Array (seen_span c.args.second) y more second _ front) refl)

pub same_in_order-returns-else-not-same_value : goal.same_in_order-returns-else-not-same_value
same_in_order-returns-else-not-same_value t c x y first second =
    let first_more : c.args.first_steps ≡ suc c.in-Some.first_less = omega arith in
    let more : c.args.steps ≡ suc c.in-Some-checked_sub.less = omega arith in
    let d = c.in-Entry.first in
    let e = c.in-Entry-front-2.second in
    let first_front = rw c.in-Entry.is at c.in-Ok.ensures in
    let front = rw c.in-Entry-front-2.is at c.in-Ok-front_at.ensures in
    let p = entry_parts c.args.first_steps c.in-Some.first_less Array (seen_span c.args.first) x first_more first (spelled_text (seen_span d.key))
    (seen_value d.value) (option_map seen_span d.rest) first_front in
    let q = entry_parts c.args.steps c.in-Some-checked_sub.less Array (seen_span c.args.second) y more second (spelled_text (seen_span e.key))
    (seen_value e.value) (option_map seen_span e.rest) front in
    let others = others_read c.in-Some.first_less Array (seen_span c.after_entry-others.result) (rest_or (option_map seen_span d.rest) p.first.1) p.others
    (c.after_entry-others.ensures p.first p.is_first) p.are_others in
    let following = others_read c.in-Some-checked_sub.less Array (seen_span c.after_entry-following.result)
    (rest_or (option_map seen_span e.rest) q.first.1) q.others (c.after_entry-following.ensures q.first q.is_first) q.are_others in
    let yes = sym (c.same_value.ensures p.first q.first p.is_first q.is_first) ∙ c.if-not-same_value.false in
    rw p.whole (rw q.whole (rw yes (c.same_in_order.ensures p.others q.others others following)))

-- ---- dictionaries

pub same_under_key-returns-in-Some : goal.same_under_key-returns-in-Some
same_under_key-returns-in-Some t c x y first value =
    let found = rw c.in-Some.is at (c.find.ensures x first) in
    found_same c.args.first_steps (seen_value c.in-Some.value) (value_under (spelled_text (seen_span c.args.entry.key)) x.0) y.0 c.same_value.result found
    (λ u is. c.same_value.ensures u y is value)

pub same_under_keys-returns-in_default : goal.same_under_keys-returns-in_default
same_under_keys-returns-in_default t c x y first second =
    readable_steps c.args.steps Dictionary (seen_span c.args.second) y (omega arith) second

pub same_under_keys-returns-in_default-front_at : goal.same_under_keys-returns-in_default-front_at
same_under_keys-returns-in_default-front_at t c x y first second =
    let more : c.args.steps ≡ suc c.in-Some.less = omega arith in
    readable_front c.args.steps c.in-Some.less Dictionary (seen_span c.args.second) y more second _ c.in_default-front_at.ensures

pub same_under_keys-returns-then-not-same_under_key : goal.same_under_keys-returns-then-not-same_under_key
same_under_keys-returns-then-not-same_under_key t c x y first second =
    let more : c.args.steps ≡ suc c.in-Some.less = omega arith in
    let e = c.in-Entry.entry in
    let front = rw c.in-Entry.is at c.in-Ok.ensures in
    let q = entry_parts c.args.steps c.in-Some.less Dictionary (seen_span c.args.second) y more second (spelled_text (seen_span e.key))
    (seen_value e.value) (option_map seen_span e.rest) front in
    let no = sym (c.same_under_key.ensures x q.first first q.is_first) ∙ c.if-not-same_under_key.true in
    rw q.whole (rw no refl)

pub same_under_keys-returns-then-is_some : goal.same_under_keys-returns-then-is_some
same_under_keys-returns-then-is_some t c x y first second =
    let more : c.args.steps ≡ suc c.in-Some.less = omega arith in
    let e = c.in-Entry.entry in
    let key = spelled_text (seen_span e.key) in
    let front = rw c.in-Entry.is at c.in-Ok.ensures in
    let q = entry_parts c.args.steps c.in-Some.less Dictionary (seen_span c.args.second) y more second key
    (seen_value e.value) (option_map seen_span e.rest) front in
    let others = others_read c.in-Some.less Dictionary (seen_span c.after_entry-others.result) (rest_or (option_map seen_span e.rest) q.first.1) q.others
    (c.after_entry-others.ensures q.first q.is_first) q.are_others in
    let twice = found_is_some c.in-Some.less (option_map seen_value c.find.result) (value_under key q.others.0) (c.find.ensures q.others others) in
    let yes = sym (c.same_under_key.ensures x q.first first q.is_first) ∙ c.if-not-same_under_key.false in
    rw q.whole (rw yes (rw (sym twice ∙ (some_of_map seen_value c.find.result ∙ (sym c.is_some.ensures ∙ c.if-is_some.true))) refl))

pub same_under_keys-returns-in-End : goal.same_under_keys-returns-in-End
same_under_keys-returns-in-End t c x y first second =
    let more : c.args.steps ≡ suc c.in-Some.less = omega arith in
    let front = rw c.in-End.is at c.in-Ok.ensures in
    rw (whole_end c.args.steps c.in-Some.less Dictionary (seen_span c.args.second) y more second (seen_span c.in-End.field-0) front) refl

pub same_under_keys-returns-else-is_some : goal.same_under_keys-returns-else-is_some
same_under_keys-returns-else-is_some t c x y first second =
    let more : c.args.steps ≡ suc c.in-Some.less = omega arith in
    let e = c.in-Entry.entry in
    let key = spelled_text (seen_span e.key) in
    let front = rw c.in-Entry.is at c.in-Ok.ensures in
    let q = entry_parts c.args.steps c.in-Some.less Dictionary (seen_span c.args.second) y more second key
    (seen_value e.value) (option_map seen_span e.rest) front in
    let others = others_read c.in-Some.less Dictionary (seen_span c.after_entry-others.result) (rest_or (option_map seen_span e.rest) q.first.1) q.others
    (c.after_entry-others.ensures q.first q.is_first) q.are_others in
    let once = found_is_some c.in-Some.less (option_map seen_value c.find.result) (value_under key q.others.0) (c.find.ensures q.others others) in
    let yes = sym (c.same_under_key.ensures x q.first first q.is_first) ∙ c.if-not-same_under_key.false in
    rw q.whole (rw yes (rw (sym once ∙ (some_of_map seen_value c.find.result ∙ (sym c.is_some.ensures ∙ c.if-is_some.false)))
    (c.same_under_keys.ensures x q.others first others)))

-- ---- values

pub same_value-returns-in-Group-Dictionary-default-Group-Dictionary-default :
    goal.same_value-returns-in-Group-Dictionary-default-Group-Dictionary-default
same_value-returns-in-Group-Dictionary-default-Group-Dictionary-default t c x y first second =
    let d = c.in-Group-Dictionary-default-Group-Dictionary-default in
    let is : c.args.first ≡ values.Group Dictionary d.first = cc in
    let other_is : c.args.second ≡ values.Group Dictionary d.second = cc in
    same_dictionaries c.args.first_steps c.args.steps (seen_span d.first) (seen_span d.second) c.same_dictionary.result x y
    (λ a b read other. c.same_dictionary.ensures a b read other)
    (ap (λ (v : Value). value_at c.args.first_steps (seen_value v)) (sym is) ∙ first)
    (ap (λ (v : Value). value_at c.args.steps (seen_value v)) (sym other_is) ∙ second)
