use Rattle.std.proofs.Common.{◌≡◌, ◌∙◌, inl, inr, List, Option, Result, Ok, ℕ, refl, sym, ap, subst}
use Rattle.mach_base.specs.Fault.{fault_of, no_memory}
use Rattle.goblin_mach.specs.OpenImage.{bytes_view, commands_view}
use Rattle.mach_signature.specs.SignedImages.{image_signature}
use Rattle.mach_signature.specs.declared.entitlements.parts.Notation.{Notation}
use Rattle.goblin_mach_c.specs.EntitlementWrites.{AreFoundValues, WritesFirst, entitlements_by}
use Rattle.goblin_mach_c.specs.declared.entitlement_rows.gm_entitlement_item.{gm_entitlement_item}
use Rattle.goblin_mach_c.proofs.FoundEntitlements.{found_are}
use Rattle.goblin_mach_c.proofs.entitlement_items.gmr_entitlement_items.Goals as goal

pub returns-in-Some-clause-written : goal.returns-in-Some-clause-written
returns-in-Some-clause-written c = λ _.
    let signature = image_signature (bytes_view c.in-Ok.found) (commands_view c.in-Ok.found) in
    let law = c.signature_of_image.ensures.lossy c.args.bytes.now c.args.image.now.offset c.in-Ok.ensures.opened signature in
    let read = subst (λ (n : Notation). AreFoundValues (Ok c.in-Ok-image_values.values) (entitlements_by n signature)) c.notation_of.ensures
    c.in-Ok-image_values.ensures in
    let found = found_are c.in-Ok-image_values.values _ read in
    let holds = c.in-Some.ensures found.entitled found.are in
    record {
      found = found.entitled;
      has = record { signature = signature; has = law.1 refl; is = sym found.is };
      rows = subst (λ (rows : List gm_entitlement_item). WritesFirst rows c.args.items.now c.write_first.new.out c.write_first.result)
          (c.as_slice.ensures.value ∙ holds.0) c.write_first.ensures;
      texts = subst (λ (texts : List ℕ). WritesFirst texts c.args.texts.now c.write_first-in-Some.new.out c.write_first-in-Some.result)
          (c.as_slice-in-Some.ensures.value ∙ holds.1) c.write_first-in-Some.ensures;
    }

pub returns-in-Ok-image_values-clause-refused : goal.returns-in-Ok-image_values-clause-refused
returns-in-Ok-image_values-clause-refused c = λ _. record { fault = no_memory; is_code = c.refuse.ensures.code; occurs = inl refl }

pub returns-in-Ok-clause-refused : goal.returns-in-Ok-clause-refused
returns-in-Ok-clause-refused c = λ _.
    let signature = image_signature (bytes_view c.in-Ok.found) (commands_view c.in-Ok.found) in
    let law = c.signature_of_image.ensures.lossy c.args.bytes.now c.args.image.now.offset c.in-Ok.ensures.opened signature in
    record {
      fault = fault_of c.in-Err-image_values.why;
      is_code = c.refuse-in-Err-image_values.ensures.code;
      occurs = inr (inr (record {
        signature = signature;
        has = law.1 refl;
        is = sym c.in-Err-image_values.ensures ∙ ap (λ (n : Notation). entitlements_by n signature) c.notation_of.ensures;
      }));
    }
