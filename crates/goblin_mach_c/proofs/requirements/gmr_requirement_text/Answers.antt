use Rattle.std.proofs.Common.{rules, ◌≡◌, ◌∙◌, inl, inr, Option, Some, None, Ok, length, refl, sym, ap, subst, arith}
use Rattle.std.specs.Option.{option_map}
use Rattle.mach_base.specs.Fault.{fault_of, malformed, no_memory}
use Rattle.goblin_mach.specs.OpenImage.{bytes_view, commands_view}
use Rattle.mach_signature.specs.RequirementTypes.{requirement_view}
use Rattle.mach_signature.specs.SignedImages.{image_signature}
use Rattle.mach_signature.specs.declared.requirements.requirement.Requirement.{Requirement}
use Rattle.goblin_mach_c.specs.RequirementWrites.{LacksTextRoom, WritesText, requirement_in}
use Rattle.goblin_mach_c.proofs.requirements.gmr_requirement_text.Goals as goal

pub returns-in_default-clause-refused : goal.returns-in_default-clause-refused
returns-in_default-clause-refused c = λ _ _.
    record { fault = malformed; is_code = c.refuse.ensures.code; occurs = inr (inr (inr (c.in_default.ensures, refl))) }

pub returns-in-Some-text_of-clause-written : goal.returns-in-Some-text_of-clause-written
returns-in-Some-text_of-clause-written c = λ ok.
    let some : c.in-Ok-Some.field-0 ≡ Some c.in-Ok-Some.requirement = search rules in
    let signature = image_signature (bytes_view c.in-Ok.found) (commands_view c.in-Ok.found) in
    let law = c.signature_of_image.ensures.lossy c.args.bytes.now c.args.image.now.offset c.in-Ok.ensures.opened signature in
    record {
      found = Some (requirement_view c.in-Ok-Some.requirement);
      has = record {
        signature = signature;
        has = law.1 refl;
        is = sym (c.in-Ok-Some.ensures ∙ ap (λ (it : Option Requirement). Ok (option_map requirement_view it)) some)
            ∙ ap (λ k. requirement_in k signature) c.in-Some.ensures;
      };
      writes = subst (λ text. WritesText text c.args.out.now c.write_text.new.out c.write_text.new.needed)
          (c.as_slice.ensures.value ∙ c.in-Some-text_of.ensures) (c.write_text.ensures.written ok);
    }

pub returns-in-Some-text_of-clause-no_room : goal.returns-in-Some-text_of-clause-no_room
returns-in-Some-text_of-clause-no_room c = λ seven.
    let some : c.in-Ok-Some.field-0 ≡ Some c.in-Ok-Some.requirement = search rules in
    let signature = image_signature (bytes_view c.in-Ok.found) (commands_view c.in-Ok.found) in
    let law = c.signature_of_image.ensures.lossy c.args.bytes.now c.args.image.now.offset c.in-Ok.ensures.opened signature in
    let lacks = c.write_text.ensures.no_room (λ ok. absurd (let two = sym seven ∙ ok in omega (arith, two))) in
    record {
      requirement = requirement_view c.in-Ok-Some.requirement;
      has = record {
        signature = signature;
        has = law.1 refl;
        is = sym (c.in-Ok-Some.ensures ∙ ap (λ (it : Option Requirement). Ok (option_map requirement_view it)) some)
            ∙ ap (λ k. requirement_in k signature) c.in-Some.ensures;
      };
      lacks = subst (λ text. LacksTextRoom text (length c.args.out.now) c.write_text.new.needed)
          (c.as_slice.ensures.value ∙ c.in-Some-text_of.ensures) lacks.1;
    }

pub returns-in-Ok-Some-clause-refused : goal.returns-in-Ok-Some-clause-refused
returns-in-Ok-Some-clause-refused c = λ _ _. record { fault = no_memory; is_code = c.refuse-in-None.ensures.code; occurs = inl refl }

pub returns-in-Ok-None-clause-written : goal.returns-in-Ok-None-clause-written
returns-in-Ok-None-clause-written c = λ _.
    let none : c.in-Ok-None.field-0 ≡ None = search rules in
    let signature = image_signature (bytes_view c.in-Ok.found) (commands_view c.in-Ok.found) in
    let law = c.signature_of_image.ensures.lossy c.args.bytes.now c.args.image.now.offset c.in-Ok.ensures.opened signature in
    record {
      found = None;
      has = record {
        signature = signature;
        has = law.1 refl;
        is = sym (c.in-Ok-None.ensures ∙ ap (λ (it : Option Requirement). Ok (option_map requirement_view it)) none)
            ∙ ap (λ k. requirement_in k signature) c.in-Some.ensures;
      };
      writes = record { long = refl; room = omega arith; written = refl };
    }

pub returns-in-Ok-clause-refused : goal.returns-in-Ok-clause-refused
returns-in-Ok-clause-refused c = λ _ _.
    let signature = image_signature (bytes_view c.in-Ok.found) (commands_view c.in-Ok.found) in
    let law = c.signature_of_image.ensures.lossy c.args.bytes.now c.args.image.now.offset c.in-Ok.ensures.opened signature in
    record {
      fault = fault_of c.in-Err-image_requirement.why;
      is_code = c.refuse-in-Err-image_requirement.ensures.code;
      occurs = inr (inr (inl (record {
        signature = signature;
        has = law.1 refl;
        is = sym c.in-Err-image_requirement.ensures ∙ ap (λ k. requirement_in k signature) c.in-Some.ensures;
      })));
    }
