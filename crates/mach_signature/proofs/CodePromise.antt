-- The code has no fault exactly when it is as signed.
use Rattle.std.proofs.Common.{◌≡◌, ◌≤◌, ◌<◌, ℕ, Bool, true, false, cond, List, [], ◌∷◌, length, Option, Some, None, refl, sym, ap, subst, ◌∙◌, arith}
use Rattle.std.specs.Prelude.{nat_lt, ◌==◌, if◌then◌else◌}
use Rattle.std.specs.Str.{bytes_eq}
use Rattle.std.proofs.lemmas.Bool.{ltb-false, eqb-true, lt-ltb, le-ltb, eq-eqb}
use Rattle.std.proofs.lemmas.Slice.Eq.{bytes_eq-Decides}
use Rattle.mach_signature.specs.CodeFaults.{scatter_place, form_fault, page_fault_by, page_fault, pages_judged, code_faults_of, IsCodeAsSigned}
use Rattle.mach_signature.specs.Directories.{Directory, code_limit_of, page_count_of, page_start, page_end, page_bytes, code_slot_of, code_slot_bytes}
use Rattle.mach_signature.specs.Hashes.{hash_of}
use Rattle.mach_signature.specs.declared.fault.CodeFault.{CodeFault}
use Rattle.mach_signature.specs.declared.fault.CodeFault.TheVariants.{Scattered, Limit, Slots, Page}
use Rattle.mach_signature.proofs.ReportedNone.{if_none, none_if, some_if, reported_of-none, none-reported_of}

-- what follows if the form has no fault
pub record IsWholeForm (d : Directory) (image : List ℕ) : Type 0 where
  pub not_scattered : scatter_place d.scatter_offset ≡ 0
  pub in_image : code_limit_of d ≤ length image
  pub slot_each : d.head.n_code_slots ≡ page_count_of d

no_form_fault : (d : Directory) (image : List ℕ) (scattered : Bool) (long : Bool) (each : Bool) (a b c : CodeFault)
    → cond scattered (cond long (Some b) (cond each None (Some c))) (Some a) ≡ None → (scattered ≡ true) × (long ≡ false) × (each ≡ true)
no_form_fault d image true true each a b c e = absurd (cc)
no_form_fault d image true false true a b c e = (refl, refl, refl)
no_form_fault d image true false false a b c e = absurd (cc)
no_form_fault d image false long each a b c e = absurd (cc)

whole_form : (d : Directory) (image : List ℕ) → form_fault d image ≡ None → IsWholeForm d image
whole_form d image e =
    let tests = no_form_fault d image (scatter_place d.scatter_offset == 0) (nat_lt (length image) (code_limit_of d)) (d.head.n_code_slots == page_count_of d)
    (Scattered (scatter_place d.scatter_offset)) (Limit (code_limit_of d) (length image)) (Slots d.head.n_code_slots (page_count_of d)) e in
    record {
      not_scattered = eqb-true (scatter_place d.scatter_offset) 0 tests.0;
      in_image = ltb-false (length image) (code_limit_of d) tests.1;
      slot_each = eqb-true d.head.n_code_slots (page_count_of d) tests.2;
    }

form_of_whole : (d : Directory) (image : List ℕ) → IsWholeForm d image → form_fault d image ≡ None
form_of_whole d image w =
    let scattered : (scatter_place d.scatter_offset == 0) ≡ true = eq-eqb (scatter_place d.scatter_offset) 0 w.not_scattered in
    let long : nat_lt (length image) (code_limit_of d) ≡ false = le-ltb (length image) (code_limit_of d) w.in_image in
    let each : (d.head.n_code_slots == page_count_of d) ≡ true = eq-eqb d.head.n_code_slots (page_count_of d) w.slot_each in
    rw (scattered, long, each) refl

-- a page is reported exactly when its hash isn't its slot
page_by : (d : Directory) (image : List ℕ) (k : ℕ) (slot : List ℕ) → page_fault_by d image k (Some slot) ≡ None → hash_of d.hash (page_bytes d image k) ≡ slot
page_by d image k slot e =
    (bytes_eq-Decides (hash_of d.hash (page_bytes d image k)) slot).0
    (none_if (bytes_eq (hash_of d.hash (page_bytes d image k)) slot) (Page k (page_start d k) (page_end d k)) e)

slot_there : (d : Directory) (k : ℕ) → k < d.head.n_code_slots → code_slot_of d k ≡ Some (code_slot_bytes d k)
slot_there d k below = let there : nat_lt k d.head.n_code_slots ≡ true = lt-ltb k d.head.n_code_slots below in rw there refl

page_signed : (d : Directory) (image : List ℕ) (k : ℕ) → k < d.head.n_code_slots → page_fault d image k ≡ None
    → code_slot_of d k ≡ Some (hash_of d.hash (page_bytes d image k))
unfolding page_fault
page_signed d image k below e =
    let there = slot_there d k below in
    let by : page_fault_by d image k (Some (code_slot_bytes d k)) ≡ None = ap (page_fault_by d image k) (sym there) ∙ e in
    there ∙ ap Some (sym (page_by d image k (code_slot_bytes d k) by))

page_unreported : (d : Directory) (image : List ℕ) (k : ℕ) → code_slot_of d k ≡ Some (hash_of d.hash (page_bytes d image k)) → page_fault d image k ≡ None
unfolding page_fault
page_unreported d image k e =
    let h = hash_of d.hash (page_bytes d image k) in
    let same : bytes_eq h h ≡ true = (bytes_eq-Decides h h).1 refl in
    ap (page_fault_by d image k) e ∙ ap (λ (b : Bool). cond b None (Some (Page k (page_start d k) (page_end d k)))) same

judged : (d : Directory) (image : List ℕ) (form : Option CodeFault) → pages_judged d image form ≡ [] → form ≡ None
judged d image None e = refl
judged d image (Some fault) e = absurd (cc)

pub code_as_signed : (d : Directory) (image : List ℕ) → code_faults_of d image ≡ [] → IsCodeAsSigned d image
code_as_signed d image e =
    let none = judged d image (form_fault d image) e in
    let w = whole_form d image none in
    let pages : pages_judged d image None ≡ [] = ap (pages_judged d image) (sym none) ∙ e in
    record {
      not_scattered = w.not_scattered;
      in_image = w.in_image;
      slot_each = w.slot_each;
      pages = λ k below.
          let inside : k < d.head.n_code_slots = omega (arith, below, w.slot_each) in
          page_signed d image k inside (reported_of-none (page_fault d image) d.head.n_code_slots pages k inside);
    }

pub as_signed_code : (d : Directory) (image : List ℕ) → IsCodeAsSigned d image → code_faults_of d image ≡ []
as_signed_code d image s =
    let none = form_of_whole d image (record { not_scattered = s.not_scattered; in_image = s.in_image; slot_each = s.slot_each }) in
    ap (pages_judged d image) none
    ∙ none-reported_of (page_fault d image) d.head.n_code_slots
    (λ k below. page_unreported d image k (s.pages k (omega (arith, below, s.slot_each))))
