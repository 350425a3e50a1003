-- The bindings by settings that run forward are what looking back finds.
use Rattle.mach_dyld.proofs.BindNames.{◌≡◌, ℕ, ℤ, ◌+◌, ◌-◌, List, ◌∷◌, Bool, true, false, Option, Some, None, Ok, refl, sym, ap, subst}
use Rattle.mach_dyld.proofs.BindNames.{◌∙◌, pos, cond, ◌==◌, bit_and, nat_lt, inl, inr, cases_eq, cases_Bool, ne_eqb, bind_ok, same_ok}
use Rattle.mach_dyld.proofs.BindNames.{Instruction, done, byte_at, Placed, Range, Input, bind_after}
use Rattle.mach_dyld.proofs.BindNames.{is_done, fresh, set_by, run, set_after, library_in, last_setting, moved, OccursBy, AllOccurBy, reader_by}
use Rattle.mach_dyld.specs.Instructions.{nothing}
use Rattle.mach_dyld.specs.Binds.{done_is}
use Rattle.mach_dyld.specs.Bindings.{SetBefore, last_given, ordinal_in, kind_set_by, sets_in, first_kind, gives_ordinal, gives_name, gives_segment}
use Rattle.mach_dyld.specs.Bindings.{highest_opcode, bindings_in}
unfoldable use Rattle.mach_dyld.specs.Bindings.{binding_of, opcode_at, bindings_row}
use Rattle.mach_dyld.specs.BindingsLeft.{binding_rules, given_now, first_extra, extra_after, ordinal_now, special_after}
use Rattle.mach_dyld.specs.declared.bindings.BindingSettings.{BindingSettings}
use Rattle.mach_dyld.proofs.BindSettings.{one_binds, tied_at_start}
use Rattle.mach_dyld.proofs.BindingSet.{set_or, setting-step, ordinal_after}
use Rattle.mach_dyld.proofs.BindQuiet.{binding_quiet}
use Rattle.mach_dyld.proofs.BindingOpcodes.{at_byte, next_nothing, next_ordinal, no_done}

-- ---- what is set

if_set : {A : Type 0} (b : Bool) (old new : A) → cond b new old ≡ set_or old (cond b (Some new) None)
if_set {A} true old new = refl
if_set {A} false old new = refl

-- the library by the settings that run forward
library_by : (pointer : ℕ) (r : Range) (back : List Placed) (i : Instruction) (place after : ℕ)
    → (set_by i (after - r.from) (bind_after pointer r back 0)).library ≡ last_setting 0 library_in (at_byte place i after ∷ back)
unfolding set_by bind_after moved
library_by pointer r back done place after = refl
library_by pointer r back _ place after = refl

abbrev given_by : ℤ → ℕ → Bool → Bool → Bool → SetBefore
given_by o k h n s = record { ordinal = o; kind = k; has_ordinal = h; has_name = n; has_segment = s }

given_is : (a b : SetBefore) → a.ordinal ≡ b.ordinal → a.kind ≡ b.kind → a.has_ordinal ≡ b.has_ordinal → a.has_name ≡ b.has_name
    → a.has_segment ≡ b.has_segment → a ≡ b
given_is a b o k h n s =
    ap (λ q. given_by q a.kind a.has_ordinal a.has_name a.has_segment) o ∙ ap (λ q. given_by b.ordinal q a.has_ordinal a.has_name a.has_segment) k
    ∙ ap (λ q. given_by b.ordinal b.kind q a.has_name a.has_segment) h ∙ ap (λ q. given_by b.ordinal b.kind b.has_ordinal q a.has_segment) n
    ∙ ap (given_by b.ordinal b.kind b.has_ordinal b.has_name) s

abbrev Tied : Input → Range → BindingSettings → List Placed → Type 0
Tied x r m back = given_now m (last_setting 0 library_in back) ≡ last_given x.bytes r.is_lazy back

module _ (x : Input) (r : Range) (back : List Placed) (p : Placed) (m : BindingSettings) (byte : ℕ) (there : byte_at x.bytes p.place ≡ Ok byte)
    (tied : Tied x r m back) where
  abbrev opcode : ℕ
  opcode = bit_and byte 0xf0

  abbrev imm : ℕ
  imm = bit_and byte 0x0f

  -- what one opcode sets, after an instruction
  setting : {A : Type 0} (b : Bool) (fresh new : A) {old : A} (operand : Placed → Option A) → is_done p ≡ false
      → operand p ≡ cond b (Some new) None → old ≡ last_setting fresh operand back → cond b new old ≡ last_setting fresh operand (p ∷ back)
  setting {A} b fresh new operand none here e =
      ap (cond b new) e ∙ if_set b (last_setting fresh operand back) new ∙ sym (setting-step fresh operand back p ∙ rw (none, here) refl)

  abbrev Next : Instruction → Type 0
  Next i =
      ordinal_after x.bytes (at_byte p.place i p.after) (ordinal_now m.special (bind_after x.pointer r back 0).library)
      ≡ ordinal_now (special_after m.special opcode imm) (set_by i (p.after - r.from) (bind_after x.pointer r back 0)).library

  tied_by : is_done p ≡ false → Next p.instruction → Tied x r (extra_after opcode imm m) (p ∷ back)
  unfolding bind_after
  tied_by none o =
      given_is _ _
      (ap (ordinal_now (special_after m.special opcode imm)) (sym (library_by x.pointer r back p.instruction p.place p.after)) ∙ sym o
      ∙ ap (ordinal_after x.bytes p) (ap (λ (g : SetBefore). g.ordinal) tied) ∙ sym (setting-step (pos 0) (ordinal_in x.bytes) back p))
      (setting (opcode == 0x50) (first_kind r.is_lazy) imm (kind_set_by x.bytes) none (rw there refl) (ap (λ (g : SetBefore). g.kind) tied))
      (setting (gives_ordinal opcode) false true (sets_in x.bytes gives_ordinal) none (rw there refl) (ap (λ (g : SetBefore). g.has_ordinal) tied))
      (setting (gives_name opcode) false true (sets_in x.bytes gives_name) none (rw there refl) (ap (λ (g : SetBefore). g.has_name) tied))
      (setting (gives_segment opcode) false true (sets_in x.bytes gives_segment) none (rw there refl) (ap (λ (g : SetBefore). g.has_segment) tied))

  -- by the table
  by_table : bindings_row r x.pointer x.bytes opcode imm (p.place + 1) ≡ Ok (p.instruction, p.after) → Tied x r (extra_after opcode imm m) (p ∷ back)
  unfolding bindings_row
  by_table row = elim (cases_Bool (nat_lt (highest_opcode r.is_lazy) opcode)) [
    | inl above ↦ absurd (let e = rw above at row in cc)
    | inr known ↦ elim (cases_eq opcode 0x00) [
      | inl e ↦ let i : nothing ≡ p.instruction = (let h = rw (known, e) at row in ap (λ (y : Instruction × ℕ). y.0) (same_ok h)) in
          tied_by (ap done_is (sym i))
          (subst Next i (next_nothing x.bytes p.place byte there m.special (p.after - r.from) (bind_after x.pointer r back 0) p.after e))
      | inr d ↦ let at = rw (known, ne_eqb opcode 0x00 d) at row in
          tied_by (no_done x.pointer x.bytes opcode imm (p.place + 1) (p.instruction, p.after) at d)
          (next_ordinal x.bytes p.place byte there m.special (p.after - r.from) (bind_after x.pointer r back 0) p.after x.pointer (p.instruction, p.after) d at)
    ]
  ]

-- after an instruction at its place
next_given : (x : Input) (r : Range) (m : BindingSettings) (back : List Placed) (p : Placed) → OccursBy (reader_by binding_rules x r) r.upto p → Tied x r m back
    → Tied x r (set_after binding_rules (byte_at x.bytes p.place) m) (p ∷ back)
unfolding opcode_at
next_given x r m back p occurs tied =
    let b = bind_ok (byte_at x.bytes p.place)
    (λ (byte : ℕ). bindings_row r x.pointer x.bytes (bit_and byte 0xf0) (bit_and byte 0x0f) (p.place + 1)) (p.instruction, p.after) occurs.read in
    rw b.1 (by_table x r back p m b.0 b.1 tied b.2)

-- a bind's library is that of the instructions before it
same_library : (x : Input) (r : Range) (m : BindingSettings) (back : List Placed) (g : SetBefore) (own : ℕ) → given_now m (last_setting 0 library_in back) ≡ g
    → binding_of x (given_now m (bind_after x.pointer r back own).library) (bind_after x.pointer r back own) ≡ binding_of x g (bind_after x.pointer r back own)
unfolding bind_after
same_library x r m back g own t = ap (λ q. binding_of x q (bind_after x.pointer r back own)) t

-- at a range's start
pub bindings_at_start : (x : Input) (r : Range) (ps : List Placed) → AllOccurBy (reader_by binding_rules x r) r.upto ps
    → run binding_rules x r (fresh r.is_lazy 0) (first_extra r.is_lazy) ps ≡ bindings_in x r ps
bindings_at_start x r ps occur =
    tied_at_start binding_rules x r (λ back. binding_of x (last_given x.bytes r.is_lazy back)) (Tied x r)
    (λ p s. binding_quiet r x.pointer x.bytes p.place (p.instruction, p.after) s.read) (next_given x r)
    (λ m back place count skip after own t. same_library x r m back (last_given x.bytes r.is_lazy (one_binds place count skip after ∷ back)) own t)
    (first_extra r.is_lazy) ps occur refl
