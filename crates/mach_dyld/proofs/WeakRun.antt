-- The weak binds by settings that run forward are what looking back finds.
use Rattle.mach_dyld.proofs.BindNames.{◌≡◌, ℕ, ◌+◌, List, [], ◌∷◌, map, Bool, true, false, Result, Ok, refl, sym, ap, ◌∙◌, subst, ◌>>=◌, ◌==◌, Fault}
use Rattle.mach_dyld.proofs.BindNames.{cond, bit_and, inl, inr, cases_eq, cases_Bool, ne_eqb, nat_lt, bind_ok, same_ok, text_at, length, Instruction, symbol}
use Rattle.mach_dyld.proofs.BindNames.{binds, byte_at, Placed, Range, Input, Bind, fresh, run, set_after, set_by, OccursBy, AllOccurBy, reader_by}
use Rattle.mach_dyld.proofs.BindNames.{strides, stride_in, binds_at}
use Rattle.mach_dyld.specs.Instructions.{nothing, strong}
use Rattle.mach_dyld.specs.Binds.{done_is, strong_is, rows_in}
use Rattle.mach_dyld.specs.Bindings.{gives_name, gives_segment, kind_set_by, sets_in}
use Rattle.mach_dyld.proofs.BindQuiet.{quiet_row}
use Rattle.mach_dyld.proofs.BindSettings.{rows_at_start, same_binds, set_here}
use Rattle.mach_dyld.proofs.BindingOpcodes.{at_byte, no_done}
use Rattle.mach_dyld.specs.WeakBinds.{WeakSet, strong_name, is_own, name_set, name_before_end, last_weak_set, weak_binds_at, weak_binds_in}
unfoldable use Rattle.mach_dyld.specs.WeakBinds.{weak_bind_of, weak_name_at, weak_row, weak_opcode_at}
use Rattle.mach_dyld.specs.WeakBindsLeft.{first_weak, set_now, weak_after, weak_made, weak_rules}
use Rattle.mach_dyld.specs.declared.weak_binds.WeakBindSettings.{WeakBindSettings}
use Rattle.mach_dyld.proofs.StreamSettings.{setting_after}

-- ---- what an opcode reads

name_known : (flags : ℕ) (name : List ℕ) → (done_is (name_set flags name) ≡ false) × (strong_is (name_set flags name) ≡ is_own flags)
name_known flags name = by_flag (is_own flags)
  where
    by_flag : (t : Bool) → (done_is (cond t (strong flags name) (symbol flags name)) ≡ false) × (strong_is (cond t (strong flags name) (symbol flags name)) ≡ t)
    by_flag true = (refl, refl)
    by_flag false = (refl, refl)

name_found : (flags : ℕ) (bytes : List ℕ) (place : ℕ) (found : Instruction × ℕ) → weak_name_at flags bytes place ≡ Ok found
    → (name : List ℕ) × (name_set flags name ≡ found.0)
unfolding weak_name_at
name_found flags bytes place found e =
    let end = λ (name : List ℕ). Ok (name_set flags name, place + length name + 1) in
    let a = bind_ok (text_at bytes place) (λ (text : List ℕ). name_before_end bytes place text >>= end) found e in
    let b = bind_ok (name_before_end bytes place a.0) end found a.2 in
    (b.0, ap (λ (y : Instruction × ℕ). y.0) (same_ok b.2))

-- it is not a DONE, and gives a row of its own if it names a symbol that the image itself defines
abbrev Known : ℕ → ℕ → Instruction → Type 0
Known opcode imm i = (done_is i ≡ false) × (strong_is i ≡ cond (opcode == 0x40) (is_own imm) false)

known_row : (r : Range) (pointer : ℕ) (bytes : List ℕ) (opcode imm place : ℕ) (found : Instruction × ℕ)
    → weak_row r pointer bytes opcode imm place ≡ Ok found → Known opcode imm found.0
unfolding weak_row
known_row r pointer bytes opcode imm place found row = elim (cases_eq opcode 0x00) [
  | inl e ↦ let i : nothing ≡ found.0 = (let h = rw e at row in ap (λ (y : Instruction × ℕ). y.0) (same_ok h)) in
      subst (Known opcode imm) i (refl, rw e refl)
  | inr d ↦ elim (cases_Bool (nat_lt opcode 0x40)) [
    | inl low ↦ absurd (let h = rw (ne_eqb opcode 0x00 d, low) at row in cc)
    | inr least ↦ elim (cases_Bool (nat_lt 0xc0 opcode)) [
      | inl high ↦ absurd (let h = rw (ne_eqb opcode 0x00 d, least, high) at row in cc)
      | inr most ↦ elim (cases_eq opcode 0x40) [
        | inl e ↦ let h : weak_name_at imm bytes place ≡ Ok found = rw e at row in
            let n = name_found imm bytes place found h in
            let k = name_known imm n.0 in
            subst (Known opcode imm) n.1 (k.0, rw e k.1)
        | inr m ↦ let h = rw (ne_eqb opcode 0x00 d, least, most, ne_eqb opcode 0x40 m) at row in (
          no_done pointer bytes opcode imm place found h d,
          rw (ne_eqb opcode 0x40 m) (quiet_row pointer bytes opcode imm place found h),
        )
      ]
    ]
  ]
]

-- ---- what is set

abbrev own_head : List Placed → Bool
own_head [] = false
own_head (p ∷ back) = strong_is p.instruction

record Tied (x : Input) (m : WeakBindSettings) (back : List Placed) : Type 0 where
  same : set_now m ≡ last_weak_set x.bytes back
  own : own_head back ≡ m.is_own

abbrev weak_set : ℕ → Bool → Bool → WeakSet
weak_set k n s = record { kind = k; has_name = n; has_segment = s }

set_is : (a b : WeakSet) → a.kind ≡ b.kind → a.has_name ≡ b.has_name → a.has_segment ≡ b.has_segment → a ≡ b
set_is a b k n s = ap (λ q. weak_set q a.has_name a.has_segment) k ∙ ap (λ q. weak_set b.kind q a.has_segment) n ∙ ap (weak_set b.kind b.has_name) s

after_byte : (x : Input) (m : WeakBindSettings) (back : List Placed) (p : Placed) (byte : ℕ) → byte_at x.bytes p.place ≡ Ok byte
    → Known (bit_and byte 0xf0) (bit_and byte 0x0f) p.instruction → Tied x m back
    → Tied x (weak_after (bit_and byte 0xf0) (bit_and byte 0x0f) m) (p ∷ back)
after_byte x m back p byte there known t = record {
  same = set_is _ _
      (setting_after back p (bit_and byte 0xf0 == 0x50) 0 (bit_and byte 0x0f) (kind_set_by x.bytes) known.0 (rw there refl)
      (ap (λ (g : WeakSet). g.kind) t.same))
      (setting_after back p (gives_name (bit_and byte 0xf0)) false true (sets_in x.bytes gives_name) known.0 (rw there refl)
      (ap (λ (g : WeakSet). g.has_name) t.same))
      (setting_after back p (gives_segment (bit_and byte 0xf0)) false true (sets_in x.bytes gives_segment) known.0 (rw there refl)
      (ap (λ (g : WeakSet). g.has_segment) t.same));
  own = known.1;
}

tied_next : (x : Input) (r : Range) (m : WeakBindSettings) (back : List Placed) (p : Placed) → OccursBy (reader_by weak_rules x r) r.upto p → Tied x m back
    → Tied x (set_after weak_rules (byte_at x.bytes p.place) m) (p ∷ back)
unfolding weak_opcode_at
tied_next x r m back p occurs t =
    let b = bind_ok (byte_at x.bytes p.place)
    (λ (byte : ℕ). weak_row r x.pointer x.bytes (bit_and byte 0xf0) (bit_and byte 0x0f) (p.place + 1)) (p.instruction, p.after) occurs.read in
    subst (λ (there : Result ℕ Fault). Tied x (set_after weak_rules there m) (p ∷ back)) (sym b.1)
    (after_byte x m back p b.0 b.1
    (known_row r x.pointer x.bytes (bit_and b.0 0xf0) (bit_and b.0 0x0f) (p.place + 1) (p.instruction, p.after) b.2) t)

-- ---- its rows

binds_made : (x : Input) (m : WeakBindSettings) (g : WeakSet) (ds : List Bind) → false ≡ m.is_own → set_now m ≡ g
    → map (λ d. weak_made x d m) ds ≡ map (weak_bind_of x g) ds
binds_made x m g ds own same =
    ap (λ (t : Bool). map (λ (d : Bind). cond t (Ok (strong_name d.name)) (weak_bind_of x (set_now m) d)) ds) (sym own)
    ∙ ap (λ (s : WeakSet). map (weak_bind_of x s) ds) same

same_rows : (x : Input) (r : Range) (m : WeakBindSettings) (back : List Placed) (place after : ℕ) (i : Instruction) → Tied x m (at_byte place i after ∷ back)
    → map (λ d. weak_made x d m)
    (strides (set_here x.pointer r back (at_byte place i after)) (stride_in x.pointer (at_byte place i after)) (rows_in (at_byte place i after)))
    ≡ weak_binds_at x r back (at_byte place i after)
unfolding strides set_by
same_rows x r m back place after (strong flags name) t = rw (sym t.own) refl
same_rows x r m back place after (binds count skip) t =
    ap (map (λ d. weak_made x d m)) (same_binds x.pointer r back place after (binds count skip))
    ∙ binds_made x m (last_weak_set x.bytes (at_byte place (binds count skip) after ∷ back))
    (binds_at x.pointer r back (at_byte place (binds count skip) after))
    t.own t.same
same_rows x r m back place after _ t = refl

-- at a range's start
pub weak_at_start : (x : Input) (r : Range) (ps : List Placed) → AllOccurBy (reader_by weak_rules x r) r.upto ps
    → run weak_rules x r (fresh r.is_lazy 0) first_weak ps ≡ weak_binds_in x r ps
weak_at_start x r ps occur =
    rows_at_start weak_rules x r (weak_binds_at x r) (Tied x) (tied_next x r) (λ m back p occurs t. same_rows x r m back p.place p.after p.instruction t)
    first_weak ps occur (record { same = refl; own = refl })
