-- What an opcode, executed as it is read, does to the ordinal.
use Rattle.mach_dyld.proofs.BindNames.{◌≡◌, ◌≢◌, ℕ, ℤ, ◌+◌, List, length, Bool, true, false, Option, Result, Ok, refl, sym, ap, subst, ◌∙◌}
use Rattle.mach_dyld.proofs.BindNames.{◌*◌, cond, ◌==◌, bit_and, inl, inr, cases_eq, ne_eqb, ◌>>=◌, Fault, bind_ok, same_ok, uleb_at, sleb_at, text_at}
use Rattle.mach_dyld.proofs.BindNames.{Instruction, done, library, symbol, addend, segment, advance, binds, byte_at, with_uleb, addend_at, symbol_operand_at}
use Rattle.mach_dyld.proofs.BindNames.{times_at}
use Rattle.mach_dyld.proofs.BindNames.{row_at, Placed, Bind, set_by, moved}
use Rattle.mach_dyld.specs.Instructions.{nothing}
use Rattle.mach_dyld.specs.Binds.{done_is}
use Rattle.mach_dyld.specs.BindingsLeft.{ordinal_now, special_after}
use Rattle.mach_dyld.proofs.BindingSet.{ordinal_after}

abbrev Found : Type 0
Found = Result (Instruction × ℕ) Fault

-- it sets no library
abbrev is_quiet : Instruction → Bool
is_quiet done = false
is_quiet (library number) = false
is_quiet _ = true

abbrev Quiet : Found → Type 0
Quiet r = (found : Instruction × ℕ) → r ≡ Ok found → is_quiet found.0 ≡ true

quiet_here : (i : Instruction) (after : ℕ) → is_quiet i ≡ true → Quiet (Ok (i, after))
quiet_here i after h = λ found e. subst (λ (y : Instruction × ℕ). is_quiet y.0 ≡ true) (same_ok e) h

quiet_either : (t : Bool) (r s : Found) → Quiet r → Quiet s → Quiet (cond t r s)
quiet_either true r s h k = h
quiet_either false r s h k = k

quiet_with_uleb : (make : ℕ → Instruction) (bytes : List ℕ) (place : ℕ) → ((n : ℕ) → is_quiet (make n) ≡ true) → Quiet (with_uleb make bytes place)
unfolding with_uleb
quiet_with_uleb make bytes place h = λ found e.
    let b = bind_ok (uleb_at bytes place) (λ (n : ℕ × ℕ). Ok (make n.0, n.1)) found e in quiet_here (make b.0.0) b.0.1 (h b.0.0) found b.2

quiet_symbol : (flags : ℕ) (bytes : List ℕ) (place : ℕ) → Quiet (symbol_operand_at flags bytes place)
unfolding symbol_operand_at
quiet_symbol flags bytes place = λ found e.
    let b = bind_ok (text_at bytes place) (λ (name : List ℕ). Ok (symbol flags name, place + length name + 1)) found e in
    quiet_here (symbol flags b.0) (place + length b.0 + 1) refl found b.2

quiet_addend : (bytes : List ℕ) (place : ℕ) → Quiet (addend_at bytes place)
unfolding addend_at
quiet_addend bytes place = λ found e.
    let b = bind_ok (sleb_at bytes place) (λ (n : ℤ × ℕ). Ok (addend n.0, n.1)) found e in quiet_here (addend b.0.0) b.0.1 refl found b.2

quiet_times : (bytes : List ℕ) (place : ℕ) → Quiet (times_at bytes place)
unfolding times_at
quiet_times bytes place = λ found e.
    let a = bind_ok (uleb_at bytes place) (λ (n : ℕ × ℕ). uleb_at bytes n.1 >>= λ (m : ℕ × ℕ). Ok (binds n.0 m.0, m.1)) found e in
    let b = bind_ok (uleb_at bytes a.0.1) (λ (m : ℕ × ℕ). Ok (binds a.0.0 m.0, m.1)) found a.2 in
    quiet_here (binds a.0.0 b.0.0) b.0.1 refl found b.2

quiet_row : (pointer : ℕ) (bytes : List ℕ) (opcode imm place : ℕ) → opcode ≢ 0x00 → opcode ≢ 0x10 → opcode ≢ 0x20
    → Quiet (row_at pointer bytes opcode imm place)
unfolding row_at
quiet_row pointer bytes opcode imm place a b c =
    rw (ne_eqb opcode 0x00 a, ne_eqb opcode 0x10 b, ne_eqb opcode 0x20 c)
    (quiet_either (opcode == 0x40) _ _ (quiet_symbol imm bytes place)
    (quiet_either (opcode == 0x60) _ _ (quiet_addend bytes place)
    (quiet_either (opcode == 0x70) _ _ (quiet_with_uleb (segment imm) bytes place (λ n. refl))
    (quiet_either (opcode == 0x80) _ _ (quiet_with_uleb advance bytes place (λ n. refl))
    (quiet_either (opcode == 0x90) _ _ (quiet_here (binds 1 0) place refl)
    (quiet_either (opcode == 0xa0) _ _ (quiet_with_uleb (binds 1) bytes place (λ n. refl))
    (quiet_either (opcode == 0xb0) _ _ (quiet_here (binds 1 (imm * pointer)) place refl)
    (quiet_either (opcode == 0xc0) _ _ (quiet_times bytes place) (quiet_here nothing place refl)))))))))

quiet_not_done : (i : Instruction) → is_quiet i ≡ true → done_is i ≡ false
quiet_not_done done h = cc
quiet_not_done _ h = refl

-- what holds of an instruction that sets the library, and of those that set none, holds of the instruction in a row
module _ (P : Instruction → Type 0) (pointer : ℕ) (bytes : List ℕ) (opcode imm place : ℕ) where
  row_imm : opcode ≡ 0x10 → row_at pointer bytes opcode imm place ≡ Ok (library imm, place)
  unfolding row_at
  row_imm e = rw e refl

  row_uleb : opcode ≡ 0x20 → row_at pointer bytes opcode imm place ≡ with_uleb library bytes place
  unfolding row_at
  row_uleb e = ap (λ n. row_at pointer bytes n imm place) e

  of_uleb : (found : Instruction × ℕ) → with_uleb library bytes place ≡ Ok found → ((n : ℕ) → P (library n)) → P found.0
  unfolding with_uleb
  of_uleb found e h =
      let n = bind_ok (uleb_at bytes place) (λ (n : ℕ × ℕ). Ok (library n.0, n.1)) found e in
      subst (λ (y : Instruction × ℕ). P y.0) (same_ok n.2) (h n.0.0)

  of_row : (found : Instruction × ℕ) → row_at pointer bytes opcode imm place ≡ Ok found → opcode ≢ 0x00 → (opcode ≡ 0x10 → P (library imm))
      → (opcode ≡ 0x20 → (n : ℕ) → P (library n)) → (opcode ≢ 0x10 → opcode ≢ 0x20 → (i : Instruction) → is_quiet i ≡ true → P i) → P found.0
  of_row found row d in_imm in_uleb in_rest = elim (cases_eq opcode 0x10) [
    | inl e ↦ subst (λ (y : Instruction × ℕ). P y.0) (same_ok (sym (row_imm e) ∙ row)) (in_imm e)
    | inr m ↦ elim (cases_eq opcode 0x20) [
      | inl e ↦ of_uleb found (sym (row_uleb e) ∙ row) (in_uleb e)
      | inr u ↦ in_rest m u found.0 (quiet_row pointer bytes opcode imm place d m u found row)
    ]
  ]

-- a DONE has opcode 0
pub no_done : (pointer : ℕ) (bytes : List ℕ) (opcode imm place : ℕ) (found : Instruction × ℕ) → row_at pointer bytes opcode imm place ≡ Ok found
    → opcode ≢ 0x00 → done_is found.0 ≡ false
no_done pointer bytes opcode imm place found row d =
    of_row (λ i. done_is i ≡ false) pointer bytes opcode imm place found row d (λ e. refl) (λ e n. refl) (λ m u i q. quiet_not_done i q)

-- ---- the ordinal

-- a byte at the place of an instruction
abbrev pub at_byte : ℕ → Instruction → ℕ → Placed
at_byte place i after = record { place = place; instruction = i; after = after }

module _ (bytes : List ℕ) (place byte : ℕ) (there : byte_at bytes place ≡ Ok byte) (special : Option ℤ) (end : ℕ) (b : Bind) (after : ℕ) where
  -- the ordinal is unchanged
  kept : (i : Instruction) → is_quiet i ≡ true → bit_and byte 0xf0 ≢ 0x30
      → ordinal_after bytes (at_byte place i after) (ordinal_now special b.library) ≡ ordinal_now special (set_by i end b).library
  unfolding set_by moved
  kept done q h = cc
  kept (library n) q h = cc
  kept nothing q h = rw (there, ne_eqb (bit_and byte 0xf0) 0x30 h) refl
  kept _ q h = refl

  abbrev opcode_there : ℕ
  opcode_there = bit_and byte 0xf0

  abbrev imm_there : ℕ
  imm_there = bit_and byte 0x0f

  abbrev Next : Instruction → Type 0
  Next i =
      ordinal_after bytes (at_byte place i after) (ordinal_now special b.library)
      ≡ ordinal_now (special_after special opcode_there imm_there) (set_by i end b).library

  row_special : (pointer : ℕ) → opcode_there ≡ 0x30 → row_at pointer bytes opcode_there imm_there (place + 1) ≡ Ok (nothing, place + 1)
  unfolding row_at
  row_special pointer e = rw e refl

  -- a DONE sets no ordinal
  pub next_nothing : opcode_there ≡ 0x00 → Next nothing
  unfolding set_by
  next_nothing e = rw (there, e) refl

  next_special : opcode_there ≡ 0x30 → Next nothing
  unfolding set_by
  next_special e = rw (there, e) refl

  next_imm : opcode_there ≡ 0x10 → Next (library imm_there)
  unfolding set_by
  next_imm e = rw e refl

  next_uleb : opcode_there ≡ 0x20 → (n : ℕ) → Next (library n)
  unfolding set_by
  next_uleb e n = rw e refl

  -- the ordinal after an instruction, by its opcode
  pub next_ordinal : (pointer : ℕ) (found : Instruction × ℕ) → opcode_there ≢ 0x00
      → row_at pointer bytes opcode_there imm_there (place + 1) ≡ Ok found → Next found.0
  next_ordinal pointer found d row = elim (cases_eq opcode_there 0x30) [
    | inl e ↦ subst (λ (y : Instruction × ℕ). Next y.0) (same_ok (sym (row_special pointer e) ∙ row)) (next_special e)
    | inr s ↦ of_row Next pointer bytes opcode_there imm_there (place + 1) found row d next_imm next_uleb
        (λ m u i q. rw (ne_eqb opcode_there 0x30 s, ne_eqb opcode_there 0x10 m, ne_eqb opcode_there 0x20 u) (kept i q s))
  ]
