-- How the instructions of bindings are read.
use Rattle.mach_dyld.proofs.BindNames.{◌≡◌, ◌≢◌, ℕ, ◌+◌, List, Bool, true, false, Ok, Err, IsErr, refl, sym, ◌∙◌, nat_lt, bit_and, inl, inr, cases_eq}
use Rattle.mach_dyld.proofs.BindNames.{ne_eqb, malformed, bad_offset, byte_at, row_at, instruction_at, Range}
use Rattle.mach_dyld.specs.Bindings.{done_leads_to, highest_opcode}
use Rattle.mach_dyld.specs.Instructions.{nothing}
unfoldable use Rattle.mach_dyld.specs.Bindings.{opcode_at, bindings_row}
use Rattle.mach_dyld.proofs.BindSteps.{by_row}

module _ (r : Range) (pointer : ℕ) (bytes : List ℕ) (place byte : ℕ) (there : byte_at bytes place ≡ Ok byte) where
  by_table : opcode_at r pointer bytes place ≡ bindings_row r pointer bytes (bit_and byte 0xf0) (bit_and byte 0x0f) (place + 1)
  unfolding opcode_at
  by_table = rw there refl

  -- an opcode above the table
  pub unknown : nat_lt (highest_opcode r.is_lazy) (bit_and byte 0xf0) ≡ true → opcode_at r pointer bytes place ≡ Err malformed
  unfolding bindings_row
  unknown h = by_table ∙ rw h refl

  no_higher : (l : Bool) → nat_lt (highest_opcode l) 0x00 ≡ false
  no_higher true = refl
  no_higher false = refl

  -- a DONE
  pub at_done : bit_and byte 0xf0 ≡ 0x00 → opcode_at r pointer bytes place ≡ Ok (nothing, done_leads_to r (place + 1))
  unfolding bindings_row
  at_done e = by_table ∙ rw (e, no_higher r.is_lazy) refl

  -- any other
  pub as_read : nat_lt (highest_opcode r.is_lazy) (bit_and byte 0xf0) ≡ false → bit_and byte 0xf0 ≢ 0x00
      → opcode_at r pointer bytes place ≡ row_at pointer bytes (bit_and byte 0xf0) (bit_and byte 0x0f) (place + 1)
  unfolding bindings_row
  as_read h d = by_table ∙ rw (h, ne_eqb (bit_and byte 0xf0) 0x00 d) refl

  -- an instruction that can't be read
  pub unread : nat_lt (highest_opcode r.is_lazy) (bit_and byte 0xf0) ≡ false → IsErr (opcode_at r pointer bytes place)
      → opcode_at r pointer bytes place ≡ instruction_at pointer bytes place
  unread h e = elim (cases_eq (bit_and byte 0xf0) 0x00) [
    | inl z ↦ absurd (let k = rw (at_done z) at e in cc)
    | inr d ↦ as_read h d ∙ sym (by_row pointer bytes place byte there)
  ]

-- a place without a byte
pub past_end : (r : Range) (pointer : ℕ) (bytes : List ℕ) (place : ℕ) → byte_at bytes place ≡ Err (bad_offset place)
    → opcode_at r pointer bytes place ≡ Err (bad_offset place)
unfolding opcode_at
past_end r pointer bytes place e = rw e refl
