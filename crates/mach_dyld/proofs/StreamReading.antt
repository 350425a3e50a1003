-- How the opcodes of weak binds and of rebases are read, one by one.
use Rattle.mach_dyld.proofs.BindNames.{◌≡◌, ◌≢◌, ℕ, ◌+◌, ◌*◌, ◌/◌, ◌%◌, ◌<◌, ◌≤◌, List, length, Bool, true, false, Result, Fault}
use Rattle.mach_dyld.proofs.BindNames.{Ok, Err, IsOk, IsErr, refl, sym, ap, ◌∙◌, nat_lt}
use Rattle.mach_dyld.proofs.BindNames.{bit_and, arith, nat_tests}
use Rattle.mach_dyld.proofs.BindNames.{ne_eqb, malformed, bad_offset, byte_at, row_at, instruction_at, Range}
use Rattle.std.proofs.lemmas.Bool.{ltb-true, ltb-false}
use Rattle.std.proofs.lemmas.Nat.Bits.{and_high}
use Rattle.std.proofs.lemmas.Option.{slice_get_past}
use Rattle.mach_dyld.specs.Instructions.{nothing}
use Rattle.mach_dyld.proofs.BindSteps.{by_row}
use Rattle.mach_dyld.specs.WeakBinds.{range_end}
unfoldable use Rattle.mach_dyld.specs.WeakBinds.{weak_name_at, weak_row, weak_opcode_at}
unfoldable use Rattle.mach_dyld.specs.Rebases.{rebase_row, rebase_opcode_at}

is_below : (a b : ℕ) → a < b → nat_lt a b ≡ true
is_below a b h = grind (arith, nat_tests)

not_below : (a b : ℕ) → b ≤ a → nat_lt a b ≡ false
not_below a b h = grind (arith, nat_tests)

-- the place to which a DONE leads
pub ends_there : (r : Range) (place : ℕ) → place < r.upto → range_end r (place + 1) ≡ r.upto
ends_there r place h = omega (arith, h)

module _ (r : Range) (pointer : ℕ) (bytes : List ℕ) (place byte : ℕ) (there : byte_at bytes place ≡ Ok byte) where
  abbrev opcode : ℕ
  opcode = bit_and byte 0xf0

  abbrev imm : ℕ
  imm = bit_and byte 0x0f

  -- ---- weak binds

  weak_table : weak_opcode_at r pointer bytes place ≡ weak_row r pointer bytes opcode imm (place + 1)
  unfolding weak_opcode_at
  weak_table = rw there refl

  pub weak_done : opcode ≡ 0x00 → place < r.upto → weak_opcode_at r pointer bytes place ≡ Ok (nothing, r.upto)
  unfolding weak_row
  weak_done e h = weak_table ∙ rw e (ap (λ (n : ℕ). Ok (nothing, n)) (ends_there r place h))

  pub weak_low : opcode ≢ 0x00 → opcode < 0x40 → weak_opcode_at r pointer bytes place ≡ Err malformed
  unfolding weak_row
  weak_low d h = weak_table ∙ rw (ne_eqb opcode 0x00 d, is_below opcode 0x40 h) refl

  pub weak_high : opcode ≢ 0x00 → 0x40 ≤ opcode → 0xc0 < opcode → weak_opcode_at r pointer bytes place ≡ Err malformed
  unfolding weak_row
  weak_high d l h = weak_table ∙ rw (ne_eqb opcode 0x00 d, not_below opcode 0x40 l, is_below 0xc0 opcode h) refl

  pub weak_name : opcode ≡ 0x40 → weak_opcode_at r pointer bytes place ≡ weak_name_at imm bytes (place + 1)
  unfolding weak_row
  weak_name e = weak_table ∙ rw e refl

  pub weak_other : opcode ≢ 0x00 → 0x40 ≤ opcode → opcode ≤ 0xc0 → opcode ≢ 0x40
      → weak_opcode_at r pointer bytes place ≡ row_at pointer bytes opcode imm (place + 1)
  unfolding weak_row
  weak_other d l h n =
      weak_table ∙ rw (ne_eqb opcode 0x00 d, not_below opcode 0x40 l, not_below 0xc0 opcode h, ne_eqb opcode 0x40 n) refl

  pub sixteens : opcode ≡ (byte / 16 % 16) * 16
  sixteens = and_high byte 4 4

  weak_by_tests : (low high : Bool) → nat_lt opcode 0x40 ≡ low → nat_lt 0xc0 opcode ≡ high → opcode ≢ 0x00
      → (0x40 ≤ opcode → opcode ≤ 0xc0 → ⊥) → weak_opcode_at r pointer bytes place ≡ Err malformed
  weak_by_tests true high is_low is_high d none = weak_low d (ltb-true opcode 0x40 is_low)
  weak_by_tests false true is_low is_high d none = weak_high d (ltb-false opcode 0x40 is_low) (ltb-true 0xc0 opcode is_high)
  weak_by_tests false false is_low is_high d none = absurd (none (ltb-false opcode 0x40 is_low) (ltb-false 0xc0 opcode is_high))

  -- an opcode that isn't one of the stream
  pub weak_unknown : opcode ≢ 0x00 → (0x40 ≤ opcode → opcode ≤ 0xc0 → ⊥) → weak_opcode_at r pointer bytes place ≡ Err malformed
  weak_unknown d none = weak_by_tests (nat_lt opcode 0x40) (nat_lt 0xc0 opcode) refl refl d none

  pub weak_zero : opcode ≡ 0x00 → weak_opcode_at r pointer bytes place ≡ Ok (nothing, range_end r (place + 1))
  unfolding weak_row
  weak_zero e = weak_table ∙ rw e refl

  -- a DONE can be read
  pub weak_no_done : IsErr (weak_opcode_at r pointer bytes place) → opcode ≢ 0x00
  weak_no_done h = λ e. let k = rw (weak_zero e) at h in cc

  -- an opcode of the table, other than 0x40, that can't be read
  pub weak_unread : IsErr (weak_opcode_at r pointer bytes place) → 0x40 ≤ opcode → opcode ≤ 0xc0 → opcode ≢ 0x40
      → weak_opcode_at r pointer bytes place ≡ instruction_at pointer bytes place
  weak_unread h l m n = weak_other (weak_no_done h) l m n ∙ sym (by_row pointer bytes place byte there)

  -- ---- rebases

  pub rebase_table : rebase_opcode_at r pointer bytes place ≡ rebase_row r pointer bytes opcode imm (place + 1)
  unfolding rebase_opcode_at
  rebase_table = rw there refl

  pub rebase_done : opcode ≡ 0x00 → place < r.upto → rebase_opcode_at r pointer bytes place ≡ Ok (nothing, r.upto)
  unfolding rebase_row
  rebase_done e h = rebase_table ∙ rw e (ap (λ (n : ℕ). Ok (nothing, n)) (ends_there r place h))

-- a place without a byte
pub weak_past : (r : Range) (pointer : ℕ) (bytes : List ℕ) (place : ℕ) → byte_at bytes place ≡ Err (bad_offset place)
    → weak_opcode_at r pointer bytes place ≡ Err (bad_offset place)
unfolding weak_opcode_at
weak_past r pointer bytes place e = rw e refl

pub rebase_past : (r : Range) (pointer : ℕ) (bytes : List ℕ) (place : ℕ) → byte_at bytes place ≡ Err (bad_offset place)
    → rebase_opcode_at r pointer bytes place ≡ Err (bad_offset place)
unfolding rebase_opcode_at
rebase_past r pointer bytes place e = rw e refl

-- a place after the bytes
pub past_bytes : (bytes : List ℕ) (place : ℕ) → length bytes ≤ place → byte_at bytes place ≡ Err (bad_offset place)
unfolding byte_at
past_bytes bytes place h = rw (slice_get_past bytes place h) refl

pub ok_or_err : {A : Type 0} (r : Result A Fault) → IsOk r → IsErr r → ⊥
ok_or_err {A} (Ok x) a b = absurd (cc)
ok_or_err {A} (Err f) a b = absurd (cc)
