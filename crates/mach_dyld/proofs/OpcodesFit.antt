-- Each opcode begins after the one before it, at an existing byte.
use Rattle.std.proofs.Common.{◌≡◌, ◌<◌, ◌≤◌, ℕ, ◌-◌, List, [], ◌∷◌, length, min, Ok, Err, Option, None, ap, arith, ◌⊎◌, inl, inr}
use Rattle.std.specs.Prelude.{slice_get, Some}
use Rattle.std.proofs.Common.{get_or}
use Rattle.std.proofs.lemmas.Option.{slice_get_cases}
use Rattle.std.proofs.Math.Nat.{min-eq_left, min-eq_right}
use Rattle.std.proofs.lemmas.Bool.{cases_lt}
use Rattle.mach_base.specs.Fault.{Fault, bad_offset}
use Rattle.mach_dyld.specs.Instructions.{Instruction, byte_of}
unfoldable use Rattle.mach_dyld.specs.Instructions.{byte_at}
use Rattle.mach_dyld.specs.Bindings.{BindingsHave, opcode_at}
use Rattle.mach_dyld.specs.Instructions.{instruction_at}
use Rattle.mach_dyld.specs.Machine.{Moves}
use Rattle.mach_dyld.specs.RowsMove.{import_reads, binding_reads}
use Rattle.mach_dyld.specs.Streams.{Reader, Range, Placed, Follow, AllOccurBy, IsBeginning, IsBeginningBy, Input, StreamsHave, BeginningsHave}
use Rattle.mach_dyld.specs.OpcodesFit.{bytes_in, WeakOpcodesFit, RebaseOpcodesFit, BindOpcodesFit, opcode_bytes, OpcodeBytesFit}
use Rattle.mach_dyld.specs.Rebases.{rebase_opcode_at}
use Rattle.mach_dyld.specs.StreamsMove.{weak_reads, rebase_reads}
use Rattle.mach_dyld.specs.WeakBinds.{weak_opcode_at}

no_byte : (bytes : List ℕ) (place : ℕ) → slice_get bytes place ≡ None → byte_at bytes place ≡ Err (bad_offset place)
unfolding byte_at
no_byte bytes place none = ap (λ (found : Option ℕ). byte_of place found) none

-- at most either of two
least : (a b from n : ℕ) → n ≤ a - from → n ≤ b - from → n ≤ min a b - from
least a b from n = by (cases_lt a b)
  where
    by : (a < b) ⊎ (b ≤ a) → n ≤ a - from → n ≤ b - from → n ≤ min a b - from
    by (inl lt) first second = let le : a ≤ b = omega (arith, lt) in rw (min-eq_left le) first
    by (inr le) first second = rw (min-eq_right le) second

module _ (reader : Reader) (bytes : List ℕ) (moves : Moves reader)
    (none : (place : ℕ) (f : Fault) → byte_at bytes place ≡ Err f → reader place ≡ Err f) where
  -- what can be read begins within the bytes
  begins : (place : ℕ) (found : Instruction × ℕ) → reader place ≡ Ok found → place < length bytes
  begins place found e = by (slice_get_cases bytes place).1
    where
      by : ((x : ℕ) × (place < length bytes) × (slice_get bytes place ≡ Some x) × (get_or bytes place x ≡ x))
          ⊎ ((length bytes ≤ place) × (slice_get bytes place ≡ None)) → place < length bytes
      by (inl h) = h.1
      by (inr h) = let refused = none place (bad_offset place) (no_byte bytes place h.1) in absurd (cc)

  -- from a place on there are at most as many as bytes up to the end
  few : (upto place : ℕ) (ps : List Placed) → Follow place ps → AllOccurBy reader upto ps → (length ps ≤ upto - place) × (length ps ≤ length bytes - place)
  few upto place [] follow occur = (omega arith, omega arith)
  few upto place (p ∷ ps) follow occur =
      let first = occur.0 in
      let there = begins p.place _ first.read in
      let following = moves p.place _ first.read in
      let rest = few upto p.after ps follow.1 occur.1 in
      let within = first.within in
      let at = follow.0 in
      (omega (arith, within, following, rest.0, at), omega (arith, there, following, rest.1, at))

  pub fit : (r : Range) (ps : List Placed) → IsBeginningBy reader r ps → length ps ≤ bytes_in bytes r
  fit r ps is = let both = few r.upto r.from ps is.follow is.occur in least r.upto (length bytes) r.from (length ps) both.0 both.1

  -- and they take at most the bytes that exist from the place on
  short : (upto place : ℕ) (ps : List Placed) → Follow place ps → AllOccurBy reader upto ps → opcode_bytes bytes ps ≤ length bytes - place
  short upto place [] follow occur = omega arith
  short upto place (p ∷ ps) follow occur =
      let first = occur.0 in
      let there = begins p.place _ first.read in
      let following = moves p.place _ first.read in
      let rest = short upto p.after ps follow.1 occur.1 in
      let at = follow.0 in
      omega (arith, there, following, rest, at)

  pub bytes_fit : (r : Range) (ps : List Placed) → IsBeginningBy reader r ps → opcode_bytes bytes ps ≤ length bytes - r.from
  bytes_fit r ps is = short r.upto r.from ps is.follow is.occur

pub weak_opcodes_lem : WeakOpcodesFit
weak_opcodes_lem x r ps items are =
    fit _ x.bytes (weak_reads.moves r x.pointer x.bytes) (weak_reads.bytes r x.pointer x.bytes) r ps are.longest.beginning

pub rebase_opcodes_lem : RebaseOpcodesFit
rebase_opcodes_lem x le r ps items are =
    fit _ x.bytes (rebase_reads.moves r x.pointer x.bytes) (rebase_reads.bytes r x.pointer x.bytes) r ps are.longest.beginning

module _ (x : Input) where
  of_binds : (r : Range) (ps : List Placed) → IsBeginning x r ps → length ps ≤ bytes_in x.bytes r
  of_binds r ps is = fit _ x.bytes (import_reads.moves r x.pointer x.bytes) (import_reads.bytes r x.pointer x.bytes) r ps is

pub whole_opcodes_lem : BindOpcodesFit StreamsHave
whole_opcodes_lem x non_lazy lazy n have =
    let first = of_binds x non_lazy have.0 have.2.beginning in
    let later = of_binds x lazy have.1 have.3.beginning in
    let is = have.4 in
    omega (arith, first, later, is)

pub cut_opcodes_lem : BindOpcodesFit BeginningsHave
cut_opcodes_lem x non_lazy lazy n have =
    let first = of_binds x non_lazy have.0 have.4.beginning in
    let later = of_binds x lazy have.1 have.5.beginning in
    let is = have.6 in
    omega (arith, first, later, is)

pub binding_opcodes_lem : BindOpcodesFit BindingsHave
binding_opcodes_lem x non_lazy lazy n have =
    let first = of_bindings non_lazy have.0 have.3.longest.beginning in
    let later = of_bindings lazy have.1 have.3.lazy_longest.beginning in
    let is = have.4 in
    omega (arith, first, later, is)
  where
    of_bindings : (r : Range) (ps : List Placed) → IsBeginningBy (opcode_at r x.pointer x.bytes) r ps → length ps ≤ bytes_in x.bytes r
    of_bindings r ps is = fit _ x.bytes (binding_reads.moves r x.pointer x.bytes) (binding_reads.bytes r x.pointer x.bytes) r ps is

-- ---- their bytes

pub import_bytes_lem : OpcodeBytesFit (λ r. instruction_at)
import_bytes_lem r pointer bytes ps is = bytes_fit _ bytes (import_reads.moves r pointer bytes) (import_reads.bytes r pointer bytes) r ps is

pub binding_bytes_lem : OpcodeBytesFit opcode_at
binding_bytes_lem r pointer bytes ps is = bytes_fit _ bytes (binding_reads.moves r pointer bytes) (binding_reads.bytes r pointer bytes) r ps is

pub weak_bytes_lem : OpcodeBytesFit weak_opcode_at
weak_bytes_lem r pointer bytes ps is = bytes_fit _ bytes (weak_reads.moves r pointer bytes) (weak_reads.bytes r pointer bytes) r ps is

pub rebase_bytes_lem : OpcodeBytesFit rebase_opcode_at
rebase_bytes_lem r pointer bytes ps is = bytes_fit _ bytes (rebase_reads.moves r pointer bytes) (rebase_reads.bytes r pointer bytes) r ps is
