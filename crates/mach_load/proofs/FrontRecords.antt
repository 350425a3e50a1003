-- The command at the start of some bytes, by the size of its record.
use Rattle.std.proofs.Common.{◌≡◌, ◌≢◌, ℕ, ◌+◌, ◌<◌, ◌≤◌, Bool, true, cond, ◌&&◌, ◌||◌, eqb, leb, List, [], ◌∷◌, length, Err, inl, inr}
use Rattle.std.proofs.Common.{sym, ap, subst, refl, ◌∙◌, arith}
use Rattle.std.proofs.lemmas.Bool.{cases_Bool, lt-leb, leb-true, eqb-true, or_cases}
use Rattle.mach_base.specs.declared.context.Endian.{Endian}
use Rattle.mach_base.specs.Fault.{too_big}
use Rattle.mach_base.specs.Record.{Field, size, record_at}
use Rattle.mach_load.specs.Commands.{Body, by_fields, by_thread, CommandRow, command_rows, row_among, row_of}
use Rattle.mach_load.specs.Command.{body_at, command_by, IsHeldBy, IsSizeOf}
use Rattle.mach_load.proofs.Threads.{both}

module _ (le : Endian) (bytes : List ℕ) (some : 0 < length bytes) where
  record_refused : (fields : List Field) → length bytes < size fields → record_at le fields bytes 0 ≡ Err (too_big (size fields) (length bytes))
  record_refused fields short = rw (lt-leb (length bytes) 0 some, lt-leb (0 + size fields) (length bytes) (omega (arith, short)))
      (ap (λ (left : ℕ). Err (too_big (size fields) left)) (omega arith))

  body_refused : (n : ℕ) (body : Body) → IsSizeOf n body → length bytes < n → body_at body le bytes 0 ≡ Err (too_big n (length bytes))
  body_refused n (by_fields fields) is short = rw is (record_refused fields (omega (arith, is)))
  body_refused n by_thread is short = absurd is

  -- bytes that are fewer than the record are refused
  pub command_refused : (n : ℕ) (row : CommandRow) → IsSizeOf n row.body → length bytes < n
      → command_by row le bytes 0 ≡ Err (too_big n (length bytes))
  command_refused n row is short = rw (body_refused n row.body is short) refl

more_held : (n len : ℕ) (body : Body) → IsHeldBy n body → n ≤ len → IsHeldBy len body
more_held n len (by_fields fields) held room = omega (arith, held)
more_held n len by_thread held room = absurd held

-- the record of a row has at most n bytes, or the row has a thread's number
abbrev is_short : ℕ → Body → ℕ → Bool
is_short n (by_fields fields) cmd = leb (size fields) n
is_short n by_thread cmd = eqb 4 cmd || eqb 5 cmd

abbrev all_short : ℕ → List CommandRow → Bool
all_short n [] = true
all_short n (row ∷ rows) = is_short n row.body row.cmd && all_short n rows

short_held : (n : ℕ) (body : Body) (cmd : ℕ) → is_short n body cmd ≡ true → 4 ≢ cmd → 5 ≢ cmd → IsHeldBy n body
short_held n (by_fields fields) cmd e four five = leb-true (size fields) n e
short_held n by_thread cmd e four five = elim (or_cases (eqb 4 cmd) (eqb 5 cmd) e) [
  | inl is_four ↦ absurd (four (eqb-true 4 cmd is_four))
  | inr is_five ↦ absurd (five (eqb-true 5 cmd is_five))
]

held_among : (n : ℕ) (rows : List CommandRow) → all_short n rows ≡ true → 8 ≤ n → (cmd : ℕ) → 4 ≢ cmd → 5 ≢ cmd → IsHeldBy n (row_among rows cmd).body
held_among n [] short header cmd four five = header
held_among n (row ∷ rows) short header cmd four five =
    let split = both (is_short n row.body row.cmd) (all_short n rows) short in
    elim (cases_Bool (eqb cmd row.cmd)) [
      | inl is ↦
          let same : cmd ≡ row.cmd = eqb-true cmd row.cmd is in
          let here = short_held n row.body row.cmd split.0 (λ e. four (e ∙ sym same)) (λ e. five (e ∙ sym same)) in
          subst (λ (b : Bool). IsHeldBy n (cond b row (row_among rows cmd)).body) (sym is) here
      | inr not ↦
          subst (λ (b : Bool). IsHeldBy n (cond b row (row_among rows cmd)).body) (sym not) (held_among n rows split.1 header cmd four five)
    ]

-- eighty bytes hold the record of each command that is no thread
pub held_by_eighty : (len cmd : ℕ) → 80 ≤ len → 4 ≢ cmd → 5 ≢ cmd → IsHeldBy len (row_of cmd).body
unfolding row_of
held_by_eighty len cmd room four five =
    more_held 80 len (row_among command_rows cmd).body (held_among 80 command_rows refl (omega arith) cmd four five) room
