-- The command at the start of the bytes from a place on is the command at that place.
use Rattle.std.proofs.Common.{◌≡◌, ℕ, zero, suc, ◌+◌, ◌-◌, ◌*◌, ◌<◌, ◌≤◌, ltb, leb, false, List, length, drop, Result, Ok, Err, inl, inr, refl, sym}
use Rattle.std.proofs.Common.{ap, ◌∙◌, arith}
use Rattle.std.proofs.lemmas.Bool.{cases_lt, le-leb, lt-leb, le-ltb}
use Rattle.std.proofs.lemmas.List.{length-drop, drop-drop}
use Rattle.mach_base.specs.declared.context.Endian.{Endian}
use Rattle.mach_base.specs.Answer.{◌>>=◌}
use Rattle.mach_base.specs.Fault.{Fault}
use Rattle.mach_base.specs.Front.{value_of, with_width}
use Rattle.mach_base.specs.Record.{Field, Value, number_among, size, record_at}
use Rattle.mach_base.proofs.Binds.{same_ok}
use Rattle.mach_base.proofs.Fronts.{record_at_offset, rest_from-inside}
use Rattle.mach_records.specs.declared.load_command_header.LoadCommandHeader.{LoadCommandHeader}
use Rattle.mach_records.specs.LoadCommandHeader.{header_fields, header_values}
use Rattle.mach_load.specs.declared.variant.CommandVariant.{CommandVariant}
use Rattle.mach_load.specs.Commands.{Kind, Body, by_fields, by_thread, CommandRow, row_of}
use Rattle.mach_load.specs.ThreadState.{thread_fields, words_at, state_after, thread_at}
use Rattle.mach_load.specs.Command.{Command, body_at, command_by, command_at}
use Rattle.mach_load.specs.Variants.{command_of}

of_width : {V : Type 0} (n : ℕ) (r : Result V Fault) → r ≡ value_of (with_width n r)
of_width n (Ok v) = refl
of_width n (Err f) = refl

same_after : {A B : Type 0} (r : Result A Fault) (f g : A → Result B Fault) → ((x : A) → f x ≡ g x) → (r >>= f) ≡ (r >>= g)
same_after (Ok x) f g same = same x
same_after (Err e) f g same = refl

-- the command with these values
abbrev made : Kind → ℕ → List Value → Result Command Fault
made kind s vs = Ok (record { offset = s; kind = kind; values = vs })

-- the same command at another place, and the same fault
moved : (kind : Kind) (s : ℕ) (v : CommandVariant) (r : Result (List Value) Fault)
    → (r >>= made kind 0) ≡ Ok (command_of (record { offset = 0; command = v })) → (r >>= made kind s) ≡ Ok (command_of (record { offset = s; command = v }))
moved kind s v (Ok vs) e = ap (λ (c : Command). Ok (record { offset = s; kind = c.kind; values = c.values })) (same_ok e)
moved kind s v (Err f) e = absurd (cc)

kept : (kind : Kind) (s : ℕ) (g : Fault) (r : Result (List Value) Fault) → (r >>= made kind 0) ≡ Err g → (r >>= made kind s) ≡ Err g
kept kind s g (Ok vs) e = absurd (cc)
kept kind s g (Err f) e = cc

module _ (le : Endian) (bytes : List ℕ) (s : ℕ) (inside : s < length bytes) where
  pub record_there : (fields : List Field) → record_at le fields (drop s bytes) 0 ≡ record_at le fields bytes s
  record_there fields =
      rw (← record_at_offset le fields bytes s, rest_from-inside bytes (drop s bytes) s inside refl)
      (of_width (size fields) (record_at le fields (drop s bytes) 0))

  words_there : (place n : ℕ) → words_at le (drop s bytes) place n ≡ words_at le bytes (s + place) n
  words_there place zero = refl
  words_there place (suc n) =
      let at : s + (place + 4 * n) ≡ s + place + 4 * n = omega arith in
      let same : drop (place + 4 * n) (drop s bytes) ≡ drop (s + place + 4 * n) bytes = drop-drop (place + 4 * n) s bytes ∙ ap (λ (p : ℕ). drop p bytes) at in
      rw (words_there place n, same) refl

  room_there : (n : ℕ) → leb (16 + n) (length (drop s bytes)) ≡ leb (s + 16 + n) (length bytes)
  room_there n =
      let len = length-drop s bytes in
      elim (cases_lt (length (drop s bytes)) (16 + n)) [
        | inl short ↦ lt-leb (16 + n) (length (drop s bytes)) short ∙ sym (lt-leb (s + 16 + n) (length bytes) (omega arith))
        | inr room ↦ le-leb (16 + n) (length (drop s bytes)) room ∙ sym (le-leb (s + 16 + n) (length bytes) (omega arith))
      ]

  body_there : (body : Body) → body_at body le (drop s bytes) 0 ≡ body_at body le bytes s
  unfolding thread_at
  body_there (by_fields fields) = record_there fields
  body_there by_thread =
      rw (record_there thread_fields) (same_after (record_at le thread_fields bytes s) (state_after le (drop s bytes) 0) (state_after le bytes s)
      (λ (head : List Value). rw (room_there (4 * number_among head 3), words_there 16 (number_among head 3)) refl))

  -- if the record is at the start of the bytes from s on, the command is the one at s; if it is refused there, so is the one at s
  pub by_there : (row : CommandRow) (v : CommandVariant) → command_by row le (drop s bytes) 0 ≡ Ok (command_of (record { offset = 0; command = v }))
      → command_by row le bytes s ≡ Ok (command_of (record { offset = s; command = v }))
  by_there row v e = rw (← body_there row.body) (moved row.kind s v (body_at row.body le (drop s bytes) 0) e)

  pub refused_there : (row : CommandRow) (f : Fault) → command_by row le (drop s bytes) 0 ≡ Err f → command_by row le bytes s ≡ Err f
  refused_there row f e = rw (← body_there row.body) (kept row.kind s f (body_at row.body le (drop s bytes) 0) e)

-- a record lies within the bytes
pub record-inside : (le : Endian) (fields : List Field) (bytes : List ℕ) (s : ℕ) (values : List Value) → record_at le fields bytes s ≡ Ok values
    → s < length bytes
record-inside le fields bytes s values e =
    elim (cases_lt s (length bytes)) [ inl inside ↦ inside | inr out ↦ absurd (let wrong = rw (le-leb (length bytes) s out) at e in cc) ]

pub command_found : (le : Endian) (bytes rest : List ℕ) (s : ℕ) (header : LoadCommandHeader) (v : CommandVariant) → s < length bytes
    → rest ≡ drop s bytes → record_at le header_fields rest 0 ≡ Ok (header_values header) → header.cmdsize ≤ length rest
    → command_by (row_of header.cmd) le rest 0 ≡ Ok (command_of (record { offset = 0; command = v }))
    → command_at le bytes s ≡ Ok (command_of (record { offset = s; command = v }))
command_found le bytes rest s header v inside is first fits e =
    let test : ltb (length bytes - s) header.cmdsize ≡ false = le-ltb (length bytes - s) header.cmdsize (omega (arith, ap length is, length-drop s bytes)) in
    rw (← record_there le bytes s inside header_fields, ← is, first, test) (by_there le bytes s inside (row_of header.cmd) v (rw (← is) e))
