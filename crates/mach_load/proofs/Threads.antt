-- Which commands are threads, and which places have no other command.
use Rattle.std.proofs.Common.{◌≡◌, ◌≢◌, ℕ, ◌-◌, ◌<◌, ◌≤◌, Bool, true, false, cond, not, ◌&&◌, ◌||◌, eqb, ltb, List, [], ◌∷◌, length, drop, ◌⊎◌, inl}
use Rattle.std.proofs.Common.{inr, Result, Ok, Err, refl, sym, ap, subst, ◌∙◌, arith}
use Rattle.std.proofs.lemmas.Bool.{cases_Bool, le-leb, lt-ltb, eqb-true, or_cases}
use Rattle.std.proofs.lemmas.List.{length-drop}
use Rattle.mach_base.specs.declared.context.Endian.{Endian}
use Rattle.mach_base.specs.Answer.{◌>>=◌}
use Rattle.mach_base.specs.Fault.{Fault, malformed}
use Rattle.mach_base.specs.Record.{Value, record_at}
use Rattle.mach_base.proofs.Binds.{bind_ok, same_ok}
use Rattle.mach_records.specs.declared.load_command_header.LoadCommandHeader.{LoadCommandHeader}
use Rattle.mach_records.specs.LoadCommandHeader.{header_fields, header_values}
use Rattle.mach_load.specs.Commands.{Kind, thread, unixthread, CommandRow, command_rows, row_among, row_of}
use Rattle.mach_load.specs.Command.{Command, IsThread, IsThreadOrRefused, body_at, command_by, command_at}
use Rattle.mach_load.proofs.CommandFronts.{record_there, refused_there}

abbrev is_thread : Kind → Bool
is_thread thread = true
is_thread unixthread = true
is_thread _ = false

-- a row of a thread has a thread's number
abbrev names_threads : List CommandRow → Bool
names_threads [] = true
names_threads (row ∷ rows) = (not (is_thread row.kind) || (eqb 4 row.cmd || eqb 5 row.cmd)) && names_threads rows

pub both : (a b : Bool) → (a && b) ≡ true → (a ≡ true) × (b ≡ true)
both true b e = (refl, e)
both false b e = absurd (cc)

not_true : (b : Bool) → not b ≡ true → b ≡ false
not_true true e = absurd (cc)
not_true false e = refl

no_thread_among : (rows : List CommandRow) → names_threads rows ≡ true → (cmd : ℕ) → 4 ≢ cmd → 5 ≢ cmd → is_thread (row_among rows cmd).kind ≡ false
no_thread_among [] named cmd four five = refl
no_thread_among (row ∷ rows) named cmd four five =
    let split = both (not (is_thread row.kind) || (eqb 4 row.cmd || eqb 5 row.cmd)) (names_threads rows) named in
    elim (cases_Bool (eqb cmd row.cmd)) [
      | inl is ↦
          let same : cmd ≡ row.cmd = eqb-true cmd row.cmd is in
          let here : is_thread row.kind ≡ false = elim (or_cases (not (is_thread row.kind)) (eqb 4 row.cmd || eqb 5 row.cmd) split.0) [
            | inl other ↦ not_true (is_thread row.kind) other
            | inr named ↦ elim (or_cases (eqb 4 row.cmd) (eqb 5 row.cmd) named) [
              | inl is_four ↦ absurd (four (eqb-true 4 row.cmd is_four ∙ sym same))
              | inr is_five ↦ absurd (five (eqb-true 5 row.cmd is_five ∙ sym same))
            ]
          ] in
          ap (λ (b : Bool). is_thread (cond b row (row_among rows cmd)).kind) is ∙ here
      | inr not ↦ ap (λ (b : Bool). is_thread (cond b row (row_among rows cmd)).kind) not ∙ no_thread_among rows split.1 cmd four five
    ]

no_thread_row : (cmd : ℕ) → 4 ≢ cmd → 5 ≢ cmd → is_thread (row_of cmd).kind ≡ false
unfolding row_of
no_thread_row cmd four five = no_thread_among command_rows refl cmd four five

-- a command of another number is no thread
pub no_thread_by : (le : Endian) (bytes : List ℕ) (s cmd : ℕ) (c : Command) → 4 ≢ cmd → 5 ≢ cmd → command_by (row_of cmd) le bytes s ≡ Ok c → ¬ IsThread c
no_thread_by le bytes s cmd c four five e is =
    let row = row_of cmd in
    let values = bind_ok (body_at row.body le bytes s) (λ (vs : List Value). Ok (record { offset = s; kind = row.kind; values = vs })) c e in
    let kind : is_thread c.kind ≡ false = sym (ap (λ (found : Command). is_thread found.kind) (same_ok values.2)) ∙
    no_thread_row cmd four five in
    elim is [ inl one ↦ absurd (let wrong = sym kind ∙ ap is_thread one in cc) | inr two ↦ absurd (let wrong = sym kind ∙ ap is_thread two in cc) ]

refused : (r : Result Command Fault) (f : Fault) → r ≡ Err f → IsThreadOrRefused r
refused r f e = subst IsThreadOrRefused (sym e) tt

unless_refused : (b : Bool) (r : Result Command Fault) → IsThreadOrRefused r → IsThreadOrRefused (cond b (Err malformed) r)
unless_refused true r h = tt
unless_refused false r h = h

of_kind : (kind : Kind) (s : ℕ) (r : Result (List Value) Fault) → (kind ≡ thread) ⊎ (kind ≡ unixthread)
    → IsThreadOrRefused (r >>= λ (vs : List Value). Ok (record { offset = s; kind = kind; values = vs }))
of_kind kind s (Ok vs) h = h
of_kind kind s (Err f) h = tt

thread_row : (cmd : ℕ) → (cmd ≡ 4) ⊎ (cmd ≡ 5) → ((row_of cmd).kind ≡ thread) ⊎ ((row_of cmd).kind ≡ unixthread)
unfolding row_of
thread_row cmd is = elim is [
  | inl four ↦ inl (ap (λ (n : ℕ). (row_of n).kind) four)
  | inr five ↦ inr (ap (λ (n : ℕ). (row_of n).kind) five)
]

-- no command lies past the end
pub refused_outside : (le : Endian) (bytes : List ℕ) (s : ℕ) → length bytes ≤ s → IsThreadOrRefused (command_at le bytes s)
refused_outside le bytes s out = rw (le-leb (length bytes) s out) tt

module _ (le : Endian) (bytes rest : List ℕ) (s : ℕ) (inside : s < length bytes) (is : rest ≡ drop s bytes) where
  header_there : record_at le header_fields bytes s ≡ record_at le header_fields rest 0
  header_there = sym (record_there le bytes s inside header_fields) ∙ ap (λ (front : List ℕ). record_at le header_fields front 0) (sym is)

  -- without a header there is no command
  pub refused_header : (f : Fault) → record_at le header_fields rest 0 ≡ Err f → IsThreadOrRefused (command_at le bytes s)
  refused_header f e = rw (header_there, e) tt

  module _ (header : LoadCommandHeader) (first : record_at le header_fields rest 0 ≡ Ok (header_values header)) where
    -- a command with a thread's number is a thread or refused
    pub thread_or_refused : (header.cmd ≡ 4) ⊎ (header.cmd ≡ 5) → IsThreadOrRefused (command_at le bytes s)
    thread_or_refused number =
        let row = row_of header.cmd in
        rw (header_there, first) (unless_refused (ltb (length bytes - s) header.cmdsize) (command_by row le bytes s)
        (of_kind row.kind s (body_at row.body le bytes s) (thread_row header.cmd number)))

    -- a command that exceeds the bytes is refused
    pub refused_size : length rest < header.cmdsize → IsThreadOrRefused (command_at le bytes s)
    refused_size long =
        let test : ltb (length bytes - s) header.cmdsize ≡ true = lt-ltb (length bytes - s) header.cmdsize (omega (arith, ap length is, length-drop s bytes)) in
        rw (header_there, first, test) tt

    -- a command whose record is refused is refused
    pub refused_record : (f : Fault) → command_by (row_of header.cmd) le rest 0 ≡ Err f → IsThreadOrRefused (command_at le bytes s)
    refused_record f e =
        let by = refused_there le bytes s inside (row_of header.cmd) f (subst (λ (front : List ℕ). command_by (row_of header.cmd) le front 0 ≡ Err f) is e) in
        rw (header_there, first) (unless_refused (ltb (length bytes - s) header.cmdsize) (command_by (row_of header.cmd) le bytes s)
        (refused (command_by (row_of header.cmd) le bytes s) f by))
