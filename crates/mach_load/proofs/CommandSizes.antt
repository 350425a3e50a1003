-- Every record of a load command begins with cmd and cmdsize, so its cmdsize is that of its header.
use Rattle.std.proofs.Common.{◌≡◌, ℕ, ◌+◌, ◌-◌, ◌*◌, Bool, cond, ltb, leb, eqb, List, [], ◌∷◌, ◌++◌, map, length, drop, Ok, Err, inl, inr, refl, sym}
use Rattle.std.proofs.Common.{ap, subst, ◌∙◌, rules}
use Rattle.std.proofs.lemmas.Bool.{cases_Bool}
use Rattle.mach_base.specs.declared.context.Endian.{Endian}
use Rattle.mach_base.specs.Fault.{malformed, bad_offset, too_big}
use Rattle.mach_base.specs.Number.{number, bounded}
use Rattle.mach_base.specs.Record.{Field, num, Value, number_is, number_among, size, values_in, record_at}
use Rattle.mach_base.proofs.Binds.{bind_ok, chosen, same_ok}
use Rattle.mach_records.specs.LoadCommandHeader.{header_fields}
use Rattle.mach_load.specs.Commands.{Body, by_fields, by_thread, CommandRow, command_rows, row_among, row_of}
use Rattle.mach_load.specs.ThreadState.{thread_fields, state_at, state_after, thread_at}
use Rattle.mach_load.specs.Command.{Command, cmdsize_of, body_at, command_by}

-- what a bounded read returns is what was to be read
bounded_ok : {A : Type 0} (n : ℕ) (bytes : List ℕ) (s : ℕ) (x y : A) → bounded n bytes s x ≡ Ok y → x ≡ y
bounded_ok n bytes s x y e =
    elim (chosen (leb (length bytes) s) (Err (bad_offset s)) (cond (leb (s + n) (length bytes)) (Ok x) (Err (too_big n (length bytes - s)))) (Ok y) e) [
      | inl out ↦ absurd (let wrong = out.1 in cc)
      | inr inside ↦ elim (chosen (leb (s + n) (length bytes)) (Ok x) (Err (too_big n (length bytes - s))) (Ok y) inside.1) [
        | inl found ↦ same_ok found.1
        | inr short ↦ absurd (let wrong = short.1 in cc)
      ]
    ]

abbrev Begins : List Field → Type 0
Begins fields = fields ≡ num 4 ∷ num 4 ∷ drop 2 fields

abbrev BodyBegins : Body → Type 0
BodyBegins (by_fields fields) = Begins fields
BodyBegins by_thread = Unit {0}

abbrev AllBegin : List CommandRow → Type 0
AllBegin [] = Unit {0}
AllBegin (row ∷ rows) = BodyBegins row.body × AllBegin rows

row_begins : (rows : List CommandRow) → AllBegin rows → (cmd : ℕ) → BodyBegins (row_among rows cmd).body
row_begins [] all cmd = refl
row_begins (row ∷ rows) all cmd = elim (cases_Bool (eqb cmd row.cmd)) [
  | inl is ↦ subst (λ (r : CommandRow). BodyBegins r.body) (sym (ap (λ (b : Bool). cond b row (row_among rows cmd)) is)) all.0
  | inr not ↦ subst (λ (r : CommandRow). BodyBegins r.body) (sym (ap (λ (b : Bool). cond b row (row_among rows cmd)) not)) (row_begins rows all.1 cmd)
]

table_begins : AllBegin command_rows
table_begins = search rules

row_of_begins : (cmd : ℕ) → BodyBegins (row_of cmd).body
unfolding row_of
row_of_begins cmd = row_begins command_rows table_begins cmd

-- the second number of a record that begins with two of four bytes
second_number : (le : Endian) (fields : List Field) (bytes : List ℕ) (s : ℕ) (values : List Value) → Begins fields
    → record_at le fields bytes s ≡ Ok values → number_among values 1 ≡ number le 4 (drop (s + 4) bytes)
second_number le fields bytes s values begins e =
    let is : values_in le fields s bytes ≡ values = bounded_ok (size fields) bytes s (values_in le fields s bytes) values e in
    let there : values_in le (num 4 ∷ num 4 ∷ drop 2 fields) s bytes ≡ values = subst (λ (fs : List Field). values_in le fs s bytes ≡ values) begins is in
    sym (ap (λ (vs : List Value). number_among vs 1) there)

second_of_thread : (le : Endian) (bytes : List ℕ) (s : ℕ) (values : List Value) → thread_at le bytes s ≡ Ok values
    → number_among values 1 ≡ number le 4 (drop (s + 4) bytes)
unfolding thread_at
second_of_thread le bytes s values e =
    let head = bind_ok (record_at le thread_fields bytes s) (state_after le bytes s) values e in
    let is : values_in le thread_fields s bytes ≡ head.0 = bounded_ok (size thread_fields) bytes s (values_in le thread_fields s bytes) head.0 head.1 in
    let count = number_among head.0 3 in
    let whole = head.0 ++ map number_is (state_at le bytes (s + 16) count) in
    elim (chosen (ltb 70 count) (Err malformed) (cond (leb (s + 16 + 4 * count) (length bytes)) (Ok whole) (Err malformed)) (Ok values) head.2) [
      | inl many ↦ absurd (let wrong = many.1 in cc)
      | inr few ↦ elim (chosen (leb (s + 16 + 4 * count) (length bytes)) (Ok whole) (Err malformed) (Ok values) few.1) [
        | inl there ↦
            let same : whole ≡ values = same_ok there.1 in
            let front : number_among whole 1 ≡ number_among (values_in le thread_fields s bytes ++ map number_is (state_at le bytes (s + 16) count)) 1 =
            ap (λ (vs : List Value). number_among (vs ++ map number_is (state_at le bytes (s + 16) count)) 1) (sym is) in
            ap (λ (vs : List Value). number_among vs 1) (sym same) ∙ front
        | inr short ↦ absurd (let wrong = short.1 in cc)
      ]
    ]

second_of_body : (body : Body) (le : Endian) (bytes : List ℕ) (s : ℕ) (values : List Value) → BodyBegins body → body_at body le bytes s ≡ Ok values
    → number_among values 1 ≡ number le 4 (drop (s + 4) bytes)
second_of_body (by_fields fields) le bytes s values begins e = second_number le fields bytes s values begins e
second_of_body by_thread le bytes s values begins e = second_of_thread le bytes s values e

-- the cmdsize of a command is that of its header
pub cmdsize_is : (le : Endian) (bytes : List ℕ) (s cmd : ℕ) (header : List Value) (c : Command) → record_at le header_fields bytes s ≡ Ok header
    → command_by (row_of cmd) le bytes s ≡ Ok c → number_among header 1 ≡ cmdsize_of c
cmdsize_is le bytes s cmd header c there e =
    let row = row_of cmd in
    let values = bind_ok (body_at row.body le bytes s) (λ (vs : List Value). Ok (record { offset = s; kind = row.kind; values = vs })) c e in
    let one = second_of_body row.body le bytes s values.0 (row_of_begins cmd) values.1 in
    let two = second_number le header_fields bytes s header refl there in
    two ∙ (sym one ∙ ap cmdsize_of (same_ok values.2))
