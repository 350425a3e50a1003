-- The symbols of a table, and those of its remaining part.
use Rattle.std.proofs.Common.{◌≡◌, ℕ, zero, suc, ◌+◌, ◌-◌, ◌*◌, ◌<◌, ◌≤◌, Bool, cond, List, [], ◌∷◌, length, drop, Result, Ok, Err, nat_lt, inl, inr}
use Rattle.std.proofs.Common.{refl, sym, ap, ◌∙◌, subst, arith}
use Rattle.std.proofs.lemmas.Bool.{cases_lt, le-ltb, lt-ltb, ltb-true}
use Rattle.std.proofs.lemmas.List.{length-drop, drop-drop}
use Rattle.std.specs.List.{before_first}
use Rattle.mach_base.specs.declared.context.Endian.{Endian}
use Rattle.mach_base.specs.Answer.{◌>>=◌}
use Rattle.mach_base.specs.Fault.{Fault, malformed}
use Rattle.mach_base.specs.Number.{number}
use Rattle.mach_base.specs.Text.{run_at, is_zero}
use Rattle.mach_base.proofs.Binds.{bind_ok, chosen, same_ok}
use Rattle.mach_archive.specs.declared.archive.ArchiveKind.{ArchiveKind}
use Rattle.mach_archive.specs.declared.archive.ArchiveKind.TheVariants.{Gnu, Bsd}
use Rattle.mach_archive.specs.IndexSymbols.{IndexSymbol, ended_text, gnu_name_place, symbol_name_place, symbol_member, index_symbol_by}
use Rattle.mach_archive.specs.IndexSymbols.{index_symbol_at, AreIndexSymbols, after_symbol, records_after, names_after, index_symbols, table_symbols}
use Rattle.mach_archive.specs.IndexTables.{IndexTable}
use Rattle.mach_archive.specs.Members.{then_items}

-- two tests of the same fact
same_test : (a b c d : ℕ) → (a < b → c < d) → (c < d → a < b) → nat_lt a b ≡ nat_lt c d
same_test a b c d to from = elim (cases_lt a b) [
  | inl less ↦ lt-ltb a b less ∙ sym (lt-ltb c d (to less))
  | inr more ↦ le-ltb a b more ∙ sym (le-ltb c d (elim (cases_lt c d) [ inl low ↦ absurd (let wrong = from low in omega arith) | inr high ↦ high ]))
]

-- a text that ends within the names
pub ended_is : (names : List ℕ) (s : ℕ) (text : List ℕ) → ended_text names s ≡ Ok text → (text ≡ run_at names s) × (s + length text < length names)
ended_is names s text e =
    elim (chosen (nat_lt (s + length (run_at names s)) (length names)) (Ok (run_at names s)) (Err malformed) (Ok text) e) [
      | inl there ↦
          let same : run_at names s ≡ text = same_ok there.1 in
          let inside : s + length (run_at names s) < length names = ltb-true (s + length (run_at names s)) (length names) there.0 in
          (sym same, subst (λ (t : List ℕ). s + length t < length names) same inside)
      | inr not_there ↦ absurd (let wrong = not_there.1 in cc)
    ]

-- a text after the first names
ended_after : (names : List ℕ) (n s : ℕ) → n ≤ length names → ended_text (drop n names) s ≡ ended_text names (n + s)
ended_after names n s within =
    let run : run_at (drop n names) s ≡ run_at names (n + s) = ap (λ (rest : List ℕ). before_first is_zero rest) (drop-drop s n names) in
    let len : length (drop n names) ≡ length names - n = length-drop n names in
    let test : nat_lt (s + length (run_at (drop n names) s)) (length (drop n names)) ≡ nat_lt (n + s + length (run_at names (n + s))) (length names) =
    ap (λ (r : List ℕ). nat_lt (s + length r) (length (drop n names))) run ∙ same_test (s + length (run_at names (n + s))) (length (drop n names)) (n
    + s + length (run_at names (n + s))) (length names)
    (λ low. omega (arith, len)) (λ low. omega (arith, len))
    in
    ap (λ (b : Bool). cond b (Ok (run_at (drop n names) s)) (Err malformed)) test
    ∙ ap (λ (r : List ℕ). cond (nat_lt (n + s + length (run_at names (n + s))) (length names)) (Ok r) (Err malformed)) run

-- the place of a name among those after the first
place_following : (names : List ℕ) (k : ℕ) → length (run_at names 0) + 1 + gnu_name_place (drop (length (run_at names 0) + 1) names) k ≡ gnu_name_place
    names (suc k)
unfolding gnu_name_place
place_following names zero = omega arith
place_following names (suc k) =
    let n = length (run_at names 0) + 1 in
    let place = gnu_name_place (drop n names) k in
    let before : n + place ≡ gnu_name_place names (suc k) = place_following names k in
    let run : length (run_at (drop n names) place) ≡ length (run_at names (gnu_name_place names (suc k))) =
    ap (λ (rest : List ℕ). length (before_first is_zero rest)) (drop-drop place n names ∙ ap (λ (m : ℕ). drop m names) before)
    in
    omega arith

-- a number in the records after the first
number_after : (le : Endian) (w n k j : ℕ) (records : List ℕ) → n + w * k ≡ w * j
    → number le w (drop (w * k) (drop n records)) ≡ number le w (drop (w * j) records)
number_after le w n k j records same =
    ap (λ (rest : List ℕ). number le w rest) (drop-drop (w * k) n records ∙ ap (λ (m : ℕ). drop m records) same)

abbrev symbol_of : List ℕ → (place member : ℕ) → IndexSymbol
symbol_of name place member = record { name = name; place = place; member = member }

-- symbols with the same text at the same place, and the same member
made_same : {a b : Result (List ℕ) Fault} {p q m n : ℕ} → a ≡ b → p ≡ q → m ≡ n
    → (a >>= (λ name. Ok (symbol_of name p m))) ≡ (b >>= (λ name. Ok (symbol_of name q n)))
made_same {a} {b} {p} {q} {m} {n} text place member =
    ap (λ (r : Result (List ℕ) Fault). r >>= (λ name. Ok (symbol_of name p m))) text
    ∙ (ap (λ (x : ℕ). b >>= (λ name. Ok (symbol_of name x m))) place ∙ ap (λ (x : ℕ). b >>= (λ name. Ok (symbol_of name q x))) member)

gnu_name_place-zero : (names : List ℕ) → gnu_name_place names 0 ≡ 0
unfolding gnu_name_place
gnu_name_place-zero names = refl

-- the text of the first symbol, and its symbol
first_is : (kind : ArchiveKind) (t : IndexTable) (s : IndexSymbol) → index_symbol_by kind t 0 ≡ Ok s
    → ended_text t.names.text (symbol_name_place kind t 0) ≡ Ok s.name
first_is kind t s e =
    let text = bind_ok (ended_text t.names.text (symbol_name_place kind t 0)) made s e in
    let same : made text.0 ≡ Ok s = text.2 in
    let name : text.0 ≡ s.name = ap (λ (x : IndexSymbol). x.name) (same_ok same) in
    text.1 ∙ ap Ok name
  where
    made : List ℕ → Result IndexSymbol Fault
    made name = Ok (record { name = name; place = t.names.place + symbol_name_place kind t 0; member = symbol_member kind t 0 })

-- in the table after the first symbol the others have numbers that are one less
symbol_after : (kind : ArchiveKind) (t : IndexTable) (s : IndexSymbol) (k : ℕ) → index_symbol_by kind t 0 ≡ Ok s
    → index_symbol_by kind (record {
      kind = t.kind;
      le = t.le;
      width = t.width;
      count = t.count - 1;
      records = records_after kind t;
      names =
          names_after kind t s.name;
    }) k
    ≡ index_symbol_by kind t (k + 1)
symbol_after Gnu t s k e =
    let first = ended_is t.names.text (gnu_name_place t.names.text 0) s.name (first_is Gnu t s e) in
    let name : s.name ≡ run_at t.names.text 0 = first.0 ∙ ap (λ (p : ℕ). run_at t.names.text p) (gnu_name_place-zero t.names.text) in
    let n = length s.name + 1 in
    let inside : n ≤ length t.names.text = let low = first.1 in omega arith in
    let place : n + gnu_name_place (drop n t.names.text) k ≡ gnu_name_place t.names.text (k + 1) =
    ap (λ (r : List ℕ). length r + 1 + gnu_name_place (drop (length r + 1) t.names.text) k) name
    ∙ (place_following t.names.text k ∙ ap (gnu_name_place t.names.text) (omega arith))
    in
    let text : ended_text (drop n t.names.text) (gnu_name_place (drop n t.names.text) k) ≡ ended_text t.names.text (gnu_name_place t.names.text (k + 1)) =
    ended_after t.names.text n (gnu_name_place (drop n t.names.text) k) inside ∙ ap (ended_text t.names.text) place
    in
    let member : number t.le t.width (drop (t.width * k) (drop t.width t.records)) ≡ number t.le t.width (drop (t.width * (k + 1)) t.records) =
    number_after t.le t.width t.width k (k + 1) t.records (omega arith)
    in
    made_same text (omega (arith, place)) member
symbol_after Bsd t s k e =
    let w = t.width in
    let place : number t.le w (drop (w * (2 * k)) (drop (2 * w) t.records)) ≡ number t.le w (drop (w * (2 * (k + 1))) t.records) =
    number_after t.le w (2 * w) (2 * k) (2 * (k + 1)) t.records (omega arith)
    in
    let member : number t.le w (drop (w * (2 * k + 1)) (drop (2 * w) t.records)) ≡ number t.le w (drop (w * (2 * (k + 1) + 1)) t.records) =
    number_after t.le w (2 * w) (2 * k + 1) (2 * (k + 1) + 1) t.records (omega arith)
    in
    made_same (ap (ended_text t.names.text) place) (ap (λ (n : ℕ). t.names.place + n) place) member

left_after : (t : IndexTable) (s : IndexSymbol) (k : ℕ) → index_symbol_at t 0 ≡ Ok s → index_symbol_at (after_symbol t s.name) k ≡ index_symbol_at t (k + 1)
unfolding index_symbol_at
left_after t s k e = symbol_after t.kind t s k e

-- a symbol, followed by the others
first_and_after : (u : IndexTable) (k : ℕ) (r : Result IndexSymbol Fault) (others : IndexSymbol → List (Result IndexSymbol Fault))
    → index_symbol_at u k ≡ r → k < u.count
    → ((s : IndexSymbol) → r ≡ Ok s → AreIndexSymbols u (k + 1) (others s)) → AreIndexSymbols u k (then_items r (λ s. s) others)
first_and_after u k (Err f) others is inside following = (inside, is, refl)
first_and_after u k (Ok s) others is inside following = (inside, is, following s refl)

-- the symbols of a table whose remaining part is another table
of_left : (t u : IndexTable) (k n : ℕ) → t.count ≡ n → u.count ≡ k + n → ((j : ℕ) → index_symbol_at t j ≡ index_symbol_at u (k + j))
    → AreIndexSymbols u k (index_symbols n t)
unfolding index_symbols
of_left t u k zero few all same = omega arith
of_left t u k (suc n) few all same =
    let following : (s : IndexSymbol) → index_symbol_at t 0 ≡ Ok s → AreIndexSymbols u (k + 1) (index_symbols n (after_symbol t s.name)) =
    λ s e. of_left (after_symbol t s.name) u (k + 1) n (omega arith) (omega arith)
    (λ j. left_after t s j e ∙ (same (j + 1) ∙ ap (index_symbol_at u) (let next : k + (j + 1) ≡ k + 1 + j = omega arith in next)))
    in
    first_and_after u k (index_symbol_at t 0) (λ s. index_symbols n (after_symbol t s.name))
    (sym (same 0 ∙ ap (index_symbol_at u) (let none : k + 0 ≡ k = omega arith in none))) (omega arith) following

pub symbols_are : (t : IndexTable) → AreIndexSymbols t 0 (table_symbols t)
symbols_are t = of_left t t 0 t.count refl (omega arith) (λ j. ap (index_symbol_at t) (let same : j ≡ 0 + j = omega arith in same))

-- the first of some symbols, followed by the others
index_symbols-first : (n : ℕ) (t : IndexTable) → 0 < n
    → index_symbols n t ≡ then_items (index_symbol_at t 0) (λ s. s) (λ s. index_symbols (n - 1) (after_symbol t s.name))
unfolding index_symbols
index_symbols-first zero t some = absurd (omega arith)
index_symbols-first (suc n) t some =
    ap (λ (m : ℕ). then_items (index_symbol_at t 0) (λ s. s) (λ s. index_symbols m (after_symbol t s.name))) (let same : n ≡ suc n - 1 = omega arith in same)

index_symbols-none : (n : ℕ) (t : IndexTable) → n ≡ 0 → index_symbols n t ≡ []
unfolding index_symbols
index_symbols-none zero t none = refl
index_symbols-none (suc n) t none = absurd (omega arith)

pub left_none : (t : IndexTable) → t.count ≡ 0 → table_symbols t ≡ []
left_none t none = index_symbols-none t.count t none

pub left_first : (t u : IndexTable) (s : IndexSymbol) → 0 < t.count → Ok s ≡ index_symbol_at t 0 → u ≡ after_symbol t s.name
    → table_symbols t ≡ Ok s ∷ table_symbols u
left_first t u s some is following =
    index_symbols-first t.count t some
    ∙ (ap (λ (r : Result IndexSymbol Fault). then_items r (λ x. x) (λ x. index_symbols (t.count - 1) (after_symbol t x.name))) (sym is)
    ∙ ap (λ (v : IndexTable). Ok s ∷ table_symbols v) (sym following))

pub left_fault : (t u : IndexTable) (f : Fault) → 0 < t.count → Err f ≡ index_symbol_at t 0 → u.count ≡ 0 → table_symbols t ≡ Err f ∷ table_symbols u
left_fault t u f some is none =
    index_symbols-first t.count t some
    ∙ (ap (λ (r : Result IndexSymbol Fault). then_items r (λ x. x) (λ x. index_symbols (t.count - 1) (after_symbol t x.name))) (sym is)
    ∙ ap (λ (items : List (Result IndexSymbol Fault)). Err f ∷ items) (sym (left_none u none)))

-- after the first there are fewer
pub fewer_after : {A : Type 0} (x : A) (xs ys : List A) → xs ≡ x ∷ ys → length ys < length xs
fewer_after x xs ys e = omega (arith, ap length e)
