-- The states of a thread, one by one.
use Rattle.std.proofs.Common.{◌≡◌, ◌<◌, ◌≤◌, ℕ, zero, suc, ◌+◌, ◌-◌, ◌*◌, cond, Bool, List, length, take, drop, refl, sym, ap, ◌∙◌, arith}
use Rattle.std.proofs.lemmas.Bool.{le-leb, lt-leb}
use Rattle.std.proofs.lemmas.List.{length-drop, take_all}
use Rattle.mach_base.specs.Number.{number}
use Rattle.mach_base.specs.declared.context.Endian.{Endian}
use Rattle.mach_layout.specs.Commands.{state_size, states_size}

-- there is no state
pub no_state : (n : ℕ) (le : Endian) (rest : List ℕ) → length rest < state_size le rest → states_size n le rest ≡ 0
no_state zero le rest short = refl
no_state (suc n) le rest short =
    ap (λ (b : Bool). cond b (state_size le rest + states_size n le (drop (state_size le rest) rest)) 0) (lt-leb (state_size le rest) (length rest) short)

-- there is a state, followed by those after it
pub one_state : (n : ℕ) (le : Endian) (rest : List ℕ) → state_size le rest ≤ length rest
    → states_size (suc n) le rest ≡ state_size le rest + states_size n le (drop (state_size le rest) rest)
one_state n le rest fits =
    ap (λ (b : Bool). cond b (state_size le rest + states_size n le (drop (state_size le rest) rest)) 0) (le-leb (state_size le rest) (length rest) fits)

abbrev counted : Endian → List ℕ → ℕ → Type 0
counted le rest words = words ≡ number le 4 (drop 4 rest)

-- the count is complete if there is no further state
pub stopped : (n size : ℕ) (le : Endian) (rest : List ℕ) (words total : ℕ) → size + states_size n le rest ≡ total → counted le rest words
    → length rest < 8 + 4 * words → size ≡ total
stopped n size le rest words total inv is short =
    let none = no_state n le rest (let e : state_size le rest ≡ 8 + 4 * words = ap (λ (w : ℕ). 8 + 4 * w) (sym is) in omega (arith, e)) in
    omega (arith, none, inv)

pub ended : (n size : ℕ) (le : Endian) (rest : List ℕ) (total : ℕ) → size + states_size n le rest ≡ total → length rest < 8 → size ≡ total
ended n size le rest total inv short = stopped n size le rest (number le 4 (drop 4 rest)) total inv refl (omega arith)

-- the count continues after the state
pub went_on : (n size : ℕ) (le : Endian) (rest next : List ℕ) (words total : ℕ) → length rest ≤ n → 8 ≤ length rest
    → size + states_size n le rest ≡ total → counted le rest words → 8 + 4 * words ≤ length rest
    → next ≡ take (length rest - (8 + 4 * words)) (drop (8 + 4 * words) rest)
    → (x : ℕ) × (length next ≤ x) × (size + (8 + 4 * words) + states_size x le next ≡ total)
went_on zero size le rest next words total within room inv is fits next_is = absurd (omega arith)
went_on (suc n) size le rest next words total within room inv is fits next_is =
    let e : state_size le rest ≡ 8 + 4 * words = ap (λ (w : ℕ). 8 + 4 * w) (sym is) in
    let short : length (drop (8 + 4 * words) rest) ≡ length rest - (8 + 4 * words) = length-drop (8 + 4 * words) rest in
    let all : next ≡ drop (8 + 4 * words) rest = next_is ∙ take_all (length rest - (8 + 4 * words)) (drop (8 + 4 * words) rest) (omega arith) in
    let one = one_state n le rest (omega arith) in
    let following : states_size n le (drop (state_size le rest) rest) ≡ states_size n le next =
    ap (λ (k : ℕ). states_size n le (drop k rest)) e ∙ ap (states_size n le) (sym all) in
    (n, omega (arith, ap length all), omega (arith, one, following, inv, e))
