-- Rows of symbols, and symbols with their names.
use Rattle.std.proofs.Common.{◌≡◌, ◌-◌, inl, inr, ℕ, List, Result, Ok, Err, length, cond, nat_le, refl, ap}
use Rattle.std.proofs.lemmas.Bool.{leb-false, lt-ltb}
use Rattle.std.specs.Prelude.{◌<◌, nat_lt, if◌then◌else◌}
use Rattle.std.specs.Str.{is_utf8}
use Rattle.mach_base.specs.Answer.{◌>>=◌}
use Rattle.mach_base.specs.Fault.{Fault, bad_input, bad_offset}
use Rattle.mach_base.specs.Number.{place_after}
use Rattle.mach_base.specs.Text.{run_at, text_at}
use Rattle.mach_base.proofs.Binds.{chosen, same_ok}
use Rattle.mach_parts.specs.Symbols.{SymbolTable, nlist_at, symbol_at, symbol_place}
use Rattle.mach_parts.specs.declared.symbols.nlist.Nlist.{Nlist}
use Rattle.goblin_mach_c.specs.SymbolRows.{SaysSymbol, named_row, read_row, symbol_row}
use Rattle.goblin_mach_c.specs.declared.symbols.gm_symbol.{gm_symbol}

-- a text that is read at a place lies in the bytes, and ends at the first zero
record IsRun (bytes : List ℕ) (s : ℕ) (text : List ℕ) : Type 0 where
  pub inside : s < length bytes
  pub is_run : run_at bytes s ≡ text

text_is_run : (bytes : List ℕ) (s : ℕ) (text : List ℕ) → text_at bytes s ≡ Ok text → IsRun bytes s text
unfolding text_at
text_is_run bytes s text e =
    let run = run_at bytes s in
    elim (chosen (nat_le (length bytes) s) (Err (bad_offset s)) (cond (is_utf8 run) (Ok run) (Err (bad_input (length bytes - s)))) (Ok text) e) [
      | inl wrong ↦ absurd (let x = wrong.1 in cc)
      | inr inner ↦ elim (chosen (is_utf8 run) (Ok run) (Err (bad_input (length bytes - s))) (Ok text) inner.1) [
        | inl good ↦ record { inside = leb-false (length bytes) s inner.0; is_run = same_ok good.1 }
        | inr wrong ↦ absurd (let x = wrong.1 in cc)
      ]
    ]

place_reported : (s n : ℕ) → s < n → (if nat_lt s n then s else 0) ≡ s
place_reported s n less = ap (λ b. if b then s else 0) (lt-ltb s n less)

says_text : (bytes : List ℕ) (strtab : ℕ) (s : Nlist) (found : Result (List ℕ) Fault) → text_at bytes (place_after strtab s.n_strx) ≡ found
    → SaysSymbol strtab (found >>= λ name. Ok (name, s)) (named_row bytes (place_after strtab s.n_strx) s)
says_text bytes strtab s (Ok name) e =
    let place = place_after strtab s.n_strx in
    let run = text_is_run bytes place name e in
    rw (e, run.is_run, place_reported place (length bytes) run.inside) refl
says_text bytes strtab s (Err f) e = rw e refl

says_record : (t : SymbolTable) (found : Result Nlist Fault)
    → SaysSymbol t.strtab (found >>= λ s. text_at t.bytes (place_after t.strtab s.n_strx) >>= λ name. Ok (name, s)) (read_row t.bytes t.strtab found)
says_record t (Ok s) = says_text t.bytes t.strtab s (text_at t.bytes (place_after t.strtab s.n_strx)) refl
says_record t (Err f) = refl

-- the row of a symbol whose name has `len` bytes at a place
abbrev pub named_at : Nlist → ℕ → ℕ → gm_symbol
named_at s len place =
    record { value = s.n_value; name = place; name_len = len; section = s.n_sect; code = 0; desc = s.n_desc; n_type = s.n_type; reserved = 0 }

-- the row of a symbol has its record and its name
pub row_says : (t : SymbolTable) (k : ℕ) → SaysSymbol t.strtab (symbol_at t k) (symbol_row t k)
unfolding symbol_at
row_says t k = says_record t (nlist_at t.ctx t.bytes (symbol_place t k))
