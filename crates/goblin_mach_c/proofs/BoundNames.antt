-- Where the names of bindings are.
use Rattle.std.proofs.Common.{◌≡◌, ◌<◌, ◌≤◌, ◌+◌, ◌-◌, ◌∙◌, ◌∷◌, [], inl, inr, ℕ, zero, suc, List, Result, Ok, Err, Some, length, take, drop, cond, IfOk}
use Rattle.std.proofs.Common.{nat_le, refl, sym, ap, subst, arith}
use Rattle.std.specs.Prelude.{ℤ, ◌+ℤ◌, false}
use Rattle.std.proofs.lemmas.Bool.{leb-false, leb-true}
use Rattle.std.proofs.lemmas.List.{drop-drop, drop-take, length-drop, length-take-le, take-take}
use Rattle.std.specs.List.{position_or_len}
use Rattle.std.specs.Str.{is_utf8}
use Rattle.mach_base.specs.Answer.{◌>>=◌}
use Rattle.mach_base.specs.Fault.{Fault, bad_input, bad_offset, too_big}
use Rattle.mach_base.specs.Number.{slice_at}
use Rattle.mach_base.specs.Text.{is_zero, run_at, text_at}
use Rattle.mach_base.proofs.Binds.{chosen, same_ok}
use Rattle.mach_chained.specs.Bindings.{binding_by, binding_in, chained_binding_of, place_in_file, signed_or_malformed}
use Rattle.mach_chained.specs.Fixups.{Fixup, FixupInput}
use Rattle.mach_chained.specs.Imports.{FixupImport, import_at}
use Rattle.mach_chained.specs.Pointers.{KindOfFixup, bind}
use Rattle.mach_parts.specs.Bindings.{Binding, Provider, provider_of}
use Rattle.mach_base.specs.declared.error.Error.{Error}
use Rattle.mach_dyld.specs.BindCursors.{TextIsAt}
use Rattle.mach_dyld.specs.declared.imports.cursor.PlacedBinding.{PlacedBinding}
use Rattle.goblin_mach_c.specs.BindingRows.{NameIsAt}
use Rattle.goblin_mach_c.specs.BindingsAfter.{HasPlacedName}

-- the first elements of a list, taken by their own count
front_again : (n : ℕ) (xs : List ℕ) → take (length (take n xs)) xs ≡ take n xs
front_again zero xs = refl
front_again (suc n) [] = refl
front_again (suc n) (x ∷ xs) = ap (λ l. x ∷ l) (front_again n xs)

front_short : (n : ℕ) (xs : List ℕ) → length (take n xs) ≤ length xs
front_short zero xs = omega arith
front_short (suc n) [] = omega arith
front_short (suc n) (x ∷ xs) = let rest = front_short n xs in omega (arith, rest)

run_there : (bytes : List ℕ) (s : ℕ) → s < length bytes → NameIsAt bytes s (run_at bytes s)
run_there bytes s inside =
    let n = position_or_len is_zero (drop s bytes) in
    let short = front_short n (drop s bytes) in
    let long = length-drop s bytes in
    record { within = omega (arith, inside, short, long); there = front_again n (drop s bytes) }

-- a text that is read at a place is there
pub text_occurs : (bytes : List ℕ) (s : ℕ) (text : List ℕ) → text_at bytes s ≡ Ok text → NameIsAt bytes s text
unfolding text_at
text_occurs bytes s text e =
    let run = run_at bytes s in
    elim (chosen (nat_le (length bytes) s) (Err (bad_offset s)) (cond (is_utf8 run) (Ok run) (Err (bad_input (length bytes - s)))) (Ok text) e) [
      | inl wrong ↦ absurd (let x = wrong.1 in cc)
      | inr inner ↦ elim (chosen (is_utf8 run) (Ok run) (Err (bad_input (length bytes - s))) (Ok text) inner.1) [
        | inl good ↦ subst (NameIsAt bytes s) (same_ok good.1) (run_there bytes s (leb-false (length bytes) s inner.0))
        | inr wrong ↦ absurd (let x = wrong.1 in cc)
      ]
    ]

-- bytes inside of some bytes
record LiesIn (size : ℕ) (bytes : List ℕ) (from : ℕ) (part : List ℕ) : Type 0 where
  pub within : from + size ≤ length bytes
  pub are : take size (drop from bytes) ≡ part

part_lies : (size : ℕ) (bytes : List ℕ) (from : ℕ) (part : List ℕ) → slice_at size bytes from ≡ Ok part → LiesIn size bytes from part
part_lies size bytes from part e =
    let found = take size (drop from bytes) in
    let small = Err (too_big size (length bytes - from)) in
    elim (chosen (nat_le (length bytes) from) (Err (bad_offset from)) (cond (nat_le (from + size) (length bytes)) (Ok found) small) (Ok part) e) [
      | inl wrong ↦ absurd (let x = wrong.1 in cc)
      | inr inner ↦ elim (chosen (nat_le (from + size) (length bytes)) (Ok found) small (Ok part) inner.1) [
        | inl good ↦ record { within = leb-true (from + size) (length bytes) good.0; are = same_ok good.1 }
        | inr wrong ↦ absurd (let x = wrong.1 in cc)
      ]
    ]

-- what is in a part of the bytes is in the bytes
pub part_occurs : (size : ℕ) (bytes : List ℕ) (from : ℕ) (part : List ℕ) (s : ℕ) (text : List ℕ) → slice_at size bytes from ≡ Ok part → NameIsAt part s text
    → NameIsAt bytes (from + s) text
part_occurs size bytes from part s text e there =
    let lies = part_lies size bytes from part e in
    let within = lies.within in
    let dropped = length-drop from bytes in
    let many : length (take size (drop from bytes)) ≡ size = length-take-le size (drop from bytes) (omega (arith, within, dropped)) in
    let long : length part ≡ size = ap length (sym lies.are) ∙ many in
    let inner = there.within in
    let fits : s + length text ≤ size = omega (arith, long, inner) in
    let split : s + (size - s) ≡ size = omega (arith, fits) in
    let following : drop s part ≡ take (size - s) (drop s (drop from bytes)) =
    ap (drop s) (sym lies.are) ∙ ap (λ n. drop s (take n (drop from bytes))) (sym split) ∙ drop-take s (size - s) (drop from bytes) in
    record {
      within = omega (arith, within, fits);
      there =
          ap (take (length text)) (sym (drop-drop s from bytes))
          ∙ sym (take-take (length text) (size - s) (drop s (drop from bytes)) (omega (arith, fits)))
          ∙ ap (take (length text)) (sym following)
          ∙ there.there;
    }

-- a binding that is built from these has the import's name
by_addend : (i : FixupImport) (provider : Provider) (offset address : ℕ) (addend : Result ℤ Fault) (b : Binding)
    → (addend >>= λ a. Ok (record {
      name = i.name;
      provider = provider;
      offset = offset;
      address = address;
      addend = a;
      is_weak = i.is_weak;
      is_lazy =
          false;
    })) ≡ Ok b
    → b.name ≡ i.name
by_addend i provider offset address (Ok a) b e = ap (λ (v : Binding). v.name) (sym (same_ok e))
by_addend i provider offset address (Err f) b e = absurd (cc)

by_offset : (i : FixupImport) (provider : Provider) (offset : Result ℕ Fault) (address : ℕ) (addend : Result ℤ Fault) (b : Binding)
    → (offset >>= λ o. addend >>= λ a. Ok
    (record { name = i.name; provider = provider; offset = o; address = address; addend = a; is_weak = i.is_weak; is_lazy = false }))
    ≡ Ok b
    → b.name ≡ i.name
by_offset i provider (Ok o) address addend b e = by_addend i provider o address addend b e
by_offset i provider (Err f) address addend b e = absurd (cc)

by_provider : (i : FixupImport) (provider : Result Provider Fault) (offset : Result ℕ Fault) (address : ℕ) (addend : Result ℤ Fault) (b : Binding)
    → (provider
    >>= λ p. offset
    >>= λ o. addend
    >>= λ a. Ok (record { name = i.name; provider = p; offset = o; address = address; addend = a; is_weak = i.is_weak; is_lazy = false }))
    ≡ Ok b
    → b.name ≡ i.name
by_provider i (Ok p) offset address addend b e = by_offset i p offset address addend b e
by_provider i (Err f) offset address addend b e = absurd (cc)

by_import : (x : FixupInput) (libs : List (List ℕ)) (f : Fixup) (inline : ℤ) (found : Result FixupImport Fault) (b : Binding)
    → (found
    >>= λ i. provider_of libs i.library
    >>= λ p. place_in_file x.segments f.segment f.offset
    >>= λ o. signed_or_malformed (i.addend +ℤ inline)
    >>= λ a. Ok (record { name = i.name; provider = p; offset = o; address = f.address; addend = a; is_weak = i.is_weak; is_lazy = false }))
    ≡ Ok b
    → (i : FixupImport) × (found ≡ Ok i) × (b.name ≡ i.name)
by_import x libs f inline (Ok i) b e =
    (i, refl, by_provider i (provider_of libs i.library) (place_in_file x.segments f.segment f.offset) f.address (signed_or_malformed (i.addend +ℤ inline)) b e)
by_import x libs f inline (Err g) b e = absurd (cc)

some_same : (u v : Result Binding Fault) → Some u ≡ Some v → u ≡ v
some_same u v e = cc

-- the name of a bind's binding is that of its import
pub bound_name : (x : FixupInput) (libs : List (List ℕ)) (f : Fixup) (import : ℕ) (inline : ℤ) (b : Binding) → f.kind ≡ bind import inline
    → binding_in x libs f ≡ Some (Ok b) → (i : FixupImport) × (import_at x.fixups import ≡ Ok i) × (b.name ≡ i.name)
unfolding chained_binding_of
bound_name x libs f import inline b kind is =
    let whole = ap (λ (k : KindOfFixup). binding_by x libs f k) (sym kind) ∙ is in
    by_import x libs f inline (import_at x.fixups import) b (some_same (chained_binding_of x libs f import inline) (Ok b) whole)

-- ---- those of the opcodes

as_placed : (bytes : List ℕ) (p : PlacedBinding) → TextIsAt bytes p.name_place p.binding.name.now → HasPlacedName bytes p
as_placed bytes p occurs = elim occurs [ inl none ↦ inl none | inr text ↦ inr (text_occurs bytes p.name_place p.binding.name.now text) ]

pub opcode_placed : (bytes others : List ℕ) → bytes ≡ others → (item : Result PlacedBinding Error)
    → IfOk item (λ p. TextIsAt bytes p.name_place p.binding.name.now) → IfOk item (HasPlacedName others)
opcode_placed bytes others same (Ok p) occurs = subst (λ (b : List ℕ). HasPlacedName b p) same (as_placed bytes p occurs)
opcode_placed bytes others same (Err e) occurs = tt
