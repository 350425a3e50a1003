-- The export of a name, searched in order.
use Rattle.std.proofs.Common.{◌≡◌, ◌≢◌, ◌∙◌, ◌⊎◌, ℕ, ◌<◌, suc, Bool, true, false, List, [], ◌∷◌, length, take, get_or, inl, inr, refl, sym, ap, subst}
use Rattle.std.specs.Bool.{Decides}
use Rattle.std.specs.Prelude.{All, option_map, string_bytes}
use Rattle.std.proofs.lemmas.List.{take-map}
use Rattle.std.proofs.lemmas.List.Elements.{All-cons, All-map, All-nil}
use Rattle.std.proofs.lemmas.Option.{slice_get-map, slice_get_read, slice_get_within, get_or_from_slice_get}
use Rattle.std.proofs.lemmas.Slice.Eq.{bytes_eq-Decides}
use Rattle.mach_dyld.specs.Exports.{entries, entry_of}
use Rattle.mach_dyld.specs.Trie.{Entry}
use Rattle.mach_dyld.specs.declared.exports.Export.{Export}
use Rattle.goblin_mach.specs.Facts.{IsExportedAt, IsNotExported, IsFirstExport}

-- the first export of a name is in the list with its offset
pub first-exported : (name : List ℕ) (list : List Entry) (i : ℕ) (e : Entry) → IsFirstExport name list i e → IsExportedAt name e.offset list
first-exported name list i e first =
    (i, e, slice_get_within list i e first.listed, get_or_from_slice_get list i e e first.listed, (first.named, refl))

-- no name is both in the list and not
pub exported-excludes_none : (name : List ℕ) (address : ℕ) (list : List Entry) → IsExportedAt name address list → IsNotExported name list → ⊥
exported-excludes_none name address list some none =
    none some.0 some.1 some.2 (ap (λ (e : Entry). e.name) some.3 ∙ some.4.0)

by_test : (b : Bool) (P : Type 0) → Decides b P → P ⊎ ¬ P
by_test true P reports = inl (reports.0 refl)
by_test false P reports = inr (λ p. let wrong = reports.1 p in cc)

-- each name has a first export or none
pub first-or_none : (name : List ℕ) (list : List Entry) → ((i : ℕ) × (e : Entry) × IsFirstExport name list i e) ⊎ IsNotExported name list
first-or_none name [] = inr (All-nil (λ e. e.name ≢ name))
first-or_none name (e ∷ es) =
    elim (by_test _ (e.name ≡ name) (bytes_eq-Decides e.name name)) [
      | inl same ↦ inl (0, e, record { listed = refl; named = same; before = All-nil (λ e. e.name ≢ name) })
      | inr other ↦ elim (first-or_none name es) [
        | inl first ↦
            let before = All-cons (λ e. e.name ≢ name) e (take first.0 es) other first.2.before in
            inl (suc first.0, first.1, record { listed = first.2.listed; named = first.2.named; before = before })
        | inr none ↦ inr (All-cons (λ e. e.name ≢ name) e es other none)
      ]
    ]

-- exports of other names
pub none-named : {A : Type 0} (name : List ℕ) (xs : List (Export A)) → All (λ x. string_bytes x.name ≢ name) xs → IsNotExported name (entries xs)
none-named name xs all = All-map (λ e. e.name ≢ name) entry_of xs all

entries-take : {A : Type 0} (i : ℕ) (xs : List (Export A)) → entries (take i xs) ≡ take i (entries xs)
entries-take i xs = sym (take-map entry_of i xs)

-- the export met after exports of other names
pub first-named : {A : Type 0} (name : List ℕ) (xs : List (Export A)) (i : ℕ) (x : Export A) → i < length xs → x ≡ get_or xs i x → string_bytes x.name ≡ name
    → All (λ x. string_bytes x.name ≢ name) (take i xs) → IsFirstExport name (entries xs) i (entry_of x)
first-named name xs i x inside is named before =
    record {
      listed = slice_get-map entry_of xs i ∙ ap (option_map entry_of) (slice_get_read xs (length xs) i x refl inside is);
      named = named;
      before = subst (IsNotExported name) (entries-take i xs) (none-named name (take i xs) before);
    }
