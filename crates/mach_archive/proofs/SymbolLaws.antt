-- Laws of symbols: there is only one list, and which symbol a search by name returns.
use Rattle.std.proofs.Common.{◌≡◌, ◌≢◌, ℕ, ◌+◌, Bool, true, false, cond, List, [], ◌∷◌, Result, Ok, Err, Option, Some, None, refl, sym, ap, ◌∙◌, subst, arith}
use Rattle.std.specs.Str.{bytes_eq}
use Rattle.std.proofs.lemmas.Slice.Eq.{bytes_eq-Decides}
use Rattle.mach_base.specs.Fault.{Fault}
use Rattle.mach_base.proofs.Binds.{same_ok}
use Rattle.mach_archive.specs.IndexSymbols.{IndexSymbol, AreIndexSymbols, first_named}
use Rattle.mach_archive.specs.FoundSymbols.{FindsFirst}
use Rattle.mach_archive.specs.Archives.{ArchiveView}
use Rattle.mach_archive.specs.IndexTables.{IndexTable, archive_table}

pub one_symbol_list : (t : IndexTable) (k : ℕ) (xs ys : List (Result IndexSymbol Fault)) → AreIndexSymbols t k xs → AreIndexSymbols t k ys → xs ≡ ys
one_symbol_list t k [] [] a b = refl
one_symbol_list t k [] (Ok s ∷ ys) a b = absurd (let inside = b.0 in omega arith)
one_symbol_list t k [] (Err f ∷ ys) a b = absurd (let inside = b.0 in omega arith)
one_symbol_list t k (Ok s ∷ xs) [] a b = absurd (let inside = a.0 in omega arith)
one_symbol_list t k (Err f ∷ xs) [] a b = absurd (let inside = a.0 in omega arith)
one_symbol_list t k (Ok s ∷ xs) (Err f ∷ ys) a b = absurd (let one = a.1 in let other = b.1 in cc)
one_symbol_list t k (Err f ∷ xs) (Ok s ∷ ys) a b = absurd (let one = a.1 in let other = b.1 in cc)
one_symbol_list t k (Err f ∷ xs) (Err g ∷ ys) a b = let one = a.1 in let other = b.1 in let none = a.2 in let nothing = b.2 in cc
one_symbol_list t k (Ok s ∷ xs) (Ok r ∷ ys) a b =
    let item : s ≡ r = same_ok (sym a.1 ∙ b.1) in
    let others : xs ≡ ys = one_symbol_list t (k + 1) xs ys a.2 b.2 in
    cc

-- a symbol of another name comes before those that are searched
finds_after : (name : List ℕ) (s : IndexSymbol) (items : List (Result IndexSymbol Fault)) (r : Result (Option IndexSymbol) Fault) → s.name ≢ name
    → FindsFirst name items r → FindsFirst name (Ok s ∷ items) r
finds_after name s items (Ok (Some found)) other a = (s ∷ a.0, a.1, ap (λ (l : List (Result IndexSymbol Fault)). Ok s ∷ l) a.2, (other, a.3), a.4)
finds_after name s items (Ok None) other a = (s ∷ a.0, ap (λ (l : List (Result IndexSymbol Fault)). Ok s ∷ l) a.1, (other, a.2))
finds_after name s items (Err f) other a = (s ∷ a.0, a.1, ap (λ (l : List (Result IndexSymbol Fault)). Ok s ∷ l) a.2, (other, a.3))

-- a search by name returns the first
pub finds_first : (name : List ℕ) (items : List (Result IndexSymbol Fault)) → FindsFirst name items (first_named name items)
finds_first name [] = ([], refl, tt)
finds_first name (Err f ∷ items) = ([], items, refl, tt)
finds_first name (Ok s ∷ items) = by_test (bytes_eq s.name name) refl (finds_first name items)
  where
    by_test : (b : Bool) → bytes_eq s.name name ≡ b → FindsFirst name items (first_named name items)
        → FindsFirst name (Ok s ∷ items) (cond b (Ok (Some s)) (first_named name items))
    by_test true e others = ([], items, refl, tt, (bytes_eq-Decides s.name name).0 e)
    by_test false e others =
        finds_after name s items (first_named name items)
        (λ same. let yes = (bytes_eq-Decides s.name name).1 same in absurd (let wrong : true ≡ false = sym yes ∙ e in cc)) others

-- the first of some symbols has the name
pub named_here : (name : List ℕ) (s : IndexSymbol) (items others : List (Result IndexSymbol Fault)) → items ≡ Ok s ∷ others → bytes_eq s.name name ≡ true
    → first_named name items ≡ Ok (Some s)
named_here name s items others is same = ap (first_named name) is ∙ rw same refl

pub named_after : (name : List ℕ) (s : IndexSymbol) (items others : List (Result IndexSymbol Fault)) → items ≡ Ok s ∷ others → bytes_eq s.name name ≡ false
    → first_named name items ≡ first_named name others
named_after name s items others is other = ap (first_named name) is ∙ rw other refl

pub named_fault : (name : List ℕ) (f : Fault) (items others : List (Result IndexSymbol Fault)) → items ≡ Err f ∷ others → first_named name items ≡ Err f
named_fault name f items others is = ap (first_named name) is

pub named_none : (name : List ℕ) (items : List (Result IndexSymbol Fault)) → items ≡ [] → first_named name items ≡ Ok None
named_none name items is = ap (first_named name) is

-- there is only one list of an archive's symbols
pub found_items : (a : ArchiveView) (u t : IndexTable) (mine items : List (Result IndexSymbol Fault)) → archive_table a ≡ Ok (Some u)
    → AreIndexSymbols u 0 mine
    → archive_table a ≡ Ok (Some t) → AreIndexSymbols t 0 items → mine ≡ items
found_items a u t mine items is are there those =
    let same : u ≡ t = cc in
    one_symbol_list u 0 mine items are (subst (λ (v : IndexTable). AreIndexSymbols v 0 items) (sym same) those)

-- an archive does not both have an index and have none
pub not_both : (a : ArchiveView) (t : IndexTable) → archive_table a ≡ Ok None → archive_table a ≡ Ok (Some t) → ⊥
not_both a t none some = let wrong : ◌≡◌ {A = Option IndexTable} None (Some t) = same_ok (sym none ∙ some) in absurd (cc)
