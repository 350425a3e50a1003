-- A list of bindings, and the items of an iterator.
use Rattle.std.proofs.Common.{◌≡◌, ℕ, suc, List, [], ◌∷◌, ◌++◌, map, length, Option, Some, None, Result, Ok, Err, refl, sym, ap, subst, ◌∙◌, inl, inr}
use Rattle.mach_base.specs.declared.error.Error.{Error}
use Rattle.mach_base.specs.Among.{IsAmong}
use Rattle.mach_base.specs.Answer.{ErrorMeets}
use Rattle.mach_base.specs.Fault.{Fault, fault_of}
use Rattle.mach_base.proofs.Faults.{ErrorMeets-reported}
use Rattle.mach_chained.specs.Pointers.{KindOfFixup, rebase, bind, value}
use Rattle.mach_chained.specs.Fixups.{FixupInput, Fixup}
use Rattle.mach_chained.specs.Chained.{PlacedFixup, AreFixups, fixup_items}
use Rattle.mach_parts.specs.Bindings.{Binding}
use Rattle.mach_chained.specs.Bindings.{chained_binding_of, binding_by, binding_in, bindings_before, bindings_of, AreBindingItems, ListsBindings, BindingFault}
use Rattle.mach_chained.specs.BindingCounts.{binds_more, bind_count, AsManyAsBinds}
use Rattle.mach_chained.proofs.Chained.{one_list}

abbrev Item : Type 0
Item = Result Binding Fault

abbrev pub oks : List Binding → List (Result Binding Fault)
oks list = map Ok list

no_error : (front : List Item) (f : Fault) (rest : List Item) (list : List Binding) → front ++ Err f ∷ rest ≡ oks list → ⊥
no_error [] f rest [] e = cc
no_error [] f rest (j ∷ list) e = cc
no_error (y ∷ front) f rest [] e = cc
no_error (y ∷ front) f rest (j ∷ list) e =
    let tail : front ++ Err f ∷ rest ≡ oks list = cc in
    no_error front f rest list tail

among : (front : List Item) (f : Fault) (rest : List Item) → IsAmong (Err f) (front ++ Err f ∷ rest)
among [] f rest = inl refl
among (y ∷ front) f rest = inr (among front f rest)

-- ---- if there is a binding for each bind, there is no fault among the fixups

none_before : (own : Option Item) (x : FixupInput) (libs : List (List ℕ)) (ps : List PlacedFixup) (stop : Option Fault) (list : List Binding)
    → ((more : List Binding) → bindings_of x libs (fixup_items ps stop) ≡ oks more → stop ≡ None)
    → bindings_before own (bindings_of x libs (fixup_items ps stop)) ≡ oks list → stop ≡ None
none_before None x libs ps stop list next e = next list e
none_before (Some (Err f)) x libs ps stop list next e = absurd (no_error [] f [] list e)
none_before (Some (Ok b)) x libs ps stop [] next e = absurd (cc)
none_before (Some (Ok b)) x libs ps stop (c ∷ list) next e =
    let tail : bindings_of x libs (fixup_items ps stop) ≡ oks list = cc in
    next list tail

no_stop : (x : FixupInput) (libs : List (List ℕ)) (ps : List PlacedFixup) (stop : Option Fault) (list : List Binding)
    → bindings_of x libs (fixup_items ps stop) ≡ oks list → stop ≡ None
no_stop x libs [] None list e = refl
no_stop x libs [] (Some f) list e = absurd (no_error [] f [] list e)
no_stop x libs (p ∷ ps) stop list e = none_before (binding_in x libs p.fixup) x libs ps stop list (no_stop x libs ps stop) e

-- ---- the list

-- items without a fault are the list
pub listed : (x : FixupInput) (libs : List (List ℕ)) (items : List Item) (list : List Binding) → AreBindingItems x libs items → items ≡ oks list
    → ListsBindings x libs list
listed x libs items list a e =
    let fixups = a.1 in
    let are : bindings_of x libs (fixup_items fixups.0 fixups.1) ≡ oks list =
    ap (λ (m : List (Result Fixup Fault)). bindings_of x libs m) (sym fixups.3) ∙ sym a.2 ∙ e in
    let none = no_stop x libs fixups.0 fixups.1 list are in (
      fixups.0,
      subst (AreFixups x fixups.0) none fixups.2,
      subst (λ (s : Option Fault). bindings_of x libs (fixup_items fixups.0 s) ≡ oks list) none are,
    )

-- the items of an image with a list are that list
items_are : (x : FixupInput) (libs : List (List ℕ)) (items : List Item) (list : List Binding) → AreBindingItems x libs items → ListsBindings x libs list
    → items ≡ oks list
items_are x libs items list a l =
    let fixups = a.1 in
    let same = one_list x fixups.0 l.0 fixups.1 None fixups.2 l.1 in
    a.2 ∙ ap (λ (m : List (Result Fixup Fault)). bindings_of x libs m) fixups.3
    ∙ ap (λ (ps : List PlacedFixup). bindings_of x libs (fixup_items ps fixups.1)) same.0
    ∙ ap (λ (s : Option Fault). bindings_of x libs (fixup_items l.0 s)) same.1 ∙ l.2

module _ (x : FixupInput) (libs : List (List ℕ)) (items : List Item) (are : AreBindingItems x libs items) (found : List Binding) (left rest : List Item)
    (split : items ≡ oks found ++ left) (e : Error) (ends : left ≡ Err (fault_of e) ∷ rest) where
  all : items ≡ oks found ++ Err (fault_of e) ∷ rest
  all = split ∙ ap (λ m. oks found ++ m) ends

  pub refuses : ErrorMeets (BindingFault x libs) e
  refuses =
      ErrorMeets-reported (BindingFault x libs) e
      (items, are, subst (λ m. IsAmong (Err (fault_of e)) m) (sym all) (among (oks found) (fault_of e) rest))

  pub has_none : (list : List Binding) → ListsBindings x libs list → ⊥
  has_none list l = no_error (oks found) (fault_of e) rest list (sym all ∙ items_are x libs items list are l)

-- ---- laws

oks_same : (xs ys : List Binding) → oks xs ≡ oks ys → xs ≡ ys
oks_same [] [] e = refl
oks_same [] (y ∷ ys) e = cc
oks_same (x ∷ xs) [] e = cc
oks_same (x ∷ xs) (y ∷ ys) e =
    let tail : oks xs ≡ oks ys = cc in
    let head : x ≡ y = cc in
    ap (λ z. z ∷ xs) head ∙ ap (λ zs. y ∷ zs) (oks_same xs ys tail)

not_among : (f : Fault) (list : List Binding) → IsAmong (Err f) (oks list) → ⊥
not_among f [] h = h
not_among f (b ∷ list) (inl e) = cc
not_among f (b ∷ list) (inr h) = not_among f list h

pub one_list_of_bindings : (x : FixupInput) (libs : List (List ℕ)) (xs ys : List Binding) → ListsBindings x libs xs → ListsBindings x libs ys → xs ≡ ys
one_list_of_bindings x libs xs ys a b =
    let same = one_list x a.0 b.0 None None a.1 b.1 in
    oks_same xs ys (sym a.2 ∙ ap (λ (ps : List PlacedFixup). bindings_of x libs (fixup_items ps None)) same.0 ∙ b.2)

pub faulty_have_none : (x : FixupInput) (libs : List (List ℕ)) (f : Fault) (list : List Binding) → BindingFault x libs f → ListsBindings x libs list → ⊥
faulty_have_none x libs f list h l =
    not_among f list (subst (λ m. IsAmong (Err f) m) (items_are x libs h.0 list h.1 l) h.2)

count_own : (own : Item) (rest : List Item) (list : List Binding) (n : ℕ) → ((more : List Binding) → rest ≡ oks more → length more ≡ n)
    → bindings_before (Some own) rest ≡ oks list → length list ≡ suc n
count_own (Err f) rest list n next e = absurd (no_error [] f [] list e)
count_own (Ok b) rest [] n next e = absurd (cc)
count_own (Ok b) rest (c ∷ list) n next e =
    let tail : rest ≡ oks list = cc in
    ap suc (next list tail)

count_by : (x : FixupInput) (libs : List (List ℕ)) (f : Fixup) (kind : KindOfFixup) (rest : List Item) (list : List Binding) (n : ℕ)
    → ((more : List Binding) → rest ≡ oks more → length more ≡ n) → bindings_before (binding_by x libs f kind) rest ≡ oks list → length list ≡ binds_more kind n
count_by x libs f (rebase target) rest list n next e = next list e
count_by x libs f (value number) rest list n next e = next list e
count_by x libs f (bind import inline) rest list n next e = count_own (chained_binding_of x libs f import inline) rest list n next e

count_all : (x : FixupInput) (libs : List (List ℕ)) (ps : List PlacedFixup) (list : List Binding) → bindings_of x libs (fixup_items ps None) ≡ oks list
    → length list ≡ bind_count ps
count_all x libs [] [] e = refl
count_all x libs [] (c ∷ list) e = absurd (cc)
count_all x libs (p ∷ ps) list e =
    count_by x libs p.fixup p.fixup.kind (bindings_of x libs (fixup_items ps None)) list (bind_count ps) (λ more t. count_all x libs ps more t) e

pub as_many_as_binds : AsManyAsBinds
as_many_as_binds x libs ps list e = count_all x libs ps list e
