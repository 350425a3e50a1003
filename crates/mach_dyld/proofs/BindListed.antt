-- A list of imports that ends at an error, and one that ends with both streams.
use Rattle.mach_dyld.proofs.BindNames.{◌≡◌, ◌∙◌, ℕ, List, [], ◌∷◌, ◌++◌, Result}
use Rattle.mach_dyld.proofs.BindNames.{Err, sym, ap, ErrorMeets, Fault, fault_of, Error, ErrorMeets-reported, SegmentView}
use Rattle.mach_dyld.proofs.BindNames.{Placed}
use Rattle.mach_dyld.proofs.BindNames.{Import, BindRanges, input_in, ListsImports, BindFault, AreBindItems}
use Rattle.mach_dyld.proofs.BindLists.{oks, occurs_from_items, items_from_list, no_error}

module _ (b : BindRanges) (pointer : ℕ) (libs : List (List ℕ)) (segments : List SegmentView) (ps qs : List Placed) (items : List (Result Import Fault))
    (are : AreBindItems (input_in b pointer libs segments) b.non_lazy b.lazy ps qs items) (found : List Import) (left : List (Result Import Fault))
    (split : items ≡ oks found ++ left)
    (e : Error) (ends : left ≡ Err (fault_of e) ∷ []) where
  all : items ≡ oks found ++ Err (fault_of e) ∷ []
  all = split ∙ ap (λ m. oks found ++ m) ends

  pub refuses : ErrorMeets (BindFault b pointer libs segments) e
  refuses =
      ErrorMeets-reported (BindFault b pointer libs segments) e
      (occurs_from_items (input_in b pointer libs segments) b.non_lazy b.lazy ps qs items (oks found) (fault_of e) [] are all)

  pub has_none : (list : List Import) → ListsImports b pointer libs segments list → ⊥
  has_none list l =
      no_error (oks found) (fault_of e) [] list
      (sym all ∙ items_from_list (input_in b pointer libs segments) b.non_lazy b.lazy ps qs l.0 l.1 items list are l.2)
