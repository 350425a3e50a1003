-- The place of a name that is found, and answers that are passed on.
use Rattle.std.proofs.Common.{◌≡◌, ◌∙◌, ◌<◌, ◌++◌, ℕ, List, [], ◌∷◌, Some, length, map, get_or, refl, ap, subst}
use Rattle.std.specs.Prelude.{slice_get, option_map, Result, Ok, Err, IfOk}
use Rattle.std.specs.List.{AllZip}
use Rattle.std.proofs.lemmas.Option.{slice_get-map, slice_get_read}
use Rattle.mach_resolve.specs.ResolveViews.{input_view}
use Rattle.mach_resolve.specs.declared.file.File.{File}

pub file_at : {A : Type 0} (items xs : List (File A)) (i : ℕ) (f : File A) → xs ≡ items → i < length xs → f ≡ get_or xs i f
    → slice_get (map input_view items) i ≡ Some (input_view f)
file_at items xs i f same inside is =
    subst (λ (ys : List (File _)). slice_get (map input_view ys) i ≡ Some (input_view f)) same
    (slice_get-map input_view xs i ∙ ap (option_map input_view) (slice_get_read xs (length xs) i f refl inside is))

pub ok_more : {X E : Type 0} (P Q : X → Type 0) (r : Result X E) → ((x : X) → P x → Q x) → IfOk r P → IfOk r Q
ok_more P Q (Ok x) more p = more x p
ok_more P Q (Err e) more p = p

pub all_zip_push : {X Y : Type 0} (R : X → Y → Type 0) (xs : List X) (ys : List Y) (x : X) (y : Y) → AllZip R xs ys → R x y
    → AllZip R (xs ++ x ∷ []) (ys ++ y ∷ [])
all_zip_push R [] [] x y all r = (r, tt)
all_zip_push R [] (z ∷ ys) x y all r = absurd all
all_zip_push R (z ∷ xs) [] x y all r = absurd all
all_zip_push R (z ∷ xs) (v ∷ ys) x y all r = (all.0, all_zip_push R xs ys x y all.1 r)
