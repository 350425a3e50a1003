-- The fields of a record as they are written, which have names and no columns.
use Rattle.std.proofs.Common.{◌≡◌, ◌++◌, ◌∷◌, [], ◌∙◌, ℕ, List, Option, false, map, refl, sym, ap, subst}
use Rattle.std.proofs.lemmas.List.{append-nil, append_assoc}
use Rattle.std.proofs.lemmas.Grind.{flat_map-append}
use Rattle.std.specs.Prelude.{◌==◌, codes}
use Rattle.std.specs.Io.KnownBytes.{Appends}
use Rattle.std.specs.List.{flat_map}
use Rattle.mach_base.proofs.Written.{Appends-both, Appends-none}
use Rattle.mach_cli.specs.Fields.{FieldView, ValueView, column_field, column_text, comma_member, field_member, fields_line, fields_pairs, named_value}
use Rattle.mach_cli.specs.Fields.{opened_object, pair_field}

-- ---- what lines and objects have of them

no_column : (column : ℕ) (ps : List (List ℕ × ValueView)) → (0 == column) ≡ false → flat_map (column_field column) (map named_value ps) ≡ []
no_column column [] other = refl
no_column column (p ∷ ps) other = rw (other, no_column column ps other) refl

no_column_more : (fs : List FieldView) (ps : List (List ℕ × ValueView)) (column : ℕ) → (0 == column) ≡ false
    → column_text (fs ++ map named_value ps) column ≡ column_text fs column
no_column_more fs ps column other =
    flat_map-append (column_field column) fs (map named_value ps) ∙ ap (λ rest. column_text fs column ++ rest) (no_column column ps other)
    ∙ append-nil (column_text fs column)

same_line : (fs : List FieldView) (ps : List (List ℕ × ValueView)) → fields_line (fs ++ map named_value ps) ≡ fields_line fs
same_line fs ps =
    rw (
      no_column_more fs ps 1 refl,
      no_column_more fs ps 2 refl,
      no_column_more fs ps 3 refl,
      no_column_more fs ps 4 refl,
      no_column_more fs ps 5 refl,
      no_column_more fs ps 6 refl,
      no_column_more fs ps 7 refl,
      no_column_more fs ps 8 refl,
      no_column_more fs ps 9 refl,
    ) refl

-- a line has none of them
pub line_without_record : (first : FieldView) (fs : List FieldView) (ps : List (List ℕ × ValueView))
    → fields_line (first ∷ (fs ++ map named_value ps)) ≡ fields_line (first ∷ fs)
line_without_record first fs ps = same_line (first ∷ fs) ps

-- a line of names and values ends with them
pub pairs_with_record : (first : FieldView) (fs : List FieldView) (ps : List (List ℕ × ValueView))
    → fields_pairs (first ∷ (fs ++ map named_value ps)) ≡ fields_pairs (first ∷ fs) ++ flat_map pair_field (map named_value ps)
pairs_with_record first fs ps =
    rw (line_without_record first fs ps, flat_map-append pair_field (first ∷ fs) (map named_value ps))
    (sym (append_assoc (fields_line (first ∷ fs)) (flat_map pair_field (first ∷ fs)) (flat_map pair_field (map named_value ps))))

-- an object ends with them
pub object_with_record : (first : FieldView) (fs : List FieldView) (ps : List (List ℕ × ValueView))
    → opened_object first (fs ++ map named_value ps) ≡ opened_object first fs ++ flat_map comma_member (map named_value ps)
object_with_record first fs ps =
    rw (flat_map-append comma_member fs (map named_value ps))
    (ap (λ rest. codes "{" ++ rest) (sym (append_assoc (field_member first) (flat_map comma_member fs) (flat_map comma_member (map named_value ps)))))

-- ---- records that are written to their end

-- If what is left of a record is written, then all of it is.
pub Continues : (write : FieldView → List ℕ) → (all rest : List (List ℕ × ValueView)) → (old new : Option (List ℕ)) → Type 0
Continues write all rest old new =
    (end : Option (List ℕ)) → Appends new end (flat_map write (map named_value rest)) → Appends old end (flat_map write (map named_value all))

pub continues_init : (write : FieldView → List ℕ) (all : List (List ℕ × ValueView)) (known : Option (List ℕ)) → Continues write all all known known
unfolding Continues
continues_init write all known end it = it

pub continues_on : (write : FieldView → List ℕ) (all rest later : List (List ℕ × ValueView)) (f : List ℕ × ValueView) (old middle new : Option (List ℕ))
    → Continues write all rest old middle → rest ≡ f ∷ later → Appends middle new (write (named_value f)) → Continues write all later old new
unfolding Continues
continues_on write all rest later f old middle new goes is wrote end it =
    goes end (subst (λ (fs : List (List ℕ × ValueView)). Appends middle end (flat_map write (map named_value fs))) (sym is)
    (Appends-both middle new end (write (named_value f)) (flat_map write (map named_value later)) wrote it))

pub continues_end : (write : FieldView → List ℕ) (all rest : List (List ℕ × ValueView)) (old new : Option (List ℕ)) → Continues write all rest old new
    → rest ≡ [] → Appends old new (flat_map write (map named_value all))
unfolding Continues
continues_end write all rest old new goes is =
    goes new (subst (λ (fs : List (List ℕ × ValueView)). Appends new new (flat_map write (map named_value fs))) (sym is) (Appends-none new))
