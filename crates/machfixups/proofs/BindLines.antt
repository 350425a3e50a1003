-- The line of a bind has the fields of a line alone.
use Rattle.std.proofs.Common.{◌≡◌, ◌++◌, ◌∙◌, [], ℕ, List, Bool, true, false, Option, Some, None, refl}
use Rattle.std.specs.Prelude.{◌||◌, ℤ, codes, pos}
use Rattle.std.specs.Ordering.{int_eq}
use Rattle.mach_cli.specs.Fields.{fields_line, hex, text, value_in_width}
use Rattle.mach_cli.specs.Signing.{has_auth}
use Rattle.machfixups.specs.RowFields.{bind_ending, bind_fields, bind_name_text, bind_text, from_text, name_or_dash}
use Rattle.machfixups.specs.Rows.{PointerBind, PointerPlace}
use Rattle.machfixups.proofs.InColumns.{bind_word, place_columns, two_columns}

-- the name, and what comes before and after it
name_columns : (from : Option (List ℕ)) (ordinal : ℤ) (name rest : List ℕ)
    → from_text from ordinal ++ (codes " " ++ (value_in_width 0 (text name) ++ rest))
    ≡ (from_text from ordinal ++ []) ++ ((codes " " ++ (value_in_width 0 (text name) ++ [])) ++ rest)
name_columns from ordinal name rest = two_columns (from_text from ordinal) (value_in_width 0 (text name)) rest

module _ (p : PointerPlace) (b : PointerBind) where
  written : (raw : Option ℕ)
      → bind_text p b raw
      ≡ (value_in_width 11 (hex p.address) ++ []) ++ ((codes " " ++ (value_in_width 12 (text (name_or_dash p.segment)) ++ []))
      ++ ((codes " " ++ (value_in_width 16 (text (name_or_dash p.section)) ++ [])) ++ ((codes " " ++ (value_in_width 6 (text (codes "bind")) ++ []))
      ++ (codes " " ++ ((from_text b.from b.ordinal ++ []) ++ ((codes " " ++ (value_in_width 0 (text b.name) ++ [])) ++ fields_line (bind_ending b raw)))))))
  written raw =
      place_columns (value_in_width 11 (hex p.address)) (value_in_width 12 (text (name_or_dash p.segment)))
      (value_in_width 16 (text (name_or_dash p.section))) (value_in_width 6 (text (codes "bind"))) (codes "bind  ") (bind_name_text b raw) _
      bind_word (name_columns b.from b.ordinal b.name (fields_line (bind_ending b raw)))

  -- by whether there is no addend, whether there are flags, and the name of the image
  by_columns : (none some : Bool) (from : Option (List ℕ)) (raw : Option ℕ) → int_eq b.addend (pos 0) ≡ none
      → (b.is_weak || (b.is_lazy || has_auth b.auth)) ≡ some → b.from ≡ from
      → (value_in_width 11 (hex p.address) ++ []) ++ ((codes " " ++ (value_in_width 12 (text (name_or_dash p.segment)) ++ []))
      ++ ((codes " " ++ (value_in_width 16 (text (name_or_dash p.section)) ++ [])) ++ ((codes " " ++ (value_in_width 6 (text (codes "bind")) ++ []))
      ++ (codes " " ++ ((from_text b.from b.ordinal ++ []) ++ ((codes " " ++ (value_in_width 0 (text b.name) ++ [])) ++ fields_line (bind_ending b raw)))))))
      ≡ fields_line (bind_fields p b raw)
  by_columns true true None None addend flags from = rw (addend, flags, from) refl
  by_columns true true None (Some raw) addend flags from = rw (addend, flags, from) refl
  by_columns true true (Some name) None addend flags from = rw (addend, flags, from) refl
  by_columns true true (Some name) (Some raw) addend flags from = rw (addend, flags, from) refl
  by_columns true false None None addend flags from = rw (addend, flags, from) refl
  by_columns true false None (Some raw) addend flags from = rw (addend, flags, from) refl
  by_columns true false (Some name) None addend flags from = rw (addend, flags, from) refl
  by_columns true false (Some name) (Some raw) addend flags from = rw (addend, flags, from) refl
  by_columns false true None None addend flags from = rw (addend, flags, from) refl
  by_columns false true None (Some raw) addend flags from = rw (addend, flags, from) refl
  by_columns false true (Some name) None addend flags from = rw (addend, flags, from) refl
  by_columns false true (Some name) (Some raw) addend flags from = rw (addend, flags, from) refl
  by_columns false false None None addend flags from = rw (addend, flags, from) refl
  by_columns false false None (Some raw) addend flags from = rw (addend, flags, from) refl
  by_columns false false (Some name) None addend flags from = rw (addend, flags, from) refl
  by_columns false false (Some name) (Some raw) addend flags from = rw (addend, flags, from) refl

  pub same_bind_line : (raw : Option ℕ) → bind_text p b raw ≡ fields_line (bind_fields p b raw)
  same_bind_line raw = written raw ∙ by_columns _ _ _ raw refl refl refl
