-- Entitlements as C gets them: a row for each value, and an array of texts. The kinds are those of `goblin_mach.h` (GM_ENTITLEMENT_BOOLEAN
-- and the following ones).
use Rattle.std.specs.Prelude.{◌≡◌, ◌+◌, ◌-◌, ◌^◌, ℕ, List, [], ◌∷◌, ◌++◌, Bool, true, false, length}
use Rattle.mach_signature.specs.EntitlementSpans.{Unread, plain_here, group_here}
use Rattle.mach_signature.specs.EntitlementValues.{Entitled, Entitlement, PlainEntitlement, boolean, entry, group, letters, nothing, numeral, plain, unlike}
use Rattle.mach_signature.specs.declared.entitlements.parts.Group.{Group}
use Rattle.mach_signature.specs.declared.entitlements.parts.Group.TheVariants.{Array, Dictionary}
use Rattle.mach_signature.specs.declared.entitlements.parts.NumberKind.{NumberKind}
use Rattle.mach_signature.specs.declared.entitlements.parts.NumberKind.TheVariants.{Natural, BelowZero, Date}
use Rattle.goblin_mach_c.specs.declared.entitlement_rows.Gathered.{Gathered}
use Rattle.goblin_mach_c.specs.declared.entitlement_rows.gm_entitlement_item.{gm_entitlement_item}

-- ---- a value: its kind, its number and its text

abbrev pub number_kind : NumberKind → ℕ
number_kind Natural = 2
number_kind BelowZero = 3
number_kind Date = 4

abbrev pub plain_kind : PlainEntitlement → ℕ
plain_kind (boolean b) = 1
plain_kind (numeral k n) = number_kind k
plain_kind (letters text) = 5
plain_kind unlike = 6

abbrev pub group_kind : Group → ℕ
group_kind Array = 7
group_kind Dictionary = 8

abbrev pub boolean_number : Bool → ℕ
boolean_number true = 1
boolean_number false = 0

-- the integer below zero is the number in two's complement
abbrev pub number_bits : NumberKind → ℕ → ℕ
number_bits Natural n = n
number_bits BelowZero n = 2 ^ 64 - 1 - n
number_bits Date n = n

-- 0 for what is no number and no boolean
abbrev pub plain_number : PlainEntitlement → ℕ
plain_number (boolean b) = boolean_number b
plain_number (numeral k n) = number_bits k n
plain_number (letters text) = 0
plain_number unlike = 0

-- no bytes for what is no text
abbrev pub text_of_plain : PlainEntitlement → List ℕ
text_of_plain (boolean b) = []
text_of_plain (numeral k n) = []
text_of_plain (letters text) = text
text_of_plain unlike = []

abbrev pub entitlement_kind : Entitlement → ℕ
entitlement_kind (plain p) = plain_kind p
entitlement_kind (group g xs) = group_kind g

abbrev pub entitlement_number : Entitlement → ℕ
entitlement_number (plain p) = plain_number p
entitlement_number (group g xs) = 0

abbrev pub entitlement_text : Entitlement → List ℕ
entitlement_text (plain p) = text_of_plain p
entitlement_text (group g xs) = []

-- the same of a value whose group is still to be read
abbrev pub unread_kind : Unread → ℕ
unread_kind (plain_here p) = plain_kind p
unread_kind (group_here g s) = group_kind g

abbrev pub unread_number : Unread → ℕ
unread_number (plain_here p) = plain_number p
unread_number (group_here g s) = 0

abbrev pub unread_text : Unread → List ℕ
unread_text (plain_here p) = text_of_plain p
unread_text (group_here g s) = []

-- ---- a row: its key and its text are in the array of texts from a place on

abbrev pub entitlement_row_by : (depth at : ℕ) → (key text : List ℕ) → (number kind : ℕ) → gm_entitlement_item
entitlement_row_by depth at key text number kind = record {
  key = at;
  key_len = length key;
  text = at + length key;
  text_len = length text;
  number = number;
  kind = kind;
  depth = depth;
}

abbrev pub entitlement_row : (depth at : ℕ) → (key : List ℕ) → Entitlement → gm_entitlement_item
entitlement_row depth at key value = entitlement_row_by depth at key (entitlement_text value) (entitlement_number value) (entitlement_kind value)

abbrev pub unread_entitlement_row : (depth at : ℕ) → (key : List ℕ) → Unread → gm_entitlement_item
unread_entitlement_row depth at key value = entitlement_row_by depth at key (unread_text value) (unread_number value) (unread_kind value)

-- ---- the texts of values in order: each key, and then the text of its value or the texts of its values

abbrev mutual
  pub texts_within : Entitlement → List ℕ
  texts_within (plain p) = text_of_plain p
  texts_within (group g xs) = texts_of xs

  pub texts_of : Entitled → List ℕ
  texts_of nothing = []
  texts_of (entry key value rest) = (key ++ texts_within value) ++ texts_of rest

-- ---- the rows of values in order: each value, and after a group its values, one deeper; their texts begin at a place

abbrev mutual
  pub rows_within : (depth at : ℕ) → Entitlement → List gm_entitlement_item
  rows_within depth at (plain p) = []
  rows_within depth at (group g xs) = rows_of depth at xs

  pub rows_of : (depth at : ℕ) → Entitled → List gm_entitlement_item
  rows_of depth at nothing = []
  rows_of depth at (entry key value rest) =
      (entitlement_row depth at key value ∷ rows_within (depth + 1) (at + length key) value) ++ rows_of depth (at + length (key ++ texts_within value)) rest

-- those of one value under its key
abbrev pub rows_under : (depth at : ℕ) → (key : List ℕ) → Entitlement → List gm_entitlement_item
rows_under depth at key value = entitlement_row depth at key value ∷ rows_within (depth + 1) (at + length key) value

abbrev pub texts_under : (key : List ℕ) → Entitlement → List ℕ
texts_under key value = key ++ texts_within value

-- ---- what was read so far

-- rows and texts were added
pub record AddsRows (rows : List gm_entitlement_item) (texts : List ℕ) (old new : Gathered) : Type 0 where
  pub are_rows : new.items.items ≡ old.items.items ++ rows
  pub are_texts : new.texts.items ≡ old.texts.items ++ texts

abbrev pub texts_place : Gathered → ℕ
texts_place g = length g.texts.items
