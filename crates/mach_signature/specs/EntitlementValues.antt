-- Entitlements as values, however they are written, and when two of them say the same.
use Rattle.std.specs.Prelude.{ℕ, ◌+◌, ◌==◌, ◌&&◌, ◌||◌, Bool, true, false, not, List, Option, Some, None, if◌then◌else◌}
use Rattle.std.specs.Option.{is_some}
use Rattle.std.specs.Str.{bytes_eq}
use Rattle.mach_signature.specs.declared.entitlements.parts.Group.{Group}
use Rattle.mach_signature.specs.declared.entitlements.parts.Group.TheVariants.{Array, Dictionary}
use Rattle.mach_signature.specs.declared.entitlements.parts.NumberKind.{NumberKind}
use Rattle.mach_signature.specs.declared.entitlements.parts.NumberKind.TheVariants.{Natural, BelowZero, Date}

-- A value that contains no other. A number n is the integer n, the integer -1 - n, or the date whose 14 digits it has. No value in DER
-- is like a real.
pub data PlainEntitlement : Type 0 where
  boolean : Bool → PlainEntitlement
  numeral : NumberKind → ℕ → PlainEntitlement
  letters : List ℕ → PlainEntitlement
  unlike : PlainEntitlement

mutual
  -- a value: a plain one, or a group of values
  pub data Entitlement : Type 0 where
    plain : PlainEntitlement → Entitlement
    group : Group → Entitled → Entitlement

  -- values in order, each under its key; the keys in an array are empty
  pub data Entitled : Type 0 where
    nothing : Entitled
    entry : (key : List ℕ) → Entitlement → Entitled → Entitled

-- ---- keys

-- the first value under a key
abbrev pub value_under : List ℕ → Entitled → Option Entitlement
value_under key nothing = None
value_under key (entry k value rest) = if bytes_eq k key then Some value else value_under key rest

-- the boolean true
abbrev pub is_plain_true : PlainEntitlement → Bool
is_plain_true (boolean b) = b
is_plain_true (numeral k n) = false
is_plain_true (letters t) = false
is_plain_true unlike = false

abbrev pub is_true_entitlement : Entitlement → Bool
is_true_entitlement (plain p) = is_plain_true p
is_true_entitlement (group g xs) = false

-- a value under a key is the boolean true
abbrev pub has_true_under : (key : List ℕ) → Entitled → Bool
has_true_under key nothing = false
has_true_under key (entry k value rest) = is_true_entitlement value && bytes_eq k key || has_true_under key rest

abbrev pub entry_count : Entitled → ℕ
entry_count nothing = 0
entry_count (entry k value rest) = 1 + entry_count rest

-- ---- when values say the same

abbrev pub same_kind : NumberKind → NumberKind → Bool
same_kind Natural Natural = true
same_kind Natural BelowZero = false
same_kind Natural Date = false
same_kind BelowZero Natural = false
same_kind BelowZero BelowZero = true
same_kind BelowZero Date = false
same_kind Date Natural = false
same_kind Date BelowZero = false
same_kind Date Date = true

abbrev pub same_plain : PlainEntitlement → PlainEntitlement → Bool
same_plain (boolean a) (boolean b) = if a then b else not b
same_plain (boolean a) (numeral k n) = false
same_plain (boolean a) (letters t) = false
same_plain (boolean a) unlike = false
same_plain (numeral j m) (boolean b) = false
same_plain (numeral j m) (numeral k n) = same_kind j k && m == n
same_plain (numeral j m) (letters t) = false
same_plain (numeral j m) unlike = false
same_plain (letters s) (boolean b) = false
same_plain (letters s) (numeral k n) = false
same_plain (letters s) (letters t) = bytes_eq s t
same_plain (letters s) unlike = false
same_plain unlike (boolean b) = false
same_plain unlike (numeral k n) = false
same_plain unlike (letters t) = false
same_plain unlike unlike = false

-- The values of two arrays say the same, each and the one at its place in the other. Two dictionaries say the same in any order:
-- they have as many keys, each key of the second is there once, and its values in both say the same.
abbrev mutual
  pub says_same : Option Entitlement → Entitlement → Bool
  says_same None y = false
  says_same (Some (plain p)) (plain q) = same_plain p q
  says_same (Some (plain p)) (group h ys) = false
  says_same (Some (group g xs)) (plain q) = false
  says_same (Some (group Array xs)) (group Array ys) = same_in_order xs ys
  says_same (Some (group Array xs)) (group Dictionary ys) = false
  says_same (Some (group Dictionary xs)) (group Array ys) = false
  says_same (Some (group Dictionary xs)) (group Dictionary ys) = entry_count xs == entry_count ys && same_under_keys xs ys

  pub same_in_order : Entitled → Entitled → Bool
  same_in_order nothing nothing = true
  same_in_order nothing (entry k y ys) = false
  same_in_order (entry j x xs) nothing = false
  same_in_order (entry j x xs) (entry k y ys) = says_same (Some x) y && same_in_order xs ys

  pub same_under_keys : Entitled → Entitled → Bool
  same_under_keys xs nothing = true
  same_under_keys xs (entry k y ys) = says_same (value_under k xs) y && (not (is_some (value_under k ys)) && same_under_keys xs ys)

-- the values of two groups of a kind
abbrev pub same_groups : Group → Entitled → Entitled → Bool
same_groups Array xs ys = same_in_order xs ys
same_groups Dictionary xs ys = entry_count xs == entry_count ys && same_under_keys xs ys
