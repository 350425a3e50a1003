-- How many fields lie in some bytes.
use Rattle.std.proofs.Common.{ℕ, ◌≤◌, List, [], ◌∷◌, length, arith}
use Rattle.std.proofs.lemmas.Grind.{common_steps}
use Rattle.mach_base.specs.declared.context.Endian.{Endian}
use Rattle.mach_command_fields.specs.CommandTables.{FieldPlace}
use Rattle.mach_command_fields.specs.FieldRows.{fields_in, fields_within}

-- no more lie in the bytes than there are
pub no_more_within : (n : ℕ) (fs : List FieldPlace) → length (fields_within n fs) ≤ length fs
no_more_within n [] = omega arith
no_more_within n (f ∷ fs) = grind (arith, no_more_within n fs)

pub no_more_fields : (le : Endian) (entry own : List ℕ) (place : ℕ) (fs : List FieldPlace) → length (fields_in le entry own place fs) ≤ length fs
no_more_fields le entry own place fs = grind (arith, common_steps, no_more_within (length entry) fs)
