-- What is left of the iterator over the claims of an image.
use Rattle.std.specs.Prelude.{◌≡◌, ℕ, List, [], ◌∷◌, ◌++◌, drop, flat_map, map, Option, Some, None}
use Rattle.std.specs.Borrow.{Bor}
use Rattle.std.specs.Slice.Iter.{iter_rest}
use Rattle.mach_load.specs.Variants.{command_of}
use Rattle.mach_load.specs.declared.load_command.LoadCommand.{LoadCommand}
use Rattle.mach_layout.specs.Claims.{section_claims, tables_by, claims_by}
use Rattle.mach_layout.specs.Laid.{Laid, laid_of, open_sections}
use Rattle.mach_layout.specs.declared.claim.Claim.{Claim}
use Rattle.mach_layout.specs.declared.claiming.ClaimIterator.{ClaimIterator}
use Rattle.mach_layout.specs.declared.claiming.Open.{Open}

-- the claim that comes first, if there is one
abbrev pub listed : Option Claim → List Claim
listed None = []
listed (Some claim) = claim ∷ []

-- the tables of a command from number k on, if there is one
abbrev pub open_tables : Laid → Option (Bor LoadCommand) → ℕ → List Claim
open_tables laid None k = []
open_tables laid (Some c) k = drop k (tables_by laid (command_of c.now))

-- what is left of one command
abbrev pub open_left : Laid → Open → List Claim
open_left laid o =
    listed o.first ++ (flat_map (section_claims laid) (open_sections laid.ctx laid.bytes o.segment o.taken) ++ open_tables laid o.command o.field)

-- the next claim of the command was taken, or none is left
abbrev pub TakesClaim : Laid → Open → Option Claim → Open → Type 0
TakesClaim laid old None new = (open_left laid old ≡ []) × (open_left laid new ≡ [])
TakesClaim laid old (Some claim) new = open_left laid old ≡ claim ∷ open_left laid new

-- what is left of a command, then the claims of the commands that are left
abbrev pub claims_left : ClaimIterator → List Claim
claims_left it =
    open_left (laid_of it.layout) it.open ++ flat_map (claims_by (laid_of it.layout)) (map command_of (iter_rest it.commands))
