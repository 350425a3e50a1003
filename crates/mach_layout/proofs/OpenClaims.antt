-- The claims that are left of a command.
use Rattle.std.proofs.Common.{◌≡◌, ◌<◌, ℕ, suc, ◌+◌, List, [], ◌∷◌, ◌++◌, drop, length, Option, Some, None, sym, ap, ◌∙◌, add-one}
use Rattle.std.proofs.Math.Seq.{drop-cons}
use Rattle.std.proofs.lemmas.Option.{slice_get_within, get_or_from_slice_get}
use Rattle.std.specs.Borrow.{Bor}
use Rattle.std.specs.Prelude.{slice_get, flat_map}
use Rattle.mach_load.specs.Variants.{command_of}
use Rattle.mach_load.specs.declared.load_command.LoadCommand.{LoadCommand}
use Rattle.mach_layout.specs.Claims.{section_claims, tables_by}
use Rattle.mach_layout.specs.ClaimsLeft.{listed, open_tables, open_left}
use Rattle.mach_layout.specs.Laid.{Laid, open_sections}
use Rattle.mach_layout.specs.declared.claim.Claim.{Claim}
use Rattle.mach_layout.specs.declared.claiming.Open.{Open}
use Rattle.mach_layout.specs.declared.placed_sections.PlacedSection.{PlacedSection}

drop_at : {X : Type 0} (xs : List X) (k : ℕ) (x : X) → slice_get xs k ≡ Some x → drop k xs ≡ x ∷ drop (k + 1) xs
drop_at {X} xs k x there =
    let lt : k < length xs = slice_get_within xs k x there in
    rw add-one (drop-cons xs k x lt ∙ ap (λ (y : X). y ∷ drop (suc k) xs) (get_or_from_slice_get xs k x x there))

-- the next table is taken if nothing comes before it
pub table_next : (laid : Laid) (o : Open) (c : Bor LoadCommand) (x : Claim) → o.first ≡ None
    → open_sections laid.ctx laid.bytes o.segment o.taken ≡ [] → o.command ≡ Some c
    → slice_get (tables_by laid (command_of c.now)) o.field ≡ Some x → open_left laid o ≡ x ∷ open_left laid (record o { field = o.field + 1 })
table_next laid o c x first sections command there =
    let tables : (k : ℕ) → open_tables laid o.command k ≡ drop k (tables_by laid (command_of c.now)) =
    λ k. ap (λ (d : Option (Bor LoadCommand)). open_tables laid d k) command in
    let left : (k : ℕ) → open_left laid (record o { field = k }) ≡ drop k (tables_by laid (command_of c.now)) =
    λ k.
    ap (λ (f : Option Claim). listed f
    ++ (flat_map (section_claims laid) (open_sections laid.ctx laid.bytes o.segment o.taken) ++ open_tables laid o.command k)) first
    ∙ ap (λ (ss : List PlacedSection). flat_map (section_claims laid) ss ++ open_tables laid o.command k) sections
    ∙ tables k in
    left o.field ∙ drop_at (tables_by laid (command_of c.now)) o.field x there
    ∙ ap (λ (cs : List Claim). x ∷ cs) (sym (left (o.field + 1)))
