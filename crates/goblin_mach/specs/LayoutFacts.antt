-- What the bytes say of the layout of the image that opens at their start.
use Rattle.std.specs.Prelude.{◌≡◌, ℕ, List}
use Rattle.goblin_mach.specs.Facts.{OfImage}
use Rattle.goblin_mach.specs.ImageFacts.{OfFacts}
use Rattle.goblin_mach.specs.ListFaults.{AreListFaults, laid_by}
use Rattle.mach_layout.specs.Claims.{claims_of}
use Rattle.mach_layout.specs.Faults.{AreLayoutFaults}
use Rattle.mach_layout.specs.Laid.{laid_in}
use Rattle.mach_layout.specs.declared.claim.Claim.{Claim}
use Rattle.mach_layout.specs.declared.fault.LayoutFault.{LayoutFault}

-- the faults of its layout
abbrev pub HasLayoutFaults : List ℕ → List LayoutFault → Type 0
HasLayoutFaults bytes list = OfFacts bytes 0 (λ f. AreLayoutFaults (laid_by f) (AreListFaults f) list)

-- the ranges of the file that its parts claim
abbrev pub HasClaims : List ℕ → List Claim → Type 0
HasClaims bytes claims = OfImage bytes 0 (λ ctx cs. claims ≡ claims_of (laid_in bytes ctx cs))
