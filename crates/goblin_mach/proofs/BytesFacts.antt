-- The layout that an image holds, and that of the bytes in which it was opened.
use Rattle.std.proofs.Common.{◌≡◌, ℕ, List}
use Rattle.std.specs.Prelude.{◌↔◌}
use Rattle.goblin_mach.specs.ImageFacts.{facts_view}
use Rattle.goblin_mach.specs.OpenImage.{IsLossyImage}
use Rattle.goblin_mach.specs.declared.macho.MachO.{MachO}
use Rattle.goblin_mach.proofs.ImageFacts.{facts_are}
use Rattle.mach_layout.specs.Claims.{claims_of}
use Rattle.goblin_mach.specs.LayoutFacts.{HasClaims, HasLayoutFaults}
use Rattle.mach_layout.specs.Faults.{AreLayoutFaults}
use Rattle.goblin_mach.specs.Held.{laid_view}
use Rattle.goblin_mach.specs.ListFaults.{AreListFaults, laid_by}
use Rattle.mach_layout.specs.declared.claim.Claim.{Claim}
use Rattle.mach_layout.specs.declared.fault.LayoutFault.{LayoutFault}

module _ {A : Type 0} (bytes : List ℕ) (m : MachO A) (p : IsLossyImage bytes 0 m) where
  pub claims_are : (list : List Claim) → HasClaims bytes list ↔ (list ≡ claims_of (laid_view m))
  claims_are list = facts_are bytes 0 m p (λ f. list ≡ claims_of (laid_by f))

  pub faults_are : (list : List LayoutFault) → HasLayoutFaults bytes list ↔ AreLayoutFaults (laid_view m) (AreListFaults (facts_view m)) list
  faults_are list = facts_are bytes 0 m p (λ f. AreLayoutFaults (laid_by f) (AreListFaults f) list)
