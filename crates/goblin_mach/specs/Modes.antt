-- What the bytes say of an image that was opened in them, in strict or in lossy mode.
use Rattle.std.specs.Prelude.{◌↔◌, ◌≡◌, ℕ, List}
use Rattle.goblin_mach.specs.OpenImage.{IsImage, IsLossyImage}
use Rattle.goblin_mach.specs.declared.macho.MachO.{MachO}

-- this holds of all bytes and places in which it was opened, in either mode
pub record InBothModes {A : Type 0} (m : MachO A) (Says : List ℕ → ℕ → Type 0) : Type 0 where
  pub strict : (bytes : List ℕ) (o : ℕ) → IsImage bytes o m → Says bytes o
  pub lossy : (bytes : List ℕ) (o : ℕ) → IsLossyImage bytes o m → Says bytes o

-- what the bytes say of a subject is exactly what is stated here
abbrev pub Agrees : {A B : Type 0} → MachO A → (List ℕ → ℕ → B → Type 0) → (B → Type 0) → Type 0
Agrees m Has Is = InBothModes m (λ bytes o. (x : _) → Has bytes o x ↔ Is x)

-- they say of it exactly what the image holds
abbrev pub HoldsAs : {A B : Type 0} → MachO A → (List ℕ → ℕ → B → Type 0) → B → Type 0
HoldsAs m Has held = Agrees m Has (λ x. x ≡ held)
