-- The special slots of a code directory that seal something or have a fault.
use Rattle.std.specs.Prelude.{ℕ, List, if◌then◌else◌, Option, Some, None, Result, Ok, Err}
use Rattle.mach_base.specs.Fault.{Fault}
use Rattle.mach_signature.specs.AsSigned.{SignedImage}
use Rattle.mach_signature.specs.Directories.{Directory, special_slot_of}
use Rattle.mach_signature.specs.SpecialFaults.{component_of, is_unsealing, special_fault}
use Rattle.mach_signature.specs.declared.fault.SpecialFault.{SpecialFault}
use Rattle.mach_signature.specs.declared.fault.SpecialFault.TheVariants as faults
use Rattle.mach_signature.specs.declared.special.SlotState.{SlotState}
use Rattle.mach_signature.specs.declared.special.SlotState.TheVariants.{AsSigned, OtherFile, Unreadable, Unknown, Unsealed, Changed, Absent}

-- ---- the state of a slot

-- the state without a fault, by the content that the slot seals
abbrev pub unfaulted_state : Result (Option (List ℕ)) Fault → SlotState
unfaulted_state (Ok (Some bytes)) = AsSigned
unfaulted_state (Ok None) = OtherFile
unfaulted_state (Err f) = Unreadable

abbrev pub slot_state : Option SpecialFault → Result (Option (List ℕ)) Fault → SlotState
slot_state None there = unfaulted_state there
slot_state (Some (faults.Unknown k)) there = Unknown
slot_state (Some (faults.Unsealed k)) there = Unsealed
slot_state (Some (faults.Changed k)) there = Changed
slot_state (Some (faults.Absent k)) there = Absent

-- ---- which slots are shown

-- a slot as it is shown: its number, its hash, and its state
pub record SlotView : Type 0 where
  pub number : ℕ
  pub hash : List ℕ
  pub state : SlotState

abbrev pub seen_slot : ℕ → List ℕ → SlotState → SlotView
seen_slot k hash state = record { number = k; hash = hash; state = state }

-- a slot with a fault, or one whose hash isn't zero
abbrev pub if_shown : ℕ → List ℕ → Option SpecialFault → Result (Option (List ℕ)) Fault → Option SlotView
if_shown k hash None there = if is_unsealing hash then None else Some (seen_slot k hash (unfaulted_state there))
if_shown k hash (Some fault) there = Some (seen_slot k hash (slot_state (Some fault) there))

abbrev pub shown_if_any : SignedImage → Directory → ℕ → Option (List ℕ) → Option SlotView
shown_if_any x d k None = None
shown_if_any x d k (Some hash) = if_shown k hash (special_fault d x.signature x.plist k) (component_of x.signature x.plist k)

-- the slot with a number, if there is one that seals something or has a fault
abbrev pub shown_slot : SignedImage → Directory → ℕ → Option SlotView
shown_slot x d k = shown_if_any x d k (special_slot_of d k)
