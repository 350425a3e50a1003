-- What is read from the commands of a chain, subject by subject.
use Rattle.std.specs.Prelude.{◌≡◌, List, [], ◌∷◌, Option, Some, None, Result, Ok, Err, IsOk}
use Rattle.mach_base.specs.declared.error.Error.{Error}
use Rattle.mach_base.specs.Fault.{Fault, fault_of}
use Rattle.mach_load.specs.Command.{Command}
use Rattle.mach_base.specs.Among.{IsAmong}

-- What is read from a command, or why it can't be read; none if the command doesn't concern the subject.
abbrev pub Reading : Type 0 → Type 0
Reading V = Command → Option (Result V Fault)

abbrev pub keep : {V : Type 0} → Option (Result V Fault) → List V → List V
keep None vs = vs
keep (Some (Ok v)) vs = v ∷ vs
keep (Some (Err f)) vs = vs

-- what can be read from the commands on a subject, in order
abbrev pub read_of : {V : Type 0} → Reading V → List Command → List V
read_of reading [] = []
read_of reading (c ∷ cs) = keep (reading c) (read_of reading cs)

-- what one command adds to that
abbrev pub values_read : {V : Type 0} → Option (Result V Fault) → List V
values_read found = keep found []

abbrev pub IsRead : {V : Type 0} → Option (Result V Fault) → Type 0
IsRead None = Unit {0}
IsRead (Some found) = IsOk found

-- it can't be read, for this fault
abbrev pub IsRefused : {V : Type 0} → Option (Result V Fault) → Fault → Type 0
IsRefused found f = found ≡ Some (Err f)

-- every command on the subject can be read
abbrev pub AllRead : {V : Type 0} → Reading V → List Command → Type 0
AllRead reading [] = Unit {0}
AllRead reading (c ∷ cs) = IsRead (reading c) × AllRead reading cs

-- a command on the subject, among these, can't be read, for this fault
pub record IsUnread {V : Type 0} (reading : Reading V) (cs : List Command) (f : Fault) : Type 0 where
  pub command : Command
  pub among : IsAmong command cs
  pub fault : reading command ≡ Some (Err f)

abbrev pub last_or : {A : Type 0} → Option A → List A → Option A
last_or default [] = default
last_or default (x ∷ xs) = last_or (Some x) xs

-- the last of a list, if it has one
abbrev pub last_of : {A : Type 0} → List A → Option A
last_of xs = last_or None xs

-- the first of a list, if it has one
abbrev pub first_of : {A : Type 0} → List A → Option A
first_of [] = None
first_of (x ∷ xs) = Some x

-- a result, as contracts see it
abbrev pub view_of_read : {X V : Type 0} → (X → V) → Option (Result X Error) → Option (Result V Fault)
view_of_read view None = None
view_of_read view (Some (Ok x)) = Some (Ok (view x))
view_of_read view (Some (Err e)) = Some (Err (fault_of e))
