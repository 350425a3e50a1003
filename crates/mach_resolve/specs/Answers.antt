-- The answers for the bindings of a program, and which of them are settled.
use Rattle.std.specs.Prelude.{◌≡◌, ℕ, Bool, true, false, ◌||◌, ◌&&◌, List, [], slice_get, bytes_eq, unwrap_or}
use Rattle.std.specs.List.{AllZip}
use Rattle.mach_parts.specs.Bindings.{Binding, Provider, of_library, itself, main_executable, flat, weak_lookup}
use Rattle.mach_resolve.specs.Files.{File}
use Rattle.mach_resolve.specs.Follow.{SymbolPlace, found, leads_back, no_library, missing, not_given, not_found, no_main, FollowsTo}
use Rattle.mach_resolve.specs.Special.{IsFlat, IsWeakLookup, IsInMain}

-- a program: its name; and by ordinal, the program first, whether a library may be absent
pub record Program : Type 0 where
  pub name : List ℕ
  pub may_be_absent : List Bool

-- the place of a name that a provider is to provide
abbrev pub IsProvided : List File → Program → Provider → List ℕ → SymbolPlace → Type 0
IsProvided files p (of_library ordinal library) name place = FollowsTo files [] (record { library = library; name = name }) place
IsProvided files p itself name place = FollowsTo files [] (record { library = p.name; name = name }) place
IsProvided files p main_executable name place = IsInMain files name place
IsProvided files p flat name place = IsFlat files name place
IsProvided files p weak_lookup name place = IsWeakLookup files name place

-- whether a provider is a library that is absent here, and may be
abbrev pub is_absent_weak : Program → Provider → SymbolPlace → Bool
is_absent_weak p (of_library ordinal library) (no_library absent) = bytes_eq library absent && unwrap_or (slice_get p.may_be_absent ordinal) false
is_absent_weak p provider place = false

-- an answer: the name and the provider, the place of the name, and whether the name may be missing
pub record Answer : Type 0 where
  pub name : List ℕ
  pub provider : Provider
  pub place : SymbolPlace
  pub is_weak : Bool

-- The answer for a binding. The name may be missing if the binding is a weak import, or if its library is absent and may be.
pub record IsAnswer (files : List File) (p : Program) (b : Binding) (a : Answer) : Type 0 where
  pub name_is : a.name ≡ b.name
  pub provider_is : a.provider ≡ b.provider
  pub place : IsProvided files p b.provider b.name a.place
  pub is_weak_is : a.is_weak ≡ (b.is_weak || is_absent_weak p b.provider a.place)

-- one answer for each binding, in order
abbrev pub AreAnswers : List File → Program → List Binding → List Answer → Type 0
AreAnswers files p bindings answers = AllZip (IsAnswer files p) bindings answers

-- whether a place settles a binding, given whether the name may be missing
abbrev pub settles : SymbolPlace → Bool → Bool
settles (found number file address is_absolute) is_weak = true
settles (leads_back library) is_weak = false
settles (no_library library) is_weak = is_weak
settles (missing library) is_weak = is_weak
settles (not_given library reexported) is_weak = is_weak
settles not_found is_weak = is_weak
settles no_main is_weak = is_weak

abbrev pub is_settled : Answer → Bool
is_settled a = settles a.place a.is_weak
