-- The bindings of an image whose binds are in chains, as dyld makes them.
use Rattle.std.specs.Prelude.{◌≡◌, ◌^◌, ℕ, ℤ, pos, negsuc, ◌+ℤ◌, List, [], ◌∷◌, map, false, Option, Some, None, Result, Ok, Err, nat_lt}
use Rattle.std.specs.Prelude.{slice_get, if◌then◌else◌}
use Rattle.mach_base.specs.Among.{IsAmong}
use Rattle.mach_base.specs.Answer.{◌>>=◌}
use Rattle.mach_base.specs.Fault.{Fault, malformed}
use Rattle.mach_base.specs.Sums.{found_or_malformed, sum_of}
use Rattle.mach_parts.specs.Bindings.{Binding, provider_of}
use Rattle.mach_parts.specs.Segment.{SegmentView}
use Rattle.mach_chained.specs.Imports.{import_at}
use Rattle.mach_chained.specs.Pointers.{KindOfFixup, rebase, bind, value}
use Rattle.mach_chained.specs.Fixups.{FixupInput, Fixup}
use Rattle.mach_chained.specs.Chained.{PlacedFixup, AreFixups, fixup_items, AreFixupItems}

-- the file offset of an offset in a segment
abbrev pub place_in_file : List SegmentView → ℕ → ℕ → Result ℕ Fault
place_in_file segments number offset =
    found_or_malformed (slice_get segments number) >>= (λ segment. sum_of segment.command.fileoff offset)

-- a signed number, if it fits 64 bits
abbrev pub signed_or_malformed : ℤ → Result ℤ Fault
signed_or_malformed (pos n) = if nat_lt n (2 ^ 63) then Ok (pos n) else Err malformed
signed_or_malformed (negsuc n) = if nat_lt n (2 ^ 63) then Ok (negsuc n) else Err malformed

-- the binding of a bind: its import gives symbol and library, and both the import and the pointer have an addend
unfoldable pub chained_binding_of : FixupInput → List (List ℕ) → Fixup → ℕ → ℤ → Result Binding Fault
chained_binding_of x libs f import inline = do
  found ← import_at x.fixups import
  provider ← provider_of libs found.library
  offset ← place_in_file x.segments f.segment f.offset
  addend ← signed_or_malformed (found.addend +ℤ inline)
  Ok (record {
    name = found.name;
    provider = provider;
    offset = offset;
    address = f.address;
    addend = addend;
    is_weak = found.is_weak;
    is_lazy = false;
  })

-- the binding of a fixup, if it is a bind
abbrev pub binding_by : FixupInput → List (List ℕ) → Fixup → KindOfFixup → Option (Result Binding Fault)
binding_by x libs f (rebase target) = None
binding_by x libs f (value number) = None
binding_by x libs f (bind import inline) = Some (chained_binding_of x libs f import inline)

abbrev pub binding_in : FixupInput → List (List ℕ) → Fixup → Option (Result Binding Fault)
binding_in x libs f = binding_by x libs f f.kind

-- the binding of a fixup, if there is one, before those of others; a fault ends them
abbrev pub bindings_before : Option (Result Binding Fault) → List (Result Binding Fault) → List (Result Binding Fault)
bindings_before None rest = rest
bindings_before (Some (Err f)) rest = Err f ∷ []
bindings_before (Some (Ok b)) rest = Ok b ∷ rest

-- the bindings of the binds among some fixups, in order; they end after the first fault
abbrev pub bindings_of : FixupInput → List (List ℕ) → List (Result Fixup Fault) → List (Result Binding Fault)
bindings_of x libs [] = []
bindings_of x libs (Err f ∷ items) = Err f ∷ []
bindings_of x libs (Ok f ∷ items) = bindings_before (binding_in x libs f) (bindings_of x libs items)

-- these are the bindings of an image's chains with these libraries; they end after the first fault
abbrev pub AreBindingItems : FixupInput → List (List ℕ) → List (Result Binding Fault) → Type 0
AreBindingItems x libs items =
    (fixups : List (Result Fixup Fault)) × AreFixupItems x fixups × (items ≡ bindings_of x libs fixups)

-- this is the list of all bindings: there is no fault among the fixups, and each bind has a binding
abbrev pub ListsBindings : FixupInput → List (List ℕ) → List Binding → Type 0
ListsBindings x libs list =
    (ps : List PlacedFixup) × AreFixups x ps None × (bindings_of x libs (fixup_items ps None) ≡ map Ok list)

-- there is this fault among the bindings
abbrev pub BindingFault : FixupInput → List (List ℕ) → Fault → Type 0
BindingFault x libs f = (items : List (Result Binding Fault)) × AreBindingItems x libs items × IsAmong (Err f) items
