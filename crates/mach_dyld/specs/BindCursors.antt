-- The position of a reader of binds, as numbers.
use Rattle.std.specs.Prelude.{◌≡◌, ◌⊎◌, ℕ, ℤ, List, [], Option, Some, None, Result, Ok, Err, if◌then◌else◌, slice_get, bit_and}
use Rattle.mach_base.specs.Fault.{Fault, fault_of}
use Rattle.mach_base.specs.Text.{text_at}
use Rattle.mach_base.specs.declared.error.Error.{Error}
use Rattle.mach_parts.specs.Bindings.{Binding, binding_view}
use Rattle.mach_dyld.specs.BindLeft.{import_rules}
use Rattle.mach_dyld.specs.Machine as machine
use Rattle.mach_dyld.specs.Machine.{State, items_of}
use Rattle.mach_dyld.specs.BindViews.{bind_import_view}
use Rattle.mach_dyld.specs.BindingsLeft.{binding_rules}
use Rattle.mach_dyld.specs.declared.bindings.BindingSettings.{BindingSettings}
use Rattle.mach_dyld.specs.Binds.{Bind}
use Rattle.mach_dyld.specs.Imports.{Import}
use Rattle.mach_dyld.specs.NamePlaces.{text_or_none}
use Rattle.mach_dyld.specs.Streams.{Input, Range}
use Rattle.mach_dyld.specs.declared.bindings.OpcodeBindingIterator.{OpcodeBindingIterator}
use Rattle.mach_dyld.specs.declared.imports.cursor.BindCursor.{BindCursor}
use Rattle.mach_dyld.specs.declared.imports.cursor.PlacedImport.{PlacedImport}
use Rattle.mach_dyld.specs.declared.imports.cursor.PlacedBinding.{PlacedBinding}
use Rattle.mach_dyld.specs.declared.imports.iterator.BindIterator.{BindIterator}
use Rattle.mach_base.specs.Number.{says_yes}

-- the settings and the state in the numbers of a cursor, over some bytes: the name is the text at its place, if there is one
abbrev pub bind_in : List ℕ → BindCursor → Bind
bind_in bytes c = record {
  is_lazy = says_yes c.is_lazy;
  library = c.library;
  flags = c.flags;
  name = text_or_none (text_at bytes c.name_place);
  addend = c.addend;
  segment = c.segment;
  offset = c.offset;
  sequence = c.sequence;
}

abbrev pub state_in : List ℕ → BindCursor → State
state_in bytes c = record {
  range = record { from = c.from; upto = c.upto; is_lazy = says_yes c.is_lazy };
  settings = bind_in bytes c;
  count = c.count;
  stride = c.stride;
  place = c.place;
  ended = says_yes c.ended;
}

abbrev pub special_in : BindCursor → Option ℤ
special_in c = if says_yes (bit_and c.ordinal 2) then Some c.special else None

-- the settings of bindings beyond those of a bind
abbrev pub extra_in : BindCursor → BindingSettings
extra_in c = record {
  special = special_in c;
  kind = c.kind;
  has_ordinal = says_yes (bit_and c.ordinal 1);
  has_name = says_yes c.has_name;
  has_segment = says_yes c.has_segment;
}

-- the imports after a cursor, if this is the lazy stream
abbrev pub imports_after : Input → Range → BindCursor → List (Result Import Fault)
imports_after x lazy c = items_of import_rules x lazy (record {}) (state_in x.bytes c)

-- the bindings after it
abbrev pub opcode_bindings_after : Input → Range → BindCursor → List (Result Binding Fault)
opcode_bindings_after x lazy c = items_of binding_rules x lazy (extra_in c) (state_in x.bytes c)

-- the iterator reads this input, and has the place of its name
abbrev pub IsOverImports : Input → Range → BindIterator → Type 0
IsOverImports x lazy it = machine.IsOver x lazy it.stream

abbrev pub IsOverBindings : Input → Range → OpcodeBindingIterator → Type 0
IsOverBindings x lazy it = machine.IsOver x lazy it.stream

-- it has ended: nothing is left, and nothing comes any more
abbrev pub HasEndedImports : BindIterator → Type 0
HasEndedImports it = machine.HasEnded import_rules it.stream

abbrev pub HasEndedOpcodeBindings : OpcodeBindingIterator → Type 0
HasEndedOpcodeBindings it = machine.HasEnded binding_rules it.stream

-- what was read, as an import without its places or a fault
abbrev pub placed_read : Result PlacedImport Error → Result Import Fault
placed_read (Ok p) = Ok (bind_import_view p.import)
placed_read (Err e) = Err (fault_of e)

abbrev pub placed_binding_read : Result PlacedBinding Error → Result Binding Fault
placed_binding_read (Ok p) = Ok (binding_view p.binding)
placed_binding_read (Err e) = Err (fault_of e)

-- a text is at a place; a text of no bytes may have no place
abbrev pub TextIsAt : List ℕ → ℕ → List ℕ → Type 0
TextIsAt bytes place text = (text ≡ []) ⊎ (text_at bytes place ≡ Ok text)

-- its name is at its place, and its library is the one with its number
pub record IsPlaced (x : Input) (p : PlacedImport) : Type 0 where
  pub name : TextIsAt x.bytes p.name_place p.import.name.now
  pub library_is : slice_get x.libs p.library ≡ Some p.import.dylib.now
