-- The initializers of an image as rows, each with the symbol at its function.
use Rattle.std.specs.Prelude.{◌≡◌, ◌++◌, ◌∷◌, ℕ, List, [], Option, Some, None, Result, Ok, Err, codes, option_map}
use Rattle.mach_base.specs.declared.error.Error.{Error}
use Rattle.mach_base.specs.Fault.{Fault}
use Rattle.goblin_mach.specs.ImageFacts.{Facts, OfFacts, facts_view}
use Rattle.goblin_mach.specs.Initializers.{initializer_read, initializers_left}
use Rattle.goblin_mach.specs.NamedParts.{symbols_within}
use Rattle.goblin_mach.specs.SlotFacts.{HasInitializers}
use Rattle.goblin_mach.specs.SymbolAtAddress.{symbol_at_address}
use Rattle.goblin_mach.specs.SymbolMaps.{image_of_addresses}
use Rattle.goblin_mach.specs.declared.addresses.map.AddressMap.{AddressMap}
use Rattle.goblin_mach.specs.declared.initializers.Initializer.{Initializer}
use Rattle.goblin_mach.specs.declared.initializers.InitializerIterator.{InitializerIterator}
use Rattle.mach_cli.specs.Fields.{FieldView, field_of, hex, wide_field}
use Rattle.machinfo.specs.PartFields.{nearest_symbol_fields}
use Rattle.machinfo.specs.Parts.{entry_symbol_view}
use Rattle.machinfo.specs.RowFields.{fields_read}
use Rattle.machinfo.specs.SectionContents.{located_fields}
use Rattle.machinfo.specs.declared.initializers.InitList.{InitList}
use Rattle.machinfo.specs.declared.initializers.InitRow.{InitRow}
use Rattle.machinfo.specs.declared.initializers.InitRows.{InitRows}

-- all of them, or why there are none
abbrev pub listed_or_fault : Result (List (Result Initializer Fault)) Fault → List (Result Initializer Fault)
listed_or_fault (Ok items) = items
listed_or_fault (Err f) = Err f ∷ []

-- These are the initializers of the image at an offset.
abbrev pub HasInitRows : List ℕ → ℕ → List (Result Initializer Fault) → Type 0
HasInitRows bytes o items =
    (found : Result (List (Result Initializer Fault)) Fault) × HasInitializers bytes o found × (items ≡ listed_or_fault found)

-- the symbol at an address of an image: the name, and how far the address is above it
abbrev pub symbol_by_facts : Facts → (address : ℕ) → Option (List ℕ × ℕ)
symbol_by_facts f address = option_map (λ s. (s.name, s.distance)) (symbol_at_address f.segments (symbols_within f.symbols) address)

-- the address of a function, and the symbol there with the distance
abbrev pub init_target_fields : (target : ℕ) → Option (List ℕ × ℕ) → List FieldView
init_target_fields target symbol = wide_field 11 (field_of (codes "target") (hex target) 3) ∷ nearest_symbol_fields symbol

-- the address of the slot, and the function with its symbol
abbrev pub init_fields : (symbols : ℕ → Option (List ℕ × ℕ)) → Initializer → List FieldView
init_fields symbols i = located_fields i.slot i.section ++ init_target_fields i.target (symbols i.target)

-- These are the fields of the initializers of the image at an offset, in order, each with the symbol at its target; or the fault in the
-- place of one that can't be read.
pub record HasInitFields (bytes : List ℕ) (o : ℕ) (fields : List (Result (List FieldView) Fault)) : Type 0 where
  pub items : List (Result Initializer Fault)
  pub has_items : HasInitRows bytes o items
  pub shown : OfFacts bytes o (λ f. fields ≡ fields_read (init_fields (symbol_by_facts f)) items)

-- ---- what the code's values mean

-- the symbols that are looked up; none without initializers
abbrev pub init_symbols : {A : Type 0} → Option (AddressMap A A) → (address : ℕ) → Option (List ℕ × ℕ)
init_symbols None address = None
init_symbols (Some m) address = symbol_by_facts (facts_view (image_of_addresses m)) address

abbrev pub init_row_view : InitRow → List FieldView
init_row_view r = located_fields r.initializer.slot r.initializer.section ++ init_target_fields r.initializer.target (option_map entry_symbol_view r.symbol)

abbrev pub first_init : Option (Result Initializer Error) → List (Result Initializer Fault)
first_init None = []
first_init (Some item) = initializer_read item ∷ []

abbrev pub inits_in : Option InitializerIterator → List (Result Initializer Fault)
inits_in None = []
inits_in (Some it) = initializers_left it

abbrev pub init_rows_left : InitRows → List (Result Initializer Fault)
init_rows_left it = first_init it.first ++ inits_in it.items

abbrev pub inits_left : {A : Type 0} → InitList A → List (Result (List FieldView) Fault)
inits_left it = fields_read (init_fields (init_symbols it.symbols)) (init_rows_left it.rows)
