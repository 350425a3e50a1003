-- The providers of the undefined symbols of an image, as the linker recorded them.
use Rattle.std.specs.Prelude.{◌≡◌, ℕ, ◌-◌, List, [], Option, Some, None, option_map, Result, Ok, Err}
use Rattle.std.specs.List.{filter_map}
use Rattle.mach_base.specs.declared.error.Error.{Error}
use Rattle.mach_base.specs.Answer.{◌>>=◌}
use Rattle.mach_base.specs.Fault.{Fault}
use Rattle.mach_base.specs.Items.{read_as}
use Rattle.mach_base.specs.Text.{texts}
use Rattle.mach_parts.specs.Bindings.{Provider, provider_view}
use Rattle.mach_parts.specs.Symbols.{SymbolTable, table_in_bounds, symbols_of}
use Rattle.mach_parts.specs.SymbolViews.{symbols_left}
use Rattle.mach_parts.specs.declared.symbols.nlist.Nlist.{Nlist}
use Rattle.goblin_mach.specs.ImageFacts.{OfFacts}
use Rattle.goblin_mach.specs.ImageSlots.{symbol_provider_of}
use Rattle.machinfo.specs.declared.providers.Provided.{Provided}
use Rattle.machinfo.specs.declared.providers.ProvidedSymbols as declared

-- a symbol's name and its provider
pub record ProvidedView : Type 0 where
  pub name : List ℕ
  pub provider : Provider

abbrev pub named_provider : List ℕ → Result Provider Fault → Result ProvidedView Fault
named_provider name provider = provider >>= (λ p. Ok (record { name = name; provider = p }))

-- the provider of a symbol, if one is recorded; or the fault if the symbol or its provider can't be read
abbrev pub provided_by : ℕ → List (List ℕ) → Result (List ℕ × Nlist) Fault → Option (Result ProvidedView Fault)
provided_by flags libs (Err f) = Some (Err f)
provided_by flags libs (Ok symbol) = option_map (named_provider symbol.0) (symbol_provider_of flags libs symbol.1)

-- the providers of a table's symbols whose records begin within the bytes; none without a table
abbrev pub provided_in : ℕ → List (List ℕ) → Option SymbolTable → List (Result ProvidedView Fault)
provided_in flags libs None = []
provided_in flags libs (Some table) = filter_map (provided_by flags libs) (symbols_of (table_in_bounds table))

-- how many symbols a table claims past the end of the bytes
abbrev pub symbols_past_in : Option SymbolTable → ℕ
symbols_past_in None = 0
symbols_past_in (Some table) = table.nsyms - (table_in_bounds table).nsyms

-- these are the providers of the symbols of the image at an offset
abbrev pub HasProvidedSymbols : List ℕ → ℕ → List (Result ProvidedView Fault) → Type 0
HasProvidedSymbols bytes o items = OfFacts bytes o (λ f. items ≡ provided_in f.header.flags f.libs f.symbols)

-- ---- what the code's values mean

abbrev pub provided_view : Provided → ProvidedView
provided_view p = record { name = p.name.now; provider = provider_view p.provider }

abbrev pub provided_read : Result Provided Error → Result ProvidedView Fault
provided_read item = read_as provided_view item

abbrev pub provided_left : {A : Type 0} → declared.ProvidedSymbols A → List (Result ProvidedView Fault)
provided_left it = filter_map (provided_by it.image.now.header.flags (texts it.image.now.libs.items)) (symbols_left it.symbols)
