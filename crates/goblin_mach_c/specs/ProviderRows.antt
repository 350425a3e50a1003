-- The provider of an undefined symbol as C sees it.
use Rattle.std.specs.Prelude.{ℕ, ◌+◌, List, [], replicate, Option, Some, None, Result, Ok, Err}
use Rattle.mach_base.specs.Fault.{Fault}
use Rattle.mach_parts.specs.Bindings.{Provider}
use Rattle.mach_parts.specs.declared.symbols.nlist.Nlist.{Nlist}
use Rattle.goblin_mach_c.specs.BindingRows.{ordinal_number, provider_number}
use Rattle.goblin_mach_c.specs.Codes.{code_of_fault}
use Rattle.goblin_mach_c.specs.declared.providers.gm_provider.{gm_provider}
use Rattle.goblin_mach_c.specs.declared.symbols.gm_symbol.{gm_symbol}

abbrev pub provider_row_of : (provider library code : ℕ) → gm_provider
provider_row_of provider library code = record { library = library; provider = provider; is_reported = 1; code = code; reserved = 0 }

abbrev pub reported_provider : Result Provider Fault → gm_provider
reported_provider (Ok p) = provider_row_of (provider_number p) (ordinal_number p) 0
reported_provider (Err f) = provider_row_of 0 0 (code_of_fault f)

-- the provider of a symbol, if it was recorded
abbrev pub provider_row : Option (Result Provider Fault) → gm_provider
provider_row None = record { library = 0; provider = 0; is_reported = 0; code = 0; reserved = 0 }
provider_row (Some found) = reported_provider found

-- an image's list of `libraries` libraries, after the image itself; their names don't matter
abbrev pub nameless : ℕ → List (List ℕ)
nameless libraries = replicate (libraries + 1) []

-- the record of a symbol, except the offset of its name
abbrev pub gm_symbol_record_view : gm_symbol → Nlist
gm_symbol_record_view s = record { n_strx = 0; n_type = s.n_type; n_sect = s.section; n_desc = s.desc; n_value = s.value }
