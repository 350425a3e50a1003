-- Symbols (`mach-o/nlist.h`) and their places (`mach-o/loader.h`, struct symtab_command).
use Rattle.std.specs.Prelude.{◌≡◌, ◌≢◌, ℕ, ◌+◌, ◌-◌, ◌*◌, ◌/◌, ◌%◌, ◌^◌, min, List, [], ◌∷◌, length, Result, Ok, Err, nat_lt, nat_le, bit_and, codes}
use Rattle.std.specs.Prelude.{if◌then◌else◌, ◌==◌, Bool, not}
use Rattle.std.specs.Int.{IsBitSet}
use Rattle.mach_base.specs.declared.context.Endian.{Endian}
use Rattle.mach_base.specs.declared.context.Container.{Container}
use Rattle.mach_base.specs.declared.context.Container.TheVariants.{Little, Big}
use Rattle.mach_base.specs.declared.context.Ctx.{Ctx}
use Rattle.mach_base.specs.Answer.{◌>>=◌}
use Rattle.mach_base.specs.Fault.{Fault, malformed, bad_offset}
use Rattle.mach_base.specs.Named.{Named, name_or}
use Rattle.mach_base.specs.Number.{bounded, place_after}
use Rattle.mach_base.specs.Record.{Field, num, Value, number_is, number_among, values_in, spelling}
use Rattle.mach_base.specs.Text.{text_at}
use Rattle.mach_records.specs.declared.symbol_tables.SymtabCommand.{SymtabCommand}
use Rattle.mach_base.specs.Items.{items_from, records_in_bounds}
use Rattle.mach_parts.specs.declared.symbols.nlist.Nlist32.{Nlist32}
use Rattle.mach_parts.specs.declared.symbols.nlist.Nlist64.{Nlist64}
use Rattle.mach_parts.specs.declared.symbols.nlist.Nlist.{Nlist}

-- struct nlist
abbrev pub nlist32_fields : List Field
nlist32_fields = num 4 ∷ num 1 ∷ num 1 ∷ num 2 ∷ num 4 ∷ []

abbrev pub nlist32_values : Nlist32 → List Value
nlist32_values s =
    number_is s.n_strx ∷ number_is s.n_type ∷ number_is s.n_sect ∷ number_is s.n_desc ∷ number_is s.n_value
    ∷ []

abbrev pub nlist32_of_values : List Value → Nlist32
nlist32_of_values vs =
    record {
      n_strx = number_among vs 0;
      n_type = number_among vs 1;
      n_sect = number_among vs 2;
      n_desc = number_among vs 3;
      n_value = number_among vs 4;
    }

-- struct nlist_64
abbrev pub nlist64_fields : List Field
nlist64_fields = num 4 ∷ num 1 ∷ num 1 ∷ num 2 ∷ num 8 ∷ []

abbrev pub nlist64_values : Nlist64 → List Value
nlist64_values s =
    number_is s.n_strx ∷ number_is s.n_type ∷ number_is s.n_sect ∷ number_is s.n_desc ∷ number_is s.n_value
    ∷ []

abbrev pub nlist64_of_values : List Value → Nlist64
nlist64_of_values vs =
    record {
      n_strx = number_among vs 0;
      n_type = number_among vs 1;
      n_sect = number_among vs 2;
      n_desc = number_among vs 3;
      n_value = number_among vs 4;
    }

-- a symbol for images of either width
abbrev pub of_nlist32 : Nlist32 → Nlist
of_nlist32 s =
    record { n_strx = s.n_strx; n_type = s.n_type; n_sect = s.n_sect; n_desc = s.n_desc; n_value = s.n_value }

abbrev pub of_nlist64 : Nlist64 → Nlist
of_nlist64 s =
    record { n_strx = s.n_strx; n_type = s.n_type; n_sect = s.n_sect; n_desc = s.n_desc; n_value = s.n_value }

-- the low 32 bits of the name's offset and of a 32-bit image's value, and the low 8 bits of the section number, are kept
abbrev pub to_nlist32 : Nlist → Nlist32
to_nlist32 s =
    record {
      n_strx = s.n_strx % 2 ^ 32;
      n_type = s.n_type;
      n_sect = s.n_sect % 2 ^ 8;
      n_desc = s.n_desc;
      n_value = s.n_value % 2 ^ 32;
    }

abbrev pub to_nlist64 : Nlist → Nlist64
to_nlist64 s =
    record {
      n_strx = s.n_strx % 2 ^ 32;
      n_type = s.n_type;
      n_sect = s.n_sect % 2 ^ 8;
      n_desc = s.n_desc;
      n_value = s.n_value;
    }

-- the size of a symbol's record in bytes
abbrev pub nlist_size : Container → ℕ
nlist_size Little = 12
nlist_size Big = 16

-- the symbol's record at s, in a width and a byte order
abbrev pub nlist_in : Container → Endian → List ℕ → ℕ → Nlist
nlist_in Little le bytes s = of_nlist32 (nlist32_of_values (values_in le nlist32_fields s bytes))
nlist_in Big le bytes s = of_nlist64 (nlist64_of_values (values_in le nlist64_fields s bytes))

-- the symbol's record at s, or the reason why there is none
abbrev pub nlist_at : Ctx → List ℕ → ℕ → Result Nlist Fault
nlist_at ctx bytes s = bounded (nlist_size ctx.container) bytes s (nlist_in ctx.container ctx.le bytes s)

-- the bytes of a symbol's record, in a width and a byte order
abbrev pub nlist_spelling : Container → Endian → Nlist → List ℕ
nlist_spelling Little le s = spelling le nlist32_fields (nlist32_values (to_nlist32 s))
nlist_spelling Big le s = spelling le nlist64_fields (nlist64_values (to_nlist64 s))

-- its type: the bits of N_TYPE
abbrev pub type_of : ℕ → ℕ
type_of n_type = bit_and n_type 0x0e

-- visible outside the image: N_EXT
abbrev pub IsGlobal : Nlist → Type 0
IsGlobal s = IsBitSet s.n_type 0

-- a weak reference or a weak definition: N_WEAK_REF or N_WEAK_DEF
abbrev pub IsWeakSymbol : Nlist → Type 0
IsWeakSymbol s = bit_and s.n_desc 0xc0 ≢ 0

-- in no section, and of the type N_UNDF
abbrev pub IsUndefined : Nlist → Type 0
IsUndefined s = (s.n_sect ≡ 0) × (type_of s.n_type ≡ 0)

-- a debugging entry (`mach-o/stab.h`): any bit of N_STAB
abbrev pub IsStab : Nlist → Type 0
IsStab s = bit_and s.n_type 0xe0 ≢ 0

-- whether a symbol is a debugging entry (N_STAB)
abbrev pub is_stab : Nlist → Bool
is_stab s = not (bit_and s.n_type 0xe0 == 0)

abbrev pub type_names : List Named
type_names =
    record { number = 0x0; name = codes "N_UNDF" }
    ∷ record { number = 0x2; name = codes "N_ABS" }
    ∷ record { number = 0xe; name = codes "N_SECT" }
    ∷ record { number = 0xc; name = codes "N_PBUD" }
    ∷ record { number = 0xa; name = codes "N_INDR" }
    ∷ []

-- the name of a symbol's type
abbrev pub type_name : ℕ → List ℕ
type_name n_type = name_or (codes "UNKNOWN_N_TYPE") type_names n_type

-- The symbols of some bytes: the place of their records, their number, and the place of the string table.
pub record SymbolTable : Type 0 where
  pub bytes : List ℕ
  pub start : ℕ
  pub nsyms : ℕ
  pub strtab : ℕ
  pub ctx : Ctx

-- the place of symbol k's record
abbrev pub symbol_place : SymbolTable → ℕ → ℕ
symbol_place t k = place_after t.start (k * nlist_size t.ctx.container)

-- the record of symbol k, or the reason why there is none
abbrev pub symbol_record_at : SymbolTable → ℕ → Result Nlist Fault
symbol_record_at t k = nlist_at t.ctx t.bytes (symbol_place t k)

-- symbol k: its name and its record, or the reason why one of them is missing
unfoldable pub symbol_at : SymbolTable → ℕ → Result (List ℕ × Nlist) Fault
symbol_at t k = do
  symbol ← symbol_record_at t k
  name ← text_at t.bytes (place_after t.strtab symbol.n_strx)
  Ok (name, symbol)

-- the name of symbol k
abbrev pub symbol_name_at : SymbolTable → ℕ → Result (List ℕ) Fault
symbol_name_at t k = symbol_at t k >>= (λ found. Ok found.0)

-- all symbols of a table
abbrev pub symbols_of : SymbolTable → List (Result (List ℕ × Nlist) Fault)
symbols_of t = items_from (symbol_at t) 0 t.nsyms

-- The table of the symbols whose records begin within the bytes. No byte of any later symbol can be read.
abbrev pub table_in_bounds : SymbolTable → SymbolTable
table_in_bounds t =
    let size = nlist_size t.ctx.container in
    record {
      bytes = t.bytes;
      start = t.start;
      nsyms = min t.nsyms (records_in_bounds (length t.bytes) t.start size);
      strtab = t.strtab;
      ctx = t.ctx;
    }

-- the table that a command describes: its string table does not lie before its records, and its records begin inside the bytes
abbrev pub table_at : Ctx → List ℕ → SymtabCommand → Result SymbolTable Fault
table_at ctx bytes c =
    if nat_lt c.stroff c.symoff then Err malformed
    else (if nat_le (length bytes) c.symoff then Err (bad_offset c.symoff)
    else Ok (record { bytes = bytes; start = c.symoff; nsyms = c.nsyms; strtab = c.stroff; ctx = ctx }))
