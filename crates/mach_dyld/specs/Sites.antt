-- The places of the names of binds, and the numbers of their libraries.
use Rattle.std.specs.Prelude.{◌≡◌, ◌+◌, ◌-◌, ◌^◌, ℕ, List, [], ◌∷◌, ◌++◌, Option, Some, None, Result, Ok, replicate, if◌then◌else◌}
use Rattle.mach_base.specs.Answer.{◌>>=◌}
use Rattle.mach_base.specs.Fault.{Fault}
use Rattle.mach_dyld.specs.Binds.{all_from, rows_in, last_setting, library_in}
use Rattle.mach_dyld.specs.Instructions.{Instruction, done, library, symbol, strong}
use Rattle.mach_dyld.specs.Machine.{Rules, State, input_of, lazy_of, reader_by, reading_from, state_of}
use Rattle.mach_dyld.specs.Streams.{IsLongestBy, Placed, Range, Reader}
use Rattle.mach_dyld.specs.declared.imports.settings.Settings.{Settings}
use Rattle.mach_dyld.specs.declared.imports.stream.Stream.{Stream}

-- the place of a bind's name, and the number of its library
pub record Site : Type 0 where
  pub name_place : ℕ
  pub library : ℕ

-- ---- by looking back over the instructions before a bind: the list has the nearest first

-- a name follows the opcode of the instruction that sets it
abbrev pub place_by : Instruction → ℕ → Option ℕ
place_by (symbol flags name) operands = Some operands
place_by (strong flags name) operands = Some operands
place_by _ operands = None

abbrev pub name_place_in : Placed → Option ℕ
name_place_in p = place_by p.instruction (p.place + 1)

-- the place of the name set last, or the last place of 64 bits, and the library set last, or 0
abbrev pub site_following : List Placed → Site
site_following back = record { name_place = last_setting (2 ^ 64 - 1) name_place_in back; library = last_setting 0 library_in back }

abbrev pub sites_at : List Placed → Placed → List Site
sites_at back p = replicate (rows_in p) (site_following (p ∷ back))

-- the sites of the binds of the first instructions of a range
abbrev pub sites_in : List Placed → List Site
sites_in ps = all_from sites_at [] ps

-- these are the sites of all binds of both streams, up to what can't be read of each
pub record AreSites (reader : Range → Reader) (non_lazy lazy : Range) (sites : List Site) : Type 0 where
  pub ps : List Placed
  pub qs : List Placed
  pub stop : Option Fault
  pub lazy_stop : Option Fault
  pub longest : IsLongestBy (reader non_lazy) non_lazy ps stop
  pub lazy_longest : IsLongestBy (reader lazy) lazy qs lazy_stop
  pub are : sites ≡ sites_in ps ++ sites_in qs

-- ---- by settings that run forward

-- the site at the start of a range, and after a DONE
abbrev pub no_site : Site
no_site = record { name_place = 2 ^ 64 - 1; library = 0 }

-- the site after an instruction whose operands are at a place
abbrev pub site_after : ℕ → Instruction → Site → Site
site_after operands done s = no_site
site_after operands (library number) s = record { name_place = s.name_place; library = number }
site_after operands (symbol flags name) s = record { name_place = operands; library = s.library }
site_after operands (strong flags name) s = record { name_place = operands; library = s.library }
site_after operands _ s = s

-- the site after what was read, if anything was
abbrev pub site_by : ℕ → Result (Instruction × ℕ) Fault → Site → Result Site Fault
site_by operands there s = there >>= λ found. Ok (site_after operands found.0 s)

unfoldable pub sites_run : Site → List Placed → List Site
sites_run s [] = []
sites_run s (p ∷ ps) =
    let t = site_after (p.place + 1) p.instruction s in
    replicate (rows_in p) t ++ sites_run t ps

-- the sites of a range that is read from a place on
abbrev pub sites_from : (Range → Reader) → Site → Range → ℕ → List Site
sites_from reader s r place = sites_run s (reading_from (reader r) r.upto place).read

-- the sites of the binds of the rest of a state's range and, after the non-lazy stream, of the lazy stream
unfoldable pub sites_of : (Range → Reader) → Range → Site → State → List Site
sites_of reader lazy site s =
    if s.ended then []
    else (replicate s.count site ++ sites_from reader site s.range s.place) ++ (if s.range.is_lazy then [] else sites_from reader no_site lazy lazy.from)

abbrev pub site_in : Settings → Site
site_in s = record { name_place = s.name_place; library = s.library }

-- the sites that are left
unfoldable pub sites_left : {M A : Type 0} → Rules M A → Stream M → List Site
sites_left u it = sites_of (reader_by u (input_of it.source)) (lazy_of it) (site_in it.state.settings) (state_of it.state)
