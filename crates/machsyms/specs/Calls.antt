-- What a call shows.
use Rattle.std.specs.Prelude.{◌≡◌, ◌^◌, ◌-◌, ℕ, List, Option, codes, not}
use Rattle.std.specs.declared.io.buffered.BufWriter.{BufWriter}
use Rattle.mach_cli.specs.AddressLines.{AreAddressLines}
use Rattle.mach_cli.specs.AddressObjects.{AreAddressMembers}
use Rattle.mach_cli.specs.Bounds.{limit_of}
use Rattle.mach_cli.specs.Calls.{is_json}
use Rattle.mach_cli.specs.ShownCalls.{ShowsJson, ShowsNm}
use Rattle.mach_cli.specs.declared.address.view.AddressObjectsOf.{AddressObjectsOf}
use Rattle.mach_cli.specs.declared.address.view.AddressLinesOf.{AddressLinesOf}
use Rattle.mach_cli.specs.declared.call.Call.{Call}
use Rattle.mach_cli.specs.declared.image_files.ImageFiles.{ImageFiles}
use Rattle.mach_cli.specs.declared.titled.Titled.{Titled}
use Rattle.machsyms.specs.ImageLines.{AreSelectedLines}
use Rattle.machsyms.specs.JsonSymbols.{AreSelectedMembers}
use Rattle.machsyms.specs.declared.arguments.SymbolOptions.{SymbolOptions}
use Rattle.machsyms.specs.declared.json.SymbolObjectsOf.{SymbolObjectsOf}
use Rattle.machsyms.specs.declared.symbol_view.SymbolLinesOf.{SymbolLinesOf}

-- How a call shows its files: the symbols that its letters select, as lines or as objects.
pub record AreSymbolFiles {A : Type 0} (call : Call A SymbolOptions) (s : ImageFiles SymbolLinesOf SymbolObjectsOf) : Type 0 where
  pub program : s.program.name.now ≡ codes "machsyms"
  pub cpu : s.cpu ≡ call.cpu
  pub lossy : s.is_lossy ≡ call.is_lossy
  pub limit : s.limit ≡ limit_of call.limit (2 ^ 64 - 1)
  pub form : s.is_json ≡ is_json call.format
  pub titles : s.has_titles ≡ not call.own.letters.has_file
  pub lines : s.lines ≡ record { letters = call.own.letters; is_raw = call.own.is_raw }
  pub objects : s.objects ≡ record { letters = call.own.letters; is_raw = call.own.is_raw }

-- How a call shows its files by addresses: what each image has there, as lines or as objects.
pub record AreAddressFiles {A : Type 0} (call : Call A SymbolOptions) (s : ImageFiles AddressLinesOf AddressObjectsOf) : Type 0 where
  pub program : s.program.name.now ≡ codes "machsyms"
  pub cpu : s.cpu ≡ call.cpu
  pub lossy : s.is_lossy ≡ call.is_lossy
  pub limit : s.limit ≡ limit_of call.limit (2 ^ 64 - 1)
  pub form : s.is_json ≡ is_json call.format
  pub titles : s.has_titles ≡ not call.own.letters.has_file
  pub addresses : (s.lines.addresses.now ≡ call.addresses.items) × (s.lines.load_address ≡ call.load_address)
  pub lines : (s.lines.has_file ≡ call.own.letters.has_file) × (s.lines.is_raw ≡ call.own.is_raw)
  pub objects : s.objects ≡ record { addresses = s.lines.addresses; load_address = s.lines.load_address }

-- A call shows the symbols of all files that it names, as lines.
abbrev pub ShowsSymbolLines : {W A B : Type 0} → (contents : W → Option (List ℕ)) → Call A SymbolOptions → (old new : BufWriter (Titled W) B)
    → (worst : ℕ) → Type 0
ShowsSymbolLines contents call old new worst = (s : ImageFiles SymbolLinesOf SymbolObjectsOf) × AreSymbolFiles call s
    × ShowsNm s s.program.name.now (AreSelectedLines s.lines.letters s.lines.is_raw) contents call.words.items call.others old new worst

-- the same as objects
abbrev pub ShowsSymbolObjects : {W A B : Type 0} → (contents : W → Option (List ℕ)) → Call A SymbolOptions → (old new : BufWriter (Titled W) B)
    → (worst : ℕ) → Type 0
ShowsSymbolObjects contents call old new worst = (s : ImageFiles SymbolLinesOf SymbolObjectsOf) × AreSymbolFiles call s
    × ShowsJson s s.program.name.now (AreSelectedMembers s.objects.letters s.objects.is_raw) contents call.words.items call.others old new worst

-- A call shows what the images of all files that it names have at its addresses, as lines.
abbrev pub ShowsLinesAt : {W A B : Type 0} → (contents : W → Option (List ℕ)) → Call A SymbolOptions → (old new : BufWriter (Titled W) B)
    → (worst : ℕ) → Type 0
ShowsLinesAt contents call old new worst = (s : ImageFiles AddressLinesOf AddressObjectsOf) × AreAddressFiles call s
    × ShowsNm s s.program.name.now (AreAddressLines s.lines.load_address s.lines.addresses.now s.lines.has_file s.lines.is_raw) contents
    call.words.items call.others old new worst

-- the same as objects
abbrev pub ShowsObjectsAt : {W A B : Type 0} → (contents : W → Option (List ℕ)) → Call A SymbolOptions → (old new : BufWriter (Titled W) B)
    → (worst : ℕ) → Type 0
ShowsObjectsAt contents call old new worst = (s : ImageFiles AddressLinesOf AddressObjectsOf) × AreAddressFiles call s
    × ShowsJson s s.program.name.now (AreAddressMembers s.objects.load_address s.objects.addresses.now) contents call.words.items call.others old new worst
