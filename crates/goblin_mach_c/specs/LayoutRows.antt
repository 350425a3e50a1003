-- Faults of layout as C sees them: their rules and parts as the numbers of `goblin_mach.h` (GM_LAYOUT_FILE_KIND, GM_PART_HEADER
-- and the following ones).
use Rattle.std.specs.Prelude.{◌≡◌, ℕ, List, [], drop, Option, Some, None}
use Rattle.goblin_mach.specs.File.{HasFatMagic}
use Rattle.mach_parts.specs.ArchForms.{arch_form_32, arch_form_64}
use Rattle.mach_parts.specs.FatRecords.{HasFat64Magic}
use Rattle.mach_layout.specs.Containers.{AreContainerFaults}
use Rattle.mach_layout.specs.declared.fault.LayoutFault.{LayoutFault}
use Rattle.mach_layout.specs.declared.fault.Owner.{Owner}
use Rattle.mach_layout.specs.declared.fault.Part.{Part}
use Rattle.mach_layout.specs.declared.fault.Part.TheVariants as part
use Rattle.mach_layout.specs.declared.fault.Rule.{Rule}
use Rattle.mach_layout.specs.declared.fault.Rule.TheVariants as rule
use Rattle.goblin_mach_c.specs.declared.images.gm_image.{gm_image}
use Rattle.goblin_mach_c.specs.declared.layout.gm_layout_fault.{gm_layout_fault}

-- the number of a rule; 0 is none
abbrev pub rule_number : Rule → ℕ
rule_number rule.FileKind = 1
rule_number rule.CommandsOutOfFile = 2
rule_number rule.CommandSize = 3
rule_number rule.CommandUnaligned = 4
rule_number rule.CommandOutOfCommands = 5
rule_number rule.CommandCount = 6
rule_number rule.SegmentWidth = 7
rule_number rule.CommandsEndEarly = 8
rule_number rule.CommandAgain = 9
rule_number rule.DynamicSymbolsAlone = 10
rule_number rule.OutOfFile = 11
rule_number rule.SegmentBeyondAddresses = 12
rule_number rule.SegmentFileLarger = 13
rule_number rule.SegmentAddressUnaligned = 14
rule_number rule.SegmentPlaceUnaligned = 15
rule_number rule.SegmentNameAgain = 16
rule_number rule.SegmentRights = 17
rule_number rule.SegmentsShareMemory = 18
rule_number rule.SegmentsShareFile = 19
rule_number rule.NoSegmentOfHeader = 20
rule_number rule.SectionOutOfMemory = 21
rule_number rule.SectionOutOfBytes = 22
rule_number rule.SectionElsewhere = 23
rule_number rule.SectionAlignment = 24
rule_number rule.SectionUnaligned = 25
rule_number rule.SectionOfOther = 26
rule_number rule.SectionsShareMemory = 27
rule_number rule.ClaimsShare = 28
rule_number rule.HeaderShared = 29
rule_number rule.OutOfLinkedit = 30
rule_number rule.EncryptedNotExecutable = 31
rule_number rule.SymbolSection = 32
rule_number rule.SymbolName = 33
rule_number rule.SymbolRange = 34
rule_number rule.SymbolRangeKind = 35
rule_number rule.SymbolLibrary = 36
rule_number rule.IndirectSymbol = 37
rule_number rule.IndirectSection = 38
rule_number rule.SymbolRangeOrder = 39
rule_number rule.EntryOutOfCode = 40
rule_number rule.NoEntry = 41
rule_number rule.TextMisplaced = 42
rule_number rule.TextEmpty = 43
rule_number rule.IdMissing = 44
rule_number rule.IdUnexpected = 45
rule_number rule.Binds = 46
rule_number rule.ChainedFixups = 47
rule_number rule.ImportLibrary = 48
rule_number rule.ImportName = 49
rule_number rule.RecordsOutOfFile = 50
rule_number rule.SliceOutOfFile = 51
rule_number rule.SliceInRecords = 52
rule_number rule.SliceAlignment = 53
rule_number rule.SliceUnaligned = 54
rule_number rule.SliceAgain = 55
rule_number rule.SliceOfOtherCpu = 56
rule_number rule.SlicesShare = 57
rule_number rule.Rebases = 58
rule_number rule.WeakBinds = 59
rule_number rule.FunctionStarts = 60
rule_number rule.DataOutOfCode = 61
rule_number rule.DataShared = 62

-- the number of a part; 0 is none
abbrev pub part_number : Part → ℕ
part_number part.Header = 1
part_number part.Command = 2
part_number part.Text = 3
part_number part.Segment = 4
part_number part.Section = 5
part_number part.Relocations = 6
part_number part.Symbols = 7
part_number part.SymbolRanges = 8
part_number part.Strings = 9
part_number part.TableOfContents = 10
part_number part.Modules = 11
part_number part.ExternalReferences = 12
part_number part.IndirectSymbols = 13
part_number part.ExternalRelocations = 14
part_number part.LocalRelocations = 15
part_number part.RebaseOpcodes = 16
part_number part.BindOpcodes = 17
part_number part.WeakBindOpcodes = 18
part_number part.LazyBindOpcodes = 19
part_number part.ExportTrie = 20
part_number part.Signature = 21
part_number part.SplitInfo = 22
part_number part.FunctionStarts = 23
part_number part.DataInCode = 24
part_number part.SignatureRequirements = 25
part_number part.LinkerHints = 26
part_number part.ChainedFixups = 27
part_number part.Imports = 28
part_number part.Encrypted = 29
part_number part.Note = 30
part_number part.TwolevelHints = 31
part_number part.GdbSymbols = 32
part_number part.Binds = 33
part_number part.Entry = 34
part_number part.Slice = 35
part_number part.AtomInfo = 36
part_number part.FunctionVariants = 37
part_number part.FunctionVariantFixups = 38

-- the part, the command and the number of the other owner; 0 if there is none
abbrev pub other_part : Option Owner → ℕ
other_part None = 0
other_part (Some o) = part_number o.part

abbrev pub other_command : Option Owner → ℕ
other_command None = 0
other_command (Some o) = o.command

abbrev pub other_index : Option Owner → ℕ
other_index None = 0
other_index (Some o) = o.index

-- A fault: its rule, the two numbers that show it, its owner, and the other owner, if two disagree.
abbrev pub layout_row : LayoutFault → gm_layout_fault
layout_row f =
    record {
      found = f.found;
      limit = f.limit;
      command = f.owner.command;
      index = f.owner.index;
      other_command = other_command f.other;
      other_index = other_index f.other;
      rule = rule_number f.rule;
      part = part_number f.owner.part;
      other_part = other_part f.other;
      reserved = 0;
    }

-- the file that begins with an image: the bytes from the image on
abbrev pub file_of : List ℕ → gm_image → List ℕ
file_of bytes image = drop image.offset bytes

-- the faults of the table of a fat file, of 32 or 64 bits; none if the bytes begin with neither magic
pub record HasTableFaults (bytes : List ℕ) (faults : List LayoutFault) : Type 0 where
  pub table : HasFatMagic bytes → AreContainerFaults arch_form_32 bytes faults
  pub table_64 : HasFat64Magic bytes → AreContainerFaults arch_form_64 bytes faults
  pub none : ¬ HasFatMagic bytes → ¬ HasFat64Magic bytes → faults ≡ []
