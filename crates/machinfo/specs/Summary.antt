-- The summary of an image before its counts, but for its signature and its state.
use Rattle.std.specs.Prelude.{◌≡◌, ◌==◌, ◌&&◌, ◌^◌, ℕ, List, [], ◌++◌, codes, bit_and, Bool, Option, Some, None}
use Rattle.std.specs.Prelude.{Result, if◌then◌else◌}
use Rattle.std.specs.Io.KnownBytes.{Appends}
use Rattle.std.specs.List.{flat_map, range_with_len}
use Rattle.mach_base.specs.Fault.{Fault}
use Rattle.goblin_mach.specs.Fixups.{base_of}
use Rattle.goblin_mach.specs.ImageFacts.{Facts}
use Rattle.mach_parts.specs.Cpu.{kind_of_cpu}
use Rattle.mach_parts.specs.HeaderNames.{flag_name}
use Rattle.mach_cli.specs.ImageKinds.{image_kind}
use Rattle.mach_parts.specs.declared.header.Header.{Header}
use Rattle.mach_records.specs.CpuNames.{arch_rows, cpu_named}
use Rattle.mach_cli.specs.Escapes.{escaped_text}
use Rattle.mach_cli.specs.Listings.{hex_text, AreFirstLines}
use Rattle.mach_audit.specs.FactRows.{FactView, command_facts, library_facts, path_facts, tool_facts}
use Rattle.machinfo.specs.FactTexts.{fact_texts}
use Rattle.mach_audit.specs.declared.command_facts.Question.TheVariants.{Platform, Uuid}
use Rattle.machinfo.specs.HeaderWords.{flag_short_name}

-- ---- the header

abbrev pub cpu_in_words : Option (List ℕ) → (cputype cpusubtype : ℕ) → List ℕ
cpu_in_words None cputype cpusubtype = codes "cpu: cputype " ++ (hex_text cputype ++ (codes ", cpusubtype " ++ (hex_text cpusubtype ++ codes "\n")))
cpu_in_words (Some name) cputype cpusubtype = codes "cpu: " ++ (name ++ codes "\n")

abbrev pub cpu_line : (cputype cpusubtype : ℕ) → List ℕ
cpu_line cputype cpusubtype = cpu_in_words (cpu_named arch_rows cputype (kind_of_cpu cpusubtype)) cputype cpusubtype

-- the kind of the file, and the cpu
abbrev pub kind_lines : Header → List ℕ
kind_lines h = (codes "kind: " ++ (image_kind h.filetype ++ codes "\n")) ++ cpu_line h.cputype h.cpusubtype

-- the name as a library, if the image has one
abbrev pub own_name_line : Option (List ℕ) → List ℕ
own_name_line None = []
own_name_line (Some name) = codes "name: " ++ (escaped_text name ++ codes "\n")

-- the name of a bit, or its number if it has none
abbrev pub flag_text : ℕ → Option (List ℕ) → List ℕ
flag_text flag None = hex_text flag
flag_text flag (Some name) = name

-- the same, nothing if the bit is not set
abbrev pub flag_word : ℕ → List ℕ
flag_word flag = if flag == 0 then [] else codes " " ++ flag_text flag (flag_short_name (flag_name flag))

abbrev pub flags_line : ℕ → List ℕ
flags_line flags = codes "flags:" ++ (flat_map (λ bit. flag_word (bit_and flags (2 ^ bit))) (range_with_len 0 32) ++ codes "\n")

-- the address of the first byte
abbrev pub base_line : (base : ℕ) → List ℕ
base_line base = codes "base: " ++ (hex_text base ++ codes "\n")

-- ---- lists

-- The text is a line for each of these rows in order, up to the limit, and a line if there are more. It is whole if there are no
-- more, and all can be read; `refused` is before the reason why one can't be.
pub record AreFactLines (refused : List ℕ) (limit : ℕ) (rows : List (Result FactView Fault)) (text : List ℕ) (whole : Bool) : Type 0 where
  pub rest : ℕ
  pub lines : AreFirstLines refused limit limit (fact_texts rows) [] 0 text whole rest

-- the first lines of the summary: the kind of the file and the cpu, the name as a library, the UUIDs, the platforms, the tools, the
-- flags of the header, and the address of the first byte
pub record AreFrontLines (limit : ℕ) (f : Facts) (text : List ℕ) (whole : Bool) : Type 0 where
  pub uuids : List ℕ
  pub uuids_whole : Bool
  pub are_uuids : AreFactLines (codes "uuid") limit (command_facts Uuid f) uuids uuids_whole
  pub platforms : List ℕ
  pub platforms_whole : Bool
  pub are_platforms : AreFactLines (codes "platform") limit (command_facts Platform f) platforms platforms_whole
  pub tools : List ℕ
  pub tools_whole : Bool
  pub are_tools : AreFactLines (codes "tool: refused") limit (tool_facts f) tools tools_whole
  pub is_text : text ≡ kind_lines f.header
      ++ (own_name_line f.name ++ (uuids ++ (platforms ++ (tools ++ (flags_line f.header.flags ++ base_line (base_of f.segments))))))
  pub is_whole : whole ≡ ((uuids_whole && platforms_whole) && tools_whole)

-- the lines of the libraries and of the run paths
pub record AreUsedLines (limit : ℕ) (f : Facts) (text : List ℕ) (whole : Bool) : Type 0 where
  pub libraries : List ℕ
  pub libraries_whole : Bool
  pub are_libraries : AreFactLines (codes "library") limit (library_facts f) libraries libraries_whole
  pub paths : List ℕ
  pub paths_whole : Bool
  pub are_paths : AreFactLines (codes "run path") limit (path_facts f) paths paths_whole
  pub is_text : text ≡ libraries ++ paths
  pub is_whole : whole ≡ (libraries_whole && paths_whole)

-- Some text was written.
pub record WritesSome (old new : Option (List ℕ)) : Type 0 where
  pub text : List ℕ
  pub written : Appends old new text
