-- The rows of the summary's lists as they are printed.
use Rattle.std.specs.Prelude.{◌==◌, ℕ, List, [], ◌++◌, codes, map, Result}
use Rattle.std.specs.Prelude.{if◌then◌else◌}
use Rattle.std.specs.Fmt.{decimal}
use Rattle.mach_base.specs.Fault.{Fault}
use Rattle.mach_records.specs.declared.versions.BuildToolVersion.{BuildToolVersion}
use Rattle.goblin_mach.specs.Libraries.{LibraryView}
use Rattle.mach_cli.specs.Escapes.{escaped_text}
use Rattle.mach_cli.specs.Fields.{FieldView, fields_line, fields_object}
use Rattle.mach_cli.specs.JsonText.{json_string}
use Rattle.mach_cli.specs.Listings.{reported_by}
use Rattle.mach_records.specs.Values.{uuid_text, version_text}
use Rattle.mach_audit.specs.FactRows.{FactView, uuid_fact, platform_fact, tool_fact, library_fact, path_fact, fact_view, fact_rows_left}
use Rattle.machinfo.specs.Platforms.{platform_word}
use Rattle.machinfo.specs.Tools.{tool_text}
use Rattle.machinfo.specs.RowFields.{library_fields}
use Rattle.mach_audit.specs.declared.command_facts.PlatformFact.{PlatformFact}
use Rattle.mach_audit.specs.declared.fact.Fact.{Fact}
use Rattle.machinfo.specs.declared.fact.FactLines.{FactLines}
use Rattle.machinfo.specs.declared.fact.FactObjects.{FactObjects}

-- the version of the SDK, if it is given
abbrev pub sdk_text : ℕ → List ℕ
sdk_text sdk = if sdk == 0 then [] else codes ", sdk " ++ version_text sdk

abbrev pub platform_text : PlatformFact → List ℕ
platform_text p = codes "platform: " ++ platform_word p.platform ++ codes " " ++ version_text p.least ++ sdk_text p.sdk

-- the version of a library, and the oldest one that the image accepts
abbrev pub versions_text : (current least : ℕ) → List ℕ
versions_text current least = codes " " ++ (version_text current ++ (codes ", at least " ++ version_text least))

-- the fields of a library in a form, and its versions
abbrev pub library_fact_text : (form : List FieldView → List ℕ) → LibraryView → List ℕ
library_fact_text form l = codes "library: " ++ (form (library_fields l) ++ versions_text l.current_version l.compatibility_version)

abbrev pub fact_text : FactView → List ℕ
fact_text (uuid_fact uuid) = codes "uuid: " ++ uuid_text uuid
fact_text (platform_fact platform) = platform_text platform
fact_text (tool_fact tool) = codes "tool: " ++ tool_text tool.tool ++ codes " " ++ version_text tool.version
fact_text (library_fact library) = library_fact_text fields_line library
fact_text (path_fact path) = codes "run path: " ++ escaped_text path

-- the lines of rows; a fault stays in its place
abbrev pub fact_texts : List (Result FactView Fault) → List (Result (List ℕ) Fault)
fact_texts found = map (reported_by fact_text) found

-- ---- as objects

abbrev pub sdk_object : ℕ → List ℕ
sdk_object sdk = if sdk == 0 then codes "null" else codes "\"" ++ (version_text sdk ++ codes "\"")

abbrev pub platform_object : PlatformFact → List ℕ
platform_object p =
    codes "{\"name\":\""
    ++ (platform_word p.platform
    ++ (codes "\",\"sdk\":" ++ (sdk_object p.sdk ++ (codes ",\"version\":\"" ++ (version_text p.least ++ codes "\"}")))))

abbrev pub tool_object : BuildToolVersion → List ℕ
tool_object t = codes "{\"tool\":" ++ (decimal t.tool ++ (codes ",\"version\":\"" ++ (version_text t.version ++ codes "\"}")))

abbrev pub fact_object : FactView → List ℕ
fact_object (uuid_fact uuid) = codes "\"" ++ (uuid_text uuid ++ codes "\"")
fact_object (platform_fact platform) = platform_object platform
fact_object (tool_fact tool) = tool_object tool
fact_object (library_fact library) = fields_object (library_fields library)
fact_object (path_fact path) = json_string path

-- the objects of rows; a fault stays in its place
abbrev pub fact_objects : List (Result FactView Fault) → List (Result (List ℕ) Fault)
fact_objects found = map (reported_by fact_object) found

-- ---- what the code's values mean

abbrev pub fact_shown : Fact → List ℕ
fact_shown fact = fact_text (fact_view fact)

abbrev pub fact_lines_left : FactLines → List (Result (List ℕ) Fault)
fact_lines_left it = fact_texts (fact_rows_left it.0)

abbrev pub fact_object_shown : Fact → List ℕ
fact_object_shown fact = fact_object (fact_view fact)

abbrev pub fact_objects_left : FactObjects → List (Result (List ℕ) Fault)
fact_objects_left it = fact_objects (fact_rows_left it.0)
