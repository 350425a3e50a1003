-- The rows of an image's exports.
use Rattle.std.specs.Prelude.{◌≡◌, ◌<◌, ℕ, List, [], ◌∷◌, ◌++◌, codes, length, map, Bool, Option, Result, Ok, Err}
use Rattle.mach_base.specs.Answer.{◌>>=◌}
use Rattle.mach_base.specs.Fault.{Fault, no_memory}
use Rattle.mach_base.specs.declared.error.Error.{Error}
use Rattle.mach_dyld.specs.Trie.{Entry}
use Rattle.mach_dyld.specs.TrieRange.{ExportsEnd, ExportsFault, ListsExports, TrieRange, trie_there}
use Rattle.mach_dyld.specs.Unfolds.{Ahead, AreReadOnce, Unfolds}
use Rattle.goblin_mach.specs.Fixups.{base_of}
use Rattle.goblin_mach.specs.ImageFacts.{OfFacts}
use Rattle.goblin_mach.specs.Subjects.{trie_or_empty}
use Rattle.mach_cli.specs.Fields.{FieldView, fields_line, fields_object}
use Rattle.mach_cli.specs.JsonArrays.{WritesObjects, comma_before, row_object}
use Rattle.mach_cli.specs.Listings.{WritesRows, reported_by, reported_line}
use Rattle.mach_cli.specs.declared.listing.ListProgress.{ListProgress}
use Rattle.machinfo.specs.Exports.{export_fields}
use Rattle.machinfo.specs.declared.export_rows.ExportForm.{ExportForm}
use Rattle.machinfo.specs.declared.export_rows.ExportForm.TheVariants.{Lines, Objects}

-- A walk of the trie in a range meets these exports first, through nodes that are all different.
pub record IsWalkedTo (t : TrieRange) (libs : List (List ℕ)) (found : List Entry) : Type 0 where
  pub nodes : ℕ
  pub left : List Ahead
  pub read : Unfolds (trie_there t libs) t.from nodes found left
  pub once : AreReadOnce (trie_there t libs) t.from nodes

-- The exports of a trie that are shown, up to more than `limit`: all of them; or those before the fault at which its walk ends, and
-- that fault; or those that a walk meets before memory runs out, and that it does; or more than `limit` that a walk meets first.
pub data AreShownExports (limit : ℕ) (t : TrieRange) (libs : List (List ℕ)) : List (Result Entry Fault) → Type 0 where
  whole_list : (list : List Entry) → ListsExports t libs list → AreShownExports limit t libs (map Ok list)
  up_to_fault : (found : List Entry) (f : Fault) → ExportsEnd t libs found f → ExportsFault t libs f
      → AreShownExports limit t libs (map Ok found ++ Err f ∷ [])
  up_to_memory : (found : List Entry) → IsWalkedTo t libs found → AreShownExports limit t libs (map Ok found ++ Err no_memory ∷ [])
  beyond_limit : (found : List Entry) → IsWalkedTo t libs found → limit < length found → AreShownExports limit t libs (map Ok found)

-- the fields of items, of an image whose first byte has this address; a fault stays in its place
abbrev pub fields_of_exports : (base : ℕ) → List (Result Entry Fault) → List (Result (List FieldView) Fault)
fields_of_exports base items = map (λ item. item >>= (λ e. Ok (export_fields base e.name e.info))) items

-- These are the fields of the exports that are shown of the image at the start of the bytes, up to more than `limit`, in order.
abbrev pub HasExportFields : (limit : ℕ) → List ℕ → List (Result (List FieldView) Fault) → Type 0
HasExportFields limit bytes fields = OfFacts bytes 0 (λ f. (items : List (Result Entry Fault)) × AreShownExports limit (trie_or_empty f.trie) f.libs items
    × (fields ≡ fields_of_exports (base_of f.segments) items))

-- ---- how they are written

-- the text of an export with these fields
abbrev pub export_text : ExportForm → List FieldView → List ℕ
export_text Lines = fields_line
export_text Objects = fields_object

-- the row of an export with this text, or of why there is none: a line, or an object after a comma, unless it is the first
abbrev pub export_row_text : ExportForm → (is_first : Bool) → Result (List ℕ) Error → List ℕ
export_row_text Lines is_first answer = reported_line (codes "refused") answer
export_row_text Objects is_first answer = comma_before is_first ++ row_object answer

-- the texts of exports
abbrev pub export_rows : ExportForm → (base : ℕ) → List (Result Entry Fault) → List (Result (List ℕ) Fault)
export_rows form base items = map (reported_by (export_text form)) (fields_of_exports base items)

-- The rows of the first exports were written, no more than `limit`; `t` is the state after them.
abbrev pub WritesExportRows : ExportForm → (base limit : ℕ) → List (Result Entry Fault) → (old new : Option (List ℕ)) → ListProgress → Type 0
WritesExportRows Lines base limit items old new t = WritesRows (codes "refused") limit (export_rows Lines base items) old new t
WritesExportRows Objects base limit items old new t = WritesObjects limit (export_rows Objects base items) old new t
