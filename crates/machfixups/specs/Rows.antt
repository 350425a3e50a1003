-- The rows of the rebases, binds and weak binds of the opcodes and of the fixups of the chains.
use Rattle.std.specs.Prelude.{ℕ, ℤ, ◌+ℤ◌, List, [], map, ◌++◌, slice_get, Bool, true, false, not, ◌||◌, if◌then◌else◌}
use Rattle.std.specs.Prelude.{Option, Some, None, is_some, option_map, Result, Ok, Err}
use Rattle.mach_base.specs.Answer.{◌>>=◌}
use Rattle.mach_base.specs.Fault.{Fault, malformed}
use Rattle.mach_base.specs.declared.error.Error.{Error}
use Rattle.mach_parts.specs.Bindings.{Binding, provider_of}
use Rattle.mach_base.specs.Items.{read_as}
use Rattle.mach_chained.specs.Fixups.{Fixup}
use Rattle.mach_chained.specs.Header.{Fixups}
use Rattle.mach_chained.specs.Imports.{FixupImport, import_at}
use Rattle.mach_parts.specs.PointerSigning.{auth_option_view}
use Rattle.mach_chained.specs.Views.{fixups_view}
use Rattle.mach_chained.specs.declared.header.ChainedFixups.{ChainedFixups}
use Rattle.mach_chained.specs.Pointers.{KindOfFixup, rebase, bind, value}
use Rattle.mach_parts.specs.PointerSigning.{Auth}
use Rattle.mach_dyld.specs.Exports.{text_in}
use Rattle.mach_dyld.specs.Rebases.{Rebase}
use Rattle.mach_dyld.specs.WeakBinds.{WeakBind, strong_name, weakly_bound}
use Rattle.mach_dyld.specs.declared.rebases.RebaseKind.{RebaseKind}
use Rattle.mach_dyld.specs.declared.rebases.RebaseKind.TheVariants.{Pointer, TextAbsolute32, TextRelative32}
use Rattle.machfixups.specs.Lists.{PointerLists}
use Rattle.mach_cli.specs.Origins.{ordinal_of, origin_of, provider_name}
use Rattle.machfixups.specs.StoredPointers.{PointerSource, raw_of}
use Rattle.goblin_mach.specs.SymbolAtAddress.{SymbolBelow}
use Rattle.machfixups.specs.TargetSymbols.{target_symbol_option_view}
use Rattle.goblin_mach.specs.AllStretches.{SegmentStretches, part_with}
use Rattle.mach_cli.specs.SectionNames.{section_name_with, stretch_name}
use Rattle.machfixups.specs.KeptFixups.{kept_fixups, kinds_in_lines, kinds_in_objects}
use Rattle.machfixups.specs.declared.kept_fixups.KindsOfLists.{KindsOfLists}
use Rattle.machfixups.specs.declared.kept_fixups.ShownKinds.{ShownKinds}
use Rattle.machfixups.specs.declared.row.Action as declared_action
use Rattle.machfixups.specs.declared.row.Action.TheVariants as variants
use Rattle.machfixups.specs.declared.row.Bind as declared_bind
use Rattle.machfixups.specs.declared.row.Location as declared_place
use Rattle.machfixups.specs.declared.row.Row as declared
use Rattle.machfixups.specs.declared.row.Row.TheVariants as rows
use Rattle.machfixups.specs.declared.rows.Selection.{Selection}

-- an address, and the printed names of the segment and of the section that hold it, if they do
pub record PointerPlace : Type 0 where
  pub address : ℕ
  pub segment : Option (List ℕ)
  pub section : Option (List ℕ)

-- A symbol whose address a pointer takes. The ordinal is 0 for the image itself, above 0 for a library of the image's list, -1
-- for the main executable, -2 for any image (flat lookup), -3 for weak lookup.
pub record PointerBind : Type 0 where
  pub name : List ℕ
  pub ordinal : ℤ
  -- the short name of the image that it comes from, if there is one
  pub from : Option (List ℕ)
  pub addend : ℤ
  pub is_weak : Bool
  pub is_lazy : Bool
  pub auth : Option Auth

-- what is stored: a symbol's address, the address of the definition that all images share, an address that moves with the image
-- and perhaps the symbol there, or a number
pub data Action : Type 0 where
  binds : PointerBind → Action
  binds_weakly : PointerBind → Action
  rebases : (target : PointerPlace) → Option SymbolBelow → RebaseKind → Option Auth → Action
  is_value : ℕ → Action

-- a place and what is stored there, with the pointer of a chain that is shown; or the name of a strong definition of the image's own
pub data PointerRow : Type 0 where
  corrects : PointerPlace → Action → (raw : Option ℕ) → PointerRow
  is_strong : (name : List ℕ) → PointerRow

-- the place of an address in a segment, if there is one
abbrev pub place_in : Option SegmentStretches → ℕ → PointerPlace
place_in None address = record { address = address; segment = None; section = None }
place_in (Some p) address = record { address = address; segment = Some (stretch_name p.memory); section = section_name_with address p.sections }

-- the place of an address in the first segment that holds it, if one does
abbrev pub place_by_address : List SegmentStretches → ℕ → PointerPlace
place_by_address parts address = place_in (part_with address parts) address

-- the symbol at a target, if a section holds it
abbrev pub symbol_there : (symbols : ℕ → Option SymbolBelow) → (target : PointerPlace) → Option SymbolBelow
symbol_there symbols target = if is_some target.section then symbols target.address else None

-- the row of an address, in the first segment that holds it
abbrev pub row_by_address : List SegmentStretches → ℕ → Action → PointerRow
row_by_address parts address action = corrects (place_by_address parts address) action None

-- the row of an address, in the segment with a number
abbrev pub row_by_segment : List SegmentStretches → (segment address : ℕ) → Action → (raw : Option ℕ) → PointerRow
row_by_segment parts segment address action raw = corrects (place_in (slice_get parts segment) address) action raw

-- ---- rebases and binds of the opcodes

abbrev pub bind_of_binding : Binding → PointerBind
bind_of_binding b = record {
  name = b.name;
  ordinal = ordinal_of b.provider;
  from = provider_name b.provider;
  addend = b.addend;
  is_weak = b.is_weak;
  is_lazy = b.is_lazy;
  auth = None;
}

-- the row of a bind, in the first segment that holds its address
abbrev pub row_of_binding : List SegmentStretches → Binding → PointerRow
row_of_binding parts b = row_by_address parts b.address (binds (bind_of_binding b))

-- The place of the address that a rebase corrects. A number that is relative to its own address (`REBASE_TYPE_TEXT_PCREL32` of
-- `mach-o/loader.h`) has none.
abbrev pub target_by_kind : List SegmentStretches → RebaseKind → (target : ℕ) → PointerPlace
target_by_kind parts Pointer target = place_by_address parts target
target_by_kind parts TextAbsolute32 target = place_by_address parts target
target_by_kind parts TextRelative32 target = place_in None target

-- what a rebase stores: the address of a target, with the symbol there
abbrev pub rebases_to : (symbols : ℕ → Option SymbolBelow) → (target : PointerPlace) → RebaseKind → Option Auth → Action
rebases_to symbols target kind auth = rebases target (symbol_there symbols target) kind auth

-- the row of a rebase, in its segment
abbrev pub row_of_rebase : List SegmentStretches → (symbols : ℕ → Option SymbolBelow) → Rebase → PointerRow
row_of_rebase parts symbols r =
    row_by_segment parts r.segment r.address (rebases_to symbols (target_by_kind parts r.kind r.target) r.kind r.auth) None

-- the row of a strong name; or that of a weak bind, in the first segment that holds its address
abbrev pub row_of_weak : List SegmentStretches → WeakBind → PointerRow
row_of_weak parts (strong_name name) = is_strong name
row_of_weak parts (weakly_bound b) = row_by_address parts b.address (binds_weakly (bind_of_binding b))

-- ---- fixups of the chains

-- the import with a number, if there are chains and their table has it
abbrev pub import_in : Option Fixups → ℕ → Result FixupImport Fault
import_in None k = Err malformed
import_in (Some table) k = import_at table k

-- the bind of an import, by the image's libraries; its addend is the sum of the table's and the pointer's
abbrev pub bind_of_import : (libs : List (List ℕ)) → FixupImport → ℤ → Option Auth → PointerBind
bind_of_import libs i inline auth = record {
  name = i.name;
  ordinal = i.library;
  from = origin_of (provider_of libs i.library);
  addend = i.addend +ℤ inline;
  is_weak = i.is_weak;
  is_lazy = false;
  auth = auth;
}

abbrev pub action_of : List SegmentStretches → (symbols : ℕ → Option SymbolBelow) → (libs : List (List ℕ)) → Option Fixups → KindOfFixup → Option Auth
    → Result Action Fault
action_of parts symbols libs table (rebase target) auth = Ok (rebases_to symbols (place_by_address parts target) Pointer auth)
action_of parts symbols libs table (value number) auth = Ok (is_value number)
action_of parts symbols libs table (bind import inline) auth = import_in table import >>= (λ i. Ok (binds (bind_of_import libs i inline auth)))

-- the row of a fixup, in its segment
abbrev pub row_of_fixup : List SegmentStretches → (symbols : ℕ → Option SymbolBelow) → (libs : List (List ℕ)) → Option Fixups → Option PointerSource
    → Fixup → Result PointerRow Fault
row_of_fixup parts symbols libs table source f =
    action_of parts symbols libs table f.kind f.auth >>= (λ action. Ok (row_by_segment parts f.segment f.address action (raw_of source table f)))

-- ---- all rows

abbrev pub row_for_rebase : List SegmentStretches → (symbols : ℕ → Option SymbolBelow) → Result Rebase Fault → Result PointerRow Fault
row_for_rebase parts symbols item = item >>= (λ r. Ok (row_of_rebase parts symbols r))

abbrev pub row_for_weak : List SegmentStretches → Result WeakBind Fault → Result PointerRow Fault
row_for_weak parts item = item >>= (λ w. Ok (row_of_weak parts w))

abbrev pub row_for_binding : List SegmentStretches → Result Binding Fault → Result PointerRow Fault
row_for_binding parts item = item >>= (λ b. Ok (row_of_binding parts b))

abbrev pub row_for_fixup : List SegmentStretches → (symbols : ℕ → Option SymbolBelow) → (libs : List (List ℕ)) → Option Fixups → Option PointerSource
    → Result Fixup Fault → Result PointerRow Fault
row_for_fixup parts symbols libs table source item = item >>= row_of_fixup parts symbols libs table source

-- the chained fixups, if they can be read
abbrev pub readable_table : Result (Option Fixups) Fault → Option Fixups
readable_table (Ok table) = table
readable_table (Err f) = None

-- the lists that are shown: all if none is selected
abbrev pub none_selected : Selection → Bool
none_selected p = not (p.rebases || p.binds || p.weak || p.chains)

abbrev pub shown_picks : Selection → Selection
shown_picks p = record {
  rebases = p.rebases || none_selected p;
  binds = p.binds || none_selected p;
  weak = p.weak || none_selected p;
  chains = p.chains || none_selected p;
}

-- the rows of a list, if it is shown
abbrev pub picked : Bool → List (Result PointerRow Fault) → List (Result PointerRow Fault)
picked is_shown rows = if is_shown then rows else []

-- the rows of each list of an image, or their faults, in order
pub record PointerRows : Type 0 where
  pub rebases : List (Result PointerRow Fault)
  pub binds : List (Result PointerRow Fault)
  pub weak : List (Result PointerRow Fault)
  pub chains : List (Result PointerRow Fault)

-- a row, or its fault, for each fixup of the chains that is shown
abbrev pub chain_rows : List SegmentStretches → (symbols : ℕ → Option SymbolBelow) → (libs : List (List ℕ)) → Option Fixups → Option PointerSource
    → ShownKinds → List (Result Fixup Fault) → List (Result PointerRow Fault)
chain_rows parts symbols libs table source kinds fixups = map (row_for_fixup parts symbols libs table source) (kept_fixups kinds fixups)

-- what the pointers of chains are read from, if they are shown
abbrev pub source_if : Bool → PointerSource → Option PointerSource
source_if has_raw source = if has_raw then Some source else None

-- A row, or its fault, for each rebase of the opcodes, each of their binds, and each weak bind, of the lists that are shown; and for
-- each fixup of the chains that a list has, after those of the opcodes, perhaps with its pointer.
abbrev pub rows_shown : (has_raw : Bool) → (shown : Selection) → KindsOfLists → List SegmentStretches → (symbols : ℕ → Option SymbolBelow)
    → (libs : List (List ℕ)) → Option Fixups → PointerLists → PointerRows
rows_shown has_raw shown kinds parts symbols libs table lists = let source = source_if has_raw lists.source in record {
  rebases = picked shown.rebases (map (row_for_rebase parts symbols) lists.rebases)
      ++ chain_rows parts symbols libs table source kinds.rebases lists.fixups;
  binds = picked shown.binds (map (row_for_binding parts) lists.bindings) ++ chain_rows parts symbols libs table source kinds.binds lists.fixups;
  weak = picked shown.weak (map (row_for_weak parts) lists.weak_binds);
  chains = chain_rows parts symbols libs table source kinds.chains lists.fixups;
}

-- the rows that have lines, by what is selected; the pointers of chains are shown if the chains are
abbrev pub line_rows : Selection → List SegmentStretches → (symbols : ℕ → Option SymbolBelow) → (libs : List (List ℕ)) → Option Fixups → PointerLists
    → PointerRows
line_rows p parts symbols libs table lists = rows_shown p.chains (shown_picks p) (kinds_in_lines (shown_picks p)) parts symbols libs table lists

-- the rows that have objects, by what is selected; the pointers of chains are shown
abbrev pub object_rows : Selection → List SegmentStretches → (symbols : ℕ → Option SymbolBelow) → (libs : List (List ℕ)) → Option Fixups → PointerLists
    → PointerRows
object_rows p parts symbols libs table lists = rows_shown true (shown_picks p) (kinds_in_objects (shown_picks p)) parts symbols libs table lists

-- one list after the other
abbrev pub rows_in_order : PointerRows → List (Result PointerRow Fault)
rows_in_order rows = rows.rebases ++ (rows.binds ++ (rows.weak ++ rows.chains))

-- ---- what the code's values mean

abbrev pub fixups_table_view : Option ChainedFixups → Option Fixups
fixups_table_view table = option_map fixups_view table

abbrev pub place_view : declared_place.Location → PointerPlace
place_view p = record { address = p.address; segment = text_in p.segment; section = text_in p.section }

abbrev pub bind_view : declared_bind.Bind → PointerBind
bind_view b = record {
  name = b.name.now;
  ordinal = b.ordinal;
  from = text_in b.from;
  addend = b.addend;
  is_weak = b.is_weak;
  is_lazy = b.is_lazy;
  auth = auth_option_view b.auth;
}

abbrev pub action_view : declared_action.Action → Action
action_view (variants.Bind b) = binds (bind_view b)
action_view (variants.Weak b) = binds_weakly (bind_view b)
action_view (variants.Rebase target symbol kind auth) = rebases (place_view target) (target_symbol_option_view symbol) kind (auth_option_view auth)
action_view (variants.Value number) = is_value number

abbrev pub row_view : declared.Row → PointerRow
row_view (rows.At place action raw) = corrects (place_view place) (action_view action) raw
row_view (rows.Strong name) = is_strong name.now

-- the row of an answer
abbrev pub row_read : Result declared.Row Error → Result PointerRow Fault
row_read answer = read_as row_view answer
