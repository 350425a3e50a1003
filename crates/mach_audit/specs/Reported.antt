-- The report of a list: those of its first items that can't be read, each with its place.
use Rattle.std.specs.Prelude.{◌≡◌, ◌<◌, ◌+◌, ◌-◌, ◌^◌, ◌++◌, ◌∷◌, ℕ, Bool, false, true, List, [], map, take, length, Option, Some, None, Result}
use Rattle.std.specs.Prelude.{min, nat_lt, option_map}
use Rattle.std.specs.List.{filter_map, sum_by}
use Rattle.std.specs.Result.{result_err}
use Rattle.mach_base.specs.Fault.{Fault, fault_of}
use Rattle.mach_base.specs.Items.{items_in_bounds}
use Rattle.mach_base.specs.declared.context.Ctx.{Ctx}
use Rattle.mach_parts.specs.declared.relocation.RelocationInfo.{RelocationInfo}
use Rattle.mach_parts.specs.declared.segment.section.Section.{Section}
use Rattle.mach_parts.specs.Segment.{SegmentView, sections_of}
use Rattle.mach_parts.specs.Symbols.{SymbolTable, table_in_bounds}
use Rattle.mach_dyld.specs.TrieRange.{TrieRange}
use Rattle.mach_dyld.specs.Trie as trie
use Rattle.goblin_mach.specs.Subjects.{symbols_in}
use Rattle.mach_audit.specs.Sound.{relocations_by, AreExportItems}
use Rattle.mach_audit.specs.declared.report.ItemFault.{ItemFault}
use Rattle.mach_audit.specs.declared.report.PartReport.{PartReport}
use Rattle.mach_audit.specs.declared.report.FaultPlace.{FaultPlace}
use Rattle.mach_audit.specs.declared.report.ItemList.{ItemList}
use Rattle.mach_audit.specs.declared.report.ItemList.TheVariants as lists
use Rattle.mach_audit.specs.declared.report.Records.{Records}
use Rattle.mach_audit.specs.declared.tally.Tally.{Tally}

-- the place of an item that can't be read, and its fault
abbrev pub FaultAt : Type 0
FaultAt = FaultPlace × Fault

-- a fault with its place
abbrev pub placed_fault : FaultPlace → Option Fault → Option FaultAt
placed_fault place fault = option_map (λ f. (place, f)) fault

abbrev pub item_place : ItemList → ℕ → FaultPlace
item_place list n = record { list = list; index = n }

-- the faults of items; none of an item that can be read
abbrev pub faults_of_items : {X : Type 0} → List (Result X Fault) → List (Option Fault)
faults_of_items items = map result_err items

-- faults of items of a list, the first of which has this number, with their places
abbrev pub placed_from : ItemList → ℕ → List (Option Fault) → List (Option FaultAt)
placed_from list n [] = []
placed_from list n (fault ∷ faults) = placed_fault (item_place list n) fault ∷ placed_from list (n + 1) faults

-- the faults of items of a list, the first of which has this number
abbrev pub faults_from : {X : Type 0} → ItemList → ℕ → List (Result X Fault) → List (Option FaultAt)
faults_from list n items = placed_from list n (faults_of_items items)

-- the faults of several lists, the first of which has this number
abbrev pub faults_each : {X : Type 0} → (ℕ → X → List (Option FaultAt)) → ℕ → List X → List (Option FaultAt)
faults_each part n [] = []
faults_each part n (x ∷ xs) = part n x ++ faults_each part (n + 1) xs

-- how many more items the whole list has than its first ones
abbrev pub more_than : {X : Type 0} → (first all : List X) → ℕ
more_than first all = length all - length first

-- the faults of the sections of all segments, of those that begin within the bytes
abbrev pub section_faults_reported : List SegmentView → List (Option FaultAt)
section_faults_reported segments = faults_each (λ n s. faults_from (lists.Sections n) 0 (items_in_bounds (sections_of s))) 0 segments

-- how many more sections the segments claim
abbrev pub sections_beyond : List SegmentView → ℕ
sections_beyond segments = sum_by (λ s. more_than (items_in_bounds (sections_of s)) (sections_of s)) segments

-- the relocations of a section that begin within the bytes
abbrev pub relocations_in_bounds : Ctx → List ℕ → Result (Section × List ℕ) Fault → List (Result RelocationInfo Fault)
relocations_in_bounds ctx bytes s = items_in_bounds (relocations_by ctx bytes s)

-- the faults of the relocations of a segment's sections
abbrev pub relocation_faults_by : {S : Type 0} → (S → List (Result RelocationInfo Fault)) → ℕ → List S → List (Option FaultAt)
relocation_faults_by relocations n sections = faults_each (λ k s. faults_from (lists.Relocations n k) 0 (relocations s)) 0 sections

-- the faults of the relocations of all segments, of those that begin within the bytes
abbrev pub relocation_faults : Ctx → List ℕ → List SegmentView → List (Option FaultAt)
relocation_faults ctx bytes segments = faults_each (λ n s. relocation_faults_by (relocations_in_bounds ctx bytes) n (sections_of s)) 0 segments

-- how many more relocations a section claims
abbrev pub relocations_past_of : Ctx → List ℕ → Result (Section × List ℕ) Fault → ℕ
relocations_past_of ctx bytes s = more_than (relocations_in_bounds ctx bytes s) (relocations_by ctx bytes s)

-- how many more the sections of all segments claim
abbrev pub relocations_past : Ctx → List ℕ → List SegmentView → ℕ
relocations_past ctx bytes segments = sum_by (λ s. sum_by (relocations_past_of ctx bytes) (sections_of s)) segments

-- the faults of the symbols of a table, if there is one, of those that begin within the bytes
abbrev pub symbols_unread : Option SymbolTable → List (Option FaultAt)
symbols_unread table = faults_from lists.Symbols 0 (symbols_in (option_map table_in_bounds table))

-- how many more symbols the table claims
abbrev pub symbols_beyond : Option SymbolTable → ℕ
symbols_beyond table = more_than (symbols_in (option_map table_in_bounds table)) (symbols_in table)

-- the faults among these items, in order
abbrev pub faults_of : List (Option FaultAt) → List FaultAt
faults_of items = filter_map (λ item. item) items

-- the place and the fault of a finding
abbrev pub fault_reported : ItemFault → FaultAt
fault_reported finding = (finding.place, fault_of finding.error)

-- A part reports the first ten of these faults, and their number.
pub record ReportsFirstFaults {A : Type 0} (faults : List FaultAt) (p : PartReport A) : Type 0 where
  pub reported : map fault_reported p.reported.items ≡ take 10 faults
  pub count : p.faults ≡ length faults

-- A part reports what can't be read among the first `limit` items, and whether there are more items than that.
pub record ReportsOf {A : Type 0} (limit : ℕ) (items : List (Option FaultAt)) (p : PartReport A) : Type 0 where
  pub faults : ReportsFirstFaults (faults_of (take limit items)) p
  pub cut : p.cut ≡ nat_lt limit (length items)

-- The report of records: what can't be read of those that begin within the bytes, and how many more are claimed, or the greatest
-- number if there are more than that.
pub record ReportsRecords {A : Type 0} (limit : ℕ) (items : List (Option FaultAt)) (more : ℕ) (r : Records A) : Type 0 where
  pub in_bounds : ReportsOf limit items r.in_bounds
  pub past : r.past ≡ min more (2 ^ 64 - 1)

-- A count has met these items, and visits at most `limit` of them.
pub record HasMet {A : Type 0} (limit : ℕ) (items : List (Option FaultAt)) (t : Tally A) : Type 0 where
  pub small : limit < 2 ^ 64
  pub left : t.left ≡ limit - length items
  pub reports : ReportsOf limit items t.part

-- A part reports the exports of a trie, those that were met before there were more than `limit`.
pub record ReportsOfTrie {A : Type 0} (limit : ℕ) (t : TrieRange) (libs : List (List ℕ)) (p : PartReport A) : Type 0 where
  pub items : List (Result trie.Entry Fault)
  pub met : AreExportItems limit t libs items
  pub reports : ReportsOf limit (faults_from lists.Exports 0 items) p

-- The report of the relocations. They are not read if the sections have a fault or too many items.
abbrev pub ReportsRelocations : {A : Type 0} → ℕ → (items : List (Option FaultAt)) → (more : ℕ) → (clean : Bool) → Option (Records A) → Type 0
ReportsRelocations limit items more clean None = clean ≡ false
ReportsRelocations limit items more clean (Some r) = (clean ≡ true) × ReportsRecords limit items more r
