-- What a walk of the trie of an image reports: the trie of no bytes has no exports and no fault.
use Rattle.std.proofs.Common.{◌≡◌, ℕ, List, [], Option, Some, None, refl, arith}
use Rattle.mach_base.specs.Fault.{Fault}
use Rattle.mach_dyld.specs.Trie.{Entry}
use Rattle.mach_dyld.specs.Lists.{Lists, nothing, a_node}
use Rattle.mach_dyld.specs.TrieFault.{TrieFault, at_node, met_again}
use Rattle.mach_dyld.specs.TrieRange.{TrieRange, empty_range, trie_there, ListsExports, ExportsFault, ExportsEnd}
use Rattle.mach_base.specs.Text.{texts}
use Rattle.goblin_mach.specs.Facts.{HasExports, HasExportsFault, HasExportsEnd}
use Rattle.goblin_mach.specs.Modes.{InBothModes}
use Rattle.goblin_mach.specs.OpenImage.{trie_view}
use Rattle.goblin_mach.specs.Subjects.{ListsImageExports, ImageExportsFault, trie_or_empty}
use Rattle.goblin_mach.specs.declared.macho.MachO.{MachO}
use Rattle.goblin_mach.proofs.ImageFacts.{both_modes, exports_are, exports_fail, facts_are}

empty_list : (libs : List (List ℕ)) (list : List Entry) → Lists (trie_there empty_range libs) 0 [] list → list ≡ []
empty_list libs _ (nothing past) = refl
empty_list libs list (a_node node is below eq) = absurd (omega (arith, is.0))

empty_fault : (libs : List (List ℕ)) (f : Fault) → TrieFault (trie_there empty_range libs) 0 f → ⊥
empty_fault libs _ (at_node f path at leads inside e) = omega (arith, inside)
empty_fault libs _ (met_again path other at leads also inside two) = omega (arith, inside)

pub walked_list : (t : Option TrieRange) (libs : List (List ℕ)) (list : List Entry) → ListsExports (trie_or_empty t) libs list → ListsImageExports t libs list
walked_list None libs list l = empty_list libs list l.1
walked_list (Some t) libs list l = l

pub walked_fault : (t : Option TrieRange) (libs : List (List ℕ)) (f : Fault) → ExportsFault (trie_or_empty t) libs f → ImageExportsFault t libs f
walked_fault None libs f s = empty_fault libs f s
walked_fault (Some t) libs f s = s

-- the same of the bytes
pub walked_exports : {A : Type 0} (m : MachO A)
    → InBothModes m (λ bytes o. (list : List Entry) → ListsExports (trie_or_empty (trie_view m)) (texts m.libs.items) list → HasExports bytes o list)
walked_exports m =
    both_modes m _ (λ bytes o p list l. ((exports_are m).lossy bytes o p list).1 (walked_list (trie_view m) (texts m.libs.items) list l))

pub walked_to_fault : {A : Type 0} (m : MachO A)
    → InBothModes m (λ bytes o. (f : Fault) → ExportsFault (trie_or_empty (trie_view m)) (texts m.libs.items) f → HasExportsFault bytes o f)
walked_to_fault m =
    both_modes m _ (λ bytes o p f s. ((exports_fail m).lossy bytes o p f).1 (walked_fault (trie_view m) (texts m.libs.items) f s))

pub walked_to_end : {A : Type 0} (m : MachO A)
    → InBothModes m (λ bytes o. (found : List Entry) (f : Fault) → ExportsEnd (trie_or_empty (trie_view m)) (texts m.libs.items) found f
    → HasExportsEnd bytes o found f)
walked_to_end m = both_modes m _ (λ bytes o p found f s. (facts_are bytes o m p (λ q. ExportsEnd (trie_or_empty q.trie) q.libs found f)).1 s)
