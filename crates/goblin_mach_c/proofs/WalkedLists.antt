-- What a walk over an image's exports has returned is a prefix of the image's list.
use Rattle.std.proofs.Common.{◌≡◌, ◌++◌, [], ℕ, zero, suc, List, Option, Some, None, refl, sym, ap, subst, ◌∙◌, arith}
use Rattle.mach_dyld.specs.Lists.{ListBegins, Lists, nothing}
use Rattle.mach_dyld.specs.Trie.{Entry}
use Rattle.mach_dyld.specs.TrieRange.{TrieRange, trie_there}
use Rattle.mach_dyld.specs.declared.trie.walk.Open.{Open}
use Rattle.mach_dyld.proofs.CursorTries.{begins_there}
use Rattle.mach_dyld.proofs.TrieBegins.{prefix_of}
use Rattle.mach_dyld.proofs.Unfoldings.{met_begins}
use Rattle.goblin_mach.specs.Facts.{HasExports}
use Rattle.goblin_mach.specs.Subjects.{ListsImageExports, libs_in, trie_in, trie_or_empty}
use Rattle.goblin_mach.proofs.ImageFacts.{one_image}
use Rattle.goblin_mach_c.specs.ExportWalk.{HasWalked, HasWalkedTrie}
use Rattle.goblin_mach_c.specs.declared.exports.gm_export_walk.{gm_export_walk}

-- what a list has after a prefix
abbrev Begins : List Entry → List Entry → Type 0
Begins found list = (rest : List Entry) × (list ≡ found ++ rest)

-- the list of the trie, also if there is none
listed : (t : Option TrieRange) (libs : List (List ℕ)) (list : List Entry) → ListsImageExports t libs list
    → Lists (trie_there (trie_or_empty t) libs) (trie_or_empty t).from [] list
listed None libs list l = subst (λ (es : List Entry). Lists (trie_there (trie_or_empty None) libs) 0 [] es) (sym l) (nothing (omega arith))
listed (Some t) libs list l = l.1

module _ (t : Option TrieRange) (libs : List (List ℕ)) (w : gm_export_walk) (name : List ℕ) (stack : List Open) (found list : List Entry)
    (h : HasWalkedTrie (trie_or_empty t) libs w name stack found) (l : ListsImageExports t libs list) where
  abbrev r : TrieRange
  r = trie_or_empty t

  started_list : ListBegins (trie_there r libs) r.from [] found → Begins found list
  started_list started = prefix_of (trie_there r libs) r.from [] found list started (listed t libs list l)

  walk_begins_list : (n code : ℕ) → w.is_begun ≡ n → w.code ≡ code → Begins found list
  walk_begins_list zero code is bears = (list, ap (λ (es : List Entry). es ++ list) (sym (h.start is)))
  walk_begins_list (suc n) zero is bears =
      started_list (begins_there (h.started (λ wrong. absurd (let two = sym is ∙ wrong in omega (arith, two))) bears))
  walk_begins_list (suc n) (suc m) is bears =
      let cut = h.refused (λ wrong. absurd (let two = sym bears ∙ wrong in omega (arith, two))) in started_list (met_begins cut.1.cut.read)

pub given_begins_list : (bytes : List ℕ) (o : ℕ) (w : gm_export_walk) (name : List ℕ) (stack : List Open) (found list : List Entry)
    → HasWalked bytes o w name stack found → HasExports bytes o list → (rest : List Entry) × (list ≡ found ++ rest)
given_begins_list bytes o w name stack found list walked exports =
    walk_begins_list (trie_in bytes walked.cs) (libs_in bytes walked.cs) w name stack found list walked.holds
    (one_image bytes o (λ ctx cs. ListsImageExports (trie_in bytes cs) (libs_in bytes cs) list) walked.ctx walked.cs walked.opens exports) w.is_begun
    w.code refl refl
