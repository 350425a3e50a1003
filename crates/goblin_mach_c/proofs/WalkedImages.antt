-- Walks over an image's exports, from its bytes and from the opened image.
use Rattle.std.proofs.Common.{◌≡◌, ◌++◌, [], ℕ, List, Option, Ok, inl, inr, refl, sym, ap, subst, arith}
use Rattle.std.proofs.lemmas.List.{append-nil}
use Rattle.std.specs.declared.alloc.Global.{Global}
use Rattle.mach_base.specs.Text.{text_at}
use Rattle.mach_base.specs.Text.{texts}
use Rattle.mach_base.specs.Fault.{malformed}
use Rattle.mach_dyld.specs.Cursors.{AreAllMet, place_at}
use Rattle.mach_dyld.specs.Trie.{Entry}
use Rattle.mach_dyld.specs.TrieRange.{TrieRange}
use Rattle.mach_dyld.specs.declared.trie.walk.Open.{Open}
use Rattle.goblin_mach.specs.Image.{LossyOpens}
use Rattle.goblin_mach.specs.OpenImage.{IsLossyImage, commands_view, trie_view}
use Rattle.goblin_mach.specs.Subjects.{trie_or_empty}
use Rattle.goblin_mach.specs.declared.macho.MachO.{MachO}
use Rattle.goblin_mach.proofs.ImageFacts.{exports_are, exports_fail, facts_are, libraries_are}
use Rattle.goblin_mach.proofs.Walked.{walked_fault, walked_list}
use Rattle.goblin_mach_c.specs.ExportWalk.{AreWritten, EndsWholeWith, GoesAlong, GivesFurther, HasLibrary, HasNextName, HasNodeOf, HasWalked, HasWalkedTrie}
use Rattle.goblin_mach_c.specs.ExportWalk.{IsNextName, IsNodeOf, IsNumbered, no_batch}
use Rattle.goblin_mach_c.proofs.ListedExports.{written_there}
use Rattle.goblin_mach_c.proofs.TrieBytes.{place_there, text_there}
use Rattle.goblin_mach_c.specs.declared.exports.gm_export_batch.{gm_export_batch}
use Rattle.goblin_mach_c.specs.declared.exports.gm_export_walk.{gm_export_walk}
use Rattle.goblin_mach_c.specs.declared.exports.gm_listed_export.{gm_listed_export}

-- ---- a call that returns nothing

pub none_written : (bytes : List ℕ) (base o : ℕ) (w : gm_export_walk) (name : List ℕ) (stack : List Open) (b : gm_export_batch) (out : List gm_listed_export)
    (text : List ℕ) → b ≡ no_batch
    → AreWritten bytes base (HasLibrary bytes o) (HasNodeOf bytes o w name stack) [] b.count b.names_len out out text text
none_written bytes base o w name stack b out text is = rw is (record { is_count = refl; is_used = refl; listed = []; are = tt; rows = refl; names = refl })

pub stays : (bytes : List ℕ) (o : ℕ) (w : gm_export_walk) (name : List ℕ) (stack : List Open) → GivesFurther bytes o w name stack [] w name stack
stays bytes o w name stack found h = subst (HasWalked bytes o w name stack) (sym (append-nil found)) h

pub no_end : (b : gm_export_batch) → b ≡ no_batch → b.end ≡ 1 → ⊥
no_end b is end = let five = ap (λ (x : gm_export_batch). x.end) is in omega (arith, five, end)

-- a walk of zeros
pub zeros : (bytes : List ℕ) (o : ℕ) (w : gm_export_walk) (name : List ℕ) (stack : List Open) → LossyOpens bytes o → w.is_begun ≡ 0 → w.code ≡ 0
    → HasWalked bytes o w name stack []
zeros bytes o w name stack opens start code = record {
  ctx = opens.0;
  cs = opens.1;
  opens = opens.2;
  holds = record { start = λ _. refl; started = λ wrong _. absurd (wrong start); refused = λ wrong. absurd (wrong code) };
}

-- ---- an opened image

module _ (bytes : List ℕ) (o : ℕ) (m : MachO Global) (p : IsLossyImage bytes o m) where
  -- the trie that it holds
  abbrev trie : TrieRange
  trie = trie_or_empty (trie_view m)

  abbrev libs : List (List ℕ)
  libs = texts m.libs.items

  held : (w : gm_export_walk) (name : List ℕ) (stack : List Open) (found : List Entry) → HasWalked bytes o w name stack found
      → HasWalkedTrie trie libs w name stack found
  held w name stack found = (facts_are bytes o m p (λ f. HasWalkedTrie (trie_or_empty f.trie) f.libs w name stack found)).0

  there : (w : gm_export_walk) (name : List ℕ) (stack : List Open) (found : List Entry) → HasWalkedTrie trie libs w name stack found
      → HasWalked bytes o w name stack found
  there w name stack found = (facts_are bytes o m p (λ f. HasWalkedTrie (trie_or_empty f.trie) f.libs w name stack found)).1

  -- its rows
  pub rows_there : (base : ℕ) (w : gm_export_walk) (name : List ℕ) (stack : List Open) (given : List Entry) (count used : ℕ) (old new : List gm_listed_export)
      (names names' : List ℕ)
      → AreWritten trie.bytes base (IsNumbered libs) (IsNodeOf trie libs (HasWalkedTrie trie libs w name stack)) given count used old new names names'
      → AreWritten bytes base (HasLibrary bytes o) (HasNodeOf bytes o w name stack) given count used old new names names'
  rows_there base w name stack given count used old new names names' =
      written_there trie.bytes bytes base (IsNumbered libs) (HasLibrary bytes o) (IsNodeOf trie libs (HasWalkedTrie trie libs w name stack))
      (HasNodeOf bytes o w name stack)
      (λ place text e. text_there bytes (commands_view m) place text
      (subst (λ (t : Option TrieRange). text_at (trie_or_empty t).bytes place ≡ Ok text) p.fields.trie e))
      (λ node found e. place_there bytes (commands_view m) node found
      (subst (λ (t : Option TrieRange). place_at (trie_or_empty t).bytes node ≡ Ok found) p.fields.trie e))
      (λ number name e. (libs, ((libraries_are m).lossy bytes o p libs).1 refl, e))
      (λ before e node. (facts_are bytes o m p (λ f. IsNodeOf (trie_or_empty f.trie) f.libs (HasWalkedTrie (trie_or_empty f.trie) f.libs w name stack)
      before e node)).1)

  -- the next name
  pub next_name_there : (w : gm_export_walk) (n : ℕ) → IsNextName trie w.cursor n → HasNextName bytes o w n
  next_name_there w n = (facts_are bytes o m p (λ f. IsNextName (trie_or_empty f.trie) w.cursor n)).1

  module _ (w w' : gm_export_walk) (name name' : List ℕ) (stack stack' : List Open) (given : List Entry) (end : ℕ)
      (g : GoesAlong trie libs w w' name name' stack stack' given end) where
    pub goes_on : GivesFurther bytes o w name stack given w' name' stack'
    goes_on found q = there w' name' stack' (found ++ given) (g.walked found (held w name stack found q))

    pub ends_with : end ≡ 1 → EndsWholeWith bytes o w name stack given
    ends_with one found q =
        let h = held w name stack found q in record {
          met = (facts_are bytes o m p (λ f. AreAllMet (trie_or_empty f.trie) f.libs (found ++ given))).1 (g.met one found h);
          listed = elim (g.ended one found h) [
            | inl list ↦ inl (((exports_are m).lossy bytes o p (found ++ given)).1 (walked_list (trie_view m) libs (found ++ given) list))
            | inr fault ↦ inr (((exports_fail m).lossy bytes o p malformed).1 (walked_fault (trie_view m) libs malformed fault))
          ];
        }
