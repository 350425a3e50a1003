-- Exports that are written one after the other.
use Rattle.std.proofs.Common.{◌≡◌, ◌<◌, ◌+◌, ◌∙◌, ◌++◌, ◌∷◌, [], ℕ, suc, List, Option, Some, Ok, length, take, drop, set, refl, sym, ap, subst}
use Rattle.std.proofs.lemmas.List.{append-nil, append_assoc, length-append, drop-drop}
use Rattle.std.proofs.Math.Seq.{take-append_seam, drop-append-add}
use Rattle.mach_base.specs.Text.{text_at}
use Rattle.mach_dyld.specs.CursorState.{name_met_last}
use Rattle.mach_dyld.specs.Cursors.{HasGivenTo, IsOwnAt, IsReexportAt, NextGives, place_at}
use Rattle.mach_dyld.specs.Exports.{info_of}
use Rattle.mach_dyld.specs.Nodes as Nodes
use Rattle.mach_dyld.specs.Trie.{Entry, Info, entry, regular, reexport, stub}
use Rattle.mach_dyld.specs.TrieRange.{TrieRange, trie_there}
use Rattle.mach_dyld.specs.Unfolds.{IsNextNode}
use Rattle.mach_dyld.specs.declared.trie.cursor.NextExport.TheVariants.{Export}
use Rattle.mach_dyld.specs.declared.trie.cursor.TrieCursor.{TrieCursor}
use Rattle.mach_dyld.specs.declared.export_info.ExportInfo.{ExportInfo}
use Rattle.mach_dyld.specs.declared.trie.walk.Open.{Open}
use Rattle.goblin_mach_c.specs.ExportRows.{export_row, text_or_empty}
use Rattle.goblin_mach_c.specs.ExportWalk.{AreListed, AreWritten, IsBrought, IsListed, IsNodeOf, IsNumbered, names_of}
use Rattle.goblin_mach_c.specs.declared.exports.gm_listed_export.{gm_listed_export}
use Rattle.goblin_mach_c.specs.declared.find.gm_export.{gm_export}
use Rattle.goblin_mach_c.proofs.Filled.{set_following}

-- ---- one export more

names_more : (es : List Entry) (e : Entry) → names_of (es ++ e ∷ []) ≡ names_of es ++ e.name
names_more [] e = append-nil e.name
names_more (x ∷ es) e = ap (λ l. x.name ++ l) (names_more es e) ∙ sym (append_assoc x.name (names_of es) e.name)

module _ (bytes : List ℕ) (base : ℕ) (IsLibrary : ℕ → List ℕ → Type 0) (IsNode : List Entry → Entry → ℕ → Type 0) where
  listed_more : (before es : List Entry) (rows : List gm_listed_export) (e : Entry) (row : gm_listed_export)
      → AreListed bytes base IsLibrary IsNode before es rows → IsListed bytes base IsLibrary IsNode (before ++ es) e row
      → AreListed bytes base IsLibrary IsNode before (es ++ e ∷ []) (rows ++ row ∷ [])
  listed_more before [] [] e row are more = (subst (λ (l : List Entry). IsListed bytes base IsLibrary IsNode l e row) (append-nil before) more, tt)
  listed_more before [] (r ∷ rows) e row are more = absurd are
  listed_more before (x ∷ es) [] e row are more = absurd are
  listed_more before (x ∷ es) (r ∷ rows) e row are more = (
    are.0,
    listed_more (before ++ x ∷ []) es rows e row are.1
        (subst (λ (l : List Entry). IsListed bytes base IsLibrary IsNode l e row) (sym (append_assoc before (x ∷ []) es)) more),
  )

  listed_length : (before es : List Entry) (rows : List gm_listed_export) → AreListed bytes base IsLibrary IsNode before es rows → length rows ≡ length es
  listed_length before [] [] are = refl
  listed_length before [] (r ∷ rows) are = absurd are
  listed_length before (x ∷ es) [] are = absurd are
  listed_length before (x ∷ es) (r ∷ rows) are = ap suc (listed_length (before ++ x ∷ []) es rows are.1)

-- what holds for other bytes, other libraries and other nodes
module _ (bytes bytes' : List ℕ) (base : ℕ) (IsLibrary IsLibrary' : ℕ → List ℕ → Type 0) (IsNode IsNode' : List Entry → Entry → ℕ → Type 0)
    (text : (place : ℕ) (text : List ℕ) → text_at bytes place ≡ Ok text → text_at bytes' place ≡ Ok text)
    (number_place : (node : ℕ) (found : ℕ × ℕ) → place_at bytes node ≡ Ok found → place_at bytes' node ≡ Ok found)
    (library : (number : ℕ) (name : List ℕ) → IsLibrary number name → IsLibrary' number name)
    (is_node : (before : List Entry) (e : Entry) (node : ℕ) → IsNode before e node → IsNode' before e node) where
  brought_there : (node : ℕ) (info : Info) (number place : ℕ) → IsBrought bytes IsLibrary node info number place
      → IsBrought bytes' IsLibrary' node info number place
  brought_there node (regular address flags) number place b = b
  brought_there node (reexport lib name flags) number place b =
      (number_place node (number, place) b.0, library number lib b.1, text place (text_or_empty name) b.2)
  brought_there node (stub at resolver flags) number place b = b

  listed_there : (before es : List Entry) (rows : List gm_listed_export) → AreListed bytes base IsLibrary IsNode before es rows
      → AreListed bytes' base IsLibrary' IsNode' before es rows
  listed_there before [] [] are = tt
  listed_there before [] (r ∷ rows) are = absurd are
  listed_there before (x ∷ es) [] are = absurd are
  listed_there before (x ∷ es) (r ∷ rows) are =
      let l = are.0 in (
        record {
          name = l.name;
          name_len = l.name_len;
          what = l.what;
          node = l.node;
          is_node = is_node before x l.node l.is_node;
          brought = brought_there l.node x.info r.library r.target l.brought;
        },
        listed_there (before ++ x ∷ []) es rows are.1,
      )

  pub written_there : {given : List Entry} {count used : ℕ} {old new : List gm_listed_export} {names names' : List ℕ}
      → AreWritten bytes base IsLibrary IsNode given count used old new names names'
      → AreWritten bytes' base IsLibrary' IsNode' given count used old new names names'
  written_there {given} w = record {
    is_count = w.is_count;
    is_used = w.is_used;
    listed = w.listed;
    are = listed_there [] given w.listed w.are;
    rows = w.rows;
    names = w.names;
  }

-- The walk went on from one cursor to another and returned exports, of which k rows and `used` bytes of names are written.
pub record SoFar (t : TrieRange) (base : ℕ) (libs : List (List ℕ)) (c c' : TrieCursor) (name name' : List ℕ) (stack stack' : List Open)
    (old new : List gm_listed_export) (text text' : List ℕ) (k used : ℕ) : Type 0 where
  pub given : List Entry
  pub written : AreWritten t.bytes base (IsNumbered libs) (IsNodeOf t libs (HasGivenTo t libs c name stack)) given k used old new text text'
  pub walked : (found : List Entry) → HasGivenTo t libs c name stack found → HasGivenTo t libs c' name' stack' (found ++ given)

pub none_so_far : {t : TrieRange} {base : ℕ} {libs : List (List ℕ)} {c : TrieCursor} {name : List ℕ} {stack : List Open} {old : List gm_listed_export}
    {text : List ℕ}
    → SoFar t base libs c c name name stack stack old old text text 0 0
none_so_far {t} {base} {libs} {c} {name} {stack} = record {
  given = [];
  written = record { is_count = refl; is_used = refl; listed = []; are = tt; rows = refl; names = refl };
  walked = λ found h. subst (HasGivenTo t libs c name stack) (sym (append-nil found)) h;
}

-- what a buffer holds after something was appended to it
put_after : (done old text after : List ℕ) (used : ℕ) → used ≡ length done → after ≡ done ++ drop used old
    → take used after ++ text ++ drop (used + length text) after ≡ (done ++ text) ++ drop (used + length text) old
put_after done old text after used is e =
    let rest = drop used old in
    let n = length text in
    let front = ap (take used) e ∙ ap (λ k. take k (done ++ rest)) is ∙ take-append_seam done rest in
    let rear = ap (drop (used + n)) e ∙ ap (λ k. drop (k + n) (done ++ rest)) is ∙ drop-append-add done rest n ∙ drop-drop n used old in
    ap (λ l. (l ++ text) ++ drop (used + n) after) front ∙ ap (λ l. (done ++ text) ++ l) rear

-- one more row and one more name
written_more : {bytes : List ℕ} {base : ℕ} {IsLibrary : ℕ → List ℕ → Type 0} {IsNode : List Entry → Entry → ℕ → Type 0} {given : List Entry} {k used : ℕ}
    {old new : List gm_listed_export} {text text' : List ℕ}
    (e : Entry) (row : gm_listed_export) → AreWritten bytes base IsLibrary IsNode given k used old new text text' → k < length old
    → IsListed bytes base IsLibrary IsNode given e row
    → AreWritten bytes base IsLibrary IsNode (given ++ e ∷ []) (k + 1) (used + length e.name) old (set new k row) text
    (take used text' ++ e.name ++ drop (used + length e.name) text')
written_more {bytes} {base} {IsLibrary} {IsNode} {given} {k} {used} {old} {new} {text} {text'} e row w less is_row =
    let many = listed_length bytes base IsLibrary IsNode [] given w.listed w.are ∙ sym w.is_count in
    record {
      is_count = ap (λ n. n + 1) w.is_count ∙ sym (length-append given (e ∷ []));
      is_used = ap (λ n. n + length e.name) w.is_used ∙ sym (length-append (names_of given) e.name) ∙ ap length (sym (names_more given e));
      listed = w.listed ++ row ∷ [];
      are = listed_more bytes base IsLibrary IsNode [] given w.listed e row w.are is_row;
      rows = ap (λ l. set l k row) w.rows ∙ set_following w.listed old k row many less ∙ sym (append_assoc w.listed (row ∷ []) (drop (k + 1) old));
      names = put_after (names_of given) text e.name text' used w.is_used w.names ∙ ap (λ l. l ++ drop (used + length e.name) text) (sym (names_more given e));
    }

-- an export more
pub one_more : {t : TrieRange} {base : ℕ} {libs : List (List ℕ)} {c c' d : TrieCursor} {name name' m : List ℕ} {stack stack' q : List Open}
    {old new : List gm_listed_export} {text text' after : List ℕ} {k used len : ℕ} {what : gm_export} (info : ExportInfo) (library target node : ℕ)
    → SoFar t base libs c c' name name' stack stack' old new text text' k used → k < length old
    → ((found : List Entry) → HasGivenTo t libs c' name' stack' found → NextGives t libs found (Export info) d m q)
    → len ≡ length (name_met_last d m) → after ≡ take used text' ++ name_met_last d m ++ drop (used + len) text' → what ≡ export_row base (Some (info_of info))
    → IsOwnAt t.bytes libs t.from node (info_of info)
    → ((found : List Entry) → HasGivenTo t libs c' name' stack' found → IsNextNode (trie_there t libs) t.from found (name_met_last d m) node)
    → IsBrought t.bytes (IsNumbered libs) node (info_of info) library target
    → SoFar t base libs c d name m stack q old (set new k (record { name = used; name_len = len; library = library; target = target; what = what })) text after
    (k + 1) (used + len)
one_more {t} {base} {libs} {c} {c'} {d} {name} {name'} {m} {stack} {stack'} {q} {old} {new} {text} {text'} {after} {k} {used} {len} {what} info library
    target node so less gives long put is own leads brought =
    let e = entry (name_met_last d m) (info_of info) in
    let row : gm_listed_export = record { name = used; name_len = length e.name; library = library; target = target; what = what } in
    let more = written_more e row so.written less (record {
      name = so.written.is_used;
      name_len = refl;
      what = is;
      node = node;
      is_node = record { own = own; leads = λ found h. leads (found ++ so.given) (so.walked found h) };
      brought = brought;
    }) in
    record {
      given = so.given ++ e ∷ [];
      written = rw (put, long) more;
      walked = λ found h. subst (HasGivenTo t libs d m q) (append_assoc found so.given (e ∷ [])) (gives (found ++ so.given) (so.walked found h));
    }

-- ---- where a re-export comes from

text_is : (text : List ℕ) (name : Option (List ℕ)) → name ≡ Nodes.name_of text → text ≡ text_or_empty name
text_is [] name e = rw e refl
text_is (x ∷ xs) name e = rw e refl

pub brought_by : (bytes : List ℕ) (libs : List (List ℕ)) (node : ℕ) (lib : List ℕ) (name : Option (List ℕ)) (flags : ℕ) (found : ℕ × ℕ)
    → place_at bytes node ≡ Ok found → IsReexportAt bytes libs lib name (Some found)
    → IsBrought bytes (IsNumbered libs) node (reexport lib name flags) found.0 found.1
brought_by bytes libs node lib name flags found there at = (there, at.0, at.2 ∙ ap Ok (text_is at.1 name at.3))
