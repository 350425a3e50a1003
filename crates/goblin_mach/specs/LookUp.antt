-- The look-up of one name in the export trie of an image (dyld's export info).
use Rattle.std.specs.Prelude.{◌≡◌, ℕ, List, Option, Some, None}
use Rattle.mach_base.specs.Among.{IsAmong}
use Rattle.mach_dyld.specs.LookUp.{IsAnswerFor}
use Rattle.mach_dyld.specs.Trie.{Info, Entry}
use Rattle.mach_dyld.specs.TrieRange.{TrieRange, trie_there}

-- An answer that holds by the paths of an image's trie, whether or not the trie has a list: an own export to which a path of
-- this name leads, or none if no path does. Without a trie it is none.
abbrev pub IsAnswerInImage : Option TrieRange → List (List ℕ) → List ℕ → Option Info → Type 0
IsAnswerInImage None libs name found = found ≡ None
IsAnswerInImage (Some t) libs name found = IsAnswerFor (trie_there t libs) t.from name found

-- one of these exports has this name and this meaning
abbrev pub IsListedAs : List ℕ → Info → List Entry → Type 0
IsListedAs name info list = (e : Entry) × IsAmong e list × (e.name ≡ name) × (e.info ≡ info)
