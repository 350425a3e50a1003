-- Walks over an export trie, batch by batch.
use Rattle.std.proofs.Common.{◌-◌, ◌^◌, ◌<◌, Err, length, ◌≡◌, ◌≢◌, ◌++◌, ◌⊎◌, [], ℕ, List, Bool, true, false, Option, Some, None, sym, subst, ◌∙◌, arith}
use Rattle.std.specs.Prelude.{◌==◌, nat_lt, if◌then◌else◌}
use Rattle.mach_base.specs.Fault.{fault_of, malformed}
use Rattle.mach_dyld.specs.CursorState.{IsFull}
use Rattle.mach_dyld.specs.Cursors.{HasGivenTo, AreAllMet}
use Rattle.mach_dyld.specs.Trie.{Entry}
use Rattle.mach_dyld.specs.TrieRange.{ListsExports, ExportsFault, TrieRange}
use Rattle.mach_dyld.specs.declared.trie.cursor.TrieCursor.{TrieCursor}
use Rattle.mach_dyld.specs.declared.trie.walk.Open.{Open}
use Rattle.goblin_mach_c.specs.ExportWalk.{AreWritten, GoesAlong, HasWalkedTrie, IsCode, IsCutFor, IsNextName, IsNodeOf, IsNumbered, StopsAt, end_number}
use Rattle.goblin_mach_c.specs.ExportWalk.{next_export_of}
use Rattle.goblin_mach_c.proofs.ListedExports.{written_there}
use Rattle.goblin_mach_c.specs.declared.exports.Ending.{Ending}
use Rattle.goblin_mach_c.specs.declared.exports.Ending.TheVariants.{End, Refused, NameTooLong, StackTooShort}
use Rattle.goblin_mach_c.specs.declared.exports.gm_export_walk.{gm_export_walk}
use Rattle.goblin_mach_c.specs.declared.exports.gm_listed_export.{gm_listed_export}

-- a cursor that has returned nothing begins a walk
pub walk_begins : {t : TrieRange} {libs : List (List ℕ)} {w : gm_export_walk} {c : TrieCursor} {name : List ℕ} {stack : List Open} {found : List Entry}
    → w.is_begun ≡ 0 → HasGivenTo t libs c name stack [] → HasWalkedTrie t libs w name stack found
    → HasWalkedTrie t libs (record { cursor = c; is_begun = 1; code = w.code }) name stack found
walk_begins {t} {libs} {w} {c} {name} {stack} none given h = record {
  start = λ wrong. absurd (omega (arith, wrong));
  started = λ _ _. subst (HasGivenTo t libs c name stack) (sym (h.start none)) given;
  refused = h.refused;
}

-- ---- how a batch ends

not_one : (none short : Bool) → ◌≡◌ {A = ℕ} (if none then 2 else (if short then 2 else 0)) 1 → ⊥
not_one true short e = omega (arith, e)
not_one false true e = omega (arith, e)
not_one false false e = omega (arith, e)

module _ (t : TrieRange) (libs : List (List ℕ)) (c : TrieCursor) (name : List ℕ) (stack : List Open) (all : List Entry) where
  -- if the walk wasn't refused, it goes on
  occurs_at : (e : Option Ending) (rows room longest : ℕ) → end_number rows room longest e < 5 → StopsAt t libs all e c name stack
      → HasGivenTo t libs c name stack all
  occurs_at None rows room longest less s = s
  occurs_at (Some (End)) rows room longest less s = s.0
  occurs_at (Some (Refused error)) rows room longest less s = absurd (omega (arith, less))
  occurs_at (Some (NameTooLong n)) rows room longest less s = s
  occurs_at (Some (StackTooShort)) rows room longest less s = s

  is_cut : (e : Option Ending) (code : ℕ) → IsCode e code → code ≢ 0 → StopsAt t libs all e c name stack → IsCutFor t libs all code
  is_cut None code is some s = absurd (some is)
  is_cut (Some (End)) code is some s = absurd (some is)
  is_cut (Some (Refused error)) code is some s = (fault_of error, s, is)
  is_cut (Some (NameTooLong n)) code is some s = absurd (some is)
  is_cut (Some (StackTooShort)) code is some s = absurd (some is)

  is_whole : (rows room longest : ℕ) (e : Option Ending) → StopsAt t libs all e c name stack → end_number rows room longest e ≡ 1
      → AreAllMet t libs all × (ListsExports t libs all ⊎ ExportsFault t libs malformed)
  is_whole rows room longest None s is = absurd (not_one (rows == 0) (nat_lt room longest) is)
  is_whole rows room longest (Some (End)) s is = (s.1, s.2)
  is_whole rows room longest (Some (Refused error)) s is = absurd (omega (arith, is))
  is_whole rows room longest (Some (NameTooLong n)) s is = absurd (omega (arith, is))
  is_whole rows room longest (Some (StackTooShort)) s is = absurd (omega (arith, is))

-- a batch goes along the trie
pub goes_along : {t : TrieRange} {libs : List (List ℕ)} {w b w' : gm_export_walk} {name name' : List ℕ} {stack stack' : List Open} {given : List Entry}
    (rows room longest end : ℕ) (e : Option Ending)
    → ((found : List Entry) → HasWalkedTrie t libs w name stack found → HasWalkedTrie t libs b name stack found) → b.is_begun ≢ 0 → b.code ≡ 0
    → ((found : List Entry) → HasGivenTo t libs b.cursor name stack found → StopsAt t libs (found ++ given) e w'.cursor name' stack')
    → w'.is_begun ≡ b.is_begun → end ≡ end_number rows room longest e → IsCode e w'.code → (w'.code ≡ 0 → end_number rows room longest e < 5)
    → GoesAlong t libs w w' name name' stack stack' given end
goes_along {t} {libs} {w} {b} {w'} {name} {name'} {stack} {stack'} {given} rows room longest end e begins started ready stops same is marked good = record {
  walked = λ found h.
      let at = stops found ((begins found h).started started ready) in record {
        start = λ wrong. absurd (started (sym same ∙ wrong));
        started = λ _ none. occurs_at t libs w'.cursor name' stack' (found ++ given) e rows room longest (good none) at;
        refused = λ some. is_cut t libs w'.cursor name' stack' (found ++ given) e w'.code marked some at;
      };
  met = λ one found h.
      (is_whole t libs w'.cursor name' stack' (found ++ given) rows room longest e (stops found ((begins found h).started started ready)) (sym is ∙ one)).0;
  ended = λ one found h.
      (is_whole t libs w'.cursor name' stack' (found ++ given) rows room longest e (stops found ((begins found h).started started ready)) (sym is ∙ one)).1;
}

-- its rows
pub walk_written : {t : TrieRange} {base : ℕ} {libs : List (List ℕ)} {w b : gm_export_walk} {name : List ℕ} {stack : List Open} {given : List Entry}
    {count used : ℕ} {old new : List gm_listed_export} {text text' : List ℕ}
    → ((found : List Entry) → HasWalkedTrie t libs w name stack found → HasWalkedTrie t libs b name stack found) → b.is_begun ≢ 0 → b.code ≡ 0
    → AreWritten t.bytes base (IsNumbered libs) (IsNodeOf t libs (HasGivenTo t libs b.cursor name stack)) given count used old new text text'
    → AreWritten t.bytes base (IsNumbered libs) (IsNodeOf t libs (HasWalkedTrie t libs w name stack)) given count used old new text text'
walk_written {t} {base} {libs} {w} {b} {name} {stack} begins started ready =
    written_there t.bytes t.bytes base (IsNumbered libs) (IsNumbered libs) (IsNodeOf t libs (HasGivenTo t libs b.cursor name stack))
    (IsNodeOf t libs (HasWalkedTrie t libs w name stack)) (λ _ _ e. e) (λ _ _ e. e) (λ _ _ e. e)
    (λ before e node n. record { own = n.own; leads = λ found h. n.leads found ((begins found h).started started ready) })

-- the name that was too long
pub long_name : (t : TrieRange) (c : TrieCursor) (name : List ℕ) (stack : List Open) (e : Ending) (n : ℕ)
    → ◌≡◌ {A = Option Ending} (Some e) (Some (NameTooLong n)) → length name < 2 ^ 64 - 1 → IsFull t.bytes t.from c name stack (Some (next_export_of (Err e)))
    → (length name < n) × IsNextName t c n
long_name t c name stack (End) n is few full = absurd (cc)
long_name t c name stack (Refused error) n is few full = absurd (cc)
long_name t c name stack (StackTooShort) n is few full = absurd (cc)
long_name t c name stack (NameTooLong m) n is few full =
    let same : m ≡ n = cc in
    let many = full.2 in
    let past = full.3 in (omega (arith, same, many, past, few), (full.0, full.1, sym same ∙ many))
