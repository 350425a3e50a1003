-- The trie of an image lies in the bytes of the image.
use Rattle.std.proofs.Common.{◌≡◌, ◌+◌, ◌-◌, ◌∷◌, [], ℕ, List, Bool, true, false, Option, Some, None, Result, Ok, Err, inl, inr, cond}
use Rattle.std.proofs.Common.{drop, length, refl, sym, arith}
use Rattle.std.proofs.lemmas.Bool.{leb-false}
use Rattle.std.specs.Prelude.{nat_le, option_map}
use Rattle.std.specs.Str.{is_utf8}
use Rattle.mach_base.specs.Fault.{Fault, bad_offset, bad_input}
unfoldable use Rattle.mach_base.specs.Text.{text_at}
use Rattle.mach_base.specs.Text.{run_at}
use Rattle.mach_base.specs.Answer.{◌>>=◌}
use Rattle.mach_base.specs.Leb128.{first_groups, groups_value, is_short, spelled_at}
unfoldable use Rattle.mach_base.specs.Leb128.{uleb_at}
use Rattle.mach_base.proofs.Binds.{bind_ok, chosen}
use Rattle.mach_load.specs.Command.{Command}
use Rattle.mach_load.specs.Commands.{Kind, dyld_info, dyld_info_only, dyld_exports_trie}
use Rattle.mach_base.specs.Record.{Value, number_among}
use Rattle.mach_dyld.specs.Cursors.{place_at}
use Rattle.mach_dyld.specs.TrieRange.{TrieRange}
use Rattle.goblin_mach.specs.Readings.{keep, last_or, read_of}
use Rattle.goblin_mach.specs.Subjects.{range_by, trie_by, trie_in, trie_or_empty}

module _ (bytes : List ℕ) where
  -- a trie, if there is one, in these bytes
  abbrev LiesThere : Option TrieRange → Type 0
  LiesThere None = Unit {0}
  LiesThere (Some t) = t.bytes ≡ bytes

  abbrev SaysThere : Option (Result TrieRange Fault) → Type 0
  SaysThere None = Unit {0}
  SaysThere (Some (Ok t)) = t.bytes ≡ bytes
  SaysThere (Some (Err f)) = Unit {0}

  range_there : (b : Bool) (from upto : ℕ)
      → LiesThere (Some (cond b (record { bytes = bytes; from = from; upto = upto }) (record { bytes = bytes; from = 0; upto = 0 })))
  range_there true from upto = refl
  range_there false from upto = refl

  by_kind : (k : Kind) (values : List Value) → SaysThere (option_map (λ (t : TrieRange). Ok t) (range_by k bytes values))
  by_kind dyld_info values = range_there (nat_le (number_among values 10 + number_among values 11) (length bytes)) (number_among values 10) _
  by_kind dyld_info_only values = range_there (nat_le (number_among values 10 + number_among values 11) (length bytes)) (number_among values 10) _
  by_kind dyld_exports_trie values = range_there (nat_le (number_among values 2 + number_among values 3) (length bytes)) (number_among values 2) _
  by_kind _ values = tt

  said_there : (c : Command) → SaysThere (trie_by bytes c)
  said_there c = by_kind c.kind c.values

  step_there : (found : Option (Result TrieRange Fault)) (others : List TrieRange) (d : Option TrieRange) → SaysThere found → LiesThere d
      → ((e : Option TrieRange) → LiesThere e → LiesThere (last_or e others)) → LiesThere (last_or d (keep found others))
  step_there None others d said before rest = rest d before
  step_there (Some (Err f)) others d said before rest = rest d before
  step_there (Some (Ok t)) others d said before rest = rest (Some t) said

  last_there : (cs : List Command) (d : Option TrieRange) → LiesThere d → LiesThere (last_or d (read_of (trie_by bytes) cs))
  last_there [] d before = before
  last_there (c ∷ cs) d before = step_there (trie_by bytes c) (read_of (trie_by bytes) cs) d (said_there c) before (λ e there. last_there cs e there)

  no_text : (place : ℕ) (text : List ℕ) → text_at [] place ≡ Ok text → ⊥
  unfolding text_at
  no_text place text e =
      elim (chosen (nat_le 0 place) (Err (bad_offset place))
      (cond (is_utf8 (run_at [] place)) (Ok (run_at [] place)) (Err (bad_input (length {A = ℕ} [] - place)))) (Ok text) e) [
        | inl wrong ↦ absurd (let x = wrong.1 in cc)
        | inr past ↦ absurd (let less = leb-false 0 place past.0 in omega arith)
      ]

  no_number : (place : ℕ) (found : ℕ × ℕ) → uleb_at [] place ≡ Ok found → ⊥
  unfolding uleb_at
  no_number place found e =
      elim (chosen (nat_le 0 place) (Err (bad_offset place)) (spelled_at is_short groups_value [] place (first_groups (drop place []))) (Ok found) e) [
        | inl wrong ↦ absurd (let x = wrong.1 in cc)
        | inr past ↦ absurd (let less = leb-false 0 place past.0 in omega arith)
      ]

  no_place : (node : ℕ) (found : ℕ × ℕ) → place_at [] node ≡ Ok found → ⊥
  no_place node found e =
      let first = bind_ok (uleb_at [] node) (λ (size : ℕ × ℕ). uleb_at [] size.1 >>= λ (flags : ℕ × ℕ). uleb_at [] flags.1) found e in
      no_number node first.0 first.1

  place_in : (t : Option TrieRange) → LiesThere t → (node : ℕ) (found : ℕ × ℕ) → place_at (trie_or_empty t).bytes node ≡ Ok found
      → place_at bytes node ≡ Ok found
  place_in None there node found e = absurd (no_place node found e)
  place_in (Some t) there node found e = rw (sym there) e

  text_in : (t : Option TrieRange) → LiesThere t → (place : ℕ) (text : List ℕ) → text_at (trie_or_empty t).bytes place ≡ Ok text → text_at bytes place ≡ Ok text
  text_in None there place text e = absurd (no_text place text e)
  text_in (Some t) there place text e = rw (sym there) e

  -- so is what a node says about a re-export
  pub place_there : (cs : List Command) (node : ℕ) (found : ℕ × ℕ) → place_at (trie_or_empty (trie_in bytes cs)).bytes node ≡ Ok found
      → place_at bytes node ≡ Ok found
  place_there cs node found e = place_in (trie_in bytes cs) (last_there cs None tt) node found e

  -- a text in the trie's bytes is one in the image's
  pub text_there : (cs : List Command) (place : ℕ) (text : List ℕ) → text_at (trie_or_empty (trie_in bytes cs)).bytes place ≡ Ok text
      → text_at bytes place ≡ Ok text
  text_there cs place text e = text_in (trie_in bytes cs) (last_there cs None tt) place text e
