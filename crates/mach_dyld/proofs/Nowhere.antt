-- Lists of branches that all lead nowhere.
use Rattle.std.proofs.lemmas.Bool.{lt-leb, le-leb}
use Rattle.mach_base.proofs.Unsigned.{uleb_at-outside}
use Rattle.mach_dyld.proofs.TrieNames.{◌≡◌, ◌<◌, ◌≤◌, ℕ, true, false, List, [], ◌∷◌, ◌++◌, Ok, Err, Result, Option, refl, sym, ap, ◌∙◌}
use Rattle.mach_dyld.proofs.TrieNames.{arith, inl, inr, length, nat_le, cases_lt, cases_Bool, leb-true, ◌>>=◌, Fault, IsErr}
use Rattle.mach_base.specs.Answer.{FailsAs}
use Rattle.mach_dyld.proofs.TrieNames.{uleb_at, branches_at, children_at, node_in, Branch, Info, Trie, Entry, Error}
use Rattle.mach_dyld.specs.LookUpState.{OwnEnds}
use Rattle.mach_dyld.proofs.LookUpNodes.{after_size, in_parts, with_branches, FailsAs-first}
use Rattle.mach_dyld.proofs.TrieNames.{Ahead, ahead, Unfolds, passed, HasRead, Source}
use Rattle.mach_dyld.proofs.Marking.{not_both}
use Rattle.mach_dyld.proofs.Readings as reading
use Rattle.mach_dyld.specs.Nowhere.{lead_nowhere, AreBarren, HaveRoom}

-- the first leads nowhere, and so do the others
pub both_nowhere : (upto : ℕ) (b : Branch) (bs : List Branch) → lead_nowhere upto (b ∷ bs) ≡ true → (upto ≤ b.start) × (lead_nowhere upto bs ≡ true)
both_nowhere upto b bs e = elim (cases_Bool (nat_le upto b.start)) [
  | inl is ↦ (leb-true upto b.start is, rw is at e)
  | inr not ↦ absurd (let wrong = rw not at e in not_both refl (sym wrong))
]

pub first_nowhere : (upto : ℕ) (b : Branch) (bs others : List Branch) → bs ≡ b ∷ others → upto ≤ b.start → lead_nowhere upto others ≡ lead_nowhere upto bs
first_nowhere upto b bs others e out = let test = le-leb upto b.start out in rw (e, test) refl

pub first_leads : (upto : ℕ) (b : Branch) (bs others : List Branch) → bs ≡ b ∷ others → b.start < upto → lead_nowhere upto bs ≡ false
first_leads upto b bs others e inside = let test = lt-leb upto b.start inside in rw (e, test) refl

-- ---- branches that a walk skips

-- all of them are skipped
pub all_passed : {t : Trie} {root n : ℕ} {found : List Entry} (name : List ℕ) (bs : List Branch) (left : List Ahead) → lead_nowhere t.upto bs ≡ true
    → Unfolds t root n found (ahead name bs ++ left) → Unfolds t root n found left
all_passed name [] left none u = u
all_passed {t} name (b ∷ bs) left none u = let two = both_nowhere t.upto b bs none in all_passed name bs left two.1 (passed u two.0)

pub none_followed : {t : Trie} {root : ℕ} {paths : List (List ℕ)} (others : List (List ℕ)) (name : List ℕ) (bs : List Branch) (left : List Ahead)
    → lead_nowhere t.upto bs ≡ true → HasRead t root paths others (ahead name bs ++ left) → (qs : List (List ℕ)) × HasRead t root paths qs left
none_followed others name [] left none h = (others, h)
none_followed {t} others name (b ∷ bs) left none h =
    let two = both_nowhere t.upto b bs none in
    let met = reading.passes others h two.0 in none_followed met.0 name bs left two.1 met.1

-- ---- lists

-- nothing is known
pub none_barren : (s : Source) (known : List ℕ) → known ≡ [] → AreBarren s known
unfolding branches_at
none_barren s known e = λ place. rw e refl

pub no_room : (s : Source) (known : List ℕ) → known ≡ [] → HaveRoom s known
no_room s known e = λ some. absurd (let none = ap (λ (x : List ℕ). length x) e in omega arith)

-- the count of a list is within the bytes
pub count_inside : (bytes : List ℕ) (from place : ℕ) (bs : List Branch) → children_at bytes from place ≡ Ok bs → place < length bytes
unfolding children_at
count_inside bytes from place bs e = elim (cases_lt place (length bytes)) [
  | inl inside ↦ inside
  | inr out ↦ absurd (is_not_read (uleb_at bytes place) _ (uleb_at-outside bytes place out) e)
]
  where
    is_not_read : (r : Result (ℕ × ℕ) Fault) (next : ℕ × ℕ → Result (List Branch) Fault) → IsErr r → (r >>= next) ≡ Ok bs → ⊥
    is_not_read (Ok x) next bad e = absurd (cc)
    is_not_read (Err f) next bad e = absurd (let wrong = e in cc)

-- ---- nodes

module _ (s : Source) (start size place : ℕ) (own : Option Info) (after : ℕ) (read : uleb_at s.bytes.now start ≡ Ok (size, place))
    (ends : OwnEnds s size place own after) where
  pub node_there : (bs : List Branch) → children_at s.bytes.now s.from after ≡ Ok bs → node_in s start ≡ Ok (record { own = own; branches = bs })
  node_there bs list = after_size s start size place read ∙ (in_parts s size place own after ends ∙ rw list refl)

  pub list_fails : (e : Error) → FailsAs e (children_at s.bytes.now s.from after) → FailsAs e (node_in s start)
  list_fails e fails =
      let whole = after_size s start size place read ∙ in_parts s size place own after ends in
      rw whole (FailsAs-first e (children_at s.bytes.now s.from after) (with_branches s own after) (λ f err. rw err refl) fails)
