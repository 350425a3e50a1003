-- A node that is visited, from the parts in which it is read.
use Rattle.std.proofs.Common.{◌≡◌, ◌≢◌, ◌⊎◌, inl, inr, length, ℕ, eqb, true, false, List, [], ◌∷◌, Option, None, Some, Result, Ok, Err, refl, sym, ◌∙◌}
use Rattle.std.proofs.lemmas.Bool.{ne_eqb, eqb-true}
use Rattle.std.proofs.lemmas.List.{nil_from_length}
use Rattle.mach_base.specs.Answer.{◌>>=◌, FailsAs}
use Rattle.mach_dyld.specs.Finds.{IsElsewhere}
use Rattle.mach_base.specs.Fault.{Fault, fault_of}
use Rattle.mach_base.specs.Leb128.{uleb_at}
use Rattle.mach_base.specs.declared.error.Error.{Error}
use Rattle.mach_base.proofs.Faults.{FailsAs-read}
use Rattle.mach_dyld.specs.Trie.{Info, Branch, Node}
use Rattle.mach_dyld.specs.Views.{node_after}
use Rattle.mach_dyld.specs.LookUpState.{OwnEnds, IsPassed}
use Rattle.mach_dyld.specs.Views.{node_in, own_in}
unfoldable use Rattle.mach_dyld.specs.Nodes.{children_at, terminal_at, inner_at, node_at}
use Rattle.mach_dyld.specs.declared.trie.walk.Source.{Source}
use Rattle.mach_base.specs.declared.error.Error.TheVariants as errors

-- an error of one part is an error of what follows from it
pub FailsAs-first : {X Y : Type 0} (e : Error) (first : Result X Fault) (all : Result Y Fault) → ((f : Fault) → first ≡ Err f → all ≡ Err f) → FailsAs e first
    → FailsAs e all
FailsAs-first (errors.Malformed msg) first all same fails = same _ fails
FailsAs-first (errors.BadMagic magic) first all same fails = same _ fails
FailsAs-first (errors.Scroll f) first all same fails = same _ fails
FailsAs-first (errors.BufferTooShort count what) first all same fails = same _ fails
FailsAs-first (errors.Memory f) first all same fails = tt

pub none_left_of : (xs : List ℕ) → true ≡ eqb (length xs) 0 → xs ≡ []
none_left_of xs e = nil_from_length xs (eqb-true (length xs) 0 (sym e))

pub some_left_of : (xs : List ℕ) → false ≡ eqb (length xs) 0 → xs ≢ []
some_left_of [] e = absurd (cc)
some_left_of (x ∷ xs) e = λ h. cc

module _ (s : Source) where
  abbrev pub with_branches : Option Info → ℕ → Result Node Fault
  with_branches own after = children_at s.bytes.now s.from after >>= λ (bs : List Branch). Ok (record { own = own; branches = bs })

  module _ (size place : ℕ) where
    pub own_none : size ≡ 0 → node_after s size place ≡ with_branches None place
    unfolding inner_at
    own_none zero = rw zero refl

    pub own_some : size ≢ 0 → node_after s size place ≡ (own_in s size place >>= λ (own : Info × ℕ). with_branches (Some own.0) own.1)
    unfolding terminal_at
    own_some some = let test : eqb size 0 ≡ false = ne_eqb size 0 some in rw test refl

    -- the own export, then the branches
    pub in_parts : (own : Option Info) (after : ℕ) → OwnEnds s size place own after → node_after s size place ≡ with_branches own after
    in_parts None after h = own_none h.0 ∙ rw h.1 refl
    in_parts (Some info) after h = own_some h.0 ∙ rw h.1 refl

    pub own_fails : (e : Error) → size ≢ 0 → FailsAs e (own_in s size place) → FailsAs e (node_after s size place)
    own_fails e some fails = FailsAs-first e (own_in s size place) (node_after s size place) (λ f err. own_some some ∙ rw err refl) fails

    pub branches_fail : (e : Error) (own : Option Info) (after : ℕ) → OwnEnds s size place own after
        → children_at s.bytes.now s.from after ≡ Err (fault_of e) → FailsAs e (node_after s size place)
    branches_fail e own after h err = FailsAs-read e (node_after s size place) (in_parts own after h ∙ rw err refl)

  module _ (start : ℕ) where
    pub after_size : (size place : ℕ) → uleb_at s.bytes.now start ≡ Ok (size, place) → node_in s start ≡ node_after s size place
    unfolding node_at
    after_size size place read = rw read refl

    pub size_fails : (f : Fault) → uleb_at s.bytes.now start ≡ Err f → node_in s start ≡ Err f
    unfolding node_at
    size_fails f read = rw read refl

    elsewhere : (size place : ℕ) (rest : List ℕ) (own : Option Info) (after : ℕ) → OwnEnds s size place own after → (size ≡ 0) ⊎ (rest ≢ [])
        → IsElsewhere rest own
    elsewhere size place rest None after h other = inl refl
    elsewhere size place rest (Some info) after h other = elim other [ inl zero ↦ absurd (h.0 zero) | inr more ↦ inr more ]

    -- a node that is passed, with these branches
    pub passed_by : (size place after : ℕ) (rest : List ℕ) (own : Option Info) (bs : List Branch) (P : List Branch → Type 0)
        → uleb_at s.bytes.now start ≡ Ok (size, place) → OwnEnds s size place own after → (size ≡ 0) ⊎ (rest ≢ [])
        → children_at s.bytes.now s.from after ≡ Ok bs → P bs → IsPassed s start rest P
    passed_by size place after rest own bs P read ends other children p = (
      record { own = own; branches = bs },
      after_size size place read ∙ (in_parts size place own after ends ∙ rw children refl),
      elsewhere size place rest own after ends other,
      p,
    )
