-- Chains of load commands: the same with the place carried along, how they grow, and that there is at most one.
use Rattle.std.proofs.Common.{◌≡◌, ℕ, ◌+◌, ◌<◌, ◌≤◌, List, [], ◌∷◌, ◌++◌, length, Ok, Err, inl, inr, refl, sym, ap, subst, ◌∙◌, arith}
use Rattle.mach_base.specs.declared.context.Endian.{Endian}
use Rattle.mach_base.specs.Fault.{Fault}
use Rattle.mach_load.specs.Command.{Command, cmdsize_of, command_at}
use Rattle.goblin_mach.specs.Chain.{AllThere, BeginsAt, IsLinked, IsChain, chain_end, IsBroken}
use Rattle.mach_base.specs.Among.{IsAmong}
use Rattle.mach_base.proofs.Binds.{same_ok}
use Rattle.goblin_mach.proofs.CommandAt.{offset_is}

-- a chain with its place carried along
abbrev pub Carries : Endian → List ℕ → ℕ → List Command → Type 0
Carries le bytes s [] = Unit {0}
Carries le bytes s (c ∷ cs) = (command_at le bytes s ≡ Ok c) × Carries le bytes (s + cmdsize_of c) cs

pub carries : (le : Endian) (bytes : List ℕ) (s : ℕ) (cs : List Command) → AllThere le bytes cs → BeginsAt s cs → IsLinked cs → Carries le bytes s cs
carries le bytes s [] there begins linked = tt
carries le bytes s (c ∷ []) there begins linked = (subst (λ (x : ℕ). command_at le bytes x ≡ Ok c) begins there.0, tt)
carries le bytes s (c ∷ d ∷ cs) there begins linked = (
  subst (λ (x : ℕ). command_at le bytes x ≡ Ok c) begins there.0,
  carries le bytes (s + cmdsize_of c) (d ∷ cs) there.1 (linked.0 ∙ ap (λ (x : ℕ). x + cmdsize_of c) begins) linked.1,
)

pub carried_there : (le : Endian) (bytes : List ℕ) (s : ℕ) (cs : List Command) → Carries le bytes s cs → AllThere le bytes cs
carried_there le bytes s [] h = tt
carried_there le bytes s (c ∷ cs) h =
    (subst (λ (x : ℕ). command_at le bytes x ≡ Ok c) (sym (offset_is le bytes s c h.0)) h.0, carried_there le bytes (s + cmdsize_of c) cs h.1)

pub carried_begins : (le : Endian) (bytes : List ℕ) (s : ℕ) (cs : List Command) → Carries le bytes s cs → BeginsAt s cs
carried_begins le bytes s [] h = tt
carried_begins le bytes s (c ∷ cs) h = offset_is le bytes s c h.0

pub carried_linked : (le : Endian) (bytes : List ℕ) (s : ℕ) (cs : List Command) → Carries le bytes s cs → IsLinked cs
carried_linked le bytes s [] h = tt
carried_linked le bytes s (c ∷ []) h = tt
carried_linked le bytes s (c ∷ d ∷ cs) h = (
  offset_is le bytes (s + cmdsize_of c) d h.1.0 ∙ ap (λ (x : ℕ). x + cmdsize_of c) (sym (offset_is le bytes s c h.0)),
  carried_linked le bytes (s + cmdsize_of c) (d ∷ cs) h.1,
)

pub chain_carried : (le : Endian) (bytes : List ℕ) (s : ℕ) (cs : List Command) → Carries le bytes s cs → IsChain le bytes s cs
chain_carried le bytes s cs h = record {
  there = carried_there le bytes s cs h;
  begins = carried_begins le bytes s cs h;
  linked = carried_linked le bytes s cs h;
}

pub chain_carries : (le : Endian) (bytes : List ℕ) (s : ℕ) (cs : List Command) → IsChain le bytes s cs → Carries le bytes s cs
chain_carries le bytes s cs h = carries le bytes s cs h.there h.begins h.linked

-- the place after the last
pub end_carried : (le : Endian) (bytes : List ℕ) (s : ℕ) (c : Command) (cs : List Command) → Carries le bytes s (c ∷ cs)
    → chain_end s (c ∷ cs) ≡ chain_end (s + cmdsize_of c) cs
end_carried le bytes s c [] h = ap (λ (x : ℕ). x + cmdsize_of c) (offset_is le bytes s c h.0)
end_carried le bytes s c (d ∷ []) h = refl
end_carried le bytes s c (d ∷ e ∷ cs) h = end_anywhere s (s + cmdsize_of c) e cs
  where
    end_anywhere : (s t : ℕ) (c : Command) (cs : List Command) → chain_end s (c ∷ cs) ≡ chain_end t (c ∷ cs)
    end_anywhere s t c [] = refl
    end_anywhere s t c (d ∷ cs) = end_anywhere s t d cs

-- a chain grows by the command at its end
Carries-push : (le : Endian) (bytes : List ℕ) (s : ℕ) (cs : List Command) (c : Command) → Carries le bytes s cs → command_at le bytes (chain_end s cs) ≡ Ok c
    → Carries le bytes s (cs ++ c ∷ [])
Carries-push le bytes s [] c h e = (e, tt)
Carries-push le bytes s (d ∷ ds) c h e =
    (h.0, Carries-push le bytes (s + cmdsize_of d) ds c h.1 (subst (λ (x : ℕ). command_at le bytes x ≡ Ok c) (end_carried le bytes s d ds h) e))

pub IsChain-push : (le : Endian) (bytes : List ℕ) (s : ℕ) (cs : List Command) (c : Command) → IsChain le bytes s cs
    → command_at le bytes (chain_end s cs) ≡ Ok c → IsChain le bytes s (cs ++ c ∷ [])
IsChain-push le bytes s cs c h e = chain_carried le bytes s (cs ++ c ∷ []) (Carries-push le bytes s cs c (chain_carries le bytes s cs h) e)

pub chain_end-push : (s : ℕ) (cs : List Command) (c : Command) → chain_end s (cs ++ c ∷ []) ≡ c.offset + cmdsize_of c
chain_end-push s [] c = refl
chain_end-push s (d ∷ []) c = refl
chain_end-push s (d ∷ e ∷ cs) c = chain_end-push s (e ∷ cs) c

same_first : (le : Endian) (bytes : List ℕ) (s : ℕ) (c d : Command) → command_at le bytes s ≡ Ok c → command_at le bytes s ≡ Ok d → c ≡ d
same_first le bytes s c d p q = same_ok (sym p ∙ q)

same_carried : (le : Endian) (bytes : List ℕ) (s : ℕ) (cs ds : List Command) → Carries le bytes s cs → Carries le bytes s ds → length cs ≡ length ds → cs ≡ ds
same_carried le bytes s [] [] p q e = refl
same_carried le bytes s [] (d ∷ ds) p q e = absurd (omega arith)
same_carried le bytes s (c ∷ cs) [] p q e = absurd (omega arith)
same_carried le bytes s (c ∷ cs) (d ∷ ds) p q e =
    let same = same_first le bytes s c d p.0 q.0 in
    let q' : Carries le bytes (s + cmdsize_of c) ds = subst (λ (x : Command). Carries le bytes (s + cmdsize_of x) ds) (sym same) q.1 in
    let rest = same_carried le bytes (s + cmdsize_of c) cs ds p.1 q' (omega arith) in
    cc

-- at most one chain of a number of commands is at a place
pub same_chain : (le : Endian) (bytes : List ℕ) (s : ℕ) (cs ds : List Command) → IsChain le bytes s cs → IsChain le bytes s ds → length cs ≡ length ds → cs ≡ ds
same_chain le bytes s cs ds p q e = same_carried le bytes s cs ds (chain_carries le bytes s cs p) (chain_carries le bytes s ds q) e

broken_carried : (le : Endian) (bytes : List ℕ) (s : ℕ) (front cs : List Command) (f : Fault) → Carries le bytes s front → Carries le bytes s cs
    → length front < length cs → command_at le bytes (chain_end s front) ≡ Err f → ⊥
broken_carried le bytes s [] [] f p q lt e = omega arith
broken_carried le bytes s [] (c ∷ cs) f p q lt e = let h = q.0 in cc
broken_carried le bytes s (d ∷ ds) [] f p q lt e = omega arith
broken_carried le bytes s (d ∷ ds) (c ∷ cs) f p q lt e =
    let same = same_first le bytes s d c p.0 q.0 in
    let q' : Carries le bytes (s + cmdsize_of d) cs = subst (λ (x : Command). Carries le bytes (s + cmdsize_of x) cs) (sym same) q.1 in
    broken_carried le bytes (s + cmdsize_of d) ds cs f p.1 q' (omega arith) (subst (λ (x : ℕ). command_at le bytes x ≡ Err f) (end_carried le bytes s d ds p) e)

-- a broken chain is not a chain
pub broken-excludes_chain : (le : Endian) (bytes : List ℕ) (s n : ℕ) (f : Fault) (cs : List Command) → IsBroken le bytes s n f → IsChain le bytes s cs
    → length cs ≡ n → ⊥
broken-excludes_chain le bytes s n f cs broken chain count =
    broken_carried le bytes s broken.front cs f (chain_carries le bytes s broken.front broken.chain) (chain_carries le bytes s cs chain)
    (let few = broken.fewer in omega arith) broken.fault

among_carried : (le : Endian) (bytes : List ℕ) (s : ℕ) (front cs : List Command) (c : Command) → Carries le bytes s front → Carries le bytes s cs
    → length front ≤ length cs → IsAmong c front → IsAmong c cs
among_carried le bytes s [] cs c p q few among = absurd among
among_carried le bytes s (d ∷ ds) [] c p q few among = absurd (omega arith)
among_carried le bytes s (d ∷ ds) (e ∷ es) c p q few among =
    let same = same_first le bytes s d e p.0 q.0 in
    let q' : Carries le bytes (s + cmdsize_of d) es = subst (λ (x : Command). Carries le bytes (s + cmdsize_of x) es) (sym same) q.1 in
    elim among [
      | inl here ↦ inl (here ∙ same)
      | inr later ↦ inr (among_carried le bytes (s + cmdsize_of d) ds es c p.1 q' (omega arith) later)
    ]

-- a command of the first ones is one of the whole chain
pub among-front : (le : Endian) (bytes : List ℕ) (s : ℕ) (front cs : List Command) (c : Command) → IsChain le bytes s front → IsChain le bytes s cs
    → length front ≤ length cs → IsAmong c front → IsAmong c cs
among-front le bytes s front cs c p q few among =
    among_carried le bytes s front cs c (chain_carries le bytes s front p) (chain_carries le bytes s cs q) few among
