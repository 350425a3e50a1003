-- The counts of a header are those at its place.
use Rattle.std.proofs.Common.{◌≡◌, ℕ, ◌+◌, ◌<◌, ◌≤◌, true, List, length, drop, Option, Some, Ok, Err, nat_le, inl, inr, refl, ap, ◌∙◌, arith}
use Rattle.std.proofs.lemmas.Bool.{cases_lt, le-leb}
use Rattle.mach_base.specs.declared.context.Endian.{Endian}
use Rattle.mach_base.specs.declared.context.Container.{Container}
use Rattle.mach_base.specs.declared.context.Container.TheVariants.{Little, Big}
use Rattle.mach_base.specs.declared.context.Ctx.{Ctx}
use Rattle.mach_parts.specs.declared.header.Header.{Header}
use Rattle.mach_base.specs.Fault.{Fault}
use Rattle.mach_base.specs.Front.{front_at, value_of}
use Rattle.mach_parts.specs.Header.{header_in, header_front, IsHeader}
use Rattle.mach_parts.proofs.Headers.{header-found, header-missed}
use Rattle.goblin_mach.specs.Image.{LossyFault, short_header}
use Rattle.mach_base.specs.Number.{number}
use Rattle.mach_parts.specs.Magic.{magic_at, cputype_at, ncmds_at, sizeofcmds_at}

pub ncmds_in : (w : Container) (le : Endian) (bytes : List ℕ) (o : ℕ) → (header_in w le bytes o).ncmds ≡ number le 4 (drop (o + 16) bytes)
ncmds_in Little le bytes o = ap (λ (p : ℕ). number le 4 (drop p bytes)) (let e : o + 4 + 4 + 4 + 4 ≡ o + 16 = omega arith in e)
ncmds_in Big le bytes o = ap (λ (p : ℕ). number le 4 (drop p bytes)) (let e : o + 4 + 4 + 4 + 4 ≡ o + 16 = omega arith in e)

cputype_in : (w : Container) (le : Endian) (bytes : List ℕ) (o : ℕ) → (header_in w le bytes o).cputype ≡ number le 4 (drop (o + 4) bytes)
cputype_in Little le bytes o = refl
cputype_in Big le bytes o = refl

pub sizeofcmds_in : (w : Container) (le : Endian) (bytes : List ℕ) (o : ℕ) → (header_in w le bytes o).sizeofcmds ≡ number le 4 (drop (o + 20) bytes)
sizeofcmds_in Little le bytes o = ap (λ (p : ℕ). number le 4 (drop p bytes)) (let e : o + 4 + 4 + 4 + 4 + 4 ≡ o + 20 = omega arith in e)
sizeofcmds_in Big le bytes o = ap (λ (p : ℕ). number le 4 (drop p bytes)) (let e : o + 4 + 4 + 4 + 4 + 4 ≡ o + 20 = omega arith in e)

-- the counts of a header are those at its place
pub ncmds_is : (ctx : Ctx) (bytes : List ℕ) (o : ℕ) (h : Header) → IsHeader ctx bytes o h → h.ncmds ≡ ncmds_at ctx bytes o
ncmds_is ctx bytes o h e = ap (λ (x : Header). x.ncmds) e ∙ ncmds_in ctx.container ctx.le bytes o

pub sizeofcmds_is : (ctx : Ctx) (bytes : List ℕ) (o : ℕ) (h : Header) → IsHeader ctx bytes o h → h.sizeofcmds ≡ sizeofcmds_at ctx bytes o
sizeofcmds_is ctx bytes o h e = ap (λ (x : Header). x.sizeofcmds) e ∙ sizeofcmds_in ctx.container ctx.le bytes o

-- a magic is inside the bytes
pub magic-inside : (bytes : List ℕ) (o : ℕ) (found : ℕ × Option Ctx) → magic_at bytes o ≡ Ok found → o < length bytes
magic-inside bytes o found e = elim (cases_lt o (length bytes)) [
  | inl inside ↦ inside
  | inr out ↦ absurd (let test : nat_le (length bytes) o ≡ true = le-leb (length bytes) o out in let wrong = rw test at e in cc)
]

-- at a magic, the only reason why no header is found is that there are fewer than 32 bytes
pub header-short : (ctx : Ctx) (bytes : List ℕ) (o magic : ℕ) (f : Fault) → magic_at bytes o ≡ Ok (magic, Some ctx)
    → value_of (front_at (header_front ctx) bytes o) ≡ Err f → LossyFault bytes o f
header-short ctx bytes o magic f there e =
    let missed = header-missed ctx bytes o f (magic-inside bytes o (magic, Some ctx) there) e in
    rw missed.1 (short_header magic ctx there missed.0)

cputype_is : (ctx : Ctx) (bytes : List ℕ) (o : ℕ) (h : Header) → IsHeader ctx bytes o h → h.cputype ≡ cputype_at ctx bytes o
cputype_is ctx bytes o h e = ap (λ (x : Header). x.cputype) e ∙ cputype_in ctx.container ctx.le bytes o

-- a header that is found has 32 bytes, its counts and its cpu
pub header-known : (ctx : Ctx) (bytes : List ℕ) (o : ℕ) (h : Header) → value_of (front_at (header_front ctx) bytes o) ≡ Ok h
    → (o + 32 ≤ length bytes) × IsHeader ctx bytes o h × (h.ncmds ≡ ncmds_at ctx bytes o)
    × (h.sizeofcmds ≡ sizeofcmds_at ctx bytes o) × (h.cputype ≡ cputype_at ctx bytes o)
header-known ctx bytes o h e =
    let found = header-found ctx bytes o h e in
    (found.0, found.1, ncmds_is ctx bytes o h found.1, sizeofcmds_is ctx bytes o h found.1, cputype_is ctx bytes o h found.1)
