-- The stream of weak binds is a prefix of the bytes, and a name in it is in them.
use Rattle.std.proofs.Common.{◌≡◌, ◌≤◌, ◌+◌, ◌-◌, ◌∙◌, ◌⊎◌, [], ◌∷◌, ℕ, zero, suc, List, Option, Some, None, Ok, length, take, drop, refl, sym, ap}
use Rattle.std.proofs.Common.{subst, arith, inl, inr}
use Rattle.std.specs.Prelude.{option_map}
use Rattle.std.proofs.lemmas.List.{drop-take, take-take}
use Rattle.mach_base.specs.Record.{number_among, Value}
use Rattle.mach_load.specs.Command.{Command}
use Rattle.mach_load.specs.Commands.{Kind, dyld_info, dyld_info_only}
use Rattle.mach_dyld.specs.BindCursors.{TextIsAt}
use Rattle.mach_dyld.specs.Cut.{CutStream}
use Rattle.mach_dyld.specs.WeakBindsLeft.{weak_bind_view}
use Rattle.mach_dyld.specs.declared.weak_binds.WeakBind as declared
use Rattle.mach_dyld.specs.declared.weak_binds.WeakBind.TheVariants as variants
use Rattle.mach_c_places.specs.WeakCursors.{name_of_weak}
use Rattle.goblin_mach.specs.ImageStreams.{opcodes_of, weak_stream_by, weak_stream_in}
use Rattle.goblin_mach.specs.Readings.{keep, last_or, read_of}
use Rattle.goblin_mach_c.specs.BindingRows.{NameIsAt}
use Rattle.goblin_mach_c.specs.WeakRows.{weak_name}
use Rattle.goblin_mach_c.proofs.BoundNames.{text_occurs}

-- ---- a prefix of a list

pub front_within : (n : ℕ) (xs : List ℕ) → length (take n xs) ≤ n
front_within zero xs = omega arith
front_within (suc n) [] = omega arith
front_within (suc n) (x ∷ xs) = let rest = front_within n xs in omega (arith, rest)

front_shorter : (n : ℕ) (xs : List ℕ) → length (take n xs) ≤ length xs
front_shorter zero xs = omega arith
front_shorter (suc n) [] = omega arith
front_shorter (suc n) (x ∷ xs) = let rest = front_shorter n xs in omega (arith, rest)

pub front_occurs : (n : ℕ) (bytes : List ℕ) (place : ℕ) (name : List ℕ) → NameIsAt (take n bytes) place name → NameIsAt bytes place name
front_occurs n bytes place name there =
    let inner = there.within in
    let most = front_within n bytes in
    let short = front_shorter n bytes in
    let split : place + (n - place) ≡ n = omega (arith, inner, most) in
    let following : drop place (take n bytes) ≡ take (n - place) (drop place bytes) =
    ap (λ (m : ℕ). drop place (take m bytes)) (sym split) ∙ drop-take place (n - place) bytes in
    record {
      within = omega (arith, inner, short);
      there =
          sym (take-take (length name) (n - place) (drop place bytes) (omega (arith, inner, most)))
          ∙ ap (take (length name)) (sym following)
          ∙ there.there;
    }

-- the name of a weak bind
named : (w : declared.WeakBind) → name_of_weak w ≡ weak_name (weak_bind_view w)
named (variants.Strong name) = refl
named (variants.Bind binding) = refl

occurs_by : (n : ℕ) (bytes part : List ℕ) (place : ℕ) (name : List ℕ) → part ≡ take n bytes → TextIsAt part place name
    → (name ≡ []) ⊎ NameIsAt bytes place name
occurs_by n bytes part place name same (inl none) = inl none
occurs_by n bytes part place name same (inr text) =
    inr (front_occurs n bytes place name (subst (λ (b : List ℕ). NameIsAt b place name) same (text_occurs part place name text)))

pub weak_occurs : (n : ℕ) (bytes part : List ℕ) (w : declared.WeakBind) (place : ℕ) → part ≡ take n bytes → TextIsAt part place (name_of_weak w)
    → (weak_name (weak_bind_view w) ≡ []) ⊎ NameIsAt bytes place (weak_name (weak_bind_view w))
weak_occurs n bytes part w place same occurs =
    subst (λ (name : List ℕ). (name ≡ []) ⊎ NameIsAt bytes place name) (named w) (occurs_by n bytes part place (name_of_weak w) same occurs)

-- ---- the stream of an image

abbrev pub IsFront : List ℕ → CutStream → Type 0
IsFront bytes s = (n : ℕ) × (s.bytes ≡ take n bytes)

some_is : (v s : CutStream) → Some v ≡ Some s → v ≡ s
some_is v s e = cc

same_front : (bytes : List ℕ) (n : ℕ) (v s : CutStream) → v.bytes ≡ take n bytes → Some v ≡ Some s → IsFront bytes s
same_front bytes n v s is e = (n, ap (λ (x : CutStream). x.bytes) (sym (some_is v s e)) ∙ is)

of_kind : (k : Kind) (bytes : List ℕ) (values : List Value) (s : CutStream) → opcodes_of 6 7 k bytes values ≡ Some s → IsFront bytes s
of_kind dyld_info bytes values s e = same_front bytes (number_among values 6 + number_among values 7) _ s refl e
of_kind dyld_info_only bytes values s e = same_front bytes (number_among values 6 + number_among values 7) _ s refl e
of_kind _ bytes values s e = absurd (cc)

of_last : (bytes : List ℕ) (found : Option CutStream) (others : List CutStream) (d : Option CutStream) (s : CutStream)
    → ((u : CutStream) → found ≡ Some u → IsFront bytes u) → ((u : CutStream) → d ≡ Some u → IsFront bytes u)
    → ((e : Option CutStream) → ((u : CutStream) → e ≡ Some u → IsFront bytes u) → last_or e others ≡ Some s → IsFront bytes s)
    → last_or d (keep (option_map (λ v. Ok v) found) others) ≡ Some s → IsFront bytes s
of_last bytes None others d s one before rest is = rest d before is
of_last bytes (Some v) others d s one before rest is = rest (Some v) one is

of_commands : (bytes : List ℕ) (cs : List Command) (d : Option CutStream) (s : CutStream) → ((u : CutStream) → d ≡ Some u → IsFront bytes u)
    → last_or d (read_of (weak_stream_by bytes) cs) ≡ Some s → IsFront bytes s
of_commands bytes [] d s before is = before s is
of_commands bytes (c ∷ cs) d s before is =
    of_last bytes (opcodes_of 6 7 c.kind bytes c.values) (read_of (weak_stream_by bytes) cs) d s (of_kind c.kind bytes c.values) before
    (λ e some. of_commands bytes cs e s some) is

pub weak_is_front : (bytes : List ℕ) (cs : List Command) (s : CutStream) → weak_stream_in bytes cs ≡ Some s → IsFront bytes s
weak_is_front bytes cs s is = of_commands bytes cs None s (λ u wrong. absurd (cc)) is
