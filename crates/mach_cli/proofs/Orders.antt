-- Things that are shown in order, one after the other.
use Rattle.std.proofs.Common.{◌≡◌, ◌∷◌, [], ℕ, List, Option, Result, sym, subst, map, arith}
use Rattle.std.proofs.Math.Nat.{max-zero, zero-max}
use Rattle.std.specs.Prelude.{max}
use Rattle.std.specs.declared.io.buffered.BufWriter.{BufWriter}
use Rattle.mach_base.specs.Fault.{Fault}
use Rattle.mach_cli.specs.InOrder.{InOrder, first_then, none_left}
use Rattle.mach_cli.specs.Labels.{LabelView}
use Rattle.mach_cli.specs.ShownCalls.{Manner, ShowsPartAs}
use Rattle.mach_cli.specs.ShownParts.{PartShown}
use Rattle.mach_cli.specs.declared.entries.OutOfFile.{OutOfFile}
use Rattle.mach_cli.specs.declared.titled.Titled.{Titled}

max_three : (a b c : ℕ) → max a (max b c) ≡ max (max a b) c
max_three a b c = omega arith

module _ {X W : Type 0} (Shows : X → W → W → ℕ → Type 0) where
  -- Those left, from here on, complete all. The worst status so far counts.
  abbrev pub Completes : (all : List X) → (start : W) → (left : List X) → (here : W) → (worst : ℕ) → Type 0
  Completes all start left here worst = (end : W) (status : ℕ) → InOrder Shows left here end status → InOrder Shows all start end (max worst status)

  pub at_first : (all : List X) (start : W) → Completes all start all start 0
  at_first all start end status rest = subst (InOrder Shows all start end) (sym (zero-max status)) rest

  pub one_more : (all : List X) (start here there : W) (left : List X) (x : X) (rest : List X) (worst status : ℕ) → left ≡ x ∷ rest
      → Completes all start left here worst → Shows x here there status → Completes all start rest there (max worst status)
  one_more all start here there left x rest worst status is before one end more later =
      subst (InOrder Shows all start end) (max_three worst status more)
      (before end (max status more)
      (subst (λ (xs : List X). InOrder Shows xs here end (max status more)) (sym is)
      (first_then x rest here there end status more one later)))

  pub at_last : (all : List X) (start here : W) (left : List X) (worst : ℕ) → left ≡ []
      → Completes all start left here worst → InOrder Shows all start here worst
  at_last all start here left worst is before =
      subst (InOrder Shows all start here) (max-zero worst)
      (before here 0 (subst (λ (xs : List X). InOrder Shows xs here here 0) (sym is) (none_left here)))

-- what is shown in order by a view
pub of_views : {X Y W : Type 0} (view : X → Y) (Shows : Y → W → W → ℕ → Type 0) (xs : List X) (old new : W) (worst : ℕ)
    → InOrder (λ x. Shows (view x)) xs old new worst → InOrder Shows (map view xs) old new worst
of_views view Shows [] old new worst (none_left writer) = none_left writer
of_views view Shows (x ∷ xs) old new worst (first_then _ _ _ between _ status later one more) =
    first_then (view x) (map view xs) old between new status later one (of_views view Shows xs between new later more)

-- what is shown of a part, by equal facts of it
pub part_as : {W B : Type 0} (m : Manner W B) (file : List ℕ) (label : LabelView) (old new : BufWriter (Titled W) B) (outside there : Option OutOfFile)
    (part read : Result PartShown Fault) (status is : ℕ) → outside ≡ there → part ≡ read → status ≡ is
    → ShowsPartAs m file label old new outside part status → ShowsPartAs m file label old new there read is
part_as m file label old new outside there part read status is place content same shown =
    subst (λ (s : ℕ). ShowsPartAs m file label old new there read s) same
    (subst (λ (p : Result PartShown Fault). ShowsPartAs m file label old new there p status) content
    (subst (λ (o : Option OutOfFile). ShowsPartAs m file label old new o part status) place shown))
