-- The items of the turns of one instruction: of weak binds, and of rebases.
use Rattle.std.proofs.Common.{◌≡◌, ℕ, ◌+◌, ◌<◌, ◌≤◌, ◌^◌, true, false, Some, None, Ok, Err, refl, arith, inl, inr}
use Rattle.std.proofs.Math.Nat.{le-min}
use Rattle.std.proofs.lemmas.Bool.{cases_lt, le-leb, lt-leb, lt-ltb, le-ltb}
use Rattle.std.specs.Prelude.{slice_get}
use Rattle.mach_base.specs.Fault.{malformed}
use Rattle.mach_base.specs.declared.context.Endian.{Endian}
use Rattle.mach_parts.specs.Segment.{SegmentView}
use Rattle.mach_dyld.specs.Binds.{Bind}
unfoldable use Rattle.mach_dyld.specs.Bindings.{spot_of}
use Rattle.mach_dyld.specs.Streams.{Input}
use Rattle.mach_dyld.specs.WeakBinds.{WeakSet, is_weak_complete, weakly_bound_at}
unfoldable use Rattle.mach_dyld.specs.WeakBinds.{weak_bind_of}
use Rattle.mach_dyld.specs.Rebases.{RebaseSet, rebase_kind_of, rebase_with}
unfoldable use Rattle.mach_dyld.specs.Rebases.{rebase_of}
use Rattle.mach_dyld.specs.RebasesLeft.{highest_rebase}
use Rattle.mach_dyld.specs.declared.rebases.RebaseKind.{RebaseKind}

-- ---- weak binds

module _ (x : Input) (g : WeakSet) (b : Bind) where
  pub weak_incomplete : is_weak_complete g ≡ false → weak_bind_of x g b ≡ Err malformed
  unfolding weak_bind_of
  weak_incomplete e = rw e refl

  module _ (whole : is_weak_complete g ≡ true) where
    pub weak_inside : (spot : ℕ × ℕ) → spot_of x.pointer x.segments b.segment b.offset ≡ Ok spot → weak_bind_of x g b ≡ Ok (weakly_bound_at b spot)
    unfolding weak_bind_of
    weak_inside spot e = rw (whole, e) refl

    pub weak_outside : spot_of x.pointer x.segments b.segment b.offset ≡ Err malformed → weak_bind_of x g b ≡ Err malformed
    unfolding weak_bind_of
    weak_outside e = rw (whole, e) refl

-- ---- rebases

module _ (x : Input) (le : Endian) (g : RebaseSet) (b : Bind) where
  pub no_segment_set : g.has_segment ≡ false → rebase_of x le g b ≡ Err malformed
  unfolding rebase_of
  no_segment_set e = rw e refl

  module _ (set : g.has_segment ≡ true) where
    pub no_kind : rebase_kind_of g.kind ≡ None → rebase_of x le g b ≡ Err malformed
    unfolding rebase_of
    no_kind e = rw (set, e) refl

    module _ (k : RebaseKind) (typed : rebase_kind_of g.kind ≡ Some k) where
      pub no_segment_there : slice_get x.segments b.segment ≡ None → rebase_of x le g b ≡ Err malformed
      unfolding rebase_of
      no_segment_there e = rw (set, typed, e) refl

      module _ (s : SegmentView) (there : slice_get x.segments b.segment ≡ Some s) where
        pub segment_small : s.command.vmsize < x.pointer → rebase_of x le g b ≡ Err malformed
        unfolding rebase_of
        segment_small small = rw (set, typed, there, lt-leb (b.offset + x.pointer) s.command.vmsize (omega (arith, small))) refl

        module _ (large : x.pointer ≤ s.command.vmsize) (address : s.command.vmaddr < 2 ^ 64) where
          pub rebase_inside : b.offset ≤ highest_rebase x.pointer s → rebase_of x le g b ≡ Ok (rebase_with x le b k s (s.command.vmaddr + b.offset))
          unfolding rebase_of
          rebase_inside inside =
              rw (
                set,
                typed,
                there,
                le-leb (b.offset + x.pointer) s.command.vmsize (omega (arith, inside, large)),
                lt-ltb (s.command.vmaddr + b.offset) (2 ^ 64) (omega (arith, inside, address)),
              ) refl

          pub rebase_outside : highest_rebase x.pointer s < b.offset → rebase_of x le g b ≡ Err malformed
          unfolding rebase_of
          rebase_outside out = elim (cases_lt s.command.vmsize (b.offset + x.pointer)) [
            | inl past ↦ rw (set, typed, there, lt-leb (b.offset + x.pointer) s.command.vmsize past) refl
            | inr holds ↦ elim (cases_lt (s.command.vmaddr + b.offset) (2 ^ 64)) [
              | inr past ↦
                  rw (
                    set,
                    typed,
                    there,
                    le-leb (b.offset + x.pointer) s.command.vmsize holds,
                    le-ltb (s.command.vmaddr + b.offset) (2 ^ 64) past,
                  ) refl
              | inl fits ↦
                  let inside : b.offset ≤ highest_rebase x.pointer s = le-min (omega (arith, holds)) (omega (arith, fits)) in
                  absurd (omega (arith, inside, out))
            ]
          ]
