use Rattle.mach_dyld.proofs.BindNames.{◌≡◌, true, false, cases_lt, inl, inr, Bool, refl}
use Rattle.std.specs.Prelude.{not}
use Rattle.mach_dyld.specs.BindingFaults.{offset_at}
use Rattle.mach_dyld.proofs.BindingTurns.{ring_out, out_ring}
use Rattle.mach_dyld.proofs.stride.none_above.Goals as goal

yes_is_no : (b : Bool) → not b ≡ true → b ≡ true → ⊥
yes_is_no true e f = absurd (cc)
yes_is_no false e f = absurd (cc)

no_is_yes : (b : Bool) → not b ≡ false → b ≡ true
no_is_yes true e = refl
no_is_yes false e = absurd (cc)

pub returns-clause-yes : goal.returns-clause-yes
returns-clause-yes c = λ yes j lt.
    let highest = c.args.highest in
    elim (cases_lt highest (offset_at c.args.offset c.args.stride j)) [
      | inl out ↦
          let low = out_ring highest c.ranges.highest.fits c.args.offset c.args.stride j c.ranges.offset.fits out in
          absurd (yes_is_no c.any_below.result yes (c.any_below.ensures.1
          (rw (c.from.ensures, c.from-2.ensures, c.from-3.ensures, c.from-4.ensures) (j, lt, low))))
      | inr in_ ↦ in_
    ]

pub returns-clause-no : goal.returns-clause-no
returns-clause-no c = λ no.
    let found = c.any_below.ensures.0 (no_is_yes c.any_below.result no) in
    let same = rw (c.from.ensures, c.from-2.ensures, c.from-3.ensures, c.from-4.ensures) at found in
    (same.0, same.1, ring_out c.args.highest c.ranges.highest.fits c.args.offset c.args.stride same.0 c.ranges.offset.fits same.2)
