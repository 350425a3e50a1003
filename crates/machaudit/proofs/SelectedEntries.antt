-- The entries of a fat file that are for a cpu, audited in order.
use Rattle.std.proofs.Common.{◌≡◌, ◌∙◌, ◌⊎◌, ◌<◌, ◌≤◌, ◌+◌, ℕ, List, length, get_or, inl, inr, leb, max, true, false}
use Rattle.std.proofs.Common.{sym, ap, subst, arith}
use Rattle.std.proofs.lemmas.Option.{slice_get-get_or, get_or_from_slice_get}
use Rattle.std.proofs.lemmas.Bool.Decides.{leb_tells}
use Rattle.mach_parts.specs.Fat.{part_of}
use Rattle.mach_parts.specs.declared.fat.FatArch.{FatArch}
use Rattle.mach_cli.specs.Cpus.{is_selected}
use Rattle.mach_cli.specs.declared.cpu.Cpu.{Cpu}
use Rattle.machaudit.specs.Selected.{EntriesFail, IsFailing, SoundBefore}
use Rattle.mach_audit.specs.Sound.{IsSound}

by_size : (m n k : ℕ) → k ≡ max m n → ((leb m n ≡ true) × (m ≤ n)) ⊎ ((leb m n ≡ false) × (n < m)) → (k ≡ m) ⊎ (k ≡ n)
by_size m n k is (inl h) = inr (omega (arith, is, h.1))
by_size m n k is (inr h) = inl (omega (arith, is, h.1))

-- the greater of two is one of them
one_of : (m n k : ℕ) → k ≡ max m n → (k ≡ m) ⊎ (k ≡ n)
one_of m n k is = by_size m n k is (leb_tells m n)

module _ (cpu : Cpu) (limit : ℕ) (bytes : List ℕ) (archs : List FatArch) where
  -- the first i were audited, and this is the worst status
  pub record GoesOver (i worst : ℕ) : Type 0 where
    pub bound : worst ≤ 1
    pub sound : worst ≡ 0 → SoundBefore cpu bytes archs i
    pub failing : worst ≡ 1 → EntriesFail cpu limit bytes archs

  pub none_over : GoesOver 0 0
  none_over = record {
    bound = omega arith;
    sound = λ zero k arch below is selected. absurd (omega (arith, below));
    failing = λ one. absurd (omega (arith, one));
  }

  by_order : (k i : ℕ) → k < i + 1 → ((leb i k ≡ true) × (i ≤ k)) ⊎ ((leb i k ≡ false) × (k < i)) → (k < i) ⊎ (k ≡ i)
  by_order k i below (inl h) = inr (omega (arith, below, h.1))
  by_order k i below (inr h) = inl h.1

  -- what holds of the first i, and of the next if it is selected, holds of one more
  sound_more : (i : ℕ) (d : FatArch) → SoundBefore cpu bytes archs i
      → (is_selected cpu (get_or archs i d) ≡ true → IsSound (part_of bytes (get_or archs i d).offset (get_or archs i d).size))
      → SoundBefore cpu bytes archs (i + 1)
  sound_more i d before here k arch below is selected = by_number (by_order k i below (leb_tells i k))
    where
      by_number : (k < i) ⊎ (k ≡ i) → IsSound (part_of bytes arch.offset arch.size)
      by_number (inl front) = before k arch front is selected
      by_number (inr same) =
          let this : get_or archs i d ≡ arch = ap (λ (n : ℕ). get_or archs n d) (sym same) ∙ get_or_from_slice_get archs k arch d is in
          subst (λ (a : FatArch). IsSound (part_of bytes a.offset a.size)) this (here (ap (is_selected cpu) this ∙ selected))

  -- the next isn't selected
  pub passed : (i worst : ℕ) (d : FatArch) → is_selected cpu (get_or archs i d) ≡ false → GoesOver i worst → GoesOver (i + 1) worst
  passed i worst d other goes = record {
    bound = goes.bound;
    sound = λ zero. sound_more i d (goes.sound zero) (λ selected. absurd (cc));
    failing = goes.failing;
  }

  -- the next is selected, and has a status of its own
  pub audited : (i worst status next : ℕ) (d : FatArch) → i < length archs → is_selected cpu (get_or archs i d) ≡ true → status ≤ 1
      → (status ≡ 0 → IsSound (part_of bytes (get_or archs i d).offset (get_or archs i d).size))
      → (status ≡ 1 → IsFailing limit (part_of bytes (get_or archs i d).offset (get_or archs i d).size))
      → next ≡ max worst status → GoesOver i worst → GoesOver (i + 1) next
  audited i worst status next d inside selected bound sound failing greater goes = record {
    bound = next_bound (one_of worst status next greater);
    sound = λ zero. sound_more i d (goes.sound (omega (arith, greater, zero))) (λ _. sound (omega (arith, greater, zero)));
    failing = next_failing (one_of worst status next greater);
  }
    where
      next_bound : (next ≡ worst) ⊎ (next ≡ status) → next ≤ 1
      next_bound (inl is) = omega (arith, is, goes.bound)
      next_bound (inr is) = omega (arith, is, bound)

      next_failing : (next ≡ worst) ⊎ (next ≡ status) → next ≡ 1 → EntriesFail cpu limit bytes archs
      next_failing (inl is) same = goes.failing (omega (arith, is, same))
      next_failing (inr is) same = record {
        index = i;
        arch = get_or archs i d;
        is_record = slice_get-get_or archs i d inside;
        selected = selected;
        fails = failing (omega (arith, is, same));
      }
