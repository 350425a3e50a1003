-- The segment that was opened last opens again by its number.
use Rattle.std.proofs.Common.{◌≡◌, ℕ, Bool, true, false, cond, not, ◌==◌, Option, Some, None, Result, Ok, Err, refl, sym, ap, subst, ◌∙◌, nat_le, arith}
use Rattle.mach_base.proofs.Binds.{bind_ok, same_ok}
use Rattle.mach_base.specs.Answer.{◌>>=◌}
use Rattle.mach_base.specs.Fault.{Fault, malformed}
use Rattle.mach_base.specs.Sums.{found_or_malformed}
use Rattle.mach_parts.specs.Segment.{SegmentView}
use Rattle.mach_records.specs.declared.fixup_chains.ChainedStartsInSegment.{ChainedStartsInSegment}
use Rattle.mach_chained.specs.Fixups.{FixupInput, Span, Ends, no_ends, in_memory, following, span_of, span_by}
unfoldable use Rattle.mach_chained.specs.Fixups.{span_at}
use Rattle.mach_chained.specs.Starts.{Chains, starts_at, chains_of}
use Rattle.std.specs.Prelude.{slice_get}
use Rattle.mach_base.specs.Number.{says_yes}
use Rattle.mach_chained.specs.Opened.{IsKnown, nothing_opened, span_or_nothing}
use Rattle.std.proofs.lemmas.Bool.{le-leb}

-- nothing comes before the first
first_after : (chains : Chains) (s : SegmentView) → following no_ends chains s ≡ Ok s
first_after chains s = rw (le-leb 0 chains.place (omega arith), le-leb 0 s.command.fileoff (omega arith)) refl

-- if a segment lies after another one, it is that segment
same_following : (before : Ends) (chains : Chains) (s t : SegmentView) → following before chains s ≡ Ok t → s ≡ t
same_following before chains s t e = by_tests (nat_le before.starts chains.place) (nat_le before.in_file s.command.fileoff) e
  where
    by_tests : (p q : Bool) → cond p (cond q (Ok s) (Err malformed)) (Err malformed) ≡ Ok t → s ≡ t
    by_tests true true e = same_ok e
    by_tests true false e = absurd (cc)
    by_tests false q e = absurd (cc)

-- a segment that lies after another one is the same without that one
abbrev then_span : Ends → ℕ → Chains → SegmentView → Result (Option Span) Fault
then_span before k chains h = following before chains h >>= λ (n : SegmentView). Ok (Some (span_of k chains n))

some_same : {r q : Span} → ◌≡◌ {A = Result (Option Span) Fault} (Ok (Some r)) (Ok (Some q)) → r ≡ q
some_same e = cc

span_same : (before : Ends) (k : ℕ) (chains : Chains) (h : SegmentView) (s : Span) → then_span before k chains h ≡ Ok (Some s) → span_of k chains h ≡ s
span_same before k chains h s e =
    let d = bind_ok (following before chains h) (λ (n : SegmentView). Ok (Some (span_of k chains n))) (Some s) e in
    ap (λ (n : SegmentView). span_of k chains n) (same_following before chains h d.0 d.1) ∙ some_same d.2

module _ (x : FixupInput) (before : Ends) (k : ℕ) (s : Span) where
  by_memory : (chains : Chains) (r : Result SegmentView Fault) → (r >>= then_span before k chains) ≡ Ok (Some s)
      → ((r >>= then_span no_ends k chains) ≡ Ok (Some s)) × (k ≡ s.number)
  by_memory chains (Ok h) e =
      let same = span_same before k chains h s e in (
        ap (λ (r : Result SegmentView Fault). r >>= λ (n : SegmentView). Ok (Some (span_of k chains n))) (first_after chains h)
            ∙ ap (λ (q : Span). Ok (Some q)) same,
        ap (λ (q : Span). q.number) same,
      )
  by_memory chains (Err f) e = absurd (cc)

  by_segment : (chains : Chains) (r : Result SegmentView Fault) → (r >>= λ (g : SegmentView). in_memory x chains g >>= then_span before k chains) ≡ Ok (Some s)
      → ((r >>= λ (g : SegmentView). in_memory x chains g >>= then_span no_ends k chains) ≡ Ok (Some s)) × (k ≡ s.number)
  by_segment chains (Ok g) e = by_memory chains (in_memory x chains g) e
  by_segment chains (Err f) e = absurd (cc)

  by_chains : (r : Result Chains Fault)
      → (r >>= λ (chains : Chains). found_or_malformed (slice_get x.segments k) >>= λ (g : SegmentView). in_memory x chains g >>= then_span before k chains)
      ≡ Ok (Some s)
      → ((r >>= λ (chains : Chains). found_or_malformed (slice_get x.segments k) >>= λ (g : SegmentView). in_memory x chains g >>= then_span no_ends k chains)
      ≡ Ok (Some s)) × (k ≡ s.number)
  by_chains (Ok chains) e = by_segment chains (found_or_malformed (slice_get x.segments k)) e
  by_chains (Err f) e = absurd (cc)

  by_starts : (r : Result (Option (ChainedStartsInSegment × ℕ)) Fault) → (r >>= span_by x before k) ≡ Ok (Some s)
      → ((r >>= span_by x no_ends k) ≡ Ok (Some s)) × (k ≡ s.number)
  by_starts (Ok None) e = absurd (cc)
  by_starts (Ok (Some starts)) e = by_chains (chains_of starts.0 starts.1) e
  by_starts (Err f) e = absurd (cc)

-- by its number
pub opens_again : (x : FixupInput) (before : Ends) (k : ℕ) (s : Span) → span_at x before k ≡ Ok (Some s) → span_at x no_ends s.number ≡ Ok (Some s)
unfolding span_at
opens_again x before k s e =
    let again = by_starts x before k s (starts_at x.fixups k) e in subst (λ (n : ℕ). span_at x no_ends n ≡ Ok (Some s)) again.1 again.0

-- a known segment is the one that opens by its number
pub known_span : (x : FixupInput) (b : Bool) (s : Span) (n : ℕ) → says_yes n ≡ b → IsKnown x b s
    → cond (n == 0) nothing_opened (span_or_nothing (span_at x no_ends s.number)) ≡ s
known_span x b s n e known = by_test (n == 0) b e known
  where
    by_test : (t c : Bool) → not t ≡ c → IsKnown x c s → cond t nothing_opened (span_or_nothing (span_at x no_ends s.number)) ≡ s
    by_test true true e known = absurd (cc)
    by_test true false e known = sym known
    by_test false true e known = ap span_or_nothing known
    by_test false false e known = absurd (cc)
