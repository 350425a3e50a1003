-- What bytes are entitlements, step by step.
use Rattle.std.proofs.Common.{◌≡◌, ◌∙◌, ℕ, List, Bool, true, false, cond, Option, Result, Ok, Err, length, nat_lt, refl, sym, ap, subst}
use Rattle.std.specs.Prelude.{◌&&◌, IsErr}
use Rattle.mach_base.specs.Answer.{◌>>=◌}
use Rattle.mach_base.specs.Fault.{Fault, malformed}
use Rattle.mach_signature.specs.EntitlementAgreement.{entitled_after, entitled_in, finish_in, finished, most_bytes, start_in}
use Rattle.mach_signature.specs.EntitlementReads.{end_in, entries_at, rest_or}
use Rattle.mach_signature.specs.EntitlementSpans.{SpanView}
use Rattle.mach_signature.specs.EntitlementValues.{Entitled}
use Rattle.mach_signature.specs.EntitlementXml.{most_steps}
use Rattle.mach_signature.specs.declared.entitlements.parts.Group.TheVariants.{Dictionary}
use Rattle.mach_signature.specs.declared.entitlements.parts.Notation.{Notation}
use Rattle.mach_signature.proofs.EntitlementSteps.{both_read, then_read, then_refused}

is_refused : {A : Type 0} (r : Result A Fault) (f : Fault) → r ≡ Err f → IsErr r
is_refused {A} r f e = subst (λ (x : Result A Fault). IsErr x) (sym e) refl

abbrev refused : Result Entitled Fault
refused = Err malformed

-- entitlements of too many bytes
pub too_long : (n : Notation) (bytes : List ℕ) → nat_lt most_bytes (length bytes) ≡ true → IsErr (entitled_in n bytes)
unfolding entitled_in
too_long n bytes long = is_refused (entitled_in n bytes) malformed
    (ap (λ (b : Bool). cond b refused (start_in n bytes >>= entitled_after n)) long)

module _ (n : Notation) (bytes : List ℕ) (short : nat_lt most_bytes (length bytes) ≡ false) where
  is_start : entitled_in n bytes ≡ start_in n bytes >>= entitled_after n
  unfolding entitled_in
  is_start = ap (λ (b : Bool). cond b refused (start_in n bytes >>= entitled_after n)) short

  -- their start can't be read
  pub not_started : (f : Fault) → start_in n bytes ≡ Err f → IsErr (entitled_in n bytes)
  not_started f e = is_refused (entitled_in n bytes) f (is_start ∙ then_refused (start_in n bytes) (entitled_after n) f e)

  module _ (start : SpanView × Option SpanView) (starts : start_in n bytes ≡ Ok start) where
    after_start : entitled_in n bytes ≡ entries_at most_steps Dictionary start.0 >>= finished n start.1
    after_start = is_start ∙ then_read (start_in n bytes) (entitled_after n) start starts

    -- a value can't be read
    pub not_ended : (f : Fault) → end_in (entries_at most_steps Dictionary start.0) ≡ Err f → IsErr (entitled_in n bytes)
    not_ended f e =
        let is = refused_end (entries_at most_steps Dictionary start.0) f e in
        is_refused (entitled_in n bytes) f (after_start ∙ then_refused (entries_at most_steps Dictionary start.0) (finished n start.1) f is)
      where
        refused_end : (r : Result (Entitled × SpanView) Fault) (f : Fault) → end_in r ≡ Err f → r ≡ Err f
        refused_end (Ok x) f e = absurd (cc)
        refused_end (Err g) f e = cc

    -- something else follows
    pub not_finished : (end : SpanView) (f : Fault) → end_in (entries_at most_steps Dictionary start.0) ≡ Ok end
        → finish_in n (rest_or start.1 end).bytes ≡ Err f → IsErr (entitled_in n bytes)
    not_finished end f e refuses =
        let x = both_read (entries_at most_steps Dictionary start.0) (λ x. Ok x.1) end e in
        let same : x.first.1 ≡ end = ok_end x.first.1 end x.is_second in
        let last : finish_in n (rest_or start.1 x.first.1).bytes ≡ Err f =
        ap (λ (s : SpanView). finish_in n (rest_or start.1 s).bytes) same ∙ refuses in
        is_refused (entitled_in n bytes) f
        (after_start ∙ (then_read (entries_at most_steps Dictionary start.0) (finished n start.1) x.first x.is_first
        ∙ then_refused (finish_in n (rest_or start.1 x.first.1).bytes) (λ last. Ok x.first.0) f last))
      where
        ok_end : (a b : SpanView) → ◌≡◌ {A = Result SpanView Fault} (Ok a) (Ok b) → a ≡ b
        ok_end a b e = cc

    -- all was read
    pub read_whole : (end : SpanView) (last : List ℕ) → end_in (entries_at most_steps Dictionary start.0) ≡ Ok end
        → finish_in n (rest_or start.1 end).bytes ≡ Ok last
        → (x : Entitled × SpanView) × (entries_at most_steps Dictionary start.0 ≡ Ok x) × (entitled_in n bytes ≡ Ok x.0)
    read_whole end last e finishes =
        let x = both_read (entries_at most_steps Dictionary start.0) (λ x. Ok x.1) end e in
        let same : x.first.1 ≡ end = ok_end x.first.1 end x.is_second in
        let here : finish_in n (rest_or start.1 x.first.1).bytes ≡ Ok last =
        ap (λ (s : SpanView). finish_in n (rest_or start.1 s).bytes) same ∙ finishes in (
          x.first,
          x.is_first,
          after_start ∙ (then_read (entries_at most_steps Dictionary start.0) (finished n start.1) x.first x.is_first
              ∙ then_read (finish_in n (rest_or start.1 x.first.1).bytes) (λ last. Ok x.first.0) last here),
        )
      where
        ok_end : (a b : SpanView) → ◌≡◌ {A = Result SpanView Fault} (Ok a) (Ok b) → a ≡ b
        ok_end a b e = cc

-- two equal conditions on each side
pub both_same : (a b s t : Bool) → a ≡ b → s ≡ t → (a && s) ≡ (b && t)
both_same a b s t e f = ap (λ (c : Bool). c && s) e ∙ ap (λ (c : Bool). b && c) f
