-- The members of an archive, audited in order.
use Rattle.std.proofs.Common.{◌≡◌, ◌<◌, ◌≤◌, ◌++◌, ◌∷◌, ◌∙◌, [], ℕ, Bool, true, false, List, length, take, take_all, Result, refl, sym, ap, subst, arith}
use Rattle.std.proofs.Common.{append_assoc, inl, inr}
use Rattle.std.proofs.lemmas.Bool.{le-ltb, lt-ltb}
use Rattle.std.proofs.lemmas.List.{append-nil, length-append, take-append-le}
use Rattle.std.proofs.lemmas.Slice.Zip.{all_zipped_more}
use Rattle.std.specs.List.{AllByRecursion, AllZip}
use Rattle.std.specs.Prelude.{nat_lt}
use Rattle.mach_archive.specs.Members.{MemberView}
use Rattle.mach_base.specs.Fault.{Fault}
use Rattle.mach_audit.proofs.Judgements.{after_first, both_judged, cut_judged, judged_as, sound_judged}
use Rattle.mach_audit.specs.Report.{IsMemberReport, ReportsMembers}
use Rattle.mach_audit.specs.Sound.{AreLongMembers, HasLongMember, IsLongMember, IsSoundMember}
use Rattle.mach_audit.specs.Verdicts.{Judges, verdict_of_all, verdict_of_archive, verdict_of_both, verdict_of_cut, verdict_of_member}
use Rattle.mach_audit.specs.declared.report.ArchiveReport.{ArchiveReport}
use Rattle.mach_audit.specs.declared.report.MemberReport.{MemberReport}

abbrev pub Item : Type 0
Item = Result MemberView Fault

all_front : {X : Type 0} (P : X → Type 0) (xs ys : List X) → AllByRecursion P (xs ++ ys) → AllByRecursion P xs
all_front P [] ys all = tt
all_front P (x ∷ xs) ys all = (all.0, all_front P xs ys all.1)

module _ {A : Type 0} (limit : ℕ) where
  -- the report of an item, and the verdict on it
  abbrev pub IsAudited : Item → MemberReport A → Type 0
  IsAudited m r = IsMemberReport limit m r × Judges (IsSoundMember m) (IsLongMember limit m) (verdict_of_member r)

  all_reported : (ms : List Item) (rs : List (MemberReport A)) → AllZip IsAudited ms rs → AllZip (IsMemberReport limit) ms rs
  all_reported [] [] all = tt
  all_reported [] (r ∷ rs) all = all
  all_reported (m ∷ ms) [] all = all
  all_reported (m ∷ ms) (r ∷ rs) all = (all.0.0, all_reported ms rs all.1)

  all_judged : (ms : List Item) (rs : List (MemberReport A)) → AllZip IsAudited ms rs
      → Judges (AllByRecursion IsSoundMember ms) (HasLongMember limit ms) (verdict_of_all verdict_of_member rs)
  all_judged [] [] all = sound_judged tt (λ l. l)
  all_judged [] (r ∷ rs) all = absurd all
  all_judged (m ∷ ms) [] all = absurd all
  all_judged (m ∷ ms) (r ∷ rs) all = both_judged _ _ all.0.1 (all_judged ms rs all.1)

  same_count : (ms : List Item) (rs : List (MemberReport A)) → AllZip IsAudited ms rs → length ms ≡ length rs
  same_count [] [] all = refl
  same_count [] (r ∷ rs) all = absurd all
  same_count (m ∷ ms) [] all = absurd all
  same_count (m ∷ ms) (r ∷ rs) all = omega (arith, same_count ms rs all.1)

  -- of all items these are left; the others have these reports
  pub record GoesOver (all left : List Item) (reports : List (MemberReport A)) : Type 0 where
    pub done : List Item
    pub same : all ≡ done ++ left
    pub audited : AllZip IsAudited done reports
    pub few : length reports ≤ limit

  pub none_over : (all left : List Item) → left ≡ all → GoesOver all left []
  none_over all left is = record { done = []; same = sym is; audited = tt; few = omega arith }

  pub one_over : (all left rest : List Item) (m : Item) (rs : List (MemberReport A)) (r : MemberReport A) → GoesOver all left rs → left ≡ m ∷ rest
      → length rs < limit → IsAudited m r → GoesOver all rest (rs ++ r ∷ [])
  one_over all left rest m rs r goes steps less here = record {
    done = goes.done ++ m ∷ [];
    same = goes.same ∙ ap (λ (xs : List Item). goes.done ++ xs) steps ∙ sym (append_assoc goes.done (m ∷ []) rest);
    audited = all_zipped_more IsAudited goes.done rs m r goes.audited here;
    few = omega (arith, less, length-append rs (r ∷ []));
  }

  -- The audit ends at the limit with an item left, or with none left.
  abbrev pub IsEnd : (left : List Item) → List (MemberReport A) → (cut : Bool) → Type 0
  IsEnd left rs true = (limit ≤ length rs) × (0 < length left)
  IsEnd left rs false = left ≡ []

  module _ (all left : List Item) (rs : List (MemberReport A)) (goes : GoesOver all left rs) where
    whole : left ≡ [] → all ≡ goes.done
    whole none = goes.same ∙ ap (λ (xs : List Item). goes.done ++ xs) none ∙ append-nil goes.done

    count : length goes.done ≡ length rs
    count = same_count goes.done rs goes.audited

    first : (cut : Bool) → IsEnd left rs cut → goes.done ≡ take limit all
    first true end =
        let full : limit ≤ length goes.done = omega (arith, end.0, count) in
        sym (ap (take limit) goes.same ∙ take-append-le limit goes.done left full ∙ take_all limit goes.done (omega (arith, goes.few, count)))
    first false end = sym (ap (take limit) (whole end) ∙ take_all limit goes.done (omega (arith, goes.few, count)))

    cut_is : (cut : Bool) → IsEnd left rs cut → cut ≡ nat_lt limit (length all)
    cut_is true end = sym (lt-ltb limit (length all) (omega (arith, end.0, end.1, count, ap length goes.same, length-append goes.done left)))
    cut_is false end = sym (le-ltb limit (length all) (omega (arith, goes.few, count, ap length (whole end))))

    judged_by : (cut : Bool) → IsEnd left rs cut → Judges (AllByRecursion IsSoundMember all) (AreLongMembers limit all)
        (verdict_of_both (verdict_of_cut cut) (verdict_of_all verdict_of_member rs))
    judged_by true end =
        cut_judged _ (all_judged goes.done rs goes.audited)
        (λ s. all_front IsSoundMember goes.done left (subst (λ (xs : List Item). AllByRecursion IsSoundMember xs) goes.same s))
        (inl (omega (arith, end.0, end.1, count, ap length goes.same, length-append goes.done left)))
    judged_by false end =
        let short : limit < length all → ⊥ = λ long. omega (arith, long, goes.few, count, ap length (whole end)) in
        judged_as _ (λ s. s) (λ s. s) (λ l. inr l) (after_first short)
        (subst (λ (xs : List Item). Judges (AllByRecursion IsSoundMember xs) (HasLongMember limit xs) (verdict_of_all verdict_of_member rs)) (sym (whole end))
        (all_judged goes.done rs goes.audited))

  pub members_reported : (all left : List Item) (r : ArchiveReport A) → GoesOver all left r.members.items → IsEnd left r.members.items r.cut
      → ReportsMembers limit all r
  members_reported all left r goes end = record {
    reports = subst (λ (xs : List Item). AllZip (IsMemberReport limit) xs r.members.items) (first all left r.members.items goes r.cut end)
        (all_reported goes.done r.members.items goes.audited);
    cut = cut_is all left r.members.items goes r.cut end;
  }

  pub members_judged : (all left : List Item) (r : ArchiveReport A) → GoesOver all left r.members.items → IsEnd left r.members.items r.cut
      → Judges (AllByRecursion IsSoundMember all) (AreLongMembers limit all) (verdict_of_archive r)
  members_judged all left r goes end = judged_by all left r.members.items goes r.cut end
