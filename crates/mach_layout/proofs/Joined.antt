-- Lists of faults, one after the other.
use Rattle.std.proofs.Common.{◌≡◌, List, ◌++◌, Option, ap, ◌∙◌, append_assoc}
use Rattle.std.specs.Prelude.{option_to_list}
use Rattle.mach_layout.specs.declared.fault.LayoutFault.{LayoutFault}

-- some faults, then others
pub then_others : (old some others : List LayoutFault) {one all : List LayoutFault} → one ≡ old ++ some → all ≡ one ++ others
    → all ≡ old ++ (some ++ others)
then_others old some others first then = then ∙ ap (λ (fs : List LayoutFault). fs ++ others) first ∙ append_assoc old some others

-- at most one fault, which is this
pub reported_as : (old : List LayoutFault) {one : List LayoutFault} {reported is : Option LayoutFault} → one ≡ old ++ option_to_list reported → reported ≡ is
    → one ≡ old ++ option_to_list is
reported_as old first is = first ∙ ap (λ (o : Option LayoutFault). old ++ option_to_list o) is

-- three lists of faults, and up to six
pub three_reported : (a b c f0 f1 f2 : List LayoutFault) {all : List LayoutFault} → f1 ≡ f0 ++ a → f2 ≡ f1 ++ b → all ≡ f2 ++ c → all ≡ f0 ++ (a ++ b ++ c)
three_reported a b c f0 f1 f2 e1 e2 e3 = then_others f0 (a ++ b) c (then_others f0 a b e1 e2) e3

pub four_reported : (a b c d f0 f1 f2 f3 : List LayoutFault) {all : List LayoutFault} → f1 ≡ f0 ++ a → f2 ≡ f1 ++ b → f3 ≡ f2 ++ c → all ≡ f3 ++ d
    → all ≡ f0 ++ (a ++ b ++ c ++ d)
four_reported a b c d f0 f1 f2 f3 e1 e2 e3 e4 = then_others f0 (a ++ b ++ c) d (then_others f0 (a ++ b) c (then_others f0 a b e1 e2) e3) e4

pub five_reported : (a b c d e f0 f1 f2 f3 f4 : List LayoutFault) {all : List LayoutFault} → f1 ≡ f0 ++ a → f2 ≡ f1 ++ b → f3 ≡ f2 ++ c → f4 ≡ f3 ++ d
    → all ≡ f4 ++ e → all ≡ f0 ++ (a ++ b ++ c ++ d ++ e)
five_reported a b c d e f0 f1 f2 f3 f4 e1 e2 e3 e4 e5 = then_others f0 (a ++ b ++ c ++ d) e (four_reported a b c d f0 f1 f2 f3 e1 e2 e3 e4) e5

pub six_reported : (a b c d e f f0 f1 f2 f3 f4 f5 : List LayoutFault) {all : List LayoutFault} → f1 ≡ f0 ++ a → f2 ≡ f1 ++ b → f3 ≡ f2 ++ c → f4 ≡ f3 ++ d
    → f5 ≡ f4 ++ e → all ≡ f5 ++ f → all ≡ f0 ++ (a ++ b ++ c ++ d ++ e ++ f)
six_reported a b c d e f f0 f1 f2 f3 f4 f5 e1 e2 e3 e4 e5 e6 =
    then_others f0 (a ++ b ++ c ++ d ++ e) f (five_reported a b c d e f0 f1 f2 f3 f4 e1 e2 e3 e4 e5) e6
