-- Arguments that are an option and its value.
use Rattle.std.proofs.Common.{◌≡◌, ◌++◌, ◌∙◌, ℕ, List, Bool, true, false, Bor, Option, Some, None, Result, refl, sym, ap, subst, take, drop, length}
use Rattle.std.proofs.Math.Seq.{drop-append_seam, take-append_seam}
use Rattle.std.proofs.lemmas.List.{take-append-drop}
use Rattle.std.proofs.lemmas.Slice.Eq.{bytes_eq-Decides}
use Rattle.std.specs.Prelude.{bytes_eq, IfErr, MatchOption}
use Rattle.std.specs.Str.Pattern.{FindsTextPrefix, StripsPrefix}
use Rattle.mach_dyld.specs.Exports.{text_in}
use Rattle.mach_cli.specs.Calls.{ParsedCall, AreUntaken, TakesDashed, TakesJoined, TakesOwn, joined_in, value_after}
use Rattle.mach_cli.specs.declared.call.Untaken.{Untaken}
use Rattle.mach_cli.specs.declared.call.Valued.{Valued}
use Rattle.mach_cli.specs.declared.options.Options.{Options}

value_there : (option word rest : List ℕ) → word ≡ option ++ rest → Some rest ≡ value_after true option word
value_there option word rest is =
    let front : take (length option) word ≡ option = ap (take (length option)) is ∙ take-append_seam option rest in
    let others : drop (length option) word ≡ rest = ap (drop (length option)) is ∙ drop-append_seam option rest in
    rw ((bytes_eq-Decides (take (length option) word) option).1 front, others) refl

no_value : (option word : List ℕ) → ((rest : List ℕ) → word ≡ option ++ rest → ⊥) → None ≡ value_after true option word
no_value option word none =
    let begins = bytes_eq (take (length option) word) option in
    elim begins as (λ t. begins ≡ t → None ≡ value_after true option word) [
      | true ↦ λ is.
          let front : take (length option) word ≡ option = (bytes_eq-Decides (take (length option) word) option).0 is in
          absurd (none (drop (length option) word)
          (sym (take-append-drop (length option) word) ∙ ap (λ (f : List ℕ). f ++ drop (length option) word) front))
      | false ↦ λ is. rw is refl
    ] refl

pub value_found : (option word : List ℕ) (r : Option (Bor (List ℕ)))
    → MatchOption r (FindsTextPrefix option word None) (λ x. StripsPrefix (FindsTextPrefix option) word x.now) → text_in r ≡ value_after true option word
value_found option word None lacks = no_value option word lacks
value_found option word (Some x) found = value_there option word x.now (found.1.1 ∙ ap (λ (rest : List ℕ). option ++ rest) (sym found.2))

pub own_untaken : {O X : Type 0} (taken : O → List ℕ → O × Bool) (options : Options) (word : List ℕ) (old : ParsedCall O) (r : Result X Untaken)
    → joined_in options word ≡ None → IfErr r (AreUntaken (TakesOwn taken word old)) → IfErr r (AreUntaken (TakesDashed taken options word old))
own_untaken taken options word old r none untaken =
    subst (λ (joined : Option (Valued × List ℕ)). IfErr r (AreUntaken (TakesJoined taken word joined old))) (sym none) untaken
