-- Each answer is one line.
use Rattle.std.proofs.Common.{◌≡◌, ◌++◌, Bool, true, false, refl, rules}
use Rattle.std.specs.Prelude.{codes}
use Rattle.mach_cli.specs.Escapes.{has_no_feed, IsOneLine}
use Rattle.mach_cli.proofs.OneLine.{no_feeds, line-end}
use Rattle.mach_parts.specs.Bindings.{Provider, of_library, itself, main_executable, flat, weak_lookup}
use Rattle.mach_resolve.specs.Answers.{Answer}
use Rattle.mach_resolve.specs.Follow.{SymbolPlace, found, leads_back, no_library, missing, not_given, not_found, no_main}
use Rattle.machresolve.specs.Lines.{answer_text, place_text, provider_text, text_before_place, weak_text}

no_feed-provider : (p : Provider) → has_no_feed (provider_text p) ≡ true
no_feed-provider (of_library ordinal name) = search (no_feeds, rules)
no_feed-provider itself = refl
no_feed-provider main_executable = refl
no_feed-provider flat = refl
no_feed-provider weak_lookup = refl

no_feed-place : (provider : Provider) (p : SymbolPlace) → has_no_feed (place_text provider p) ≡ true
no_feed-place provider (found number file address is_absolute) = search (no_feeds, rules)
no_feed-place provider (leads_back library) = search (no_feeds, rules)
no_feed-place provider (no_library library) = search (no_feeds, rules)
no_feed-place provider (missing library) = search (no_feeds, rules)
no_feed-place provider (not_given library reexported) = search (no_feeds, rules)
no_feed-place provider not_found = refl
no_feed-place provider no_main = refl

no_feed-weak : (is_weak : Bool) → has_no_feed (weak_text is_weak) ≡ true
no_feed-weak true = refl
no_feed-weak false = refl

no_feed-front : (p : SymbolPlace) (is_weak : Bool) → has_no_feed (text_before_place p is_weak) ≡ true
no_feed-front (found number file address is_absolute) is_weak = refl
no_feed-front (leads_back library) is_weak = refl
no_feed-front (no_library library) is_weak = no_feed-weak is_weak
no_feed-front (missing library) is_weak = no_feed-weak is_weak
no_feed-front (not_given library reexported) is_weak = no_feed-weak is_weak
no_feed-front not_found is_weak = no_feed-weak is_weak
no_feed-front no_main is_weak = no_feed-weak is_weak

no_feed-answer : (a : Answer) → has_no_feed (answer_text a) ≡ true
no_feed-answer a = search (no_feeds, no_feed-provider, no_feed-front, no_feed-place, rules)

pub answer_is_one_line : (a : Answer) → IsOneLine (answer_text a ++ codes "\n")
answer_is_one_line a = line-end (answer_text a) (no_feed-answer a)
