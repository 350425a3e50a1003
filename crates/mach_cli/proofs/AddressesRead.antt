-- Lines that give addresses, read one after the other.
use Rattle.std.proofs.Common.{◌≡◌, ◌+◌, ◌++◌, ◌∷◌, ◌∙◌, [], ℕ, List, Bool, true, false, Option, Some, None, get_or, length, take, refl, sym, ap, subst}
use Rattle.std.proofs.Math.Bool.{or-true}
use Rattle.std.specs.Prelude.{◌<◌, ◌==◌, if◌then◌else◌}
use Rattle.std.specs.Str.{is_utf8}
use Rattle.std.proofs.lemmas.List.{append-nil, append_assoc, get_or-map, length-map, nil_from_length, take_more}
use Rattle.std.proofs.lemmas.List.Elements.{filter_map-append}
use Rattle.std.proofs.lemmas.List.Folds.{list_all-append}
use Rattle.std.specs.Borrow.{Bor}
use Rattle.std.specs.List.{filter_map, list_all}
use Rattle.mach_base.specs.Text.{texts}
use Rattle.mach_cli.specs.AddressesRead.{bytes_address, is_address_line, line_address, without_space, IsAddressMisuse}
use Rattle.mach_cli.specs.declared.misuse.Misuse.TheVariants.{NoAddressLine}
use Rattle.mach_cli.specs.declared.word.NoText.{NoText}

-- the addresses of the first lines were added to others
abbrev pub Reads : List (Bor (List ℕ)) → (old new : List ℕ) → ℕ → Type 0
Reads lines old new i = (new ≡ old ++ filter_map line_address (take i (texts lines))) × (list_all is_address_line (take i (texts lines)) ≡ true)

-- there is none, whatever is tested
abbrev none : Option ℕ
none = None

no_address : (test : Bool) → (if test then none else none) ≡ none
no_address true = refl
no_address false = refl

module _ (lines : List (Bor (List ℕ))) (i : ℕ) (none : Bor (List ℕ)) (low : i < length lines) where
  abbrev line : List ℕ
  line = (get_or lines i none).now

  at_line : get_or (texts lines) i line ≡ line
  at_line = get_or-map (λ t. t.now) lines i none line low

  within : i < length (texts lines)
  within = subst (λ (n : ℕ). i < n) (sym (length-map lines (λ (t : Bor (List ℕ)). t.now))) low

  taken : take (i + 1) (texts lines) ≡ take i (texts lines) ++ line ∷ []
  taken = take_more (texts lines) i line within ∙ ap (λ (x : List ℕ). take i (texts lines) ++ x ∷ []) at_line

  -- one line more
  more : (old new : List ℕ) (given : List ℕ) → filter_map line_address (line ∷ []) ≡ given → is_address_line line ≡ true → Reads lines old new i
      → Reads lines old (new ++ given) (i + 1)
  more old new given adds all before =
      let front = take i (texts lines) in (
        ap (λ (xs : List ℕ). xs ++ given) before.0 ∙ append_assoc old (filter_map line_address front) given
            ∙ ap (λ (xs : List ℕ). old ++ (filter_map line_address front ++ xs)) (sym adds)
            ∙ ap (λ (xs : List ℕ). old ++ xs) (sym (filter_map-append line_address front (line ∷ [])))
            ∙ ap (λ (xs : List (List ℕ)). old ++ filter_map line_address xs) (sym taken),
        ap (list_all is_address_line) taken ∙ list_all-append is_address_line front (line ∷ []) ∙ rw (before.1, all) refl,
      )

  pub blank_more : (old new word : List ℕ) → word ≡ without_space line → length word ≡ 0 → Reads lines old new i → Reads lines old new (i + 1)
  blank_more old new word is_word empty before =
      let blank : without_space line ≡ [] = sym is_word ∙ nil_from_length word empty in
      let none_here : line_address line ≡ None = ap bytes_address blank ∙ no_address (is_utf8 []) in
      subst (λ (xs : List ℕ). Reads lines old xs (i + 1)) (append-nil new) (more old new [] (rw none_here refl) (rw blank refl) before)

  pub address_more : (old new word : List ℕ) (address : ℕ) → word ≡ without_space line → bytes_address word ≡ Some address → Reads lines old new i
      → Reads lines old (new ++ address ∷ []) (i + 1)
  address_more old new word address is_word given before =
      let here : line_address line ≡ Some address = ap bytes_address (sym is_word) ∙ given in
      more old new (address ∷ []) (rw here refl) (rw here (or-true (length (without_space line) == 0))) before

  -- a line that is neither blank nor gives an address
  pub wrong_line : (old new word : List ℕ) (reported : NoText) → word ≡ without_space line → (length word == 0) ≡ false → bytes_address word ≡ None
      → reported.number ≡ i + 1 → reported.bytes.now ≡ line → Reads lines old new i → IsAddressMisuse (texts lines) (NoAddressLine reported)
  wrong_line old new word reported is_word some gives number bytes before = record {
    line = reported;
    reported = refl;
    number = i;
    is_number = number;
    is_line = (within, rw bytes (sym at_line));
    before = before.1;
    is_none = rw (bytes, sym is_word, some, gives) refl;
  }
