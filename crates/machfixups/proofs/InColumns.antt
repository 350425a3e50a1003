-- Texts in columns, as fields have them and as they are written.
use Rattle.std.proofs.Common.{◌≡◌, ◌++◌, ◌∙◌, [], ℕ, List, ap, refl, sym}
use Rattle.std.proofs.lemmas.List.{append-nil, append_assoc}
use Rattle.std.proofs.Math.Utf8.{encode}
use Rattle.std.specs.Fmt.{char_count, padded, take_chars}
use Rattle.std.specs.Prelude.{codes}
use Rattle.std.specs.Str.{chars}
use Rattle.mach_cli.specs.Escapes.{escape_len, hidden_len, written}
use Rattle.mach_cli.specs.Fields.{text, value_in_width}

-- words that fill up a column of six characters
pub rebase_word : value_in_width 6 (text (codes "rebase")) ≡ codes "rebase"
unfolding written escape_len hidden_len chars padded take_chars char_count encode
rebase_word = refl

pub bind_word : value_in_width 6 (text (codes "bind")) ≡ codes "bind  "
unfolding written escape_len hidden_len chars padded take_chars char_count encode
bind_word = refl

-- the first four columns, of which the fourth has a word
pub place_columns : (a b c kind word rest last : List ℕ) → kind ≡ word → rest ≡ last
    → (a ++ (codes " " ++ (b ++ (codes " " ++ c)))) ++ (codes " " ++ (word ++ (codes " " ++ rest)))
    ≡ (a ++ []) ++ ((codes " " ++ (b ++ [])) ++ ((codes " " ++ (c ++ [])) ++ ((codes " " ++ (kind ++ [])) ++ (codes " " ++ last))))
place_columns a b c kind word rest last is same =
    let tail = codes " " ++ (word ++ (codes " " ++ rest)) in
    append_assoc a (codes " " ++ (b ++ (codes " " ++ c))) tail
    ∙ ap (λ t. a ++ (codes " " ++ t)) (append_assoc b (codes " " ++ c) tail)
    ∙ ap (λ w. a ++ (codes " " ++ (b ++ (codes " " ++ (c ++ (codes " " ++ (w ++ (codes " " ++ rest)))))))) (sym is)
    ∙ ap (λ r. a ++ (codes " " ++ (b ++ (codes " " ++ (c ++ (codes " " ++ (kind ++ (codes " " ++ r)))))))) same
    ∙ sym (rw (append-nil a, append-nil b, append-nil c, append-nil kind) refl)

-- two columns, and what comes after them
pub two_columns : (a b rest : List ℕ) → a ++ (codes " " ++ (b ++ rest)) ≡ (a ++ []) ++ ((codes " " ++ (b ++ [])) ++ rest)
two_columns a b rest = sym (rw (append-nil a, append-nil b) refl)

-- two texts in a column, and one after them
pub pair_column : (a b c : List ℕ) → a ++ (codes " " ++ (b ++ (codes " " ++ c))) ≡ (a ++ (codes " " ++ (b ++ []))) ++ ((codes " " ++ (c ++ [])) ++ [])
pair_column a b c =
    sym (append_assoc a (codes " " ++ b) (codes " " ++ c))
    ∙ ap (λ t. (a ++ (codes " " ++ t)) ++ (codes " " ++ c)) (sym (append-nil b))
    ∙ ap (λ t. (a ++ (codes " " ++ (b ++ []))) ++ (codes " " ++ t)) (sym (append-nil c))
    ∙ ap (λ t. (a ++ (codes " " ++ (b ++ []))) ++ (codes " " ++ t)) (sym (append-nil (c ++ [])))
