-- Lines that are written one after the other.
use Rattle.std.proofs.Common.{◌++◌, ◌∷◌, [], ◌∙◌, ℕ, List, Option, map, refl, sym, ap}
use Rattle.std.proofs.lemmas.Grind.{flat_map-append}
use Rattle.std.proofs.lemmas.List.{append-nil, map-append}
use Rattle.std.specs.Io.KnownBytes.{Appends}
use Rattle.std.specs.List.{flat_map}
use Rattle.mach_base.proofs.Written.{Appends-none, Appends-both}
use Rattle.mach_cli.specs.Lines.{WritesLines}

module _ {A X : Type 0} (read : A → X) (line : A → List ℕ) where
  -- before the first item
  pub no_lines : (known : Option (List ℕ)) → WritesLines read line [] known known
  no_lines known = record { text = []; lines = record { answers = []; are_items = refl; is_text = refl }; written = Appends-none known }

  -- the lines of some items and then those of others
  pub lines_both : (first second : List X) (old middle new : Option (List ℕ)) → WritesLines read line first old middle
      → WritesLines read line second middle new → WritesLines read line (first ++ second) old new
  lines_both first second old middle new one two =
      let a = one.lines in
      let b = two.lines in
      record {
        text = one.text ++ two.text;
        lines = record {
          answers = a.answers ++ b.answers;
          are_items = map-append read a.answers b.answers ∙ ap (λ front. front ++ map read b.answers) a.are_items
              ∙ ap (λ back. first ++ back) b.are_items;
          is_text = ap (λ front. front ++ two.text) a.is_text ∙ ap (λ back. flat_map line a.answers ++ back) b.is_text
              ∙ sym (flat_map-append line a.answers b.answers);
        };
        written = Appends-both old middle new one.text two.text one.written two.written;
      }

  -- after one more
  pub line_more : (items : List X) (answer : A) (old middle new : Option (List ℕ)) → WritesLines read line items old middle
      → Appends middle new (line answer) → WritesLines read line (items ++ read answer ∷ []) old new
  line_more items answer old middle new before written =
      lines_both items (read answer ∷ []) old middle new before (record {
        text = line answer;
        lines = record { answers = answer ∷ []; are_items = refl; is_text = sym (append-nil (line answer)) };
        written = written;
      })
