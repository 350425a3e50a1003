-- Lines of the first items, one at a time, up to a limit.
use Rattle.std.proofs.Common.{◌≡◌, ◌≤◌, ◌+◌, ◌-◌, ◌++◌, ◌∷◌, [], ◌∙◌, ℕ, List, Option, Bool, true, false, refl, sym, ap, subst}
use Rattle.std.proofs.Common.{length, take, arith}
use Rattle.std.specs.Prelude.{◌&&◌, nat_lt}
use Rattle.std.proofs.Math.Bool.{and-true}
use Rattle.std.proofs.lemmas.Bool.{le-ltb, lt-ltb}
use Rattle.std.proofs.lemmas.List.{length-append, take-append-le, take_all}
use Rattle.std.proofs.lemmas.List.Folds.{list_all-append}
use Rattle.std.specs.Io.KnownBytes.{Appends}
use Rattle.std.specs.List.{list_all}
use Rattle.mach_cli.proofs.Lines.{line_more, no_lines}
use Rattle.mach_cli.specs.Lines.{AreLines, WritesLines}
use Rattle.mach_cli.specs.declared.listing.ListProgress.{ListProgress}
use Rattle.machfat.specs.Written.{AreItemLines, WritesAs}

-- The lines of these items were written, and this says whether they are whole.
pub record Gone {A X : Type 0} (read : A → X) (line : A → List ℕ) (is_whole : X → Bool) (front : List X) (whole : Bool)
    (old new : Option (List ℕ)) : Type 0 where
  pub lines : WritesLines read line front old new
  pub all : whole ≡ list_all is_whole front

module _ {A X : Type 0} (read : A → X) (line : A → List ℕ) (is_whole : X → Bool) where
  pub gone_none : (known : Option (List ℕ)) → Gone read line is_whole [] true known known
  gone_none known = record { lines = no_lines read line known; all = refl }

  pub gone_more : (front : List X) (item : X) (answer : A) (whole one : Bool) (old middle new : Option (List ℕ))
      → Gone read line is_whole front whole old middle → read answer ≡ item → one ≡ is_whole (read answer) → Appends middle new (line answer)
      → Gone read line is_whole (front ++ item ∷ []) (whole && one) old new
  gone_more front item answer whole one old middle new before is ok written = record {
    lines = subst (λ (x : X). WritesLines read line (front ++ x ∷ []) old new) is (line_more read line front answer old middle new before.lines written);
    all = ap (λ w. w && one) before.all ∙ ap (λ w. list_all is_whole front && w) (ok ∙ ap is_whole is ∙ sym (and-true (is_whole item)))
        ∙ sym (list_all-append is_whole front (item ∷ []));
  }

  -- these are the first items, no more than `left`
  gone_of : (left : ℕ) (items front : List X) (whole : Bool) (old new : Option (List ℕ)) (t : ListProgress) → Gone read line is_whole front whole old new
      → take left items ≡ front → t.whole ≡ whole → t.left ≡ left - length items → t.more ≡ nat_lt left (length items)
      → WritesAs (AreItemLines read line is_whole left items) t old new
  gone_of left items front whole old new t gone first is rest more = record {
    text = gone.lines.text;
    are_lines = record {
      lines = subst (λ (xs : List X). AreLines read line xs gone.lines.text) (sym first) gone.lines.lines;
      whole = is ∙ gone.all ∙ ap (list_all is_whole) (sym first);
      rest = rest;
      more = more;
    };
    written = gone.lines.written;
  }

  -- the list was visited to its end
  pub gone_over : (left : ℕ) (items front : List X) (whole : Bool) (old new : Option (List ℕ)) (t : ListProgress) → Gone read line is_whole front whole old new
      → items ≡ front → length front ≤ left → (t.left ≡ left - length front) × (t.whole ≡ whole) × (t.more ≡ false)
      → WritesAs (AreItemLines read line is_whole left items) t old new
  gone_over left items front whole old new t gone are few said =
      let many : length items ≡ length front = ap length are in
      gone_of left items front whole old new t gone (take_all left items (omega (arith, few, many)) ∙ are) said.1 (said.0 ∙ omega (arith, many))
      (said.2 ∙ sym (le-ltb left (length items) (omega (arith, few, many))))

  -- the list was visited to the limit, and an item comes after it
  pub gone_cut : (left : ℕ) (items front : List X) (item : X) (rest : List X) (whole : Bool) (old new : Option (List ℕ)) (t : ListProgress)
      → Gone read line is_whole front whole old new → items ≡ front ++ item ∷ rest → length front ≡ left
      → (t.left ≡ 0) × (t.whole ≡ whole) × (t.more ≡ true) → WritesAs (AreItemLines read line is_whole left items) t old new
  gone_cut left items front item rest whole old new t gone are full said =
      let many : length items ≡ length front + length (item ∷ rest) = ap length are ∙ length-append front (item ∷ rest) in
      let first : take left items ≡ front = ap (λ xs. take left xs) are ∙ take-append-le left front (item ∷ rest) (omega (arith, full))
      ∙ take_all left front (omega (arith, full)) in
      gone_of left items front whole old new t gone first said.1 (said.0 ∙ omega (arith, many, full))
      (said.2 ∙ sym (lt-ltb left (length items) (omega (arith, many, full))))
