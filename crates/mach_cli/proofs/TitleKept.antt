-- A title that is written before the next bytes.
use Rattle.std.proofs.Common.{◌≡◌, ◌+◌, ◌++◌, ◌∙◌, ℕ, List, Option, Some, None, sym, ap, take, drop}
use Rattle.std.proofs.lemmas.List.{append_assoc, drop-drop, take-append-drop}
use Rattle.std.specs.Io.KnownBytes.{append_known, Appends, Keeps}

pub Keeps-both : (first second third : Option (List ℕ)) → Keeps first second → Keeps second third → Keeps first third
Keeps-both None second third one two = cc
Keeps-both (Some a) None third one two = absurd one
Keeps-both (Some a) (Some b) None one two = absurd two
Keeps-both (Some a) (Some b) (Some c) one two = two ∙ one

-- some bytes of the title go to the writer below
pub title_step : (old new : Option (List ℕ)) (title more rest : List ℕ) → title ≡ more ++ rest → Appends old new more
    → Keeps (append_known old title) (append_known new rest)
title_step None new title more rest is written = cc
title_step (Some a) None title more rest is written = absurd written
title_step (Some a) (Some b) title more rest is written =
    ap (λ bytes. bytes ++ rest) written ∙ append_assoc a more rest ∙ ap (λ all. a ++ all) (sym is)

-- the rest of a title, after n more of its bytes
pub title_cut : (title : List ℕ) (written n : ℕ) → drop written title ≡ take n (drop written title) ++ drop (written + n) title
title_cut title written n =
    sym (take-append-drop n (drop written title)) ∙ ap (λ rest. take n (drop written title) ++ rest) (drop-drop n written title)
