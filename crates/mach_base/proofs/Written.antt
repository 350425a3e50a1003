-- Output that is written in parts.
use Rattle.std.proofs.Common.{◌++◌, [], ◌∙◌, ℕ, List, Option, Some, None, sym, ap}
use Rattle.std.proofs.lemmas.List.{append-nil, append_assoc}
use Rattle.std.specs.Io.KnownBytes.{Appends, Keeps}

pub Appends-none : (known : Option (List ℕ)) → Appends known known []
Appends-none None = cc
Appends-none (Some bytes) = sym (append-nil bytes)

pub Appends-both : (first second third : Option (List ℕ)) (xs ys : List ℕ) → Appends first second xs → Appends second third ys → Appends first third (xs ++ ys)
Appends-both None second third xs ys one two = cc
Appends-both (Some a) None third xs ys one two = absurd one
Appends-both (Some a) (Some b) None xs ys one two = absurd two
Appends-both (Some a) (Some b) (Some c) xs ys one two = two ∙ ap (λ front. front ++ ys) one ∙ append_assoc a xs ys

pub Appends-kept : (first second third : Option (List ℕ)) (xs : List ℕ) → Appends first second xs → Keeps second third → Appends first third xs
Appends-kept None second third xs one kept = cc
Appends-kept (Some a) None third xs one kept = absurd one
Appends-kept (Some a) (Some b) None xs one kept = absurd kept
Appends-kept (Some a) (Some b) (Some c) xs one kept = kept ∙ one
