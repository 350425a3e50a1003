-- Lines, one after the other.
use Rattle.std.proofs.Common.{◌≡◌, ◌∙◌, ◌+◌, ◌++◌, ◌∷◌, [], ℕ, List, Option, length, sym, ap, subst, arith}
use Rattle.std.specs.Prelude.{codes}
use Rattle.std.proofs.lemmas.List.{append-nil, append_assoc}
use Rattle.std.specs.Io.KnownBytes.{Appends}
use Rattle.mach_base.proofs.Written.{Appends-none}
use Rattle.mach_resolve.specs.Answers.{Answer}
use Rattle.mach_resolve.specs.Note.{Note}
use Rattle.machresolve.specs.Report.{Outcome}
use Rattle.machresolve.specs.Lines.{ResolveCall, answer_text, lines_of, entry_heading}
use Rattle.machresolve.specs.Lines.{entry_text, entries_text, note_text, message_line, message_lines}

pub lines_push : (xs : List Answer) (a : Answer) → lines_of (xs ++ a ∷ []) ≡ lines_of xs ++ (answer_text a ++ codes "\n")
lines_push [] a = append-nil (answer_text a ++ codes "\n")
lines_push (x ∷ xs) a =
    ap (λ t. answer_text x ++ codes "\n" ++ t) (lines_push xs a)
    ∙ sym (append_assoc (answer_text x ++ codes "\n") (lines_of xs) (answer_text a ++ codes "\n"))

pub said_push : (call : ResolveCall) (ns : List Note) (n : Note) → message_lines call (ns ++ n ∷ []) ≡ message_lines call ns ++ message_line (note_text call n)
said_push call [] n = append-nil (message_line (note_text call n))
said_push call (x ∷ ns) n =
    ap (λ t. message_line (note_text call x) ++ t) (said_push call ns n)
    ∙ sym (append_assoc (message_line (note_text call x)) (message_lines call ns) (message_line (note_text call n)))

-- one more entry, after the others
pub entries_push : (call : ResolveCall) (k : ℕ) (os : List Outcome) (o : Outcome)
    → entries_text call k (os ++ o ∷ []) ≡ entries_text call k os ++ (entry_heading (k + length os) ++ entry_text call o)
entries_push call k [] o =
    append-nil (entry_heading k ++ entry_text call o) ∙ ap (λ (i : ℕ). entry_heading i ++ entry_text call o) (omega arith)
entries_push call k (x ∷ os) o =
    ap (λ t. entry_heading k ++ entry_text call x ++ t)
    (entries_push call (k + 1) os o ∙ ap (λ (i : ℕ). entries_text call (k + 1) os ++ (entry_heading i ++ entry_text call o)) (omega arith))
    ∙ sym (append_assoc (entry_heading k ++ entry_text call x) (entries_text call (k + 1) os) (entry_heading (k + length (x ∷ os)) ++ entry_text call o))

-- if the text is empty, nothing is written
pub nothing_written : (known : Option (List ℕ)) (text : List ℕ) → text ≡ [] → Appends known known text
nothing_written known text none = subst (Appends known known) (sym none) (Appends-none known)
