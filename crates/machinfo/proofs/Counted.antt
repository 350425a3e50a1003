-- The counts of one more list.
use Rattle.std.proofs.Common.{◌++◌, ℕ, ◌+◌, ◌<◌, List, Bool, sym, subst, length, take, get_or}
use Rattle.std.specs.Prelude.{◌&&◌}
use Rattle.std.proofs.lemmas.List.{take_more}
use Rattle.machinfo.specs.Counts.{AreCounts, IsCount, counts_more}
use Rattle.machinfo.specs.Lists.{OfRows}
use Rattle.machinfo.specs.declared.word.Word.{Word}
use Rattle.machinfo.specs.declared.counts.Form.{Form}

pub one_more_count : (form : Form) (limit : ℕ) (bytes : List ℕ) (words : List Word) (i : ℕ) (d : Word) (text one : List ℕ) (whole is_whole : Bool)
    → i < length words → AreCounts form limit bytes (take i words) text whole
    → OfRows (get_or words i d) bytes (λ rows past. IsCount form (get_or words i d) limit rows past one is_whole)
    → AreCounts form limit bytes (take (i + 1) words) (text ++ one) (whole && is_whole)
one_more_count form limit bytes words i d text one whole is_whole below before has =
    subst (λ (some : List Word). AreCounts form limit bytes some (text ++ one) (whole && is_whole)) (sym (take_more words i d below))
    (counts_more (take i words) (get_or words i d) text one whole is_whole before has)
