-- The functions after a cursor, by what is left of the numbers.
use Rattle.std.proofs.Common.{◌≡◌, ◌∙◌, ◌+◌, ℕ, List, [], take, Some, None, Result, sym, subst, arith}
use Rattle.mach_base.specs.Fault.{Fault}
use Rattle.mach_load.specs.FunctionStarts.{AreStartsAfter, starts_after}
use Rattle.mach_load.proofs.StartsRead.{none_left, starts_are}
use Rattle.goblin_mach.specs.Tables.{AreStartsAt}
use Rattle.goblin_mach_c.specs.Stage.{Stage, start, under_way, over}
use Rattle.goblin_mach_c.specs.StartsAfter.{AreStartsAtStage}
use Rattle.goblin_mach_c.specs.declared.starts.gm_start_cursor.{gm_start_cursor}

-- none at any stage if no command places any
pub none_at_stage : (s : Stage) (c : gm_start_cursor) (bytes : List ℕ) (base : ℕ) (items : List (Result ℕ Fault)) → items ≡ []
    → AreStartsAtStage s c bytes None base items
none_at_stage start c bytes base items e = e
none_at_stage under_way c bytes base items e = e ∙ sym (none_left [] 0 c.place c.address (omega arith))
none_at_stage over c bytes base items e = e

-- from the first number on they are all
pub all_from_first : (bytes : List ℕ) (off size base : ℕ) (items : List (Result ℕ Fault))
    → items ≡ starts_after (take (off + size) bytes) (off + size) off base → AreStartsAt bytes (Some (off, size)) base items
all_from_first bytes off size base items e =
    subst (λ (l : List (Result ℕ Fault)). AreStartsAfter (take (off + size) bytes) (off + size) off base l) (sym e)
    (starts_are (take (off + size) bytes) (off + size) off base)
