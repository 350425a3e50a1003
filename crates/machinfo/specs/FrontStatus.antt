-- Whether the summary of an image as JSON is whole before its counts.
use Rattle.std.specs.Prelude.{◌≡◌, ◌==◌, ◌&&◌, ◌||◌, ℕ, List, length, map, nat_lt, not, take, Bool, Option, Result}
use Rattle.mach_base.specs.Fault.{Fault}
use Rattle.goblin_mach.specs.ImageFacts.{Facts}
use Rattle.mach_audit.specs.FactRows.{command_facts, library_facts, path_facts, tool_facts}
use Rattle.mach_audit.specs.States.{state_of_commands}
use Rattle.mach_audit.specs.declared.command_facts.Question.TheVariants.{Platform, Uuid}
use Rattle.mach_cli.specs.Fields.{FieldView, fields_object}
use Rattle.mach_cli.specs.Listings.{reported_by}
use Rattle.mach_cli.specs.declared.listing.ListProgress.{ListProgress}
use Rattle.mach_signature.specs.Directories.{Directory}
use Rattle.machinfo.specs.FactTexts.{fact_objects}
use Rattle.machinfo.specs.Lists.{HasRows}
use Rattle.machinfo.specs.SegmentStatus.{are_segments_whole, can_be_read, has_more, have_more_sections}
use Rattle.machinfo.specs.Signed.{is_readable}
use Rattle.machinfo.specs.declared.word.Word.TheVariants as words

-- whether the libraries, the run paths, the platforms, the segments with their sections, the tools and the UUIDs can be read, of each
-- list as many as a limit allows
abbrev pub are_lists_read : (limit : ℕ) → Facts → Bool
are_lists_read limit f =
    ((((can_be_read limit (fact_objects (library_facts f)) && can_be_read limit (fact_objects (path_facts f)))
    && can_be_read limit (fact_objects (command_facts Platform f))) && are_segments_whole limit (take limit f.segments))
    && can_be_read limit (fact_objects (tool_facts f))) && can_be_read limit (fact_objects (command_facts Uuid f))

-- whether one of these lists has more than the limit
abbrev pub has_a_list_more : (limit : ℕ) → Facts → Bool
has_a_list_more limit f =
    ((((has_more limit (fact_objects (library_facts f)) || has_more limit (fact_objects (path_facts f)))
    || has_more limit (fact_objects (command_facts Platform f)))
    || (nat_lt limit (length f.segments) || have_more_sections limit (take limit f.segments)))
    || has_more limit (fact_objects (tool_facts f))) || has_more limit (fact_objects (command_facts Uuid f))

-- The state after these lists.
pub record IsAfterLists (limit : ℕ) (f : Facts) (t : ListProgress) : Type 0 where
  pub whole : t.whole ≡ are_lists_read limit f
  pub more : t.more ≡ has_a_list_more limit f

-- whether the row of the entry point can be read, if there is one
abbrev pub is_entry_read : List (Result (List FieldView) Fault) → Bool
is_entry_read rows = can_be_read 1 (map (reported_by fields_object) rows)

-- The summary is whole before its counts exactly if the entry point and the lists can be read, no list has more than the limit, the
-- signature can be read, and no symbols are claimed past the end of the bytes.
pub record IsFrontWhole (limit : ℕ) (bytes : List ℕ) (f : Facts) (there : Result (Option Directory) Fault) (whole : Bool) : Type 0 where
  pub rows : List (Result (List FieldView) Fault)
  pub past : ℕ
  pub has_rows : HasRows words.Entry bytes 0 rows past
  pub is_whole : whole ≡ ((((is_entry_read rows && are_lists_read limit f) && not (has_a_list_more limit f)) && is_readable there)
      && ((state_of_commands f.commands f.symbols).past == 0))
