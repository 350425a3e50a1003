-- The position of the walk along chains, as plain numbers.
use Rattle.std.specs.Prelude.{◌≡◌, ◌==◌, ℕ, List, [], true, Some, None, Result, if◌then◌else◌}
use Rattle.mach_base.specs.Fault.{Fault}
use Rattle.mach_parts.specs.Bindings.{Binding}
use Rattle.mach_chained.specs.Bindings.{bindings_of}
use Rattle.mach_chained.specs.Fixups.{FixupInput, Span, Fixup, no_ends, span_at}
use Rattle.mach_chained.specs.FixupsLeft.{fixups_unless_ended, fixups_left}
use Rattle.mach_chained.specs.Opened.{IsKnown, nothing_opened, span_or_nothing}
use Rattle.mach_chained.specs.WalkViews.{fixup_input_of, span_view}
use Rattle.mach_chained.specs.declared.cursor.FixupCursor.{FixupCursor}
use Rattle.mach_chained.specs.declared.fixups.FixupIterator.{FixupIterator}
use Rattle.mach_chained.specs.declared.source.NextPlace.{NextPlace}
use Rattle.mach_chained.specs.declared.source.NextPlace.TheVariants as variant
use Rattle.mach_base.specs.Number.{says_yes}

-- the next place: 1 means a fixup, 2 a start, and any other number none
abbrev pub next_place_said : (kind at has_more index : ℕ) → NextPlace
next_place_said kind at has_more index =
    if kind == 1 then variant.Fixup (record { at = at; more = if has_more == 0 then None else Some index })
    else (if kind == 2 then variant.Start index at else variant.Nothing)

-- the current segment of a cursor
abbrev pub span_in : FixupInput → FixupCursor → Span
span_in x c = if c.opened == 0 then nothing_opened else span_or_nothing (span_at x no_ends c.number)

-- the fixups from a cursor on
abbrev pub fixups_after : FixupInput → FixupCursor → List (Result Fixup Fault)
fixups_after x c = fixups_unless_ended (says_yes c.ended) x (span_in x c) (next_place_said c.next c.at c.has_more c.index) c.page c.next_page c.segment

-- the bindings from a cursor on, with these libraries
abbrev pub chained_bindings_after : FixupInput → List (List ℕ) → FixupCursor → List (Result Binding Fault)
chained_bindings_after x libs c = bindings_of x libs (fixups_after x c)

-- the iterator reads this input, and its segment is known
pub record IsOverFixups (x : FixupInput) (it : FixupIterator) : Type 0 where
  pub source : fixup_input_of it.source ≡ x
  pub known : IsKnown (fixup_input_of it.source) it.opened (span_view it.span)

-- it has ended: nothing is left, and that remains so
pub record HasEndedFixups (it : FixupIterator) : Type 0 where
  pub ended : it.ended ≡ true
  pub left : fixups_left it ≡ []

-- its segment is known if it was known before
abbrev pub KeepsSpan : FixupIterator → FixupIterator → Type 0
KeepsSpan old new = IsKnown (fixup_input_of old.source) old.opened (span_view old.span) → IsKnown (fixup_input_of old.source) new.opened (span_view new.span)
