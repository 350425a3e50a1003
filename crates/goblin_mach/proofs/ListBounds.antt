-- The commands of an image fit into its bytes, and so do the data of its segments.
use Rattle.std.proofs.Common.{◌≡◌, ◌<◌, ◌≤◌, ◌+◌, ℕ, zero, suc, Bool, true, false, List, [], ◌∷◌, length, take, drop, Option, Some, None, Result, Ok, Err, refl}
use Rattle.std.proofs.Common.{arith, eqb, nat_le, subst, if◌then◌else◌, ◌-◌}
use Rattle.std.proofs.lemmas.Bool.{leb-true}
use Rattle.std.proofs.lemmas.List.{length-take}
use Rattle.std.specs.Prelude.{option_map}
use Rattle.std.specs.Result.{result_unwrap_or}
use Rattle.mach_base.specs.declared.context.Ctx.{Ctx}
use Rattle.mach_base.specs.Fault.{Fault, bad_offset, too_big}
use Rattle.mach_parts.specs.Segment.{SegmentView, widened, lossy_segment_at}
use Rattle.mach_records.specs.declared.segments.SegmentCommand64.{SegmentCommand64}
use Rattle.mach_chained.specs.FixupCounts.{LieInFile}
use Rattle.goblin_mach.specs.Readings.{keep}
use Rattle.mach_load.specs.Subjects.{segment_command_by}
use Rattle.goblin_mach.specs.Subjects.{lossy_segments_in}
use Rattle.goblin_mach.specs.Bounds.{CommandsFit, SegmentsLieInBytes}

abbrev data_by : List ℕ → ℕ → ℕ → Bool → Bool → Bool → Result (List ℕ) Fault
data_by bytes place n none out fits =
    if none then Ok []
    else (if out then Err (bad_offset place)
    else (if fits then Ok (take n (drop place bytes)) else Err (too_big n (length bytes - place))))

pub commands_fit_lem : CommandsFit
commands_fit_lem bytes o ctx cs is =
    let count = is.chain.count in let few = is.counts.ncmds in let there = is.counts.sizeofcmds in omega (arith, count, few, there)

-- what is at a place of some bytes lies in them
lies : (bytes : List ℕ) (place n : ℕ) (none out fits : Bool) → (fits ≡ true → place + n ≤ length bytes)
    → 0 < length (result_unwrap_or (data_by bytes place n none out fits) [])
    → place + length (result_unwrap_or (data_by bytes place n none out fits) []) ≤ length bytes
lies bytes place n true out fits there some = absurd (omega (arith, some))
lies bytes place n false true fits there some = absurd (omega (arith, some))
lies bytes place n false false false there some = absurd (omega (arith, some))
lies bytes place n false false true there some = let len = length-take n (drop place bytes) in let end = there refl in omega (arith, len, end)

same_some : {X : Type 0} {x y : X} → Some x ≡ Some y → x ≡ y
same_some is = cc

-- those of a segment before others
segments_lie : (ctx : Ctx) (bytes : List ℕ) (offset : ℕ) (found : Option SegmentCommand64) (others : List SegmentView) → LieInFile (length bytes) others
    → LieInFile (length bytes) (keep (option_map (lossy_segment_at ctx bytes offset) found) others)
segments_lie ctx bytes offset None others lie k s e some = lie k s e some
segments_lie ctx bytes offset (Some d) others lie zero s e some =
    subst (λ (t : SegmentView). 0 < length t.bytes → t.command.fileoff + length t.bytes ≤ length bytes) (same_some e)
    (lies bytes d.fileoff d.filesize (eqb d.filesize 0) (nat_le (length bytes) d.fileoff) (nat_le (d.fileoff + d.filesize) (length bytes))
    (leb-true (d.fileoff + d.filesize) (length bytes))) some
segments_lie ctx bytes offset (Some d) others lie (suc k) s e some = lie k s e some

pub segments_lie_lem : SegmentsLieInBytes
segments_lie_lem ctx bytes [] k s e some = absurd (cc)
segments_lie_lem ctx bytes (c ∷ cs) k s e some =
    segments_lie ctx bytes c.offset (segment_command_by widened c.kind c.values) (lossy_segments_in ctx bytes cs) (segments_lie_lem ctx bytes cs) k s e some
