-- The bindings of chains, and the bytes that hold their names.
use Rattle.std.proofs.Common.{◌≡◌, ◌∙◌, [], ◌∷◌, ℕ, List, Option, Some, None, Result, Ok, Err, map, refl, sym, ap}
use Rattle.mach_base.specs.Answer.{◌>>=◌}
use Rattle.mach_base.specs.Fault.{Fault, fault_of}
use Rattle.mach_base.specs.Number.{number_at, slice_at}
use Rattle.mach_base.specs.Sums.{found_or_malformed}
use Rattle.mach_base.specs.declared.context.Endian.{Endian}
use Rattle.mach_base.proofs.Binds.{same_ok}
use Rattle.mach_chained.specs.Bindings.{bindings_of}
use Rattle.mach_chained.specs.FixupsLeft as walk
use Rattle.mach_chained.specs.Formats.{import_format_of}
use Rattle.mach_chained.specs.Header.{Fixups, fixups_at, header_at, readable_header}
use Rattle.mach_chained.specs.Views.{fixups_view}
use Rattle.mach_chained.specs.declared.format.ImportFormat.{ImportFormat}
use Rattle.mach_records.specs.declared.fixup_chains.ChainedFixupsHeader.{ChainedFixupsHeader}
use Rattle.mach_parts.specs.Segment.{SegmentView, segment_view}
use Rattle.mach_parts.specs.declared.segment.Segment.{Segment}
use Rattle.goblin_mach.specs.Fixups.{base_of, chained_at}
use Rattle.goblin_mach_c.specs.BindingsAfter.{bindings_by, chains_by}
use Rattle.goblin_mach_c.specs.FixupsAfter.{AreFixupRowsOver, fixup_rows_left}
use Rattle.goblin_mach_c.specs.ImportsAfter.{Binds}
use Rattle.goblin_mach_c.specs.declared.fixups.FixupRows.{FixupRows}
use Rattle.goblin_mach_c.specs.declared.fixups.FixupRows.TheVariants as rows

-- ---- the header of the chains keeps their data

by_count : (le : Endian) (payload : List ℕ) (header : ChainedFixupsHeader) (format : ImportFormat) (count : Result ℕ Fault) (c : Fixups)
    → (count >>= λ n. Ok (record { payload = payload; header = header; format = format; segment_count = n; le = le })) ≡ Ok c
    → payload ≡ c.payload
by_count le payload header format (Ok n) c e = ap (λ (v : Fixups). v.payload) (same_ok e)
by_count le payload header format (Err f) c e = absurd (cc)

by_format : (le : Endian) (payload : List ℕ) (header : ChainedFixupsHeader) (format : Result ImportFormat Fault) (c : Fixups)
    → (format
    >>= λ m. number_at le 4 payload header.starts_offset
    >>= λ n. Ok (record { payload = payload; header = header; format = m; segment_count = n; le = le }))
    ≡ Ok c
    → payload ≡ c.payload
by_format le payload header (Ok m) c e = by_count le payload header m (number_at le 4 payload header.starts_offset) c e
by_format le payload header (Err f) c e = absurd (cc)

by_header : (le : Endian) (payload : List ℕ) (header : Result ChainedFixupsHeader Fault) (c : Fixups)
    → (header
    >>= λ h. found_or_malformed (import_format_of h.imports_format)
    >>= λ m. number_at le 4 payload h.starts_offset
    >>= λ n. Ok (record { payload = payload; header = h; format = m; segment_count = n; le = le }))
    ≡ Ok c
    → payload ≡ c.payload
by_header le payload (Ok h) c e = by_format le payload h (found_or_malformed (import_format_of h.imports_format)) c e
by_header le payload (Err f) c e = absurd (cc)

by_front : (le : Endian) (payload : List ℕ) (front : Result ChainedFixupsHeader Fault) (c : Fixups)
    → (front
    >>= λ t. readable_header t
    >>= λ h. found_or_malformed (import_format_of h.imports_format)
    >>= λ m. number_at le 4 payload h.starts_offset
    >>= λ n. Ok (record { payload = payload; header = h; format = m; segment_count = n; le = le }))
    ≡ Ok c
    → payload ≡ c.payload
by_front le payload (Ok t) c e = by_header le payload (readable_header t) c e
by_front le payload (Err f) c e = absurd (cc)

by_payload : (le : Endian) (payload : Result (List ℕ) Fault) (c : Fixups)
    → (payload
    >>= λ p. header_at le p
    >>= λ t. readable_header t
    >>= λ h. found_or_malformed (import_format_of h.imports_format)
    >>= λ m. number_at le 4 p h.starts_offset
    >>= λ n. Ok (record { payload = p; header = h; format = m; segment_count = n; le = le }))
    ≡ Ok c
    → payload ≡ Ok c.payload
by_payload le (Ok p) c e = ap (λ (v : List ℕ). Ok v) (by_front le p (header_at le p) c e)
by_payload le (Err f) c e = absurd (cc)

front_lies : (le : Endian) (bytes : List ℕ) (place size : ℕ) (c : Fixups) → fixups_at le bytes place size ≡ Ok c → slice_at size bytes place ≡ Ok c.payload
unfolding fixups_at
front_lies le bytes place size c e = by_payload le (slice_at size bytes place) c e

some_found : (found : Result Fixups Fault) (c : Fixups) → (found >>= λ v. Ok (Some v)) ≡ Ok (Some c) → found ≡ Ok c
some_found (Ok v) c e = cc
some_found (Err f) c e = absurd (cc)

-- the data of chains lie where a command places them
pub chained_lie : (le : Endian) (bytes : List ℕ) (place size : ℕ) (c : Fixups) → chained_at le bytes (Some (place, size)) ≡ Ok (Some c)
    → slice_at size bytes place ≡ Ok c.payload
chained_lie le bytes place size c e = front_lies le bytes place size c (some_found (fixups_at le bytes place size) c e)

pub no_chains : (le : Endian) (bytes : List ℕ) (c : Fixups) → chained_at le bytes None ≡ Ok (Some c) → ⊥
no_chains le bytes c e = absurd (cc)

-- ---- the bindings that are left of the chains are those of the fixups that are left

none_by : (chained : Result (Option Fixups) Fault) (x : Binds) → [] ≡ bindings_by chained x []
none_by (Err f) x = refl
none_by (Ok None) x = refl
none_by (Ok (Some c)) x = refl

pub same_chains : (chained : Result (Option Fixups) Fault) (x : Binds) (it : FixupRows) (segments : List Segment) (base : ℕ) (libs : List (List ℕ))
    → AreFixupRowsOver (record { chained = chained; segments = x.segments }) it → libs ≡ x.libs → map segment_view segments ≡ x.segments
    → base ≡ base_of x.segments
    → chains_by it segments base libs ≡ bindings_by chained x (fixup_rows_left it)
same_chains chained x (rows.Unread None) segments base libs over l s b = none_by chained x
same_chains chained x (rows.Unread (Some e)) segments base libs over l s b =
    sym (ap (λ (r : Result (Option Fixups) Fault). bindings_by r x (Err (fault_of e) ∷ [])) over)
same_chains chained x (rows.Chains it) segments base libs over l s b =
    let left = walk.fixups_left it.fixups in
    let front = fixups_view it.chained in
    ap (λ (v : List (List ℕ)). bindings_of (record { fixups = front; segments = map segment_view segments; base = base }) v left) l
    ∙ ap (λ (v : List SegmentView). bindings_of (record { fixups = front; segments = v; base = base }) x.libs left) s
    ∙ ap (λ (v : ℕ). bindings_of (record { fixups = front; segments = x.segments; base = v }) x.libs left) b
    ∙ sym (ap (λ (r : Result (Option Fixups) Fault). bindings_by r x left) over.0)
