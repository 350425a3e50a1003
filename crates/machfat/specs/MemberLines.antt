-- The lines of an archive's members (`ar.h`, struct ar_hdr).
use Rattle.std.specs.Prelude.{ℕ, ◌+◌, List, [], ◌∷◌, ◌++◌, codes, length, Bool, true, false, Option, Some, None, Result, Ok, Err}
use Rattle.std.specs.Fmt.{decimal, digits}
use Rattle.mach_base.specs.Fault.{Fault, fault_of}
use Rattle.mach_base.specs.Items.{read_as}
use Rattle.mach_base.specs.Words.{words_of}
use Rattle.mach_base.specs.declared.error.Error.{Error}
use Rattle.mach_archive.specs.Fields.{field_number}
use Rattle.mach_archive.specs.MemberHeaders.{date_field, gid_field, mode_field, uid_field}
use Rattle.mach_archive.specs.MemberNames.{member_name}
use Rattle.mach_archive.specs.Members.{AreMembers, MemberView}
use Rattle.mach_archive.specs.Archives.{ArchiveView}
use Rattle.mach_cli.specs.declared.listing.ListProgress.{ListProgress}
use Rattle.mach_cli.specs.Kinds.{entry_kind}
use Rattle.machfat.specs.Names.{name_tail, refused_line}
use Rattle.machfat.specs.Written.{AreItemLines}

-- a number, or a dash if the field has none
abbrev pub number_or_dash : Option ℕ → List ℕ
number_or_dash (Some n) = decimal n
number_or_dash None = codes "-"

-- a number in octal, after a 0
abbrev pub octal_or_dash : Option ℕ → List ℕ
octal_or_dash (Some n) = codes "0" ++ digits 8 false n
octal_or_dash None = codes "-"

-- the offsets of a member's header and of its bytes, and their number
abbrev pub member_place_text : MemberView → List ℕ
member_place_text m = codes "header " ++ (decimal m.offset ++ (codes ", offset " ++ (decimal m.start ++ (codes ", size " ++ decimal (length m.bytes)))))

-- the numbers of its header
abbrev pub member_numbers_text : MemberView → List ℕ
member_numbers_text m =
    codes "date " ++ (number_or_dash (field_number 10 (date_field m.fields))
    ++ (codes ", uid " ++ (number_or_dash (field_number 10 (uid_field m.fields))
    ++ (codes ", gid " ++ (number_or_dash (field_number 10 (gid_field m.fields))
    ++ (codes ", mode " ++ octal_or_dash (field_number 8 (mode_field m.fields))))))))

-- a member with its number, before its name
abbrev pub member_front : ℕ → MemberView → List ℕ
member_front number m =
    codes "member " ++ (decimal number ++ (codes ": " ++ (member_place_text m ++ (codes ", " ++ (member_numbers_text m
    ++ (codes ", " ++ (entry_kind m.bytes ++ codes ", ")))))))

-- its name, or the error of its name, and the end of the line
abbrev pub member_name_end : Result (List ℕ) Error → List ℕ
member_name_end (Ok name) = codes "name " ++ name_tail name
member_name_end (Err e) = codes "name refused: " ++ (words_of e ++ codes "\n")

-- What is reported where a member may be: the member with its number, and its name or the error of the name; or the error for
-- which there is no member, nor any after it.
pub data MemberReported (E : Type 0) : Type 0 where
  a_member : (number : ℕ) (member : MemberView) (name : Result (List ℕ) E) → MemberReported E
  no_more_members : E → MemberReported E

-- the line of this
abbrev pub member_line : MemberReported Error → List ℕ
member_line (a_member number m name) = member_front number m ++ member_name_end name
member_line (no_more_members e) = refused_line (codes "refused") e

-- the words of its error, if it has one
abbrev pub name_reason : Result (List ℕ) Error → List ℕ
name_reason (Ok name) = []
name_reason (Err e) = words_of e

abbrev pub member_reason : MemberReported Error → List ℕ
member_reason (a_member number m name) = name_reason name
member_reason (no_more_members e) = words_of e

-- the same, with faults for errors
abbrev pub member_faults : MemberReported Error → MemberReported Fault
member_faults (a_member number m name) = a_member number m (read_as (λ n. n) name)
member_faults (no_more_members e) = no_more_members (fault_of e)

-- what is reported of a member with a number
abbrev pub member_item : ℕ → Result MemberView Fault → MemberReported Fault
member_item number (Ok m) = a_member number m (member_name m)
member_item number (Err f) = no_more_members f

-- what is reported of members, numbered from one on
abbrev pub reported_members : ℕ → List (Result MemberView Fault) → List (MemberReported Fault)
reported_members number [] = []
reported_members number (m ∷ ms) = member_item number m ∷ reported_members (number + 1) ms

-- whether a member and its name can be read
abbrev pub is_whole_name : Result (List ℕ) Fault → Bool
is_whole_name (Ok name) = true
is_whole_name (Err f) = false

abbrev pub is_whole_member : MemberReported Fault → Bool
is_whole_member (a_member number m name) = is_whole_name name
is_whole_member (no_more_members f) = false

-- The text is a line for each of an archive's first members, in order, up to the first fault, and for that fault, no more than
-- `left`. It is whole if none of them has a fault.
pub record AreMemberLines (a : ArchiveView) (left : ℕ) (text : List ℕ) (t : ListProgress) : Type 0 where
  pub members : List (Result MemberView Fault)
  pub are_members : AreMembers a.bytes a.names a.begin members
  pub lines : AreItemLines member_faults member_line is_whole_member left (reported_members 0 members) text t
