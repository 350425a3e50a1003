-- The members and symbols of an archive as C sees them.
use Rattle.std.specs.Prelude.{◌≡◌, ℕ, ◌-◌, ◌^◌, length, Option, Some, None, unwrap_or, Result, Ok, Err, List}
use Rattle.mach_base.specs.Fault.{Fault}
use Rattle.mach_archive.specs.Fields.{field_number}
use Rattle.mach_archive.specs.IndexSymbols.{IndexSymbol}
use Rattle.mach_archive.specs.MemberHeaders.{date_field, gid_field, mode_field, uid_field}
use Rattle.mach_archive.specs.MemberNames.{member_name_at}
use Rattle.mach_archive.specs.Members.{MemberView}
use Rattle.goblin_mach_c.specs.ArchiveItems.{archive_form}
use Rattle.goblin_mach_c.specs.Codes.{code_of_fault}
use Rattle.goblin_mach_c.specs.declared.archive.ArchiveForm.{ArchiveForm}
use Rattle.goblin_mach_c.specs.declared.archive.ArchiveForm.TheVariants.{Bsd, Gnu, NoArchive, Thin}
use Rattle.goblin_mach_c.specs.declared.archive.gm_archive_member.{gm_archive_member}
use Rattle.goblin_mach_c.specs.declared.archive.gm_archive_symbol.{gm_archive_symbol}

-- the offset of a name, its length, and its code
abbrev pub name_numbers : Result (ℕ × ℕ) Fault → ℕ × ℕ × ℕ
name_numbers (Ok (place, len)) = (place, len, 0)
name_numbers (Err f) = (0, 0, code_of_fault f)

-- the number of a field, or the one for a field that is no number (`goblin_mach.h`, GM_NO_NUMBER)
abbrev pub number_or_none : Option ℕ → ℕ
number_or_none n = unwrap_or n (2 ^ 64 - 1)

abbrev pub member_row : MemberView → gm_archive_member
member_row m =
    record {
      date = number_or_none (field_number 10 (date_field m.fields));
      uid = number_or_none (field_number 10 (uid_field m.fields));
      gid = number_or_none (field_number 10 (gid_field m.fields));
      mode = number_or_none (field_number 8 (mode_field m.fields));
      header = m.offset;
      «data» = m.start;
      data_len = length m.bytes;
      name = (name_numbers (member_name_at m)).0;
      name_len = (name_numbers (member_name_at m)).1;
      name_code = (name_numbers (member_name_at m)).2;
      code = 0;
    }

-- no member, and why, or 0
abbrev pub no_member : ℕ → gm_archive_member
no_member code =
    record {
      date = 0;
      uid = 0;
      gid = 0;
      mode = 0;
      header = 0;
      «data» = 0;
      data_len = 0;
      name = 0;
      name_len = 0;
      name_code = 0;
      code = code;
    }

-- the row of a member, with the offset of its name; or it says why there is none
abbrev pub row_of_member : Result MemberView Fault → gm_archive_member
row_of_member (Ok m) = member_row m
row_of_member (Err f) = no_member (code_of_fault f)

abbrev pub archive_symbol_row : IndexSymbol → gm_archive_symbol
archive_symbol_row s = record { member = s.member; name = s.place; name_len = length s.name; code = 0; reserved = 0 }

abbrev pub no_archive_symbol : ℕ → gm_archive_symbol
no_archive_symbol code = record { member = 0; name = 0; name_len = 0; code = code; reserved = 0 }

abbrev pub row_of_symbol : Result IndexSymbol Fault → gm_archive_symbol
row_of_symbol (Ok s) = archive_symbol_row s
row_of_symbol (Err f) = no_archive_symbol (code_of_fault f)

-- ---- which archive the bytes are, and a member that is looked up

-- the number of a form (`goblin_mach.h`, GM_ARCHIVE_NONE and the following ones)
abbrev pub form_number : ArchiveForm → ℕ
form_number NoArchive = 0
form_number Gnu = 1
form_number Bsd = 2
form_number Thin = 3

pub record IsFormNumber (bytes : List ℕ) (number : ℕ) : Type 0 where
  pub form : ArchiveForm
  pub is : archive_form bytes ≡ Ok form
  pub numbered : number ≡ form_number form

-- the code of the fault because of which something isn't there
pub record IsCodeOf {A : Type 0} (there : Result A Fault) (code : ℕ) : Type 0 where
  pub fault : Fault
  pub is : there ≡ Err fault
  pub coded : code ≡ code_of_fault fault

-- a member that was looked up; if there is none, a row of zeros
abbrev pub found_row : Option MemberView → gm_archive_member
found_row (Some m) = member_row m
found_row None = no_member 0

pub record FindsMember (there : Result (Option MemberView) Fault) (row : gm_archive_member) : Type 0 where
  pub member : Option MemberView
  pub is : there ≡ Ok member
  pub written : row ≡ found_row member
