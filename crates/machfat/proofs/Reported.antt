-- The refusal of a file whose entries are refused, and what is reported of entries.
use Rattle.std.proofs.Common.{◌≡◌, ◌++◌, ◌∷◌, [], ℕ, List, Option, Some, None, Result, true, refl, subst, length}
use Rattle.std.specs.Prelude.{◌&&◌}
use Rattle.std.specs.Io.KnownBytes.{Appends}
use Rattle.mach_base.specs.Answer.{ErrorMeets}
use Rattle.mach_base.specs.Fault.{Fault}
use Rattle.mach_base.specs.declared.error.Error.{Error}
use Rattle.mach_base.specs.declared.error.Error.TheVariants as errors
use Rattle.mach_base.proofs.Written.{Appends-none, Appends-both}
use Rattle.mach_fat_writer.specs.Unfit.{RefusesAs, Unfit}
use Rattle.mach_fat_writer.specs.declared.entry_record.EntryRecord.{EntryRecord}
use Rattle.mach_fat_writer.specs.declared.refusal.EntryRefusal.{EntryRefusal}
use Rattle.mach_cli.specs.Foreigners.{refused_kind}
use Rattle.goblin_mach.specs.declared.first_bytes.Foreign.{Foreign}
use Rattle.mach_cli.specs.declared.image_view.Outcome.{Outcome}
use Rattle.machfat.specs.Members.{AreContentLines, AreEntryLines, entry_line, no_entries, one_more, stays}
use Rattle.machfat.specs.Refusals.{FatFault, Refuses, RefusesFaults, RefusesRead, kind_by_front, refused_by, said_by}
use Rattle.machfat.specs.Written.{WritesAs}

reports_by : {Y : Type 0} (bytes : List ℕ) (why : EntryRefusal) (kind : Option Foreign) (there : Result Y Unfit) → kind_by_front bytes why ≡ kind
    → RefusesAs why there → Refuses bytes there (said_by bytes kind why)
reports_by bytes why (Some kind) there is refuses = (why, refuses, is)
reports_by bytes why None there is refuses = (refuses, is, refl)

-- the refusal says why there is nothing
pub reports_of : {Y : Type 0} (bytes : List ℕ) (why : EntryRefusal) (there : Result Y Unfit) → RefusesAs why there
    → Refuses bytes there (said_by bytes (kind_by_front bytes why) why)
reports_of bytes why there refuses = reports_by bytes why (kind_by_front bytes why) there refl refuses

-- a refused allocation is reported without the kind of the file
pub want_has_no_kind : (bytes : List ℕ) (e : Error) → ErrorMeets (λ f. ⊥) e → refused_kind bytes e ≡ None
want_has_no_kind bytes (errors.Malformed m) want = absurd want
want_has_no_kind bytes (errors.BadMagic n) want = absurd want
want_has_no_kind bytes (errors.Scroll e) want = absurd want
want_has_no_kind bytes (errors.BufferTooShort n m) want = absurd want
want_has_no_kind bytes (errors.Memory e) want = refl

-- why a file can't be read, by its refusal
refuses_by : (faults : Fault → Type 0) (kind : Error → Option Foreign) (known : Option Foreign) (e : Error) → ErrorMeets faults e → kind e ≡ known
    → RefusesRead faults kind (refused_by known e)
refuses_by faults kind (Some known) e occurs is = (e, occurs, is)
refuses_by faults kind None e occurs is = (occurs, is)

pub refuses_read : (faults : Fault → Type 0) (kind : Error → Option Foreign) (e : Error) → ErrorMeets faults e
    → RefusesRead faults kind (refused_by (kind e) e)
refuses_read faults kind e occurs = refuses_by faults kind (kind e) e occurs refl

pub refuses_faults : (bytes : List ℕ) (known : Option Foreign) (e : Error) → ErrorMeets (FatFault bytes) e → refused_kind bytes e ≡ known
    → RefusesFaults bytes (refused_by known e)
refuses_faults bytes (Some known) e occurs is = (e, occurs, is)
refuses_faults bytes None e occurs is = (occurs, is)

pub no_entries_reported : (limit : ℕ) (bytes : List ℕ) (known : Option (List ℕ))
    → WritesAs (AreEntryLines limit bytes []) (stays limit true) known known
no_entries_reported limit bytes known = record { text = []; are_lines = no_entries; written = Appends-none known }

-- one more entry, after its line
pub entry_more : (limit : ℕ) (bytes : List ℕ) (records : List EntryRecord) (r : EntryRecord) (i : ℕ) (before one : Outcome)
    (old middle line new : Option (List ℕ)) → i ≡ length records → WritesAs (AreEntryLines limit bytes records) before old middle
    → Appends middle line (entry_line i) → WritesAs (AreContentLines limit before.left bytes i r) one line new
    → WritesAs (AreEntryLines limit bytes (records ++ r ∷ [])) (stays one.left (before.whole && one.whole)) old new
entry_more limit bytes records r i before one old middle line new is front titled reported =
    let first = subst (λ (n : ℕ). Appends middle line (entry_line n)) is titled in
    let last = subst (λ (n : ℕ). WritesAs (AreContentLines limit before.left bytes n r) one line new) is reported in record {
      text = front.text ++ (entry_line (length records) ++ last.text);
      are_lines = one_more records r front.text last.text before one front.are_lines last.are_lines;
      written = Appends-both old middle new front.text _ front.written
          (Appends-both middle line new (entry_line (length records)) last.text first last.written);
    }
