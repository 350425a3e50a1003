-- Why the program refuses a file or an entry, and the message about it.
use Rattle.std.specs.Prelude.{◌≡◌, ℕ, List, [], codes, Option, Some, None, Result, Ok, Err}
use Rattle.std.specs.Io.KnownBytes.{Appends}
use Rattle.mach_base.specs.Answer.{ErrorMeets}
use Rattle.mach_base.specs.Fault.{Fault}
use Rattle.mach_base.specs.Words.{words_of}
use Rattle.mach_parts.specs.FatRecords.{HasFat64Magic}
use Rattle.mach_base.specs.declared.error.Error.{Error}
use Rattle.mach_fat_writer.specs.Unfit.{RefusesAs, Unfit}
use Rattle.mach_fat_writer.specs.declared.refusal.EntryRefusal.{EntryRefusal}
use Rattle.mach_fat_writer.specs.declared.refusal.EntryRefusal.TheVariants.{Unread}
use Rattle.goblin_mach.specs.Image.{Opens}
use Rattle.goblin_mach.specs.FatFile.{fat_file_in}
use Rattle.goblin_mach.specs.View.{ViewFault}
use Rattle.mach_cli.specs.Cpus.{no_entry_words}
use Rattle.goblin_mach.specs.FirstBytes.{foreign_words}
use Rattle.mach_cli.specs.Foreigners.{refused_kind}
use Rattle.mach_cli.specs.Names.{names_text}
use Rattle.mach_cli.specs.Refusals.{complaint}
use Rattle.mach_cli.specs.declared.cpu.Cpu.{Cpu}
use Rattle.goblin_mach.specs.declared.first_bytes.Foreign as declared
use Rattle.goblin_mach.specs.declared.first_bytes.Foreign.TheVariants.{Archive}
use Rattle.machfat.specs.Members.{MembersFault}
use Rattle.machfat.specs.Outside.{refused_entries, refused_entries_words}
use Rattle.machfat.specs.declared.refusal.WriteFailure.TheVariants as failures
use Rattle.machfat.specs.declared.refusal.WriteFailure.{WriteFailure}
use Rattle.machfat.specs.declared.refusal.Refusal.TheVariants.{Refused, Foreign, NotFat, Entries, NoEntryOf}
use Rattle.machfat.specs.declared.refusal.Refusal.{Refusal}

abbrev pub refusal_words : Refusal → List ℕ
refusal_words (Refused e) = words_of e
refusal_words (Foreign kind) = foreign_words kind
refusal_words NotFat = codes "not a fat file"
refusal_words (Entries refused) = refused_entries_words refused
refusal_words (NoEntryOf cpu) = no_entry_words cpu

-- the line on the error output, with the file's name
abbrev pub refusal_line : List ℕ → Refusal → List ℕ
refusal_line file refusal = complaint (names_text (codes "machfat") file) (refusal_words refusal)

-- A fault of opening a fat file: of the header of one of 64 bits; of any other file, of opening it.
pub data FatFault (bytes : List ℕ) : Fault → Type 0 where
  in_header : (f : Fault) → HasFat64Magic bytes → fat_file_in bytes ≡ Err f → FatFault bytes f
  in_view : (f : Fault) → ¬ HasFat64Magic bytes → ViewFault bytes f → FatFault bytes f

-- the refusal of a file for an error: by its kind, if that is known
abbrev pub refused_by : Option declared.Foreign → Error → Refusal
refused_by (Some kind) e = Foreign kind
refused_by None e = Refused e

-- Why a file can't be read: one of these faults holds, and the kind of the file is known or not; or an allocation was refused.
abbrev pub RefusesRead : (Fault → Type 0) → (kind : Error → Option declared.Foreign) → Refusal → Type 0
RefusesRead faults kind (Refused e) = ErrorMeets faults e × (kind e ≡ None)
RefusesRead faults kind (Foreign known) = (e : Error) × ErrorMeets faults e × (kind e ≡ Some known)
RefusesRead faults kind NotFat = ⊥
RefusesRead faults kind (Entries why) = ⊥
RefusesRead faults kind (NoEntryOf cpu) = ⊥

-- Why the faults of a fat file's layout can't be listed: a fault of opening it holds; or it is an image.
abbrev pub RefusesFaults : List ℕ → Refusal → Type 0
RefusesFaults bytes (Refused e) = RefusesRead (FatFault bytes) (refused_kind bytes) (Refused e)
RefusesFaults bytes (Foreign kind) = RefusesRead (FatFault bytes) (refused_kind bytes) (Foreign kind)
RefusesFaults bytes NotFat = Opens bytes 0
RefusesFaults bytes (Entries why) = ⊥
RefusesFaults bytes (NoEntryOf cpu) = ⊥

-- a kind of file, if it is no archive
abbrev pub but_archive : Option declared.Foreign → Option declared.Foreign
but_archive (Some Archive) = None
but_archive kind = kind

-- Why the members of a file can't be listed: a fault of reading them holds.
abbrev pub RefusesMembers : List ℕ → Refusal → Type 0
RefusesMembers bytes refusal = RefusesRead (MembersFault bytes) (λ e. but_archive (refused_kind bytes e)) refusal

-- the kind of a file whose entries are refused, if its first bytes show it
abbrev pub kind_by_front : List ℕ → EntryRefusal → Option declared.Foreign
kind_by_front bytes (Unread e) = refused_kind bytes e
kind_by_front bytes _ = None

-- the refusal of a file whose entries are refused
abbrev pub said_by : List ℕ → Option declared.Foreign → EntryRefusal → Refusal
said_by bytes (Some kind) why = Foreign kind
said_by bytes None why = Entries (refused_entries bytes why)

-- an answer, or the refusal of the file
abbrev pub said_in : {X : Type 0} → List ℕ → Result X EntryRefusal → Result X Refusal
said_in bytes (Ok x) = Ok x
said_in bytes (Err why) = Err (said_by bytes (kind_by_front bytes why) why)

-- Why what a fat file has, `there`, can't be printed or written: it can't be read, and the first bytes show the kind of the file,
-- or don't; it isn't there; or an allocation was refused. Of an entry that is out of the file the refusal has where both end.
abbrev pub Refuses : {Y : Type 0} → List ℕ → Result Y Unfit → Refusal → Type 0
Refuses bytes there (Refused e) = ErrorMeets (λ f. ⊥) e
Refuses bytes there (Foreign kind) = (why : EntryRefusal) × RefusesAs why there × (kind_by_front bytes why ≡ Some kind)
Refuses bytes there NotFat = ⊥
Refuses bytes there (Entries r) = RefusesAs r.why there × (kind_by_front bytes r.why ≡ None) × (r ≡ refused_entries bytes r.why)
Refuses bytes there (NoEntryOf cpu) = ⊥

-- Why the first entry for a cpu can't be written, given what the file has for it: the file is refused, or the entry is not in it;
-- it has no entry for this cpu; or an allocation was refused. The kind of the file isn't reported.
abbrev pub RefusesCpu : List ℕ → Result (Option (List ℕ)) Unfit → Cpu → Refusal → Type 0
RefusesCpu bytes there cpu (Refused e) = ErrorMeets (λ f. ⊥) e
RefusesCpu bytes there cpu (Foreign kind) = ⊥
RefusesCpu bytes there cpu NotFat = ⊥
RefusesCpu bytes there cpu (Entries r) = RefusesAs r.why there × (r ≡ refused_entries bytes r.why)
RefusesCpu bytes there cpu (NoEntryOf other) = (other ≡ cpu) × (there ≡ Ok None)

-- the refusal, if it is one, satisfies P
abbrev pub IsRefusal : (Refusal → Type 0) → WriteFailure → Type 0
IsRefusal P (failures.Refused refusal) = P refusal
IsRefusal P (failures.Unwritten e) = Unit {0}

-- the refusal is a refused allocation
abbrev pub IsWant : Refusal → Type 0
IsWant (Refused e) = ErrorMeets (λ f. ⊥) e
IsWant (Foreign kind) = ⊥
IsWant NotFat = ⊥
IsWant (Entries why) = ⊥
IsWant (NoEntryOf cpu) = ⊥

-- It is a refusal that satisfies P, and nothing was written.
abbrev pub RefusesUnwritten : (Refusal → Type 0) → (old new : Option (List ℕ)) → WriteFailure → Type 0
RefusesUnwritten P old new failure = IsRefusal (λ refusal. P refusal × Appends old new []) failure

-- A file is refused, and the refusal satisfies P: a line on the error output says why, and nothing was written on the other
-- output.
pub record RefusesFile (P : Refusal → Type 0) (file : List ℕ) (out_old out_new err_old err_new : Option (List ℕ)) : Type 0 where
  pub refusal : Refusal
  pub occurs : P refusal
  pub nothing : Appends out_old out_new []
  pub said : Appends err_old err_new (refusal_line file refusal)
