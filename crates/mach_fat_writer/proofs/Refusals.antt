-- What the refusal of a part means for the whole.
use Rattle.std.proofs.Common.{◌≡◌, ℕ, Result, Ok, Err, ap, sym, subst}
use Rattle.mach_base.specs.Fault.{malformed, bad_magic, too_short, fault_of_scroll}
use Rattle.mach_base.specs.declared.error.Error.TheVariants as errors
use Rattle.mach_fat_writer.specs.Changes.{of_file}
use Rattle.mach_fat_writer.specs.Creates.{UnfitFile, RefusesFiles}
use Rattle.mach_fat_writer.specs.Unfit.{Unfit, unread, not_fat, no_such_entry, out_of_file, overlap, no_such_cpu, RefusesBy, RefusesAs, if_fit}
use Rattle.mach_fat_writer.specs.declared.refusal.EntryRefusal.{EntryRefusal}
use Rattle.mach_fat_writer.specs.declared.refusal.FileRefusal.{FileRefusal}
use Rattle.mach_fat_writer.specs.declared.refusal.EntryRefusal.TheVariants as refusals

-- if each reason of a part is one of the whole, a refused part refuses the whole
pub refused_as : {Y Z E F : Type 0} (part : Unfit → E) (whole : Unfit → F) (why : EntryRefusal) (there : Result Y E) (all : Result Z F)
    → ((u : Unfit) → there ≡ Err (part u) → all ≡ Err (whole u)) → RefusesBy part why there → RefusesBy whole why all
refused_as part whole (refusals.Unread (errors.Malformed m)) there all to is = to (unread malformed) is
refused_as part whole (refusals.Unread (errors.BadMagic n)) there all to is = to (unread (bad_magic n)) is
refused_as part whole (refusals.Unread (errors.Scroll e)) there all to is = to (unread (fault_of_scroll e)) is
refused_as part whole (refusals.Unread (errors.BufferTooShort n m)) there all to is = to (unread (too_short n m.now)) is
refused_as part whole (refusals.Unread (errors.Memory e)) there all to is = tt
refused_as part whole refusals.NotFat there all to is = to not_fat is
refused_as part whole (refusals.NoEntry i) there all to is = to (no_such_entry i) is
refused_as part whole (refusals.OutOfFile i) there all to is = to (out_of_file i) is
refused_as part whole refusals.Overlap there all to is = to overlap is
refused_as part whole (refusals.NoCpu n) there all to is = to (no_such_cpu n) is

abbrev pub unfit_file : ℕ → Unfit → UnfitFile
unfit_file i u = record { file = i; why = u }

-- what refuses a file refuses what is built from it
pub refused_file : {A : Type 0} (i : ℕ) (why : EntryRefusal) (there : Result A Unfit) → RefusesAs why there
    → RefusesFiles (record { file = i; why = why }) (of_file i there)
refused_file i why there = refused_as (λ u. u) (unfit_file i) why there (of_file i there) (λ u is. ap (of_file i) is)

-- what refuses the first refuses what follows from it
pub refused_more : {A B : Type 0} (next : A → Result B UnfitFile) (refusal : FileRefusal) (there : Result A UnfitFile) → RefusesFiles refusal there
    → RefusesFiles refusal (if_fit next there)
refused_more next refusal there =
    refused_as (unfit_file refusal.file) (unfit_file refusal.file) refusal.why there (if_fit next there) (λ u is. ap (if_fit next) is)

-- what refuses the next step, if the first one succeeds
pub refused_then : {A B : Type 0} (next : A → Result B UnfitFile) (refusal : FileRefusal) (there : Result A UnfitFile) (x : A) → there ≡ Ok x
    → RefusesFiles refusal (next x) → RefusesFiles refusal (if_fit next there)
refused_then next refusal there x is refuses = subst (λ t. RefusesFiles refusal (if_fit next t)) (sym is) refuses
