-- Why the entries of a file are refused, and the texts of refusals.
use Rattle.std.specs.Prelude.{◌≡◌, ℕ, List, ◌++◌, false, codes, Result, Ok, Err}
use Rattle.std.specs.Fmt.{decimal, digits}
use Rattle.mach_base.specs.Answer.{ErrorMeets}
use Rattle.mach_base.specs.Fault.{Fault}
use Rattle.mach_base.specs.Words.{words_of}
use Rattle.mach_fat_writer.specs.declared.refusal.EntryRefusal.{EntryRefusal}
use Rattle.mach_fat_writer.specs.declared.refusal.EntryRefusal.TheVariants.{Unread, NotFat, NoEntry, OutOfFile, Overlap, NoCpu}

-- why entries are refused: they can't be read; the file is one image; none has this index; the one at an index isn't in the file;
-- they have more bytes than the file; none is for a cpu
pub data Unfit : Type 0 where
  unread : Fault → Unfit
  not_fat : Unfit
  no_such_entry : ℕ → Unfit
  out_of_file : ℕ → Unfit
  overlap : Unfit
  no_such_cpu : ℕ → Unfit

-- what follows from a value, or the refusal
abbrev pub if_fit : {A B E : Type 0} → (A → Result B E) → Result A E → Result B E
if_fit next (Ok x) = next x
if_fit next (Err e) = Err e

-- what was read, or that it can't be read
abbrev pub if_read : {A : Type 0} → Result A Fault → Result A Unfit
if_read (Ok x) = Ok x
if_read (Err f) = Err (unread f)

-- a refusal says why nothing is there, seen by `view`, or that memory ran out
abbrev pub RefusesBy : {Y E : Type 0} → (Unfit → E) → EntryRefusal → Result Y E → Type 0
RefusesBy view (Unread e) there = ErrorMeets (λ f. there ≡ Err (view (unread f))) e
RefusesBy view NotFat there = there ≡ Err (view not_fat)
RefusesBy view (NoEntry i) there = there ≡ Err (view (no_such_entry i))
RefusesBy view (OutOfFile i) there = there ≡ Err (view (out_of_file i))
RefusesBy view Overlap there = there ≡ Err (view overlap)
RefusesBy view (NoCpu n) there = there ≡ Err (view (no_such_cpu n))

abbrev pub RefusesAs : {Y : Type 0} → EntryRefusal → Result Y Unfit → Type 0
RefusesAs refusal there = RefusesBy (λ why. why) refusal there

-- the answer, seen by `view`, is the value, or its refusal
abbrev pub AnswersAs : {X Y : Type 0} → (X → Y) → Result X EntryRefusal → Result Y Unfit → Type 0
AnswersAs view (Ok x) there = there ≡ Ok (view x)
AnswersAs view (Err refusal) there = RefusesAs refusal there

abbrev pub entry_refusal_words : EntryRefusal → List ℕ
entry_refusal_words (Unread e) = words_of e
entry_refusal_words NotFat = codes "not a fat file"
entry_refusal_words (NoEntry i) = codes "no entry " ++ decimal i
entry_refusal_words (OutOfFile i) = codes "entry " ++ (decimal i ++ codes " is out of the file")
entry_refusal_words Overlap = codes "entries overlap"
entry_refusal_words (NoCpu n) = codes "no entry of cputype 0x" ++ digits 16 false n
