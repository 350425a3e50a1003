-- Some text was written, and then some more.
use Rattle.std.proofs.Common.{ℕ, List, Option, ◌++◌}
use Rattle.std.specs.Io.KnownBytes.{Appends}
use Rattle.mach_base.proofs.Written.{Appends-both, Appends-none}
use Rattle.machinfo.specs.Summary.{WritesSome}

pub some : {old new : Option (List ℕ)} (text : List ℕ) → Appends old new text → WritesSome old new
some text written = record { text = text; written = written }

pub nothing : (old : Option (List ℕ)) → WritesSome old old
nothing old = some _ (Appends-none old)

pub some_more : {old middle new : Option (List ℕ)} → WritesSome old middle → WritesSome middle new → WritesSome old new
some_more first last = some (first.text ++ last.text) (Appends-both _ _ _ first.text last.text first.written last.written)
