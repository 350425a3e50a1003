-- A title that is written with the first byte after it.
use Rattle.std.specs.Prelude.{◌≡◌, ℕ, List, drop, Option}
use Rattle.std.specs.Io.Buffered.{writer_buffer, writer_inner}
use Rattle.std.specs.Io.KnownBytes.{append_known}
use Rattle.std.specs.declared.io.buffered.BufWriter.{BufWriter}
use Rattle.mach_cli.specs.declared.titled.Titled.{Titled}

-- the writer below
abbrev pub titled_inner : {W : Type 0} → Titled W → W
titled_inner t = t.inner

-- the rest of the title, which isn't written yet
abbrev pub pending_title : {W : Type 0} → Titled W → List ℕ
pending_title t = drop t.written t.title.items

-- the bytes of the writer below, and then the rest of the title, as it will precede what is written next
abbrev pub titled_contents : {W : Type 0} → (W → Option (List ℕ)) → Titled W → Option (List ℕ)
titled_contents contents t = append_known (contents (titled_inner t)) (pending_title t)

-- This title precedes what is written next, and nothing was written.
pub record IsUnder {W B : Type 0} (title : List ℕ) (old new : BufWriter (Titled W) B) : Type 0 where
  pub inner : titled_inner (writer_inner new) ≡ titled_inner (writer_inner old)
  pub buffer : writer_buffer new ≡ writer_buffer old
  pub is_title : pending_title (writer_inner new) ≡ title
