-- The writers that standard output is made of.
use Rattle.std.specs.Prelude.{◌≡◌, [], Bool, true, false}
use Rattle.std.specs.Io.Buffered.{writer_buffer, writer_inner}
use Rattle.std.specs.declared.io.buffered.BufWriter.{BufWriter}
use Rattle.mach_cli.specs.Titles.{pending_title, titled_inner}
use Rattle.mach_cli.specs.declared.painted.Painted.{Painted}
use Rattle.mach_cli.specs.declared.painted.Painted.TheVariants as painted
use Rattle.mach_cli.specs.declared.terminal.ForTerminal.{ForTerminal}
use Rattle.mach_cli.specs.declared.terminal.ForTerminal.TheVariants as terminal
use Rattle.mach_cli.specs.declared.titled.Titled.{Titled}

-- whether a writer colours what it passes on
abbrev pub is_colouring : {W : Type 0} → Painted W → Bool
is_colouring (painted.Plain w) = false
is_colouring (painted.Coloured w) = true

-- the writer below
abbrev pub shown_inner : {W : Type 0} → ForTerminal W → W
shown_inner (terminal.Plain w) = w
shown_inner (terminal.Shown w) = w

-- the writer below titles and what is shown on a terminal: the one that paints
abbrev pub painter_in : {W B : Type 0} → BufWriter (Titled (ForTerminal W)) B → W
painter_in out = shown_inner (titled_inner (writer_inner out))

-- Nothing is held back in a writer, and no title is pending.
abbrev pub IsFresh : {W B : Type 0} → BufWriter (Titled W) B → Type 0
IsFresh out = (writer_buffer out ≡ []) × (pending_title (writer_inner out) ≡ [])
