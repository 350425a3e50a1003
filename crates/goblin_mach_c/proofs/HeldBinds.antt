-- The binds of an image lie in the bytes that it was opened in.
use Rattle.std.proofs.Common.{◌≡◌, ◌∙◌, [], ◌∷◌, ℕ, List, Option, Some, None, Ok, sym, ap}
use Rattle.std.specs.Prelude.{option_map}
use Rattle.std.specs.declared.alloc.Global.{Global}
use Rattle.mach_base.specs.Record.{Value}
use Rattle.mach_load.specs.Command.{Command}
use Rattle.mach_load.specs.Commands.{Kind, dyld_info, dyld_info_only}
use Rattle.mach_dyld.specs.Imports.{BindRanges}
use Rattle.goblin_mach.specs.OpenImage.{IsLossyImage, binds_view, commands_view}
use Rattle.goblin_mach.specs.Readings.{keep, last_or, read_of}
use Rattle.goblin_mach.specs.Subjects.{bind_ranges_of, binds_by}
use Rattle.goblin_mach.specs.declared.macho.MachO.{MachO}

is_some_of : (v b : BindRanges) → Some v ≡ Some b → v ≡ b
is_some_of v b e = cc

same_bytes : (v b : BindRanges) → Some v ≡ Some b → b.bytes ≡ v.bytes
same_bytes v b e = sym (ap (λ (x : BindRanges). x.bytes) (is_some_of v b e))

of_kind : (k : Kind) (bytes : List ℕ) (values : List Value) (b : BindRanges) → bind_ranges_of k bytes values ≡ Some b → b.bytes ≡ bytes
of_kind dyld_info bytes values b e = same_bytes _ b e
of_kind dyld_info_only bytes values b e = same_bytes _ b e
of_kind _ bytes values b e = absurd (cc)

of_last : (bytes : List ℕ) (found : Option BindRanges) (others : List BindRanges) (d : Option BindRanges) (b : BindRanges)
    → ((u : BindRanges) → found ≡ Some u → u.bytes ≡ bytes) → ((u : BindRanges) → d ≡ Some u → u.bytes ≡ bytes)
    → ((e : Option BindRanges) → ((u : BindRanges) → e ≡ Some u → u.bytes ≡ bytes) → last_or e others ≡ Some b → b.bytes ≡ bytes)
    → last_or d (keep (option_map (λ ranges. Ok ranges) found) others) ≡ Some b → b.bytes ≡ bytes
of_last bytes None others d b one before rest is = rest d before is
of_last bytes (Some v) others d b one before rest is = rest (Some v) one is

of_commands : (bytes : List ℕ) (cs : List Command) (d : Option BindRanges) (b : BindRanges) → ((u : BindRanges) → d ≡ Some u → u.bytes ≡ bytes)
    → last_or d (read_of (binds_by bytes) cs) ≡ Some b → b.bytes ≡ bytes
of_commands bytes [] d b before is = before b is
of_commands bytes (c ∷ cs) d b before is =
    of_last bytes (bind_ranges_of c.kind bytes c.values) (read_of (binds_by bytes) cs) d b (of_kind c.kind bytes c.values) before
    (λ e some. of_commands bytes cs e b some) is

pub binds_occur : (bytes : List ℕ) (o : ℕ) (m : MachO Global) → IsLossyImage bytes o m → (b : BindRanges) → binds_view m ≡ Some b → b.bytes ≡ bytes
binds_occur bytes o m p b is = of_commands bytes (commands_view m) None b (λ u wrong. absurd (cc)) (sym p.fields.binds ∙ is)
