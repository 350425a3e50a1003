use Rattle.std.proofs.Common.{◌≡◌, ◌++◌, ◌∙◌, [], ℕ, List, Bool, true, false, refl, sym, subst}
use Rattle.std.proofs.lemmas.Result.{on_ok_weaker}
use Rattle.std.specs.Io.KnownBytes.{Appends}
use Rattle.std.specs.Prelude.{codes, nat_le, if◌then◌else◌, OnOk}
use Rattle.mach_cli.specs.SignatureNames.{bytes_text}
use Rattle.mach_signature.specs.Directories.{full_cdhash_of}
use Rattle.mach_signature.specs.DirectoryViews.{directory_view}
use Rattle.mach_signature.specs.Hashes.{hash_len}
use Rattle.machsign.proofs.Written.{three}
use Rattle.machsign.proofs.block.print_full_cdhash.Goals as goal

otherwise : (b : Bool) (line : List ℕ) → b ≡ false → line ≡ (if b then [] else line)
otherwise true line e = absurd (cc)
otherwise false line e = refl

pub returns : goal.returns
returns g c =
    let d = directory_view c.args.directory.now in
    let old = g.O.Write.contents c.args.out.now in
    let new = g.O.Write.contents c.writeln.new.self in
    let hash = bytes_text (full_cdhash_of d) in
    subst (λ (t : List ℕ). OnOk c.writeln.result (Appends old new t))
    (otherwise (nat_le (hash_len d.hash) 20) (codes "  full cdhash: " ++ (hash ++ codes "\n")) (sym c.is_short.ensures ∙ c.if-is_short.false))
    (on_ok_weaker c.writeln.result
    (λ last. three _ _ _ _ (codes "  full cdhash: ") hash (codes "\n") c.in_ok-write.ensures.bytes c.in_ok-print_full_hash.ensures last)
    c.writeln.ensures.bytes)
