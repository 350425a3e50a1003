use Rattle.std.proofs.Common.{◌∙◌, ℕ, List, ap, subst}
use Rattle.std.specs.Prelude.{OnOk}
use Rattle.std.specs.Io.KnownBytes.{Appends}
use Rattle.mach_signature.specs.CodeFaultViews.{code_faults_left}
use Rattle.mach_signature.specs.Directories.{page_count_of}
use Rattle.mach_signature.specs.DirectoryViews.{directory_view}
use Rattle.mach_signature.specs.FaultViews.{signed_view}
use Rattle.mach_signature.specs.SpecialFaults.{special_faults_of}
use Rattle.machsign.specs.Blocks.{checked_text, slots_words, sound_pages}
use Rattle.machsign.proofs.block.print_checked.Goals as goal

pub returns : goal.returns
returns g c =
    let old = g.O.Write.contents c.args.out.now in
    let new = g.O.Write.contents c.writeln.new.self in
    let x = signed_view c.args.signed.now in
    let d = directory_view c.args.directory.now in
    let count = page_count_of d in
    let some = c.sound_pages-sound.result in
    let words = slots_words (special_faults_of d x.signature x.plist) in
    let sound = c.sound_pages-sound.ensures ∙ ap (λ (n : ℕ). sound_pages n (code_faults_left c.code_faults.result)) c.page_count-pages.ensures
    ∙ ap (sound_pages count) c.code_faults.ensures in
    let slots = c.slots_words-slots.ensures ∙ ap slots_words c.special_faults.ensures in
    subst (λ (n : ℕ). OnOk c.writeln.result (Appends old new (checked_text n count words))) sound
    (subst (λ (m : ℕ). OnOk c.writeln.result (Appends old new (checked_text some m words))) c.page_count-pages.ensures
    (subst (λ (t : List ℕ). OnOk c.writeln.result (Appends old new (checked_text some c.page_count-pages.result t))) slots c.writeln.ensures.bytes))
