use Rattle.mach_dyld.proofs.TrieNames.{ap, fault_of, TrieRange}
use Rattle.mach_dyld.proofs.CursorPlaces.{place_found, place_missed}
use Rattle.mach_dyld.proofs.exports.ExportTrie.reexport_place.Goals as goal

pub returns-in-Ok-clause-reported : goal.returns-in-Ok-clause-reported
returns-in-Ok-clause-reported c = λ libs lib name flags own.
    place_found c.args.self.now.bytes c.self.inside.bytes.now libs c.args.self.now.from c.args.cursor.now.node lib name flags
    (ap (λ (t : TrieRange). t.bytes) c.self.view_is) own c.in-Ok.found c.in-Ok.ensures

pub returns-in-Err-clause-reported : goal.returns-in-Err-clause-reported
returns-in-Err-clause-reported c = λ libs lib name flags own. absurd (
    place_missed c.args.self.now.bytes c.self.inside.bytes.now libs c.args.self.now.from c.args.cursor.now.node lib name flags
    (ap (λ (t : TrieRange). t.bytes) c.self.view_is) own (fault_of c.in-Err.field-0) c.in-Err.ensures)
