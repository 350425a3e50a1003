use Rattle.std.proofs.Common.{◌≤◌, ◌/◌, length, Ok, Err, subst}
use Rattle.mach_base.specs.Fault.{fault_of}
use Rattle.mach_fat_writer.specs.FatTables.{form_of, fat_record_in, fat_table_in}
use Rattle.mach_fat_writer.proofs.Gathered.{read_next, read_refused, read_all}
use Rattle.mach_fat_writer.proofs.Tables.{header_count, table_is, reported}
use Rattle.mach_fat_writer.proofs.form.Form.records.Goals as goal

pub returns-in_err-record_at : goal.returns-in_err-record_at
returns-in_err-record_at g c =
    let form = form_of c.args.self in
    let bytes = c.args.bytes.now in
    let n = c.in_ok-header.header.nfat_arch in
    let e = c.in_err-record_at.field-0.0 in
    reported (λ records. records.items) c.from_residual-in_err-record_at.result e c.from_residual-in_err-record_at.ensures.1 (fat_table_in form bytes)
    (table_is form bytes n (Err (fault_of e)) (header_count bytes c.in_ok-header.header c.in_ok-header.ensures)
    (subst (λ k. n ≤ length bytes / k) c.record_size.ensures c.if-count-bytes.false)
    (read_refused (fat_record_in form bytes) n c.loop-index.records.items c.loop-index.index (fault_of e) c.loop-index-test.true c.loop-index.invariant
    c.in_err-record_at.ensures))

pub loop-index-preserved : goal.loop-index-preserved
loop-index-preserved g c =
    read_next (fat_record_in (form_of c.args.self) c.args.bytes.now) c.in_ok-header.header.nfat_arch c.loop-index.records.items c.push.new.self.items
    c.loop-index.index c.in_ok-record_at.field-0 c.loop-index-test.true c.loop-index.invariant c.in_ok-record_at.ensures c.in_ok-push.ensures.items

pub returns : goal.returns
returns g c =
    let form = form_of c.args.self in
    let bytes = c.args.bytes.now in
    let n = c.in_ok-header.header.nfat_arch in
    let records = c.loop-index.records.items in
    table_is form bytes n (Ok records) (header_count bytes c.in_ok-header.header c.in_ok-header.ensures)
    (subst (λ k. n ≤ length bytes / k) c.record_size.ensures c.if-count-bytes.false)
    (read_all (fat_record_in form bytes) n records c.loop-index.index c.loop-index-test.false c.loop-index.invariant)
