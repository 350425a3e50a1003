use Rattle.std.proofs.Common.{◌+◌, ◌++◌, [], drop, arith}
use Rattle.std.proofs.lemmas.List.{drop_all, drop_more}
use Rattle.mach_base.proofs.Written.{Appends-both, Appends-none}
use Rattle.mach_cli.proofs.AddressRows.{all_rows, row_more}
use Rattle.mach_cli.proofs.address.view.write_rows.Goals as goal

pub addresses-init : goal.addresses-init
addresses-init g c = ([], Appends-none _, λ bytes opened more rest rows. rows)

pub addresses-preserved : goal.addresses-preserved
addresses-preserved g c =
    let all = c.args.addresses.now in
    let i = c.addresses.address-index in
    let before = c.addresses.invariant in
    let row = g.R.AddressRow.row_text c.args.form.now c.args.file in
    let found = c.look_up-found.result in
    rw c.is_some-whole.ensures (
      before.0 ++ row c.addresses.is_first _ found,
      Appends-both _ _ _ before.0 _ before.1 c.in_ok-write_row.ensures,
      λ bytes opened. row_more row c.args.loaded.now.load_address bytes all before.0 c.addresses.whole c.addresses.is_first (drop i all) (drop (i + 1) all) _
          found (drop_more all i _ c.addresses-test.true) (c.look_up-found.ensures bytes opened) (before.2 bytes opened),
    )

pub returns : goal.returns
returns g c = λ bytes opened.
    let all = c.args.addresses.now in
    let i = c.addresses.address-index in
    let before = c.addresses.invariant in (
      before.0,
      all_rows (g.R.AddressRow.row_text c.args.form.now c.args.file) c.args.loaded.now.load_address bytes all before.0 c.addresses.whole c.addresses.is_first
          (drop i all) (drop_all i all (omega (arith, c.addresses-test.false))) (before.2 bytes opened),
      before.1,
    )
