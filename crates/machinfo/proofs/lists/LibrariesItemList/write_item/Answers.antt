use Rattle.machinfo.proofs.lists.LibrariesItemList.write_item.Goals as goal

pub returns : goal.returns
returns g c =
    let written = rw (c.library_fields.ensures, c.version_columns-versions.ensures) at c.write_both.ensures in written
