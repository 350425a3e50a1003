use Rattle.machsign.proofs.members.write_kind.Goals as goal

pub returns : goal.returns
returns g c =
    rw (c.is_there-cms.ensures, c.has_hardened_runtime-runtime.ensures, c.has_library_validation-validation.ensures) at c.write.ensures.bytes
