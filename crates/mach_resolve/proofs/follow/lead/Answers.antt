use Rattle.std.proofs.Common.{◌∙◌, Some, sym, ap}
use Rattle.mach_dyld.specs.Exports.{info_of, text_in}
use Rattle.mach_resolve.specs.Follow as follow
use Rattle.mach_resolve.proofs.Steps.{given_name}
use Rattle.mach_resolve.proofs.follow.lead.Goals as goal

pub returns-in-Regular : goal.returns-in-Regular
returns-in-Regular g c = (
  c.in-Regular.address,
  ap (λ i. follow.address_of (info_of i)) c.in-Regular.is,
  c.found.ensures
      ∙ ap (follow.found c.args.file.now.number c.args.file.now.name.now c.in-Regular.address) (sym (ap (λ i. follow.is_absolute (info_of i)) c.in-Regular.is)),
)

pub returns-in-Stub : goal.returns-in-Stub
returns-in-Stub g c = (
  c.from.result,
  ap (λ i. follow.address_of (info_of i)) c.in-Stub.is ∙ ap Some (sym c.from.ensures),
  c.found-in-Stub.ensures
      ∙ ap (follow.found c.args.file.now.number c.args.file.now.name.now c.from.result) (sym (ap (λ i. follow.is_absolute (info_of i)) c.in-Stub.is)),
)

pub returns-in-Reexport : goal.returns-in-Reexport
returns-in-Reexport g c = (
  text_in c.in-Reexport.lib_symbol_name,
  c.in-Reexport.flags,
  ap (λ i. info_of i) c.in-Reexport.is,
  given_name c.in-Reexport.lib_symbol_name c.args.name c.unwrap_or.result c.unwrap_or.ensures,
)
