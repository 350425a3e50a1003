use Rattle.std.proofs.Common.{◌∙◌, [], List, ℕ, refl, sym}
use Rattle.std.proofs.lemmas.Bool.{eqb-true}
use Rattle.std.proofs.lemmas.Str.Ascii.{trim_ascii_is}
use Rattle.std.specs.Borrow.{Bor}
use Rattle.mach_cli.proofs.AddressesRead.{address_more, blank_more, wrong_line}
use Rattle.mach_cli.proofs.address.read.add_addresses.Goals as goal

pub lines-preserved-then-is_empty : goal.lines-preserved-then-is_empty
lines-preserved-then-is_empty g c =
    let none : Bor (List ℕ) = record { ref_ptr = (0, 0); now = [] } in
    blank_more c.args.lines.now c.lines.index none c.lines-test.true c.args.addresses.now.items c.lines.addresses.items c.trim_ascii-word.result.now
    (trim_ascii_is _ _ _ refl c.trim_ascii-word.ensures.value) (eqb-true _ _ (sym c.is_empty.ensures ∙ c.if-is_empty.true)) c.lines.invariant

pub returns-in_default-clause-misuse : goal.returns-in_default-clause-misuse
returns-in_default-clause-misuse g c =
    let none : Bor (List ℕ) = record { ref_ptr = (0, 0); now = [] } in
    wrong_line c.args.lines.now c.lines.index none c.lines-test.true c.args.addresses.now.items c.lines.addresses.items c.trim_ascii-word.result.now _
    (trim_ascii_is _ _ _ refl c.trim_ascii-word.ensures.value) (sym c.is_empty.ensures ∙ c.if-is_empty.false) (sym c.bytes_address.ensures ∙ c.in_default.is)
    refl refl c.lines.invariant

pub lines-preserved : goal.lines-preserved
lines-preserved g c =
    let none : Bor (List ℕ) = record { ref_ptr = (0, 0); now = [] } in
    rw c.in-Ok.ensures.items
    (address_more c.args.lines.now c.lines.index none c.lines-test.true c.args.addresses.now.items c.lines.addresses.items c.trim_ascii-word.result.now
    c.in-Some.address (trim_ascii_is _ _ _ refl c.trim_ascii-word.ensures.value) (sym c.bytes_address.ensures ∙ c.in-Some.is) c.lines.invariant)
