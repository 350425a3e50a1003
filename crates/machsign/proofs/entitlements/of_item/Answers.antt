use Rattle.std.proofs.Common.{◌≡◌, ◌∙◌, true, false, Option, ℕ, Some, None, Err, refl, ap}
use Rattle.std.specs.Option.{is_some}
use Rattle.std.specs.Prelude.{not}
use Rattle.std.proofs.lemmas.Result.{IfOk-weaker}
use Rattle.mach_base.specs.Fault.{Fault, fault_of}
use Rattle.mach_base.specs.Items.{read_as}
use Rattle.mach_base.proofs.Faults.{ErrorMeets-reported}
use Rattle.goblin_mach.specs.Items.{ItemView, content_view}
use Rattle.goblin_mach.specs.ItemsLeft.{input_item_read}
use Rattle.mach_cli.specs.declared.cpu.Cpu.{Cpu}
use Rattle.mach_signature.specs.DirectoryViews.{slot_read}
use Rattle.machsign.specs.Entitlements.{EntitlesItem, RefusesItem, content_entitles, fault_entitles}
use Rattle.machsign.proofs.Opened.{unless_memory}
use Rattle.machsign.proofs.entitlements.of_item.Goals as goal

pub returns-in-Ok-clause-found : goal.returns-in-Ok-clause-found
returns-in-Ok-clause-found g c =
    IfOk-weaker c.of_content.result _ _
    (λ found e. content_entitles (content_view c.in-Ok.content) (slot_read found) (ap (read_as content_view) c.in-Ok.is) e) c.of_content.ensures.found

pub returns-in-Ok-clause-refused : goal.returns-in-Ok-clause-refused
returns-in-Ok-clause-refused g c = unless_memory (RefusesItem (input_item_read c.args.item)) c.of_content.result c.of_content.ensures.memory

no_entry : (entry : Option ℕ) → is_some entry ≡ false → entry ≡ None
no_entry None e = refl
no_entry (Some n) e = absurd (cc)

pub returns-then-is_none-clause-refused : goal.returns-then-is_none-clause-refused
returns-then-is_none-clause-refused g c =
    ErrorMeets-reported (RefusesItem (input_item_read c.args.item)) c.in-Err.error
    (ap (read_as content_view) c.in-Err.is, no_entry c.args.item.place.entry (c.is_none.ensures ∙ ap not c.if-is_none.true))

entry_fault : (cpu : Cpu) (x : ItemView) (f : Fault) (entry : Option ℕ) → x.place.entry ≡ entry → is_some entry ≡ true → x.content ≡ Err f
    → EntitlesItem cpu x None
entry_fault cpu x f (Some n) at some e = fault_entitles f n e at
entry_fault cpu x f None at some e = absurd (cc)

pub returns-else-is_none-clause-found : goal.returns-else-is_none-clause-found
returns-else-is_none-clause-found g c =
    entry_fault c.args.cpu (input_item_read c.args.item) (fault_of c.in-Err.error) c.args.item.place.entry refl
    (c.is_none.ensures ∙ ap not c.if-is_none.false) (ap (read_as content_view) c.in-Err.is)
