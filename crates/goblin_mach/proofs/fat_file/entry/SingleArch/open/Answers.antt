use Rattle.std.proofs.Common.{rules, ◌≡◌, ◌∙◌, ap, inl, inr}
use Rattle.std.proofs.lemmas.Result.{err_from_is_err_and}
use Rattle.mach_base.specs.declared.hint.Hint.{Hint}
use Rattle.goblin_mach.specs.FatEntry.{entry_by}
use Rattle.mach_parts.specs.Magic.{hint_in}
use Rattle.goblin_mach.proofs.FatEntries.{OpensEntry-refused, OpensEntry-archive, OpensEntry-image, OpensEntry-no_image, entry-short, entry-hinted}
use Rattle.goblin_mach.proofs.fat_file.entry.SingleArch.open.Goals as goal

pub returns-in_default : goal.returns-in_default
returns-in_default g c =
    OpensEntry-refused _ _ (entry-short c.args.bytes.now c.take_hint_bytes.result c.take_hint_bytes.ensures c.in_default.is)

pub returns-in_err-parse-in-Mach : goal.returns-in_err-parse-in-Mach
returns-in_err-parse-in-Mach g c =
    let said : hint_in c.in-Some.front.now ≡ c.in_ok-peek_bytes.field-0 = search rules in
    let is = entry-hinted c.args.bytes.now c.take_hint_bytes.result c.in-Some.front c.in_ok-peek_bytes.field-0 c.take_hint_bytes.ensures c.in-Some.is said
    ∙ ap (λ (h : Hint). entry_by h c.args.bytes.now) c.in-Mach.is in
    let p = err_from_is_err_and c.from_residual-in_err-parse-in-Mach.result c.from_residual-in_err-parse-in-Mach.ensures.1 in
    rw (p.1, p.2) (OpensEntry-no_image _ c.args.bytes.now _ is c.in_err-parse-in-Mach.ensures.refused)

pub returns-in-Archive : goal.returns-in-Archive
returns-in-Archive g c =
    let said : hint_in c.in-Some.front.now ≡ c.in_ok-peek_bytes.field-0 = search rules in
    OpensEntry-archive _ c.args.bytes (entry-hinted c.args.bytes.now c.take_hint_bytes.result c.in-Some.front c.in_ok-peek_bytes.field-0
    c.take_hint_bytes.ensures c.in-Some.is said ∙ ap (λ (h : Hint). entry_by h c.args.bytes.now) c.in-Archive.is)

pub returns-in_ok-parse-in-Mach : goal.returns-in_ok-parse-in-Mach
returns-in_ok-parse-in-Mach g c =
    let said : hint_in c.in-Some.front.now ≡ c.in_ok-peek_bytes.field-0 = search rules in
    OpensEntry-image _ c.args.bytes.now c.in_ok-parse-in-Mach.field-0
    (entry-hinted c.args.bytes.now c.take_hint_bytes.result c.in-Some.front c.in_ok-peek_bytes.field-0 c.take_hint_bytes.ensures c.in-Some.is said ∙ ap
    (λ (h : Hint). entry_by h c.args.bytes.now) c.in-Mach.is) c.in_ok-parse-in-Mach.ensures.opened

pub returns-in-MachFat : goal.returns-in-MachFat
returns-in-MachFat g c =
    let said : hint_in c.in-Some.front.now ≡ c.in_ok-peek_bytes.field-0 = search rules in
    let is = entry-hinted c.args.bytes.now c.take_hint_bytes.result c.in-Some.front c.in_ok-peek_bytes.field-0 c.take_hint_bytes.ensures c.in-Some.is said in
    elim c.in-MachFat.is [
      | inl fat ↦ OpensEntry-refused _ _ (is ∙ ap (λ (h : Hint). entry_by h c.args.bytes.now) fat.1)
      | inr unknown ↦ OpensEntry-refused _ _ (is ∙ ap (λ (h : Hint). entry_by h c.args.bytes.now) unknown.1)
    ]
