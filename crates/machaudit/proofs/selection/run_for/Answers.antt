use Rattle.std.proofs.Common.{◌≡◌, ◌∙◌, ◌⊎◌, ℕ, List, true, false, take, refl, sym, subst, inl, inr}
use Rattle.std.proofs.lemmas.Result.{IfErr-weaker, IfOk-weaker}
use Rattle.mach_parts.specs.ArchForms.{arch_form_32}
use Rattle.mach_parts.specs.declared.fat.FatArch.{FatArch}
use Rattle.mach_cli.specs.Cpus.{is_selected, misses}
use Rattle.machaudit.specs.Audited.{AreAudited, AuditsEntries, AuditsSome, of_entries, of_file, of_nothing, some_entries}
use Rattle.machaudit.specs.Selected.{EntriesFail, EntriesSound, sound_file, sound_entries, failing_file, failing_entry, overlaid_entries, no_entry, other_image}
use Rattle.mach_audit.specs.Overlaid.{AreOverlaid}
use Rattle.machaudit.proofs.Audited.{IfMemory-weaker}
use Rattle.machaudit.proofs.selection.run_for.Goals as goal

pub returns-in-Whole-clause-sound : goal.returns-in-Whole-clause-sound
returns-in-Whole-clause-sound g c =
    let selects = rw c.in-Whole.is at c.in_ok-selected_of.ensures in
    IfOk-weaker c.run.result _ _ (λ status reported zero. sound_file selects (reported zero)) c.run.ensures.sound

pub returns-in-Whole-clause-faulty : goal.returns-in-Whole-clause-faulty
returns-in-Whole-clause-faulty g c =
    let selects = rw c.in-Whole.is at c.in_ok-selected_of.ensures in
    IfOk-weaker c.run.result _ _ (λ status reported one. inl (failing_file selects (reported one))) c.run.ensures.faulty

pub returns-in-Other-clause-faulty : goal.returns-in-Other-clause-faulty
returns-in-Other-clause-faulty g c = λ one. inr (other_image (rw c.in-Other.is at c.in_ok-selected_of.ensures))

pub returns-then-misses-clause-faulty : goal.returns-then-misses-clause-faulty
returns-then-misses-clause-faulty g c = λ one.
    let has = rw c.in-Entries.is at c.in_ok-selected_of.ensures in
    inr (no_entry has.0 c.in-Entries.archs.items has.1
    (subst (λ (archs : List FatArch). misses c.args.cpu archs ≡ true) c.deref.ensures.value (sym c.misses.ensures ∙ c.if-misses.true)))

pub returns-else-misses-clause-sound : goal.returns-else-misses-clause-sound
returns-else-misses-clause-sound g c =
    let has = rw c.in-Entries.is at c.in_ok-selected_of.ensures in
    let some = subst (λ (archs : List FatArch). misses c.args.cpu archs ≡ false) c.deref.ensures.value (sym c.misses.ensures ∙ c.if-misses.false) in
    IfOk-weaker c.run_within.result _ _
    (λ status reported zero. sound_entries has.0 c.in-Entries.archs.items has.1 some
    (subst (EntriesSound c.args.cpu c.args.bytes.now) c.deref-in-Entries.ensures.value (reported zero)))
    c.run_within.ensures.sound

pub returns-else-misses-clause-faulty : goal.returns-else-misses-clause-faulty
returns-else-misses-clause-faulty g c =
    let has = rw c.in-Entries.is at c.in_ok-selected_of.ensures in
    let archs = c.in-Entries.archs.items in
    let fails = EntriesFail c.args.cpu c.args.call.options.limit c.args.bytes.now in
    let overlaid = AreOverlaid arch_form_32 (is_selected c.args.cpu) c.args.bytes.now in
    IfOk-weaker c.run_within.result _ _
    (λ status reported one. elim (subst (λ (xs : List FatArch). fails xs ⊎ overlaid xs) c.deref-in-Entries.ensures.value (reported one)) [
      | inl failing ↦ inl (failing_entry has.0 archs has.1 failing)
      | inr over ↦ inl (overlaid_entries has.0 archs has.1 over)
    ]) c.run_within.ensures.faulty

pub returns-in-Whole-clause-written : goal.returns-in-Whole-clause-written
returns-in-Whole-clause-written g c =
    let selects = rw c.in-Whole.is at c.in_ok-selected_of.ensures in
    IfOk-weaker c.run.result _ _ (λ status audited. of_file status selects audited) c.run.ensures.audited

pub returns-in-Other-clause-written : goal.returns-in-Other-clause-written
returns-in-Other-clause-written g c =
    rw c.refuse.ensures (of_nothing (other_image (rw c.in-Other.is at c.in_ok-selected_of.ensures)) refl)

pub returns-then-misses-clause-written : goal.returns-then-misses-clause-written
returns-then-misses-clause-written g c =
    let has = rw c.in-Entries.is at c.in_ok-selected_of.ensures in
    let none = subst (λ (archs : List FatArch). misses c.args.cpu archs ≡ true) c.deref.ensures.value (sym c.misses.ensures ∙ c.if-misses.true) in
    rw c.refuse-then-misses.ensures (of_nothing (no_entry has.0 c.in-Entries.archs.items has.1 none) refl)

pub returns-else-misses-clause-written : goal.returns-else-misses-clause-written
returns-else-misses-clause-written g c =
    let has = rw c.in-Entries.is at c.in_ok-selected_of.ensures in
    let some = subst (λ (archs : List FatArch). misses c.args.cpu archs ≡ false) c.deref.ensures.value (sym c.misses.ensures ∙ c.if-misses.false) in
    let call = c.args.call in
    let audits = λ (status : ℕ). λ (archs : List FatArch).
    AuditsEntries g.W.Write.contents call.options c.args.cpu call.name.now c.args.bytes.now archs c.args.out.now c.run_within.new.out status
    in
    IfOk-weaker c.run_within.result _ _
    (λ status written. of_entries has.0 c.in-Entries.archs.items status has.1 some (subst (audits status) c.deref-in-Entries.ensures.value written))
    c.run_within.ensures.written

pub returns-else-misses-clause-memory : goal.returns-else-misses-clause-memory
returns-else-misses-clause-memory g c =
    let has = rw c.in-Entries.is at c.in_ok-selected_of.ensures in
    let some = subst (λ (archs : List FatArch). misses c.args.cpu archs ≡ false) c.deref.ensures.value (sym c.misses.ensures ∙ c.if-misses.false) in
    let call = c.args.call in
    let audits = λ (archs : List FatArch). (n : ℕ) × AreAudited c.args.cpu c.args.bytes.now archs n
    × AuditsSome g.W.Write.contents call.options c.args.cpu call.name.now c.args.bytes.now (take n archs) c.args.out.now c.run_within.new.out
    in
    IfErr-weaker c.run_within.result _ _
    (λ e. IfMemory-weaker e (λ audited. let found = subst audits c.deref-in-Entries.ensures.value audited in
    some_entries has.0 c.in-Entries.archs.items found.0 has.1 some found.1 found.2))
    c.run_within.ensures.memory
