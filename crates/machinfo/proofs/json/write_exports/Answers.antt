use Rattle.std.proofs.Common.{[], ◌∷◌, ℕ, refl, subst, sym}
use Rattle.std.specs.Prelude.{codes}
use Rattle.mach_base.specs.Text.{texts}
use Rattle.mach_base.proofs.Written.{Appends-both}
use Rattle.goblin_mach.specs.OpenImage.{trie_view}
use Rattle.goblin_mach.specs.Subjects.{trie_or_empty}
use Rattle.mach_cli.proofs.Arrays.{array_of, member_of, one_list}
use Rattle.mach_cli.specs.JsonArrays.{AreArrayMembers, NamedRows}
use Rattle.machinfo.specs.ExportRows.{export_rows, fields_of_exports}
use Rattle.machinfo.specs.declared.export_rows.ExportForm.TheVariants.{Objects}
use Rattle.machinfo.proofs.ExportRows.{fields_are}
use Rattle.machinfo.proofs.json.write_exports.Goals as goal

pub returns-clause-shown : goal.returns-clause-shown
returns-clause-shown g c = λ bytes opened.
    let image = c.args.image.now in
    let left = c.args.left in
    let base = c.base.result in
    let shown = c.in_ok-shown.shown in
    let written = c.in_ok-shown.ensures (trie_or_empty (trie_view image)) (texts image.libs.items) c.in_ok-walk.ensures.given in
    let rows = export_rows Objects base written.0 in
    let list : NamedRows = record { name = codes "exports"; rows = rows } in
    let array = array_of left rows shown _ _ _ _ c.in_ok-write-2.ensures.bytes written.2 c.in_ok-write-3.ensures.bytes in
    let member = member_of (codes "exports") left rows shown _ _ _ _ c.in_ok-write.ensures.bytes array c.in_ok-write-4.ensures.bytes in
    let lists = one_list left list shown _ _ member in
    let ended = c.in_ok-print_end_past.ensures in (
      _,
      record {
        fields = fields_of_exports base written.0;
        has = fields_are bytes image opened base left written.0 c.base.ensures written.1;
        members = record {
          front = lists.text;
          readable = shown.whole;
          more = shown.more;
          members = subst (λ (rest : ℕ). AreArrayMembers left (list ∷ []) lists.text shown.whole shown.more rest) (sym ended.1) lists.members;
          is_text = refl;
          is_whole = ended.0;
        };
      },
      Appends-both _ _ _ lists.text _ lists.written ended.2,
    )
