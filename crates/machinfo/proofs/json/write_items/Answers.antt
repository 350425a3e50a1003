use Rattle.std.proofs.Common.{[], ◌∷◌, ℕ, map, refl, subst, sym}
use Rattle.mach_base.proofs.Written.{Appends-both}
use Rattle.mach_dyld.proofs.LookUps.{ok_in}
use Rattle.mach_cli.proofs.Arrays.{one_list}
use Rattle.mach_cli.specs.Fields.{fields_object}
use Rattle.mach_cli.specs.JsonArrays.{AreArrayMembers, NamedRows}
use Rattle.mach_cli.specs.Listings.{reported_by}
use Rattle.machinfo.proofs.json.write_items.Goals as goal

pub returns : goal.returns
returns g c =
    let fields = g.L.ItemList.items_left c.args.list in
    let left = c.args.left in
    let list : NamedRows = record { name = c.args.name.now; rows = map (reported_by fields_object) fields } in
    let reported = c.in_ok-reported.reported in
    let old = g.O.Write.contents c.args.out.now in
    let middle = g.O.Write.contents c.print_member.new.out in
    let written = one_list left list reported old middle c.in_ok-reported.ensures in
    ok_in c.print_end_past.result _ _ (λ outcome ended. (
      _,
      record {
        front = written.text;
        readable = reported.whole;
        more = reported.more;
        members = subst (λ (rest : ℕ). AreArrayMembers left (list ∷ []) written.text reported.whole reported.more rest) (sym ended.1) written.members;
        is_text = refl;
        is_whole = ended.0;
      },
      Appends-both _ _ _ written.text _ written.written ended.2,
    )) c.print_end_past.ensures
