use Rattle.std.proofs.Common.{ℕ, List, subst}
use Rattle.std.proofs.lemmas.Result.{on_ok_weaker}
use Rattle.std.specs.Io.KnownBytes.{Appends}
use Rattle.mach_base.proofs.Written.{Appends-both}
use Rattle.mach_parts.specs.PointerSigning.{auth_option_view}
use Rattle.machfixups.specs.Rows.{place_view}
use Rattle.machfixups.specs.TargetSymbols.{target_symbol_option_view}
use Rattle.machfixups.proofs.RebaseLines.{same_rebase_line}
use Rattle.machfixups.proofs.fields.write_rebase.Goals as goal

pub returns : goal.returns
returns g c =
    let old = g.O.Write.contents c.args.out.now in
    let middle = g.O.Write.contents c.write_rebase_front.new.out in
    let new = g.O.Write.contents c.write_rebase_ending.new.out in
    let symbol = target_symbol_option_view c.args.symbol.now in
    let same = same_rebase_line (place_view c.args.place.now) (place_view c.args.target.now) symbol c.args.kind (auth_option_view c.args.auth) c.args.raw in
    let first = subst (λ (text : List ℕ). Appends old middle text) same c.in_ok-write_rebase_front.ensures in
    on_ok_weaker c.write_rebase_ending.result (λ last. Appends-both old middle new _ _ first last) c.write_rebase_ending.ensures
