use Rattle.std.proofs.Common.{ℕ, List, subst}
use Rattle.std.proofs.lemmas.Result.{IfOk-weaker}
use Rattle.std.specs.Borrow.{Bor}
use Rattle.mach_cli.specs.ShownCalls.{ShowsFiles}
use Rattle.mach_cli.specs.Titles.{titled_contents}
use Rattle.mach_cli.specs.declared.cpu.Cpu.{Cpu}
use Rattle.machaudit.specs.Audited.{ShowsAudit}
use Rattle.machaudit.specs.Calls.{audit_options}
use Rattle.machaudit.specs.declared.options.Options.{Options}
use Rattle.machaudit.proofs.show_call.Goals as goal

pub returns : goal.returns
returns g c =
    let s = c.shown_by.result in
    let call = c.args.call.now in
    let audits = c.audits_by-audits in
    let shows = λ (options : Options). λ (cpu : Cpu). λ (files : List (Bor (List ℕ))). λ (worst : ℕ).
    ShowsFiles s (ShowsAudit (titled_contents g.W.Write.contents) options cpu) files call.others c.args.out.now c.show.new.out worst
    in
    IfOk-weaker c.show.result _ _
    (λ worst shown. (
      s,
      c.shown_by.ensures,
      subst (λ (options : Options). shows options call.cpu call.words.items worst) audits.ensures.options
          (subst (λ (cpu : Cpu). shows audits.result.options cpu call.words.items worst) audits.ensures.cpu
          (subst (λ (files : List (Bor (List ℕ))). shows audits.result.options audits.result.cpu files worst) c.deref.ensures.value shown)),
    ))
    c.show.ensures.shown
