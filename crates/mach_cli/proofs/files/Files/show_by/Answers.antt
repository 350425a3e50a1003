use Rattle.std.proofs.Common.{◌∙◌, List, ℕ, Bool, ap, subst}
use Rattle.std.specs.Borrow.{Bor}
use Rattle.std.specs.Prelude.{max}
use Rattle.mach_cli.specs.InOrder.{InOrder}
use Rattle.mach_cli.specs.Listed.{name_end}
use Rattle.mach_cli.specs.ShownCalls.{manner_of, no_text_status, ShowsList, ShowsNamed}
use Rattle.mach_cli.proofs.files.Files.show_by.Goals as goal

pub returns-clause-shown : goal.returns-clause-shown
returns-clause-shown g c =
    let shows = g.S.FileView.shows c.args.shows.now in
    let call = c.args.self.now in
    let o = c.args.others.now in
    let of_lists = c.in_ok-of_lists.of_lists in
    let of_files = c.in_ok-of_files.of_files in
    let between = c.show_files.new.out in
    let new = c.show_lists.new.out in
    let end = c.name_end-end.result in
    let several = c.are_several.result in record {
      between = between;
      of_files = of_files;
      of_lists = of_lists;
      files_shown = subst (λ (are : Bool). InOrder (λ (file : Bor (List ℕ)). ShowsNamed (manner_of call are c.args.is_nm shows) file.now) c.args.files.now
          c.args.out.now between of_files) c.are_several.ensures c.in_ok-of_files.ensures.shown;
      lists_shown = subst (λ (are : Bool). InOrder (λ (list : Bor (List ℕ)). ShowsList (manner_of call are c.args.is_nm shows) (name_end o.ends_with_nul))
          o.lists.items between new
          of_lists)
          c.are_several.ensures
          (subst (λ (n : ℕ). InOrder (λ (list : Bor (List ℕ)). ShowsList (manner_of call several c.args.is_nm shows) n) o.lists.items between new of_lists)
          c.name_end-end.ensures
          (subst (λ (lists : List (Bor (List ℕ))). InOrder (λ (list : Bor (List ℕ)). ShowsList (manner_of call several c.args.is_nm shows) end) lists between
          new of_lists) c.as_slice-lists.ensures.value c.in_ok-of_lists.ensures.shown));
      is_worst = c.worse-2.ensures ∙ ap (λ (n : ℕ). max n of_lists)
          (c.worse.ensures ∙ ap (λ (n : ℕ). max n of_files) (c.refuse_words-of_words.ensures ∙ ap no_text_status c.as_slice.ensures.value));
    }
