use Rattle.std.proofs.Common.{◌≡◌, ◌++◌, ℕ, List, codes, true, false, nat_lt, refl, ap, ◌∙◌, arith}
use Rattle.std.proofs.lemmas.Bool.{le-ltb, lt-ltb}
use Rattle.std.proofs.lemmas.Fmt.{contents_after_writes}
use Rattle.std.proofs.lemmas.Result.{on_ok_weaker}
use Rattle.std.specs.Fmt.{decimal}
use Rattle.goblin_mach_c.specs.Codes.{cut_off_words, outside_entry_words}
use Rattle.goblin_mach_c.proofs.errors.write_outside.Goals as goal

pub returns-then-outside : goal.returns-then-outside
returns-then-outside c =
    let o = c.args.outside.now in
    let far : nat_lt o.len o.end ≡ true = lt-ltb o.len o.end (omega arith) in
    let words : cut_off_words o ≡ outside_entry_words o = rw far refl in
    on_ok_weaker c.write.result
    (λ writes. contents_after_writes _ (λ w. w.bytes) (λ w bs v is. is) _ _ _ writes ∙ (ap (λ front. front ++ cut_off_words o) c.requires ∙ words))
    c.write.ensures.writes

pub returns-else-outside : goal.returns-else-outside
returns-else-outside c =
    let o = c.args.outside.now in
    let said : List ℕ = codes "the file ends in the record of entry " ++ decimal o.index in
    let near : nat_lt o.len o.end ≡ false = le-ltb o.len o.end (omega arith) in
    let words : said ≡ outside_entry_words o = rw near refl in
    on_ok_weaker c.write-else-outside.result
    (λ writes. contents_after_writes _ (λ w. w.bytes) (λ w bs v is. is) _ _ _ writes ∙ (ap (λ front. front ++ said) c.requires ∙ words))
    c.write-else-outside.ensures.writes
