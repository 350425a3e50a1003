use Rattle.std.proofs.Common.{◌≡◌, ◌∙◌, ℕ, List, ap, length, min, rules, subst, sym, take}
use Rattle.std.proofs.lemmas.List.{take_min}
use Rattle.mach_load.proofs.Words.{words_back}
use Rattle.machinfo.proofs.registers.state_words.Goals as goal

pub returns : goal.returns
returns c =
    let words = c.args.command.now.thread_state in
    let count = c.args.command.now.count in
    let all : length words ≡ 70 = search rules in
    ap (λ (n : ℕ). take n words) c.min.ensures
    ∙ (subst (λ (n : ℕ). take (min count n) words ≡ take count words) all (take_min count words)
    ∙ ap (λ (ws : List ℕ). take count ws) (sym (words_back words)))
