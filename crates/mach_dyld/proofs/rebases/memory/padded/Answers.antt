use Rattle.std.proofs.Common.{◌≡◌, ◌∙◌, ◌+◌, ◌-◌, ◌<◌, ◌++◌, ℕ, List, length, take, drop, replicate, ap, sym, arith}
use Rattle.std.proofs.Math.Seq.{take-append-add, take-length}
use Rattle.std.proofs.lemmas.List.{drop-replicate, length-drop, take-replicate}
use Rattle.mach_dyld.proofs.rebases.memory.padded.Goals as goal

-- fewer than eight numbers, followed by zeros up to eight
filled : (xs : List ℕ) (n : ℕ) → length xs ≡ n → n < 8 → take n xs ++ drop (length (take n xs)) (replicate 8 0) ≡ take 8 (xs ++ replicate 8 0)
filled xs n e few =
    let whole : take n xs ≡ xs = ap (λ k. take k xs) (sym e) ∙ take-length xs in
    let more : 8 ≡ length xs + (8 - length xs) = omega (arith, e, few) in
    ap (λ ys. ys ++ drop (length ys) (replicate 8 0)) whole
    ∙ ap (λ zs. xs ++ zs) (drop-replicate (length xs) 8 0 ∙ sym (take-replicate (8 - length xs) 8 0 (omega arith)))
    ∙ sym (ap (λ k. take k (xs ++ replicate 8 0)) more ∙ take-append-add xs (replicate 8 0) (8 - length xs))

pub returns : goal.returns
returns c =
    let bytes = c.args.bytes.now in
    let rest = drop c.args.offset bytes in
    let count = length bytes - c.args.offset in
    let few = c.requires in
    let more = c.if-offset-bytes.false in
    ap (λ front. front ++ drop (length (take count rest)) (replicate 8 0)) c.copy_from_slice.ensures.after
    ∙ filled rest count (length-drop c.args.offset bytes) (omega (arith, few, more))
