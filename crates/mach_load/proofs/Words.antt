-- The words of a thread's state, one after another.
use Rattle.std.proofs.Common.{◌≡◌, ℕ, zero, suc, ◌+◌, ◌-◌, ◌*◌, ◌<◌, List, [], ◌∷◌, ◌++◌, length, drop, map, replicate, refl, ap, ◌∙◌, arith, add-one}
use Rattle.std.specs.Prelude.{slice_set}
use Rattle.std.proofs.lemmas.List.{length-append}
use Rattle.mach_base.specs.declared.context.Endian.{Endian}
use Rattle.mach_base.specs.Number.{number}
use Rattle.mach_base.specs.Record.{number_is}
use Rattle.mach_load.specs.ThreadState.{words_at, number_of}

-- the numbers of words are the words
pub words_back : (words : List ℕ) → map number_of (map number_is words) ≡ words
words_back [] = refl
words_back (w ∷ ws) = ap (λ (rest : List ℕ). w ∷ rest) (words_back ws)

length-words : (le : Endian) (bytes : List ℕ) (place n : ℕ) → length (words_at le bytes place n) ≡ n
length-words le bytes place zero = refl
length-words le bytes place (suc n) =
    omega (arith, length-append (words_at le bytes place n) (number le 4 (drop (place + 4 * n) bytes) ∷ []), length-words le bytes place n)

-- the first of some zeros is set
put : (xs : List ℕ) (m v i : ℕ) → length xs ≡ i → slice_set (xs ++ 0 ∷ replicate m 0) i v ≡ (xs ++ v ∷ []) ++ replicate m 0
put [] m v zero e = refl
put [] m v (suc i) e = absurd (omega arith)
put (x ∷ xs) m v zero e = absurd (omega arith)
put (x ∷ xs) m v (suc i) e = ap (λ (l : List ℕ). x ∷ l) (put xs m v i (omega arith))

zeros : (k m : ℕ) → k ≡ suc m → replicate {A = ℕ} k 0 ≡ 0 ∷ replicate m 0
zeros k m e = ap (λ (n : ℕ). replicate {A = ℕ} n 0) e

-- one more word
pub one_more : (le : Endian) (bytes : List ℕ) (place i v : ℕ) (state : List ℕ) → i < 70 → v ≡ number le 4 (drop (place + 4 * i) bytes)
    → state ≡ words_at le bytes place i ++ replicate (70 - i) 0
    → slice_set state i v ≡ words_at le bytes place (i + 1) ++ replicate (70 - (i + 1)) 0
one_more le bytes place i v state lt is so_far =
    let left : replicate (70 - i) 0 ≡ 0 ∷ replicate (70 - (i + 1)) 0 = zeros (70 - i) (70 - (i + 1)) (omega arith) in
    let words = words_at le bytes place i in
    let before : state ≡ words ++ 0 ∷ replicate (70 - (i + 1)) 0 = so_far ∙ ap (λ (l : List ℕ). words ++ l) left in
    let set : slice_set (words ++ 0 ∷ replicate (70 - (i + 1)) 0) i v ≡ (words ++ v ∷ []) ++ replicate (70 - (i + 1)) 0 =
    put words (70 - (i + 1)) v i (length-words le bytes place i) in
    let same : words ++ v ∷ [] ≡ words_at le bytes place (i + 1) = rw add-one (ap (λ (x : ℕ). words ++ x ∷ []) is) in
    ap (λ (l : List ℕ). slice_set l i v) before ∙ (set ∙ ap (λ (l : List ℕ). l ++ replicate (70 - (i + 1)) 0) same)
