-- If a directory counts there are at most four.
use Rattle.std.proofs.Common.{◌≡◌, ◌≤◌, ◌⊎◌, ℕ, suc, ◌+◌, Bool, true, false, cond, List, [], ◌∷◌, length, Option, Some, None, Result, Ok, Err, refl, sym}
use Rattle.std.proofs.Common.{ap, ◌∙◌, inl, inr, arith}
use Rattle.std.specs.Prelude.{filter, ◌==◌}
use Rattle.mach_base.specs.Answer.{◌>>=◌}
use Rattle.mach_base.specs.Fault.{Fault}
use Rattle.mach_base.specs.Sums.{found_or_malformed}
use Rattle.mach_base.proofs.Binds.{bind_ok}
use Rattle.mach_signature.specs.Chosen.{SlotDirectory, first_refused, readable_directories, filter_rank, at_most_one, of_rank, highest_of, none_refused}
use Rattle.mach_signature.specs.Chosen.{directory_of, directories_of}
use Rattle.mach_signature.specs.Directories.{Directory}
use Rattle.mach_signature.specs.Hashes.{hash_rank}
use Rattle.mach_signature.specs.SuperBlob.{SuperBlob}
use Rattle.mach_signature.specs.declared.hash.HashType.{HashType}
use Rattle.mach_signature.specs.declared.hash.HashType.TheVariants.{Sha1, Sha256, Sha256Truncated, Sha384}

abbrev count_of_rank : ℕ → List Directory → ℕ
count_of_rank rank ds = length (filter (λ d. hash_rank d.hash == rank) ds)

all_readable : (ds : List SlotDirectory) → first_refused ds ≡ None → length ds ≡ length (readable_directories ds)
all_readable [] e = refl
all_readable ((slot, Ok d) ∷ ds) e = ap suc (all_readable ds e)
all_readable ((slot, Err f) ∷ ds) e = absurd (cc)

is_one : (ds : List Directory) (o : Option Directory) → at_most_one ds ≡ Ok o → length ds ≤ 1
is_one [] o e = omega arith
is_one (d ∷ []) o e = omega arith
is_one (d ∷ e2 ∷ ds) o e = absurd (cc)

-- each has one of the four ranks
more_by : (b : Bool) (x : Directory) (xs : List Directory) → length (cond b (x ∷ xs) xs) ≡ cond b (suc (length xs)) (length xs)
more_by true x xs = refl
more_by false x xs = refl

more : (r : ℕ) (d : Directory) (ds : List Directory) → count_of_rank r (d ∷ ds) ≡ cond (hash_rank d.hash == r) (suc (count_of_rank r ds)) (count_of_rank r ds)
more r d ds = more_by (hash_rank d.hash == r) d (filter (λ x. hash_rank x.hash == r) ds)

four : (h : HashType) (a b c e n : ℕ) → n ≡ ((a + b) + c) + e
    → suc n ≡ ((cond (hash_rank h == 4) (suc a) a + cond (hash_rank h == 3) (suc b) b) + cond (hash_rank h == 2) (suc c) c) + cond (hash_rank h == 1) (suc e) e
four Sha1 a b c e n is = omega (arith, is)
four Sha256Truncated a b c e n is = omega (arith, is)
four Sha256 a b c e n is = omega (arith, is)
four Sha384 a b c e n is = omega (arith, is)

by_ranks : (ds : List Directory) → length ds ≡ ((count_of_rank 4 ds + count_of_rank 3 ds) + count_of_rank 2 ds) + count_of_rank 1 ds
by_ranks [] = refl
by_ranks (d ∷ ds) =
    let m4 = more 4 d ds in
    let m3 = more 3 d ds in
    let m2 = more 2 d ds in
    let m1 = more 1 d ds in
    four d.hash (count_of_rank 4 ds) (count_of_rank 3 ds) (count_of_rank 2 ds) (count_of_rank 1 ds) (length ds) (by_ranks ds)
    ∙ sym (rw (m4, m3, m2, m1) refl)

unrefused : (stop : Option Fault) (there : Result Directory Fault) (d : Directory) → none_refused stop there ≡ Ok d → (stop ≡ None) × (there ≡ Ok d)
unrefused None there d e = (refl, e)
unrefused (Some f) there d e = absurd (cc)

few : (ds : List SlotDirectory) (o : Option Directory) → highest_of ds ≡ Ok o → length (readable_directories ds) ≤ 4
few ds o e =
    let a = bind_ok (of_rank 4 ds) _ o e in
    let b = bind_ok (of_rank 3 ds) _ o a.2 in
    let c = bind_ok (of_rank 2 ds) _ o b.2 in
    let f = bind_ok (of_rank 1 ds) _ o c.2 in
    let one4 = is_one (filter_rank 4 (readable_directories ds)) a.0 a.1 in
    let one3 = is_one (filter_rank 3 (readable_directories ds)) b.0 b.1 in
    let one2 = is_one (filter_rank 2 (readable_directories ds)) c.0 c.1 in
    let one1 = is_one (filter_rank 1 (readable_directories ds)) f.0 f.1 in
    omega (arith, by_ranks (readable_directories ds), one4, one3, one2, one1)

pub four_at_most : (s : SuperBlob) (d : Directory) → directory_of s ≡ Ok d → length (directories_of s) ≤ 4
unfolding directory_of
four_at_most s d e =
    let parts = unrefused (first_refused (directories_of s)) (highest_of (directories_of s) >>= found_or_malformed) d e in
    let found = bind_ok (highest_of (directories_of s)) found_or_malformed d parts.1 in
    omega (arith, all_readable (directories_of s) parts.0, few (directories_of s) found.0 found.1)
