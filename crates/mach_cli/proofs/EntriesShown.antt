-- How many of the first entries of a fat file have no more bytes together than the file.
use Rattle.std.proofs.Common.{◌≡◌, ◌+◌, ◌<◌, ◌≤◌, ℕ, zero, suc, List, length, refl, arith, ⊎_elim}
use Rattle.std.proofs.lemmas.Bool.{cases_lt, le-leb, lt-leb}
use Rattle.std.specs.Prelude.{nat_le, true, false}
use Rattle.mach_parts.specs.ArchForms.{ArchForm, arch_in}
use Rattle.mach_cli.specs.TableEntries.{entries_shown, first_len, record_len}

-- more entries have no fewer bytes
first_len-more : {R : Type 0} (form : ArchForm R) (bytes : List ℕ) (n k : ℕ) → n ≤ k → first_len form bytes n ≤ first_len form bytes k
first_len-more form bytes n zero h = let none : n ≡ 0 = omega (arith, h) in rw none (omega arith)
first_len-more form bytes n (suc k) h = ⊎_elim
    (λ less. let more = first_len-more form bytes n k (omega (arith, less)) in omega (arith, more))
    (λ (same : suc k ≤ n). let is : n ≡ suc k = omega (arith, h, same) in rw is (omega arith))
    (cases_lt n (suc k))

-- as long as there is room, all of them
pub shown_all : {R : Type 0} (form : ArchForm R) (bytes : List ℕ) (n : ℕ) → first_len form bytes n ≤ length bytes → n ≡ entries_shown form bytes n
shown_all form bytes zero room = refl
shown_all form bytes (suc n) room =
    let fits : nat_le (first_len form bytes (suc n)) (length bytes) ≡ true = le-leb (first_len form bytes (suc n)) (length bytes) room in
    rw fits refl

-- those before the first one for which there is no room
pub shown_before : {R : Type 0} (form : ArchForm R) (bytes : List ℕ) (n count : ℕ) → n < count → first_len form bytes n ≤ length bytes
    → length bytes < first_len form bytes n + record_len form bytes (arch_in form bytes n) → n ≡ entries_shown form bytes count
shown_before form bytes n zero below room full = absurd (omega (arith, below))
shown_before form bytes n (suc k) below room full =
    let more = first_len-more form bytes (suc n) (suc k) (omega (arith, below)) in
    let none : nat_le (first_len form bytes (suc k)) (length bytes) ≡ false =
    lt-leb (first_len form bytes (suc k)) (length bytes) (omega (arith, more, full)) in
    ⊎_elim
    (λ less. rw none (shown_before form bytes n k less room full))
    (λ (same : k ≤ n). let is : k ≡ n = omega (arith, below, same) in rw (none, is) (shown_all form bytes n room))
    (cases_lt n k)
