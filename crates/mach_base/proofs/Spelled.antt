-- A record that is read where it was written is the record that was written.
use Rattle.std.proofs.Common.{◌≡◌, ℕ, ◌+◌, ◌^◌, ◌<◌, ◌≤◌, true, false, leb, List, [], ◌∷◌, ◌++◌, length, drop, Ok, refl, sym, ap, ◌∙◌, append_assoc, arith}
use Rattle.std.proofs.lemmas.List.{drop-drop, take_at, drop_at, append-nil, length-append}
use Rattle.std.proofs.lemmas.Bool.{lt-leb, le-leb}
use Rattle.byteorder.specs.Numbers.{little_number-reads_back, big_number-reads_back, length-bytes_low_first, length-bytes_high_first}
use Rattle.mach_base.specs.declared.context.Endian.{Endian}
use Rattle.mach_base.specs.declared.context.Endian.TheVariants.{Little, Big}
use Rattle.mach_base.specs.Number.{number, number_bytes}
use Rattle.mach_base.specs.Record.{Field, num, arr, Value, number_is, bytes_are, width, size, value_in, values_in, field_bytes, spelling}
use Rattle.mach_base.specs.Record.{spelled_after, Fits, AllFit, record_at}

-- the values at a later place are those at the start of the bytes from there on
pub values_in-drop : (le : Endian) (fs : List Field) (s p : ℕ) (bytes : List ℕ) → values_in le fs (s + p) bytes ≡ values_in le fs p (drop s bytes)
values_in-drop le [] s p bytes = refl
values_in-drop le (f ∷ fs) s p bytes =
    let here : drop p (drop s bytes) ≡ drop (s + p) bytes = drop-drop p s bytes in
    let place : (s + p) + width f ≡ s + (p + width f) = omega arith in
    rw (here, place, values_in-drop le fs s (p + width f) bytes) refl

pub values_in-front : (le : Endian) (fs : List Field) (s : ℕ) (bytes : List ℕ) → values_in le fs s bytes ≡ values_in le fs 0 (drop s bytes)
values_in-front le fs s bytes =
    let e : s ≡ s + 0 = omega arith in
    ap (λ (p : ℕ). values_in le fs p bytes) e ∙ values_in-drop le fs s 0 bytes

-- a number has the requested number of bytes
length-number_bytes : (le : Endian) (n x : ℕ) → length (number_bytes le n x) ≡ n
length-number_bytes Little n x = length-bytes_low_first 0 n x
length-number_bytes Big n x = length-bytes_high_first n x

number-back : (le : Endian) (n x : ℕ) (rest : List ℕ) → x < 256 ^ n → number le n (number_bytes le n x ++ rest) ≡ x
number-back Little n x rest h = little_number-reads_back n x rest h
number-back Big n x rest h = big_number-reads_back n x rest h

length-field_bytes : (le : Endian) (f : Field) (v : Value) → Fits f v → length (field_bytes le f v) ≡ width f
length-field_bytes le (num n) (number_is x) h = length-number_bytes le n x
length-field_bytes le (num n) (bytes_are xs) h = absurd h
length-field_bytes le (arr n) (number_is x) h = absurd h
length-field_bytes le (arr n) (bytes_are xs) h = h

value-back : (le : Endian) (f : Field) (v : Value) (rest : List ℕ) → Fits f v → value_in le f (field_bytes le f v ++ rest) ≡ v
value-back le (num n) (number_is x) rest h = ap number_is (number-back le n x rest h)
value-back le (num n) (bytes_are xs) rest h = absurd h
value-back le (arr n) (number_is x) rest h = absurd h
value-back le (arr n) (bytes_are xs) rest h = ap bytes_are (take_at xs rest n h)

-- a record has as many bytes as its fields together
pub length-spelling : (le : Endian) (fs : List Field) (vs : List Value) → AllFit fs vs → length (spelling le fs vs) ≡ size fs
length-spelling le [] [] h = refl
length-spelling le [] (v ∷ vs) h = absurd h
length-spelling le (f ∷ fs) [] h = absurd h
length-spelling le (f ∷ fs) (v ∷ vs) h =
    omega (arith, length-append (field_bytes le f v) (spelling le fs vs), length-field_bytes le f v h.0, length-spelling le fs vs h.1)

-- a field after the others
pub spelled_after-front : (le : Endian) (front : List ℕ) (fs : List Field) (vs : List Value) → spelled_after le front fs vs ≡ front ++ spelling le fs vs
spelled_after-front le front [] vs = sym (append-nil front)
spelled_after-front le front (f ∷ fs) [] = sym (append-nil front)
spelled_after-front le front (f ∷ fs) (v ∷ vs) =
    spelled_after-front le (front ++ field_bytes le f v) fs vs ∙ append_assoc front (field_bytes le f v) (spelling le fs vs)

-- what was written is read back
pub values-back : (le : Endian) (fs : List Field) (vs : List Value) (rest : List ℕ) → AllFit fs vs → values_in le fs 0 (spelling le fs vs ++ rest) ≡ vs
values-back le [] [] rest h = refl
values-back le [] (v ∷ vs) rest h = absurd h
values-back le (f ∷ fs) [] rest h = absurd h
values-back le (f ∷ fs) (v ∷ vs) rest h =
    let b = field_bytes le f v in
    let r = spelling le fs vs in
    let regroup : (b ++ r) ++ rest ≡ b ++ (r ++ rest) = append_assoc b r rest in
    let front : value_in le f (b ++ (r ++ rest)) ≡ v = value-back le f v (r ++ rest) h.0 in
    let off : drop (width f) (b ++ (r ++ rest)) ≡ r ++ rest = drop_at b (r ++ rest) (width f) (length-field_bytes le f v h.0) in
    let later : values_in le fs (0 + width f) (b ++ (r ++ rest)) ≡ vs =
    ap (λ (p : ℕ). values_in le fs p (b ++ (r ++ rest))) (let e : 0 + width f ≡ width f = omega arith in e)
    ∙ values_in-front le fs (width f) (b ++ (r ++ rest)) ∙ ap (values_in le fs 0) off ∙ values-back le fs vs rest h.1 in
    rw regroup (rw (front, later) refl)

pub record_at-ok : (le : Endian) (fs : List Field) (bytes : List ℕ) (s : ℕ) (vs : List Value) → s < length bytes → s + size fs ≤ length bytes
    → values_in le fs 0 (drop s bytes) ≡ vs → record_at le fs bytes s ≡ Ok vs
record_at-ok le fs bytes s vs inside room e =
    let t : leb (length bytes) s ≡ false = lt-leb (length bytes) s inside in
    let u : leb (s + size fs) (length bytes) ≡ true = le-leb (s + size fs) (length bytes) room in
    rw (t, u, values_in-front le fs s bytes, e) refl

-- the record at the place where it was written
pub record_at-spelling : (le : Endian) (fs : List Field) (vs : List Value) (s : ℕ) (front rest : List ℕ) → length front ≡ s → AllFit fs vs → 0 < size fs
    → record_at le fs (front ++ (spelling le fs vs ++ rest)) s ≡ Ok vs
record_at-spelling le fs vs s front rest len fit some =
    let whole = front ++ (spelling le fs vs ++ rest) in
    let l1 : length whole ≡ length front + length (spelling le fs vs ++ rest) = length-append front (spelling le fs vs ++ rest) in
    let l2 = length-append (spelling le fs vs) rest in
    let l3 = length-spelling le fs vs fit in
    let off : drop s whole ≡ spelling le fs vs ++ rest = drop_at front (spelling le fs vs ++ rest) s len in
    record_at-ok le fs whole s vs (omega arith) (omega arith) (ap (values_in le fs 0) off ∙ values-back le fs vs rest fit)
