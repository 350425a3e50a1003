-- Records: fields one after another, in one byte order.
use Rattle.std.specs.Prelude.{◌≡◌, ℕ, zero, suc, ◌+◌, ◌<◌, ◌^◌, List, [], ◌∷◌, ◌++◌, length, take, drop, Result}
use Rattle.mach_base.specs.declared.context.Endian.{Endian}
use Rattle.mach_base.specs.Fault.{Fault}
use Rattle.mach_base.specs.Number.{number, number_bytes, bounded}

-- a number of some bytes, or an array of bytes
pub data Field : Type 0 where
  num : ℕ → Field
  arr : ℕ → Field

pub data Value : Type 0 where
  number_is : ℕ → Value
  bytes_are : List ℕ → Value

abbrev pub width : Field → ℕ
width (num n) = n
width (arr n) = n

abbrev pub size : List Field → ℕ
size [] = 0
size (f ∷ fs) = width f + size fs

-- The size is that of the fields together, no record is empty, and two records with the same values are equal.
pub record IsRecord {R : Type 0} (bytes : ℕ) (fields : List Field) (values : R → List Value) : Type 0 where
  pub sized : bytes ≡ size fields
  pub some : 0 < bytes
  pub same : (x y : R) → values x ≡ values y → x ≡ y

-- the value of a field at the start of some bytes
abbrev pub value_in : Endian → Field → List ℕ → Value
value_in le (num n) bytes = number_is (number le n bytes)
value_in le (arr n) bytes = bytes_are (take n bytes)

-- the values of the fields, the first of which is at a place
abbrev pub values_in : Endian → List Field → ℕ → List ℕ → List Value
values_in le [] place bytes = []
values_in le (f ∷ fs) place bytes = value_in le f (drop place bytes) ∷ values_in le fs (place + width f) bytes

-- the bytes of a field
abbrev pub field_bytes : Endian → Field → Value → List ℕ
field_bytes le (num n) (number_is x) = number_bytes le n x
field_bytes le (num n) (bytes_are xs) = []
field_bytes le (arr n) (number_is x) = []
field_bytes le (arr n) (bytes_are xs) = xs

abbrev pub spelling : Endian → List Field → List Value → List ℕ
spelling le [] vs = []
spelling le (f ∷ fs) [] = []
spelling le (f ∷ fs) (v ∷ vs) = field_bytes le f v ++ spelling le fs vs

-- some bytes, followed by those of the fields
abbrev pub spelled_after : Endian → List ℕ → List Field → List Value → List ℕ
spelled_after le front [] vs = front
spelled_after le front (f ∷ fs) [] = front
spelled_after le front (f ∷ fs) (v ∷ vs) = spelled_after le (front ++ field_bytes le f v) fs vs

-- its field can hold the value
abbrev pub Fits : Field → Value → Type 0
Fits (num n) (number_is x) = x < 256 ^ n
Fits (num n) (bytes_are xs) = ⊥
Fits (arr n) (number_is x) = ⊥
Fits (arr n) (bytes_are xs) = length xs ≡ n

abbrev pub AllFit : List Field → List Value → Type 0
AllFit [] [] = Unit {0}
AllFit [] (v ∷ vs) = ⊥
AllFit (f ∷ fs) [] = ⊥
AllFit (f ∷ fs) (v ∷ vs) = Fits f v × AllFit fs vs

-- the values of the record at a place, or the reason why there is none
abbrev pub record_at : Endian → List Field → List ℕ → ℕ → Result (List Value) Fault
record_at le fields bytes s = bounded (size fields) bytes s (values_in le fields s bytes)

-- new is old with these bytes written at a place
abbrev pub IsWritten : List ℕ → List ℕ → ℕ → List ℕ → Type 0
IsWritten old new s spelled = new ≡ take s old ++ spelled ++ drop (s + length spelled) old

-- the number, or the bytes, at an index of some values
abbrev pub number_among : List Value → ℕ → ℕ
number_among [] k = 0
number_among (number_is n ∷ vs) zero = n
number_among (bytes_are bs ∷ vs) zero = 0
number_among (v ∷ vs) (suc k) = number_among vs k

abbrev pub bytes_among : List Value → ℕ → List ℕ
bytes_among [] k = []
bytes_among (number_is n ∷ vs) zero = []
bytes_among (bytes_are bs ∷ vs) zero = bs
bytes_among (v ∷ vs) (suc k) = bytes_among vs k
