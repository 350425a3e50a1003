-- Walks along edges that are left on a stack.
use Rattle.std.proofs.Common.{◌≡◌, ◌∙◌, ◌<◌, ℕ, suc, Bool, true, false, List, [], ◌∷◌, ◌++◌, Some, None, length, reverse, drop, get_or, set, replicate}
use Rattle.std.proofs.Common.{refl, sym, ap, subst, inl, inr, arith, drop-cons}
use Rattle.std.specs.Prelude.{slice_get}
use Rattle.std.proofs.lemmas.List.{reverse-append, get_or-set_same, get_or-set_other, get_or-replicate, length-replicate, length-set}
use Rattle.std.proofs.lemmas.Bool.{cases_eq, true≢false}
use Rattle.mach_base.specs.Among.{IsAmong}
use Rattle.mach_resolve.specs.Files.{File, place_of_file}
use Rattle.mach_resolve.specs.Following.{Edge, Met, none_met, with_place, with_gap, edges_of, Walks, done, absent, again, first}
use Rattle.mach_resolve.proofs.Places.{among_pushed, among_before, among_or_last}

-- a walk along some edges and others after them stops between them
pub split : (files : List File) (xs ys : List Edge) (m n : Met) → Walks files (xs ++ ys) m n
    → (mid : Met) × Walks files xs m mid × Walks files ys mid n
split files [] ys m n w = (m, done, w)
split files (x ∷ xs) ys m n (absent none rest) =
    let s = split files xs ys (with_gap m x) n rest in (s.0, absent none s.1, s.2)
split files (x ∷ xs) ys m n (again i is met rest) =
    let s = split files xs ys m n rest in (s.0, again i is met s.1, s.2)
split files (x ∷ xs) ys m n (first mid i f is new at inner rest) =
    let s = split files xs ys mid n rest in (s.0, first mid i f is new at inner s.1, s.2)

-- a file that is entered now: its re-exports come before the edges that are left
pub entered : (files : List File) (e : Edge) (es : List Edge) (m n : Met) (i : ℕ) (f : File) → place_of_file files e.to ≡ Some i → (IsAmong i m.places → ⊥)
    → slice_get files i ≡ Some f → Walks files (edges_of f ++ es) (with_place m i) n → Walks files (e ∷ es) m n
entered files e es m n i f is new at w =
    let s = split files (edges_of f) es (with_place m i) n w in first s.0 i f is new at s.1 s.2

-- an item popped from a stack
pub popped : {X : Type 0} (xs ys : List X) (x : X) → xs ≡ ys ++ x ∷ [] → reverse xs ≡ x ∷ reverse ys
popped xs ys x e = ap reverse e ∙ reverse-append ys (x ∷ [])

pub emptied : {X : Type 0} (xs : List X) → length xs ≡ 0 → reverse xs ≡ []
emptied [] e = refl
emptied (x ∷ xs) e = absurd (omega arith)

-- one more item is pushed on the stack, in reverse order
pub one_more : {X : Type 0} (es rest old new : List X) (e d : X) (j : ℕ) → new ≡ old ++ e ∷ [] → e ≡ get_or es j d → j < length es
    → reverse old ≡ drop (suc j) es ++ rest → reverse new ≡ drop j es ++ rest
one_more es rest old new e d j more is inside so_far =
    popped new old e more ∙ (ap (λ (xs : List _). e ∷ xs) so_far
    ∙ (ap (λ (x : _). x ∷ drop (suc j) es ++ rest) is ∙ ap (λ (xs : List _). xs ++ rest) (sym (drop-cons es j d inside))))

-- the marks are at the places that were met
pub record AreMarks (files : List File) (marks : List Bool) (places : List ℕ) : Type 0 where
  pub long : length marks ≡ length files
  pub met : (i : ℕ) → i < length files → get_or marks i false ≡ true → IsAmong i places
  pub new : (i : ℕ) → i < length files → get_or marks i false ≡ false → IsAmong i places → ⊥

pub no_marks : (files : List File) (marks : List Bool) → marks ≡ replicate (length files) false → AreMarks files marks []
no_marks files marks are =
    record {
      long = ap length are ∙ length-replicate (length files) false;
      met =
          λ i inside on. absurd (true≢false
          (sym on ∙ (ap (λ (ms : List Bool). get_or ms i false) are ∙ get_or-replicate (length files) i false false inside)));
      new = λ i inside off among. among;
    }

pub marked : (files : List File) (marks : List Bool) (places : List ℕ) (i : ℕ) → i < length files → AreMarks files marks places
    → AreMarks files (set marks i true) (places ++ i ∷ [])
marked files marks places i inside h =
    let within : i < length marks = omega (arith, h.long) in
    record {
      long = length-set marks i true ∙ h.long;
      met = λ j there on. elim (cases_eq j i) as (λ _. IsAmong j (places ++ i ∷ [])) [
        | inl same ↦ subst (λ (k : ℕ). IsAmong k (places ++ i ∷ [])) (sym same) (among_pushed i places)
        | inr other ↦ among_before j i places (h.met j there (sym (get_or-set_other marks i j true false other) ∙ on))
      ];
      new = λ j there off among. elim (cases_eq j i) as (λ _. ⊥) [
        | inl same ↦ true≢false (sym (get_or-set_same marks i true false within) ∙ (ap (λ (k : ℕ). get_or (set marks i true) k false) (sym same) ∙ off))
        | inr other ↦ elim (among_or_last j i places among) as (λ _. ⊥) [
          | inl before ↦ h.new j there (sym (get_or-set_other marks i j true false other) ∙ off) before
          | inr last ↦ other last
        ]
      ];
    }

-- what holds between two edges: the walk along those that are left ends where the whole walk does
pub record Holds (files : List File) (starts left : List Edge) (met : Met) (marks : List Bool) : Type 0 where
  pub walks : (n : Met) → Walks files left met n → Walks files starts none_met n
  pub marks_are : AreMarks files marks met.places

pub begins : (files : List File) (starts : List Edge) (marks : List Bool) → marks ≡ replicate (length files) false → Holds files starts starts none_met marks
begins files starts marks are = record { walks = λ n w. w; marks_are = no_marks files marks are }

pub ended : (files : List File) (starts : List Edge) (met : Met) (marks : List Bool) → Holds files starts [] met marks → Walks files starts none_met met
ended files starts met marks h = h.walks met done

pub passed_gap : (files : List File) (starts left : List Edge) (e : Edge) (met : Met) (marks : List Bool) → place_of_file files e.to ≡ None
    → Holds files starts (e ∷ left) met marks → Holds files starts left (with_gap met e) marks
passed_gap files starts left e met marks none h = record { walks = λ n w. h.walks n (absent none w); marks_are = h.marks_are }

pub passed_again : (files : List File) (starts left : List Edge) (e : Edge) (met : Met) (marks : List Bool) (i : ℕ) → place_of_file files e.to ≡ Some i
    → i < length files → get_or marks i false ≡ true → Holds files starts (e ∷ left) met marks → Holds files starts left met marks
passed_again files starts left e met marks i is inside on h =
    record { walks = λ n w. h.walks n (again i is (h.marks_are.met i inside on) w); marks_are = h.marks_are }

pub passed_first : (files : List File) (starts left : List Edge) (e : Edge) (met : Met) (marks : List Bool) (i : ℕ) (f : File)
    → place_of_file files e.to ≡ Some i
    → slice_get files i ≡ Some f → i < length files → get_or marks i false ≡ false → Holds files starts (e ∷ left) met marks
    → Holds files starts (edges_of f ++ left) (with_place met i) (set marks i true)
passed_first files starts left e met marks i f is at inside off h =
    record {
      walks = λ n w. h.walks n (entered files e left met n i f is (h.marks_are.new i inside off) at w);
      marks_are = marked files marks met.places i inside h.marks_are;
    }
