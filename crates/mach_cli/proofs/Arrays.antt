-- The objects of the first rows of a list, up to a limit.
use Rattle.std.proofs.Common.{◌≡◌, ◌≤◌, ◌+◌, ◌-◌, ◌++◌, ◌∷◌, [], ◌∙◌, ℕ, List, Option, Result, Ok, Err, Bool, true, false, refl, sym, ap, subst}
use Rattle.std.proofs.Common.{length, map, take, arith}
use Rattle.std.specs.Prelude.{◌&&◌, ◌||◌, not, codes, nat_lt}
use Rattle.std.proofs.lemmas.Bool.{le-ltb, lt-ltb}
use Rattle.std.proofs.lemmas.Grind.{flat_map-append}
use Rattle.std.proofs.lemmas.List.{append-nil, append_assoc, length-append, map-append, take-append-le, take_all}
use Rattle.std.proofs.lemmas.List.Folds.{list_all-append}
use Rattle.std.specs.Io.KnownBytes.{Appends}
use Rattle.std.specs.List.{flat_map, list_all}
use Rattle.std.specs.Result.{is_ok}
use Rattle.mach_base.proofs.Written.{Appends-none, Appends-both}
use Rattle.mach_base.specs.Fault.{Fault}
use Rattle.mach_base.specs.Items.{read_as}
use Rattle.mach_base.specs.declared.error.Error.{Error}
use Rattle.mach_cli.specs.Listings.{text_read, text_answer}
use Rattle.mach_cli.specs.declared.listing.ListProgress.{ListProgress}
use Rattle.mach_cli.specs.JsonArrays.{after_comma, with_commas, comma_before, row_object, array_member, lists_end, IsArrayOf, WritesArray}
use Rattle.mach_cli.specs.JsonArrays.{WritesAllRows, WritesMember, WritesMembers, WritesObjects, NamedRows, AreArrayMembers, last_member, then_members}
use Rattle.mach_cli.specs.JsonArrays.{WritesListMembers}

-- ---- elements

abbrev pub has_none : List (List ℕ) → Bool
has_none [] = true
has_none (x ∷ xs) = false

pub some_more : (xs : List (List ℕ)) (y : List ℕ) → false ≡ has_none (xs ++ y ∷ [])
some_more [] y = refl
some_more (x ∷ xs) y = refl

-- one element more
pub commas_more : (xs : List (List ℕ)) (y : List ℕ) → with_commas (xs ++ y ∷ []) ≡ with_commas xs ++ (comma_before (has_none xs) ++ y)
commas_more [] y = append-nil y
commas_more (x ∷ xs) y =
    ap (λ rest. x ++ rest) (flat_map-append after_comma xs (y ∷ []) ∙ ap (λ last. flat_map after_comma xs ++ last) (append-nil (after_comma y)))
    ∙ sym (append_assoc x (flat_map after_comma xs) (after_comma y))

-- the same, written after those that are there
pub element_written : (xs : List (List ℕ)) (y : List ℕ) (is_first : Bool) (old middle new : Option (List ℕ)) → Appends old middle (with_commas xs)
    → is_first ≡ has_none xs → Appends middle new (comma_before is_first ++ y) → Appends old new (with_commas (xs ++ y ∷ []))
element_written xs y is_first old middle new before first written =
    subst (λ (text : List ℕ). Appends old new text)
    (ap (λ (b : Bool). with_commas xs ++ (comma_before b ++ y)) first ∙ sym (commas_more xs y))
    (Appends-both old middle new (with_commas xs) (comma_before is_first ++ y) before written)

-- ---- a list that is visited

-- the text of a row that was read is that of the row
read_answer : {R : Type 0} (text : R → List ℕ) (answer : Result R Error) → text_read (text_answer text answer) ≡ read_as text answer
read_answer text (Ok row) = refl
read_answer text (Err e) = refl

all-one : {R : Type 0} (text : R → List ℕ) (answer : Result R Error) → is_ok answer ≡ list_all is_ok (read_as text answer ∷ [])
all-one text (Ok row) = refl
all-one text (Err e) = refl

-- The objects of the first rows were written, `rest` follows them, and `left` more may be written.
pub record Goes (limit : ℕ) (rows rest : List (Result (List ℕ) Fault)) (left : ℕ) (whole is_first : Bool) (old new : Option (List ℕ)) : Type 0 where
  pub answers : List (Result (List ℕ) Error)
  pub are : rows ≡ map text_read answers ++ rest
  pub count : left + length (map text_read answers) ≡ limit
  pub written : Appends old new (with_commas (map row_object answers))
  pub is_whole : whole ≡ list_all is_ok (map text_read answers)
  pub first : is_first ≡ has_none (map row_object answers)

module _ (limit : ℕ) where
  pub goes_init : (rows rest : List (Result (List ℕ) Fault)) (known : Option (List ℕ)) → rows ≡ rest → Goes limit rows rest limit true true known known
  goes_init rows rest known same =
      record { answers = []; are = same; count = omega arith; written = Appends-none known; is_whole = refl; first = refl }

  pub goes_on : {R : Type 0} (text : R → List ℕ) (rows all rest : List (Result (List ℕ) Fault)) (left : ℕ) (whole one is_first : Bool)
      (answer : Result R Error) (old middle new : Option (List ℕ)) → Goes limit rows all left whole is_first old middle
      → all ≡ read_as text answer ∷ rest → 1 ≤ left → one ≡ is_ok answer → Appends middle new (comma_before is_first ++ row_object (text_answer text answer))
      → Goes limit rows rest (left - 1) (whole && one) false old new
  goes_on text rows all rest left whole one is_first answer old middle new goes is some ok written =
      let item = read_as text answer in
      let reported = text_answer text answer in
      let before = map text_read goes.answers in
      let reads : map text_read (goes.answers ++ reported ∷ []) ≡ before ++ item ∷ [] =
      map-append text_read goes.answers (reported ∷ []) ∙ ap (λ (x : Result (List ℕ) Fault). before ++ x ∷ []) (read_answer text answer) in
      let objects : map row_object (goes.answers ++ reported ∷ []) ≡ map row_object goes.answers ++ row_object reported ∷ [] =
      map-append row_object goes.answers (reported ∷ []) in record {
        answers = goes.answers ++ reported ∷ [];
        are = goes.are ∙ ap (λ back. before ++ back) is ∙ sym (append_assoc before (item ∷ []) rest) ∙ ap (λ front. front ++ rest) (sym reads);
        count = omega (arith, goes.count, some, ap length reads, length-append before (item ∷ []));
        written = subst (λ (xs : List (List ℕ)). Appends old new (with_commas xs)) (sym objects)
            (element_written (map row_object goes.answers) (row_object reported) is_first old middle new goes.written goes.first written);
        is_whole = ap (λ w. w && one) goes.is_whole ∙ ap (λ w. list_all is_ok before && w) (ok ∙ all-one text answer)
            ∙ sym (list_all-append is_ok before (item ∷ [])) ∙ ap (list_all is_ok) (sym reads);
        first = some_more (map row_object goes.answers) (row_object reported) ∙ ap has_none (sym objects);
      }

  -- the rows visited are the first `limit` of all
  reported_of : (rows rest : List (Result (List ℕ) Fault)) (left : ℕ) (whole is_first : Bool) (old new : Option (List ℕ)) (t : ListProgress)
      (goes : Goes limit rows rest left whole is_first old new) → take limit rows ≡ map text_read goes.answers → t.whole ≡ whole
      → t.left ≡ limit - length rows → t.more ≡ nat_lt limit (length rows) → WritesObjects limit rows old new t
  reported_of rows rest left whole is_first old new t goes reported is count more = record {
    answers = goes.answers;
    are_rows = sym reported;
    counts = record { whole = is ∙ goes.is_whole ∙ ap (list_all is_ok) (sym reported); rest = count; more = more };
    written = goes.written;
  }

  -- to the end of the list
  pub goes_over : (rows rest : List (Result (List ℕ) Fault)) (left : ℕ) (whole is_first : Bool) (old new : Option (List ℕ)) (t : ListProgress)
      → Goes limit rows rest left whole is_first old new → rest ≡ [] → (t.left ≡ left) × (t.whole ≡ whole) × (t.more ≡ false)
      → WritesObjects limit rows old new t
  goes_over rows rest left whole is_first old new t goes none is =
      let front = map text_read goes.answers in
      let all : rows ≡ front = goes.are ∙ ap (λ back. front ++ back) none ∙ append-nil front in
      let many : length rows ≡ length front = ap length all in
      let few : length rows ≤ limit = omega (arith, goes.count, many) in
      reported_of rows rest left whole is_first old new t goes (take_all limit rows few ∙ all) is.1 (is.0 ∙ omega (arith, goes.count, many))
      (is.2 ∙ sym (le-ltb limit (length rows) few))

  -- to the limit, with an item after it
  pub goes_cut : (rows all : List (Result (List ℕ) Fault)) (left : ℕ) (whole is_first : Bool) (old new : Option (List ℕ)) (t : ListProgress)
      (item : Result (List ℕ) Fault) (rest : List (Result (List ℕ) Fault)) → Goes limit rows all left whole is_first old new → all ≡ item ∷ rest
      → left ≡ 0 → (t.left ≡ 0) × (t.whole ≡ whole) × (t.more ≡ true) → WritesObjects limit rows old new t
  goes_cut rows all left whole is_first old new t item rest goes is none message =
      let before = map text_read goes.answers in
      let are : rows ≡ before ++ item ∷ rest = goes.are ∙ ap (λ back. before ++ back) is in
      let many : length rows ≡ length before + length (item ∷ rest) = ap length are ∙ length-append before (item ∷ rest) in
      let front : length before ≡ limit = omega (arith, goes.count, none) in
      let reported : take limit rows ≡ before =
      ap (λ xs. take limit xs) are ∙ take-append-le limit before (item ∷ rest) (omega (arith, front)) ∙ take_all limit before (omega (arith, front)) in
      reported_of rows all left whole is_first old new t goes reported message.1 (message.0 ∙ omega (arith, many, front))
      (message.2 ∙ sym (lt-ltb limit (length rows) (omega (arith, many, front))))

-- ---- arrays

-- the objects between brackets
pub array_of : (left : ℕ) (rows : List (Result (List ℕ) Fault)) (t : ListProgress) (old first second new : Option (List ℕ)) → Appends old first (codes "[")
    → WritesObjects left rows first second t → Appends second new (codes "]") → WritesArray left rows old new t
array_of left rows t old first second new front objects last = record {
  text = codes "[" ++ (with_commas (map row_object objects.answers) ++ codes "]");
  array = record { answers = objects.answers; are_rows = objects.are_rows; is_text = refl };
  counts = objects.counts;
  written = Appends-both old first new (codes "[") (with_commas (map row_object objects.answers) ++ codes "]") front
      (Appends-both first second new (with_commas (map row_object objects.answers)) (codes "]") objects.written last);
}

-- an array of all rows, if there are no more than the limit
pub array_of_all : (limit : ℕ) (rows : List (Result (List ℕ) Fault)) (t : ListProgress) (old new : Option (List ℕ)) → length rows ≤ limit
    → WritesArray limit rows old new t → WritesAllRows rows old new
array_of_all limit rows t old new few a = record {
  text = a.text;
  array = subst (λ (reported : List (Result (List ℕ) Fault)). IsArrayOf reported a.text) (take_all limit rows few) a.array;
  written = a.written;
}

-- a list that isn't printed
pub no_array : (left : ℕ) (t : ListProgress) (old new : Option (List ℕ)) → Appends old new (codes "[]")
    → (t.left ≡ left) × (t.whole ≡ true) × (t.more ≡ false) → WritesArray left [] old new t
no_array left t old new written is =
    let none : take left [] ≡ [] = take_all left [] (omega arith) in record {
      text = codes "[]";
      array = record { answers = []; are_rows = sym none; is_text = refl };
      counts = record {
        whole = is.1 ∙ ap (list_all is_ok) (sym none);
        rest = is.0 ∙ omega arith;
        more = is.2 ∙ sym (le-ltb left 0 (omega arith));
      };
      written = written;
    }

-- an array after its name, and a comma after it
pub member_of : (name : List ℕ) (left : ℕ) (rows : List (Result (List ℕ) Fault)) (t : ListProgress) (old first second new : Option (List ℕ))
    → Appends old first (codes "\"" ++ (name ++ codes "\":")) → WritesArray left rows first second t → Appends second new (codes ",")
    → WritesMember name left rows old new t
member_of name left rows t old first second new front a last = record {
  text = a.text;
  array = a.array;
  counts = a.counts;
  written = subst (λ (text : List ℕ). Appends old new text)
      (ap (λ rest. codes "\"" ++ rest) (append_assoc name (codes "\":") (a.text ++ codes ",")))
      (Appends-both old first new (codes "\"" ++ (name ++ codes "\":")) (a.text ++ codes ",") front
      (Appends-both first second new a.text (codes ",") a.written last));
}

-- ---- several lists

pub one_list : (left : ℕ) (l : NamedRows) (t : ListProgress) (old new : Option (List ℕ)) → WritesMember l.name left l.rows old new t
    → WritesMembers left (l ∷ []) old new t
one_list left l t old new m = record {
  text = array_member l.name m.text;
  members = subst (λ (whole : Bool). AreArrayMembers left (l ∷ []) (array_member l.name m.text) whole t.more t.left) (sym m.counts.whole)
      (subst (λ (more : Bool). AreArrayMembers left (l ∷ []) (array_member l.name m.text) (list_all is_ok (take left l.rows)) more t.left) (sym m.counts.more)
      (subst (λ (rest : ℕ). AreArrayMembers left (l ∷ []) (array_member l.name m.text) (list_all is_ok (take left l.rows)) (nat_lt left (length l.rows)) rest)
      (sym m.counts.rest) (last_member left l m.text m.array)));
  written = m.written;
}

-- the first of several, with what it left for the others
pub list_then : (left : ℕ) (l : NamedRows) (ls : List NamedRows) (one two t : ListProgress) (old middle new : Option (List ℕ))
    → WritesMember l.name left l.rows old middle one → WritesMembers one.left ls middle new two
    → (t.left ≡ two.left) × (t.whole ≡ (one.whole && two.whole)) × (t.more ≡ (one.more || two.more)) → WritesMembers left (l ∷ ls) old new t
list_then left l ls one two t old middle new m others is =
    let text = array_member l.name m.text ++ others.text in
    let all = list_all is_ok (take left l.rows) in
    let over = nat_lt left (length l.rows) in
    let following = subst (λ (n : ℕ). AreArrayMembers n ls others.text two.whole two.more two.left) m.counts.rest others.members in
    let both = then_members left l m.text ls others.text two.whole two.more two.left m.array following in
    let whole : (all && two.whole) ≡ t.whole = ap (λ (w : Bool). w && two.whole) (sym m.counts.whole) ∙ sym is.1 in
    let more : (over || two.more) ≡ t.more = ap (λ (x : Bool). x || two.more) (sym m.counts.more) ∙ sym is.2 in record {
      text = text;
      members = subst (λ (w : Bool). AreArrayMembers left (l ∷ ls) text w t.more t.left) whole
          (subst (λ (x : Bool). AreArrayMembers left (l ∷ ls) text (all && two.whole) x t.left) more
          (subst (λ (rest : ℕ). AreArrayMembers left (l ∷ ls) text (all && two.whole) (over || two.more) rest) (sym is.0) both));
      written = Appends-both old middle new (array_member l.name m.text) others.text m.written others.written;
    }

-- and what follows them
pub lists_written : (left : ℕ) (lists : List NamedRows) (t : ListProgress) (whole : Bool) (rest : ℕ) (old middle new : Option (List ℕ))
    → WritesMembers left lists old middle t → whole ≡ (t.whole && not t.more) → rest ≡ t.left → Appends middle new (lists_end t.more)
    → WritesListMembers left lists whole rest old new
lists_written left lists t whole rest old middle new m is count last = record {
  text = m.text ++ lists_end t.more;
  members = record {
    front = m.text;
    readable = t.whole;
    more = t.more;
    members = subst (λ (n : ℕ). AreArrayMembers left lists m.text t.whole t.more n) (sym count) m.members;
    is_text = refl;
    is_whole = is;
  };
  written = Appends-both old middle new m.text (lists_end t.more) m.written last;
}
