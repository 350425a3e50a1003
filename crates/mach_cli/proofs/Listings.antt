-- The first lines of a list of rows, up to a limit.
use Rattle.std.proofs.Common.{◌≡◌, ◌≤◌, ◌+◌, ◌-◌, ◌++◌, ◌∷◌, [], ◌∙◌, ℕ, List, Option, Result, Ok, Err, Bool, true, false, refl, sym, ap, subst}
use Rattle.std.proofs.Common.{length, take, arith}
use Rattle.std.specs.Prelude.{◌==◌, ◌&&◌, not, nat_lt}
use Rattle.std.proofs.lemmas.Bool.{le-ltb, lt-ltb}
use Rattle.std.proofs.lemmas.List.{append-nil, append_assoc, length-append, take-append-le, take_all}
use Rattle.std.proofs.lemmas.List.Folds.{list_all-append}
use Rattle.std.specs.Io.KnownBytes.{Appends}
use Rattle.std.specs.List.{list_all}
use Rattle.std.specs.Result.{is_ok}
use Rattle.mach_base.proofs.Written.{Appends-both}
use Rattle.mach_base.specs.Fault.{Fault}
use Rattle.mach_base.specs.Items.{read_as}
use Rattle.mach_base.specs.declared.error.Error.{Error}
use Rattle.mach_cli.proofs.Lines.{no_lines, line_more}
use Rattle.mach_cli.specs.Lines.{WritesLines}
use Rattle.mach_cli.specs.Listings.{text_read, text_answer, reported_line, cut_line, past_line, CountsRows, WritesFirstLines, WritesRows}
use Rattle.mach_cli.specs.declared.listing.ListProgress.{ListProgress}

-- the text of a row that was read is that of the row
pub read_answer : {R : Type 0} (text : R → List ℕ) (answer : Result R Error) → text_read (text_answer text answer) ≡ read_as text answer
read_answer text (Ok row) = refl
read_answer text (Err e) = refl

all-one : {R : Type 0} (text : R → List ℕ) (answer : Result R Error) → is_ok answer ≡ list_all is_ok (read_as text answer ∷ [])
all-one text (Ok row) = refl
all-one text (Err e) = refl

-- The lines of the first rows were written, `rest` follows them, and `left` more lines may be written.
pub record Goes (word : List ℕ) (limit : ℕ) (rows rest : List (Result (List ℕ) Fault)) (left : ℕ) (whole : Bool) (old new : Option (List ℕ)) : Type 0 where
  pub front : List (Result (List ℕ) Fault)
  pub are : rows ≡ front ++ rest
  pub count : left + length front ≡ limit
  pub lines : WritesLines text_read (reported_line word) front old new
  pub is_whole : whole ≡ list_all is_ok front

module _ (word : List ℕ) (limit : ℕ) where
  pub goes_init : (rows rest : List (Result (List ℕ) Fault)) (known : Option (List ℕ)) → rows ≡ rest → Goes word limit rows rest limit true known known
  goes_init rows rest known same =
      record { front = []; are = same; count = omega arith; lines = no_lines text_read (reported_line word) known; is_whole = refl }

  pub goes_on : {R : Type 0} (text : R → List ℕ) (rows all rest : List (Result (List ℕ) Fault)) (left : ℕ) (whole one : Bool) (answer : Result R Error)
      (old middle new : Option (List ℕ)) → Goes word limit rows all left whole old middle → all ≡ read_as text answer ∷ rest → 1 ≤ left → one ≡ is_ok answer
      → Appends middle new (reported_line word (text_answer text answer)) → Goes word limit rows rest (left - 1) (whole && one) old new
  goes_on text rows all rest left whole one answer old middle new goes is some ok line =
      let item = read_as text answer in
      let reported = text_answer text answer in record {
        front = goes.front ++ item ∷ [];
        are = goes.are ∙ ap (λ back. goes.front ++ back) is ∙ sym (append_assoc goes.front (item ∷ []) rest);
        count = omega (arith, goes.count, some, length-append goes.front (item ∷ []));
        lines =
            subst (λ (x : Result (List ℕ) Fault). WritesLines text_read (reported_line word) (goes.front ++ x ∷ []) old new) (read_answer text answer)
            (line_more text_read (reported_line word) goes.front reported old middle new goes.lines line);
        is_whole = ap (λ w. w && one) goes.is_whole ∙ ap (λ w. list_all is_ok goes.front && w) (ok ∙ all-one text answer)
            ∙ sym (list_all-append is_ok goes.front (item ∷ []));
      }

  -- the rows visited are the first `limit` of all
  reported_of : (rows rest : List (Result (List ℕ) Fault)) (left : ℕ) (whole : Bool) (old new : Option (List ℕ)) (t : ListProgress)
      (goes : Goes word limit rows rest left whole old new) → take limit rows ≡ goes.front → t.whole ≡ whole → t.left ≡ limit - length rows
      → t.more ≡ nat_lt limit (length rows) → WritesRows word limit rows old new t
  reported_of rows rest left whole old new t goes reported is count more = record {
    lines = subst (λ (xs : List (Result (List ℕ) Fault)). WritesLines text_read (reported_line word) xs old new) (sym reported) goes.lines;
    whole = is ∙ goes.is_whole ∙ ap (list_all is_ok) (sym reported);
    rest = count;
    more = more;
  }

  -- to the end of the list
  pub goes_over : (rows rest : List (Result (List ℕ) Fault)) (left : ℕ) (whole : Bool) (old new : Option (List ℕ)) (t : ListProgress)
      → Goes word limit rows rest left whole old new → rest ≡ [] → (t.left ≡ left) × (t.whole ≡ whole) × (t.more ≡ false)
      → WritesRows word limit rows old new t
  goes_over rows rest left whole old new t goes none is =
      let all : rows ≡ goes.front = goes.are ∙ ap (λ back. goes.front ++ back) none ∙ append-nil goes.front in
      let many : length rows ≡ length goes.front = ap length all in
      let few : length rows ≤ limit = omega (arith, goes.count, many) in
      reported_of rows rest left whole old new t goes (take_all limit rows few ∙ all) is.1 (is.0 ∙ omega (arith, goes.count, many))
      (is.2 ∙ sym (le-ltb limit (length rows) few))

  -- to the limit, with an item after it
  pub goes_cut : (rows all : List (Result (List ℕ) Fault)) (left : ℕ) (whole : Bool) (old new : Option (List ℕ)) (t : ListProgress) (item : Result
      (List ℕ) Fault)
      (rest : List (Result (List ℕ) Fault)) → Goes word limit rows all left whole old new → all ≡ item ∷ rest → left ≡ 0
      → (t.left ≡ 0) × (t.whole ≡ whole) × (t.more ≡ true) → WritesRows word limit rows old new t
  goes_cut rows all left whole old new t item rest goes is none message =
      let are : rows ≡ goes.front ++ item ∷ rest = goes.are ∙ ap (λ back. goes.front ++ back) is in
      let many : length rows ≡ length goes.front + length (item ∷ rest) = ap length are ∙ length-append goes.front (item ∷ rest) in
      let front : length goes.front ≡ limit = omega (arith, goes.count, none) in
      let reported : take limit rows ≡ goes.front =
      ap (λ xs. take limit xs) are ∙ take-append-le limit goes.front (item ∷ rest) (omega (arith, front)) ∙ take_all limit goes.front (omega (arith, front)) in
      reported_of rows all left whole old new t goes reported message.1 (message.0 ∙ omega (arith, many, front))
      (message.2 ∙ sym (lt-ltb limit (length rows) (omega (arith, many, front))))

-- the first rows, and the lines after them
pub rows_and_ends : (word : List ℕ) (limit left : ℕ) (rows : List (Result (List ℕ) Fault)) (name : List ℕ) (past : ℕ) (t : ListProgress)
    (old first second new : Option (List ℕ)) → WritesRows word left rows old first t → Appends first second (cut_line limit t.more)
    → Appends second new (past_line name past) → WritesFirstLines word limit left rows name past ((t.whole && not t.more) && (past == 0)) t.left old new
rows_and_ends word limit left rows name past t old first second new reported cut more = record {
  text = reported.lines.text ++ (cut_line limit t.more ++ past_line name past);
  lines = record {
    lines = reported.lines.text;
    are_lines = reported.lines.lines;
    is_text = ap (λ (cut : Bool). reported.lines.text ++ (cut_line limit cut ++ past_line name past)) reported.more;
    is_whole =
        ap (λ (w : Bool). (w && not t.more) && (past == 0)) reported.whole
        ∙ ap (λ (cut : Bool). (list_all is_ok (take left rows) && not cut) && (past == 0)) reported.more;
    is_rest = reported.rest;
  };
  written =
      Appends-both old first new reported.lines.text (cut_line limit t.more ++ past_line name past) reported.lines.written
      (Appends-both first second new (cut_line limit t.more) (past_line name past) cut more);
}

-- ---- a list whose rows are counted

-- The first rows were visited, `rest` follows them, and `left` more may be visited.
pub record Passes (limit : ℕ) (rows rest : List (Result (List ℕ) Fault)) (left : ℕ) (whole : Bool) : Type 0 where
  pub front : List (Result (List ℕ) Fault)
  pub are : rows ≡ front ++ rest
  pub count : left + length front ≡ limit
  pub is_whole : whole ≡ list_all is_ok front

module _ (limit : ℕ) where
  pub passes_init : (rows rest : List (Result (List ℕ) Fault)) → rows ≡ rest → Passes limit rows rest limit true
  passes_init rows rest same = record { front = []; are = same; count = omega arith; is_whole = refl }

  pub passes_on : {R : Type 0} (text : R → List ℕ) (rows all rest : List (Result (List ℕ) Fault)) (left : ℕ) (whole one : Bool) (answer : Result R Error)
      → Passes limit rows all left whole → all ≡ read_as text answer ∷ rest → 1 ≤ left → one ≡ is_ok answer
      → Passes limit rows rest (left - 1) (whole && one)
  passes_on text rows all rest left whole one answer passes is some ok =
      let item = read_as text answer in record {
        front = passes.front ++ item ∷ [];
        are = passes.are ∙ ap (λ back. passes.front ++ back) is ∙ sym (append_assoc passes.front (item ∷ []) rest);
        count = omega (arith, passes.count, some, length-append passes.front (item ∷ []));
        is_whole = ap (λ w. w && one) passes.is_whole ∙ ap (λ w. list_all is_ok passes.front && w) (ok ∙ all-one text answer)
            ∙ sym (list_all-append is_ok passes.front (item ∷ []));
      }

  -- to the end of the list
  pub passes_over : (rows rest : List (Result (List ℕ) Fault)) (left : ℕ) (whole : Bool) (t : ListProgress) → Passes limit rows rest left whole → rest ≡ []
      → (t.left ≡ left) × (t.whole ≡ whole) × (t.more ≡ false) → CountsRows limit rows t
  passes_over rows rest left whole t passes none is =
      let all : rows ≡ passes.front = passes.are ∙ ap (λ back. passes.front ++ back) none ∙ append-nil passes.front in
      let many : length rows ≡ length passes.front = ap length all in
      let few : length rows ≤ limit = omega (arith, passes.count, many) in
      record {
        whole = is.1 ∙ passes.is_whole ∙ ap (list_all is_ok) (sym (take_all limit rows few ∙ all));
        rest = is.0 ∙ omega (arith, passes.count, many);
        more = is.2 ∙ sym (le-ltb limit (length rows) few);
      }

  -- to the limit, with an item after it
  pub passes_cut : (rows all : List (Result (List ℕ) Fault)) (left : ℕ) (whole : Bool) (t : ListProgress) (item : Result (List ℕ) Fault)
      (rest : List (Result (List ℕ) Fault)) → Passes limit rows all left whole → all ≡ item ∷ rest → left ≡ 0
      → (t.left ≡ 0) × (t.whole ≡ whole) × (t.more ≡ true) → CountsRows limit rows t
  passes_cut rows all left whole t item rest passes is none message =
      let are : rows ≡ passes.front ++ item ∷ rest = passes.are ∙ ap (λ back. passes.front ++ back) is in
      let many : length rows ≡ length passes.front + length (item ∷ rest) = ap length are ∙ length-append passes.front (item ∷ rest) in
      let front : length passes.front ≡ limit = omega (arith, passes.count, none) in
      let reported : take limit rows ≡ passes.front =
      ap (λ xs. take limit xs) are ∙ take-append-le limit passes.front (item ∷ rest) (omega (arith, front))
      ∙ take_all limit passes.front (omega (arith, front)) in
      record {
        whole = message.1 ∙ passes.is_whole ∙ ap (list_all is_ok) (sym reported);
        rest = message.0 ∙ omega (arith, many, front);
        more = message.2 ∙ sym (lt-ltb limit (length rows) (omega (arith, many, front)));
      }
