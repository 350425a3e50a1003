-- What the options of a call select, as those of `nm` do.
use Rattle.std.specs.Prelude.{◌==◌, ℕ, List, [], ◌∷◌, codes, length, bytes_eq, Bool, true, false, Option, Some, None, if◌then◌else◌}
use Rattle.std.specs.Borrow.{Bor}
use Rattle.machsyms.specs.Letters.{letter}
use Rattle.machsyms.specs.declared.selection.Request.{Request}
use Rattle.machsyms.specs.declared.selection.Form.{Form}
use Rattle.machsyms.specs.declared.selection.Form.TheVariants as forms
use Rattle.machsyms.specs.declared.selection.SortedBy.TheVariants as sorted
use Rattle.machsyms.specs.declared.arguments.Letters.{Letters}
use Rattle.machsyms.specs.declared.arguments.SymbolOptions.{SymbolOptions}

-- without letters: all but debugging entries, by name
abbrev pub no_letters : Letters
no_letters = record {
  request = record {
    has_stabs = false;
    is_external = false;
    is_undefined = false;
    is_defined = false;
    sorting = None;
    form = forms.Letters;
    file = None;
    is_raw = false;
  };
  sorting = record { by = sorted.Name; is_reversed = false };
  is_plain = false;
  is_hexadecimal = false;
  has_file = false;
}

-- before the first option
abbrev pub no_options : SymbolOptions
no_options = record { letters = no_letters; is_raw = false }

-- the letters with one more, and whether it is a known one
abbrev pub letter_taken : Letters → ℕ → Letters × Bool
letter_taken l c =
    if c == letter (codes "a") then (record l { request = record l.request { has_stabs = true } }, true)
    else (if c == letter (codes "g") then (record l { request = record l.request { is_external = true } }, true)
    else (if c == letter (codes "u") then (record l { request = record l.request { is_undefined = true } }, true)
    else (if c == letter (codes "U") then (record l { request = record l.request { is_defined = true } }, true)
    else (if c == letter (codes "n") then (record l { sorting = record l.sorting { by = sorted.Address } }, true)
    else (if c == letter (codes "r") then (record l { sorting = record l.sorting { is_reversed = true } }, true)
    else (if c == letter (codes "p") then (record l { is_plain = true }, true)
    else (if c == letter (codes "j") then (record l { request = record l.request { form = forms.Names } }, true)
    else (if c == letter (codes "m") then (record l { request = record l.request { form = forms.Words } }, true)
    else (if c == letter (codes "x") then (record l { is_hexadecimal = true }, true)
    else (if c == letter (codes "A") then (record l { has_file = true }, true)
    else (if c == letter (codes "o") then (record l { has_file = true }, true)
    else (l, false))))))))))))

-- the letters with more of them, if all are known
abbrev pub letters_taken : Letters → List ℕ → Option Letters
letters_taken l [] = Some l
letters_taken l (c ∷ cs) = let next = letter_taken l c in if next.1 then letters_taken next.0 cs else None

-- long names, each with its letter
abbrev pub long_names : List (List ℕ × List ℕ)
long_names =
    (codes "--debug-syms", codes "a")
    ∷ (codes "--extern-only", codes "g")
    ∷ (codes "--undefined-only", codes "u")
    ∷ (codes "--defined-only", codes "U")
    ∷ (codes "--numeric-sort", codes "n")
    ∷ (codes "--reverse-sort", codes "r")
    ∷ (codes "--no-sort", codes "p")
    ∷ (codes "--format=just-symbols", codes "j")
    ∷ (codes "--format=darwin", codes "m")
    ∷ (codes "--print-file-name", codes "A")
    ∷ []

-- what follows a dash; nothing if there is none
abbrev pub after_dash : List ℕ → List ℕ
after_dash [] = []
after_dash (c ∷ cs) = if c == letter (codes "-") then cs else []

-- the letters that an option says: the one of a long name, or those after the dash
abbrev pub letters_in : List (List ℕ × List ℕ) → List ℕ → List ℕ
letters_in [] option = after_dash option
letters_in (long ∷ names) option = if bytes_eq option long.0 then long.1 else letters_in names option

-- the options with some letters, if all are known, and whether they are
abbrev pub letters_kept : SymbolOptions → Option Letters → SymbolOptions × Bool
letters_kept o None = (o, false)
letters_kept o (Some l) = (record o { letters = l }, true)

-- The options after an argument, and whether it is one of them: `--raw`, a long name, or known letters after a dash.
abbrev pub option_taken : SymbolOptions → List ℕ → SymbolOptions × Bool
option_taken o argument =
    let said = letters_in long_names argument in
    if bytes_eq argument (codes "--raw") then (record o { is_raw = true }, true)
    else (if length said == 0 then (o, false)
    else letters_kept o (letters_taken o.letters said))

-- the form of lines: of undefined symbols the names alone, unless a letter selects another form
abbrev pub form_of_letters : Form → (is_undefined is_hexadecimal : Bool) → Form
form_of_letters forms.Letters true is_hexadecimal = forms.Names
form_of_letters forms.Letters false is_hexadecimal = if is_hexadecimal then forms.Hexadecimal else forms.Letters
form_of_letters forms.Words is_undefined is_hexadecimal = if is_hexadecimal then forms.Hexadecimal else forms.Words
form_of_letters forms.Names is_undefined is_hexadecimal = forms.Names
form_of_letters forms.Hexadecimal is_undefined is_hexadecimal = forms.Hexadecimal

-- what letters select of a file; no order if a letter says so
abbrev pub selected_of : Letters → (is_raw : Bool) → Bor (List ℕ) → Request
selected_of l is_raw file = record l.request {
  sorting = if l.is_plain then None else Some l.sorting;
  form = form_of_letters l.request.form l.request.is_undefined l.is_hexadecimal;
  file = if l.has_file then Some file else None;
  is_raw = is_raw;
}
