-- The lines of items are one line each, whatever the names in them are.
use Rattle.std.proofs.Common.{◌≡◌, ◌++◌, ◌^◌, [], ℕ, List, Result, Option, Some, None, Ok, Err, true, false, codes, arith, refl, rules}
use Rattle.std.specs.Prelude.{nat_lt}
use Rattle.std.specs.Fmt.{decimal, digits}
use Rattle.mach_base.specs.Words.{words_of}
use Rattle.mach_base.specs.declared.error.Error.{Error}
use Rattle.mach_base.specs.declared.hint.Hint.{Hint}
use Rattle.mach_base.specs.declared.hint.Hint.TheVariants as hints
use Rattle.mach_archive.specs.Members.{MemberView}
use Rattle.mach_cli.proofs.OneLine.{no_feeds, no_feed-append, no_feed-if, no_feed-printed, printed-digits, line-end, line-more}
use Rattle.mach_cli.proofs.FieldLines.{no_feed-line}
use Rattle.mach_cli.specs.Escapes.{IsOneLine, escaped_text, has_no_feed}
use Rattle.mach_fat_writer.specs.declared.entry_record.EntryRecord.{EntryRecord}
use Rattle.mach_cli.specs.Fields.{fields_line}
use Rattle.mach_cli.specs.Kinds.{entry_kind, hint_text}
use Rattle.machfat.specs.Lines.{cpu_of_numbers, cpu_text, image_line, in_units, line_end, name_or_numbers, reached_units, record_fields, record_line}
use Rattle.machfat.specs.MemberLines.{MemberReported, a_member, member_front, member_line, member_name_end, member_reason, name_reason, no_more_members}
use Rattle.machfat.specs.MemberLines.{number_or_dash, octal_or_dash}
use Rattle.machfat.specs.SymbolLines.{SymbolReported, a_symbol, no_more_symbols, of_no_member, of_no_name, symbol_at_text, symbol_line, symbol_reason}

no_feed-hint : (hint : Hint) → has_no_feed (hint_text hint) ≡ true
no_feed-hint hints.Archive = refl
no_feed-hint (hints.Mach said) = refl
no_feed-hint (hints.MachFat count) = refl
no_feed-hint (hints.Unknown number) = refl

no_feed-kind : (entry : List ℕ) → has_no_feed (entry_kind entry) ≡ true
no_feed-kind entry = search (no_feeds, no_feed-hint, rules)

no_feed-number : (n : Option ℕ) → has_no_feed (number_or_dash n) ≡ true
no_feed-number (Some n) = search (no_feeds, rules)
no_feed-number None = refl

no_feed-digits_8 : (n : ℕ) → has_no_feed (digits 8 false n) ≡ true
no_feed-digits_8 n = no_feed-printed (digits 8 false n) (printed-digits 8 false n (omega arith) (omega arith))

no_feed-octal : (n : Option ℕ) → has_no_feed (octal_or_dash n) ≡ true
no_feed-octal (Some n) = search (no_feeds, no_feed-digits_8, rules)
no_feed-octal None = refl

no_feed-units : (unit size : ℕ) (name : List ℕ) → has_no_feed name ≡ true → has_no_feed (in_units unit name size) ≡ true
no_feed-units unit size name h = search (no_feeds, h, rules)

no_feed-reached : (size : ℕ) → has_no_feed (reached_units size) ≡ true
unfolding reached_units
no_feed-reached size =
    no_feed-if (nat_lt size (2 ^ 10)) [] _ refl
    (no_feed-if (nat_lt size (2 ^ 20)) _ _ (no_feed-units (2 ^ 10) size (codes "KiB") refl)
    (no_feed-if (nat_lt size (2 ^ 30)) _ _ (no_feed-units (2 ^ 20) size (codes "MiB") refl) (no_feed-units (2 ^ 30) size (codes "GiB") refl)))

no_feed-end : (size align : ℕ) → has_no_feed (line_end size align) ≡ true
no_feed-end size align = no_feed-append (reached_units size) (codes ", align 2^" ++ decimal align) (no_feed-reached size) (search (no_feeds, rules))

no_feed-named : (name : Option (List ℕ)) (cputype cpusubtype : ℕ) → has_no_feed (name_or_numbers name cputype cpusubtype) ≡ true
no_feed-named (Some name) cputype cpusubtype = search (no_feeds, rules)
no_feed-named None cputype cpusubtype = search (no_feeds, rules)

no_feed-cpu : (cputype cpusubtype : ℕ) → has_no_feed (cpu_text cputype cpusubtype) ≡ true
no_feed-cpu cputype cpusubtype = no_feed-named (cpu_of_numbers cputype cpusubtype) cputype cpusubtype

no_feed-front : (number : ℕ) (m : MemberView) → has_no_feed (member_front number m) ≡ true
no_feed-front number m = search (no_feeds, no_feed-kind, no_feed-number, no_feed-octal, rules)

-- words at the end of a line, after others
words_end : (front words : List ℕ) → has_no_feed front ≡ true → has_no_feed words ≡ true → IsOneLine (front ++ (words ++ codes "\n"))
words_end front words before h = line-more front (words ++ codes "\n") before (line-end words h)

pub one_record_line : (bytes : List ℕ) (i : ℕ) (r : EntryRecord) → IsOneLine (record_line bytes i r)
one_record_line bytes i r =
    line-more (codes "arch ") _ refl
    (line-more (decimal i) _ (search (no_feeds, rules))
    (line-more (codes ": ") _ refl
    (words_end (fields_line (record_fields bytes r)) (line_end r.size r.align) (no_feed-line (record_fields bytes r)) (no_feed-end r.size r.align))))

pub one_image_line : (file : List ℕ) (cputype cpusubtype : ℕ) → IsOneLine (image_line file cputype cpusubtype)
one_image_line file cputype cpusubtype =
    line-more (escaped_text file) _ (search (no_feeds, rules))
    (words_end (codes ": not a fat file; one image for ") (cpu_text cputype cpusubtype) refl (no_feed-cpu cputype cpusubtype))

one_refused_line : (what words : List ℕ) → has_no_feed what ≡ true → has_no_feed words ≡ true → IsOneLine (what ++ (codes ": " ++ (words ++ codes "\n")))
one_refused_line what words before h = line-more what (codes ": " ++ (words ++ codes "\n")) before (words_end (codes ": ") words refl h)

one_name_end : (name : Result (List ℕ) Error) → has_no_feed (name_reason name) ≡ true → IsOneLine (member_name_end name)
one_name_end (Ok name) h = words_end (codes "name ") (escaped_text name) refl (search (no_feeds, rules))
one_name_end (Err e) h = words_end (codes "name refused: ") (words_of e) refl h

pub one_member_line : (reported : MemberReported Error) → has_no_feed (member_reason reported) ≡ true → IsOneLine (member_line reported)
one_member_line (a_member number m name) h = line-more (member_front number m) (member_name_end name) (no_feed-front number m) (one_name_end name h)
one_member_line (no_more_members e) h = one_refused_line (codes "refused") (words_of e) refl h

pub one_symbol_line : (reported : SymbolReported Error) → has_no_feed (symbol_reason reported) ≡ true → IsOneLine (symbol_line reported)
one_symbol_line (a_symbol place name) h =
    words_end (symbol_at_text place ++ codes ": ") (escaped_text name) (search (no_feeds, rules)) (search (no_feeds, rules))
one_symbol_line (of_no_member place name e) h =
    words_end (symbol_at_text place ++ (codes ", refused: " ++ (words_of e ++ codes ": "))) (escaped_text name) (search (no_feeds, h, rules))
    (search (no_feeds, rules))
one_symbol_line (of_no_name place e) h =
    line-more (symbol_at_text place) (codes ", name refused: " ++ (words_of e ++ codes "\n")) (search (no_feeds, rules))
    (words_end (codes ", name refused: ") (words_of e) refl h)
one_symbol_line (no_more_symbols e) h = one_refused_line (codes "symbol refused") (words_of e) refl h
