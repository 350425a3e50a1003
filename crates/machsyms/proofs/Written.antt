-- The lines and the objects of a table.
use Rattle.std.proofs.Common.{◌≡◌, ◌++◌, ◌∷◌, ◌∙◌, [], ℕ, List, Option, Bool, Result, Ok, Err, IfOk, refl, sym, ap, subst, take, arith}
use Rattle.std.proofs.lemmas.Bool.{le-ltb}
use Rattle.std.proofs.lemmas.List.{take_all}
use Rattle.std.specs.Prelude.{◌==◌, ◌&&◌, ◌-◌, not, true, false, nat_lt}
use Rattle.std.specs.Io.KnownBytes.{Appends}
use Rattle.std.specs.List.{list_all}
use Rattle.std.specs.Result.{is_ok}
use Rattle.mach_base.proofs.Written.{Appends-both, Appends-none}
use Rattle.mach_base.specs.Fault.{Fault}
use Rattle.mach_cli.proofs.Arrays.{one_list}
use Rattle.mach_cli.specs.JsonArrays.{lists_end_past, AreArrayMembers, NamedRows, WritesMember}
use Rattle.mach_cli.specs.Listings.{cut_line, past_line, WritesFirstLines}
use Rattle.mach_cli.specs.declared.listing.ListProgress.{ListProgress}
use Rattle.machsyms.specs.JsonSymbols.{WritesSymbolMembers}

-- what holds of a value
pub ok_more : {X E : Type 0} (P Q : X → Type 0) (r : Result X E) → ((x : X) → P x → Q x) → IfOk r P → IfOk r Q
ok_more P Q (Ok x) more p = more x p
ok_more P Q (Err e) more p = p

-- there are no lines of no symbols
pub no_symbols : (word name : List ℕ) (limit left : ℕ) (known : Option (List ℕ)) → WritesFirstLines word limit left [] name 0 true left known known
no_symbols word name limit left known =
    let over : nat_lt left 0 ≡ false = le-ltb left 0 (omega arith) in
    let none : take left [] ≡ [] = take_all left [] (omega arith) in
    let as_left : left ≡ left - 0 = omega arith in
    let all : List (Result (List ℕ) Fault) → Bool = λ rows. list_all is_ok rows in
    record {
      text = [];
      lines = record {
        lines = [];
        are_lines = record { answers = []; are_items = sym none; is_text = refl };
        is_text = ap (λ (b : Bool). cut_line limit b ++ past_line name 0) (sym over);
        is_whole = ap (λ rows. (all rows && not false) && (0 == 0)) (sym none)
            ∙ ap (λ (b : Bool). (all (take left []) && not b) && (0 == 0)) (sym over);
        is_rest = as_left;
      };
      written = Appends-none known;
    }

-- the members of one list, and the number of items past the end
pub list_and_past : (left : ℕ) (l : NamedRows) (past : ℕ) (t : ListProgress) (whole : Bool) (rest : ℕ) (old middle new : Option (List ℕ))
    → WritesMember l.name left l.rows old middle t → (whole ≡ ((t.whole && not t.more) && (past == 0))) × (rest ≡ t.left)
    × Appends middle new (lists_end_past t.more past) → WritesSymbolMembers left (l ∷ []) past whole rest old new
list_and_past left l past t whole rest old middle new wrote end =
    let members = one_list left l t old middle wrote in
    record {
      text = members.text ++ lists_end_past t.more past;
      members = record {
        front = members.text;
        readable = t.whole;
        more = t.more;
        members = subst (λ (n : ℕ). AreArrayMembers left (l ∷ []) members.text t.whole t.more n) (sym end.1) members.members;
        is_text = refl;
        is_whole = end.0;
      };
      written = Appends-both old middle new members.text (lists_end_past t.more past) members.written end.2;
    }
