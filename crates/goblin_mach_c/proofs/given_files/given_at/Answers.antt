use Rattle.std.proofs.Common.{◌≡◌, ◌∙◌, ℕ, Bool, true, false, List, Result, Ok, Err, sym, ap}
use Rattle.std.specs.Prelude.{if◌then◌else◌}
use Rattle.std.specs.Str.{is_utf8}
use Rattle.std.proofs.lemmas.Bool.{false_from_ne_true}
use Rattle.std.proofs.lemmas.Str.{IsUtf8-from_is_utf8, is_utf8-from_IsUtf8}
use Rattle.mach_base.specs.Answer.{◌>>=◌}
use Rattle.mach_base.specs.Fault.{Fault, malformed}
use Rattle.mach_base.specs.Number.{slice_at}
use Rattle.goblin_mach_c.specs.GivenFiles.{given_at, given_file, path_of}
use Rattle.goblin_mach_c.specs.declared.given_files.gm_given_file.{gm_given_file}
use Rattle.goblin_mach_c.proofs.given_files.given_at.Goals as goal

-- both parts are in the bytes
with_path : (bytes : List ℕ) (p : gm_given_file) (own path : List ℕ) → slice_at p.len bytes p.offset ≡ Ok own → slice_at p.path_len bytes p.path ≡ Ok path
    → given_at bytes p ≡ (path_of path >>= λ text. Ok (given_file own text))
with_path bytes p own path has_own has_path =
    ap (λ (r : Result (List ℕ) Fault). r >>= λ o. slice_at p.path_len bytes p.path >>= λ q. path_of q >>= λ text. Ok (given_file o text)) has_own
    ∙ ap (λ (r : Result (List ℕ) Fault). r >>= λ q. path_of q >>= λ text. Ok (given_file own text)) has_path

tried : (own path : List ℕ) (b : Bool) → is_utf8 path ≡ b
    → (path_of path >>= λ text. Ok (given_file own text)) ≡ (if b then Ok (given_file own path) else Err malformed)
tried own path true is = ap (λ (b : Bool). (if b then Ok path else Err malformed) >>= λ text. Ok (given_file own text)) is
tried own path false is = ap (λ (b : Bool). (if b then Ok path else Err malformed) >>= λ text. Ok (given_file own text)) is

pub returns-in-Ok : goal.returns-in-Ok
returns-in-Ok c =
    let own = c.in_ok-own.own.now in
    let path = c.in_ok-path.path.now in
    with_path c.args.bytes.now c.args.file.now own path c.in_ok-own.ensures c.in_ok-path.ensures
    ∙ tried own path true (is_utf8-from_IsUtf8 path c.in-Ok.ensures.cases.1)
    ∙ ap (λ (text : List ℕ). Ok (given_file own text)) (sym c.in-Ok.ensures.cases.0)

pub returns-in-Err : goal.returns-in-Err
returns-in-Err c =
    let own = c.in_ok-own.own.now in
    let path = c.in_ok-path.path.now in
    with_path c.args.bytes.now c.args.file.now own path c.in_ok-own.ensures c.in_ok-path.ensures
    ∙ tried own path false (false_from_ne_true (is_utf8 path) (λ e. c.in-Err.ensures.cases.0 (IsUtf8-from_is_utf8 path e)))
