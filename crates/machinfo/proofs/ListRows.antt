-- The rows of a list: its next one, and all by the image that was opened.
use Rattle.std.proofs.Common.{◌≡◌, ◌∙◌, [], ◌∷◌, ℕ, List, Option, Some, None, Result, Ok, Err, ap, refl}
use Rattle.std.specs.Prelude.{IfOk, MatchOption}
use Rattle.mach_base.specs.Fault.{Fault}
use Rattle.mach_base.specs.Items.{read_as}
use Rattle.mach_base.specs.declared.error.Error.{Error}
use Rattle.mach_dyld.proofs.LookUps.{ok_in}
use Rattle.mach_cli.specs.Fields.{FieldView}
use Rattle.mach_cli.specs.declared.image_view.Outcome.{Outcome}
use Rattle.machinfo.specs.Lists.{HasRows, OfRows}
use Rattle.machinfo.specs.RowFields.{fields_read}
use Rattle.machinfo.specs.declared.word.Word.{Word}

fields_of_read : {I X : Type 0} (view : I → X) (fields : X → List FieldView) (item : Result I Error) (others : List (Result X Fault))
    → fields_read fields (read_as view item ∷ others) ≡ read_as (λ x. fields (view x)) item ∷ fields_read fields others
fields_of_read view fields (Ok x) others = refl
fields_of_read view fields (Err e) others = refl

pub next_fields : {I X : Type 0} (view : I → X) (fields : X → List FieldView) (old new : List (Result X Fault)) (result : Option (Result I Error))
    → MatchOption result ((old ≡ []) × (new ≡ [])) (λ item. old ≡ read_as view item ∷ new)
    → MatchOption result (fields_read fields old ≡ []) (λ item. fields_read fields old ≡ read_as (λ x. fields (view x)) item ∷ fields_read fields new)
next_fields view fields old new None none = ap (fields_read fields) none.0
next_fields view fields old new (Some item) some = ap (fields_read fields) some ∙ fields_of_read view fields item new

-- what is so of the rows of a list is so of the list of the image
pub of_rows : {E : Type 0} (word : Word) (bytes : List ℕ) (rows : List (Result (List FieldView) Fault)) (past : ℕ)
    (Says : List (Result (List FieldView) Fault) → ℕ → List ℕ → Outcome → Type 0) (Written : List ℕ → Type 0) (result : Result Outcome E)
    → HasRows word bytes 0 rows past → IfOk result (λ outcome. (text : List ℕ) × Says rows past text outcome × Written text)
    → IfOk result (λ outcome. (text : List ℕ) × OfRows word bytes (λ r p. Says r p text outcome) × Written text)
of_rows word bytes rows past Says Written result has so =
    ok_in result _ _ (λ outcome it. (it.0, record { rows = rows; past = past; has_rows = has; says = it.1 }, it.2)) so
