-- The next item of a list, written in a form.
use Rattle.std.proofs.Common.{◌≡◌, ◌∙◌, [], ◌∷◌, ℕ, List, Option, Some, None, Result, Ok, Err, map, refl, ap}
use Rattle.std.specs.Prelude.{MatchOption}
use Rattle.mach_base.specs.Fault.{Fault}
use Rattle.mach_base.specs.Items.{read_as}
use Rattle.mach_base.specs.declared.error.Error.{Error}
use Rattle.mach_cli.specs.Fields.{FieldView}
use Rattle.mach_cli.specs.Listings.{reported_by}

reported_read : {I : Type 0} (fields : I → List FieldView) (text : List FieldView → List ℕ) (item : Result I Error)
    → reported_by text (read_as fields item) ≡ read_as (λ x. text (fields x)) item
reported_read fields text (Ok x) = refl
reported_read fields text (Err e) = refl

pub formed_next : {I : Type 0} (fields : I → List FieldView) (text : List FieldView → List ℕ) (old new : List (Result (List FieldView) Fault))
    (result : Option (Result I Error)) → MatchOption result (old ≡ []) (λ item. old ≡ read_as fields item ∷ new)
    → MatchOption result (map (reported_by text) old ≡ [])
    (λ item. map (reported_by text) old ≡ read_as (λ x. text (fields x)) item ∷ map (reported_by text) new)
formed_next fields text old new None none = ap (map (reported_by text)) none
formed_next fields text old new (Some item) some =
    ap (map (reported_by text)) some ∙ ap (λ first. first ∷ map (reported_by text) new) (reported_read fields text item)
