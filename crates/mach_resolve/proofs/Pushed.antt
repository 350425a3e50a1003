-- Edges in the order in which they are pushed.
use Rattle.std.proofs.Common.{◌≡◌, ◌∙◌, ◌<◌, ℕ, List, Bor, length, map, get_or, sym, ap, arith}
use Rattle.std.proofs.lemmas.List.{length-map, get_or-map}
use Rattle.mach_resolve.specs.Following.{edges_of}
use Rattle.mach_resolve.specs.ResolveViews.{input_view, edge_view}
use Rattle.mach_resolve.specs.declared.file.File.{File}

-- the edge to the library that a file re-exports at this place
pub edge_at : {A : Type 0} (f : File A) (j : ℕ) (r : Bor (List ℕ)) → j < length f.reexports.items → r ≡ get_or f.reexports.items j r
    → edge_view (record { from = f.name; to = r }) ≡ get_or (edges_of (input_view f)) j (edge_view (record { from = f.name; to = r }))
edge_at f j r inside is =
    let xs = f.reexports.items in
    let e = edge_view (record { from = f.name; to = r }) in
    let one : get_or (edges_of (input_view f)) j e ≡ record { from = f.name.now; to = get_or (map (λ t. t.now) xs) j r.now } =
    get_or-map (λ (to : List ℕ). record { from = f.name.now; to = to }) (map (λ t. t.now) xs) j r.now e (omega (arith, inside, length-map xs (λ t. t.now))) in
    let two : get_or (map (λ t. t.now) xs) j r.now ≡ r.now = get_or-map (λ (t : Bor (List ℕ)). t.now) xs j r r.now inside
    ∙ sym (ap (λ (t : Bor (List ℕ)). t.now) is) in
    sym (one ∙ ap (λ (to : List ℕ). record { from = f.name.now; to = to }) two)

pub edges_long : {A : Type 0} (f : File A) → length (edges_of (input_view f)) ≡ length f.reexports.items
edges_long f =
    length-map (map (λ t. t.now) f.reexports.items) (λ (to : List ℕ). record { from = f.name.now; to = to }) ∙ length-map f.reexports.items (λ t. t.now)
