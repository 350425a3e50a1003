-- Files that are opened and collected.
use Rattle.std.proofs.Common.{◌≡◌, ◌∙◌, ◌+◌, ◌<◌, ℕ, Bool, true, false, ◌||◌, List, [], ◌∷◌, ◌++◌, Some, Bor, length, map, drop, get_or, refl, sym, ap}
use Rattle.std.proofs.Common.{subst, arith}
use Rattle.std.specs.Prelude.{bytes_eq, if◌then◌else◌, slice_get}
use Rattle.std.specs.List.{list_any}
use Rattle.std.proofs.lemmas.List.{append_assoc, map_push, length-map, at_drop_more, get_or-map}
use Rattle.std.proofs.lemmas.Option.{slice_get-get_or}
use Rattle.mach_base.specs.Fault.{Fault}
use Rattle.goblin_mach.specs.Libraries.{LibraryView}
use Rattle.mach_resolve.specs.Opened.{given_view}
use Rattle.mach_resolve.specs.declared.inputs.Given as declared
use Rattle.mach_resolve.specs.Note.{Note, given_before}
use Rattle.mach_resolve.specs.Given.{GivenFile, Adds, counts, again, is_named, reexported, NumberedFault, OpenFault}
use Rattle.mach_resolve.specs.Given.{LibraryFault, FaultFor, of_program, of_library}
use Rattle.mach_resolve.specs.ResolveViews.{input_view, note_view_of}
use Rattle.mach_resolve.specs.declared.note.Note as noted
use Rattle.mach_resolve.specs.declared.file.File.{File}

list_any-map : {X Y : Type 0} (p : X → Bool) (h : Y → X) (ys : List Y) → list_any p (map h ys) ≡ list_any (λ y. p (h y)) ys
list_any-map p h [] = refl
list_any-map p h (y ∷ ys) = ap (λ (b : Bool). p (h y) || b) (list_any-map p h ys)

-- the names that are kept are the names of the files
pub named_among : {A : Type 0} (name : List ℕ) (items : List (File A)) (keys : List (Bor (List ℕ))) → map (λ f. f.name.now) items ≡ map (λ k. k.now) keys
    → list_any (λ k. bytes_eq name k.now) keys ≡ is_named (map input_view items) name
named_among name items keys named =
    sym (list_any-map (bytes_eq name) (λ k. k.now) keys)
    ∙ (ap (list_any (bytes_eq name)) (sym named)
    ∙ (list_any-map (bytes_eq name) (λ f. f.name.now) items
    ∙ sym (list_any-map (λ f. bytes_eq name f.name) input_view items)))

pub names_more : {A : Type 0} (items more : List (File A)) (keys others : List (Bor (List ℕ))) (f : File A) → more ≡ items ++ f ∷ []
    → others ≡ (if false then keys else keys ++ f.name ∷ []) → map (λ f. f.name.now) items ≡ map (λ k. k.now) keys
    → map (λ f. f.name.now) more ≡ map (λ k. k.now) others
names_more items more keys others f pushed inserted named =
    ap (map (λ f. f.name.now)) pushed ∙ (map_push (λ f. f.name.now) items f
    ∙ (ap (λ (xs : List (List ℕ)). xs ++ f.name.now ∷ []) named
    ∙ (sym (map_push (λ k. k.now) keys f.name) ∙ sym (ap (map (λ k. k.now)) inserted))))

pub adds_more : {A : Type 0} (items more : List (File A)) (notes : List Note) (f : File A) → more ≡ items ++ f ∷ []
    → is_named (map input_view items) f.name.now ≡ false
    → Adds (record { files = map input_view items; notes = notes }) (input_view f) (record { files = map input_view more; notes = notes })
adds_more items more notes f pushed new =
    subst (λ (fs : List _). Adds (record { files = map input_view items; notes = notes }) (input_view f) (record { files = fs; notes = notes }))
    (sym (ap (map input_view) pushed ∙ map_push input_view items f)) (counts new)

pub adds_again : {A : Type 0} (items : List (File A)) (notes more : List Note) (f : File A) → more ≡ notes ++ given_before f.number f.name.now ∷ []
    → is_named (map input_view items) f.name.now ≡ true
    → Adds (record { files = map input_view items; notes = notes }) (input_view f) (record { files = map input_view items; notes = more })
adds_again items notes more f pushed there =
    subst (λ (ns : List Note). Adds (record { files = map input_view items; notes = notes }) (input_view f)
    (record { files = map input_view items; notes = ns }))
    (sym pushed) (again there)

-- a file that is used
pub adds_new : {A : Type 0} (items more : List (File A)) (notes kept : List noted.Note) (f : File A) → more ≡ items ++ f ∷ [] → kept ≡ notes
    → is_named (map input_view items) f.name.now ≡ false
    → Adds (record { files = map input_view items; notes = map note_view_of notes }) (input_view f)
    (record { files = map input_view more; notes = map note_view_of kept })
adds_new items more notes kept f pushed same new =
    subst (λ (ns : List noted.Note). Adds (record { files = map input_view items; notes = map note_view_of notes }) (input_view f)
    (record { files = map input_view more; notes = map note_view_of ns }))
    (sym same) (adds_more items more (map note_view_of notes) f pushed new)

-- a file whose name is there already, which is noted
pub adds_known : {A : Type 0} (items kept : List (File A)) (notes more : List noted.Note) (n : noted.Note) (f : File A) → kept ≡ items → more ≡ notes ++ n ∷ []
    → note_view_of n ≡ given_before f.number f.name.now → is_named (map input_view items) f.name.now ≡ true
    → Adds (record { files = map input_view items; notes = map note_view_of notes }) (input_view f)
    (record { files = map input_view kept; notes = map note_view_of more })
adds_known items kept notes more n f same pushed is there =
    subst (λ (fs : List (File _)). Adds (record { files = map input_view items; notes = map note_view_of notes }) (input_view f)
    (record { files = map input_view fs; notes = map note_view_of more }))
    (sym same)
    (adds_again items (map note_view_of notes) (map note_view_of more) f
    (ap (map note_view_of) pushed ∙ (map_push note_view_of notes n ∙ ap (λ (x : Note). map note_view_of notes ++ x ∷ []) is)) there)

-- one more library was visited
pub reexported_more : (all : List (List ℕ)) (names pushed : List (Bor (List ℕ))) (l : LibraryView) (ls left : List LibraryView) (name : Bor (List ℕ))
    → all ≡ map (λ t. t.now) names ++ reexported left → left ≡ l ∷ ls → l.attributes.is_reexport ≡ true → name.now ≡ l.name → pushed ≡ names ++ name ∷ []
    → all ≡ map (λ t. t.now) pushed ++ reexported ls
reexported_more all names pushed l ls left name so_far is on same more =
    let texts = map (λ (t : Bor (List ℕ)). t.now) names in
    let next : reexported left ≡ l.name ∷ reexported ls =
    ap reexported is ∙ ap (λ (b : Bool). if b then l.name ∷ reexported ls else reexported ls) on in
    let two : texts ++ (l.name ∷ reexported ls) ≡ (texts ++ l.name ∷ []) ++ reexported ls = sym (append_assoc texts (l.name ∷ []) (reexported ls)) in
    let three : texts ++ l.name ∷ [] ≡ map (λ t. t.now) pushed =
    ap (λ (x : List ℕ). texts ++ x ∷ []) (sym same) ∙ (sym (map_push (λ t. t.now) names name) ∙ sym (ap (map (λ t. t.now)) more)) in
    so_far ∙ (ap (λ (xs : List (List ℕ)). texts ++ xs) next ∙ (two ∙ ap (λ (xs : List (List ℕ)). xs ++ reexported ls) three))

pub reexported_same : (all front : List (List ℕ)) (l : LibraryView) (ls left : List LibraryView) → all ≡ front ++ reexported left → left ≡ l ∷ ls
    → l.attributes.is_reexport ≡ false → all ≡ front ++ reexported ls
reexported_same all front l ls left so_far is off =
    so_far ∙ ap (λ (xs : List (List ℕ)). front ++ xs) (ap reexported is ∙ ap (λ (b : Bool). if b then l.name ∷ reexported ls else reexported ls) off)

pub absent_more : (all : List Bool) (front pushed : List Bool) (l : LibraryView) (ls left : List LibraryView) (b : Bool)
    → all ≡ front ++ map (λ l. l.attributes.is_weak) left → left ≡ l ∷ ls → b ≡ l.attributes.is_weak → pushed ≡ front ++ b ∷ []
    → all ≡ pushed ++ map (λ l. l.attributes.is_weak) ls
absent_more all front pushed l ls left b so_far is same more =
    let rest = map (λ (l : LibraryView). l.attributes.is_weak) ls in
    so_far ∙ (ap (λ (xs : List LibraryView). front ++ map (λ l. l.attributes.is_weak) xs) is
    ∙ (sym (append_assoc front (l.attributes.is_weak ∷ []) rest)
    ∙ ap (λ (xs : List Bool). xs ++ rest) (ap (λ (x : Bool). front ++ x ∷ []) (sym same) ∙ sym more)))

-- a fault of the program
pub program_fault : (cputype : ℕ) (p : GivenFile) (ls : List GivenFile) (n : ℕ) (f : Fault) → OpenFault 0 p n f → FaultFor cputype p ls n f
program_fault cputype p ls n f occurs = subst (λ (k : ℕ). FaultFor cputype p ls k f) (sym occurs.0) (of_program occurs.1)

-- a fault of a library, by its place among them
pub library_fault : (cputype : ℕ) (p : GivenFile) (ls : List declared.Given) (i : ℕ) (d : declared.Given) → i < length ls → (n : ℕ) (f : Fault)
    → NumberedFault (i + 1) (LibraryFault cputype (given_view (get_or ls i d))) n f → FaultFor cputype p (map given_view ls) n f
library_fault cputype p ls i d inside n f occurs =
    let xs = map given_view ls in
    let at : slice_get xs i ≡ Some (get_or xs i (given_view d)) = slice_get-get_or xs i (given_view d) (omega (arith, length-map ls given_view)) in
    subst (λ (k : ℕ). FaultFor cputype p xs k f) (sym occurs.0)
    (of_library i (given_view (get_or ls i d)) (at ∙ ap Some (get_or-map given_view ls i d (given_view d) inside)) occurs.1)

pub given_at : (ls : List declared.Given) (i : ℕ) (d : declared.Given) → i < length ls
    → drop i (map given_view ls) ≡ given_view (get_or ls i d) ∷ drop (i + 1) (map given_view ls)
given_at ls i d inside =
    at_drop_more (λ xs. xs) (map given_view ls) i (given_view d) (omega (arith, length-map ls given_view))
    ∙ ap (λ x. x ∷ drop (i + 1) (map given_view ls)) (get_or-map given_view ls i d (given_view d) inside)
