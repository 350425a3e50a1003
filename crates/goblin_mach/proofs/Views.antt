-- The items of a view.
use Rattle.std.specs.Borrow.{Bor}
use Rattle.std.specs.Prelude.{IfOk}
use Rattle.std.proofs.Common.{◌≡◌, ℕ, ◌+◌, ◌-◌, ◌<◌, ◌≤◌, List, [], ◌∷◌, ◌++◌, Result, Ok, inl, inr, refl, sym, subst, append_assoc, arith}
use Rattle.std.proofs.lemmas.List.{append-nil}
use Rattle.mach_base.specs.declared.error.Error.{Error}
use Rattle.mach_base.specs.declared.error.Error.TheVariants as errors
use Rattle.mach_base.specs.Answer.{ErrorMeets}
use Rattle.mach_base.specs.Context.{pointer_size}
use Rattle.mach_base.specs.Fault.{Fault, malformed, bad_magic, too_short, fault_of_scroll}
use Rattle.mach_base.specs.Text.{texts}
use Rattle.mach_dyld.specs.Imports.{Import}
use Rattle.mach_dyld.specs.Trie as trie
use Rattle.mach_base.specs.Items.{items_from}
use Rattle.mach_base.proofs.ItemLists.{items_from-first}
use Rattle.goblin_mach.specs.FatEntry.{FatEntry, archive, image, IsEntry}
use Rattle.goblin_mach.specs.declared.fat_file.entry.SingleArch.TheVariants as entries
use Rattle.goblin_mach.specs.declared.view.LinkView.TheVariants as views
use Rattle.goblin_mach.specs.Subjects.{ListsImageImports, ListsImageExports}
use Rattle.goblin_mach.specs.OpenImage.{IsImage, commands_view, trie_view, binds_view, ctx_view, segments_view}
use Rattle.goblin_mach.specs.View.{LinksImage, LinksFault, ItemFault, of_links, FaultHeld, IsReported, ReportsFault, IsViewItem, AreViewItems}
use Rattle.goblin_mach.specs.declared.view.LinkView.{LinkView}
use Rattle.goblin_mach.specs.declared.macho.MachO.{MachO}
use Rattle.goblin_mach.proofs.ImageFacts.{exports_are, exports_fail, imports_are, imports_fail}

-- an error for a fault that occurs is an item's error
pub reports : (P Q : Fault → Type 0) (e : Error) → IsReported e → ((f : Fault) → P f → Q f) → ErrorMeets P e → ReportsFault Q e
reports P Q (errors.Malformed m) t to h = to malformed h
reports P Q (errors.BadMagic n) t to h = to (bad_magic n) h
reports P Q (errors.Scroll e) t to h = to (fault_of_scroll e) h
reports P Q (errors.BufferTooShort n m) t to h = to (too_short n m.now) h
reports P Q (errors.Memory e) t to h = absurd t

-- the lists that an image holds are those that it links
pub image-links : {A : Type 0} (bytes : List ℕ) (m : MachO A) (list : List trie.Entry) (imports : List Import) → IsImage bytes 0 m
    → ListsImageExports (trie_view m) (texts m.libs.items) list
    → ListsImageImports (binds_view m) (pointer_size (ctx_view m).container) (texts m.libs.items) (segments_view m) imports
    → LinksImage bytes list imports
image-links bytes m list imports p exported imported =
    record {
      opens = (p.ctx, commands_view m, p.opens);
      exports_are = ((exports_are m).strict bytes 0 p list).1 exported;
      imports_are = ((imports_are m).strict bytes 0 p imports).1 imported;
    }

-- a fault in one of them is a fault of the bytes
pub image-fails : {A : Type 0} (bytes : List ℕ) (m : MachO A) (f : Fault) → IsImage bytes 0 m → FaultHeld m f → LinksFault bytes f
image-fails bytes m f p fault =
    record {
      opens = (p.ctx, commands_view m, p.opens);
      fault = elim fault [ inl e ↦ inl (((exports_fail m).strict bytes 0 p f).1 e) | inr i ↦ inr (((imports_fail m).strict bytes 0 p f).1 i) ];
    }

pub item_fault : {A : Type 0} (bytes : List ℕ) (m : MachO A) (f : Fault) → IsImage bytes 0 m → FaultHeld m f → ItemFault (Ok (image bytes)) f
item_fault bytes m f p fault = of_links bytes f refl (image-fails bytes m f p fault)

-- an archive's bytes are its item
pub archive_item : (A B : Type 0) (bytes : Bor (List ℕ)) (e : FatEntry) → IsEntry {A = A} e (entries.Archive bytes)
    → IsViewItem {A = B} (Ok e) (Ok (views.Archive bytes))
archive_item A B bytes (archive slice) is = (archive slice, refl, is)
archive_item A B bytes (image slice) is = absurd is

-- an image's item is that of the entry
pub entry_of_image : {A B : Type 0} (r : Result (Result (LinkView B) Error) Error) (m : MachO A) (e : FatEntry) → IsEntry e (entries.MachO m)
    → ((bytes : List ℕ) → IsImage bytes 0 m → IfOk r (IsViewItem (Ok (image bytes)))) → IfOk r (IsViewItem (Ok e))
entry_of_image r m (archive slice) is item = absurd is
entry_of_image r m (image slice) is item = item slice is

-- one more item, with those that are left after it
pub one_more_item : {A : Type 0} (entry : ℕ → Result FatEntry Fault) (i n : ℕ) (items : List (Result (LinkView A) Error))
    (x : Result (LinkView A) Error) (all : List (Result FatEntry Fault)) → i < n → IsViewItem (entry i) x
    → ((rest : List (Result (LinkView A) Error)) → AreViewItems (items_from entry i (n - i)) rest → AreViewItems all (items ++ rest))
    → (rest : List (Result (LinkView A) Error)) → AreViewItems (items_from entry (i + 1) (n - (i + 1))) rest → AreViewItems all ((items ++ x ∷ []) ++ rest)
one_more_item entry i n items x all inside is go rest later =
    subst (AreViewItems all) (sym (append_assoc items (x ∷ []) rest))
    (go (x ∷ rest) (subst (λ (es : List (Result FatEntry Fault)). AreViewItems es (x ∷ rest)) (sym (items_from-first entry i n inside)) (is, later)))

-- if none are left, all are there
pub all_items : {A : Type 0} (entry : ℕ → Result FatEntry Fault) (i n : ℕ) (items : List (Result (LinkView A) Error)) (all : List (Result FatEntry Fault))
    → n ≤ i
    → ((rest : List (Result (LinkView A) Error)) → AreViewItems (items_from entry i (n - i)) rest → AreViewItems all (items ++ rest)) → AreViewItems all items
all_items {A} entry i n items all past go =
    let none : n - i ≡ 0 = omega (arith, past) in
    let no_items : AreViewItems {A = A} (items_from entry i (n - i)) [] = subst (λ (k : ℕ). AreViewItems {A = A} (items_from entry i k) []) (sym none) tt in
    subst (AreViewItems all) (append-nil items) (go [] no_items)
