-- What is shown of a file and of items in order.
use Rattle.std.proofs.Common.{◌≡◌, ◌++◌, ◌∷◌, ◌∙◌, [], ℕ, ◌≤◌, List, Option, Result, Ok, refl, sym, ap, subst, length, drop, arith}
use Rattle.std.proofs.lemmas.Bool.{false_from_ne_true, le-leb, lt-leb}
use Rattle.std.proofs.lemmas.Bool.Decides.{Decides-eqb}
use Rattle.std.proofs.lemmas.List.{append_assoc}
use Rattle.std.proofs.lemmas.Result.{IfOk-weaker}
use Rattle.std.proofs.lemmas.Slice.Eq.{starts_is}
use Rattle.std.specs.Prelude.{alloc_error, Bool, true, false, IfOk, None, ◌&&◌, ◌||◌, codes, nat_eq, nat_le}
use Rattle.std.specs.List.{starts_with}
use Rattle.std.specs.Io.KnownBytes.{Appends}
use Rattle.mach_base.proofs.Binds.{same_ok}
use Rattle.mach_base.proofs.Written.{Appends-both}
use Rattle.mach_base.specs.Answer.{ErrorMeets}
use Rattle.mach_base.specs.Fault.{Fault}
use Rattle.mach_base.specs.declared.error.Error.{Error}
use Rattle.mach_base.specs.declared.error.Error.TheVariants as errors
use Rattle.mach_base.specs.Number.{number, number_at}
use Rattle.mach_base.specs.declared.context.Endian.TheVariants.{Big}
use Rattle.mach_parts.specs.ArchForms.{arch_form_32}
use Rattle.mach_parts.specs.declared.fat.FatArch.{FatArch}
use Rattle.goblin_mach.specs.File.{HasFatMagic, IsMach}
use Rattle.goblin_mach.specs.declared.mach.Mach.TheVariants as files
use Rattle.goblin_mach.specs.Image.{ImageFault, LossyFault}
use Rattle.goblin_mach.specs.Inputs.{IsInput, begins_any_archive}
use Rattle.goblin_mach.specs.Items.{ContentView, ItemView, archive_member, content_bytes, no_member, whole_file}
use Rattle.goblin_mach.specs.OpenImage.{IsImage, IsLossyImage, commands_view}
use Rattle.goblin_mach.specs.declared.fat_file.table.FatTable.{FatTable}
use Rattle.goblin_mach.specs.View.{IsReported, ReportsFault}
use Rattle.goblin_mach.specs.declared.input.Input.TheVariants.{Fat}
use Rattle.goblin_mach.specs.declared.macho.MachO.{MachO}
use Rattle.mach_cli.specs.Cpus.{is_of_cpu, IsTaken}
use Rattle.mach_cli.specs.declared.cpu.Cpu.{Cpu}
use Rattle.mach_cli.specs.Labels.{LabelView, label_of}
use Rattle.mach_cli.specs.Refusals.{item_words, memory_words}
use Rattle.mach_cli.specs.Shown.{IsMemberOrFile, FaultOfItem, Prints, Shown, ShowsItem, ShowsItems, Way}
use Rattle.mach_cli.specs.Shown.{after, both, first_item, item_front, nothing, no_image, no_items, not_shown}
use Rattle.mach_cli.specs.TableEntries.{outside_at}
use Rattle.mach_cli.specs.declared.image_view.Outcome.{Outcome}

-- ---- texts that were written

-- three parts
pub three : (a b c d : Option (List ℕ)) (xs ys zs : List ℕ) → Appends a b xs → Appends b c ys → Appends c d zs → Appends a d (xs ++ (ys ++ zs))
three a b c d xs ys zs first second third = Appends-both a b d xs (ys ++ zs) first (Appends-both b c d ys zs second third)

-- ---- what a file is

-- an image is selected, or not, by its header
pub taken_of : {A : Type 0} (cpu : Cpu) (bytes : List ℕ) (m : MachO A) (taken : Bool) → IsLossyImage bytes 0 m
    → is_of_cpu cpu m.header.cputype m.header.cpusubtype ≡ taken → IsTaken cpu bytes taken
taken_of cpu bytes m taken opened is = record {
  ctx = opened.ctx;
  cs = commands_view m;
  opens = opened.opens;
  holds = (m.header, opened.fields.header, is);
}

begun_with : (bytes prefix : List ℕ) → starts_with nat_eq bytes prefix ≡ true → bytes ≡ prefix ++ drop (length prefix) bytes
begun_with bytes prefix starts = (starts_is Decides-eqb bytes prefix (starts_with nat_eq bytes prefix) refl).0 starts

number_of : (bytes : List ℕ) → 4 ≤ length bytes → number_at Big 4 bytes 0 ≡ Ok (number Big 4 bytes)
number_of bytes room =
    let inside : nat_le (length bytes) 0 ≡ false = lt-leb (length bytes) 0 (omega (arith, room)) in
    let whole : nat_le 4 (length bytes) ≡ true = le-leb 4 (length bytes) room in
    rw (inside, whole) refl

four : (a b c d : ℕ) (xs : List ℕ) → 4 ≤ length (a ∷ b ∷ c ∷ d ∷ xs)
four a b c d xs = let n : ℕ = length xs in omega arith

abbrev arch_front : List ℕ
arch_front = codes "!<arch>" ++ 0x0a ∷ []

abbrev thin_front : List ℕ
thin_front = codes "!<thin>" ++ 0x0a ∷ []

-- the magics of archives
arch_magic : (rest : List ℕ) → number_at Big 4 (arch_front ++ rest) 0 ≡ Ok 0x213c_6172
arch_magic rest = number_of (arch_front ++ rest) (four 0x21 0x3c 0x61 0x72 (codes "ch>" ++ 0x0a ∷ rest))

thin_magic : (rest : List ℕ) → number_at Big 4 (thin_front ++ rest) 0 ≡ Ok 0x213c_7468
thin_magic rest = number_of (thin_front ++ rest) (four 0x21 0x3c 0x74 0x68 (codes "in>" ++ 0x0a ∷ rest))

two_numbers : (m n : ℕ) (b : Result ℕ Fault) → b ≡ Ok m → b ≡ Ok n → m ≡ n
two_numbers m n b one two = same_ok (sym one ∙ two)

begins_not : (bytes prefix : List ℕ) (magic : ℕ) → ((rest : List ℕ) → number_at Big 4 (prefix ++ rest) 0 ≡ Ok magic) → (magic ≡ 0xcafe_babe → ⊥)
    → HasFatMagic bytes → starts_with nat_eq bytes prefix ≡ false
begins_not bytes prefix magic has other fat =
    false_from_ne_true (starts_with nat_eq bytes prefix)
    (λ starts. other (two_numbers magic 0xcafe_babe (number_at Big 4 bytes 0)
    (ap (λ (bs : List ℕ). number_at Big 4 bs 0) (begun_with bytes prefix starts) ∙ has (drop (length prefix) bytes)) fat))

-- a fat file is no archive
no_archive : (bytes : List ℕ) → HasFatMagic bytes → begins_any_archive bytes ≡ false
no_archive bytes fat =
    let arch : starts_with nat_eq bytes arch_front ≡ false = begins_not bytes arch_front 0x213c_6172 arch_magic (λ is. omega (arith, is)) fat in
    let thin : starts_with nat_eq bytes thin_front ≡ false = begins_not bytes thin_front 0x213c_7468 thin_magic (λ is. omega (arith, is)) fat in
    ap (λ (is : Bool). is || starts_with nat_eq bytes thin_front) arch ∙ thin

pub fat_input : {A : Type 0} (bytes : List ℕ) (m : FatTable FatArch A) → IsMach IsImage bytes (files.Fat m) → IsInput bytes (Fat m)
fat_input bytes m is = (
  record {
    no_archive = no_archive bytes is.magic;
    no_fat_64 = λ wide. (let wrong = two_numbers 0xcafe_babe 0xcafe_babf (number_at Big 4 bytes 0) is.magic wide in omega (arith, wrong));
  },
  is,
)

-- ---- items

-- out of memory has the same words for all items
pub memory_words_of : (content : ContentView) → memory_words ≡ item_words (Ok content) (errors.Memory alloc_error)
memory_words_of (whole_file bytes) = refl
memory_words_of (archive_member m) = refl
memory_words_of no_member = refl

-- a reported error is that of a fault
pub fault_met : (P : Fault → Type 0) (e : Error) → IsReported e → ErrorMeets P e → (f : Fault) × P f
fault_met P (errors.Malformed msg) reported holds = (_, holds)
fault_met P (errors.BadMagic magic) reported holds = (_, holds)
fault_met P (errors.Scroll e) reported holds = (_, holds)
fault_met P (errors.BufferTooShort count what) reported holds = (_, holds)
fault_met P (errors.Memory e) reported holds = absurd reported

-- an item that isn't shown, by the words of its refusal
pub refused_item : (w : Way) (left : ℕ) (label : LabelView) (content : Result ContentView Fault) (e : Error) (words : List ℕ)
    → ErrorMeets (FaultOfItem ImageFault content) e → (w.is_lossy ≡ true → IsReported e → (f : Fault) × FaultOfItem LossyFault content f)
    → words ≡ item_words content e → ShowsItem w left label None content (not_shown w label words left)
refused_item w left label content e words occurs more is =
    subst (λ (ws : List ℕ). ShowsItem w left label None content (not_shown w label ws left)) (sym is) (no_image content e occurs more)

-- a fault of opening is one of the item
pub item_fault : (InMode : List ℕ → ℕ → Fault → Type 0) (content : ContentView) → IsMemberOrFile content → (f : Fault)
    → InMode (content_bytes content) 0 f → FaultOfItem InMode (Ok content) f
item_fault InMode (whole_file bytes) may f fault = fault
item_fault InMode (archive_member m) may f fault = fault
item_fault InMode no_member may f fault = absurd may

-- an error that reports a fault that holds
pub reports_of : (P : Fault → Type 0) (e : Error) → IsReported e → ErrorMeets P e → ReportsFault P e
reports_of P (errors.Malformed msg) reported holds = holds
reports_of P (errors.BadMagic magic) reported holds = holds
reports_of P (errors.Scroll e) reported holds = holds
reports_of P (errors.BufferTooShort count what) reported holds = holds
reports_of P (errors.Memory e) reported holds = absurd reported

and_three : (a b c : Bool) → a && (b && c) ≡ (a && b) && c
and_three true b c = refl
and_three false b c = refl

abbrev shown_with : (text message : List ℕ) (whole : Bool) (left : ℕ) → Shown
shown_with text message whole left = record { text = text; message = message; whole = whole; left = left }

-- three after one another
both_three : (a b c : Shown) → both a (both b c) ≡ both (both a b) c
both_three a b c =
    ap (λ (text : List ℕ). shown_with text (a.message ++ (b.message ++ c.message)) (a.whole && (b.whole && c.whole)) c.left)
    (sym (append_assoc a.text b.text c.text))
    ∙ ap (λ (message : List ℕ). shown_with ((a.text ++ b.text) ++ c.text) message (a.whole && (b.whole && c.whole)) c.left)
    (sym (append_assoc a.message b.message c.message))
    ∙ ap (λ (whole : Bool). shown_with ((a.text ++ b.text) ++ c.text) ((a.message ++ b.message) ++ c.message) whole c.left)
    (and_three a.whole b.whole c.whole)

module _ (w : Way) (bytes : List ℕ) (limit : ℕ) (all : List ItemView) where
  -- What is shown of those left completes what is shown of all.
  abbrev pub Follows : (is_first : Bool) → (left : ℕ) → List ItemView → (before : Shown) → Type 0
  Follows is_first left rest before =
      (later : Shown) → ShowsItems w bytes is_first left rest later → ShowsItems w bytes true limit all (both before later)

  pub item_shown : (is_first : Bool) (left : ℕ) (here : List ItemView) (x : ItemView) (rest : List ItemView) (before shown : Shown) → here ≡ x ∷ rest
      → Follows is_first left here before
      → ShowsItem w left (label_of x.place x.content) (outside_at arch_form_32 bytes x.place.entry) x.content shown
      → Follows false shown.left rest (both before (after (item_front w.texts w.file is_first (label_of x.place x.content)) shown))
  item_shown is_first left here x rest before shown is follows one later more =
      let last = after (item_front w.texts w.file is_first (label_of x.place x.content)) shown in
      subst (ShowsItems w bytes true limit all) (both_three before last later)
      (follows (both last later) (subst (λ (xs : List ItemView). ShowsItems w bytes is_first left xs (both last later)) (sym is)
      (first_item is_first left x rest shown later one more)))

  pub items_shown : (is_first : Bool) (left : ℕ) (here : List ItemView) (before : Shown) → here ≡ [] → Follows is_first left here before
      → ShowsItems w bytes true limit all (both before (nothing left))
  items_shown is_first left here before is follows =
      follows (nothing left) (subst (λ (xs : List ItemView). ShowsItems w bytes is_first left xs (nothing left)) (sym is)
      (no_items is_first left))

-- ---- what is printed

module _ {E : Type 0} (r : Result Outcome E) (out_old out_new err_old err_new : Option (List ℕ)) where
  -- What is shown in one way is shown in another.
  pub prints_as : (P Q : Shown → Type 0) → ((shown : Shown) → P shown → Q shown) → IfOk r (λ outcome. Prints P outcome out_old out_new err_old err_new)
      → IfOk r (λ outcome. Prints Q outcome out_old out_new err_old err_new)
  prints_as P Q weaker known =
      IfOk-weaker r _ _
      (λ outcome p. record { shown = p.shown; shows = weaker p.shown p.shows; whole = p.whole; left = p.left; text = p.text; message = p.message })
      known

  pub prints_one : (Q : Shown → Type 0) (one : Shown) → Q one → IfOk r (λ outcome. Prints (λ shown. shown ≡ one) outcome out_old out_new err_old err_new)
      → IfOk r (λ outcome. Prints Q outcome out_old out_new err_old err_new)
  prints_one Q one holds known = prints_as (λ shown. shown ≡ one) Q (λ shown is. subst Q (sym is) holds) known
