-- There is no fault exactly when everything is as signed.
use Rattle.std.proofs.Common.{◌≡◌, ◌≤◌, ◌<◌, ◌⊎◌, ℕ, Bool, true, false, cond, List, [], ◌∷◌, ◌++◌, map, Option, Some, None, Result, Ok, Err, IsOk, refl}
use Rattle.std.proofs.Common.{sym, ap, subst, ◌∙◌, inl, inr, arith}
use Rattle.std.specs.Prelude.{nat_lt, ◌==◌, if◌then◌else◌, IsTrue, flat_map, option_to_list}
use Rattle.std.proofs.lemmas.Bool.{ltb-false, le-ltb, eq-eqb}
use Rattle.mach_base.specs.Among.{IsAmong}
use Rattle.mach_base.specs.Fault.{Fault}
use Rattle.mach_signature.specs.AsSigned.{SignedImage, DirectoryFaultView, identifier_refused, team_refused, short, of_code, of_special}
use Rattle.mach_signature.specs.AsSigned.{SignatureFaultView, wrong_magic, directory_refused, of_slot}
use Rattle.mach_signature.specs.AsSigned.{blob_fault_by, blob_fault, refusal_of, short_fault, directory_faults_of, slot_faults_of, judged_faults}
use Rattle.mach_signature.specs.AsSigned.{signature_faults_of}
use Rattle.mach_signature.specs.AsSigned.{IsDirectoryAsSigned, HasDirectory, IsAsSigned}
use Rattle.mach_signature.specs.Chosen.{SlotDirectory, directory_of, directories_of}
use Rattle.mach_signature.specs.CodeFaults.{scatter_place, code_faults_of}
use Rattle.mach_signature.specs.Directories.{Directory, code_limit_of, identifier_of, team_of}
use Rattle.mach_signature.specs.Slots.{has_magic}
use Rattle.mach_signature.specs.SpecialFaults.{special_faults_of}
use Rattle.mach_signature.specs.SuperBlob.{SuperBlob, BlobThere, blob_at}
use Rattle.mach_signature.proofs.ReportedNone.{none_if, reported_of-none, none-reported_of, both_empty, empty_both, map_empty, listed_none}
use Rattle.mach_signature.proofs.CodePromise.{code_as_signed, as_signed_code}
use Rattle.mach_signature.proofs.SpecialPromise.{true_from, from_true, special_as_signed, as_signed_special}

-- ---- blobs

abbrev SoundBlob : Result BlobThere Fault → Type 0
SoundBlob there = (blob : BlobThere) × (there ≡ Ok blob) × IsTrue (has_magic blob.slot blob.magic)

sound_blob : (k : ℕ) (there : Result BlobThere Fault) → blob_fault_by k there ≡ None → SoundBlob there
sound_blob k (Err f) e = absurd (cc)
sound_blob k (Ok blob) e =
    (blob, refl, true_from (has_magic blob.slot blob.magic) (none_if (has_magic blob.slot blob.magic) (wrong_magic k blob.slot blob.magic) e))

blob_unreported : (k : ℕ) (there : Result BlobThere Fault) → SoundBlob there → blob_fault_by k there ≡ None
blob_unreported k there s =
    let test : has_magic s.0.slot s.0.magic ≡ true = from_true (has_magic s.0.slot s.0.magic) s.2 in
    ap (blob_fault_by k) s.1 ∙ ap (λ (b : Bool). cond b None (Some (wrong_magic k s.0.slot s.0.magic))) test

blob_sound : (s : SuperBlob) (k : ℕ) → blob_fault s k ≡ None → SoundBlob (blob_at s k)
unfolding blob_fault
blob_sound s k e = sound_blob k (blob_at s k) e

sound_unreported : (s : SuperBlob) (k : ℕ) → SoundBlob (blob_at s k) → blob_fault s k ≡ None
unfolding blob_fault
sound_unreported s k h = blob_unreported k (blob_at s k) h

-- ---- a directory

ok_since : {A : Type 0} (r : Result A Fault) → refusal_of r ≡ None → IsOk r
ok_since (Ok x) e = refl
ok_since (Err f) e = absurd (cc)

none_since : {A : Type 0} (r : Result A Fault) → IsOk r → refusal_of r ≡ None
none_since (Ok x) h = refl
none_since (Err f) h = absurd (cc)

not_short : (below whole : Bool) (f : DirectoryFaultView) → cond below (cond whole (Some f) None) None ≡ None → whole ≡ true → below ≡ false
not_short true true f e h = absurd (cc)
not_short true false f e h = absurd (cc)
not_short false whole f e h = refl

covers_all : (x : SignedImage) (d : Directory) → scatter_place d.scatter_offset ≡ 0 → short_fault x d ≡ None → x.dataoff ≤ code_limit_of d
covers_all x d whole e = ltb-false (code_limit_of d) x.dataoff
    (not_short (nat_lt (code_limit_of d) x.dataoff) (scatter_place d.scatter_offset == 0) (short (code_limit_of d) x.dataoff) e
    (eq-eqb (scatter_place d.scatter_offset) 0 whole))

short_unreported : (x : SignedImage) (d : Directory) → x.dataoff ≤ code_limit_of d → short_fault x d ≡ None
short_unreported x d covers = let test : nat_lt (code_limit_of d) x.dataoff ≡ false = le-ltb (code_limit_of d) x.dataoff covers in rw test refl

directory_as_signed : (x : SignedImage) (d : Directory) → directory_faults_of x d ≡ [] → IsDirectoryAsSigned x d
unfolding directory_faults_of
directory_as_signed x d e =
    let a = both_empty _ _ e in
    let b = both_empty _ _ a.1 in
    let c = both_empty _ _ b.1 in
    let f = both_empty _ _ c.1 in
    let code = code_as_signed d x.bytes (map_empty of_code (code_faults_of d x.bytes) f.0) in
    record {
      identifier = ok_since (identifier_of d)
          (listed_none (refusal_of (identifier_of d)) (map_empty identifier_refused (option_to_list (refusal_of (identifier_of d))) a.0));
      team = ok_since (team_of d) (listed_none (refusal_of (team_of d)) (map_empty team_refused (option_to_list (refusal_of (team_of d))) b.0));
      covers = covers_all x d code.not_scattered (listed_none (short_fault x d) c.0);
      code = code;
      special = special_as_signed d x.signature x.plist (map_empty of_special (special_faults_of d x.signature x.plist) f.1);
    }

as_signed_directory : (x : SignedImage) (d : Directory) → IsDirectoryAsSigned x d → directory_faults_of x d ≡ []
unfolding directory_faults_of
as_signed_directory x d h =
    empty_both _ _ (ap (λ (o : Option Fault). map identifier_refused (option_to_list o)) (none_since (identifier_of d) h.identifier))
    (empty_both _ _ (ap (λ (o : Option Fault). map team_refused (option_to_list o)) (none_since (team_of d) h.team))
    (empty_both _ _ (ap (λ (o : Option DirectoryFaultView). option_to_list o) (short_unreported x d h.covers))
    (empty_both _ _ (ap (map of_code) (as_signed_code d x.bytes h.code))
    (ap (map of_special) (as_signed_special d x.signature x.plist h.special)))))

-- ---- all of them

none_of_any : (x : SignedImage) (ds : List SlotDirectory) → flat_map (slot_faults_of x) ds ≡ [] → (slot : ℕ) (d : Directory) → IsAmong (slot, Ok d) ds
    → directory_faults_of x d ≡ []
none_of_any x [] e slot d h = absurd h
none_of_any x (y ∷ ys) e slot d (inl same) =
    let parts = both_empty (slot_faults_of x y) (flat_map (slot_faults_of x) ys) e in
    map_empty (of_slot slot) (directory_faults_of x d) (ap (slot_faults_of x) same ∙ parts.0)
none_of_any x (y ∷ ys) e slot d (inr among) =
    let parts = both_empty (slot_faults_of x y) (flat_map (slot_faults_of x) ys) e in
    none_of_any x ys parts.1 slot d among

slot_unreported : (x : SignedImage) (slot : ℕ) (there : Result Directory Fault) → ((d : Directory) → there ≡ Ok d → directory_faults_of x d ≡ [])
    → slot_faults_of x (slot, there) ≡ []
slot_unreported x slot (Ok d) none = ap (map (of_slot slot)) (none d refl)
slot_unreported x slot (Err f) none = refl

any_of_none : (x : SignedImage) (ds : List SlotDirectory)
    → ((slot : ℕ) (d : Directory) → IsAmong (slot, Ok d) ds → directory_faults_of x d ≡ [])
    → flat_map (slot_faults_of x) ds ≡ []
any_of_none x [] none = refl
any_of_none x ((slot, there) ∷ ys) none = empty_both _ _
    (slot_unreported x slot there (λ d is. none slot d (inl (ap (λ (r : Result Directory Fault). (slot, r)) (sym is)))))
    (any_of_none x ys (λ s d among. none s d (inr among)))

judged_none : (x : SignedImage) (there : Result Directory Fault) → judged_faults x there ≡ []
    → IsOk there × (flat_map (slot_faults_of x) (directories_of x.signature) ≡ [])
judged_none x (Ok d) e = (refl, e)
judged_none x (Err f) e = absurd (cc)

none_judged : (x : SignedImage) (there : Result Directory Fault) → IsOk there
    → flat_map (slot_faults_of x) (directories_of x.signature) ≡ [] → judged_faults x there ≡ []
none_judged x (Ok d) ok e = e
none_judged x (Err f) ok e = absurd (cc)

pub all_as_signed : (x : SignedImage) → signature_faults_of x ≡ [] → IsAsSigned x
all_as_signed x e =
    let parts = both_empty _ _ e in
    let judged = judged_none x (directory_of x.signature) parts.1 in
    record {
      blobs = λ k below. blob_sound x.signature k (reported_of-none (blob_fault x.signature) x.signature.count parts.0 k below);
      counts = judged.0;
      directories = λ slot d among. directory_as_signed x d (none_of_any x (directories_of x.signature) judged.1 slot d among);
    }

pub as_signed_all : (x : SignedImage) → IsAsSigned x → signature_faults_of x ≡ []
as_signed_all x h = empty_both _ _
    (none-reported_of (blob_fault x.signature) x.signature.count (λ k below. sound_unreported x.signature k (h.blobs k below)))
    (none_judged x (directory_of x.signature) h.counts
    (any_of_none x (directories_of x.signature) (λ slot d among. as_signed_directory x d (h.directories slot d among))))
