-- What is reported of members and of symbols, one at a time.
use Rattle.std.proofs.Common.{◌≡◌, ◌+◌, ◌≤◌, ◌++◌, ◌∷◌, [], ◌∙◌, ℕ, suc, List, Option, Result, Ok, Err, Bool, true, false, refl, sym, ap, subst, arith}
use Rattle.std.proofs.Common.{length, map}
use Rattle.std.specs.Prelude.{◌&&◌, ◌-◌}
use Rattle.std.proofs.lemmas.List.{append-nil, map-append, length-map}
use Rattle.std.specs.Borrow.{Bor}
use Rattle.std.specs.Io.KnownBytes.{Appends}
use Rattle.std.specs.Result.{is_ok}
use Rattle.mach_archive.specs.Archives.{ArchiveView}
use Rattle.mach_archive.specs.IndexSymbols.{IndexSymbol}
use Rattle.mach_archive.specs.Members.{AreMembers, MemberView}
use Rattle.mach_base.specs.Fault.{Fault}
use Rattle.mach_base.specs.Items.{read_as}
use Rattle.mach_base.specs.declared.error.Error.{Error}
use Rattle.mach_cli.specs.Listings.{text_answer}
use Rattle.mach_cli.specs.declared.listing.ListProgress.{ListProgress}
use Rattle.machfat.proofs.Items.{Gone, gone_cut, gone_more, gone_over}
use Rattle.machfat.specs.MemberLines.{AreMemberLines, MemberReported, is_whole_member, is_whole_name, member_faults, member_item, reported_members, member_line}
use Rattle.machfat.specs.SymbolLines.{SymbolReported, is_whole_symbol, reported_symbol_faults, symbol_item, symbol_line}
use Rattle.machfat.specs.Written.{AreItemLines, WritesAs}

-- members after others are numbered from the number of those on
reported-append : (n : ℕ) (ms rest : List (Result MemberView Fault))
    → reported_members n (ms ++ rest) ≡ reported_members n ms ++ reported_members (n + length ms) rest
reported-append n [] rest = let same : n ≡ n + 0 = omega arith in ap (λ (k : ℕ). reported_members k rest) same
reported-append n (x ∷ xs) rest =
    let same : n + 1 + length xs ≡ n + suc (length xs) = omega arith in
    ap (λ following. member_item n x ∷ following) (reported-append (n + 1) xs rest
    ∙ ap (λ (k : ℕ). reported_members (n + 1) xs ++ reported_members k rest) same)

reported-following : (ms rest : List (Result MemberView Fault)) → reported_members 0 (ms ++ rest) ≡ reported_members 0 ms ++ reported_members (length ms) rest
reported-following ms rest =
    let same : 0 + length ms ≡ length ms = omega arith in
    reported-append 0 ms rest ∙ ap (λ (k : ℕ). reported_members 0 ms ++ reported_members k rest) same

reported-length : (n : ℕ) (ms : List (Result MemberView Fault)) → length (reported_members n ms) ≡ length ms
reported-length n [] = refl
reported-length n (x ∷ xs) = ap suc (reported-length (n + 1) xs)

-- the lines of these members were written
abbrev pub MembersGone : List (Result MemberView Fault) → Bool → (old new : Option (List ℕ)) → Type 0
MembersGone done whole old new = Gone member_faults member_line is_whole_member (reported_members 0 done) whole old new

pub member_more : (done : List (Result MemberView Fault)) (answer : Result MemberView Fault) (reported : MemberReported Error) (whole one : Bool)
    (old middle new : Option (List ℕ)) → MembersGone done whole old middle → member_faults reported ≡ member_item (length done) answer
    → one ≡ is_whole_member (member_faults reported) → Appends middle new (member_line reported) → MembersGone (done ++ answer ∷ []) (whole && one) old new
member_more done answer reported whole one old middle new before is ok written =
    subst (λ (list : List (MemberReported Fault)). Gone member_faults member_line is_whole_member list (whole && one) old new)
    (sym (reported-following done (answer ∷ [])))
    (gone_more member_faults member_line is_whole_member (reported_members 0 done) (member_item
    (length done) answer) reported whole one old middle new before is ok
    written)

pub members_over : (a : ArchiveView) (left : ℕ) (done rest : List (Result MemberView Fault)) (whole : Bool) (old new : Option (List ℕ)) (t : ListProgress)
    → MembersGone done whole old new → AreMembers a.bytes a.names a.begin (done ++ rest) → rest ≡ [] → length done ≤ left
    → (t.left ≡ left - length done) × (t.whole ≡ whole) × (t.more ≡ false) → WritesAs (AreMemberLines a left) t old new
members_over a left done rest whole old new t gone are none few said =
    let same : done ++ rest ≡ done = ap (λ xs. done ++ xs) none ∙ append-nil done in
    let length_is = reported-length 0 done in
    let lines = gone_over member_faults member_line is_whole_member left (reported_members 0 (done ++ rest)) (reported_members 0 done) whole old new t gone
    (ap (reported_members 0) same) (omega (arith, few, length_is)) (said.0 ∙ omega (arith, length_is), said.1, said.2) in
    record { text = lines.text; are_lines = record { members = done ++ rest; are_members = are; lines = lines.are_lines }; written = lines.written }

pub members_cut : (a : ArchiveView) (left : ℕ) (done : List (Result MemberView Fault)) (item : Result MemberView Fault) (rest : List (Result MemberView Fault))
    (whole : Bool) (old new : Option (List ℕ)) (t : ListProgress) → MembersGone done whole old new → AreMembers a.bytes a.names a.begin (done ++ item ∷ rest)
    → length done ≡ left → (t.left ≡ 0) × (t.whole ≡ whole) × (t.more ≡ true) → WritesAs (AreMemberLines a left) t old new
members_cut a left done item rest whole old new t gone are full said =
    let length_is = reported-length 0 done in
    let lines = gone_cut member_faults member_line is_whole_member left (reported_members 0 (done ++ item ∷ rest)) (reported_members 0 done)
    (member_item (length done) item) (reported_members (length done + 1) rest) whole old new t gone (reported-following done (item ∷ rest))
    (length_is ∙ full) said in
    record { text = lines.text; are_lines = record { members = done ++ item ∷ rest; are_members = are; lines = lines.are_lines }; written = lines.written }

-- the lines of these symbols were written
abbrev pub SymbolsGone : ArchiveView → List (Result IndexSymbol Fault) → Bool → (old new : Option (List ℕ)) → Type 0
SymbolsGone a done whole old new = Gone reported_symbol_faults symbol_line is_whole_symbol (map (symbol_item a) done) whole old new

-- the lines of all symbols, or of the first ones, no more than `left`, were written
abbrev pub SymbolsReported : ArchiveView → (left : ℕ) → List (Result IndexSymbol Fault) → ListProgress → (old new : Option (List ℕ)) → Type 0
SymbolsReported a left items t old new =
    WritesAs (λ text t. AreItemLines reported_symbol_faults symbol_line is_whole_symbol left (map (symbol_item a) items) text t) t old new

pub symbol_more : (a : ArchiveView) (done : List (Result IndexSymbol Fault)) (answer : Result IndexSymbol Fault) (reported : SymbolReported Error)
    (whole one : Bool) (old middle new : Option (List ℕ)) → SymbolsGone a done whole old middle → reported_symbol_faults reported ≡ symbol_item a answer
    → one ≡ is_whole_symbol (reported_symbol_faults reported) → Appends middle new (symbol_line reported)
    → SymbolsGone a (done ++ answer ∷ []) (whole && one) old new
symbol_more a done answer reported whole one old middle new before is ok written =
    subst (λ (list : List (SymbolReported Fault)). Gone reported_symbol_faults symbol_line is_whole_symbol list (whole && one) old new)
    (sym (map-append (symbol_item a) done (answer ∷ [])))
    (gone_more reported_symbol_faults symbol_line is_whole_symbol (map (symbol_item a) done)
    (symbol_item a answer) reported whole one old middle new before is ok
    written)

pub symbols_over : (a : ArchiveView) (left : ℕ) (items done rest : List (Result IndexSymbol Fault)) (whole : Bool) (old new : Option (List ℕ))
    (t : ListProgress)
    → SymbolsGone a done whole old new → items ≡ done ++ rest → rest ≡ [] → length done ≤ left
    → (t.left ≡ left - length done) × (t.whole ≡ whole) × (t.more ≡ false) → SymbolsReported a left items t old new
symbols_over a left items done rest whole old new t gone are none few said =
    let same : items ≡ done = are ∙ ap (λ xs. done ++ xs) none ∙ append-nil done in
    let length_is = length-map done (symbol_item a) in
    gone_over reported_symbol_faults symbol_line is_whole_symbol left (map (symbol_item a) items) (map (symbol_item a) done) whole old new t gone
    (ap (map (symbol_item a)) same) (omega (arith, few, length_is)) (said.0 ∙ omega (arith, length_is), said.1, said.2)

pub symbols_cut : (a : ArchiveView) (left : ℕ) (items done : List (Result IndexSymbol Fault)) (item : Result IndexSymbol Fault)
    (rest : List (Result IndexSymbol Fault)) (whole : Bool) (old new : Option (List ℕ)) (t : ListProgress) → SymbolsGone a done whole old new
    → items ≡ done ++ item ∷ rest → length done ≡ left → (t.left ≡ 0) × (t.whole ≡ whole) × (t.more ≡ true) → SymbolsReported a left items t old new
symbols_cut a left items done item rest whole old new t gone are full said =
    gone_cut reported_symbol_faults symbol_line is_whole_symbol left (map (symbol_item a) items) (map (symbol_item a) done) (symbol_item a item)
    (map (symbol_item a) rest) whole old new t gone (ap (map (symbol_item a)) are ∙ map-append (symbol_item a) done (item ∷ rest))
    (length-map done (symbol_item a) ∙ full) said

-- a name, as it was returned
pub name_seen : (answer : Result (Bor (List ℕ)) Error) → read_as (λ n. n) (text_answer (λ name. name.now) answer) ≡ read_as (λ name. name.now) answer
name_seen (Ok name) = refl
name_seen (Err e) = refl

pub name_whole : (answer : Result (Bor (List ℕ)) Error)
    → is_ok answer ≡ is_whole_name (read_as (λ n. n) (text_answer (λ name. name.now) answer))
name_whole (Ok name) = refl
name_whole (Err e) = refl
