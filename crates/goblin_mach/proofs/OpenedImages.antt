-- No fault occurs if an image opens.
use Rattle.std.proofs.Common.{◌≡◌, ℕ, ◌+◌, ◌≤◌, inl, inr, List, length, Option, Some, None, Result, Ok, Err, IsOk, sym, ap, subst, ◌∙◌}
use Rattle.std.proofs.Common.{arith}
use Rattle.std.specs.Prelude.{IfErr}
use Rattle.mach_base.specs.declared.context.Ctx.{Ctx}
use Rattle.mach_base.specs.declared.error.Error.{Error}
use Rattle.mach_base.specs.Answer.{ErrorMeets, IsOkUnlessMemory}
use Rattle.mach_base.specs.Fault.{Fault}
use Rattle.mach_base.proofs.Binds.{same_ok}
use Rattle.mach_base.proofs.Faults.{ErrorMeets-in}
use Rattle.mach_load.specs.Command.{Command}
use Rattle.mach_parts.specs.Header.{header_size}
use Rattle.mach_base.specs.Among.{IsAmong}
use Rattle.goblin_mach.specs.EntryPoint.{EntryPoint, entry_point_in, pointer_by}
use Rattle.goblin_mach.specs.Image.{HasHeader, CountsFit, HasChain, HasFront, OpensAs, Opens, LossyOpensAs, LossyOpens, LossyFault, no_magic, other_magic}
use Rattle.goblin_mach.specs.Image.{short_header, too_many_commands, broken_chain, unknown_thread, no_entry_point, IsUnreadable, segment, library, id, run_path}
use Rattle.goblin_mach.specs.Image.{table, ImageFault, of_lossy, unreadable}
use Rattle.goblin_mach.specs.Subjects.{segment_by, library_by, id_by, run_path_by, table_by}
use Rattle.mach_parts.specs.Magic.{magic_at, cputype_at}
use Rattle.goblin_mach.specs.Readings.{Reading, AllRead, IsUnread}
use Rattle.goblin_mach.proofs.Chains.{broken-excludes_chain, among-front, same_chain}
use Rattle.goblin_mach.proofs.CommandReadings.{unread-excludes_all}

some_is : (c d : Ctx) → Some c ≡ Some d → c ≡ d
some_is c d e = cc

-- a place has one magic
same_ctx : (bytes : List ℕ) (o m n : ℕ) (c d : Ctx) → magic_at bytes o ≡ Ok (m, Some c) → magic_at bytes o ≡ Ok (n, Some d) → c ≡ d
same_ctx bytes o m n c d p q =
    let made : ◌≡◌ {A = ℕ × Option Ctx} (m, Some c) (n, Some d) = same_ok (sym p ∙ q) in
    some_is c d (ap (λ (x : ℕ × Option Ctx). x.1) made)

pub same_header : (bytes : List ℕ) (o : ℕ) (c d : Ctx) → HasHeader bytes o c → HasHeader bytes o d → c ≡ d
same_header bytes o c d p q = same_ctx bytes o p.magic q.magic c d p.magic_is q.magic_is

pub not_other : (bytes : List ℕ) (o m n : ℕ) (c : Ctx) → magic_at bytes o ≡ Ok (m, None) → magic_at bytes o ≡ Ok (n, Some c) → ⊥
not_other bytes o m n c p q =
    let made : ◌≡◌ {A = ℕ × Option Ctx} (m, None) (n, Some c) = same_ok (sym p ∙ q) in
    let e : None ≡ Some c = ap (λ (x : ℕ × Option Ctx). x.1) made in
    cc

-- the conditions on an image concern one context
as_header : (bytes : List ℕ) (o : ℕ) (c d : Ctx) (cs : List Command) → HasHeader bytes o c → LossyOpensAs bytes o d cs → LossyOpensAs bytes o c cs
as_header bytes o c d cs held opened = subst (λ (x : Ctx). LossyOpensAs bytes o x cs) (same_header bytes o d c opened.header held) opened

-- one of the first commands is one of the chain
in_chain : (bytes : List ℕ) (o : ℕ) (c : Ctx) (front cs : List Command) (d : Command) → HasFront bytes o c front → HasChain bytes o c cs → IsAmong d front
    → IsAmong d cs
in_chain bytes o c front cs d some chain among =
    let few : length front ≤ length cs = (let fewer = some.count in let all = chain.count in omega arith) in
    among-front c.le bytes (o + header_size c.container) front cs d some.chain chain.chain few among

-- a fault of the first commands is a fault of the chain
unread_in_chain : {V : Type 0} (reading : Reading V) (bytes : List ℕ) (o : ℕ) (c : Ctx) (front cs : List Command) (f : Fault) → HasFront bytes o c front
    → HasChain bytes o c cs → IsUnread reading front f → AllRead reading cs → ⊥
unread_in_chain reading bytes o c front cs f some chain unread all =
    unread-excludes_all reading cs f (record {
      command = unread.command;
      among = in_chain bytes o c front cs unread.command some chain unread.among;
      fault = unread.fault;
    }) all

not_ok : (r : Result EntryPoint Fault) (f : Fault) → r ≡ Err f → IsOk r → ⊥
not_ok r f e ok = let wrong = rw e at ok in cc

-- no fault occurs if an image opens in lossy mode
pub fault-excludes_lossy : (bytes : List ℕ) (o : ℕ) (f : Fault) → LossyFault bytes o f → LossyOpens bytes o → ⊥
fault-excludes_lossy bytes o _ (no_magic f e) opens = let h = opens.2.header.magic_is in cc
fault-excludes_lossy bytes o _ (other_magic m e) opens = not_other bytes o m opens.2.header.magic opens.0 e opens.2.header.magic_is
fault-excludes_lossy bytes o _ (short_header m c e lt) opens = let r = opens.2.header.room in omega arith
fault-excludes_lossy bytes o _ (too_many_commands c held many) opens =
    let fit : CountsFit bytes o c = (as_header bytes o c opens.0 opens.1 held opens.2).counts in
    elim many [ inl h ↦ omega (arith, h, fit.ncmds) | inr h ↦ omega (arith, h, fit.sizeofcmds) ]
fault-excludes_lossy bytes o _ (broken_chain c f held counts broken) opens =
    let whole : HasChain bytes o c opens.1 = (as_header bytes o c opens.0 opens.1 held opens.2).chain in
    broken-excludes_chain c.le bytes (o + header_size c.container) _ f opens.1 broken whole.chain whole.count
fault-excludes_lossy bytes o _ (unknown_thread c front f some unread) opens =
    let opened = as_header bytes o c opens.0 opens.1 some.header opens.2 in
    unread_in_chain (pointer_by (cputype_at c bytes o)) bytes o c front opens.1 f some opened.chain unread opened.threads
fault-excludes_lossy bytes o _ (no_entry_point c cs f has e) opens =
    let opened = as_header bytes o c opens.0 opens.1 has.header opens.2 in
    let same : cs ≡ opens.1 = same_chain c.le bytes (o + header_size c.container) cs opens.1 has.chain.chain opened.chain.chain
    (has.chain.count ∙ sym opened.chain.count) in
    not_ok (entry_point_in (cputype_at c bytes o) opens.1) f (ap (entry_point_in (cputype_at c bytes o)) (sym same) ∙ e) opened.entry

unreadable-excludes_image : (bytes : List ℕ) (o : ℕ) (c : Ctx) (front cs : List Command) (f : Fault) → HasFront bytes o c front → OpensAs bytes o c cs
    → IsUnreadable c bytes front f → ⊥
unreadable-excludes_image bytes o c front cs f some opened (segment g u) =
    unread_in_chain (segment_by c bytes) bytes o c front cs g some opened.lossy.chain u opened.readable.segments
unreadable-excludes_image bytes o c front cs f some opened (library g u) =
    unread_in_chain (library_by bytes) bytes o c front cs g some opened.lossy.chain u opened.readable.libraries
unreadable-excludes_image bytes o c front cs f some opened (id g u) =
    unread_in_chain (id_by bytes) bytes o c front cs g some opened.lossy.chain u opened.readable.ids
unreadable-excludes_image bytes o c front cs f some opened (run_path g u) =
    unread_in_chain (run_path_by bytes) bytes o c front cs g some opened.lossy.chain u opened.readable.run_paths
unreadable-excludes_image bytes o c front cs f some opened (table g u) =
    unread_in_chain (table_by c bytes) bytes o c front cs g some opened.lossy.chain u opened.readable.tables

pub fault-excludes_image : (bytes : List ℕ) (o : ℕ) (f : Fault) → ImageFault bytes o f → Opens bytes o → ⊥
fault-excludes_image bytes o _ (of_lossy f fault) opens = fault-excludes_lossy bytes o f fault (opens.0, opens.1, opens.2.lossy)
fault-excludes_image bytes o _ (unreadable c front f some unread) opens =
    let same = same_header bytes o opens.0 c opens.2.lossy.header some.header in
    let opened : OpensAs bytes o c opens.1 = subst (λ (x : Ctx). OpensAs bytes o x opens.1) same opens.2 in
    unreadable-excludes_image bytes o c front opens.1 f some opened unread

pub ok_where_opens : {X : Type 0} (r : Result X Error) (bytes : List ℕ) (o : ℕ) → IfErr r (ErrorMeets (ImageFault bytes o)) → Opens bytes o → IsOkUnlessMemory r
ok_where_opens (Ok x) bytes o h opens = tt
ok_where_opens (Err e) bytes o h opens = ErrorMeets-in (ImageFault bytes o) (λ _. ⊥) e (λ f k. fault-excludes_image bytes o f k opens) h

pub ok_where_opens_lossily : {X : Type 0} (r : Result X Error) (bytes : List ℕ) (o : ℕ) → IfErr r (ErrorMeets (LossyFault bytes o)) → LossyOpens bytes o
    → IsOkUnlessMemory r
ok_where_opens_lossily (Ok x) bytes o h opens = tt
ok_where_opens_lossily (Err e) bytes o h opens = ErrorMeets-in (LossyFault bytes o) (λ _. ⊥) e (λ f k. fault-excludes_lossy bytes o f k opens) h
