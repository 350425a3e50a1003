-- The rebases by settings that run forward are what looking back finds.
use Rattle.mach_dyld.proofs.BindNames.{◌≡◌, ℕ, ◌+◌, ◌*◌, List, ◌∷◌, Bool, true, false, Result, Ok, Err, refl, sym, ap, ◌∙◌, subst, ◌>>=◌, ◌==◌, Fault}
use Rattle.mach_dyld.proofs.BindNames.{cond, bit_and, bind_ok, same_ok, malformed, uleb_at, Instruction, segment, advance, binds, byte_at, with_uleb, times_at}
use Rattle.mach_dyld.proofs.BindNames.{Placed, Range, Input, Bind, fresh, run, set_after, bind_after, OccursBy, AllOccurBy, reader_by}
use Rattle.mach_base.specs.declared.context.Endian.{Endian}
use Rattle.mach_dyld.specs.Instructions.{nothing}
use Rattle.mach_dyld.specs.Binds.{done_is, strong_is}
use Rattle.mach_dyld.specs.Bindings.{sets_in}
use Rattle.mach_dyld.proofs.BindSettings.{one_binds, tied_at_start}
use Rattle.mach_dyld.specs.WeakBinds.{range_end}
use Rattle.mach_dyld.specs.Rebases.{RebaseSet, gives_rebase_segment, last_rebase_set, rebase_kind_in, rebases_in}
unfoldable use Rattle.mach_dyld.specs.Rebases.{rebase_of, rebase_row, rebase_opcode_at}
use Rattle.mach_dyld.specs.RebasesLeft.{first_rebasing, rebase_rules, rebase_set_now, rebasing_after}
use Rattle.mach_dyld.specs.declared.rebases.Rebasing.{Rebasing}
use Rattle.mach_dyld.proofs.StreamSettings.{setting_after}

-- ---- what an opcode reads is not a DONE, and gives no row of its own

abbrev Calm : Instruction → Type 0
Calm i = (done_is i ≡ false) × (strong_is i ≡ false)

abbrev ReadsCalm : Result (Instruction × ℕ) Fault → Type 0
ReadsCalm r = (found : Instruction × ℕ) → r ≡ Ok found → Calm found.0

calm_here : (i : Instruction) (after : ℕ) → Calm i → ReadsCalm (Ok (i, after))
calm_here i after h = λ found e. subst (λ (y : Instruction × ℕ). Calm y.0) (same_ok e) h

calm_none : (f : Fault) → ReadsCalm (Err f)
calm_none f = λ found e. absurd (cc)

calm_either : (t : Bool) (r s : Result (Instruction × ℕ) Fault) → ReadsCalm r → ReadsCalm s → ReadsCalm (cond t r s)
calm_either true r s h k = h
calm_either false r s h k = k

calm_uleb : (make : ℕ → Instruction) (bytes : List ℕ) (place : ℕ) → ((n : ℕ) → Calm (make n)) → ReadsCalm (with_uleb make bytes place)
unfolding with_uleb
calm_uleb make bytes place h = λ found e.
    let b = bind_ok (uleb_at bytes place) (λ (n : ℕ × ℕ). Ok (make n.0, n.1)) found e in calm_here (make b.0.0) b.0.1 (h b.0.0) found b.2

calm_times : (bytes : List ℕ) (place : ℕ) → ReadsCalm (times_at bytes place)
unfolding times_at
calm_times bytes place = λ found e.
    let a = bind_ok (uleb_at bytes place) (λ (n : ℕ × ℕ). uleb_at bytes n.1 >>= λ (m : ℕ × ℕ). Ok (binds n.0 m.0, m.1)) found e in
    let b = bind_ok (uleb_at bytes a.0.1) (λ (m : ℕ × ℕ). Ok (binds a.0.0 m.0, m.1)) found a.2 in
    calm_here (binds a.0.0 b.0.0) b.0.1 (refl, refl) found b.2

calm_row : (r : Range) (pointer : ℕ) (bytes : List ℕ) (opcode imm place : ℕ) → ReadsCalm (rebase_row r pointer bytes opcode imm place)
unfolding rebase_row
calm_row r pointer bytes opcode imm place =
    calm_either (opcode == 0x00) _ _ (calm_here nothing (range_end r place) (refl, refl))
    (calm_either (opcode == 0x10) _ _ (calm_here nothing place (refl, refl))
    (calm_either (opcode == 0x20) _ _ (calm_uleb (segment imm) bytes place (λ n. (refl, refl)))
    (calm_either (opcode == 0x30) _ _ (calm_uleb advance bytes place (λ n. (refl, refl)))
    (calm_either (opcode == 0x40) _ _ (calm_here (advance (imm * pointer)) place (refl, refl))
    (calm_either (opcode == 0x50) _ _ (calm_here (binds imm 0) place (refl, refl))
    (calm_either (opcode == 0x60) _ _ (calm_uleb (λ count. binds count 0) bytes place (λ n. (refl, refl)))
    (calm_either (opcode == 0x70) _ _ (calm_uleb (binds 1) bytes place (λ n. (refl, refl)))
    (calm_either (opcode == 0x80) _ _ (calm_times bytes place) (calm_none malformed)))))))))

-- the byte at the place of an instruction
read_at : (x : Input) (r : Range) (p : Placed) → OccursBy (reader_by rebase_rules x r) r.upto p
    → (byte : ℕ) × (byte_at x.bytes p.place ≡ Ok byte) × Calm p.instruction
unfolding rebase_opcode_at
read_at x r p occurs =
    let b = bind_ok (byte_at x.bytes p.place)
    (λ (byte : ℕ). rebase_row r x.pointer x.bytes (bit_and byte 0xf0) (bit_and byte 0x0f) (p.place + 1)) (p.instruction, p.after) occurs.read in
    (b.0, b.1, calm_row r x.pointer x.bytes (bit_and b.0 0xf0) (bit_and b.0 0x0f) (p.place + 1) (p.instruction, p.after) b.2)

-- ---- what is set

record Tied (x : Input) (le : Endian) (m : Rebasing) (back : List Placed) : Type 0 where
  order : m.le ≡ le
  same : rebase_set_now m ≡ last_rebase_set x.bytes back

abbrev rebase_set : ℕ → Bool → RebaseSet
rebase_set k s = record { kind = k; has_segment = s }

set_is : (a b : RebaseSet) → a.kind ≡ b.kind → a.has_segment ≡ b.has_segment → a ≡ b
set_is a b k s = ap (λ q. rebase_set q a.has_segment) k ∙ ap (rebase_set b.kind) s

after_byte : (x : Input) (le : Endian) (m : Rebasing) (back : List Placed) (p : Placed) (byte : ℕ) → byte_at x.bytes p.place ≡ Ok byte
    → done_is p.instruction ≡ false → Tied x le m back → Tied x le (rebasing_after (bit_and byte 0xf0) (bit_and byte 0x0f) m) (p ∷ back)
after_byte x le m back p byte there none t = record {
  order = t.order;
  same = set_is _ _
      (setting_after back p (bit_and byte 0xf0 == 0x10) 0 (bit_and byte 0x0f) (rebase_kind_in x.bytes) none (rw there refl)
      (ap (λ (g : RebaseSet). g.kind) t.same))
      (setting_after back p (gives_rebase_segment (bit_and byte 0xf0)) false true (sets_in x.bytes gives_rebase_segment) none (rw there refl)
      (ap (λ (g : RebaseSet). g.has_segment) t.same));
}

tied_next : (x : Input) (le : Endian) (r : Range) (m : Rebasing) (back : List Placed) (p : Placed) → OccursBy (reader_by rebase_rules x r) r.upto p
    → Tied x le m back → Tied x le (set_after rebase_rules (byte_at x.bytes p.place) m) (p ∷ back)
tied_next x le r m back p occurs t =
    let b = read_at x r p occurs in
    subst (λ (there : Result ℕ Fault). Tied x le (set_after rebase_rules there m) (p ∷ back)) (sym b.1) (after_byte x le m back p b.0 b.1 b.2.0 t)

rebase_made : (x : Input) (le : Endian) (m : Rebasing) (g : RebaseSet) (b : Bind) → m.le ≡ le → rebase_set_now m ≡ g
    → rebase_of x m.le (rebase_set_now m) b ≡ rebase_of x le g b
rebase_made x le m g b order same = ap (λ (e : Endian). rebase_of x e (rebase_set_now m) b) order ∙ ap (λ (s : RebaseSet). rebase_of x le s b) same

-- at a range's start
pub rebases_at_start : (x : Input) (le : Endian) (r : Range) (ps : List Placed) → AllOccurBy (reader_by rebase_rules x r) r.upto ps
    → run rebase_rules x r (fresh r.is_lazy 0) (first_rebasing le) ps ≡ rebases_in x le r ps
rebases_at_start x le r ps occur =
    tied_at_start rebase_rules x r (λ back. rebase_of x le (last_rebase_set x.bytes back)) (Tied x le) (λ p occurs. (read_at x r p occurs).2.1)
    (tied_next x le r)
    (λ m back place count skip after own t.
    rebase_made x le m (last_rebase_set x.bytes (one_binds place count skip after ∷ back)) (bind_after x.pointer r back own) t.order t.same)
    (first_rebasing le) ps occur (record { order = refl; same = refl })
