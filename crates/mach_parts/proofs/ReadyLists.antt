-- Slots that are known to have entries are the slots of their section.
use Rattle.std.proofs.Common.{◌≡◌, ◌<◌, ◌≤◌, ℕ, zero, suc, ◌+◌, ◌-◌, ◌*◌, ◌/◌, ◌%◌, ◌^◌, List, [], ◌∷◌, ◌++◌, length, drop, take, Result}
use Rattle.std.proofs.Common.{Ok, Err, refl, sym, ap, ◌∙◌, subst, arith, nat_lt, nat_le, Bool, cond}
use Rattle.std.proofs.Math.Nat.{div-mul-le_self, lt-div-mul-add, mod-eq_of_lt, mul-le-mul_right, suc-mul}
use Rattle.std.proofs.lemmas.Bool.{lt-ltb, lt-leb, le-leb}
use Rattle.std.proofs.lemmas.List.{drop-drop, drop-take, length-drop, length-take-le}
use Rattle.mach_base.specs.declared.context.Endian.{Endian}
use Rattle.mach_base.specs.declared.context.Endian.TheVariants.{Little, Big}
use Rattle.mach_base.specs.Answer.{◌>>=◌}
use Rattle.mach_base.specs.Fault.{Fault, bad_offset, malformed, too_big}
use Rattle.mach_base.specs.Number.{number, number_at}
use Rattle.mach_parts.specs.IndirectSymbols.{IndirectTable, indirect_symbol}
use Rattle.mach_parts.specs.ReadySlots.{ready_count, ready_entry, ready_left, ready_slots}
use Rattle.mach_parts.specs.Slots.{SlotTables, Slot, entry_then, slot_entry, slot_of_entry, slots_from}
use Rattle.mach_parts.specs.declared.slots.kind.SlotRun.{SlotRun}
use Rattle.mach_parts.specs.declared.slots.ready.ReadySlots.{ReadySlots}
use Rattle.mach_parts.specs.declared.slot.SlotEntry.{SlotEntry}
use Rattle.mach_parts.proofs.SlotLists.{one_more}

number_there : (le : Endian) (bytes : List ℕ) (s : ℕ) → s + 4 ≤ length bytes → number_at le 4 bytes s ≡ Ok (number le 4 (drop s bytes))
number_there le bytes s there =
    ap (λ (b : Bool). cond b (Err (bad_offset s)) (cond (nat_le (s + 4) (length bytes)) (Ok (number le 4 (drop s bytes))) (Err (too_big 4 (length bytes - s)))))
    (lt-leb (length bytes) s (omega arith))
    ∙ ap (λ (b : Bool). cond b (Ok (number le 4 (drop s bytes))) (Err (too_big 4 (length bytes - s)))) (le-leb (s + 4) (length bytes) there)

-- the number of an entry
abbrev number_of_entry : IndirectTable → List ℕ → ℕ
number_of_entry table bytes = number table.le 4 bytes

number_taken : (le : Endian) (n : ℕ) (bytes : List ℕ) → 4 ≤ length bytes → number le 4 (take (suc (suc (suc (suc n)))) bytes) ≡ number le 4 bytes
number_taken le n [] there = absurd (omega arith)
number_taken le n (a ∷ []) there = absurd (omega arith)
number_taken le n (a ∷ b ∷ []) there = absurd (omega arith)
number_taken le n (a ∷ b ∷ c ∷ []) there = absurd (omega arith)
number_taken Little n (a ∷ b ∷ c ∷ d ∷ others) there = refl
number_taken Big n (a ∷ b ∷ c ∷ d ∷ others) there = refl

module _ (t : SlotTables) (r : SlotRun) where
  pub none_ready : (entries : List ℕ) (address index : ℕ) → ready_slots t r 0 entries address index ≡ []
  unfolding ready_slots
  none_ready entries address index = refl

  pub one_ready : (many : ℕ) (entries : List ℕ) (address index : ℕ) → ready_slots t r (suc many) entries address index
      ≡ slot_of_entry t r (ready_entry t.indirect entries address index)
      ∷ ready_slots t r many (drop 4 entries) ((address + r.len) % 2 ^ 64) ((index + 1) % 2 ^ 32)
  unfolding ready_slots
  one_ready many entries address index = refl

  -- the place of slot j's entry
  abbrev place : ℕ → ℕ
  place j = t.indirect.start + 4 * (r.first + j)

  -- slot j has an entry
  has_entry : (j : ℕ) → r.address + j * r.len < 2 ^ 64 → r.first + j < t.indirect.count → place j + 4 ≤ length t.indirect.bytes
      → slot_entry t r j ≡ Ok (ready_entry t.indirect (drop (place j) t.indirect.bytes) (r.address + j * r.len) (r.first + j))
  has_entry j small counted there =
      let read = λ (found : Result ℕ Fault). (found >>= (λ n. Ok (indirect_symbol n)))
      >>= (λ says. Ok (record { address = r.address + j * r.len; index = r.first + j; says = says })) in
      ap (λ (b : Bool). cond b (cond (nat_lt (r.first + j) t.indirect.count) (read (number_at t.indirect.le 4 t.indirect.bytes (place j))) (Err malformed))
      (Err malformed)) (lt-ltb (r.address + j * r.len) (2 ^ 64) small)
      ∙ (ap (λ (b : Bool). cond b (read (number_at t.indirect.le 4 t.indirect.bytes (place j))) (Err malformed))
      (lt-ltb (r.first + j) t.indirect.count counted)
      ∙ ap read (number_there t.indirect.le t.indirect.bytes (place j) there))

  one_time_more : (j : ℕ) → (j + 1) * r.len ≡ j * r.len + r.len
  one_time_more j = let same : j + 1 ≡ suc j = omega arith in ap (λ (n : ℕ). n * r.len) same ∙ suc-mul j r.len

  pub ready_made : (n most j : ℕ) → n ≤ most → r.address + (j + n) * r.len < 2 ^ 64 → n ≤ t.indirect.count - (r.first + j) → t.indirect.count < 2 ^ 32
      → place j + 4 * n ≤ length t.indirect.bytes
      → ready_slots t r n (take (4 * n) (drop (place j) t.indirect.bytes)) (r.address + j * r.len) (r.first + j) ++ slots_from t r (most - n) (j + n)
      ≡ slots_from t r most j
  ready_made zero most j within small counted narrow there =
      let most_left : most - 0 ≡ most = omega arith in
      let at_j : j + 0 ≡ j = omega arith in
      ap (λ (ready : List (Result Slot Fault)). ready ++ slots_from t r (most - 0) (j + 0))
      (none_ready (take (4 * 0) (drop (place j) t.indirect.bytes)) (r.address + j * r.len) (r.first + j))
      ∙ (ap (λ (n : ℕ). slots_from t r n (j + 0)) most_left ∙ ap (λ (n : ℕ). slots_from t r most n) at_j)
  ready_made (suc n) zero j within small counted narrow there = absurd (omega arith)
  ready_made (suc n) (suc most) j within small counted narrow there =
      let bytes = t.indirect.bytes in
      let rest_here = drop (place j) bytes in
      let number : j + suc n ≡ (j + 1) + n = omega arith in
      let upto : r.address + ((j + 1) + n) * r.len < 2 ^ 64 = subst (λ (k : ℕ). r.address + k * r.len < 2 ^ 64) number small in
      let one = one_time_more j in
      let further = mul-le-mul_right {m = j + 1} {n = (j + 1) + n} r.len (omega arith) in
      let left : suc most - suc n ≡ most - n = omega arith in
      let here = has_entry j (omega (arith, upto, one, further)) (omega (arith, counted)) (omega (arith, there)) in
      let address : (r.address + j * r.len + r.len) % 2 ^ 64 ≡ r.address + (j + 1) * r.len =
      mod-eq_of_lt (omega (arith, upto, one, further)) ∙ omega (arith, one) in
      let index : (r.first + j + 1) % 2 ^ 32 ≡ r.first + (j + 1) = mod-eq_of_lt (omega (arith, counted, narrow)) ∙ omega arith in
      let following : place j + 4 ≡ place (j + 1) = omega arith in
      let long : 4 ≤ length rest_here = let is = length-drop (place j) bytes in omega (arith, is, there) in
      let four_more : 4 * suc n ≡ suc (suc (suc (suc (4 * n)))) = omega arith in
      let four_and : 4 * suc n ≡ 4 + 4 * n = omega arith in
      let says : number_of_entry t.indirect (take (4 * suc n) rest_here) ≡ number_of_entry t.indirect rest_here =
      ap (λ (k : ℕ). number_of_entry t.indirect (take k rest_here)) four_more ∙ number_taken t.indirect.le (4 * n) rest_here long in
      let entries : drop 4 (take (4 * suc n) rest_here) ≡ take (4 * n) (drop (place (j + 1)) bytes) =
      ap (λ (k : ℕ). drop 4 (take k rest_here)) four_and
      ∙ (drop-take 4 (4 * n) rest_here
      ∙ ap (λ (es : List ℕ). take (4 * n) es) (drop-drop 4 (place j) bytes ∙ ap (λ (k : ℕ). drop k bytes) following)) in
      let rest = ready_made n most (j + 1) (omega (arith, within)) upto (omega (arith, counted)) narrow (omega (arith, there)) in
      let slot_by = λ (x : ℕ). slot_of_entry t r (record { address = r.address + j * r.len; index = r.first + j; says = indirect_symbol x }) in
      let first = slot_by (number_of_entry t.indirect rest_here) in
      let later = take (4 * n) (drop (place (j + 1)) bytes) in
      ap (λ (ready : List (Result Slot Fault)). ready ++ slots_from t r (suc most - suc n) (j + suc n))
      (one_ready n (take (4 * suc n) rest_here) (r.address + j * r.len) (r.first + j))
      ∙ (ap (λ (x : ℕ). slot_by x
      ∷ (ready_slots t r n (drop 4 (take (4 * suc n) rest_here)) ((r.address + j * r.len + r.len) % 2 ^ 64) ((r.first + j + 1) % 2 ^ 32)
      ++ slots_from t r (suc most - suc n) (j + suc n))) says
      ∙ (ap (λ (ready : List (Result Slot Fault)). first ∷ (ready ++ slots_from t r (suc most - suc n) (j + suc n)))
      (ap (λ (es : List ℕ). ready_slots t r n es ((r.address + j * r.len + r.len) % 2 ^ 64) ((r.first + j + 1) % 2 ^ 32)) entries
      ∙ (ap (λ (a : ℕ). ready_slots t r n later a ((r.first + j + 1) % 2 ^ 32)) address
      ∙ ap (λ (i : ℕ). ready_slots t r n later (r.address + (j + 1) * r.len) i) index))
      ∙ (ap (λ (k : ℕ). first ∷ (ready_slots t r n later (r.address + (j + 1) * r.len) (r.first + (j + 1)) ++ slots_from t r k (j + suc n))) left
      ∙ (ap (λ (k : ℕ). first ∷ (ready_slots t r n later (r.address + (j + 1) * r.len) (r.first + (j + 1)) ++ slots_from t r (most - n) k)) number
      ∙ (ap (λ (others : List (Result Slot Fault)). first ∷ others) rest
      ∙ (ap (λ (found : Result SlotEntry Fault). entry_then found (slot_of_entry t r) (slots_from t r most (j + 1))) (sym here)
      ∙ sym (one_more t r most j)))))))

  -- the first of them, whose entries lie from the place of the first slot's entry on
  pub ready_first : (n : ℕ) (rest entries : List ℕ) → n ≤ r.count → r.address + n * r.len < 2 ^ 64 → n ≤ t.indirect.count - r.first
      → t.indirect.count < 2 ^ 32 → t.indirect.start + 4 * r.first ≤ length t.indirect.bytes → 4 * n ≤ length rest
      → rest ≡ drop (t.indirect.start + 4 * r.first) t.indirect.bytes → entries ≡ take (4 * n) rest
      → (length entries / 4 ≡ n) × (ready_slots t r n entries r.address r.first ++ slots_from t r (r.count - n) n ≡ slots_from t r r.count 0)
  ready_first n rest entries within small counted narrow begins room are cut =
      let whole = lt-div-mul-add {a = length entries} {b = 4} (omega arith) in
      let less = div-mul-le_self (length entries) 4 in
      let size : length entries ≡ 4 * n = ap length cut ∙ length-take-le (4 * n) rest room in
      let long : length rest ≡ length t.indirect.bytes - (t.indirect.start + 4 * r.first) =
      ap length are ∙ length-drop (t.indirect.start + 4 * r.first) t.indirect.bytes in
      let first : r.first + 0 ≡ r.first = omega arith in
      let at : take (4 * n) (drop (place 0) t.indirect.bytes) ≡ entries =
      ap (λ (k : ℕ). take (4 * n) (drop (t.indirect.start + 4 * k) t.indirect.bytes)) first
      ∙ (ap (λ (es : List ℕ). take (4 * n) es) (sym are) ∙ sym cut) in
      let address : r.address + 0 * r.len ≡ r.address = omega arith in
      let number : 0 + n ≡ n = omega arith in
      let made = ready_made n r.count 0 within (subst (λ (k : ℕ). r.address + k * r.len < 2 ^ 64) (sym number) small) (omega (arith, counted)) narrow
      (omega (arith, begins, long, room)) in (
        omega (arith, whole, less, size),
        sym (ap (λ (es : List ℕ). ready_slots t r n es (r.address + 0 * r.len) (r.first + 0) ++ slots_from t r (r.count - n) (0 + n)) at
            ∙ (ap (λ (a : ℕ). ready_slots t r n entries a (r.first + 0) ++ slots_from t r (r.count - n) (0 + n)) address
            ∙ (ap (λ (i : ℕ). ready_slots t r n entries r.address i ++ slots_from t r (r.count - n) (0 + n)) first
            ∙ ap (λ (k : ℕ). ready_slots t r n entries r.address r.first ++ slots_from t r (r.count - n) k) number)))
            ∙ made,
      )

-- the first is the slot of its entry, and the others are left after it
pub one_passed : (t : SlotTables) (s left : ReadySlots) → ready_count s ≡ suc (ready_count left) → left.entries.now ≡ drop 4 s.entries.now
    → left.address ≡ (s.address + s.run.len) % 2 ^ 64 → left.index ≡ (s.index + 1) % 2 ^ 32 → left.run ≡ s.run
    → ready_left t s ≡ slot_of_entry t s.run (ready_entry t.indirect s.entries.now s.address s.index) ∷ ready_left t left
one_passed t s left count entries address index run =
    let many = ready_count left in
    let first = slot_of_entry t s.run (ready_entry t.indirect s.entries.now s.address s.index) in
    ap (λ (k : ℕ). ready_slots t s.run k s.entries.now s.address s.index) count
    ∙ (one_ready t s.run many s.entries.now s.address s.index
    ∙ ap (λ (others : List (Result Slot Fault)). first ∷ others)
    (ap (λ (es : List ℕ). ready_slots t s.run many es ((s.address + s.run.len) % 2 ^ 64) ((s.index + 1) % 2 ^ 32)) (sym entries)
    ∙ (ap (λ (a : ℕ). ready_slots t s.run many left.entries.now a ((s.index + 1) % 2 ^ 32)) (sym address)
    ∙ (ap (λ (i : ℕ). ready_slots t s.run many left.entries.now left.address i) (sym index)
    ∙ ap (λ (r : SlotRun). ready_slots t r many left.entries.now left.address left.index) (sym run)))))
