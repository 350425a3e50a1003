-- Records that begin past the end of the bytes.
use Rattle.std.proofs.Common.{◌≡◌, ℕ, ◌+◌, ◌-◌, ◌*◌, ◌/◌, ◌≤◌, ◌<◌, ◌^◌, true, false, List, length, min, Result, Ok, Err, refl, ap, ◌∙◌, arith, nat_le}
use Rattle.std.proofs.lemmas.Bool.{le-leb}
use Rattle.std.specs.Result.{is_ok}
use Rattle.mach_base.specs.Answer.{◌>>=◌}
use Rattle.mach_base.specs.Fault.{Fault}
use Rattle.mach_base.specs.Items.{is_past_the_end, records_in_bounds}
use Rattle.mach_base.specs.Number.{bounded, number, place_after}
use Rattle.mach_base.specs.Record.{values_in}
use Rattle.mach_base.specs.Text.{text_at}
use Rattle.mach_base.specs.declared.context.Container.{Container}
use Rattle.mach_base.specs.declared.context.Container.TheVariants.{Little, Big}
use Rattle.mach_base.specs.declared.context.Ctx.{Ctx}
use Rattle.mach_base.specs.declared.context.Endian.{Endian}
use Rattle.mach_base.proofs.InBounds.{past_after, past_bounded, same_test}
use Rattle.mach_parts.specs.IndirectSymbols.{IndirectTable, indirect_symbol, indirect_symbol_at}
use Rattle.mach_parts.specs.Relocation.{relocation_item, relocation_of_values}
use Rattle.mach_parts.specs.Section.{section_at, section_data, section_item, section_of_32, section_of_64, section_place, section_size}
use Rattle.mach_parts.specs.Symbols.{SymbolTable, table_in_bounds, nlist_size, symbol_at, symbol_place}
use Rattle.mach_records.specs.Segments.{section32_of_values, section64_of_values}

-- a relocation is past the end exactly if its number is not below the number of those that begin
pub relocation_past : (le : Endian) (bytes : List ℕ) (reloff k : ℕ)
    → is_past_the_end (relocation_item le bytes reloff k) ≡ nat_le (records_in_bounds (length bytes) reloff 8) k
relocation_past le bytes reloff k =
    past_after _ relocation_of_values ∙ past_bounded 8 bytes (reloff + 8 * k) _
    ∙ same_test (length bytes) (reloff + 8 * k) (records_in_bounds (length bytes) reloff 8) k (λ past. omega (arith, past)) (λ less. omega (arith, less))

-- the same for an indirect symbol
pub indirect_past : (t : IndirectTable) (k : ℕ) → is_past_the_end (indirect_symbol_at t k) ≡ nat_le (records_in_bounds (length t.bytes) t.start 4) k
indirect_past t k =
    past_after _ indirect_symbol ∙ past_bounded 4 t.bytes (t.start + 4 * k) _
    ∙ same_test (length t.bytes) (t.start + 4 * k) (records_in_bounds (length t.bytes) t.start 4) k (λ past. omega (arith, past)) (λ less. omega (arith, less))

-- the same for a section, whose place has 64 bits
record_past : (width : Container) (le : Endian) (file : List ℕ) (place : ℕ) → is_past_the_end (section_at width le file place) ≡ nat_le (length file) place
record_past Little le file place = past_after _ (λ vs. section_of_32 (section32_of_values vs)) ∙ past_bounded 68 file place _
record_past Big le file place = past_after _ (λ vs. section_of_64 (section64_of_values vs)) ∙ past_bounded 80 file place _

place_past : (width : Container) (len offset k : ℕ) → len < 2 ^ 64
    → nat_le len (section_place width offset k) ≡ nat_le (records_in_bounds len (section_place width offset 0) (section_size width)) k
place_past Little len offset k few =
    same_test len (section_place Little offset k) (records_in_bounds len (section_place Little offset 0) 68) k
    (λ past. omega (arith, few, past)) (λ less. omega (arith, few, less))
place_past Big len offset k few =
    same_test len (section_place Big offset k) (records_in_bounds len (section_place Big offset 0) 80) k
    (λ past. omega (arith, few, past)) (λ less. omega (arith, few, less))

pub section_past : (ctx : Ctx) (file : List ℕ) (offset : ℕ) → length file < 2 ^ 64 → (k : ℕ)
    → is_past_the_end (section_item ctx file offset k)
    ≡ nat_le (records_in_bounds (length file) (section_place ctx.container offset 0) (section_size ctx.container)) k
section_past ctx file offset few k =
    past_after (section_at ctx.container ctx.le file (section_place ctx.container offset k)) (λ s. (s, section_data file s))
    ∙ record_past ctx.container ctx.le file (section_place ctx.container offset k)
    ∙ place_past ctx.container (length file) offset k few

-- from a record past the end nothing is read
none_there : {A B : Type 0} (n : ℕ) (bytes : List ℕ) (s : ℕ) (found : A) (f : A → Result B Fault) → length bytes ≤ s
    → is_ok (bounded n bytes s found >>= f) ≡ false
none_there n bytes s found f past = let test : nat_le (length bytes) s ≡ true = le-leb (length bytes) s past in rw test refl

past_symbol : (width : Container) (len start count k : ℕ) → len < 2 ^ 64 → min count (records_in_bounds len start (nlist_size width)) ≤ k → k < count
    → len ≤ place_after start (k * nlist_size width)
past_symbol Little len start count k few past inside = omega (arith, few, past, inside)
past_symbol Big len start count k few past inside = omega (arith, few, past, inside)

pub no_symbol_past : (t : SymbolTable) (k : ℕ) → length t.bytes < 2 ^ 64 → (table_in_bounds t).nsyms ≤ k → k < t.nsyms → is_ok (symbol_at t k) ≡ false
unfolding symbol_at
no_symbol_past t k few past inside =
    none_there (nlist_size t.ctx.container) t.bytes (symbol_place t k) _
    (λ symbol. text_at t.bytes (place_after t.strtab symbol.n_strx) >>= (λ name. Ok (name, symbol)))
    (past_symbol t.ctx.container (length t.bytes) t.start t.nsyms k few past inside)
