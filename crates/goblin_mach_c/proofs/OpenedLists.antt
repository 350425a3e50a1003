-- What the calls return for an opened image is what the bytes say.
use Rattle.std.proofs.Common.{◌≡◌, ◌≤◌, ◌+◌, ◌/◌, ◌∙◌, ◌∷◌, [], ℕ, zero, suc, List, Option, Some, None, Result, Ok, Err, inl, inr, cond, nat_le}
use Rattle.std.proofs.Common.{length, map}
use Rattle.std.proofs.Common.{refl, sym, ap, subst, arith}
use Rattle.std.specs.Prelude.{min, nat_lt, Bool, true, false, if◌then◌else◌}
use Rattle.std.proofs.Math.Nat.{min-eq_left}
use Rattle.mach_base.specs.declared.context.Endian.{Endian}
use Rattle.mach_base.specs.Fault.{Fault, malformed, bad_offset}
use Rattle.mach_base.specs.declared.context.Ctx.{Ctx}
use Rattle.mach_base.proofs.Binds.{chosen, same_ok}
use Rattle.mach_base.specs.Items.{items_from}
use Rattle.mach_load.specs.Command.{Command, cmdsize_of, command_at}
use Rattle.mach_parts.specs.Header.{header_size}
use Rattle.mach_parts.specs.Segment.{SegmentView}
use Rattle.mach_parts.specs.Symbols.{SymbolTable, symbol_at, symbols_of, table_at}
use Rattle.mach_parts.specs.declared.symbols.nlist.Nlist.{Nlist}
use Rattle.mach_records.specs.SymbolTables.{symtab_command_of_values}
use Rattle.mach_records.specs.declared.symbol_tables.SymtabCommand.{SymtabCommand}
use Rattle.goblin_mach.specs.Chain.{AllThere, BeginsAt, IsLinked}
use Rattle.goblin_mach.specs.Facts.{HasCommands, HasSegments, HasSymbols}
use Rattle.goblin_mach.specs.Image.{LossyOpensAs}
use Rattle.goblin_mach.specs.Subjects.{is_symtab, lossy_segment_by, symbols_in, table_by, table_in}
use Rattle.goblin_mach.specs.Readings.{Reading, keep, last_or, read_of}
use Rattle.goblin_mach_c.specs.CommandRows.{readable_commands_from, gm_commands_view, with_those_following}
use Rattle.goblin_mach_c.specs.Opened.{AreNumbers, AreTableNumbers, IsOpened}
use Rattle.goblin_mach_c.specs.CViews.{gm_ctx_view}
use Rattle.goblin_mach_c.specs.Say.{AllSay}
use Rattle.goblin_mach_c.specs.SymbolRows.{SaysSymbol, symbol_row, symbol_rows, gm_table_view}
use Rattle.goblin_mach_c.proofs.SymbolTexts.{row_says}
use Rattle.goblin_mach_c.proofs.Filled.{no_items}
use Rattle.goblin_mach_c.specs.PartRows.{rows_of, segment_row, segment_row_by, segment_rows, shown, with_rows}
use Rattle.goblin_mach_c.specs.declared.images.gm_image.{gm_image}

-- a chain of commands is the list that is read one after the other
pub chain_is : (le : Endian) (bytes : List ℕ) (s : ℕ) (cs : List Command) → AllThere le bytes cs → BeginsAt s cs → IsLinked cs
    → readable_commands_from le bytes s (length cs) ≡ cs
unfolding readable_commands_from
chain_is le bytes s [] there begins linked = refl
chain_is le bytes s (c ∷ []) there begins linked =
    ap (λ found. with_those_following found (λ d. [])) (ap (command_at le bytes) (sym begins) ∙ there.0)
chain_is le bytes s (c ∷ d ∷ cs) there begins linked =
    ap (λ found. with_those_following found (λ e. readable_commands_from le bytes (s + cmdsize_of e) (length (d ∷ cs))))
    (ap (command_at le bytes) (sym begins) ∙ there.0)
    ∙ ap (λ tail. c ∷ tail) (chain_is le bytes (s + cmdsize_of c) (d ∷ cs) there.1 (linked.0 ∙ ap (λ n. n + cmdsize_of c) begins) linked.1)

shown_keep : {V R : Type 0} (show : V → R) (found : Option (Result V Fault)) (rows : List R) (vs : List V) → rows ≡ map show vs
    → with_rows (shown show found) rows ≡ map show (keep found vs)
shown_keep show None rows vs e = e
shown_keep show (Some (Ok v)) rows vs e = ap (λ r. show v ∷ r) e
shown_keep show (Some (Err f)) rows vs e = e

-- rows that show what was read are the rows of the commands
pub rows_shown : {V R : Type 0} (show : V → R) (reading : Reading V) (cs : List Command)
    → rows_of (λ c. shown show (reading c)) cs ≡ map show (read_of reading cs)
rows_shown show reading [] = refl
rows_shown show reading (c ∷ cs) =
    shown_keep show (reading c) (rows_of (λ d. shown show (reading d)) cs) (read_of reading cs) (rows_shown show reading cs)

-- the commands of an opened image are those of its numbers
pub commands_are : (bytes : List ℕ) (o : ℕ) (ctx : Ctx) (cs : List Command) (c : gm_image) → LossyOpensAs bytes o ctx cs → AreNumbers bytes o ctx cs c
    → gm_commands_view bytes c ≡ cs
commands_are bytes o ctx cs c opens n =
    let many = opens.chain.count in
    let fit = opens.counts.ncmds in
    let room = opens.counts.sizeofcmds in
    let few : length cs ≤ length bytes / 8 = omega (arith, many, fit, room) in
    let count : min c.commands (length bytes / 8) ≡ length cs = ap (λ k. min k (length bytes / 8)) n.commands ∙ min-eq_left few in
    ap (λ x. readable_commands_from x.le bytes c.first_command (min c.commands (length bytes / 8))) n.context
    ∙ ap (λ s. readable_commands_from ctx.le bytes s (min c.commands (length bytes / 8))) n.first_command
    ∙ ap (λ k. readable_commands_from ctx.le bytes (o + header_size ctx.container) k) count
    ∙ chain_is ctx.le bytes (o + header_size ctx.container) cs opens.chain.chain.there opens.chain.chain.begins opens.chain.chain.linked

pub commands_of_opened : (bytes : List ℕ) (o : ℕ) (c : gm_image) → IsOpened bytes o c → HasCommands bytes o (gm_commands_view bytes c)
commands_of_opened bytes o c opened =
    record {
      ctx = opened.ctx;
      cs = opened.commands;
      opens = opened.opens;
      holds = commands_are bytes o opened.ctx opened.commands c opened.opens opened.numbers;
    }

pub segments_of_opened : (bytes : List ℕ) (o : ℕ) (c : gm_image) → IsOpened bytes o c
    → (segments : List SegmentView) × HasSegments bytes o segments × (segment_rows bytes c ≡ map segment_row segments)
segments_of_opened bytes o c opened =
    let cs = opened.commands in
    let same = commands_are bytes o opened.ctx cs c opened.opens opened.numbers in (
      read_of (lossy_segment_by opened.ctx bytes) cs,
      record { ctx = opened.ctx; cs = cs; opens = opened.opens; holds = refl },
      ap (rows_of (segment_row_by bytes c)) same
          ∙ ap (λ x. rows_of (λ d. shown segment_row (lossy_segment_by x bytes d)) cs) opened.numbers.context
          ∙ rows_shown segment_row (lossy_segment_by opened.ctx bytes) cs,
    )

-- the table that a command describes
abbrev table_of_command : Ctx → List ℕ → SymtabCommand → SymbolTable
table_of_command ctx bytes c = record { bytes = bytes; start = c.symoff; nsyms = c.nsyms; strtab = c.stroff; ctx = ctx }

-- it lies in the bytes, in the image's context
abbrev OccursThere : Ctx → List ℕ → SymbolTable → Type 0
OccursThere ctx bytes t = (t.bytes ≡ bytes) × (t.ctx ≡ ctx)

described : (ctx : Ctx) (bytes : List ℕ) (c : SymtabCommand) (t : SymbolTable) → table_at ctx bytes c ≡ Ok t → OccursThere ctx bytes t
described ctx bytes c t e =
    let made = table_of_command ctx bytes c in
    elim (chosen (nat_lt c.stroff c.symoff) (Err malformed) (cond (nat_le (length bytes) c.symoff) (Err (bad_offset c.symoff)) (Ok made)) (Ok t) e) [
      | inl wrong ↦ absurd (let x = wrong.1 in cc)
      | inr inner ↦ elim (chosen (nat_le (length bytes) c.symoff) (Err (bad_offset c.symoff)) (Ok made) (Ok t) inner.1) [
        | inl wrong ↦ absurd (let x = wrong.1 in cc)
        | inr good ↦ (let same = same_ok good.1 in (sym (ap (λ (x : SymbolTable). x.bytes) same), sym (ap (λ (x : SymbolTable). x.ctx) same)))
      ]
    ]

line_if : (b : Bool) (r : Result SymbolTable Fault) (t : SymbolTable) → (if b then Some r else None) ≡ Some (Ok t) → r ≡ Ok t
line_if true r t e = cc
line_if false r t e = absurd (cc)

described_by : (ctx : Ctx) (bytes : List ℕ) (c : Command) (t : SymbolTable) → table_by ctx bytes c ≡ Some (Ok t) → OccursThere ctx bytes t
described_by ctx bytes c t e =
    described ctx bytes (symtab_command_of_values c.values) t (line_if (is_symtab c.kind) (table_at ctx bytes (symtab_command_of_values c.values)) t e)

is_some_of : (v t : SymbolTable) → Some v ≡ Some t → v ≡ t
is_some_of v t e = cc

last_step : (P : SymbolTable → Type 0) (found : Option (Result SymbolTable Fault)) (others : List SymbolTable) (d : Option SymbolTable) (t : SymbolTable)
    → ((u : SymbolTable) → found ≡ Some (Ok u) → P u) → ((u : SymbolTable) → d ≡ Some u → P u)
    → ((e : Option SymbolTable) → ((u : SymbolTable) → e ≡ Some u → P u) → last_or e others ≡ Some t → P t)
    → last_or d (keep found others) ≡ Some t → P t
last_step P None others d t one before rest is = rest d before is
last_step P (Some (Err f)) others d t one before rest is = rest d before is
last_step P (Some (Ok v)) others d t one before rest is = rest (Some v) (λ u e. subst P (is_some_of v u e) (one v refl)) is

last_table : (ctx : Ctx) (bytes : List ℕ) (cs : List Command) (d : Option SymbolTable) (t : SymbolTable)
    → ((u : SymbolTable) → d ≡ Some u → OccursThere ctx bytes u) → last_or d (read_of (table_by ctx bytes) cs) ≡ Some t → OccursThere ctx bytes t
last_table ctx bytes [] d t before is = before t is
last_table ctx bytes (c ∷ cs) d t before is =
    last_step (OccursThere ctx bytes) (table_by ctx bytes c) (read_of (table_by ctx bytes) cs) d t (described_by ctx bytes c) before
    (λ e some. last_table ctx bytes cs e t some) is

table_is : (bytes : List ℕ) (c : gm_image) (ctx : Ctx) (t : SymbolTable) → gm_ctx_view c ≡ ctx → OccursThere ctx bytes t
    → (c.symbols_at ≡ t.start) × (c.symbols ≡ t.nsyms) × (c.names_at ≡ t.strtab) → gm_table_view bytes c ≡ t
table_is bytes c ctx t same there n =
    ap (λ x. record { bytes = bytes; start = x; nsyms = c.symbols; strtab = c.names_at; ctx = gm_ctx_view c }) n.0
    ∙ ap (λ x. record { bytes = bytes; start = t.start; nsyms = x; strtab = c.names_at; ctx = gm_ctx_view c }) n.1
    ∙ ap (λ x. record { bytes = bytes; start = t.start; nsyms = t.nsyms; strtab = x; ctx = gm_ctx_view c }) n.2
    ∙ ap (λ x. record { bytes = bytes; start = t.start; nsyms = t.nsyms; strtab = t.strtab; ctx = x }) (same ∙ sym there.1)
    ∙ ap (λ x. record { bytes = x; start = t.start; nsyms = t.nsyms; strtab = t.strtab; ctx = t.ctx }) (sym there.0)

symbols_are : (bytes : List ℕ) (c : gm_image) (ctx : Ctx) (found : Option SymbolTable) → gm_ctx_view c ≡ ctx
    → ((t : SymbolTable) → found ≡ Some t → OccursThere ctx bytes t) → AreTableNumbers found c.symbols_at c.symbols c.names_at
    → symbols_of (gm_table_view bytes c) ≡ symbols_in found
symbols_are bytes c ctx None same there n = no_items (symbol_at (gm_table_view bytes c)) 0 c.symbols n.1
symbols_are bytes c ctx (Some t) same there n = ap symbols_of (table_is bytes c ctx t same (there t refl) n)

-- rows of their symbols, index by index
say_all : (t : SymbolTable) (first count : ℕ) → AllSay (SaysSymbol t.strtab) (items_from (symbol_at t) first count) (items_from (symbol_row t) first count)
say_all t first zero = tt
say_all t first (suc count) = (row_says t first, say_all t (first + 1) count)

pub symbols_of_opened : (bytes : List ℕ) (o : ℕ) (c : gm_image) → IsOpened bytes o c
    → (symbols : List (Result (List ℕ × Nlist) Fault)) × HasSymbols bytes o symbols × AllSay (SaysSymbol c.names_at) symbols (symbol_rows bytes c)
symbols_of_opened bytes o c opened =
    let found = table_in opened.ctx bytes opened.commands in (
      symbols_in found,
      record { ctx = opened.ctx; cs = opened.commands; opens = opened.opens; holds = refl },
      subst (λ symbols. AllSay (SaysSymbol c.names_at) symbols (symbol_rows bytes c)) (symbols_are bytes c opened.ctx found opened.numbers.context
          (λ t e. last_table opened.ctx bytes opened.commands None t (λ u wrong. absurd (cc)) e) opened.numbers.symbols)
          (say_all (gm_table_view bytes c) 0 c.symbols),
    )
