-- The tables of an opened image are what the bytes say.
use Rattle.std.proofs.Common.{◌≡◌, ◌∙◌, ℕ, List, Result, map, refl, ap}
use Rattle.mach_base.specs.Fault.{Fault}
use Rattle.mach_records.specs.declared.linkedit.DataInCodeEntry.{DataInCodeEntry}
use Rattle.mach_parts.specs.declared.indirect.IndirectSymbol.{IndirectSymbol}
use Rattle.goblin_mach.specs.ImageSlots.{indirect_symbols_in, indirect_table_in}
use Rattle.goblin_mach.specs.SlotFacts.{HasIndirectSymbols}
use Rattle.goblin_mach.specs.TableFacts.{HasDataInCode}
use Rattle.goblin_mach.specs.Tables.{data_in_code_there, data_place_in}
use Rattle.goblin_mach_c.specs.Opened.{IsOpened}
use Rattle.goblin_mach_c.specs.CViews.{gm_ctx_view}
use Rattle.goblin_mach_c.specs.TableRows.{data_in_code_row, data_in_code_rows, indirect_row, indirect_rows}
use Rattle.goblin_mach_c.specs.declared.images.gm_image.{gm_image}
use Rattle.goblin_mach_c.proofs.OpenedLists.{commands_are}

pub data_of_opened : (bytes : List ℕ) (o : ℕ) (c : gm_image) → IsOpened bytes o c
    → (items : List (Result DataInCodeEntry Fault)) × HasDataInCode bytes o items × (data_in_code_rows bytes c ≡ map data_in_code_row items)
data_of_opened bytes o c opened =
    let cs = opened.commands in
    let same = commands_are bytes o opened.ctx cs c opened.opens opened.numbers in (
      data_in_code_there opened.ctx.le bytes (data_place_in cs),
      record { ctx = opened.ctx; cs = cs; opens = opened.opens; holds = refl },
      ap (λ l. map data_in_code_row (data_in_code_there (gm_ctx_view c).le bytes (data_place_in l))) same
          ∙ ap (λ x. map data_in_code_row (data_in_code_there x.le bytes (data_place_in cs))) opened.numbers.context,
    )

pub indirect_of_opened : (bytes : List ℕ) (o : ℕ) (c : gm_image) → IsOpened bytes o c
    → (items : List (Result IndirectSymbol Fault)) × HasIndirectSymbols bytes o items × (indirect_rows bytes c ≡ map indirect_row items)
indirect_of_opened bytes o c opened =
    let cs = opened.commands in
    let same = commands_are bytes o opened.ctx cs c opened.opens opened.numbers in (
      indirect_symbols_in (indirect_table_in opened.ctx bytes cs),
      record { ctx = opened.ctx; cs = cs; opens = opened.opens; holds = refl },
      ap (λ l. map indirect_row (indirect_symbols_in (indirect_table_in (gm_ctx_view c) bytes l))) same
          ∙ ap (λ x. map indirect_row (indirect_symbols_in (indirect_table_in x bytes cs))) opened.numbers.context,
    )
