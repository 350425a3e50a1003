-- What is left of the list of one command, item by item.
use Rattle.std.proofs.Common.{◌≡◌, ◌∙◌, ◌<◌, ◌+◌, ◌-◌, ℕ, suc, List, ◌∷◌, length, map, take, Result, Ok, Err, sym, ap, arith}
use Rattle.mach_base.specs.Answer.{◌>>=◌}
use Rattle.mach_base.specs.declared.context.Ctx.{Ctx}
use Rattle.mach_base.specs.declared.context.Endian.{Endian}
use Rattle.mach_base.specs.Fault.{Fault}
use Rattle.mach_base.specs.Items.{items_from}
use Rattle.mach_base.specs.Text.{run_at}
use Rattle.mach_records.specs.declared.versions.BuildToolVersion.{BuildToolVersion}
use Rattle.mach_load.specs.BuildTools.{tool_at}
use Rattle.mach_load.specs.CommandLists.{with_number}
use Rattle.mach_load.specs.LinkerOptions.{option_at, option_place}
use Rattle.mach_load.proofs.OptionsRead.{items_after}
use Rattle.mach_parts.specs.Section.{section_item}
use Rattle.mach_parts.specs.declared.segment.section.Section.{Section}
use Rattle.goblin_mach_c.specs.SectionRows.{placed_section, sections_of_part}
use Rattle.goblin_mach_c.specs.TableRows.{options_of_part, placed_option, placed_options, tools_in_part, tools_of_part, with_command}
use Rattle.goblin_mach_c.specs.declared.listed.CommandItems.{CommandItems}
use Rattle.goblin_mach_c.proofs.Filled.{items_next}

-- ---- tools

first_tool : (le : Endian) (bytes : List ℕ) (p : CommandItems) (r : Result BuildToolVersion Fault) → p.index < p.count
    → tool_at le bytes (tools_in_part p) p.index ≡ r
    → tools_of_part le bytes p
    ≡ with_number p.command r ∷ map (with_number p.command) (items_from (tool_at le bytes (tools_in_part p)) (p.index + 1) (p.count - (p.index + 1)))
first_tool le bytes p r less is =
    ap (map (with_number p.command)) (items_next (tool_at le bytes (tools_in_part p)) p.index p.count less)
    ∙ ap (λ (x : Result BuildToolVersion Fault). with_number p.command x
    ∷ map (with_number p.command) (items_from (tool_at le bytes (tools_in_part p)) (p.index + 1) (p.count - (p.index + 1)))) is

pub tool_comes : (le : Endian) (bytes : List ℕ) (p : CommandItems) (tool : BuildToolVersion) → p.index < p.count
    → tool_at le bytes (tools_in_part p) p.index ≡ Ok tool
    → tools_of_part le bytes p
    ≡ Ok (p.command, tool)
    ∷ tools_of_part le bytes (record { command = p.command; place = p.place; end = p.end; index = p.index + 1; count = p.count })
tool_comes le bytes p tool less is = first_tool le bytes p (Ok tool) less is

pub tool_fails : (le : Endian) (bytes : List ℕ) (p : CommandItems) (f : Fault) → p.index < p.count → tool_at le bytes (tools_in_part p) p.index ≡ Err f
    → tools_of_part le bytes p
    ≡ Err f ∷ map (with_number p.command) (items_from (tool_at le bytes (tools_in_part p)) (p.index + 1) (p.count - (p.index + 1)))
tool_fails le bytes p f less is = first_tool le bytes p (Err f) less is

-- ---- options

-- `count` options of a command from a place on
abbrev pub options_at : ℕ → List ℕ → (place count : ℕ) → List (Result (ℕ × ℕ × List ℕ) Fault)
options_at command cut place count = map (with_command command) (placed_options (record { bytes = cut; place = place; count = count }))

placed_first : (cut : List ℕ) (place count : ℕ)
    → placed_options (record { bytes = cut; place = place; count = suc count })
    ≡ placed_option cut place ∷ placed_options (record { bytes = cut; place = place + (length (run_at cut place) + 1); count = count })
placed_first cut place count =
    ap (λ (items : List (Result (ℕ × List ℕ) Fault)). placed_option cut place ∷ items)
    (items_after (λ k. placed_option cut (option_place cut place k)) 0 count)

first_option : (command : ℕ) (cut : List ℕ) (place count : ℕ) (r : Result (List ℕ) Fault) → 0 < count → option_at cut place ≡ r
    → options_at command cut place count
    ≡ with_command command (r >>= (λ text. Ok (place, text))) ∷ options_at command cut (place + (length (run_at cut place) + 1)) (count - 1)
first_option command cut place count r some is =
    let more : count ≡ suc (count - 1) = omega (arith, some) in
    ap (options_at command cut place) more
    ∙ ap (λ (items : List (Result (ℕ × List ℕ) Fault)). map (with_command command) items) (placed_first cut place (count - 1))
    ∙ ap (λ (x : Result (List ℕ) Fault). with_command command (x >>= (λ text. Ok (place, text)))
    ∷ options_at command cut (place + (length (run_at cut place) + 1)) (count - 1)) is

pub option_comes : (bytes : List ℕ) (p : CommandItems) (cut text : List ℕ) → cut ≡ take p.end bytes → 0 < p.count → option_at cut p.place ≡ Ok text
    → text ≡ run_at cut p.place
    → options_of_part bytes p
    ≡ Ok (p.command, p.place, text)
    ∷ options_of_part bytes (record { command = p.command; place = p.place + (length text + 1); end = p.end; index = p.index; count = p.count - 1 })
option_comes bytes p cut text front some is run =
    ap (λ (b : List ℕ). options_at p.command b p.place p.count) (sym front)
    ∙ first_option p.command cut p.place p.count (Ok text) some is
    ∙ ap (λ (r : List ℕ). Ok (p.command, p.place, text) ∷ options_at p.command cut (p.place + (length r + 1)) (p.count - 1)) (sym run)
    ∙ ap (λ (b : List ℕ). Ok (p.command, p.place, text) ∷ options_at p.command b (p.place + (length text + 1)) (p.count - 1)) front

pub option_fails : (bytes : List ℕ) (p : CommandItems) (cut : List ℕ) (f : Fault) → cut ≡ take p.end bytes → 0 < p.count → option_at cut p.place ≡ Err f
    → options_of_part bytes p ≡ Err f ∷ options_at p.command cut (p.place + (length (run_at cut p.place) + 1)) (p.count - 1)
option_fails bytes p cut f front some is =
    ap (λ (b : List ℕ). options_at p.command b p.place p.count) (sym front) ∙ first_option p.command cut p.place p.count (Err f) some is

-- ---- sections

pub section_first : (ctx : Ctx) (bytes : List ℕ) (p : CommandItems) (r : Result (Section × List ℕ) Fault) → p.index < p.count
    → section_item ctx bytes p.command p.index ≡ r
    → sections_of_part ctx bytes p
    ≡ (r >>= λ found. Ok (p.command, p.index, found))
    ∷ sections_of_part ctx bytes (record { command = p.command; place = p.place; end = p.end; index = p.index + 1; count = p.count })
section_first ctx bytes p r less is =
    items_next (placed_section ctx bytes p.command) p.index p.count less
    ∙ ap (λ (x : Result (Section × List ℕ) Fault). (x >>= λ found. Ok (p.command, p.index, found))
    ∷ items_from (placed_section ctx bytes p.command) (p.index + 1) (p.count - (p.index + 1))) is
