-- The symbol table, and the tables that order it (`mach-o/loader.h`).
-- For each record: its fields in order, and their values.
use Rattle.std.specs.Prelude.{List, [], ◌∷◌}
use Rattle.mach_base.specs.Record.{Field, num, arr, Value, number_is, bytes_are, number_among}
use Rattle.mach_records.specs.declared.command_names.TheConstants.{LC_SYMTAB, LC_DYSYMTAB}
use Rattle.mach_records.specs.declared.symbol_tables.TheConstants.{SIZEOF_SYMTAB_COMMAND, SIZEOF_DYSYMTAB_COMMAND}
use Rattle.mach_records.specs.declared.symbol_tables.SymtabCommand.{SymtabCommand}
use Rattle.mach_records.specs.declared.symbol_tables.DysymtabCommand.{DysymtabCommand}
use Rattle.mach_records.specs.declared.symbol_tables.TwolevelHintsCommand.{TwolevelHintsCommand}
use Rattle.mach_records.specs.declared.symbol_tables.TwolevelHint.{TwolevelHint}
use Rattle.mach_records.specs.declared.symbol_tables.SymsegCommand.{SymsegCommand}

-- struct symtab_command
abbrev pub symtab_command_fields : List Field
symtab_command_fields = num 4 ∷ num 4 ∷ num 4 ∷ num 4 ∷ num 4 ∷ num 4 ∷ []

abbrev pub symtab_command_values : SymtabCommand → List Value
symtab_command_values r =
    number_is r.cmd ∷ number_is r.cmdsize ∷ number_is r.symoff ∷ number_is r.nsyms
    ∷ number_is r.stroff ∷ number_is r.strsize ∷ []

abbrev pub symtab_command_of_values : List Value → SymtabCommand
symtab_command_of_values vs =
    record {
      cmd = number_among vs 0;
      cmdsize = number_among vs 1;
      symoff = number_among vs 2;
      nsyms = number_among vs 3;
      stroff = number_among vs 4;
      strsize = number_among vs 5;
    }

-- the command of a table without symbols
abbrev pub new_symtab : SymtabCommand
new_symtab =
    record {
      cmd = LC_SYMTAB;
      cmdsize = SIZEOF_SYMTAB_COMMAND;
      symoff = 0;
      nsyms = 0;
      stroff = 0;
      strsize = 0;
    }

-- struct dysymtab_command
abbrev pub dysymtab_command_fields : List Field
dysymtab_command_fields =
    num 4 ∷ num 4 ∷ num 4 ∷ num 4 ∷ num 4 ∷ num 4 ∷ num 4 ∷ num 4 ∷ num 4 ∷ num 4 ∷ num 4 ∷ num 4
    ∷ num 4 ∷ num 4 ∷ num 4 ∷ num 4 ∷ num 4 ∷ num 4 ∷ num 4 ∷ num 4 ∷ []

abbrev pub dysymtab_command_values : DysymtabCommand → List Value
dysymtab_command_values r =
    number_is r.cmd ∷ number_is r.cmdsize ∷ number_is r.ilocalsym ∷ number_is r.nlocalsym
    ∷ number_is r.iextdefsym ∷ number_is r.nextdefsym ∷ number_is r.iundefsym
    ∷ number_is r.nundefsym ∷ number_is r.tocoff ∷ number_is r.ntoc ∷ number_is r.modtaboff
    ∷ number_is r.nmodtab ∷ number_is r.extrefsymoff ∷ number_is r.nextrefsyms
    ∷ number_is r.indirectsymoff ∷ number_is r.nindirectsyms ∷ number_is r.extreloff
    ∷ number_is r.nextrel ∷ number_is r.locreloff ∷ number_is r.nlocrel ∷ []

-- the command of tables without entries
abbrev pub new_dysymtab : DysymtabCommand
new_dysymtab =
    record {
      cmd = LC_DYSYMTAB;
      cmdsize = SIZEOF_DYSYMTAB_COMMAND;
      ilocalsym = 0;
      nlocalsym = 0;
      iextdefsym = 0;
      nextdefsym = 0;
      iundefsym = 0;
      nundefsym = 0;
      tocoff = 0;
      ntoc = 0;
      modtaboff = 0;
      nmodtab = 0;
      extrefsymoff = 0;
      nextrefsyms = 0;
      indirectsymoff = 0;
      nindirectsyms = 0;
      extreloff = 0;
      nextrel = 0;
      locreloff = 0;
      nlocrel = 0;
    }

-- struct twolevel_hints_command
abbrev pub twolevel_hints_command_fields : List Field
twolevel_hints_command_fields = num 4 ∷ num 4 ∷ num 4 ∷ num 4 ∷ []

abbrev pub twolevel_hints_command_values : TwolevelHintsCommand → List Value
twolevel_hints_command_values r =
    number_is r.cmd ∷ number_is r.cmdsize ∷ number_is r.offset ∷ number_is r.nhints ∷ []

-- struct twolevel_hint
abbrev pub twolevel_hint_fields : List Field
twolevel_hint_fields = num 8 ∷ arr 24 ∷ []

abbrev pub twolevel_hint_values : TwolevelHint → List Value
twolevel_hint_values r = number_is r.isub_image ∷ bytes_are r.itoc ∷ []

-- struct symseg_command
abbrev pub symseg_command_fields : List Field
symseg_command_fields = num 4 ∷ num 4 ∷ num 4 ∷ num 4 ∷ []

abbrev pub symseg_command_values : SymsegCommand → List Value
symseg_command_values r =
    number_is r.cmd ∷ number_is r.cmdsize ∷ number_is r.offset ∷ number_is r.size ∷ []
