use Rattle.std.proofs.Common.{arith}
use Rattle.mach_base.specs.Fault.{fault_of}
use Rattle.mach_archive.specs.ArchiveViews.{archive_symbol_view}
use Rattle.mach_archive.specs.TableViews.{index_table_view}
use Rattle.mach_archive.proofs.SymbolsRead.{left_none, left_first, left_fault, fewer_after}
use Rattle.mach_archive.proofs.symbols.ArchiveSymbolsIterator.next.Goals as goal

pub returns-then-self-eq0-clause-steps : goal.returns-then-self-eq0-clause-steps
returns-then-self-eq0-clause-steps c =
    let none = left_none (index_table_view c.args.self.now.table) (omega arith) in (none, none)

pub returns-in-Ok-clause-steps : goal.returns-in-Ok-clause-steps
returns-in-Ok-clause-steps c =
    left_first (index_table_view c.args.self.now.table) (index_table_view c.following-self.result) (archive_symbol_view c.in-Ok.symbol) (omega arith)
    c.in-Ok.ensures.symbol c.following-self.ensures

pub returns-in-Ok-clause-goes : goal.returns-in-Ok-clause-goes
returns-in-Ok-clause-goes c =
    record {
      on = λ _. (tt, tt, fewer_after _ _ _ (returns-in-Ok-clause-steps c));
      keeps = tt;
      rests = λ _. tt;
    }

pub returns-in-Err-clause-steps : goal.returns-in-Err-clause-steps
returns-in-Err-clause-steps c =
    left_fault (index_table_view c.args.self.now.table) (index_table_view c.none-self.result) (fault_of c.in-Err.e) (omega arith) c.in-Err.ensures.symbol
    c.none-self.ensures

pub returns-in-Err-clause-goes : goal.returns-in-Err-clause-goes
returns-in-Err-clause-goes c =
    record {
      on = λ _. (tt, tt, fewer_after _ _ _ (returns-in-Err-clause-steps c));
      keeps = tt;
      rests = λ _. tt;
    }
