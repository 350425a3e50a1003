-- The items that an iterator over the faults of code has left.
use Rattle.std.specs.Prelude.{ℕ, List, ◌++◌, Option, option_to_list}
use Rattle.mach_signature.specs.CodeFaults.{page_fault}
use Rattle.mach_signature.specs.DirectoryViews.{directory_view}
use Rattle.mach_signature.specs.Numbered.{reported_left}
use Rattle.mach_signature.specs.declared.fault.CodeFault.{CodeFault}
use Rattle.mach_signature.specs.declared.code_faults.CodeFaults.{CodeFaults}
use Rattle.mach_signature.specs.declared.code_faults.Pages.{Pages}

abbrev pub pages_reported : Pages → ℕ
pages_reported p = p.count

abbrev pub page_reported : Pages → ℕ → Option CodeFault
page_reported p k = page_fault (directory_view p.directory) p.image.now k

abbrev pub code_faults_left : CodeFaults → List CodeFault
code_faults_left it = option_to_list it.first ++ reported_left pages_reported page_reported it.pages
