-- Positions in weak binds, as numbers, and the weak binds after them.
use Rattle.std.specs.Prelude.{ℕ, List, Result, Ok, Err}
use Rattle.mach_base.specs.Fault.{Fault, fault_of}
use Rattle.mach_base.specs.Number.{says_yes}
use Rattle.mach_base.specs.declared.error.Error.{Error}
use Rattle.mach_dyld.specs.BindCursors.{state_in}
use Rattle.mach_dyld.specs.Machine as machine
use Rattle.mach_dyld.specs.Machine.{items_left, items_of}
use Rattle.mach_dyld.specs.SiteCursors.{site_view}
use Rattle.mach_dyld.specs.Sites.{Site, sites_left, sites_of}
use Rattle.mach_dyld.specs.Streams.{Input, Range}
use Rattle.mach_dyld.specs.declared.imports.cursor.BindCursor.{BindCursor}
use Rattle.mach_dyld.specs.WeakBinds.{WeakBind, weak_opcode_at}
use Rattle.mach_dyld.specs.WeakBindsLeft.{weak_bind_view, weak_rules}
use Rattle.mach_dyld.specs.declared.weak_binds.WeakBind as declared
use Rattle.mach_dyld.specs.declared.weak_binds.WeakBind.TheVariants as variants
use Rattle.mach_dyld.specs.declared.weak_binds.WeakBindSettings.{WeakBindSettings}
use Rattle.mach_c_places.specs.SitesAlone.{AreSitesAlone}
use Rattle.mach_c_places.specs.declared.weak_binds.PlacedWeakBind.{PlacedWeakBind}
use Rattle.mach_c_places.specs.declared.weak_binds.WeakBindWalk.{WeakBindWalk}

-- the settings of a cursor in addition to those of a bind
abbrev pub weak_more_in : BindCursor → WeakBindSettings
weak_more_in c = record { kind = c.kind; has_name = says_yes c.has_name; has_segment = says_yes c.has_segment; is_own = says_yes c.ordinal }

-- the weak binds after a cursor of a range
abbrev pub weak_binds_after : Input → Range → BindCursor → List (Result WeakBind Fault)
weak_binds_after x r c = items_of weak_rules x r (weak_more_in c) (state_in x.bytes c)

-- where the names of all rows of a range are
abbrev pub AreWeakSites : Input → Range → List Site → Type 0
AreWeakSites x r sites = AreSitesAlone (weak_opcode_at r x.pointer x.bytes) r sites

-- and those of the rows after a cursor
abbrev pub weak_sites_after : Input → Range → BindCursor → List Site
weak_sites_after x r c = sites_of (λ (s : Range). weak_opcode_at s x.pointer x.bytes) r (site_view x.bytes c) (state_in x.bytes c)

-- ---- what is left for a walk

abbrev pub weak_walk_left : WeakBindWalk → List (Result WeakBind Fault)
weak_walk_left it = items_left weak_rules it.stream

abbrev pub weak_sites_left : WeakBindWalk → List Site
weak_sites_left it = sites_left weak_rules it.stream

-- it reads this, and knows where its name is
abbrev pub IsOverWeakBinds : Input → Range → WeakBindWalk → Type 0
IsOverWeakBinds x r it = machine.IsOver x r it.stream

-- it has ended: nothing is left, now and later
abbrev pub HasEndedWeakWalk : WeakBindWalk → Type 0
HasEndedWeakWalk it = machine.HasEnded weak_rules it.stream

-- a row with its place, as it was read
abbrev pub placed_weak_read : Result PlacedWeakBind Error → Result WeakBind Fault
placed_weak_read (Ok p) = Ok (weak_bind_view p.row)
placed_weak_read (Err e) = Err (fault_of e)

-- the name of a row
abbrev pub name_of_weak : declared.WeakBind → List ℕ
name_of_weak (variants.Strong name) = name.now
name_of_weak (variants.Bind binding) = binding.name.now
