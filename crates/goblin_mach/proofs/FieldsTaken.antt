-- What the first commands say, subject by subject, with one more command each time.
use Rattle.std.proofs.Common.{ℕ, List, [], ◌∷◌, ◌++◌}
use Rattle.mach_base.specs.Among.{IsAmong}
use Rattle.mach_base.specs.Fault.{Fault}
use Rattle.mach_base.specs.declared.context.Ctx.{Ctx}
use Rattle.mach_load.specs.Command.{Command}
use Rattle.goblin_mach.specs.Image.{AllReadable, IsUnreadable, segment, library, id, run_path, table}
use Rattle.goblin_mach.specs.Subjects.{segment_by, library_by, id_by, run_path_by, table_by}
use Rattle.goblin_mach.proofs.CommandReadings.{all_more, unread_among}

module _ (ctx : Ctx) (bytes : List ℕ) where
  pub none_unreadable : AllReadable ctx bytes []
  none_unreadable = record { segments = tt; libraries = tt; ids = tt; run_paths = tt; tables = tt }

  pub readable_more : (cs : List Command) (c : Command) → AllReadable ctx bytes cs → AllReadable ctx bytes (c ∷ []) → AllReadable ctx bytes (cs ++ c ∷ [])
  readable_more cs c all one = record {
    segments = all_more (segment_by ctx bytes) cs c all.segments one.segments;
    libraries = all_more (library_by bytes) cs c all.libraries one.libraries;
    ids = all_more (id_by bytes) cs c all.ids one.ids;
    run_paths = all_more (run_path_by bytes) cs c all.run_paths one.run_paths;
    tables = all_more (table_by ctx bytes) cs c all.tables one.tables;
  }

  -- the fault of one command is a fault of all
  pub unreadable_among : (c : Command) (cs : List Command) (f : Fault) → IsAmong c cs → IsUnreadable ctx bytes (c ∷ []) f → IsUnreadable ctx bytes cs f
  unreadable_among c cs _ among (segment f u) = segment f (unread_among (segment_by ctx bytes) c cs f among u)
  unreadable_among c cs _ among (library f u) = library f (unread_among (library_by bytes) c cs f among u)
  unreadable_among c cs _ among (id f u) = id f (unread_among (id_by bytes) c cs f among u)
  unreadable_among c cs _ among (run_path f u) = run_path f (unread_among (run_path_by bytes) c cs f among u)
  unreadable_among c cs _ among (table f u) = table f (unread_among (table_by ctx bytes) c cs f among u)
