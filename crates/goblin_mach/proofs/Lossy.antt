-- An image that opens strictly opens in lossy mode with equal fields.
use Rattle.std.proofs.Common.{◌≡◌, ℕ, ◌+◌, List, [], ◌∷◌, Option, Some, None, Result, Ok, Err, refl, sym, ap, subst, ◌∙◌}
use Rattle.std.specs.Prelude.{option_map}
use Rattle.mach_base.specs.declared.context.Ctx.{Ctx}
use Rattle.mach_base.specs.Fault.{Fault}
use Rattle.mach_base.proofs.Binds.{same_ok}
use Rattle.mach_records.specs.declared.segments.SegmentCommand64.{SegmentCommand64}
use Rattle.mach_load.specs.Command.{Command}
use Rattle.mach_parts.specs.Header.{header_size}
use Rattle.mach_parts.specs.Segment.{SegmentView, widened, segment_data, segment_at, lossy_segment_at}
use Rattle.goblin_mach.specs.EntryPoint.{EntryPoint, entry_point_in}
use Rattle.goblin_mach.specs.Image.{LossyOpensAs}
use Rattle.mach_load.specs.Subjects.{segment_command_by}
use Rattle.goblin_mach.specs.Subjects.{segment_by, lossy_segment_by, binds_in, trie_in, own_name_in, libs_in, run_path_by, table_in}
use Rattle.mach_parts.specs.Magic.{cputype_at}
use Rattle.goblin_mach.specs.OpenImage.{IsImage, IsLossyImage, HasFields, commands_view, SameFields}
use Rattle.goblin_mach.specs.Readings.{read_of, keep, IsRead, AllRead}
use Rattle.goblin_mach.specs.declared.macho.MachO.{MachO}
use Rattle.goblin_mach.proofs.Chains.{same_chain}
use Rattle.goblin_mach.proofs.OpenedImages.{same_header}

-- data that exist are the same in both modes
same_data : (ctx : Ctx) (bytes : List ℕ) (o : ℕ) (c : SegmentCommand64) (d : Result (List ℕ) Fault) → segment_data bytes c.fileoff c.filesize ≡ d
    → IsRead (Some (segment_at ctx bytes o c)) → segment_at ctx bytes o c ≡ lossy_segment_at ctx bytes o c
same_data ctx bytes o c (Ok found) e read = rw e refl
same_data ctx bytes o c (Err f) e read = absurd (let wrong = rw e at read in cc)

same_segment : (ctx : Ctx) (bytes : List ℕ) (o : ℕ) (c : Option SegmentCommand64) → IsRead (option_map (segment_at ctx bytes o) c)
    → option_map (segment_at ctx bytes o) c ≡ option_map (lossy_segment_at ctx bytes o) c
same_segment ctx bytes o None read = refl
same_segment ctx bytes o (Some c) read =
    ap (λ (r : Result SegmentView Fault). Some r) (same_data ctx bytes o c (segment_data bytes c.fileoff c.filesize) refl read)

-- and so are all segments
pub same_segments : (ctx : Ctx) (bytes : List ℕ) (cs : List Command) → AllRead (segment_by ctx bytes) cs
    → read_of (segment_by ctx bytes) cs ≡ read_of (lossy_segment_by ctx bytes) cs
same_segments ctx bytes [] all = refl
same_segments ctx bytes (c ∷ cs) all =
    let here : segment_by ctx bytes c ≡ lossy_segment_by ctx bytes c = same_segment ctx bytes c.offset (segment_command_by widened c.kind c.values) all.0 in
    ap (λ (r : Option (Result SegmentView Fault)). keep r (read_of (segment_by ctx bytes) cs)) here
    ∙ ap (keep (lossy_segment_by ctx bytes c)) (same_segments ctx bytes cs all.1)

-- fields that the same context, commands and segments determine
same_fields : {A B : Type 0} (bytes : List ℕ) (o : ℕ) (ctx : Ctx) (parts : List SegmentView) (m : MachO A) (n : MachO B) → commands_view m ≡ commands_view n
    → HasFields bytes o ctx parts m → HasFields bytes o ctx parts n → SameFields m n
same_fields bytes o ctx parts m n cs p q =
    let entry : record { address = m.entry; old_style = m.old_style_entry } ≡ record { address = n.entry; old_style = n.old_style_entry } =
    same_ok {A = EntryPoint} (sym p.entry ∙ ap (entry_point_in (cputype_at ctx bytes o)) cs ∙ q.entry) in
    record {
      header = p.header ∙ sym q.header;
      commands = cs;
      segments = p.segments ∙ sym q.segments;
      symbols = p.symbols ∙ ap (table_in ctx bytes) cs ∙ sym q.symbols;
      libs = p.libs ∙ ap (libs_in bytes) cs ∙ sym q.libs;
      rpaths = p.rpaths ∙ ap (read_of (run_path_by bytes)) cs ∙ sym q.rpaths;
      entry = ap (λ (e : EntryPoint). e.address) entry;
      old_style_entry = ap (λ (e : EntryPoint). e.old_style) entry;
      name = p.name ∙ ap (own_name_in bytes) cs ∙ sym q.name;
      little_endian = ((λ t. q.little_endian.1 (p.little_endian.0 t)), (λ t. p.little_endian.1 (q.little_endian.0 t)));
      is_64 = ((λ t. q.is_64.1 (p.is_64.0 t)), (λ t. p.is_64.1 (q.is_64.0 t)));
      trie = p.trie ∙ ap (trie_in bytes) cs ∙ sym q.trie;
      binds = p.binds ∙ ap (binds_in bytes) cs ∙ sym q.binds;
    }

pub lossy_fields : {A B : Type 0} (bytes : List ℕ) (o : ℕ) (m : MachO A) (n : MachO B) → IsImage bytes o m → IsLossyImage bytes o n → SameFields m n
lossy_fields bytes o m n p q =
    let ctx = p.ctx in
    let cs = commands_view m in
    let ds = commands_view n in
    let same_ctx = same_header bytes o q.ctx ctx q.opens.header p.opens.lossy.header in
    let opened : LossyOpensAs bytes o ctx ds = subst (λ (x : Ctx). LossyOpensAs bytes o x ds) same_ctx q.opens in
    let held : HasFields bytes o ctx (read_of (lossy_segment_by ctx bytes) ds) n =
    subst (λ (x : Ctx). HasFields bytes o x (read_of (lossy_segment_by x bytes) ds) n) same_ctx q.fields in
    let whole = p.opens.lossy.chain in
    let same : cs ≡ ds = same_chain ctx.le bytes (o + header_size ctx.container) cs ds whole.chain opened.chain.chain (whole.count ∙ sym opened.chain.count) in
    let parts : read_of (segment_by ctx bytes) cs ≡ read_of (lossy_segment_by ctx bytes) ds =
    same_segments ctx bytes cs p.opens.readable.segments ∙ ap (read_of (lossy_segment_by ctx bytes)) same in
    same_fields bytes o ctx (read_of (lossy_segment_by ctx bytes) ds) m n same (subst (λ (x : List SegmentView). HasFields bytes o ctx x m) parts p.fields) held
