-- From an opened image to its numbers as facts about the bytes.
use Rattle.std.proofs.Common.{◌≡◌, ◌+◌, ◌-◌, ◌∙◌, inl, inr, ℕ, List, Bool, true, false, Option, length, Ok, refl, sym, ap}
use Rattle.std.proofs.Common.{subst, arith}
use Rattle.std.specs.Prelude.{◌↔◌, ◌==◌, IsTrue, if◌then◌else◌}
use Rattle.std.proofs.lemmas.List.{length-map}
use Rattle.std.specs.declared.alloc.Global.{Global}
use Rattle.mach_base.specs.Answer.{ErrorMeets}
use Rattle.mach_base.specs.Fault.{Fault, fault_of}
use Rattle.mach_base.specs.declared.context.Container.{Container}
use Rattle.mach_base.specs.declared.context.Container.TheVariants as width
use Rattle.mach_base.specs.declared.context.Endian.{Endian}
use Rattle.mach_base.specs.declared.context.Endian.TheVariants as order
use Rattle.mach_base.specs.declared.context.Ctx.{Ctx}
use Rattle.mach_base.specs.declared.error.Error.{Error}
use Rattle.mach_base.specs.declared.error.Error.TheVariants as errors
use Rattle.mach_parts.specs.Header.{header_size}
use Rattle.mach_parts.specs.Segment.{segment_view}
use Rattle.mach_parts.specs.Segments.{segments_in}
use Rattle.mach_parts.specs.Symbols.{SymbolTable}
use Rattle.mach_load.specs.Variants.{command_of}
use Rattle.goblin_mach.specs.Fixups.{base_of}
use Rattle.goblin_mach.specs.Image.{AllReadable}
use Rattle.goblin_mach.specs.OpenImage.{IsImage, IsLossyImage, commands_view}
use Rattle.goblin_mach.specs.declared.macho.MachO.{MachO}
use Rattle.goblin_mach_c.specs.Codes.{IsRefusalCode, code_of_fault}
use Rattle.goblin_mach_c.specs.Opened.{AreTableNumbers, HoldsNumbers, IsOpened, flag, width_of}
use Rattle.goblin_mach_c.specs.CViews.{gm_ctx_view}
use Rattle.goblin_mach_c.specs.declared.images.gm_image.{gm_image}

-- an error that reports a fault, or memory that ran out, has its code
pub refusal_of : (IsFault : Fault → Type 0) (e : Error) (code : ℕ) → code ≡ code_of_fault (fault_of e) → ErrorMeets IsFault e → IsRefusalCode IsFault code
refusal_of IsFault (errors.Malformed msg) code is occurs = record { fault = fault_of (errors.Malformed msg); is_code = is; occurs = inr occurs }
refusal_of IsFault (errors.BadMagic magic) code is occurs = record { fault = fault_of (errors.BadMagic magic); is_code = is; occurs = inr occurs }
refusal_of IsFault (errors.Scroll e) code is occurs = record { fault = fault_of (errors.Scroll e); is_code = is; occurs = inr occurs }
refusal_of IsFault (errors.BufferTooShort count what) code is occurs =
    record { fault = fault_of (errors.BufferTooShort count what); is_code = is; occurs = inr occurs }
refusal_of IsFault (errors.Memory e) code is occurs = record { fault = fault_of (errors.Memory e); is_code = is; occurs = inl refl }

-- the flags give the width and the byte order
width_is : (b : Bool) (w : Container) → IsTrue b ↔ (w ≡ width.Big) → width_of b ≡ w
width_is true w is = sym (is.0 refl)
width_is false width.Little is = refl
width_is false width.Big is = absurd (let wrong : false ≡ true = is.1 refl in cc)

container_is : (b : Bool) (w : Container) → IsTrue b ↔ (w ≡ width.Big) → (if flag b == 0 then width.Little else width.Big) ≡ w
container_is true w is = sym (is.0 refl)
container_is false width.Little is = refl
container_is false width.Big is = absurd (let wrong : false ≡ true = is.1 refl in cc)

order_is : (b : Bool) (le : Endian) → IsTrue b ↔ (le ≡ order.Little) → (if flag b == 0 then order.Big else order.Little) ≡ le
order_is true le is = sym (is.0 refl)
order_is false order.Big is = refl
order_is false order.Little is = absurd (let wrong : false ≡ true = is.1 refl in cc)

context_is : (ctx : Ctx) (c : gm_image) (is_64 little : Bool) → c.is_64 ≡ flag is_64 → c.is_little_endian ≡ flag little
    → IsTrue is_64 ↔ (ctx.container ≡ width.Big) → IsTrue little ↔ (ctx.le ≡ order.Little) → gm_ctx_view c ≡ ctx
context_is ctx c is_64 little p q wide low =
    ap (λ n. record { container = if n == 0 then width.Little else width.Big; le = (gm_ctx_view c).le }) p
    ∙ ap (λ n. record { container = if flag is_64 == 0 then width.Little else width.Big; le = if n == 0 then order.Big else order.Little }) q
    ∙ ap (λ w. record { container = w; le = if flag little == 0 then order.Big else order.Little }) (container_is is_64 ctx.container wide)
    ∙ ap (λ l. record { container = ctx.container; le = l }) (order_is little ctx.le low)

not_lossy : (b : Bool) → flag b ≡ 0 → b ≡ false
not_lossy true e = absurd (omega (arith, e))
not_lossy false e = refl

-- an image that was opened, with its numbers, is as `gm_open` says
pub opened_of : (bytes : List ℕ) (o : ℕ) (m : MachO Global) (lossy : Bool) (c : gm_image) → IsLossyImage bytes o m
    → (lossy ≡ false → IsImage bytes o m) → HoldsNumbers m o lossy c → IsOpened bytes o c
opened_of bytes o m lossy c loose strict n =
    let f = loose.fields in
    let ctx = loose.ctx in
    let same_width = width_is m.is_64 ctx.container f.is_64 in
    record {
      ctx = ctx;
      commands = commands_view m;
      opens = loose.opens;
      strict = λ e. (
          let image = strict (not_lossy lossy (sym n.mode ∙ e)) in
          subst (λ x. AllReadable x bytes (commands_view m)) (sym image.fields.ctx_is ∙ f.ctx_is) image.opens.readable);
      numbers = record {
        place = n.place;
        context = context_is ctx c m.is_64 m.little_endian n.is_64 n.is_little_endian f.is_64 f.little_endian;
        header = m.header;
        is_header = f.header;
        header_numbers = n.header;
        first_command = n.first_command ∙ ap (λ w. o + header_size w) same_width;
        commands = n.commands ∙ sym (length-map m.load_commands.items command_of);
        segments = n.segments ∙ sym (length-map (segments_in m.segments) segment_view) ∙ ap length f.segments;
        libraries = n.libraries ∙ ap (λ k. k - 1) (sym (length-map m.libs.items (λ text. text.now)) ∙ ap length f.libs);
        run_paths = n.run_paths ∙ sym (length-map m.rpaths.items (λ text. text.now)) ∙ ap length f.rpaths;
        symbols = subst (λ (t : Option SymbolTable). AreTableNumbers t c.symbols_at c.symbols c.names_at) f.symbols n.symbols;
        old_style = m.old_style_entry;
        entry = f.entry ∙ ap (λ a. Ok (record { address = a; old_style = m.old_style_entry })) (sym n.entry);
        entry_style = n.entry_style;
        base = n.base ∙ ap base_of f.segments;
        reserved = n.reserved;
      };
    }
