-- The meaning of numbers that C passes.
use Rattle.std.specs.Prelude.{◌==◌, if◌then◌else◌}
use Rattle.mach_base.specs.declared.context.Container.TheVariants as width
use Rattle.mach_base.specs.declared.context.Endian.TheVariants as order
use Rattle.mach_base.specs.declared.context.Ctx.{Ctx}
use Rattle.goblin_mach_c.specs.declared.images.gm_image.{gm_image}

-- the width and the byte order in the numbers of an image: 0 means 32 bits, and 0 means the highest byte first
abbrev pub gm_ctx_view : gm_image → Ctx
gm_ctx_view c =
    record {
      container = if c.is_64 == 0 then width.Little else width.Big;
      le = if c.is_little_endian == 0 then order.Big else order.Little;
    }
