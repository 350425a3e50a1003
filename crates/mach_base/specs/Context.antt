-- The width of an image.
use Rattle.std.specs.Prelude.{ℕ}
use Rattle.mach_base.specs.declared.context.Container.{Container}
use Rattle.mach_base.specs.declared.context.Container.TheVariants.{Little, Big}

-- the size of a pointer in bytes
abbrev pub pointer_size : Container → ℕ
pointer_size Little = 4
pointer_size Big = 8
