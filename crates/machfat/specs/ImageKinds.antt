-- What the image is that some bytes begin with, in words (`mach-o/loader.h`, struct mach_header).
use Rattle.std.specs.Prelude.{ℕ, List, Option, Some, None, Result, Ok, Err, option_map}
use Rattle.std.specs.Result.{result_ok}
use Rattle.mach_base.specs.Fault.{Fault}
use Rattle.mach_base.specs.Number.{number_at}
use Rattle.mach_base.specs.declared.context.Ctx.{Ctx}
use Rattle.mach_parts.specs.Magic.{magic_at}
use Rattle.mach_cli.specs.ImageKinds.{image_kind}

-- the field `filetype` follows the magic and the two numbers of the cpu
abbrev pub filetype_by : Result (ℕ × Option Ctx) Fault → List ℕ → Option ℕ
filetype_by (Ok (magic, Some ctx)) bytes = result_ok (number_at ctx.le 4 bytes 12)
filetype_by (Ok (magic, None)) bytes = None
filetype_by (Err f) bytes = None

-- the kind of the image that the bytes begin with, if they begin with one
abbrev pub image_words : List ℕ → Option (List ℕ)
image_words bytes = option_map image_kind (filetype_by (magic_at bytes 0) bytes)
