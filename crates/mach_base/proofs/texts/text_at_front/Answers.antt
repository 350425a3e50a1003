use Rattle.std.proofs.Common.{◌≡◌, ◌<◌, length, get_or, arith}
use Rattle.mach_base.proofs.Lanes.{plain_before, text_before}
use Rattle.mach_base.proofs.texts.text_at_front.Goals as goal
use Rattle.mach_base.proofs.texts.text_at_front.Goals.{else-len-bytes-via-then-len-bytes+else-bytes-len-ne0, else-len-bytes-via-else-len-bytes}

pub ascii_text-requires : goal.ascii_text-requires
ascii_text-requires c = plain_before c.args.bytes.now c.plain_len-len.result c.plain_len-len.ensures.within c.plain_len-len.ensures.value

pub returns-clause-text : goal.returns-clause-text
returns-clause-text c =
    let zero : c.plain_len-len.result < length c.args.bytes.now → get_or c.args.bytes.now c.plain_len-len.result 0 ≡ 0 =
    elim c.else-len-bytes.branch [
      | else-len-bytes-via-then-len-bytes+else-bytes-len-ne0 w ↦ λ l. let e = w.if-bytes-len-ne0.false in e
      | else-len-bytes-via-else-len-bytes w ↦ λ l. absurd (let e = w.if-len-bytes.false in omega (arith, e, l))
    ] in
    text_before c.args.bytes.now c.plain_len-len.result c.plain_len-len.ensures.within c.plain_len-len.ensures.value c.ascii_text.result.now
    c.ascii_text.ensures zero
