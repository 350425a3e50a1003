use Rattle.std.proofs.Common.{◌≡◌, ◌∙◌, ◌+◌, ◌≤◌, ap, length-drop, ◌-◌, ◌<◌, [], ◌++◌, length, take, drop, rules, arith, append_assoc}
use Rattle.std.proofs.lemmas.Grind.{common_steps}
use Rattle.std.proofs.lemmas.Str.{IsCharBoundary-start}
use Rattle.std.proofs.Output.{has_written_append, has_written_of_eq}
use Rattle.mach_cli.specs.Escapes.{escape_len, escape_of}
use Rattle.mach_cli.proofs.Written.{escape_after, escape_here, escape_within, from_on, so_far-end, so_far-escaped, so_far-init, so_far-kept, so_far-passed}
use Rattle.mach_cli.proofs.escaped.write_runs.Goals as goal
use Rattle.mach_cli.proofs.escaped.write_runs.Goals.{then-start-at+then-len-ne0+in_ok-write_str+in_ok-write_escape, then-start-at+else-len-ne0}
use Rattle.mach_cli.proofs.escaped.write_runs.Goals.{else-start-at}

pub range-requires-clause-end_boundary : goal.range-requires-clause-end_boundary
range-requires-clause-end_boundary g c =
    let within : c.bytes.at < length c.args.text.now = omega (arith, c.as_bytes-bytes.ensures.len) in
    let len : c.escape_len-len.result ≡ escape_len c.args.style (drop c.bytes.at c.args.text.now) =
    c.escape_len-len.ensures ∙ ap (escape_len c.args.style) (from_on _ _ c.bytes.at c.as_bytes-bytes.ensures.value) in
    escape_here c.args.style c.args.text.now c.bytes.at within (omega (arith, len))

pub overflow_add-start : goal.overflow_add-start
overflow_add-start g c =
    let within = escape_within c.args.style (drop c.bytes.at c.args.text.now) in
    let len : c.escape_len-len.result ≡ escape_len c.args.style (drop c.bytes.at c.args.text.now) =
    c.escape_len-len.ensures ∙ ap (escape_len c.args.style) (from_on _ _ c.bytes.at c.as_bytes-bytes.ensures.value) in
    let low : c.bytes.at + c.escape_len-len.result ≤ length c.as_bytes-bytes.result.now =
    omega (arith, within, len, length-drop c.bytes.at c.args.text.now, c.as_bytes-bytes.ensures.len, c.bytes-test.true) in
    search (rules, low)

pub bytes-init : goal.bytes-init
bytes-init g c = (IsCharBoundary-start c.args.text.now c.utf8.text, [], so_far-init c.args.style c.args.text.now, search rules)

pub bytes-preserved : goal.bytes-preserved
bytes-preserved g c =
    let l = c.bytes in
    let s = c.args.text.now in
    let style = c.args.style in
    let (bound, done, so_far, wrote) = l.invariant in
    let within : l.at < length s = omega (arith, c.as_bytes-bytes.ensures.len) in
    elim c.if-start-at.branch [
      | then-start-at+then-len-ne0+in_ok-write_str+in_ok-write_escape w ↦
          let low = w.if-start-at.true in
          let len : w.escape_len-len.result ≡ escape_len style (drop l.at s) =
          w.escape_len-len.ensures ∙ ap (escape_len style) (from_on _ _ l.at c.as_bytes-bytes.ensures.value) in
          let some : 0 < escape_len style (drop l.at s) = omega (arith, len) in
          let text = done ++ (take (l.at - l.start) (drop l.start s) ++ escape_of style (drop l.at s)) in
          rw (w.start-is, w.f-is, len) (
            escape_after style s l.at within c.utf8.text some,
            text,
            so_far-escaped style s done l.start l.at low within some so_far,
            λ plain.
                let sofar = wrote plain in
                let one = w.write_str.ensures.writes sofar.plain (search rules) in
                let two = w.write_escape.ensures one.plain (search rules) in
                has_written_of_eq _ _ _ _ _ (grind (arith, common_steps, append_assoc))
                (has_written_append _ _ _ _ _ _ (has_written_append _ _ _ _ _ _ sofar one) two),
          )
      | then-start-at+else-len-ne0 w ↦
          let low = w.if-start-at.true in
          let len : w.escape_len-len.result ≡ escape_len style (drop l.at s) =
          w.escape_len-len.ensures ∙ ap (escape_len style) (from_on _ _ l.at c.as_bytes-bytes.ensures.value) in
          let none : escape_len style (drop l.at s) ≡ 0 = omega (arith, len) in
          rw (w.start-is, w.f-is) (bound, done, so_far-kept style s done l.start l.at low within none so_far, wrote)
      | else-start-at w ↦
          rw (w.start-is, w.f-is) (bound, done, so_far-passed style s done l.start l.at w.if-start-at.false so_far, wrote)
    ]

pub returns : goal.returns
returns g c plain ok =
    let l = c.bytes in
    let s = c.args.text.now in
    let (bound, done, so_far, wrote) = l.invariant in
    let text = so_far-end c.args.style s done l.start l.at bound.0 (omega (arith, c.as_bytes-bytes.ensures.len)) so_far in
    has_written_of_eq _ _ _ _ _ text (has_written_append _ _ _ _ _ _ (wrote plain) (search rules))
