use Rattle.std.proofs.Common.{◌∙◌, ◌++◌, [], ap, rules, append_assoc}
use Rattle.std.proofs.Output.{has_written_append, has_written_of_eq}
use Rattle.std.specs.List.{flat_map}
use Rattle.std.specs.Str.Chunks.{utf8_chunk_invalid, utf8_chunk_valid, utf8_chunks_rest}
use Rattle.mach_cli.specs.Escapes.{escape_text, escaped_text}
use Rattle.mach_cli.proofs.Written.{cut-end, cut-init, cut-on}
use Rattle.mach_cli.proofs.escaped.write_chunks.Goals as goal

pub chunks-init : goal.chunks-init
chunks-init g c =
    let all = ap utf8_chunks_rest c.into_iter-chunk-iterator.ensures.into_iter_gives ∙ c.utf8_chunks-chunk-items.ensures.rest in
    ([], rw all (cut-init c.args.bytes.now), search rules)

pub chunks-preserved : goal.chunks-preserved
chunks-preserved g c =
    let steps = c.in-Some.ensures.steps in
    let (done, so_far, wrote) = c.chunks.invariant in
    let valid = c.valid.ensures in
    let invalid = c.invalid.ensures in (
      done ++ (escaped_text (utf8_chunk_valid c.in-Some.chunk) ++ flat_map escape_text (utf8_chunk_invalid c.in-Some.chunk)),
      cut-on c.args.bytes.now _ _ _ _ done steps.0 steps.1 steps.2 steps.3.0 steps.3.1 so_far,
      λ plain.
          let one = c.write_escaped.ensures (wrote plain).plain (search rules) in
          let two = c.write_bytes.ensures one.plain (search rules) in
          has_written_of_eq _ _ _ _ _ (append_assoc done _ _ ∙ (λ i. done ++ (escaped_text (valid i) ++ flat_map escape_text (invalid i))))
          (has_written_append _ _ _ _ _ _ (has_written_append _ _ _ _ _ _ (wrote plain) one) two),
    )

pub returns : goal.returns
returns g c plain ok =
    let (done, so_far, wrote) = c.chunks.invariant in
    has_written_of_eq _ _ _ _ _ (cut-end c.args.bytes.now _ done c.in-None.ensures.steps.0 so_far) (wrote plain)
