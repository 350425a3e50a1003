use Rattle.std.proofs.Common.{◌∙◌, ◌≡◌, ◌&&◌, Bool, ℕ, ap, sym, take}
use Rattle.std.specs.List.{list_all}
use Rattle.std.proofs.lemmas.List.{take_min}
use Rattle.goblin_mach.specs.FirstBytes.{begins_text, is_text_byte}
use Rattle.goblin_mach.proofs.first_bytes.begins_text.Goals as goal

pub returns-then-begins_ascii : goal.returns-then-begins_ascii
returns-then-begins_ascii c =
    let bytes = c.args.bytes.now in
    let front = list_all is_text_byte (take 256 bytes) in
    let first : list_all is_text_byte (take c.min.result bytes) ≡ front =
    ap (λ (n : ℕ). list_all is_text_byte (take n bytes)) c.min.ensures ∙ ap (list_all is_text_byte) (take_min 256 bytes) in
    let ascii : front ≡ begins_text bytes = sym (ap (λ (b : Bool). b && front) (sym c.begins_ascii.ensures ∙ c.if-begins_ascii.true)) in
    c.are_text_bytes.ensures ∙ first ∙ ascii
