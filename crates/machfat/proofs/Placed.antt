-- What follows from an answer that is there.
use Rattle.std.proofs.Common.{Result, Ok, Err, IsOk, IfOk, true≢false, sym}

pub ok_then : {X E Q : Type 0} (P : X → Type 0) (answer : Result X E) → IsOk answer → IfOk answer P → ((x : X) → P x → Q) → Q
ok_then P (Ok x) is_there holds next = next x holds
ok_then P (Err e) is_there holds next = absurd (true≢false (sym is_there))
