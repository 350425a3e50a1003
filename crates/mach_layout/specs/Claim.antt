-- A range and its owner.
use Rattle.std.specs.Prelude.{ℕ, ◌+◌}
use Rattle.mach_layout.specs.declared.claim.Claim.{Claim}

-- the place where it ends
abbrev pub end_of : Claim → ℕ
end_of r = r.start + r.len
