-- How deep an expression is.
use Rattle.std.specs.Prelude.{ℕ, ◌+◌, max}
use Rattle.mach_signature.specs.Requirements.{Expression, term, negation, joined}

-- 1 for a condition, and one more than its deepest operand for another
abbrev pub expression_depth : Expression → ℕ
expression_depth (term t) = 1
expression_depth (negation x) = 1 + expression_depth x
expression_depth (joined operator x y) = 1 + max (expression_depth x) (expression_depth y)
