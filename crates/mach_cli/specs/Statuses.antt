-- Exit statuses.
use Rattle.std.specs.Prelude.{◌≡◌, ℕ, ◌≤◌, ◌⊎◌, Bool, if◌then◌else◌}

-- 1 if something is not whole, else 0
abbrev pub status_by : (whole : Bool) → ℕ
status_by whole = if whole then 0 else 1

-- the status of a failed write: 141, as a shell reports a program whose reader closed the pipe, or 2
abbrev pub IsUnwritten : ℕ → Type 0
IsUnwritten status = (status ≡ 2) ⊎ (status ≡ 141)

-- one of all exit statuses
abbrev pub IsStatus : ℕ → Type 0
IsStatus status = (status ≤ 1) ⊎ IsUnwritten status
