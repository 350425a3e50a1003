-- Additional settings are equal if their parts are.
use Rattle.std.proofs.Common.{◌≡◌, ◌∙◌, ℕ, Bool, ap}
use Rattle.mach_base.specs.declared.context.Endian.{Endian}
use Rattle.mach_dyld.specs.declared.rebases.Rebasing.{Rebasing}
use Rattle.mach_dyld.specs.declared.weak_binds.WeakBindSettings.{WeakBindSettings}

abbrev rebasing : Endian → ℕ → Bool → Rebasing
rebasing le kind has_segment = record { le = le; kind = kind; has_segment = has_segment }

pub rebasing_same : (a b : Rebasing) → a.le ≡ b.le → a.kind ≡ b.kind → a.has_segment ≡ b.has_segment → a ≡ b
rebasing_same a b le kind has_segment =
    ap (λ (v : Endian). rebasing v a.kind a.has_segment) le ∙ ap (λ (v : ℕ). rebasing b.le v a.has_segment) kind
    ∙ ap (λ (v : Bool). rebasing b.le b.kind v) has_segment

abbrev extra : ℕ → Bool → Bool → Bool → WeakBindSettings
extra kind has_name has_segment is_own = record { kind = kind; has_name = has_name; has_segment = has_segment; is_own = is_own }

pub extra_same : (a b : WeakBindSettings) → a.kind ≡ b.kind → a.has_name ≡ b.has_name → a.has_segment ≡ b.has_segment → a.is_own ≡ b.is_own → a ≡ b
extra_same a b kind has_name has_segment is_own =
    ap (λ (v : ℕ). extra v a.has_name a.has_segment a.is_own) kind ∙ ap (λ (v : Bool). extra b.kind v a.has_segment a.is_own) has_name
    ∙ ap (λ (v : Bool). extra b.kind b.has_name v a.is_own) has_segment ∙ ap (λ (v : Bool). extra b.kind b.has_name b.has_segment v) is_own
