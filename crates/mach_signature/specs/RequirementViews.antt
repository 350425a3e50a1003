-- What contracts see of the conditions of a requirement.
use Rattle.std.specs.Prelude.{ℕ, List}
use Rattle.std.specs.Borrow.{Bor}
use Rattle.mach_signature.specs.Requirements.{MatchView, TermView, exists, absent, compared, words, identifier, code_hash, certificate_hash}
use Rattle.mach_signature.specs.Requirements.{trusted_certificate, field}
use Rattle.mach_signature.specs.declared.requirements.term.Match.{Match}
use Rattle.mach_signature.specs.declared.requirements.term.Match.TheVariants as matches
use Rattle.mach_signature.specs.declared.requirements.term.Term.{Term}
use Rattle.mach_signature.specs.declared.requirements.term.Term.TheVariants as terms

abbrev pub match_view : Match → MatchView
match_view matches.Exists = exists
match_view matches.Absent = absent
match_view (matches.Compared before value after) = compared before.now value.now after.now

abbrev pub term_view : Term → TermView
term_view (terms.Words ws) = words ws.now
term_view (terms.Identifier name) = identifier name.now
term_view (terms.CodeHash hash) = code_hash hash.now
term_view (terms.CertificateHash slot hash) = certificate_hash slot hash.now
term_view (terms.TrustedCertificate slot) = trusted_certificate slot
term_view (terms.Field holder kind key matched) = field holder kind key.now (match_view matched)

-- something that was read, with the place after it
abbrev pub bytes_read : Bor (List ℕ) × ℕ → List ℕ × ℕ
bytes_read r = (r.0.now, r.1)

abbrev pub comparison_read : Bor (List ℕ) × Bor (List ℕ) → List ℕ × List ℕ
comparison_read r = (r.0.now, r.1.now)

abbrev pub match_read : Match × ℕ → MatchView × ℕ
match_read r = (match_view r.0, r.1)

abbrev pub term_read : Term × ℕ → TermView × ℕ
term_read r = (term_view r.0, r.1)
