-- Each row is one line.
use Rattle.std.proofs.Common.{◌≡◌, ◌++◌, ℕ, List, true, codes, rules}
use Rattle.mach_cli.specs.Escapes.{has_no_feed, IsOneLine}
use Rattle.mach_cli.specs.Fields.{FieldView, fields_line}
use Rattle.mach_cli.proofs.OneLine.{no_feeds, line-end}
use Rattle.mach_audit.specs.FactRows.{FactView, uuid_fact, platform_fact, tool_fact, library_fact, path_fact}
use Rattle.machinfo.specs.FactTexts.{fact_text}
use Rattle.machinfo.specs.Platforms.{platform_word}
use Rattle.machinfo.specs.PartLines.{line_after}
use Rattle.machinfo.specs.Tools.{tool_text}
use Rattle.mach_cli.proofs.FieldLines.{no_feed-line, no_feed-uuid}

no_feed-platform : (number : ℕ) → has_no_feed (platform_word number) ≡ true
no_feed-platform number = search (no_feeds, rules)

no_feed-tool : (number : ℕ) → has_no_feed (tool_text number) ≡ true
no_feed-tool number = search (no_feeds, rules)

no_feed-fact : (fact : FactView) → has_no_feed (fact_text fact) ≡ true
no_feed-fact (uuid_fact uuid) = search (no_feeds, no_feed-uuid, rules)
no_feed-fact (platform_fact platform) = search (no_feeds, no_feed-platform, rules)
no_feed-fact (tool_fact tool) = search (no_feeds, no_feed-tool, rules)
no_feed-fact (library_fact library) = search (no_feeds, no_feed-line, rules)
no_feed-fact (path_fact path) = search (no_feeds, rules)

pub row_line : (fields : List FieldView) → IsOneLine (fields_line fields ++ codes "\n")
row_line fields = line-end (fields_line fields) (no_feed-line fields)

pub fact_line : (fact : FactView) → IsOneLine (fact_text fact ++ codes "\n")
fact_line fact = line-end (fact_text fact) (no_feed-fact fact)

pub labelled_line : (word : List ℕ) (fields : List FieldView) → has_no_feed word ≡ true → IsOneLine (line_after word fields ++ codes "\n")
labelled_line word fields is = line-end (line_after word fields) (search (no_feeds, no_feed-line, is, rules))
