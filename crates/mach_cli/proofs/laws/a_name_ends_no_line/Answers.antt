use Rattle.mach_cli.proofs.OneLine.{no_feed-escaped, no_feed-escaped_bytes, printed-bytes, printed-text}
use Rattle.mach_cli.proofs.laws.a_name_ends_no_line.Goals as goal

pub returns-clause-text : goal.returns-clause-text
returns-clause-text c = printed-text

pub returns-clause-bytes : goal.returns-clause-bytes
returns-clause-bytes c = printed-bytes

pub returns-clause-line : goal.returns-clause-line
returns-clause-line c = no_feed-escaped

pub returns-clause-line_of_bytes : goal.returns-clause-line_of_bytes
returns-clause-line_of_bytes c = no_feed-escaped_bytes
