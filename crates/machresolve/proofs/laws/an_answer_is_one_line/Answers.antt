use Rattle.machresolve.proofs.AnswerLines.{answer_is_one_line}
use Rattle.machresolve.proofs.laws.an_answer_is_one_line.Goals as goal

pub returns : goal.returns
returns c = answer_is_one_line
