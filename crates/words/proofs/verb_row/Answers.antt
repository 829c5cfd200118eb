-- `words::verb_row` meets its contract: the table is the rows of its numbers.
use Rattle.std.proofs.Common.{◌∙◌, replicate}
use Rattle.text.specs.Bytes.{bytes}
use Rattle.words.specs.Words.{verb_names, verb_name}
use Rattle.words.specs.Rows.{verb_row}
use Rattle.words.proofs.RowLaws.{rows_from, rows_at, verb_zeros}
use Rattle.words.proofs.verb_row.Goals as goal

pub returns : goal.returns
unfolding rows_from verb_row verb_name verb_names bytes
returns c = c.at_or.ensures ∙ rows_at verb_row 14 c.args.n (replicate 8 0) (verb_zeros c.args.n)
