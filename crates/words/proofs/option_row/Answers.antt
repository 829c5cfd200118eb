-- `words::option_row` meets its contract: the table is the rows of its numbers.
use Rattle.std.proofs.Common.{◌∙◌, replicate}
use Rattle.text.specs.Bytes.{bytes}
use Rattle.words.specs.Words.{long_names, short_names, option_name, short_name}
use Rattle.words.specs.Rows.{option_row}
use Rattle.words.proofs.RowLaws.{rows_from, rows_at, option_zeros}
use Rattle.words.proofs.option_row.Goals as goal

pub returns : goal.returns
unfolding rows_from option_row option_name short_name long_names short_names bytes
returns c = c.at_or.ensures ∙ rows_at option_row 13 c.args.n (replicate 16 0) (option_zeros c.args.n)
