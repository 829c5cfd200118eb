-- `replies::is_keyword_of` meets its contract.
use Rattle.std.proofs.Common.{arith}
use Rattle.std.proofs.lemmas.Grind.{common_steps}
use Rattle.replies.proofs.FormLaws.{keyword_of_word}
use Rattle.replies.proofs.is_keyword_of.Goals as goal

pub returns-in-len1-up : goal.returns-in-len1-up
returns-in-len1-up c = rw (keyword_of_word c.args.w.now c.requires) (grind (arith, common_steps))

pub returns-in_default : goal.returns-in_default
returns-in_default c = rw (keyword_of_word c.args.w.now c.requires) (grind (arith, common_steps))

pub returns-in_default-2 : goal.returns-in_default-2
returns-in_default-2 c = rw (keyword_of_word c.args.w.now c.requires) (grind (arith, common_steps))

pub returns-in_default-3 : goal.returns-in_default-3
returns-in_default-3 c = rw (keyword_of_word c.args.w.now c.requires) (grind (arith, common_steps))
