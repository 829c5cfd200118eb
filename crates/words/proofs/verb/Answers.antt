-- `words::verb` meets its contract.
use Rattle.std.proofs.Common.{arith}
use mathlib.Core.Path.{sym, ap, ◌∙◌}
use Rattle.text.specs.Bytes.{bytes}
use Rattle.words.specs.Tables.{known}
use Rattle.words.specs.Words.{verb_names, names, verb_of}
use Rattle.words.specs.Rows.{find_of}
use Rattle.words.proofs.WordLaws.{find_of_lem, no_verb}
use Rattle.words.proofs.verb.Goals as goal

pub returns-in-2 : goal.returns-in-2
unfolding verb_of find_of verb_names names bytes
returns-in-2 c =
    c.only.ensures ∙ ap known (sym (find_of_lem 2 1 verb_names c.args.t.now c.in-2.is))

pub returns-in-3 : goal.returns-in-3
unfolding verb_of find_of verb_names names bytes
returns-in-3 c =
    c.only-in-3.ensures ∙ ap known (sym (find_of_lem 3 1 verb_names c.args.t.now c.in-3.is))

pub returns-in-4 : goal.returns-in-4
unfolding verb_of
returns-in-4 c =
    c.verb_of_four.ensures ∙ ap known (sym (find_of_lem 4 1 verb_names c.args.t.now c.in-4.is))

pub returns-in-5 : goal.returns-in-5
unfolding verb_of
returns-in-5 c =
    c.verb_of_five.ensures ∙ ap known (sym (find_of_lem 5 1 verb_names c.args.t.now c.in-5.is))

pub returns-in-6 : goal.returns-in-6
unfolding verb_of
returns-in-6 c =
    c.verb_of_six.ensures ∙ ap known (sym (find_of_lem 6 1 verb_names c.args.t.now c.in-6.is))

pub returns-in-7 : goal.returns-in-7
unfolding verb_of find_of verb_names names bytes
returns-in-7 c =
    c.only-in-7.ensures ∙ ap known (sym (find_of_lem 7 1 verb_names c.args.t.now c.in-7.is))

pub returns-in_default : goal.returns-in_default
returns-in_default c =
    sym (ap known (no_verb c.args.t.now (λ e. omega arith) (λ e. omega arith) (λ e. omega arith) (λ e. omega arith) (λ e. omega arith) (λ e. omega arith)))
