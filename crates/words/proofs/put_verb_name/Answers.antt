-- `words::put_verb_name` meets its contract.
use mathlib.Core.Path.{sym, ap, ◌∙◌, subst}
use Prim.Native.Nat.{ℕ, ◌<◌}
use mathlib.Core.List.{List}
use lib.ListN.{length, get_or}
use lib.Seq.{sets}
use Rattle.words.specs.Rows.{row_name}
use Rattle.words.proofs.RowLaws.{verb_row_name, verb_row_fits}
use Rattle.words.proofs.put_verb_name.Goals as goal

pub put_row-requires : goal.put_row-requires
put_row-requires c = subst (λ (row : List ℕ). get_or row 0 0 < length row) (sym c.verb_row.ensures) (verb_row_fits c.args.n)

pub returns : goal.returns
returns c =
    let a = c.args in
    let e = ap row_name c.verb_row.ensures ∙ verb_row_name a.n in
    let p = c.put_row.ensures in
    (p.0 ∙ ap length e, p.1 ∙ ap (sets a.out.now a.at) e)
