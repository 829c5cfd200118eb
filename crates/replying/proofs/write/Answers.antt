-- `replying::write` meets its contract.
use Rattle.std.proofs.Common.{sym, ◌∙◌, rules}
use Rattle.replying.proofs.WeighLaws.{write_long, write_refused, written_short, write_none, write_fits}
use Rattle.replying.proofs.write.Goals as goal

pub returns-then-text-gt65535 : goal.returns-then-text-gt65535
returns-then-text-gt65535 c = let a = c.args in write_long a.records.now a.text.now a.out.now c.if-text-gt65535.true

pub returns-in_err-n : goal.returns-in_err-n
returns-in_err-n c =
    let a = c.args in
    let t = write_refused a.records.now a.text.now a.out.now c.if-text-gt65535.false _ (sym c.in_err-n.was ∙ c.weigh.ensures) in
    (search rules ∙ t.0, t.1)

pub returns-then-out-n : goal.returns-then-out-n
returns-then-out-n c = let a = c.args in write_none a.records.now a.text.now a.out.now c.if-text-gt65535.false _ (sym c.in_ok-n.was ∙ c.weigh.ensures) c.if-out-n.true

pub put_all-requires : goal.put_all-requires
put_all-requires c = let a = c.args in (c.if-text-gt65535.false, written_short a.records.now a.text.now a.out.now c.if-text-gt65535.false _ (sym c.in_ok-n.was ∙ c.weigh.ensures))

pub returns : goal.returns
returns c =
    let a = c.args in
    write_fits a.records.now a.text.now a.out.now c.if-text-gt65535.false _ (sym c.in_ok-n.was ∙ c.weigh.ensures) c.if-out-n.false c.put_all.new.out c.put_all.ensures
