-- `printing::print_part` meets its contract.
use mathlib.Core.Path.{sym, ap, ◌∙◌}
use Rattle.printing.specs.Printing.{PartPrint}
use Rattle.printing.proofs.LoopLaws.{print_none}
use borrow.Author.Rules.{rules}
use Rattle.printing.proofs.print_part.Goals as goal

pub returns-then-not-may_print : goal.returns-then-not-may_print
returns-then-not-may_print c =
    let a = c.args in let m = c.may_print in let e = sym (print_none a.state a.buffer.now a.part.now a.out.now (sym m.ensures ∙ c.if-not-may_print.true)) in
    record { value = ap (λ (p : PartPrint). p.answer) e; buffer_after = ap (λ (p : PartPrint). p.buffer) e; out_after = ap (λ (p : PartPrint). p.out) e }

pub print_calls-requires : goal.print_calls-requires
print_calls-requires c =
    let m = c.may_print in
    record { out_value = sym m.ensures ∙ c.if-not-may_print.false; room_len = search rules }
