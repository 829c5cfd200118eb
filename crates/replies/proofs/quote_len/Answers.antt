use Rattle.std.proofs.Common.{◌≡◌, refl, sym, ap, ◌∙◌, get_or, ne_eqb, arith}
use Rattle.terms.specs.declared.Mode.TheVariants.{In}
use Rattle.terms.specs.Signs.{after}
use Rattle.replies.specs.Lines.{more, quote_len}
use Rattle.replies.specs.Steps.{closed_by}
use Rattle.replies.proofs.FindLaws.{whole, quote_closes, quote_step, quote_pair, quote_past}
use Rattle.replies.proofs.quote_len.Goals as goal

pub loop-i-init : goal.loop-i-init
unfolding quote_len
loop-i-init c = whole (quote_len In c.args.s.now)

pub returns-in-34 : goal.returns-in-34
returns-in-34 c =
    let l = c.loop-i in
    ap closed_by (sym (ap (more l.i) (quote_closes c.args.s.now l.i c.loop-i-test.true c.in-34.is)) ∙ l.invariant)

pub loop-i-preserved-in-96 : goal.loop-i-preserved-in-96
loop-i-preserved-in-96 c =
    let l = c.loop-i in
    quote_pair c.args.s.now l.i c.loop-i-test.true c.in-96.is ∙ l.invariant

pub loop-i-preserved : goal.loop-i-preserved
unfolding after
loop-i-preserved c =
    let l = c.loop-i in
    let s = c.args.s.now in
    let x : get_or s l.i 0 ≡ 34 → ⊥ = λ e. omega arith in
    let y : get_or s l.i 0 ≡ 96 → ⊥ = λ e. omega arith in
    let z : after In (get_or s l.i 0) ≡ In = rw (ne_eqb _ _ y, ne_eqb _ _ x) in
    quote_step s l.i c.loop-i-test.true In In z refl ∙ l.invariant

pub returns : goal.returns
returns c =
    let l = c.loop-i in
    ap closed_by (sym (ap (more l.i) (quote_past c.args.s.now l.i c.loop-i-test.false In)) ∙ l.invariant)
