use Rattle.std.proofs.Common.{◌≡◌, ◌+◌, ◌%◌, rules, arith, refl, sym, ap, ◌∙◌}
use Rattle.std.proofs.lemmas.List.Edits.{sets}
use Rattle.text.specs.Decimal.{five_digits}
use Rattle.text.proofs.Chains.{map_listed}
use Rattle.text.proofs.Decimals.{width_between, length_digits, digits_part}
use Rattle.text.proofs.put_decimal.Goals as goal

pub overflow_sub-len : goal.overflow_sub-len
overflow_sub-len c = omega (arith, c.width-len.ensures, width_between c.args.n)

pub returns : goal.returns
returns c =
    let a = c.args in
    let w = c.width-len in
    let all : c.map-all.result ≡ five_digits a.n = map_listed (λ x. 48 + x % 10) _ _ _ c.map-all.ensures.items refl (λ p x y q k. search rules) in
    (w.ensures ∙ sym (length_digits a.n), c.copy.ensures ∙ ap (sets a.out.now a.at) (digits_part a.n w.result _ w.ensures all))
