use Prim.Native.Nat.{ℕ}
use mathlib.Core.Path.{◌≡◌, ap, sym, ◌∙◌}
use mathlib.Core.Bool.{true, not}
use mathlib.Core.List.{List}
use lib.ListN.{length}
use borrow.Author.Tests.{eqb-true, eqb-false}
use Rattle.std.proofs.Common.{rules}
use Rattle.text.specs.Bytes.{is_word}
use Rattle.text.specs.Lists.{all_of, is_nil}
use Rattle.text.proofs.Tests.{and_r, no_case}
use Rattle.terms.specs.declared.Mode.TheVariants.{Out}
use Rattle.terms.specs.Signs.{signs, raws}
use Rattle.terms.proofs.SignBytes.{raws_signs}
use Rattle.canonical.specs.Canonical.{is_plain, write_text}
use Rattle.canonical.specs.Written.{text_written}
use Rattle.canonical.proofs.TextWriting.{word_signs}
use Rattle.words.proofs.Pens.{nothing_put, as_text}
use Rattle.canonical.proofs.WriteLaws.{plain_none, text_plain, text_in_none, text_in_some}
use lib.ListN.{replicate}
use lib.Seq.{length-take-le}
use Rattle.text.proofs.Writes.{held_is}
use Rattle.terms.specs.Signs.{meant}
use Rattle.terms.proofs.SignBytes.{meant_length}
use native.Mathlib.Omega.{arith}
use Rattle.canonical.proofs.put_text.Goals as goal

-- letters, digits and underscores stand for themselves
plain_words : (s : List ℕ) → is_plain s ≡ true → all_of is_word s ≡ true
unfolding is_plain
plain_words s e = and_r (not (is_nil s)) (all_of is_word s) e

words_meant : (s : List ℕ) → all_of is_word s ≡ true → meant s ≡ s
unfolding meant
words_meant s w = (word_signs (signs Out s) (ap (all_of is_word) (raws_signs s) ∙ w)).1 ∙ raws_signs s

plain_in : (s : List ℕ) → is_plain s ≡ true → text_written s ≡ s
plain_in s e = text_in_some s some ∙ ap (λ (z : List ℕ). raws (write_text z)) (words_meant s (plain_words s e)) ∙ text_plain s e
  where
    some : length s ≡ 0 → ⊥
    some z = no_case (sym e ∙ plain_none s z)

pub returns-then-is_empty : goal.returns-then-is_empty
returns-then-is_empty c = as_text (sym (text_in_none c.args.s.now (eqb-true _ 0 (sym c.is_empty.ensures ∙ c.if-is_empty.true)))) (nothing_put (search rules))

pub returns-then-is_plain : goal.returns-then-is_plain
returns-then-is_plain c = as_text (sym (plain_in c.args.s.now (sym c.is_plain.ensures ∙ c.if-is_plain.true))) c.text.ensures

pub slice_bounds-held-end : goal.slice_bounds-held-end
slice_bounds-held-end c = omega (arith, meant_length c.args.s.now, c.put_meant-n.ensures.0)

pub slice_bounds-put_value-end : goal.slice_bounds-put_value-end
slice_bounds-put_value-end c = let p = c.put_meant-n in sym (length-take-le p.result p.new.out (omega (arith, meant_length c.args.s.now, p.ensures.0, p.auto.out)))

pub returns : goal.returns
returns c =
    let s = c.args.s.now in
    let p = c.put_meant-n in
    let h = held_is (replicate 1024 0) p.new.out (meant s) p.result p.ensures.1 p.ensures.0 (omega (arith, meant_length s)) in
    as_text (ap (λ (z : List ℕ). raws (write_text z)) h ∙ sym (text_in_some s (eqb-false _ 0 (sym c.is_empty.ensures ∙ c.if-is_empty.false)))) c.put_value.ensures
