-- `tree::Record::of` meets its contract.
use mathlib.Core.Path.{refl, sym, ◌∙◌}
use Prim.Native.Nat.{◌≤◌}
use Rattle.text.proofs.Tests.{no_case}
use native.Mathlib.Omega.{arith}
use Rattle.tree.proofs.CheckLaws.{bad_kind, bad_beyond, bad_parent, bad_no_tag, bad_long_tag, bad_letter, bad_padding, bad_number, form_good}
use Rattle.tree.proofs.Record.of.Goals.{then-bytes-ne16-via-then-bytes-ne16, then-bytes-ne16-via-else-bytes-ne16+then-k-gt511, then-bytes-ne16-via-else-bytes-ne16+else-k-gt511+then-k-pair, then-bytes-ne16-via-else-bytes-ne16+else-k-gt511+else-k-pair+then-not-matches, in-1-to-16, in_default, in_default-2, then-letters_len-tag_len-via-then-letters_len-tag_len, then-letters_len-tag_len-via-else-letters_len-tag_len+then-not-zeros, then-letters_len-tag_len-via-else-letters_len-tag_len+else-not-zeros+then-pair-eq0}
use Rattle.tree.proofs.Record.of.Goals as goal

pub returns-then-bytes-ne16 : goal.returns-then-bytes-ne16
returns-then-bytes-ne16 c =
    let r = c.args.bytes.now in
    let k = c.args.k in
    elim c.then-bytes-ne16.branch [
      | then-bytes-ne16-via-then-bytes-ne16 w ↦ sym (bad_kind r k w.if-bytes-ne16.true)
      | then-bytes-ne16-via-else-bytes-ne16+then-k-gt511 w ↦ sym (bad_beyond r k w.if-k-gt511.true)
      | then-bytes-ne16-via-else-bytes-ne16+else-k-gt511+then-k-pair w ↦ sym (bad_parent r k _ w.pair.ensures w.if-k-pair.true)
      | then-bytes-ne16-via-else-bytes-ne16+else-k-gt511+else-k-pair+then-not-matches w ↦ elim w.if-matches.branch [
        | in-1-to-16 m ↦ no_case (sym m.matches-is ∙ w.if-not-matches.true)
        | in_default m ↦ sym (bad_no_tag r k (omega arith))
        | in_default-2 m ↦ sym (bad_long_tag r k (omega arith))
      ]
    ]

pub returns-then-letters_len-tag_len : goal.returns-then-letters_len-tag_len
returns-then-letters_len-tag_len c =
    let r = c.args.bytes.now in
    let k = c.args.k in
    let n = c.from-tag_len.ensures in
    let short : c.from-tag_len.result ≤ 16 = elim c.if-matches.branch [
      | in-1-to-16 m ↦ omega arith
      | in_default m ↦ no_case (sym c.if-not-matches.false ∙ m.matches-is)
      | in_default-2 m ↦ no_case (sym c.if-not-matches.false ∙ m.matches-is)
    ] in
    elim c.then-letters_len-tag_len.branch [
      | then-letters_len-tag_len-via-then-letters_len-tag_len w ↦ sym (bad_letter r k _ _ n (omega arith) short c.letters_len.ensures w.if-letters_len-tag_len.true)
      | then-letters_len-tag_len-via-else-letters_len-tag_len+then-not-zeros w ↦ sym (bad_padding r k _ _ n short w.zeros.ensures w.if-not-zeros.true)
      | then-letters_len-tag_len-via-else-letters_len-tag_len+else-not-zeros+then-pair-eq0 w ↦ sym (bad_number r k _ w.pair-else-not-zeros.ensures w.if-pair-eq0.true)
    ]

pub returns : goal.returns
returns c =
    let r = c.args.bytes.now in
    let n = c.from-tag_len.result in
    let range : (1 ≤ n) × (n ≤ 16) = elim c.if-matches.branch [
      | in-1-to-16 m ↦ (omega arith, omega arith)
      | in_default m ↦ no_case (sym c.if-not-matches.false ∙ m.matches-is)
      | in_default-2 m ↦ no_case (sym c.if-not-matches.false ∙ m.matches-is)
    ] in
    (form_good r c.args.k _ _ _ _ _ (omega arith) c.if-bytes-ne16.false c.if-k-gt511.false c.pair.ensures c.if-k-pair.false c.from-tag_len.ensures range.0 range.1 c.letters_len.ensures c.if-letters_len-tag_len.false c.zeros.ensures c.if-not-zeros.false c.pair-else-not-zeros.ensures c.if-pair-eq0.false, refl)
