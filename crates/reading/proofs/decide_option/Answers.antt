-- `reading::decide_option` meets its contract. Assumes nothing.
use mathlib.Core.Path.{sym, ◌∙◌}
use native.Mathlib.Omega.{arith}
use Rattle.std.proofs.Common.{◌≡◌, Some, None, Err}
use Rattle.reading.proofs.Decisions.{option_cite, option_empty}
use Rattle.reading.proofs.decide_option.Goals as goal

pub returns-in_err-name : goal.returns-in_err-name
returns-in_err-name c =
    let a = c.args in
    let k : c.split_first.result ≡ None = grind arith in
    let r : c.from_residual.result ≡ Err 7 = grind arith in
    r ∙ option_empty a.verb a.seen a.t.now (rw k at c.split_first.ensures.cases)

pub returns-in_err-n : goal.returns-in_err-n
returns-in_err-n c =
    let a = c.args in
    let s : c.split_first.result ≡ Some (c.in_ok-name.field-0-0, c.in_ok-name.name) = grind arith in
    let z = rw s at c.split_first.ensures.cases in
    let k : c.option.result ≡ None = grind arith in
    let r : c.from_residual-in_err-n.result ≡ Err 7 = grind arith in
    r ∙ rw k at (option_cite a.verb a.seen a.t.now _ _ c.option.result z.0 c.option.ensures)

pub returns-then-not-allows : goal.returns-then-not-allows
returns-then-not-allows c =
    let a = c.args in
    let s : c.split_first.result ≡ Some (c.in_ok-name.field-0-0, c.in_ok-name.name) = grind arith in
    let z = rw s at c.split_first.ensures.cases in
    let k : c.option.result ≡ Some c.in_ok-n.n = grind arith in
    rw (sym c.allows.ensures ∙ c.if-not-allows.true) at (rw k at (option_cite a.verb a.seen a.t.now _ _ c.option.result z.0 c.option.ensures))

pub returns-then-was_seen : goal.returns-then-was_seen
returns-then-was_seen c =
    let a = c.args in
    let s : c.split_first.result ≡ Some (c.in_ok-name.field-0-0, c.in_ok-name.name) = grind arith in
    let z = rw s at c.split_first.ensures.cases in
    let k : c.option.result ≡ Some c.in_ok-n.n = grind arith in
    rw (sym c.allows.ensures ∙ c.if-not-allows.false, sym c.was_seen.ensures ∙ c.if-was_seen.true) at (rw k at (option_cite a.verb a.seen a.t.now _ _ c.option.result z.0 c.option.ensures))

pub returns : goal.returns
returns c =
    let a = c.args in
    let s : c.split_first.result ≡ Some (c.in_ok-name.field-0-0, c.in_ok-name.name) = grind arith in
    let z = rw s at c.split_first.ensures.cases in
    let k : c.option.result ≡ Some c.in_ok-n.n = grind arith in
    rw (sym c.allows.ensures ∙ c.if-not-allows.false, sym c.was_seen.ensures ∙ c.if-was_seen.false) at (rw k at (option_cite a.verb a.seen a.t.now _ _ c.option.result z.0 c.option.ensures))
