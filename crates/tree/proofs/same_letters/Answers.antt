-- `tree::same_letters` meets its contract.
use Rattle.std.proofs.Common.{rules, tests}
use Rattle.std.proofs.lemmas.Bool.Decides.{same_from_decides}
use Rattle.std.proofs.lemmas.Iterator.{YieldsList-from_slice, YieldsList-from_zip, same_from_all}
use Rattle.text.specs.Bytes.{same_bytes}
use Rattle.text.proofs.SameTexts.{same_eq, eq_same}
use Rattle.tree.proofs.same_letters.Goals as goal

pub returns : goal.returns
returns c =
    let a = c.args.a.now in
    let b = c.args.b.now in
    same_from_decides _ (same_bytes a b)
    (same_from_all c.all.new.self _ _ a b c.all.ensures.ran (YieldsList-from_zip (YieldsList-from_slice a cc) (YieldsList-from_slice b cc)) c.requires (λ x q k. search (rules, tests)) (λ x q k. search (rules, tests)))
    (same_eq a b, eq_same a b)
