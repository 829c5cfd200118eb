use Prim.Native.Nat.{ℕ}
use mathlib.Core.Path.{ap}
use mathlib.Core.List.{List}
use lib.ListN.{take}
use Rattle.explaining.specs.Explained.{mark_text, kept_text, refused_text}
use Rattle.words.proofs.Pens.{more, as_text}
use Rattle.explaining.proofs.PutLaws.{take_least}
use Rattle.explaining.proofs.put_refused.Goals as goal

pub returns : goal.returns
unfolding refused_text
returns c =
    let a = c.args in
    let kept = take c.min.result a.line.now in
    let k = take_least a.line.now 1024 c.min.result c.min.ensures in
    let b = take_least kept a.place c.min-2.result c.min-2.ensures in
    as_text (ap (λ (l : List ℕ). kept_text l a.number a.place) k) (more c.put_visible.ensures (more c.put_end.ensures (more (as_text (ap mark_text b) c.put_mark.ensures) c.put_reason.ensures)))
