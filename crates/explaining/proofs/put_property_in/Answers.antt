use Prim.Native.Nat.{ℕ, ◌+◌, ◌-◌}
use mathlib.Core.List.{List}
use mathlib.Core.Path.{◌≡◌, ap, ◌∙◌}
use lib.ListN.{length, take, drop}
use lib.Seq.{drop-drop}
use Rattle.text.proofs.Slices.{part_from}
use Rattle.explaining.specs.Explained.{property_text}
use Rattle.words.proofs.Pens.{as_text}
use Rattle.explaining.proofs.PutLaws.{take_least, drop_least}
use Rattle.explaining.proofs.put_property_in.Goals as goal

pub returns : goal.returns
returns c =
    let a = c.args in
    let t = a.t.now in
    let s = c.split_at in
    let rest = s.result.1.now in
    let k = c.min-2.result in
    let name : s.result.0.now ≡ take a.len t = s.ensures.front ∙ take_least t a.len c.min.result c.min.ensures in
    let from : rest ≡ drop a.len t = s.ensures.back ∙ drop_least t a.len c.min.result c.min.ensures in
    let v : take (length rest - k) (drop k rest) ≡ drop (a.len + a.operator) t = part_from rest k ∙ drop_least rest a.operator k c.min-2.ensures ∙ ap (drop a.operator) from ∙ drop-drop a.operator a.len t in
    as_text (ap (λ (x : List ℕ). property_text x a.operator (take (length rest - k) (drop k rest))) name ∙ ap (λ (y : List ℕ). property_text (take a.len t) a.operator y) v) c.put_property.ensures
