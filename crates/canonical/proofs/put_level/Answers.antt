use mathlib.Core.Path.{sym, ◌∙◌}
use Rattle.words.proofs.Pens.{as_text}
use Rattle.text.specs.Bytes.{bytes}
use Rattle.words.specs.Words.{names, all_name}
use Rattle.canonical.specs.Written.{level_in}
use Prim.Native.Nat.{ℕ}
use mathlib.Core.Path.{◌≡◌, ap}
use mathlib.Core.Bool.{true, false}
use mathlib.Core.List.{List}
use denote.Ref.{Bor}
use Rattle.canonical.proofs.put_level.Goals.{then-is_all, else-is_all}
use Rattle.canonical.proofs.put_level.Goals as goal

level_all : (s : List ℕ) → names all_name s ≡ true → level_in s ≡ all_name
unfolding level_in
level_all s e = rw e

level_number : (s : List ℕ) → names all_name s ≡ false → level_in s ≡ s
unfolding level_in
level_number s e = rw e

pub returns : goal.returns
unfolding all_name bytes
returns c =
    elim c.if-is_all.branch [
      | then-is_all w ↦ as_text (ap (λ (r : Bor (List ℕ)). r.now) w.text-is ∙ sym (level_all c.args.s.now (sym c.is_all.ensures ∙ w.if-is_all.true))) c.text.ensures
      | else-is_all w ↦ as_text (ap (λ (r : Bor (List ℕ)). r.now) w.text-is ∙ sym (level_number c.args.s.now (sym c.is_all.ensures ∙ w.if-is_all.false))) c.text.ensures
    ]
