use mathlib.Core.Path.{◌≡◌}
use mathlib.Core.Bool.{Bool, true, false, not}
use Prim.Native.Nat.{ℕ}
use Rattle.std.proofs.Common.{◌⊎◌}
use Rattle.std.proofs.Common.{arith}
use Rattle.std.proofs.lemmas.Bool.Decides.{nat_tests}
use Rattle.text.specs.Bytes.{bytes, one_of}
use Rattle.terms.specs.Signs.{two}
use Rattle.canonical.specs.Written.{graves}
use Rattle.canonical.proofs.is_graved.Goals as goal

of_grave : (q : Bool) (b : ℕ) → (b ≡ 34) ⊎ (b ≡ 96) → true ≡ graves q b
unfolding two one_of bytes
of_grave true b h = grind (arith, nat_tests)
of_grave false b h = grind (arith, nat_tests)

of_space : (q : Bool) (b : ℕ) → b ≡ 32 → not q ≡ graves q b
unfolding two one_of bytes
of_space true b h = grind (arith, nat_tests)
of_space false b h = grind (arith, nat_tests)

of_other : (q : Bool) (b : ℕ) → (b ≡ 96 → ⊥) → (b ≡ 34 → ⊥) → (b ≡ 32 → ⊥) → false ≡ graves q b
unfolding two one_of bytes
of_other true b g m s = grind (arith, nat_tests)
of_other false b g m s = grind (arith, nat_tests)

pub returns-in-96 : goal.returns-in-96
returns-in-96 c = of_grave c.args.quoted c.args.b c.in-96.is

pub returns-in-32 : goal.returns-in-32
returns-in-32 c = of_space c.args.quoted c.args.b c.in-32.is

pub returns-in_default : goal.returns-in_default
returns-in_default c = of_other c.args.quoted c.args.b (λ e. grind arith) (λ e. grind arith) (λ e. grind arith)
