-- The arguments of keep, level, source and destination. Assumes nothing.
use Prim.Native.Nat.{ℕ}
use mathlib.Core.Path.{◌≡◌, sym}
use mathlib.Core.List.{List}
use mathlib.Core.Bool.{true, false}
use Rattle.text.specs.Decimal.{decimal_of}
use Rattle.text.proofs.Decimals.{is_decimal_lem, no_decimal}
use Rattle.forms.specs.Forms.{is_keep}
use Rattle.std.proofs.Common.{Option, Some, None}
use Rattle.std.specs.Option.{is_some}

pub keep_is : (t : List ℕ) (v : ℕ) → Some v ≡ decimal_of 4294967295 t → true ≡ is_keep t
unfolding is_keep
keep_is t v e = sym (is_decimal_lem 4294967295 t v e).0

pub keep_not : (t : List ℕ) → None ≡ decimal_of 4294967295 t → false ≡ is_keep t
unfolding is_keep
keep_not t e = sym (no_decimal 4294967295 t e)

pub keep_by : (t : List ℕ) (o : Option ℕ) → o ≡ decimal_of 4294967295 t → is_some o ≡ is_keep t
keep_by t None e = keep_not t e
keep_by t (Some v) e = keep_is t v e
