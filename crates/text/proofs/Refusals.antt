-- What two answers that are the same refusal have in common. Assumes nothing.
use Rattle.std.proofs.Common.{◌≡◌, ℕ, ap, Result, Err}
use Rattle.text.specs.declared.Refusal.{Refusal}
use Rattle.text.specs.Room.{refusal_at}

module _ {A : Type 0} {k p j q : ℕ} (e : ◌≡◌ {A = Result A Refusal} (Err (refusal_at k p)) (Err (refusal_at j q))) where
  same_refusal : refusal_at k p ≡ refusal_at j q
  same_refusal = cc

  pub same_number : k ≡ j
  same_number = ap (λ (r : Refusal). r.number) same_refusal

  pub same_place : p ≡ q
  same_place = ap (λ (r : Refusal). r.place) same_refusal
