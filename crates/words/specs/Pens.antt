-- What a pen writes: where a text ends, and what the room then holds.
use Rattle.std.specs.Prelude.{ℕ, ◌+◌, ◌-◌, ◌^◌, ◌<◌, min, List, ◌≡◌, length}
use Rattle.std.proofs.lemmas.List.Edits.{sets}
use Rattle.words.specs.declared.Pen.{Pen}

-- what a pen leaves that wrote a text t: in the same room t stands from its place on, as far as the room goes, all else as it was; and its place is the end of
-- t, or the last number where that is further
pub record Puts (before : Pen) (t : List ℕ) (after : Pen) : Type 0 where
  pub same : after.out.ghost_name ≡ before.out.ghost_name
  pub ends : after.at ≡ before.at + min (length t) (2 ^ 64 - 1 - before.at)
  pub holds : after.out.now ≡ sets before.out.now before.at t
  pub within : length before.out.now < 2 ^ 63
