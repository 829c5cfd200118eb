-- Request c, the paper's sentence: "the longest beginning of the term that is also a beginning of some acceptable text of that form". A form is a test of texts.
use Rattle.std.specs.Prelude.{ℕ, ◌≤◌, ◌≡◌, List, ◌++◌, Bool, true, length}

-- p is a beginning of a text: the text is p and some rest, which may be empty, as p may
pub record IsBeginning (p text : List ℕ) : Type 0 where
  pub rest : List ℕ
  pub whole : p ++ rest ≡ text

-- p is a beginning of some acceptable text of the form: there is such a text
pub record BeginsSome (form : List ℕ → Bool) (p : List ℕ) : Type 0 where
  pub text : List ℕ
  pub acceptable : form text ≡ true
  pub begins : IsBeginning p text

-- the longest beginning of a term that is also a beginning of some acceptable text of the form has n bytes: one of n bytes is such a beginning, and none is longer
pub record Longest (form : List ℕ → Bool) (term : List ℕ) (n : ℕ) : Type 0 where
  pub beginning : List ℕ
  pub begins : IsBeginning beginning term
  pub size : length beginning ≡ n
  pub some : BeginsSome form beginning
  pub most : (p : List ℕ) → IsBeginning p term → BeginsSome form p → length p ≤ n
