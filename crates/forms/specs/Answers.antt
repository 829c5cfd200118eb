-- What the code answers of a form, in the terms of specs/Forms and specs/Targets: numbers and places in the text.
use Rattle.std.specs.Prelude.{ℕ, List, Bool, true, false, length, take, drop, Some, None}
use Rattle.std.specs.Prelude as std
use Rattle.std.proofs.Math.Option.{Option, none, some}
use Rattle.text.specs.Lists.{up_to}
use Rattle.terms.specs.declared.Mode.TheVariants.{Out}
use Rattle.terms.specs.Signs.{signs}
use Rattle.forms.specs.declared.Shape.{Shape}
use Rattle.forms.specs.declared.Where.{Where}
use Rattle.forms.specs.declared.Where.TheVariants as where'
use Rattle.forms.specs.declared.Piece.{Piece}
use Rattle.forms.specs.declared.Piece.TheVariants as piece
use Rattle.forms.specs.Forms.{Said, alone, equals, matches, Property, property_of, topic_of, value_of, entries_of}
use Rattle.forms.specs.Targets.{Segment, here, above, child, children, segment_of, Target, session, path, target_of, is_separator}

abbrev pub is_some : {A : Type 0} → Option A → Bool
is_some none = false
is_some (some a) = true

-- the operator of a property: 0 none, 1 `=`, 2 `==`
abbrev pub operator_of : Said → ℕ
operator_of alone = 0
operator_of (equals v) = 1
operator_of (matches v) = 2

-- a property by how many bytes its name has and its operator
abbrev pub shape : ℕ → ℕ → Shape
shape name operator = record { name = name; operator = operator }

-- a property as the code gives it: how many bytes its name has, and its operator. Its value stands after both, to the text's end.
abbrev pub shape_of : Option Property → std.Option Shape
shape_of none = None
shape_of (some p) = Some (shape (length p.name) (operator_of p.said))

-- the text is the first n bytes of s: a part of a line from where it begins
unfoldable pub property_in : List ℕ → ℕ → std.Option Shape
property_in s n = shape_of (property_of (signs Out (take n s)))

unfoldable pub topic_in : List ℕ → std.Option Shape
topic_in t = shape_of (topic_of (signs Out t))

unfoldable pub is_value_in : List ℕ → ℕ → Bool
is_value_in s n = is_some (value_of (signs Out (take n s)))

unfoldable pub are_entries_in : List ℕ → ℕ → Bool
are_entries_in s n = is_some (entries_of (signs Out (take n s)))

-- a target as the code gives it
abbrev pub where_of : Option Target → std.Option Where
where_of none = None
where_of (some session) = Some where'.Session
where_of (some (path rooted ss)) = Some (where'.Path rooted (length ss))

unfoldable pub where_in : List ℕ → std.Option Where
where_in t = where_of (target_of t)

-- the segment at a place of a path: n bytes up to the next separator or the end
abbrev pub piece_of : ℕ → Option Segment → std.Option Piece
piece_of n none = None
piece_of n (some here) = Some (piece.Here n)
piece_of n (some above) = Some (piece.Above n)
piece_of n (some (child tag number)) = Some (piece.Child n (length tag) number)
piece_of n (some (children tag)) = Some (piece.Children n (length tag))

unfoldable pub segment_text : List ℕ → ℕ → List ℕ
segment_text t at = up_to is_separator (drop at t)

unfoldable pub segment_at : List ℕ → ℕ → std.Option Piece
segment_at t at = piece_of (length (segment_text t at)) (segment_of (segment_text t at))
