-- The tree: house records, one byte of kind, then a body whose length the kind fixes. Kind 16, a node, has 21 bytes: parent (2, high byte first),
-- tag length (1), tag padded with zeros (16), number (2, high first). Node 0 is the root and has no record; record i is node i.
use Rattle.std.specs.Prelude.{ℕ, zero, suc, ◌+◌, ◌*◌, ◌/◌, ◌-◌, List, [], ◌∷◌, Bool, false, cond, not, ◌&&◌, ◌||◌, length, get_or, take, drop, ltb, eqb, Result, Ok, Err}
use Rattle.text.specs.Bytes.{same_bytes, is_letter}
use Rattle.text.specs.Lists.{all_of, any_of}
use Rattle.text.specs.Room.{be16}

-- ---- the fields of the record that a list begins with

abbrev pub kind_in : List ℕ → ℕ
kind_in r = get_or r 0 0

abbrev pub parent_in : List ℕ → ℕ
parent_in r = be16 (get_or r 1 0) (get_or r 2 0)

abbrev pub tag_len_in : List ℕ → ℕ
tag_len_in r = get_or r 3 0

unfoldable pub tag_in : List ℕ → List ℕ
tag_in r = take (tag_len_in r) (drop 4 r)

unfoldable pub padding_in : List ℕ → List ℕ
padding_in r = take (16 - tag_len_in r) (drop (4 + tag_len_in r) r)

abbrev pub number_in : List ℕ → ℕ
number_in r = be16 (get_or r 20 0) (get_or r 21 0)

-- ---- bad records

abbrev pub is_zero : ℕ → Bool
is_zero b = eqb b 0

-- the same parent, tag and number
unfoldable pub same_node : List ℕ → List ℕ → Bool
same_node a b = eqb (parent_in a) (parent_in b) && (eqb (number_in a) (number_in b) && same_bytes (tag_in a) (tag_in b))

-- one of the first n records of e is the same node as r
unfoldable pub twin_in : ℕ → List ℕ → List ℕ → Bool
twin_in zero e r = false
twin_in (suc n) e r = same_node e r || twin_in n (drop 22 e) r

unfoldable pub twin : List ℕ → List ℕ → Bool
twin e r = twin_in (length e / 22) e r

abbrev pub is_true : Bool → Bool
is_true b = b

-- A record is bad if cut, of another kind, beyond the 512th, its parent is not below its own number, tag length isn't 1 to 16, a tag byte is no letter,
-- padding isn't zero, number is 0,
unfoldable pub bad_form : List ℕ → ℕ → Bool
bad_form r k =
    any_of is_true
    (ltb (length r) 22
    ∷ not (eqb (kind_in r) 16)
    ∷ ltb 511 k
    ∷ ltb k (parent_in r)
    ∷ ltb (tag_len_in r) 1
    ∷ ltb 16 (tag_len_in r)
    ∷ not (all_of is_letter (tag_in r))
    ∷ not (all_of is_zero (padding_in r))
    ∷ eqb (number_in r) 0
    ∷ [])

-- or an earlier record has the same parent, tag and number. The record that r begins with has number k + 1; e has the records before it.
unfoldable pub bad_record : List ℕ → List ℕ → ℕ → Bool
bad_record e r k = bad_form r k || twin e r

-- ---- the check

-- how many records a tree has, a cut one at its end counted
abbrev pub records : List ℕ → ℕ
records t = (length t + 21) / 22

-- the first bad one of the n records that follow the first k, by its start; an empty tree is good
unfoldable pub check_from : ℕ → List ℕ → ℕ → Result Unit ℕ
check_from zero t k = Ok tt
check_from (suc n) t k =
    let later = check_from n t (k + 1) in
    cond (bad_record (take (22 * k) t) (drop (22 * k) t) k) (Err (22 * k)) later

unfoldable pub check_tree : List ℕ → Result Unit ℕ
check_tree t = check_from (records t) t 0

-- ---- the nodes of a tree

-- the record of node k, which is record k
unfoldable pub record_at : List ℕ → ℕ → List ℕ
record_at t k = drop (22 * (k - 1)) t

abbrev pub parent : List ℕ → ℕ → ℕ
parent t k = parent_in (record_at t k)

abbrev pub tag : List ℕ → ℕ → List ℕ
tag t k = tag_in (record_at t k)

abbrev pub number : List ℕ → ℕ → ℕ
number t k = number_in (record_at t k)
