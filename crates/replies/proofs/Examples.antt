-- Worked replies, refused ones among them, each with its answer and what a room of twelve dots then holds. Assumes nothing.
use Prim.Native.Nat.{ℕ}
use Prim.Native.String.{String}
use mathlib.Core.Path.{◌≡◌, refl}
use mathlib.Core.List.{List, [], ◌∷◌, map}
use lib.ListN.{replicate}
use Rattle.text.specs.Bytes.{bytes, one_of, same_bytes, is_word}
use Rattle.text.specs.Lists.{all_of, any_of, up_to, past}
use Rattle.text.specs.Room.{wrote, fitted, filled}
use Rattle.terms.specs.Signs.{after, gives, signs, stands, meant, two}
use Rattle.forms.specs.Forms.{is_name}
use Rattle.replies.specs.Lines.{is_keyword, quote_len, item_form, form_of, line_len, lines_from, lines_of}
use Rattle.replies.specs.Order.{judge}
use Rattle.replies.specs.Reading.{records_of, verdict_of, read_answer, read_room}
use Rattle.replies.specs.Items.{plain_of, is_value, value_answer, value_room}
use Rattle.std.proofs.Common.{Result, Ok, Err}
use Rattle.text.specs.Room.{refusal_at}
use Rattle.text.specs.declared.Refusal.{Refusal}

abbrev dots : List ℕ
dots = replicate 12 46

abbrev read : String → String × Result ℕ Refusal × List ℕ
read s = (s, read_answer 12 (bytes s), read_room dots (bytes s))

-- accepted: ends of line of each kind; a comment; an empty value; what follows the end; a quote that closes on a later line, with an escaped one in it; a reserved
-- word as a group's type; words that are reserved only as they are
abbrev accepted : List (String × Result ℕ Refusal × List ℕ)
accepted =
    ("endoutput", Ok 1, 67 ∷ replicate 11 46)
    ∷ ("a=1\r\nendoutput\r\n", Ok 10, 64 ∷ 0 ∷ 0 ∷ 0 ∷ 1 ∷ 0 ∷ 2 ∷ 0 ∷ 1 ∷ 67 ∷ 46 ∷ 46 ∷ [])
    ∷ ("\r\n\r# a=\"\na=\n\rendoutput", Ok 10, 64 ∷ 0 ∷ 9 ∷ 0 ∷ 1 ∷ 0 ∷ 11 ∷ 0 ∷ 0 ∷ 67 ∷ 46 ∷ 46 ∷ [])
    ∷ ("endoutput\na=\"", Ok 1, 67 ∷ replicate 11 46)
    ∷ ("a=\"\n`\"endoutput\"\nendoutput", Ok 10, 64 ∷ 0 ∷ 0 ∷ 0 ∷ 1 ∷ 0 ∷ 2 ∷ 0 ∷ 14 ∷ 67 ∷ 46 ∷ 46 ∷ [])
    ∷ ("begingroup=endgroup\nendgroup\nendoutput", Ok 7, 65 ∷ 0 ∷ 11 ∷ 0 ∷ 8 ∷ 66 ∷ 67 ∷ replicate 5 46)
    ∷ ("Endgroup=b\"=c\nendoutput", Ok 10, 64 ∷ 0 ∷ 0 ∷ 0 ∷ 8 ∷ 0 ∷ 9 ∷ 0 ∷ 4 ∷ 67 ∷ 46 ∷ 46 ∷ [])
    ∷ []

pub reads : map read (map (λ (e : String × Result ℕ Refusal × List ℕ). e.0) accepted) ≡ accepted
unfolding bytes one_of same_bytes is_word all_of any_of up_to past wrote fitted filled after is_name is_keyword quote_len item_form form_of line_len lines_from lines_of judge records_of verdict_of read_answer read_room
reads = refl

-- refused: no end; no such form; a group closed, or left open, at the wrong place; a ninth group; an open quote, also in a group, and in a line of no form; no room,
-- which is told last
abbrev refused : List (String × Result ℕ Refusal × List ℕ)
refused =
    ("", Err (refusal_at 25 0), dots)
    ∷ ("a=1\n", Err (refusal_at 25 4), dots)
    ∷ ("a\nendoutput", Err (refusal_at 21 0), dots)
    ∷ (" endoutput", Err (refusal_at 21 0), dots)
    ∷ ("endgroup=\nendoutput", Err (refusal_at 21 0), dots)
    ∷ ("begingroup=\"g\"\nendoutput", Err (refusal_at 21 0), dots)
    ∷ ("x=1\na=\"\n\"b\nendoutput", Err (refusal_at 21 4), dots)
    ∷ ("a=1\nendgroup\nendoutput", Err (refusal_at 22 4), dots)
    ∷ ("begingroup=g\nbegingroup=g\nbegingroup=g\nbegingroup=g\nbegingroup=g\nbegingroup=g\nbegingroup=g\nbegingroup=g\nbegingroup=g\n", Err (refusal_at 23 104), dots)
    ∷ ("begingroup=g\nbegingroup=g\nbegingroup=g\nbegingroup=g\nbegingroup=g\nbegingroup=g\nbegingroup=g\nbegingroup=g\n", Err (refusal_at 25 104), dots)
    ∷ ("begingroup=g\nendoutput", Err (refusal_at 24 13), dots)
    ∷ ("begingroup=g\na=\"\nendgroup\nendoutput", Err (refusal_at 25 35), dots)
    ∷ ("a=\"b`\"", Err (refusal_at 25 6), dots)
    ∷ ("1=\"", Err (refusal_at 21 0), dots)
    ∷ ("begingroup=g\nendgroup\na=1\nendoutput", Err (refusal_at 19 0), dots)
    ∷ ("begingroup=g\nendgroup\na=1\n=", Err (refusal_at 21 26), dots)
    ∷ []

pub refuses : map read (map (λ (e : String × Result ℕ Refusal × List ℕ). e.0) refused) ≡ refused
unfolding bytes one_of same_bytes is_word all_of any_of up_to past wrote fitted filled after is_name is_keyword quote_len item_form form_of line_len lines_from lines_of judge records_of verdict_of read_answer read_room
refuses = refl

-- values: a quoted one without its quotes and GRAVEs, a GRAVE before another byte, any other as it is; one whose quote closes too early, or never
abbrev values : List (String × Result ℕ Refusal × List ℕ)
values =
    ("", Ok 0, dots)
    ∷ ("\"a`\"``b`c\"", Ok 6, 97 ∷ 34 ∷ 96 ∷ 98 ∷ 96 ∷ 99 ∷ replicate 6 46)
    ∷ ("a`\"``", Ok 5, 97 ∷ 96 ∷ 34 ∷ 96 ∷ 96 ∷ replicate 7 46)
    ∷ ("\"\"", Ok 0, dots)
    ∷ ("\"a\"b", Err (refusal_at 21 0), dots)
    ∷ ("\"a`\"", Err (refusal_at 21 0), dots)
    ∷ ("abcdefghijklm", Err (refusal_at 19 0), dots)
    ∷ []

pub stands_for_lem : map (λ (e : String × Result ℕ Refusal × List ℕ). (e.0, value_answer 12 (bytes e.0), value_room dots (bytes e.0))) values ≡ values
unfolding bytes one_of wrote fitted filled after gives signs stands meant two quote_len plain_of is_value value_answer value_room
stands_for_lem = refl
