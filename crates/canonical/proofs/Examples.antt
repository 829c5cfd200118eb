-- Lines and their canonical writings, proved together by computation.
use Prim.Native.Nat.{ℕ}
use Prim.Native.String.{String}
use mathlib.Core.List.{List, map}
use mathlib.Core.Option.{Option, some}
use mathlib.Core.Path.{◌≡◌, refl}
use Rattle.text.specs.Bytes.{bytes, one_of, same_bytes, is_word}
use Rattle.text.specs.Lists.{all_of, any_of, up_to, past, run_len, parts, each, between, walk, every, given}
use Rattle.text.specs.Decimal.{value_from, is_decimal}
use Rattle.terms.specs.Signs.{twelve, two, after, gives, signs, raws, stands}
use Rattle.terms.specs.Terms.{terms_from, terms_of}
use Rattle.terms.specs.Rows.{long_flaw, odd_flaw, end_mode, opened_at, open_flaw, many_from, many_flaw, lexical_of}
use Rattle.words.specs.Words.{verb_names, long_names, short_names, lower, lowered, names, find, verb_of, option_of, verb_name, option_name, kinds, kind_of, all_name, session_name}
use Rattle.support.specs.Table15.{rows, cell_of, allowed}
use Rattle.forms.specs.Forms.{is_name, is_keep, is_level, is_place, is_plain_sign, ends_quote, is_text, items_in, is_list, list_of, text_of, value_of, entry_of, entry_parts, entries_of, said_of, property_of, topic_of}
use Rattle.forms.specs.Targets.{tag_len, is_numbered, is_starred, is_segment, are_segments, segments_of, path_of, target_of}
use Rattle.reading.specs.Reading.{decide_verb, decide_option, decide_argument, decide_target, decide_property, decide_after, decide, walk_terms, reading_of, command_of}
use Rattle.canonical.specs.Canonical.{in_quotes, closing, is_plain, write_text, write_texts, write_value, write_entry, write_property, escapes, write_more, write_place, writing}
use Rattle.canonical.specs.Writings.{writings}

-- what a line is written as, and what it should be
abbrev pub writes : String × Option String → Option (List ℕ)
writes p = given (command_of (bytes p.0)) (λ c. some (writing c))

abbrev pub expected : String × Option String → Option (List ℕ)
expected p = given p.1 (λ s. some (bytes s))

pub lines_writings : map writes writings ≡ map expected writings
unfolding writings bytes one_of same_bytes is_word all_of any_of up_to past run_len parts each between walk every value_from is_decimal twelve two after gives signs raws stands terms_from terms_of long_flaw odd_flaw end_mode opened_at open_flaw many_from many_flaw lexical_of verb_names long_names short_names names lowered lower find verb_of option_of verb_name option_name kinds kind_of all_name session_name is_name is_keep is_level is_place is_plain_sign ends_quote is_text items_in is_list list_of text_of value_of entry_of entry_parts entries_of said_of property_of topic_of tag_len is_numbered is_starred is_segment are_segments segments_of path_of target_of allowed cell_of rows decide_verb decide_option decide_argument decide_target decide_property decide_after decide walk_terms reading_of command_of in_quotes closing is_plain write_text write_texts write_value write_entry write_property escapes write_more write_place writing
lines_writings = refl
