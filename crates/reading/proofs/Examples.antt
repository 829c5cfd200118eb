-- Document 01's thirteen lines, `Show` as request a has it, proved together by computation; request b's lines alike; and worked examples.
use Prim.Native.Nat.{ℕ}
use Prim.Native.String.{String}
use mathlib.Core.List.{List, [], ◌∷◌, map}
use mathlib.Core.Bool.{true, false}
use lib.ListN.{set, replicate}
use mathlib.Core.Path.{◌≡◌, refl}
use Rattle.text.specs.Room.{wrote, fitted, filled, refusal_at}
use Rattle.text.specs.Bytes.{bytes, one_of, same_bytes, is_word}
use Rattle.text.specs.Lists.{all_of, any_of, up_to, past, run_len, parts, walk, every}
use Rattle.text.specs.Decimal.{value_from, is_decimal}
use Rattle.terms.specs.declared.Mode.TheVariants.{Out}
use Rattle.terms.specs.Signs.{twelve, two, after, gives, signs, raws, stands}
use Rattle.terms.specs.Terms.{terms_from, terms_of}
use Rattle.terms.specs.Rows.{long_flaw, odd_flaw, end_mode, opened_at, open_flaw, many_from, many_flaw, lexical_of}
use Rattle.words.specs.Words.{verb_names, long_names, short_names, lower, lowered, names, find, verb_of, option_of, kinds, kind_of, all_name, session_name}
use Rattle.support.specs.Table15.{rows, cell_of, allowed}
use Rattle.forms.specs.Forms.{is_name, is_keep, is_level, is_place, is_plain_sign, ends_quote, is_text, items_in, is_list, list_of, text_of, value_of, entry_of, entry_parts, entries_of, said_of, property_of, topic_of}
use Rattle.forms.specs.Automata.{text_over}
use Rattle.forms.specs.Targets.{tag_len, is_numbered, is_starred, is_segment, are_segments, segments_of, path_of, target_of}
use Rattle.reach.specs.Machine.{reach_by}
use Rattle.reach.specs.Numbers.{digit_more, is_all_letter, all_step, first_step}
use Rattle.reach.specs.Roads.{start_step, part_step, tag_end, tag_step, number_step}
use Rattle.reach.specs.Stages.{free_step, comma_step, is_name_byte, name_step, text_on, value_step, said_step, in_text, items_next, items_on, in_items}
use Rattle.reach.specs.Reach.{reach_of}
use Rattle.reading.specs.Reading.{state, refuses, decide_verb, decide_option, decide_argument, decide_target, decide_property, decide_after, decide, walk_terms, reading_of}
use Rattle.terms.specs.Scan.{span}
use Rattle.reading.specs.Records.{records_of, listed_in, refusal_record, cut_record, target_span, target_in, target_part}
use Rattle.reading.specs.Cursor.{first_cursor}
use Rattle.reading.specs.declared.Phase.TheVariants.{First, Options}
use Rattle.reading.specs.Order.{holds, order, is_first_of}
use Rattle.reading.specs.Lines.{lines, lines_of_b}
use Rattle.std.proofs.Common.{Err}

-- of each line with its answer: the line's records are that answer
pub lines_answers : map (λ (l : String × List ℕ). listed_in (reading_of (bytes l.0))) lines ≡ map (λ (l : String × List ℕ). l.1) lines
unfolding lines text_over bytes one_of same_bytes is_word all_of any_of up_to past run_len parts walk every value_from is_decimal twelve two after gives signs raws stands terms_from terms_of long_flaw odd_flaw end_mode opened_at open_flaw many_from many_flaw lexical_of verb_names long_names short_names names lowered lower find verb_of option_of kinds kind_of all_name session_name is_name is_keep is_level is_place is_plain_sign ends_quote is_text items_in is_list list_of text_of value_of entry_of entry_parts entries_of said_of property_of topic_of tag_len is_numbered is_starred is_segment are_segments segments_of path_of target_of reach_of reach_by digit_more is_all_letter all_step first_step start_step part_step tag_end tag_step number_step free_step comma_step is_name_byte name_step text_on value_step said_step in_text items_next items_on in_items allowed cell_of rows decide_verb decide_option decide_argument decide_target decide_property decide_after decide walk_terms reading_of records_of
lines_answers = refl

-- the same of request b's lines
pub lines_of_b_lem : map (λ (l : String × List ℕ). listed_in (reading_of (bytes l.0))) lines_of_b ≡ map (λ (l : String × List ℕ). l.1) lines_of_b
unfolding lines_of_b text_over bytes one_of same_bytes is_word all_of any_of up_to past run_len parts walk every value_from is_decimal twelve two after gives signs raws stands terms_from terms_of long_flaw odd_flaw end_mode opened_at open_flaw many_from many_flaw lexical_of verb_names long_names short_names names lowered lower find verb_of option_of kinds kind_of all_name session_name is_name is_keep is_level is_place is_plain_sign ends_quote is_text items_in is_list list_of text_of value_of entry_of entry_parts entries_of said_of property_of topic_of tag_len is_numbered is_starred is_segment are_segments segments_of path_of target_of reach_of reach_by digit_more is_all_letter all_step first_step start_step part_step tag_end tag_step number_step free_step comma_step is_name_byte name_step text_on value_step said_step in_text items_next items_on in_items allowed cell_of rows decide_verb decide_option decide_argument decide_target decide_property decide_after decide walk_terms reading_of records_of
lines_of_b_lem = refl

-- 20 before 8, which no line shows: a state of verb 1, cd, that has seen option 5, force, which cd can't have
pub twenty_before_eight :
    let s = state Options 1 (set (replicate 13 false) 5 true) 0 in
    let t = signs Out (bytes "-f") in
    (decide s t ≡ refuses 20) × (is_first_of (holds s t) order 20 ≡ true) × (is_first_of (holds s t) order 8 ≡ false)
unfolding holds order is_first_of bytes same_bytes twelve two after gives signs raws long_names short_names names lowered lower find verb_names verb_of option_of allowed cell_of rows decide_option decide
twenty_before_eight = (refl, refl, refl)

-- before a line's first term nothing is passed, seen or counted
pub first_cursor_lem : (first_cursor.at ≡ 0) × (first_cursor.state.phase ≡ First) × (first_cursor.state.verb ≡ 0) × (first_cursor.state.seen ≡ replicate 13 false) × (first_cursor.state.count ≡ 0)
first_cursor_lem = (refl, refl, refl, refl, refl)

-- where the target of a line stands
pub target_there : target_in (reading_of (bytes "show /system1/cpu4")) ≡ span 5 13
unfolding target_span bytes one_of same_bytes is_word all_of any_of up_to past run_len parts walk every value_from is_decimal twelve two after gives signs raws stands terms_from terms_of long_flaw odd_flaw end_mode opened_at open_flaw many_from many_flaw lexical_of verb_names long_names short_names names lowered lower find verb_of option_of kinds kind_of all_name session_name is_name is_keep is_level is_place is_plain_sign ends_quote is_text items_in is_list list_of text_of value_of entry_of entry_parts entries_of said_of property_of topic_of tag_len is_numbered is_starred is_segment are_segments segments_of path_of target_of reach_of reach_by digit_more is_all_letter all_step first_step start_step part_step tag_end tag_step number_step free_step comma_step is_name_byte name_step text_on value_step said_step in_text items_next items_on in_items allowed cell_of rows decide_verb decide_option decide_argument decide_target decide_property decide_after decide walk_terms reading_of
target_there = refl

-- a line without a target, and lines that are refused at the target and after it, give no part
pub no_target : (target_part (bytes "show") ≡ []) × (target_part (bytes "cd /system1/") ≡ []) × (target_part (bytes "reset /system1 -f") ≡ [])
unfolding target_part target_span bytes one_of same_bytes is_word all_of any_of up_to past run_len parts walk every value_from is_decimal twelve two after gives signs raws stands terms_from terms_of long_flaw odd_flaw end_mode opened_at open_flaw many_from many_flaw lexical_of verb_names long_names short_names names lowered lower find verb_of option_of kinds kind_of all_name session_name is_name is_keep is_level is_place is_plain_sign ends_quote is_text items_in is_list list_of text_of value_of entry_of entry_parts entries_of said_of property_of topic_of tag_len is_numbered is_starred is_segment are_segments segments_of path_of target_of reach_of reach_by digit_more is_all_letter all_step first_step start_step part_step tag_end tag_step number_step free_step comma_step is_name_byte name_step text_on value_step said_step in_text items_next items_on in_items allowed cell_of rows decide_verb decide_option decide_argument decide_target decide_property decide_after decide walk_terms reading_of
no_target = (refl, refl, refl)

-- the records that a lister makes, in room of one byte too few and of the size
pub no_room :
    (fitted 3 (refusal_record 4 6) ≡ Err (refusal_at 19 0)) × (filled (1 ∷ 2 ∷ 3 ∷ []) (refusal_record 4 6) ≡ 1 ∷ 2 ∷ 3 ∷ []) × (fitted 0 cut_record ≡ Err (refusal_at 19 0)) × (filled (1 ∷ []) cut_record ≡ 7 ∷ [])
unfolding fitted filled wrote
no_room = (refl, refl, refl, refl)
