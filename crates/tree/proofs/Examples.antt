-- Worked examples, by computation: one statement about one list. Assumes nothing.
use mathlib.Core.Path.{◌≡◌, refl}
use Prim.Native.Nat.{ℕ, ◌-◌, ◌/◌, ◌%◌}
use Prim.Native.String.{String}
use mathlib.Core.List.{List, [], ◌∷◌, ◌++◌, map}
use lib.ListN.{length, replicate, set}
use Rattle.text.specs.Bytes.{bytes, same_bytes}
use Rattle.text.specs.Lists.{all_of, any_of, parts, run_len}
use Rattle.text.specs.Decimal.{value_from, is_decimal, width, digits}
use Rattle.text.specs.Room.{wrote, fitted, filled, refusal_at}
use Rattle.words.specs.Words.{session_name}
use Rattle.forms.specs.Targets.{tag_len, is_numbered, is_starred, is_segment, are_segments, segment_of, segments_of, path_of, target_of}
use Rattle.reach.specs.Machine.{reach_by}
use Rattle.reach.specs.Numbers.{digit_more}
use Rattle.reach.specs.Roads.{start_step, part_step, tag_end, tag_step, number_step}
use Rattle.reach.specs.Reach.{reach_of}
use Rattle.tree.specs.declared.Resolved.{Resolved}
use Rattle.tree.specs.declared.Resolved.TheVariants as resolved
use Rattle.tree.specs.Tree.{tag_in, padding_in, same_node, twin_in, twin, bad_form, bad_record, check_from, check_tree, record_at}
use Rattle.tree.specs.Path.{segment, path_up, full_path, path_answer}
use Rattle.tree.specs.Resolve.{nodes_from, tagged_in, named_in, is_tagged, is_named, tagged_under, named_under, along, instances_of, resolve_of, resolve_list}
use Rattle.std.proofs.Common.{Ok, Err, Result}
use Rattle.text.specs.declared.Refusal.{Refusal}

-- a record: parent, tag, number
unfoldable node : ℕ → String → ℕ → List ℕ
node parent tag number =
    (16 ∷ parent / 256 ∷ parent % 256 ∷ length (bytes tag) ∷ bytes tag) ++ (replicate (16 - length (bytes tag)) 0 ++ (number / 256 ∷ number % 256 ∷ []))

-- system1 with cpu1, cpu4 and fan65535, and system2 with cpu1
unfoldable small : List ℕ
small = node 0 "system" 1 ++ (node 1 "cpu" 1 ++ (node 1 "cpu" 4 ++ (node 1 "fan" 65535 ++ (node 0 "system" 2 ++ node 5 "cpu" 1))))

-- what a text addresses from system1, in a list of two places full of 9s: the answer and the list
unfoldable addressed : String → Result Resolved Refusal × List ℕ
addressed s = (resolve_of 2 (bytes s) small 1, resolve_list (9 ∷ 9 ∷ []) (bytes s) small 1)

texts : List String
texts = "" ∷ "/" ∷ "." ∷ ".." ∷ "../.." ∷ "cpu4" ∷ "cpu*" ∷ "/system2/cpu1" ∷ "\\system2\\cpu*" ∷ "/system2/cpu4" ∷ "/cpu1" ∷ "cpu1/../fan65535" ∷ "SESSION" ∷ "cpu" ∷ "CPU4" ∷ "session" ∷ []

resolving : map addressed texts
    ≡ (Ok (resolved.Nodes 1), 1 ∷ 9 ∷ [])
    ∷ (Ok (resolved.Nodes 1), 0 ∷ 9 ∷ [])
    ∷ (Ok (resolved.Nodes 1), 1 ∷ 9 ∷ [])
    ∷ (Ok (resolved.Nodes 1), 0 ∷ 9 ∷ [])
    ∷ (Err (refusal_at 17 3), 9 ∷ 9 ∷ [])
    ∷ (Ok (resolved.Nodes 1), 3 ∷ 9 ∷ [])
    ∷ (Ok (resolved.Nodes 2), 2 ∷ 3 ∷ [])
    ∷ (Ok (resolved.Nodes 1), 6 ∷ 9 ∷ [])
    ∷ (Ok (resolved.Nodes 1), 6 ∷ 9 ∷ [])
    ∷ (Err (refusal_at 18 9), 9 ∷ 9 ∷ [])
    ∷ (Err (refusal_at 18 1), 9 ∷ 9 ∷ [])
    ∷ (Ok (resolved.Nodes 1), 4 ∷ 9 ∷ [])
    ∷ (Ok resolved.Session, 9 ∷ 9 ∷ [])
    ∷ (Err (refusal_at 12 3), 9 ∷ 9 ∷ [])
    ∷ (Err (refusal_at 18 0), 9 ∷ 9 ∷ [])
    ∷ (Err (refusal_at 12 7), 9 ∷ 9 ∷ [])
    ∷ []
unfolding texts addressed small node bytes same_bytes all_of any_of parts run_len value_from is_decimal wrote filled session_name tag_len is_numbered is_starred is_segment are_segments segment_of segments_of path_of target_of reach_of reach_by digit_more start_step part_step tag_end tag_step number_step tag_in padding_in same_node twin_in twin bad_form bad_record check_from check_tree record_at nodes_from tagged_in named_in is_tagged is_named tagged_under named_under along instances_of resolve_of resolve_list
resolving = refl

-- a good tree, where the node just before one is its parent; a twin; a parent that is the record itself; a byte of padding that is not zero
checks :
    (check_tree small ≡ Ok tt) × (check_tree (small ++ node 1 "cpu" 4) ≡ Err 132) × (check_tree (node 1 "cpu" 4) ≡ Err 0)
    × (check_tree (node 0 "system" 1 ++ set (node 1 "cpu" 1) 19 1) ≡ Err 22)
unfolding small node bytes same_bytes all_of any_of tag_in padding_in same_node twin_in twin bad_form bad_record check_from check_tree record_at
checks = (refl, refl, refl, refl)

paths :
    (full_path small 0 ≡ bytes "/") × (full_path small 4 ≡ bytes "/system1/fan65535")
    × (path_answer 16 small 4 ≡ Err (refusal_at 19 0)) × (path_answer 17 small 4 ≡ Ok 17) × (path_answer 18 small 7 ≡ Err (refusal_at 16 0))
unfolding small node bytes same_bytes all_of any_of width digits fitted tag_in padding_in same_node twin_in twin bad_form bad_record check_from check_tree record_at segment path_up full_path path_answer
paths = (refl, refl, refl, refl, refl)
