-- `replies::item_form` meets its contract.
use Rattle.std.proofs.Common.{◌≤◌, length, take, drop, ◌-◌, sym, ◌∙◌, arith}
use Rattle.text.proofs.Slices.{length_from}
use Rattle.replies.proofs.FindLaws.{closed_within}
use Rattle.replies.proofs.item_form.Goals as goal
use Rattle.replies.proofs.item_form.Goals.{In-Some}

-- the quote closes within the value
inside : (c : In-Some) → c.in-Some.n ≤ length (take (length c.args.v.now - 1) (drop 1 c.args.v.now))
inside c = closed_within _ _ (sym c.quote_len.ensures ∙ c.in-Some.is)

pub slice_bounds-line_ends-count : goal.slice_bounds-line_ends-count
slice_bounds-line_ends-count c = inside (goal.at.slice_bounds-line_ends-count c).In-Some

pub slice_bounds-line_ends-start : goal.slice_bounds-line_ends-start
slice_bounds-line_ends-start c = let h = inside (goal.at.slice_bounds-line_ends-start c).In-Some in omega arith

pub overflow_add-result : goal.overflow_add-result
overflow_add-result c = let h = inside (goal.at.overflow_add-result c).In-Some in omega (arith, length_from c.args.v.now 1)
