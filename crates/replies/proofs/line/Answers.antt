-- `replies::line` meets its contract.
use Rattle.std.proofs.Common.{ℕ, ◌≡◌, ◌+◌, ◌≤◌, length, ap, arith}
use Rattle.replies.proofs.RunLaws.{seen, fits, nothing_on, item_on, group_on, close_on, deep_run, lone_run, end_run, early_run, wrong_run, open_run}
use Rattle.replies.proofs.line.Goals as goal
use Rattle.replies.proofs.line.Goals.{In-Nothing, In-Item, In-Group}

-- a line's text lies within the text
nothing_within : (c : In-Nothing) → c.args.at + c.in-Nothing.len ≤ length c.args.s.now
nothing_within c = fits c.args.s.now c.args.at c.args.depth c.args.w c.args.out.now c.requires _ c.line_form.ensures c.in-Nothing.is

item_within : (c : In-Item) → c.args.at + (c.in-Item.keyword + 1 + c.in-Item.value) ≤ length c.args.s.now
item_within c = fits c.args.s.now c.args.at c.args.depth c.args.w c.args.out.now c.requires _ c.line_form.ensures c.in-Item.is

group_within : (c : In-Group) → c.args.at + (11 + c.in-Group.name) ≤ length c.args.s.now
group_within c = fits c.args.s.now c.args.at c.args.depth c.args.w c.args.out.now c.requires _ c.line_form.ensures c.in-Group.is

pub overflow_add-at : goal.overflow_add-at
overflow_add-at c = let z = nothing_within (goal.at.overflow_add-at c).In-Nothing in omega arith

pub past_end-requires-in-Nothing : goal.past_end-requires-in-Nothing
past_end-requires-in-Nothing c = nothing_within (goal.at.past_end-requires-in-Nothing c).In-Nothing

pub overflow_add-at-in-Item : goal.overflow_add-at-in-Item
overflow_add-at-in-Item c = let z = item_within (goal.at.overflow_add-at-in-Item c).In-Item in omega arith

pub overflow_add-at-in-Item-2 : goal.overflow_add-at-in-Item-2
overflow_add-at-in-Item-2 c = let z = item_within (goal.at.overflow_add-at-in-Item-2 c).In-Item in omega arith

pub overflow_add-at-in-Item-3 : goal.overflow_add-at-in-Item-3
overflow_add-at-in-Item-3 c = let z = item_within (goal.at.overflow_add-at-in-Item-3 c).In-Item in omega arith

pub past_end-requires-in-Item : goal.past_end-requires-in-Item
past_end-requires-in-Item c = let z = item_within (goal.at.past_end-requires-in-Item c).In-Item in omega arith

pub overflow_add-at-in-Group-2 : goal.overflow_add-at-in-Group-2
overflow_add-at-in-Group-2 c = let z = group_within (goal.at.overflow_add-at-in-Group-2 c).In-Group in omega arith

pub past_end-requires-in-Group : goal.past_end-requires-in-Group
past_end-requires-in-Group c = let z = group_within (goal.at.past_end-requires-in-Group c).In-Group in omega arith

pub past_end-requires-in-Close-2 : goal.past_end-requires-in-Close-2
past_end-requires-in-Close-2 c = fits c.args.s.now c.args.at c.args.depth c.args.w c.args.out.now c.requires _ c.line_form.ensures c.in-Close.is

pub returns-in-Nothing-eq0 : goal.returns-in-Nothing-eq0
returns-in-Nothing-eq0 c =
    let z : c.args.at + c.in-Nothing-eq0.len ≡ c.args.at = omega arith in
    nothing_on _ _ _ _ _ c.requires _ c.line_form.ensures _ _ c.in-Nothing-eq0.is (rw z c.past_end.ensures.0)

pub returns-in-Nothing : goal.returns-in-Nothing
returns-in-Nothing c = nothing_on _ _ _ _ _ c.requires _ c.line_form.ensures _ _ c.in-Nothing.is c.past_end-in-Nothing.ensures.0

pub returns-in-Item : goal.returns-in-Item
returns-in-Item c = item_on _ _ _ _ _ c.requires _ c.line_form.ensures _ _ _ _ _ c.in-Item.is c.past_end-in-Item.ensures.0 c.put_item.ensures.0 c.put_item.ensures.1

pub returns-in-Group : goal.returns-in-Group
returns-in-Group c = group_on _ _ _ _ _ c.requires _ c.line_form.ensures _ _ _ _ c.in-Group.is c.past_end-in-Group.ensures.0 (omega arith) c.put_group.ensures.0 c.put_group.ensures.1

pub returns-in-Group-2 : goal.returns-in-Group-2
returns-in-Group-2 c = (deep_run _ _ _ _ _ c.requires.1 _ (seen c.args.s.now c.args.at _ c.line_form.ensures c.in-Group.is) (omega arith), tt)

pub returns-in-Close : goal.returns-in-Close
returns-in-Close c = (lone_run _ _ _ _ _ c.requires.1 (seen c.args.s.now c.args.at _ c.line_form.ensures c.in-Close.is) c.if-depth-eq0.true, tt)

pub returns-in-Close-2 : goal.returns-in-Close-2
returns-in-Close-2 c =
    close_on _ _ _ _ _ c.requires _ c.line_form.ensures _ _ _ c.in-Close.is c.past_end-in-Close-2.ensures.0 c.if-depth-eq0.false (ap (λ (n : ℕ). c.args.w + n) c.reply_record_len.ensures) c.put.ensures

pub returns-in-End : goal.returns-in-End
returns-in-End c =
    (end_run _ _ _ _ _ c.requires.1 _ _ (seen c.args.s.now c.args.at _ c.line_form.ensures c.in-End.is) (omega arith) (ap (λ (n : ℕ). c.args.w + n) c.reply_record_len-in-End.ensures) c.put-in-End.ensures, tt)

pub returns-in-End-2 : goal.returns-in-End-2
returns-in-End-2 c = (early_run _ _ _ _ _ c.requires.1 (seen c.args.s.now c.args.at _ c.line_form.ensures c.in-End.is) (omega arith), tt)

pub returns-in-Wrong : goal.returns-in-Wrong
returns-in-Wrong c = (wrong_run _ _ _ _ _ c.requires.1 (seen c.args.s.now c.args.at _ c.line_form.ensures c.in-Wrong.is), tt)

pub returns-in-Open : goal.returns-in-Open
returns-in-Open c = (open_run _ _ _ _ _ c.requires.1 (seen c.args.s.now c.args.at _ c.line_form.ensures c.in-Open.is), tt)
