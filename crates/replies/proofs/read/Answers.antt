-- `replies::read` meets its contract.
use Rattle.std.proofs.Common.{ℕ, List, ◌≡◌, Ok, sym, ap, ◌∙◌, arith, rules}
use lib.ListN.{replicate}
use lib.Seq.{sets}
use Rattle.text.proofs.Writes.{held_is}
use Rattle.replies.specs.Lines.{lines_of}
use Rattle.replies.specs.Reading.{records_of}
use Rattle.replies.specs.Steps.{run_at}
use Rattle.replies.proofs.JudgeLaws.{read_long, read_none, read_size, read_held, read_fits, read_refused, same_answer}
use Rattle.replies.proofs.read.Goals as goal
use Rattle.replies.proofs.read.Goals.{In_ok-n}

-- what the first reading gave
wrote : (c : In_ok-n) → Ok c.in_ok-n.n ≡ (run_at c.args.s.now 0 0 0 (replicate 4096 0)).answer
wrote c = sym c.in_ok-n.was ∙ c.read_all.ensures.0

pub returns-then-s-gt65535 : goal.returns-then-s-gt65535
returns-then-s-gt65535 c = read_long c.args.s.now c.args.out.now c.if-s-gt65535.true

pub returns-in_err-n : goal.returns-in_err-n
returns-in_err-n c =
    let t = read_refused c.args.s.now (replicate 4096 0) c.args.out.now c.if-s-gt65535.false c.in_err-n.field-0.0 (sym c.in_err-n.was ∙ c.read_all.ensures.0) in
    (search rules ∙ t.0, t.1)

pub returns-then-out-n : goal.returns-then-out-n
returns-then-out-n c =
    read_none c.args.s.now (replicate 4096 0) c.args.out.now c.if-s-gt65535.false c.in_ok-n.n (wrote (goal.at.returns-then-out-n c).In_ok-n) c.if-out-n.true

pub returns-then-n-gt4096 : goal.returns-then-n-gt4096
returns-then-n-gt4096 c =
    let s = c.args.s.now in
    let held : List ℕ = replicate 4096 0 in
    let out = c.args.out.now in
    let n = c.in_ok-n.n in
    let h = c.if-s-gt65535.false in
    let w = wrote (goal.at.returns-then-n-gt4096 c).In_ok-n in
    let again = c.read_all-then-n-gt4096 in
    let t = read_fits s held out h n w c.if-out-n.false again.new.out (read_held s held out h n w out again.new.out again.ensures.1) in
    (again.ensures.0 ∙ same_answer s held out h ∙ sym w ∙ t.0, t.1)

pub returns : goal.returns
returns c =
    let s = c.args.s.now in
    let held : List ℕ = replicate 4096 0 in
    let out = c.args.out.now in
    let n = c.in_ok-n.n in
    let h = c.if-s-gt65535.false in
    let w = wrote (goal.at.returns c).In_ok-n in
    let k = read_size s held out h n w in
    let z = held_is held c.read_all.new.out (records_of (lines_of s)) n (read_held s held out h n w held c.read_all.new.out c.read_all.ensures.1) k (omega (arith, k, c.if-n-gt4096.false)) in
    read_fits s held out h n w c.if-out-n.false c.copy.new.out (c.copy.ensures ∙ ap (sets out 0) z)
