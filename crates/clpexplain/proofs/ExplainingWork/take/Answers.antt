-- A call uses no more than there is, and something where there is something; the state stays one that some capture leads to.
use Rattle.std.proofs.Common.{ap, ◌∙◌, arith}
use Rattle.joiner.specs.declared.Joined.{Joined}
use Rattle.joiner.specs.Step.{reachable}
use Rattle.joiner.proofs.Laws.{used_within}
use Rattle.joiner.proofs.Past.{goes_on_lem}
use Rattle.lister.proofs.ListLaws.{join_sane}
use Rattle.clpexplain.proofs.ExplainingWork.take.Goals as goal

pub invariant_of-self : goal.invariant_of-self
invariant_of-self c =
    let s = c.args.self.now in
    record { reached = ap (λ (x : Joined). reachable x.state) c.join-joined.ensures.value ∙ (goes_on_lem s.state s.line c.args.part.now (omega arith) s.reached).1 }

pub put_outcome-requires : goal.put_outcome-requires
put_outcome-requires c =
    let s = c.args.self.now in
    let j = c.join-joined in
    join_sane s.state s.line c.args.part.now j.new.buffer j.result.outcome (ap (λ (x : Joined). x.outcome) j.ensures.value) j.auto.buffer

pub returns-clause-used_in_bounds : goal.returns-clause-used_in_bounds
returns-clause-used_in_bounds c =
    let s = c.args.self.now in
    omega (arith, ap (λ (x : Joined). x.used) c.join-joined.ensures.value, used_within s.state s.line c.args.part.now)

pub returns-clause-goes_on : goal.returns-clause-goes_on
returns-clause-goes_on c h =
    let s = c.args.self.now in
    omega (arith, ap (λ (x : Joined). x.used) c.join-joined.ensures.value, (goes_on_lem s.state s.line c.args.part.now (omega arith) s.reached).2 h)
