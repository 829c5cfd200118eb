-- `forms::target_of` meets its contract. Assumes nothing.
use mathlib.Core.Path.{sym, ◌∙◌}
use Rattle.forms.proofs.SegmentLaws.{target_session, target_empty, target_path, target_root, target_rooted}
use Rattle.forms.proofs.target_of.Goals as goal

pub returns-then-is_session : goal.returns-then-is_session
returns-then-is_session c = target_session c.args.t.now (sym c.is_session.ensures ∙ c.if-is_session.true)

pub returns-then-t-eq0 : goal.returns-then-t-eq0
returns-then-t-eq0 c = target_empty c.args.t.now (sym c.is_session.ensures ∙ c.if-is_session.false) c.if-t-eq0.true

pub returns-then-not-is_separator : goal.returns-then-not-is_separator
returns-then-not-is_separator c = c.path_at.ensures ∙ target_path c.args.t.now (sym c.is_session.ensures ∙ c.if-is_session.false) c.if-t-eq0.false (sym c.is_separator.ensures ∙ c.if-not-is_separator.true)

pub returns-then-t-eq1 : goal.returns-then-t-eq1
returns-then-t-eq1 c = target_root c.args.t.now (sym c.is_session.ensures ∙ c.if-is_session.false) (sym c.is_separator.ensures ∙ c.if-not-is_separator.false) c.if-t-eq1.true

pub returns : goal.returns
returns c = c.path_at-2.ensures ∙ target_rooted c.args.t.now (sym c.is_session.ensures ∙ c.if-is_session.false) (sym c.is_separator.ensures ∙ c.if-not-is_separator.false) c.if-t-eq0.false c.if-t-eq1.false
