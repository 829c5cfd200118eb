use Rattle.std.proofs.Common.{rules}
use Rattle.text.specs.Bytes.{bytes}
use Rattle.explaining.specs.Explained.{cut_text}
use Rattle.explaining.proofs.PutLaws.{put_first}
use Rattle.explaining.proofs.cut_at_start.Goals as goal

pub returns : goal.returns
unfolding cut_text bytes
returns c = put_first c.new-pen.ensures.starts.0 c.new-pen.ensures.starts.1 c.text.ensures (search rules)
