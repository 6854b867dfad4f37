-- `model_next::cols::leaves_at` meets its contract: each number is the one read.
use Rattle.model_next.specs.Form.Next.{leaves_at}
use Rattle.model_next.proofs.cols.leaves_at.Goals as goal

pub returns : goal.returns
unfolding leaves_at
returns c = rw (c.from-2.ensures, c.from.ensures, c.u32_at.ensures)
