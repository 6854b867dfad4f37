-- `plan_by_value::drafts::added` meets its contract: field by field.
use Rattle.plan_by_value.specs.Form.Drawn.{added_to}
use Rattle.plan_by_value.proofs.drafts.added.Goals as goal

pub returns : goal.returns
unfolding added_to
returns c = rw (c.more.ensures, c.put_in.ensures)
