-- `model_next::rows::put_refa` meets its contract: the bank, then REFR.
use Rattle.model_next.specs.Form.Next.{refa_next}
use Rattle.model_next.proofs.rows.put_refa.Goals as goal

pub returns : goal.returns
unfolding refa_next
returns c = rw (c.put_u16.ensures, c.from.ensures, c.store_refa.ensures, c.refr_after-refr.ensures, c.refr_at.ensures)
