-- `model_next::cols::put_out` meets its contract: one store after the other.
use Rattle.model_next.specs.Form.Next.{moved_up}
use Rattle.model_next.proofs.cols.put_out.Goals as goal

pub returns : goal.returns
unfolding moved_up
returns c =
    rw (
      c.put_implied.ensures,
      c.put_dualoct.ensures,
      c.store_shift.ensures,
      c.store_retire.ensures,
      c.second_at-data.ensures,
      c.u16_at-closes.ensures.0,
      c.from-h.ensures,
      ← c.requires.count_value,
    )
