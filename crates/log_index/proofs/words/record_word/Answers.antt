-- `record_word` meets its contract: the fields are those of the record.
use Rattle.log_index.specs.Form.Fields.{fields_at}
use Rattle.log_index.proofs.words.record_word.Goals as goal

pub returns : goal.returns
unfolding fields_at
returns c = rw (c.bank_field.ensures.0, c.u64_at-w.ensures, c.u32_at-head.ensures) at c.one_bit.ensures
