-- A call on a log that carries its settings changes no lent buffer where it is refused.
-- Assumes nothing.
use Rattle.spec_calls.proofs.Refused.{copy-by, copy-kept}
use Rattle.calls_index.proofs.Theorems.{kept_by}
use Rattle.calls_stamp.specs.Results.{stamped_encode_call, stamped_decode_call, stamp_call, unstamp_call, stamped_index_call, stamped_query_call}
use Rattle.calls_stamp.specs.Theorems.{RefusedStampedCalls}

pub refused-stamped-calls : RefusedStampedCalls
unfolding stamped_encode_call stamped_decode_call stamp_call unstamp_call stamped_index_call stamped_query_call
refused-stamped-calls =
    record {
      encode = λ settings list log. copy-kept _ log _ settings;
      decode = λ log list. copy-by _ list _;
      stamp = λ settings log out. copy-kept _ out _ settings;
      unstamp = λ log out. copy-by _ out _;
      index = λ log kept index. kept_by index _ _;
      query = λ log index bank out. kept_by out _ _;
    }
