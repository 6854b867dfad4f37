-- `write_arrival` meets its contract: the delay that it adds is the contract's.
use Rattle.settings.proofs.instants.write_arrival.Goals as goal

pub returns : goal.returns
returns c =
    record {
      value = c.arrival_after.ensures.value;
      result_value = c.arrival_after.ensures.result_value;
    }
