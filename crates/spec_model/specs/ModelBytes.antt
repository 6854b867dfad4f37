-- The model's state as 792 bytes: the channel's 752, then REFR, zeros, the data of the older and of the newer waiting write.
-- Assumes nothing.
use Rattle.std.specs.Prelude.{ℕ, Bool, ◌&&◌, List, ◌++◌, eqb, length}
use Rattle.num.specs.Bytes.{bytes, number, part, zeros}
use Rattle.spec_rules.specs.Neighbour.{Context}
use Rattle.spec_state.specs.ChannelBytes.{channel_bytes, channel_in, zero_part, channel_spare}
use Rattle.spec_model.specs.declared.ModelState.{ModelState}
use Rattle.spec_model.specs.Model.{model_valid}

unfoldable pub model_length : ℕ
model_length = 792

unfoldable pub model_bytes : ModelState → List ℕ
model_bytes m =
    channel_bytes m.channel
    ++ (bytes 2 m.refr
    ++ (zeros 6 ++ (bytes 8 m.bytes.dqa ++ (bytes 8 m.bytes.dqb ++ (bytes 8 m.second.dqa ++ bytes 8 m.second.dqb)))))

-- the state that 792 bytes say
unfoldable pub model_in : List ℕ → ModelState
model_in b =
    record {
      channel = channel_in b;
      refr = number (part b 752 2);
      bytes = record { dqa = number (part b 760 8); dqb = number (part b 768 8) };
      second = record { dqa = number (part b 776 8); dqb = number (part b 784 8) };
    }

-- whether refusal 1 has nothing against these bytes: their length, the bytes that no field uses, and the state that they say
unfoldable pub model_right : Context → List ℕ → Bool
model_right cx b =
    eqb (length b) model_length && ((channel_spare b && zero_part b 754 6) && model_valid cx (model_in b))
