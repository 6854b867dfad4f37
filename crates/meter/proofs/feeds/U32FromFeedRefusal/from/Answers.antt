-- The number of a feed's refusal meets its contract: each arm is a case of the definition.
use Rattle.meter.specs.Answer.{feed_number}
use Rattle.meter.proofs.feeds.U32FromFeedRefusal.from.Goals as goal

pub returns-in-Settings : goal.returns-in-Settings
unfolding feed_number
returns-in-Settings c = rw c.in-Settings.is

pub returns-in-Horizon : goal.returns-in-Horizon
unfolding feed_number
returns-in-Horizon c = rw c.in-Horizon.is

pub returns-in-Overlap : goal.returns-in-Overlap
unfolding feed_number
returns-in-Overlap c = rw c.in-Overlap.is
