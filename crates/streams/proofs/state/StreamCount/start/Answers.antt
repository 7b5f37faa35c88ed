use Rattle.smac.specs.Smac.{stream_start}
use Rattle.streams.proofs.state.StreamCount.start.Goals as goal

pub returns : goal.returns
unfolding stream_start
returns c = cc
