use Rattle.laws.proofs.Telling.{every_two_runs}
use Rattle.replay.proofs.replay_both.Goals as goal

pub returns : goal.returns
returns g c =
    let one = c.in_ok-first.ensures in
    let two = c.in_ok-second.ensures in
    record { first = one; second = two; told = every_two_runs _ one.lawful _ one.starts _ _ _ _ _ _ _ _ one.run two.run }
