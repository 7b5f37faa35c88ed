use Rattle.smac.proofs.Laws.{lawful}
use Rattle.laws.proofs.Leading.{every_run, every_run_of_a_key}
use Rattle.laws.proofs.Telling.{every_two_runs, every_two_runs_of_a_key}
use Rattle.laws.proofs.law_of_runs.Goals as goal

pub returns : goal.returns
returns c = record {
  lawful = record { one = every_run; one_key = every_run_of_a_key; two = every_two_runs; two_key = every_two_runs_of_a_key };
  smac = record {
    one = λ r m. every_run r (lawful r m);
    one_key = λ r m. every_run_of_a_key r (lawful r m);
    two = λ r m. every_two_runs r (lawful r m);
    two_key = λ r m. every_two_runs_of_a_key r (lawful r m);
  };
}
