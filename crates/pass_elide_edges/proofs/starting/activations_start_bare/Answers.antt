use Rattle.pass_elide_edges.proofs.Bare.{elided_enters, runs_bare, step_bare}
use Rattle.pass_elide_edges.proofs.starting.activations_start_bare.Goals as goal

pub returns-clause-step : goal.returns-clause-step
returns-clause-step c = λ g s enters known runs fine. step_bare g enters s known runs fine

pub returns-clause-runs : goal.returns-clause-runs
returns-clause-runs c = λ g entry args n enters begins fine. runs_bare g enters begins entry args n fine

pub returns-clause-elided : goal.returns-clause-elided
returns-clause-elided c = λ e enters func block label edge. elided_enters e func block label edge enters
