use Rattle.pass_elide_proof.proofs.ReleasedCallees.{callees_in_runs, callees_stay}
use Rattle.pass_elide_proof.proofs.ReleasedRooms.{callees_hold}
use Rattle.pass_elide_proof.proofs.releasing.given_frames_are_of_callees.Goals as goal
use Rattle.pass_elide_proof.specs.Elision.{elided}
use Rattle.pass_elide_proof.specs.Releasing.{IsFreeing}

pub returns-clause-step : goal.returns-clause-step
returns-clause-step c e t calls h = callees_stay (elided e) (IsFreeing e) calls t h

pub returns-clause-runs : goal.returns-clause-runs
returns-clause-runs c e entry args n calls = callees_in_runs (elided e) (IsFreeing e) calls entry args n

pub returns-clause-freeing : goal.returns-clause-freeing
returns-clause-freeing c e t h number y at given = (h.0 number y at).1 given

pub returns-clause-rooms : goal.returns-clause-rooms
returns-clause-rooms c e none rooms = callees_hold (IsFreeing e) e none rooms
