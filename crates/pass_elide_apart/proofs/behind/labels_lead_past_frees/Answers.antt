use Rattle.pass_elide_apart.proofs.Blocks.{label_frees}
use Rattle.pass_elide_apart.proofs.Runs.{giving_enters, giving_sleeps}
use Rattle.pass_elide_apart.proofs.behind.labels_lead_past_frees.Goals as goal

pub returns-clause-label : goal.returns-clause-label
returns-clause-label c e func from label handles = label_frees e handles func from label

pub returns-clause-sleepers : goal.returns-clause-sleepers
returns-clause-sleepers c e entry args n keeps k nests handles = giving_sleeps e keeps k nests entry args n handles

pub returns-clause-entering : goal.returns-clause-entering
returns-clause-entering c e entry args n keeps k nests handles = giving_enters e keeps k nests entry args n handles
