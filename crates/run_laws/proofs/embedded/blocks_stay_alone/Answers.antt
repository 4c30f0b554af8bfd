use Rattle.run_laws.proofs.embedded.Mirrors.{lives_on}
use Rattle.run_laws.proofs.embedded.Refills.{alone_changed, alone_stays, lives_stay, twin_stays}
use Rattle.run_laws.proofs.embedded.blocks_stay_alone.Goals as goal

pub returns-clause-refilled : goal.returns-clause-refilled
returns-clause-refilled c = alone_stays

pub returns-clause-changed : goal.returns-clause-changed
returns-clause-changed c = alone_changed

pub returns-clause-lives : goal.returns-clause-lives
returns-clause-lives c = lives_stay

pub returns-clause-deaths : goal.returns-clause-deaths
returns-clause-deaths c = lives_on

pub returns-clause-twins : goal.returns-clause-twins
returns-clause-twins c = twin_stays
