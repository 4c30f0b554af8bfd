use Rattle.pass_early_proof.proofs.early.sources.Accepted.{accepted_agree}
use Rattle.pass_early_proof.proofs.early.elision.sources.Alike.{accepted_classes, accepted_crossing, accepted_elision, accepted_rules}
use Rattle.pass_early_proof.proofs.early.sources.Kept.{kept_by}
use Rattle.pass_early_proof.proofs.early.sources.Laid.{accepted_laid}
use Rattle.pass_early_proof.proofs.early.elision.sources.early_kept.Goals as goal

pub returns-clause-agrees : goal.returns-clause-agrees
returns-clause-agrees c = kept_by _ c.args.source.now c.early.result c.early.ensures (λ text. accepted_agree text c.args.source.now)

pub returns-clause-layouts : goal.returns-clause-layouts
returns-clause-layouts c = kept_by _ c.args.source.now c.early.result c.early.ensures (λ text. accepted_laid text c.args.source.now)

pub returns-clause-rules : goal.returns-clause-rules
returns-clause-rules c = kept_by _ c.args.source.now c.early.result c.early.ensures (λ text. accepted_rules text c.args.source.now)

pub returns-clause-crossing : goal.returns-clause-crossing
returns-clause-crossing c = kept_by _ c.args.source.now c.early.result c.early.ensures (λ text. accepted_crossing text c.args.source.now)

pub returns-clause-classes : goal.returns-clause-classes
returns-clause-classes c = kept_by _ c.args.source.now c.early.result c.early.ensures (λ text. accepted_classes text c.args.source.now)

pub returns-clause-elidable : goal.returns-clause-elidable
returns-clause-elidable c = kept_by _ c.args.source.now c.early.result c.early.ensures (λ text. accepted_elision text c.args.source.now)
