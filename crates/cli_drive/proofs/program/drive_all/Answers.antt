use Rattle.std.proofs.Common.{rules, refl}
use Rattle.cli_drive.proofs.Written.{told_as}
use Rattle.cli_drive.specs.Endings.{IsEnding}
use Rattle.cli_drive.proofs.program.drive_all.Goals as goal

pub returns-in-Ok-Help-clause-ends : goal.returns-in-Ok-Help-clause-ends
returns-in-Ok-Help-clause-ends g c = IsEnding.Help _ (told_as _ _ _ c.in-Ok-Help.field-0-is c.in-Ok-Help.ensures).0
    (told_as _ _ _ c.in-Ok-Help.field-0-is c.in-Ok-Help.ensures).1 (refl, refl) c.write_both.ensures

pub returns-in-Ok-Usage-clause-ends : goal.returns-in-Ok-Usage-clause-ends
returns-in-Ok-Usage-clause-ends g c = IsEnding.Usage _ (told_as _ _ _ c.in-Ok-Usage.field-0-is c.in-Ok-Usage.ensures).0
    (told_as _ _ _ c.in-Ok-Usage.field-0-is c.in-Ok-Usage.ensures).1 (refl, refl) c.tell-in-Ok-Usage.ensures

pub returns-in-Ok-BadList-clause-ends : goal.returns-in-Ok-BadList-clause-ends
returns-in-Ok-BadList-clause-ends g c = IsEnding.BadList _ (told_as _ _ _ c.in-Ok-BadList.field-0-is c.in-Ok-BadList.ensures) (refl, refl) (search rules)

pub returns-in-Ok-Words-clause-ends : goal.returns-in-Ok-Words-clause-ends
returns-in-Ok-Words-clause-ends g c = IsEnding.Taken _ (told_as _ _ _ c.in-Ok-Words.field-0-is c.in-Ok-Words.ensures) c.drive_words.ensures.ends
