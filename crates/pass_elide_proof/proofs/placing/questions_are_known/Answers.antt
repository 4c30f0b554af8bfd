use Rattle.pass_elide_proof.proofs.PlacingQuestions.{question_place, way_on_place}
use Rattle.pass_elide_proof.proofs.placing.questions_are_known.Goals as goal

pub returns-clause-asked : goal.returns-clause-asked
returns-clause-asked c = λ e s t k label keeps enters asks given beside stands.
    question_place e keeps s t k label enters asks given beside stands

pub returns-clause-passed : goal.returns-clause-passed
returns-clause-passed c = λ e s t k label keeps enters allocates waits stays.
    way_on_place e keeps s t k label enters allocates waits stays
