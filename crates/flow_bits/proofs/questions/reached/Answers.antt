use Rattle.flow_bits.proofs.Answers.{answers, of_ok, starts_are}
use Rattle.flow_bits.proofs.questions.reached.Goals as goal

pub solve-requires-clause-starts : goal.solve-requires-clause-starts
solve-requires-clause-starts c = starts_are c.args.kept.now c.args.graph.now.nodes c.args.starts.now c.requires.starts

pub returns-clause-words : goal.returns-clause-words
returns-clause-words c = of_ok c.solve.result _ _ (λ all least node word at. answers c.args.graph.now.edges c.args.kept.now c.args.starts.now node word c.requires.kept (least node word at)) c.solve.ensures.least
