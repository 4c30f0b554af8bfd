use Rattle.std.proofs.Common.{◌≡◌, ◌++◌, drop, map}
use Rattle.std.specs.List.{list_all}
use Rattle.ir_parts.proofs.contents.case_labels_pass.Given as goal

abbrev pub invariant-loop-case : goal.invariant-loop-case
invariant-loop-case g l = list_all (g.T.LabelTest.label_passes l.test) (map (λ k. k.target) l.cases) ≡ list_all (g.T.LabelTest.label_passes l.test) (map (λ k. k.target) (drop l.case-index l.cases))
