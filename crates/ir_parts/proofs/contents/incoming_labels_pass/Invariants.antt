use Rattle.std.proofs.Common.{◌≡◌, ◌++◌, drop, map}
use Rattle.std.specs.List.{list_all}
use Rattle.ir_parts.proofs.contents.incoming_labels_pass.Given as goal

abbrev pub invariant-loop-one : goal.invariant-loop-one
invariant-loop-one g l = list_all (g.T.LabelTest.label_passes l.test) (map (λ i. i.from) l.incoming) ≡ list_all (g.T.LabelTest.label_passes l.test) (map (λ i. i.from) (drop l.one-index l.incoming))
