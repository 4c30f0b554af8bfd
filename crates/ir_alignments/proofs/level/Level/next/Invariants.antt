use Rattle.std.proofs.Common.{◌≡◌, map, reverse}
use Rattle.std.specs.Prelude.{option_map}
use Rattle.ir_base.specs.declared.name.Name.{Name}
use Rattle.indexmap.specs.IndexMap.{get}
use Rattle.ir_model.specs.Layout.{type_named}
use Rattle.ir_model.specs.Names.{same_name}
use Rattle.ir_alignments.specs.Alignment.{alignment_in}
use Rattle.ir_alignments.specs.Level.{known_at}
use Rattle.ir_alignments.proofs.level.Level.next.Given as goal

abbrev pub invariant-loop-item : goal.invariant-loop-item
invariant-loop-item l =
    (n : Name) → get same_name l.map n ≡ option_map (alignment_in (known_at l.self) 64) (type_named (reverse (map (λ t. t.now) l.yielded)) n)
