use Rattle.std.proofs.Common.{[], ◌∷◌, List, map, reverse, sym, ap, ◌∙◌}
use Rattle.std.specs.Prelude.{option_map}
use Rattle.std.proofs.lemmas.List.{map-append}
use Rattle.indexmap.specs.IndexMap.{get}
use Rattle.ir_model.specs.Layout.{type_named}
use Rattle.ir_base.specs.contracts.name.NamePartialEq.TheImpl as derived
use Rattle.ir_model.specs.declared.module.TypeItem.{TypeItem}
use Rattle.ir_alignments.specs.Alignment.{alignment_in}
use Rattle.ir_alignments.specs.Level.{known_at}
use Rattle.ir_alignments.proofs.Levels.{found_turn}
use Rattle.ir_alignments.proofs.SameNames.{same_names}
use Rattle.ir_alignments.proofs.level.Level.next.Goals as goal

pub loop-item-preserved : goal.loop-item-preserved
loop-item-preserved c = λ n.
    found_turn (alignment_in (known_at c.args.self.now) 64) (derived.eq-value).it (λ e. get e c.loop-item.map) (λ e. get e c.insert.new.self) (map (λ t. t.now) c.loop-item.yielded) c.in-Some.item.now c.in_ok-name.name c.alignment.result same_names c.in_ok-name.ensures c.alignment.ensures c.loop-item.invariant c.in_ok-insert.ensures.updates.0 n
    ∙ ap (λ (l : List TypeItem). option_map (alignment_in (known_at c.args.self.now) 64) (type_named (reverse l) n)) (sym (map-append (λ t. t.now) c.loop-item.yielded (c.in-Some.item ∷ [])))
