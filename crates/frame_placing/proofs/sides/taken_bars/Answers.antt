use Rattle.std.proofs.Common.{map, rules}
use Rattle.std.proofs.lemmas.List.Sorted.{IsNonDecreasingBy-from_sort_by_key}
use Rattle.frame_placing.specs.declared.bars.Bar.{Bar}
use Rattle.frame_placing.proofs.Grouping.{all_taken}
use Rattle.frame_placing.proofs.sides.taken_bars.Goals as goal

pub returns : goal.returns
returns c =
    all_taken c.args.rooms.now c.args.offsets.now c.args.fields.now (map (λ bars. bars.items) c.args.ones.now) (map (λ bars. bars.items) c.args.others.now) c.args.one.now c.args.other.now c.in_ok-bars.bars.items c.push_groups.new.bars.items c.push_groups-2.new.bars.items
    c.sort_unstable_by_key.new.self.items c.in_ok-bars.ensures c.requires.ones c.requires.others c.in_ok-push_groups.ensures c.in_ok-push_groups-2.ensures c.sort_unstable_by_key.ensures.permutation
    (IsNonDecreasingBy-from_sort_by_key (λ (x : Bar). x.start) c.sort_unstable_by_key.new.self.items c.sort_unstable_by_key.ensures.sorted (λ a r f k. search rules))
