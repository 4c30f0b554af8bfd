use Rattle.std.proofs.Common.{◌≡◌, drop, map}
use Rattle.pass_fetch.specs.Fetching.{next_after_all}
use Rattle.pass_fetch.specs.Blocks.{ends_of_incoming}
use Rattle.pass_fetch.proofs.ends.Ends.add_phi.Given as goal

abbrev pub invariant-loop-incoming : goal.invariant-loop-incoming
invariant-loop-incoming l = record {
  ends : ends_of_incoming l.fetches l.next l.self.lists.items (drop l.incoming-index l.incoming-items) ≡ ends_of_incoming l.fetches l.first l.initial.self.lists.items l.incoming-items;
  next : next_after_all l.fetches l.next (map (λ i. i.value) (drop l.incoming-index l.incoming-items)) ≡ next_after_all l.fetches l.first (map (λ i. i.value) l.incoming-items);
}
