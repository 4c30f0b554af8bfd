use Rattle.std.proofs.Common.{◌≡◌, ◌++◌, drop, map}
use Rattle.pass_fetch.specs.Fetching.{next_after_all}
use Rattle.pass_fetch.specs.Blocks.{fetched_incoming}
use Rattle.pass_fetch.proofs.phis.fetched_phi.Given as goal

abbrev pub invariant-loop-incoming : goal.invariant-loop-incoming
invariant-loop-incoming l = record {
  operands : l.all ++ fetched_incoming l.fetches l.next (drop l.incoming-index l.incoming-items) ≡ fetched_incoming l.fetches l.initial.next l.incoming-items;
  next : next_after_all l.fetches l.next (map (λ i. i.value) (drop l.incoming-index l.incoming-items)) ≡ next_after_all l.fetches l.initial.next (map (λ i. i.value) l.incoming-items);
}
