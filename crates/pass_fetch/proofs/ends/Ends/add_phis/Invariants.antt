use Rattle.std.proofs.Common.{◌≡◌, drop}
use Rattle.pass_fetch.specs.Blocks.{ends_of_phis, next_after_phis}
use Rattle.pass_fetch.proofs.ends.Ends.add_phis.Given as goal

abbrev pub invariant-loop-phi : goal.invariant-loop-phi
invariant-loop-phi l = record {
  ends : ends_of_phis l.fetches l.next l.self.lists.items (drop l.phi-index l.phis) ≡ ends_of_phis l.fetches l.first l.initial.self.lists.items l.phis;
  next : next_after_phis l.fetches l.next (drop l.phi-index l.phis) ≡ next_after_phis l.fetches l.first l.phis;
}
