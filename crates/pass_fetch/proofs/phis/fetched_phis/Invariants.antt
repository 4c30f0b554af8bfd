use Rattle.std.proofs.Common.{◌≡◌, ◌++◌, drop}
use Rattle.pass_fetch.specs.Blocks.{fetched_phis, next_after_phis}
use Rattle.pass_fetch.proofs.phis.fetched_phis.Given as goal

abbrev pub invariant-loop-phi : goal.invariant-loop-phi
invariant-loop-phi l = record {
  phis : l.all ++ fetched_phis l.fetches l.next (drop l.phi-index l.phis) ≡ fetched_phis l.fetches l.initial.next l.phis;
  next : next_after_phis l.fetches l.next (drop l.phi-index l.phis) ≡ next_after_phis l.fetches l.initial.next l.phis;
}
