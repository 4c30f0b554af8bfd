use Rattle.std.proofs.Common.{◌≡◌, drop}
use Rattle.rule_uses.specs.Scan.{noted_phis}
use Rattle.rule_uses.proofs.scan.note_phis.Given as goal

abbrev pub invariant-loop-phi : goal.invariant-loop-phi
invariant-loop-phi l = noted_phis l.last l.block (drop l.phi-index l.phis) ≡ noted_phis l.initial.last l.block l.phis
