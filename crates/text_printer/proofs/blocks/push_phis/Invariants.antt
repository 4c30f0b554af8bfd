use Rattle.std.proofs.Common.{◌≡◌, ◌++◌, drop}
use Rattle.text_canonical.specs.canonical.Blocks.{phis_text}
use Rattle.text_printer.proofs.blocks.push_phis.Given as goal

abbrev pub invariant-loop-phi : goal.invariant-loop-phi
invariant-loop-phi l = l.out.items ++ phis_text l.names (drop l.phi-index l.phis) ≡ l.initial.out.items ++ phis_text l.names l.phis
