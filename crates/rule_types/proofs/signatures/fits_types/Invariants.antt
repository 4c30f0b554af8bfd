use Rattle.std.proofs.Common.{◌≡◌, length, map}
use Rattle.rule_types.specs.Signatures.{same_list}
use Rattle.rule_types.proofs.signatures.fits_types.Given as goal

abbrev pub invariant-loop-given : goal.invariant-loop-given
invariant-loop-given l = same_list (map (λ a. a.ty) l.args) l.types ≡ same_list (map (λ a. a.ty) l.given) l.wanted

abbrev pub decreases-loop-given : goal.decreases-loop-given
decreases-loop-given l = length l.given
