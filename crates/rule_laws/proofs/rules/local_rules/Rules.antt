-- Lemmas on rules, that speak of no pass.
use Rattle.std.proofs.Common.{◌≡◌}
use Rattle.std.specs.Prelude.{Some, None, Option}
use Rattle.ir_laws.specs.ir_base.declared.outcome.Place.{Place}
use Rattle.ir_parts.specs.Parts.{or_place}

pub second_out : (o q : Option Place) → or_place o q ≡ None → q ≡ None
second_out None q e = e
second_out (Some p) q e = absurd (cc)
