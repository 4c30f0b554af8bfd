-- Lemmas on carried, that speak of no pass.
use Rattle.std.proofs.Common.{◌≡◌}
use Rattle.ir_laws.specs.ir_base.declared.outcome.Place.{Place}
use Rattle.rule_locals.specs.Entries.{is_past_entry}

-- places of which both are in the entry block, or neither is
abbrev pub AreAlikePlaced : Place → Place → Type 0
AreAlikePlaced p q = is_past_entry q.block ≡ is_past_entry p.block
