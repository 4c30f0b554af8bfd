use Rattle.std.proofs.Common.{◌≡◌, take, reverse}
use Rattle.std.specs.Prelude.{filter, not}
use Rattle.run_source.specs.Source.{is_among}
use Rattle.run_source_tables.specs.Given.{facts_at}
use Rattle.run_source.proofs.frames.share.Given as goal

abbrev pub invariant-loop-slot : goal.invariant-loop-slot
invariant-loop-slot l =
    record {
      kept : l.kept ≡ filter (λ slot. not (is_among (facts_at l.given.facts l.func).ramp_slots slot)) (reverse (take l.slot-index l.slots));
      own : l.own ≡ filter (λ slot. is_among (facts_at l.given.facts l.func).ramp_slots slot) (reverse (take l.slot-index l.slots));
    }
