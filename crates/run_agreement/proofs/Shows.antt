-- What states of two runs show, side by side.
use Rattle.std.proofs.Common.{◌≡◌, ◌⊎◌, sym, ◌∙◌, subst}
use Rattle.run_agreement.specs.Agreements.{Follows}
use Rattle.run_agreement.specs.Machines.{Seen, IsFine}
use Rattle.ir_model.specs.ir_base.declared.outcome.Outcome.{Outcome}

-- both show the same events and the same outcome
pub record ShowsSame (u w : Seen) : Type 0 where
  pub events : u.events ≡ w.events
  pub outcome : u.outcome ≡ w.outcome

-- what a state between two shows: it goes on, with the events of the one or of the other
abbrev pub IsBetween : Seen → Seen → Seen → Type 0
IsBetween u w x = (x.outcome ≡ Outcome.Running) × ((x.events ≡ u.events) ⊎ (x.events ≡ w.events))

pub fine_running : (u : Seen) → u.outcome ≡ Outcome.Running → IsFine u.outcome
fine_running u e = subst IsFine (sym e) tt

pub shows_running : (u w : Seen) → u.outcome ≡ Outcome.Running → u.events ≡ w.events → Follows u w
shows_running u w e f = record { events = sym f; returns = λ v h. cc }

pub shows_same : (u w : Seen) → ShowsSame u w → Follows u w
shows_same u w e = record { events = sym e.events; returns = λ v h. sym e.outcome ∙ h }

pub turned : (u w : Seen) → ShowsSame u w → ShowsSame w u
turned u w e = record { events = sym e.events; outcome = sym e.outcome }
