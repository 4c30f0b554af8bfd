-- The runs start in states that know all of frames that callers give.
use Rattle.std.proofs.Common.{◌≡◌, ℕ, List, None, Some}
use Rattle.pass_proofs.specs.ir_base.declared.outcome.Word.{Word}
use Rattle.pass_proofs.specs.run_framed.Framed.{FramedGiven}
use Rattle.pass_proofs.specs.run_memory.declared.pointer.Value.{Value}
use Rattle.pass_proofs.specs.run_source.Source.{first_state}
use Rattle.pass_proofs.specs.run_source.declared.state.Mode.{Mode}
use Rattle.pass_split_proof.specs.simulation.Knowing.{KnowsGiven}
use Rattle.run_access_worked.specs.run_plain.Plain.{PlainGiven, plain_first}

pub starts_know : (g : FramedGiven) (h : PlainGiven) (entry other : ℕ) (args : List Word)
    → KnowsGiven g (first_state g.given.code entry args) (plain_first h.code other args)
starts_know g h entry other args = (
  (
    record {
      given = λ frame e. absurd (plain frame e);
      calls = λ frame e. absurd (plain frame e);
      runs = λ part i x func some own there. absurd (none i own);
    },
    tt,
  ),
  λ i x e given. absurd (cc),
)
  where
    plain : (frame : Value) → Mode.Plain ≡ Mode.GivenRamp frame → ⊥
    plain frame e = cc

    none : (i : ℕ) → None ≡ Some i → ⊥
    none i e = cc
