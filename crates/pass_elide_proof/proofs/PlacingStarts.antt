-- What invariants of places say where runs start, and what modules have that keep places.
use Rattle.std.proofs.Common.{◌≡◌, ℕ, true, List, refl}
use Rattle.pass_elide_proof.proofs.OwnPlaces.{instr_there}
use Rattle.pass_elide_proof.specs.Elision.{Elision, elided_code, function_in}
use Rattle.pass_elide_proof.specs.Placing.{KeepsPlaces, is_own}
use Rattle.pass_elide_proof.specs.PlacingStates.{BeginsInCoroutines, HavePassedBy, HaveShapes}
use Rattle.pass_proofs.specs.ir_base.declared.outcome.Word.{Word}
use Rattle.pass_proofs.specs.ir_model.Names.{same_intrinsic}
use Rattle.pass_proofs.specs.ir_model.declared.instr.Instr.{Instr}
use Rattle.pass_proofs.specs.ir_model.declared.operand.Callee.{Callee}
use Rattle.pass_proofs.specs.ir_model.declared.operand.Intrinsic.{Intrinsic}
use Rattle.pass_proofs.specs.run_source.Source.{first_state}

begin_own : (j : Intrinsic) → same_intrinsic Intrinsic.CoroBegin j ≡ true → is_own j ≡ true
begin_own Intrinsic.CoroBegin is = refl
begin_own _ is = absurd (cc)

pub begins_of : (e : Elision) → KeepsPlaces e → BeginsInCoroutines e.code
begins_of e keeps func block at (Instr.Call result must_tail ty (Callee.Intrinsic j) args) there is =
    (keeps.instrs func).own block at result must_tail ty j args
    (instr_there (function_in e func) block at (Instr.Call result must_tail ty (Callee.Intrinsic j) args) there)
    (begin_own j is)
begins_of e keeps func block at _ there is = absurd (cc)

pub first_passed : (e : Elision) (entry : ℕ) (args : List Word)
    → HavePassedBy e (first_state (elided_code e) entry args)
first_passed e entry args = (record { waits = λ h. absurd (cc); frees = λ h. absurd (cc) }, tt)

pub first_shapes : (e : Elision) (entry : ℕ) (args : List Word)
    → HaveShapes e (first_state (elided_code e) entry args)
first_shapes e entry args = record { ramps = (λ h. absurd (cc), tt); instances = λ i y is given. absurd (cc) }
