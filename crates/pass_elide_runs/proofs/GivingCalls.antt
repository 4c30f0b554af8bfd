-- An activation of the run that gives frames is of the function that the call in front of the one below it calls.
use Rattle.std.proofs.Common.{◌≡◌, ◌⊎◌, inl, inr, ◌∙◌, ◌+◌, ◌++◌, ℕ, Bool, true, List, [], ◌∷◌, None, Option, Some, ap, refl, sym, subst, arith}
use Rattle.std.specs.Prelude.{slice_get}
use Rattle.elide_sites.specs.Sites.{callee_in, is_named_call}
use Rattle.pass_elide.specs.Elided.{given_call}
use Rattle.pass_elide.specs.declared.given.GivenFrame.{GivenFrame}
use Rattle.pass_elide_proof.proofs.Facts.{some_none}
use Rattle.pass_elide_proof.proofs.GoesOn.{front_next, instr_there}
use Rattle.pass_elide_proof.proofs.Modules.{finds_alike}
use Rattle.pass_elide_proof.proofs.PlacingFacts.{by_truth, no_room}
use Rattle.pass_elide_proof.proofs.Standing.{has_code}
use Rattle.pass_elide_proof.specs.Elision.{Elision, elided, elided_code, function_in, rooms}
use Rattle.pass_elide_proof.specs.Invariant.{IsSiteOf, StandsAt, behind}
use Rattle.pass_elide_proof.specs.Places.{elided_instr, instrs_of, name_at, own_at, room_at}
use Rattle.pass_elide_proof.specs.Placing.{IsGivingCall, KeepsPlaces}
use Rattle.pass_elide_proof.specs.PlacingStates.{IsCalledBy}
use Rattle.pass_elide_runs.proofs.CalledFrom.{calls_in_runs}
use Rattle.pass_elide_runs.specs.Calls.{AreCalledFrom, CallsBy, IsCalledFrom}
use Rattle.pass_elide_proof.specs.pass_proofs.ir_base.declared.name.Name.{Name}
use Rattle.pass_elide_proof.specs.pass_proofs.ir_base.declared.outcome.Word.{Word}
use Rattle.pass_elide_proof.specs.pass_proofs.ir_model.Names.{function_at, noalloc_of}
use Rattle.pass_elide_proof.specs.pass_proofs.ir_model.Ty.{Ty, ptr}
use Rattle.pass_elide_proof.specs.pass_proofs.ir_model.declared.instr.Instr.{Instr}
use Rattle.pass_elide_proof.specs.pass_proofs.ir_model.declared.module.Function.{Function}
use Rattle.pass_elide_proof.specs.pass_proofs.ir_model.declared.module.Module.{Module}
use Rattle.pass_elide_proof.specs.pass_proofs.ir_model.declared.operand.Arg.{Arg}
use Rattle.pass_elide_proof.specs.pass_proofs.ir_model.declared.operand.Callee.{Callee}
use Rattle.pass_elide_proof.specs.pass_proofs.ir_model.declared.operand.Operand.{Operand}
use Rattle.pass_elide_proof.specs.pass_proofs.ir_paths.declared.point.Point.{Point}
use Rattle.pass_elide_proof.specs.pass_proofs.run_agreement.Machines.{IsFine}
use Rattle.pass_elide_proof.specs.pass_proofs.run_framed.Framed.{framed_state_at, given_ramp}
use Rattle.pass_elide_proof.specs.pass_proofs.run_source.declared.state.Activation.{Activation}
use Rattle.pass_elide_proof.specs.pass_proofs.run_source.declared.state.State.{State}
use Rattle.pass_elide_proof.specs.pass_proofs.run_step.Step.{AtInstr, fetch}

-- a call by a name is one of a ramp that is given its frame, or there is no such ramp
by_name : (m : Module) (func : ℕ) (i : Instr) → CallsBy m func i → (result : Option ℕ) (must_tail : Bool)
    (ty : Option Ty) (n : Name) (args : List Arg) → i ≡ Instr.Call result must_tail ty (Callee.Named n) args
    → (given_ramp m n ≡ Some func) ⊎ (given_ramp m n ≡ None)
by_name m func _ (CallsBy.Gives r t y k xs ramp) result must_tail ty n args is =
    let same : k ≡ n = cc in inl (ap (given_ramp m) (sym same) ∙ ramp)
by_name m func _ (CallsBy.Names r t y k xs none named) result must_tail ty n args is =
    let same : k ≡ n = cc in inr (ap (given_ramp m) (sym same) ∙ none)
by_name m func _ (CallsBy.Points r t y v xs) result must_tail ty n args is = absurd (cc)
by_name m func _ (CallsBy.Wakes r t y j xs) result must_tail ty n args is = absurd (cc)

same_number : (a b : ℕ) → Some a ≡ Some b → a ≡ b
same_number a b h = cc

same_instr : (i j : Instr) → Some i ≡ Some j → i ≡ j
same_instr i j h = cc

module _ (e : Elision) (keeps : KeepsPlaces e) (d c : Activation) (from : IsCalledFrom (elided_code e) d.func c)
    (call : Point) (i : Instr) (name : ℕ) (site : IsSiteOf e c.func call i name) (stands : StandsAt e c (behind call))
  where
    abbrev f : Function
    f = function_in e c.func

    -- where the call stands in the elided function
    abbrev own : ℕ
    own = own_at (rooms e c.func) f call.block call.at

    behind_own : c.at ≡ own + 1
    behind_own = stands.at ∙ front_next (rooms e c.func) f call.block call.at (call.at + 1) refl

    from_own : from.at ≡ own
    from_own = let one = from.behind in let two = behind_own in less from.at own c.at one two
      where
        less : (a b n : ℕ) → n ≡ a + 1 → n ≡ b + 1 → a ≡ b
        less a b n one two = omega (arith, one, two)

    abbrev new : ℕ
    new = name_at (rooms e c.func) f call.block call.at

    there : fetch (function_at (elided_code e) c.func) call.block own ≡ AtInstr (given_call new i)
    there =
        ap (λ (h : Function). fetch h call.block own) ((finds_alike e).functions c.func)
        ∙ ((has_code (rooms e c.func) f).instr call.block call.at i site.there
        ∙ ap (λ (o : Option GivenFrame). AtInstr (elided_instr new o i)) site.room)

    is_call : from.instr ≡ given_call new i
    is_call =
        same_instr from.instr (given_call new i)
        (sym from.there
        ∙ ((λ j. slice_get (instrs_of (function_at (elided_code e) c.func) (stands.block j)) (from_own j))
        ∙ instr_there (function_at (elided_code e) c.func) call.block own (given_call new i) there))

    by_instr : (k : Instr) → i ≡ k → is_named_call k ≡ true → callee_in e.code (Some i) ≡ Some d.func
    by_instr (Instr.Call result must_tail ty (Callee.Named n) args) is named =
        ap (λ (k : Instr). callee_in e.code (Some k)) is ∙ (giving.named ∙ ap Some (which calls))
      where
        giving : IsGivingCall e n args
        giving =
            keeps.calls c.func call.block call.at site.size site.align result must_tail ty n args
            (site.there ∙ ap Some is)
            (sym (ap (room_at (rooms e c.func) f call.block call.at) is) ∙ site.room)

        ramp : given_ramp (elided_code e) (noalloc_of n) ≡ Some giving.func
        ramp = (finds_alike e).ramps (noalloc_of n) ∙ giving.given

        calls : (given_ramp (elided_code e) (noalloc_of n) ≡ Some d.func)
            ⊎ (given_ramp (elided_code e) (noalloc_of n) ≡ None)
        calls =
            by_name (elided_code e) d.func from.instr from.calls result must_tail ty (noalloc_of n)
            (args ++ record { ty = ptr; value = Operand.Local new } ∷ []) (is_call ∙ ap (given_call new) is)

        which : (given_ramp (elided_code e) (noalloc_of n) ≡ Some d.func)
            ⊎ (given_ramp (elided_code e) (noalloc_of n) ≡ None) → giving.func ≡ d.func
        which (inl is) = same_number giving.func d.func (sym ramp ∙ is)
        which (inr none) = absurd (some_none (given_ramp (elided_code e) (noalloc_of n)) giving.func ramp none)
    by_instr _ is named = absurd (cc)

    pub callee_is : callee_in e.code (Some i) ≡ Some d.func
    callee_is =
        by_truth (is_named_call i) (by_instr i refl)
        (λ other. absurd (some_none (room_at (rooms e c.func) f call.block call.at i)
        (GivenFrame.Alloca site.size site.align) site.room (no_room e keeps c.func call.block call.at i other)))

module _ (e : Elision) (keeps : KeepsPlaces e) where
  pub called_top : (t : State) → AreCalledFrom (elided_code e) (t.top ∷ t.below) → (c : Activation)
      (below : List Activation) → t.below ≡ c ∷ below → IsCalledBy e t.top c
  called_top t h c below is = record {
    callee = λ call i name site stands.
        callee_is e keeps t.top c
        (subst (λ (bs : List Activation). AreCalledFrom (elided_code e) (t.top ∷ bs)) is h).0 call i name site stands;
  }

  pub called_in_runs : (entry : ℕ) (args : List Word) (n : ℕ)
      → IsFine (framed_state_at (elided e) entry args n).outcome → (c : Activation) (below : List Activation)
      → (framed_state_at (elided e) entry args n).below ≡ c ∷ below
      → IsCalledBy e (framed_state_at (elided e) entry args n).top c
  called_in_runs entry args n fine =
      called_top (framed_state_at (elided e) entry args n) (calls_in_runs (elided e) entry args n fine)
