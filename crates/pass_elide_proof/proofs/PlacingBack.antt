-- What a caller sets where an activation returns to it.
use Rattle.std.proofs.Common.{◌≡◌, ◌⊎◌, inl, inr, ℕ, true, false, List, ◌∷◌, Option, refl, sym, ap, ◌∙◌, subst}
use Rattle.std.specs.Prelude.{None, Some}
use Rattle.elide_shape.specs.Calls.{deals_by}
use Rattle.elide_shape.specs.declared.calls.Dealing.{Dealing}
use Rattle.pass_elide_proof.proofs.PlacingFacts.{holds_over}
use Rattle.pass_elide_proof.specs.Elision.{Elision, Shape}
use Rattle.pass_elide_proof.specs.Placing.{KeepsPlaces, is_test}
use Rattle.pass_elide_proof.specs.PlacingStates.{ComeFromCalls, IsBehindCall, IsKnownState, is_entering}
use Rattle.pass_elide_proof.specs.Returning.{ReturnsTo, SetsAlike}
use Rattle.pass_proofs.specs.ir_model.declared.instr.Instr.{Instr}
use Rattle.pass_proofs.specs.ir_model.declared.operand.Callee.{Callee}
use Rattle.pass_proofs.specs.ir_model.declared.operand.Intrinsic.{Intrinsic}
use Rattle.pass_proofs.specs.ir_paths.Windows.{is_call_of}
use Rattle.pass_proofs.specs.run_source.declared.state.Activation.{Activation}
use Rattle.pass_proofs.specs.run_source.declared.state.State.{State}

-- a call of a function asks nothing of a frame
record IsNoQuestion (x : Shape) (i : Instr) : Type 0 where
  begins : is_call_of Intrinsic.CoroBegin i ≡ false
  asks : is_call_of Intrinsic.CoroAlloc i ≡ false
  frees : is_call_of Intrinsic.CoroFree i ≡ false
  tests : is_test x i ≡ false
  allocates : deals_by Dealing.Allocates i ≡ false

no_question : (x : Shape) (i : Instr) → is_entering i ≡ true → IsNoQuestion x i
no_question x (Instr.Call result must_tail ty (Callee.Named n) args) e =
    record { begins = refl; asks = refl; frees = refl; tests = refl; allocates = refl }
no_question x (Instr.Call result must_tail ty (Callee.Local v) args) e =
    record { begins = refl; asks = refl; frees = refl; tests = refl; allocates = refl }
no_question x (Instr.Call result must_tail ty (Callee.Allocator a) args) e = absurd (cc)
no_question x (Instr.Call result must_tail ty (Callee.Intrinsic j) args) e = absurd (cc)
no_question x (Instr.Binary r op flags ty a b) e = absurd (cc)
no_question x (Instr.Icmp r pred ty a b) e = absurd (cc)
no_question x (Instr.Select r y a b) e = absurd (cc)
no_question x (Instr.Cast r op nneg arg to) e = absurd (cc)
no_question x (Instr.Alloca r ty align) e = absurd (cc)
no_question x (Instr.Load r ty p align) e = absurd (cc)
no_question x (Instr.Store arg p align) e = absurd (cc)
no_question x (Instr.Gep r inbounds ty base indices) e = absurd (cc)

module _ (e : Elision) (keeps : KeepsPlaces e) where
  sets_alike : (b : Activation) (result : Option ℕ) → (result ≡ None) ⊎ IsBehindCall e.code result b
      → SetsAlike e b result
  sets_alike b result (inl none) = record {
    low = λ v is. absurd (nothing v is);
    need = λ v is. absurd (nothing v is);
    freed = λ v is. absurd (nothing v is);
    tested = λ v is. absurd (nothing v is);
    kept = λ v name is held. absurd (nothing v is);
  }
    where
      nothing : (v : ℕ) → result ≡ Some v → ⊥
      nothing v is = cc
  sets_alike b result (inr k) =
      let plain = no_question (e.shape b.func) k.instr k.enters in
      let set = λ (v : ℕ) (is : result ≡ Some v).
      (keeps.instrs b.func).sets b.block k.at v k.instr k.there (sym k.same ∙ is) in
      let holds = holds_over e b.func b.block k.at k.instr k.there plain.begins plain.allocates (keeps.shapes b.func) in
      record {
        low = λ v is. (set v is).low;
        need = λ v is. (set v is).need plain.asks;
        freed = λ v is. (set v is).freed plain.frees;
        tested = λ v is. (set v is).tested plain.tests;
        kept = λ v name is held.
            (set v is).kept name (sym holds ∙ (sym (ap ((e.shape b.func).holds b.block) k.behind) ∙ held));
      }

  pub returns_place : (s : State) (caller : Activation) (rest : List Activation) → IsKnownState e.code s
      → s.below ≡ caller ∷ rest → ReturnsTo e s
  returns_place s caller rest known below =
      let come : ComeFromCalls e.code (s.top ∷ (caller ∷ rest))
      = subst (λ (bs : List Activation). ComeFromCalls e.code (s.top ∷ bs)) below known.coming in
      record { caller = caller; rest = rest; below = below; sets = sets_alike caller s.top.result come.0 }
