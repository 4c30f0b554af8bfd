-- A marker of a coroutine is followed, by how its slot stands.
use Rattle.std.proofs.Common.{◌≡◌, ◌⊎◌, inl, inr, ℕ, Bool, true, false, List, [], ◌∷◌, Option, None, refl, sym, ap, ◌∙◌}
use Rattle.std.proofs.lemmas.Bool.{and_parts, false≢true}
use Rattle.pass_frames_proof.specs.ir_base.declared.outcome.Outcome.{Outcome}
use Rattle.pass_frames_proof.specs.ir_model.Names.{function_at}
use Rattle.pass_frames_proof.specs.ir_model.Ty.{Ty}
use Rattle.pass_frames_proof.specs.ir_model.declared.instr.Instr.{Instr}
use Rattle.pass_frames_proof.specs.ir_model.declared.module.Function.{Function}
use Rattle.pass_frames_proof.specs.ir_model.declared.operand.Arg.{Arg}
use Rattle.pass_frames_proof.specs.ir_model.declared.operand.Callee.{Callee}
use Rattle.pass_frames_proof.specs.ir_model.declared.operand.Intrinsic.{Intrinsic}
use Rattle.pass_frames_proof.specs.ir_model.declared.operand.Operand.{Operand}
use Rattle.pass_frames_proof.specs.ir_paths.Windows.{operand_at}
use Rattle.pass_frames_meaning.proofs.called.Voids.{void_intrinsic}
use Rattle.pass_frames_meaning.proofs.others.AtPlace.{AreTwo, args_wanted, two_wanted}
use Rattle.pass_frames_meaning.proofs.others.Returns.{instr_in, no_return}
use Rattle.pass_frames_meaning.proofs.slotted.Facts.{listed_slots, slots_apart}
use Rattle.pass_frames_meaning.specs.Coroutines.{Anew, Before, Behind, Early, IsMarkedHere, MayMark, Unmade, Whole}
use Rattle.pass_frames_meaning.specs.Setting.{AreOfRuns, KeepsAll, Setting}
use Rattle.pass_frames_proof.proofs.marking.Gone.{before_followed, behind_followed, idle_followed, poison_followed}
use Rattle.pass_frames_proof.proofs.marking.Kept.{kept_marker_followed}
use Rattle.pass_frames_proof.proofs.marking.Sooner.{early_marker_followed}
use Rattle.pass_frames_proof.specs.Followed.{IsFollowed}
use Rattle.pass_frames_proof.specs.Marking.{IsAtMarker, IsNoLocal, marker, marking}
use Rattle.pass_frames_proof.specs.Related.{AreBuiltOf, is_coroutine}
use Rattle.pass_frames_proof.specs.Stepping.{IsNotEntering}
use Rattle.pass_frames_proof.specs.rule_types.Signatures.{are_wanted}
use Rattle.pass_frames_proof.specs.rule_types.Wants.{any, intrinsic_result, is_basic, meets, want}
use Rattle.pass_frames_proof.specs.rule_types.declared.wants.Basic.{Basic}
use Rattle.pass_frames_proof.specs.rule_types.declared.wants.Demand.{Demand}
use Rattle.pass_frames_proof.specs.run_source.State.{function_of}
use Rattle.pass_frames_proof.specs.run_source.declared.state.State.{State}
use Rattle.pass_frames_proof.specs.run_step.Step.{AtInstr, fetch}

number_literal : (a : Operand) → meets Demand.Number a ≡ true → IsNoLocal a
number_literal (Operand.Local v) e = absurd (false≢true e)
number_literal (Operand.Global n) e = tt
number_literal (Operand.Number n) e = tt
number_literal Operand.True e = tt
number_literal Operand.False e = tt
number_literal Operand.Null e = tt
number_literal Operand.None e = tt
number_literal Operand.Poison e = tt

module _ (c : Setting) (all : KeepsAll c) (s t : State) (r : AreBuiltOf c.b s t) (k : AreOfRuns c s t r)
    (runs : s.outcome ≡ Outcome.Running) (coroutine : is_coroutine c.b s.top.func ≡ true)
    (mode : IsNotEntering s.top.mode) where
  abbrev f : Function
  f = function_at c.g.given.code s.top.func

  module _ (starts : Bool) (may : MayMark c s t r starts) (must_tail : Bool) (ty : Option Ty) (size : Arg) (u : Ty)
      (slot : ℕ) (literal : IsNoLocal size.value)
      (there : fetch f s.top.block s.top.at ≡ AtInstr (marking starts must_tail ty size u slot)) where
    at_marker : IsAtMarker c.b s starts must_tail ty size u slot
    at_marker = record {
      runs = runs;
      coroutine = coroutine;
      mode = mode;
      there = instr_in (c.b.framing s.top.func) f (all.given.coroutines s.top.func coroutine) s.top.block s.top.at
          (marking starts must_tail ty size u slot) there;
      unreturned = no_return c all s.top.func s.top.block s.top.at (marking starts must_tail ty size u slot) coroutine
          there;
      literal = literal;
      unkept = may.unkept must_tail ty size u slot there;
    }

    marked : IsMarkedHere c s t r starts (marking starts must_tail ty size u slot) slot → IsFollowed c.b c.g s t
    marked (Anew gone flag) =
        idle_followed c.b c.g all.given s t r starts must_tail ty size u slot at_marker gone flag
    marked (Unmade gone off none) =
        poison_followed c.b c.g all.given s t r starts must_tail ty size u slot at_marker gone off none
    marked (Before gone off h) =
        before_followed c.b c.g all.given s t r starts must_tail ty size u slot at_marker gone off h
    marked (Early gone off h) =
        early_marker_followed c.b c.g all.given s t r starts must_tail ty size u slot at_marker gone off h
    marked (Behind gone off h) =
        behind_followed c.b c.g all.given s t r starts must_tail ty size u slot at_marker gone off
        (listed_slots s k.slots) (slots_apart t k.other_slots) h
    marked (Whole kept off z h) =
        kept_marker_followed c.b c.g all.given s t r starts must_tail ty size u slot at_marker kept off
        (listed_slots s k.slots) z h

  module _ (starts : Bool) (may : MayMark c s t r starts) (result : Option ℕ) (must_tail : Bool) (ty : Option Ty)
      (args : List Arg)
      (there : fetch f s.top.block s.top.at
      ≡ AtInstr (Instr.Call result must_tail ty (Callee.Intrinsic (marker starts)) args))
      (is : (marker starts ≡ Intrinsic.LifetimeStart) ⊎ (marker starts ≡ Intrinsic.LifetimeEnd))
      (void : intrinsic_result (marker starts) ≡ None)
      (wanted : are_wanted (want Basic.I64 Demand.Number ∷ any Basic.Ptr ∷ []) args ≡ true) where
    two : AreTwo args
    two = two_wanted (want Basic.I64 Demand.Number) (any Basic.Ptr) args wanted

    literal : IsNoLocal two.first.value
    literal = number_literal two.first.value
        (and_parts (is_basic Basic.I64 two.first.ty) (meets Demand.Number two.first.value)
        (and_parts _ _
        (ap (are_wanted (want Basic.I64 Demand.Number ∷ any Basic.Ptr ∷ [])) (sym two.are) ∙ wanted)).0).1

    by_slot : IsFollowed c.b c.g s t
    by_slot =
        let none : result ≡ None = void_intrinsic c.g.given.code f (all.types s.top.func) s.top.block s.top.at result
        must_tail ty (marker starts) args there void in
        let m = (all.steps s.top.func).marked s.top.block s.top.at result must_tail ty (marker starts) args there is in
        let value : two.second.value ≡ Operand.Local m.slot =
        ap (λ (q : List Arg). operand_at q 1) (sym two.are) ∙ m.takes in
        let shaped : args ≡ two.first ∷ record { ty = two.second.ty; value = Operand.Local m.slot } ∷ [] =
        two.are ∙ ap (λ (o : Operand). two.first ∷ record { ty = two.second.ty; value = o } ∷ []) value in
        let at : fetch f s.top.block s.top.at
        ≡ AtInstr (marking starts must_tail ty two.first two.second.ty m.slot) =
        there ∙ (λ j. AtInstr (Instr.Call (none j) must_tail ty (Callee.Intrinsic (marker starts)) (shaped j))) in
        marked starts may must_tail ty two.first two.second.ty m.slot literal at
        (may.each must_tail ty two.first two.second.ty m.slot at)

  pub marker_at : (starts : Bool) → MayMark c s t r starts → (result : Option ℕ) (must_tail : Bool) (ty : Option Ty)
      (args : List Arg)
      → fetch (function_of c.g.given s) s.top.block s.top.at
      ≡ AtInstr (Instr.Call result must_tail ty (Callee.Intrinsic (marker starts)) args) → IsFollowed c.b c.g s t
  marker_at true may result must_tail ty args there =
      by_slot true may result must_tail ty args there (inl refl) refl
      (args_wanted c.g.given.code f (all.types s.top.func) s.top.block s.top.at result must_tail ty
      Intrinsic.LifetimeStart args there)
  marker_at false may result must_tail ty args there =
      by_slot false may result must_tail ty args there (inr refl) refl
      (args_wanted c.g.given.code f (all.types s.top.func) s.top.block s.top.at result must_tail ty
      Intrinsic.LifetimeEnd args there)
