-- What stands at a place, and the names that it gives, by the rules.
use Rattle.std.proofs.Common.{◌≡◌, ℕ, Bool, true, false, List, Option, Some, sym, ap, ◌∙◌, subst}
use Rattle.std.proofs.lemmas.Bool.{false≢true}
use Rattle.run_types.specs.ir_model.Names.{function_at}
use Rattle.run_types.specs.ir_model.Ty.{Ty}
use Rattle.run_types.specs.ir_model.declared.instr.Instr.{Instr}
use Rattle.run_types.specs.ir_model.declared.module.Function.{Function}
use Rattle.run_types.specs.ir_model.declared.module.Module.{Module}
use Rattle.run_types.specs.ir_model.declared.operand.Arg.{Arg}
use Rattle.run_types.specs.ir_model.declared.operand.Callee.{Callee}
use Rattle.run_types.specs.ir_model.declared.operand.Intrinsic.{Intrinsic}
use Rattle.run_types.specs.ir_model.declared.operand.Operand.{Operand}
use Rattle.run_types.specs.ir_paths.Windows.{is_call_of}
use Rattle.run_types.specs.ir_paths.declared.point.Point.{Point}
use Rattle.run_types.specs.pass_kept_proof.SuspendRules.{IsCallAt}
use Rattle.run_types.specs.run_source.declared.state.Activation.{Activation}
use Rattle.run_types.specs.run_step.Step.{AtInstr, AtTerm, fetch}
use Rattle.run_types.specs.pass_renewed_proof.Ahead.{IsBehindSuspendCall}
use Rattle.run_types.specs.pass_renewed_proof.Beside.{place_in}
use Rattle.run_types.specs.pass_renewed_proof.Making.{IsGiving}
use Rattle.run_types.specs.pass_renewed_proof.Ordinary.{IsCalm, IsOrdinary}
use Rattle.run_types.specs.pass_renewed_proof.Renewed.{Roots}
use Rattle.run_types.specs.pass_renewed_proof.SlotRules.{IsAddressOf, IsMadeOnce, Itself, KeepsSlots, Part}
use Rattle.run_types.specs.pass_renewed_proof.Steps.{given_at}

pub same_instr : {i j : Instr} → AtInstr i ≡ AtInstr j → i ≡ j
same_instr e = cc

-- it makes no slot, and computes no address of a local
pub record IsPlain (i : Instr) : Type 0 where
  pub no_slot : (a : ℕ) (ty : Ty) (align : ℕ) → i ≡ Instr.Alloca a ty align → ⊥
  pub no_address : (n : ℕ) (inbounds : Bool) (ty : Ty) (u : ℕ) (indices : List Arg)
      → i ≡ Instr.Gep n inbounds ty (Operand.Local u) indices → ⊥

module _ (m : Module) (f : Function) (flags : ℕ → Bool) (roots : ℕ → Option ℕ) (keeps : KeepsSlots m f flags roots)
    (p : Point) (i : Instr) (here : fetch f p.block p.at ≡ AtInstr i) where
  pub no_switch : IsBehindSuspendCall f p.block p.at → ⊥
  no_switch behind =
      let w = keeps.suspends.switched (record { block = p.block; at = behind.before }) behind.is_suspend in
      let k : AtTerm w.term ≡ AtInstr i = sym w.stands ∙ ap (fetch f p.block) (sym behind.next) ∙ here in
      absurd (cc)

  pub no_call : (c : Intrinsic) → is_call_of c i ≡ false → IsCallAt c f p → ⊥
  no_call c none at = false≢true (sym none ∙ ap (is_call_of c) (same_instr (sym here ∙ at.stands)) ∙ at.is)

  pub calm : is_call_of Intrinsic.CoroEnd i ≡ false → IsCalm f p
  calm none = record {
    no_switch = no_switch;
    no_end = λ block at. false≢true (sym none ∙ keeps.names.end_is_first i ((λ j. fetch f (sym block j) (sym at j)) ∙
        here));
    no_close = no_call Intrinsic.CoroEnd none;
  }

  pub ordinary : is_call_of Intrinsic.CoroEnd i ≡ false → is_call_of Intrinsic.CoroSuspend i ≡ false → IsOrdinary f p
  ordinary none stays =
      let c = calm none in
      record {
        no_suspend = no_call Intrinsic.CoroSuspend stays;
        no_switch = c.no_switch;
        no_end = c.no_end;
        no_close = c.no_close;
      }

  -- ---- names

  pub gives_address : (v slot : ℕ) → roots v ≡ Some slot → given_at (AtInstr i) ≡ Some v
      → IsAddressOf f roots slot v p.block p.at
  gives_address v slot root given = keeps.given v slot p.block p.at root (ap given_at here ∙ given)

  module _ (plain : IsPlain i) where
    pub no_alloca : (v : ℕ) → IsMadeOnce f v → given_at (AtInstr i) ≡ Some v → ⊥
    no_alloca v made given =
        let at = made.alone p.block p.at (ap given_at here ∙ given) in
        plain.no_slot v made.ty made.align (same_instr (sym here ∙ (λ j. fetch f (at.0 j) (at.1 j)) ∙ made.stands))

    pub no_part : (v slot : ℕ) → roots v ≡ Some slot → given_at (AtInstr i) ≡ Some v → ⊥
    no_part v slot root given = on (gives_address v slot root given)
      where
        on : IsAddressOf f roots slot v p.block p.at → ⊥
        on (Itself same) = no_alloca v (keeps.made v (subst (λ a. flags a ≡ true) (sym same) (keeps.rooted v slot
            root).0)) given
        on (Part inbounds ty u indices at root') = plain.no_address v inbounds ty u indices (same_instr (sym here ∙ at))

-- a call is plain
pub plain_call : (result : Option ℕ) (must_tail : Bool) (ty : Option Ty) (callee : Callee) (args : List Arg)
    → IsPlain (Instr.Call result must_tail ty callee args)
plain_call result must_tail ty callee args = record {
  no_slot = λ a ty align e. absurd (cc);
  no_address = λ n inbounds ty u indices e. absurd (cc);
}

-- a call that gives its result, or nothing
pub giving_call : (m : Module) (flags : ℕ → ℕ → Bool) (roots : Roots) (a : Activation) → KeepsSlots m (function_at m
    a.func) (flags a.func) (roots a.func) → (result : Option ℕ) (must_tail : Bool) (ty : Option Ty) (callee : Callee)
    (args : List Arg) → fetch (function_at m a.func) a.block a.at ≡ AtInstr (Instr.Call result must_tail ty callee args)
    → is_call_of Intrinsic.CoroEnd (Instr.Call result must_tail ty callee args) ≡ false
    → is_call_of Intrinsic.LifetimeStart (Instr.Call result must_tail ty callee args) ≡ false
    → is_call_of Intrinsic.LifetimeEnd (Instr.Call result must_tail ty callee args) ≡ false
    → IsGiving m roots a (Instr.Call result must_tail ty callee args) (given_at (AtInstr (Instr.Call result must_tail ty
    callee args)))
giving_call m flags roots a keeps result must_tail ty callee args here none start end = record {
  place = calm m (function_at m a.func) (flags a.func) (roots a.func) keeps (place_in a) _ here none;
  here = here;
  no_start = start;
  no_end = end;
  no_part = λ v slot root given. no_part m (function_at m a.func) (flags a.func) (roots a.func) keeps (place_in a) _ here
      (plain_call result must_tail ty callee args) v slot root given;
  no_alloca = λ v made given. no_alloca m (function_at m a.func) (flags a.func) (roots a.func) keeps (place_in a) _ here
      (plain_call result must_tail ty callee args) v made given;
}
