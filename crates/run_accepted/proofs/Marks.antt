-- Lifetime markers take allocas, and none of a coroutine slot stands in a window or after the end (rules K13 and K8).
use Rattle.std.proofs.Common.{◌≡◌, ℕ, Bool, true, false, List, [], ◌∷◌, Option, Some, None, refl, sym, ap, ◌∙◌, subst}
use Rattle.std.specs.Prelude.{IsTrue, not, ◌&&◌, ◌||◌}
use Rattle.pass_proofs.specs.ir_base.declared.outcome.Place.{Place}
use Rattle.pass_proofs.proofs.ir_laws.facts.Members.{at_each}
use Rattle.pass_proofs.proofs.ir_laws.facts.Truth.{holds}
use Rattle.pass_proofs.proofs.ir_laws.paths.renamed.Uses.{stands_in}
use Rattle.pass_proofs.specs.ir_model.Ty.{Ty}
use Rattle.pass_proofs.specs.ir_model.declared.instr.Instr.{Instr}
use Rattle.pass_proofs.specs.ir_model.declared.module.Function.{Function}
use Rattle.pass_proofs.specs.ir_model.declared.module.Module.{Module}
use Rattle.pass_proofs.specs.ir_model.declared.operand.Arg.{Arg}
use Rattle.pass_proofs.specs.ir_model.declared.operand.Callee.{Callee}
use Rattle.pass_proofs.specs.ir_model.declared.operand.Intrinsic.{Intrinsic}
use Rattle.pass_proofs.specs.ir_model.declared.operand.Operand.{Operand}
use Rattle.pass_proofs.specs.ir_parts.Parts.{parts_of}
use Rattle.pass_proofs.specs.ir_paths.Slots.{IsRampSlot, allocas_of, has_name}
use Rattle.pass_proofs.specs.ir_paths.Windows.{call_operand, is_call_of}
use Rattle.pass_proofs.specs.ir_paths.declared.point.Point.{Point}
use Rattle.pass_proofs.proofs.early.save_simulation.Suspending.{fetch_at}
use Rattle.pass_renewed_meaning.specs.pass_renewed_proof.SlotRules.{IsMadeOnce, IsMarkerAt}
use Rattle.pass_proofs.proofs.rule_laws.rules.counted.PartFacts.{block_passes}
use Rattle.pass_proofs.proofs.rule_laws.rules.path_rules.Holding.{of_parts}
use Rattle.pass_proofs.proofs.rule_laws.rules.path_rules.Outside.{place_point}
use Rattle.pass_proofs.proofs.rule_laws.rules.renamed.Outside.{none_breaks}
use Rattle.pass_proofs.proofs.rule_laws.rules.source_rules.Slots.{sized_alloca}
use Rattle.pass_proofs.proofs.rule_laws.rules.sources.Places.{instr_there}
use Rattle.pass_proofs.specs.rule_laws.rules.function_rules.Kept.{KeepsFunctionRules}
use Rattle.pass_proofs.specs.rule_locals.Instrs.{on_instr}
use Rattle.pass_proofs.specs.rule_locals.Markers.{is_marker as is_marker_callee, marks, marks_otherwise, marks_size, slot_size}
use Rattle.pass_proofs.specs.rule_slots.Closed.{IsClosed}
use Rattle.pass_proofs.specs.rule_slots.Marked.{BreaksMarked, IsFirstMarked, is_marker}
use Rattle.pass_proofs.specs.rule_slots.Slots.{NamesSlot}
use Rattle.run_accepted.proofs.Once.{made_once}
use Rattle.pass_renewed_meaning.specs.run_hooks.alive.Alive.{IsEnd, IsMarker, IsStart, MarksAlloca}
use Rattle.pass_proofs.specs.run_step.Step.{AtInstr, fetch}

-- ---- markers by their calls

-- an instruction that calls a marker
record IsMarking (i : Instr) : Type 0 where
  result : Option ℕ
  must_tail : Bool
  ty : Option Ty
  callee : Callee
  args : List Arg
  is : i ≡ Instr.Call result must_tail ty callee args
  marks : is_marker_callee callee ≡ true

is_marking : (marker : Intrinsic) → IsMarker marker → (i : Instr) → is_call_of marker i ≡ true → IsMarking i
is_marking _ IsStart (Instr.Call r t ty (Callee.Intrinsic Intrinsic.LifetimeStart) args) e =
    record {
      result = r;
      must_tail = t;
      ty = ty;
      callee = Callee.Intrinsic Intrinsic.LifetimeStart;
      args = args;
      is = refl;
      marks = refl;
    }
is_marking _ IsStart _ e = absurd (cc)
is_marking _ IsEnd (Instr.Call r t ty (Callee.Intrinsic Intrinsic.LifetimeEnd) args) e =
    record {
      result = r;
      must_tail = t;
      ty = ty;
      callee = Callee.Intrinsic Intrinsic.LifetimeEnd;
      args = args;
      is = refl;
      marks = refl;
    }
is_marking _ IsEnd _ e = absurd (cc)

pub is_either : (marker : Intrinsic) → IsMarker marker → (i : Instr) → is_call_of marker i ≡ true
    → is_marker i ≡ true
is_either _ IsStart i e =
    ap (λ (b : Bool). b || is_call_of Intrinsic.LifetimeEnd i) e
is_either _ IsEnd i e = last (is_call_of Intrinsic.LifetimeStart i) e
  where
    last : (b : Bool) → is_call_of Intrinsic.LifetimeEnd i ≡ true
        → (b || is_call_of Intrinsic.LifetimeEnd i) ≡ true
    last true h = refl
    last false h = h

-- ---- what a marker takes

-- the second operand is a local with a size
record TakesSized (sizes : ℕ → Option ℕ) (i : Instr) : Type 0 where
  alloca : ℕ
  size : ℕ
  takes : call_operand i 1 ≡ Operand.Local alloca
  sized : sizes alloca ≡ Some size

module _ (sizes : ℕ → Option ℕ) (r : Option ℕ) (t : Bool) (ty : Option Ty) (callee : Callee) where
  sized_by : (a b : Arg) (v : ℕ) → b.value ≡ Operand.Local v → marks_size a.value (sizes v) ≡ true
      → TakesSized sizes (Instr.Call r t ty callee (a ∷ b ∷ []))
  sized_by a b v is h = on (sizes v) refl h
    where
      on : (o : Option ℕ) → sizes v ≡ o → marks_size a.value o ≡ true
          → TakesSized sizes (Instr.Call r t ty callee (a ∷ b ∷ []))
      on None e k = absurd (cc)
      on (Some s) e k = record { alloca = v; size = s; takes = is; sized = e }

  takes_sized : (args : List Arg) → marks sizes args ≡ true → TakesSized sizes (Instr.Call r t ty callee args)
  takes_sized [] h = absurd (cc)
  takes_sized (a ∷ []) h = absurd (cc)
  takes_sized (a ∷ b ∷ c ∷ args) h = absurd (cc)
  takes_sized (a ∷ b ∷ []) h = on b.value refl h
    where
      on : (o : Operand) → b.value ≡ o → Rattle.pass_proofs.specs.rule_locals.Markers.marks_slot sizes a.value o ≡ true
          → TakesSized sizes (Instr.Call r t ty callee (a ∷ b ∷ []))
      on (Operand.Local v) e k = sized_by a b v e k
      on (Operand.Global n) e k = absurd (cc)
      on (Operand.Number z) e k = absurd (cc)
      on Operand.True e k = absurd (cc)
      on Operand.False e k = absurd (cc)
      on Operand.Null e k = absurd (cc)
      on Operand.None e k = absurd (cc)
      on Operand.Poison e k = absurd (cc)

not_otherwise : (sizes : ℕ → Option ℕ) (p : Place) (r : Option ℕ) (t : Bool) (ty : Option Ty) (callee : Callee)
    (args : List Arg) → is_marker_callee callee ≡ true
    → marks_otherwise sizes p (Instr.Call r t ty callee args) ≡ false → marks sizes args ≡ true
not_otherwise sizes p r t ty callee args is h =
    holds (marks sizes args) (sym (ap (λ (b : Bool). b && not (marks sizes args)) is) ∙ h)

module _ (m : Module) (k : ℕ) (f : Function) (rules : KeepsFunctionRules m k f) where
  pub marks_alloca : (marker : Intrinsic) → IsMarker marker → (p : Point) (i : Instr)
      → fetch f p.block p.at ≡ AtInstr i → is_call_of marker i ≡ true → MarksAlloca f i
  marks_alloca marker is p i stands e = with_call (is_marking marker is i e)
    where
      with_call : IsMarking i → MarksAlloca f i
      with_call c =
          let x = stands_in f p i (instr_there f p.block p.at i stands) in
          let y = at_each _ x.block.instrs p.at i (block_passes (on_instr (marks_otherwise (slot_size m f))) k f
          rules.local.marks p.block x.block x.got).instrs x.stands in
          let right : marks (slot_size m f) c.args ≡ true = not_otherwise (slot_size m f) y.0 c.result c.must_tail c.ty
          c.callee c.args c.marks
          (subst (λ (j : Instr). marks_otherwise (slot_size m f) y.0 j ≡ false) c.is y.2) in
          let z = takes_sized (slot_size m f) c.result c.must_tail c.ty c.callee c.args right in
          let a = sized_alloca m z.alloca z.size f z.sized in
          record {
            alloca = z.alloca;
            takes = ap (λ (j : Instr). call_operand j 1) c.is ∙ z.takes;
            made = made_once m k f rules z.alloca a.ty a.align a.point.block a.point.at
                (fetch_at f a.point (Instr.Alloca z.alloca a.ty a.align) a.stands);
          }

-- ---- where none stands

module _ (k : ℕ) (f : Function) (coroutine : f.coroutine ≡ true) (marked : IsFirstMarked k f None) where
  pub none_closed : (listed : (a : ℕ) → IsMadeOnce f a → IsTrue (has_name (allocas_of f) a)) (marker : Intrinsic)
      → IsMarker marker → (a : ℕ) (p : Point) → IsMarkerAt f marker a p → IsClosed f p → IsMadeOnce f a
      → (IsRampSlot f a → ⊥) → ⊥
  none_closed listed marker is a p x shut made no_ramp =
      let y = stands_in f p x.instr (instr_there f p.block p.at x.instr x.stands) in
      let parts = of_parts (λ z. BreaksMarked f z → ⊥) k f
      (none_breaks (BreaksMarked f) (λ z. z.0) (parts_of k f) marked) in
      (parts.blocks p.block y.block y.got).instrs p.at x.instr y.stands (
        coroutine,
        (
          is_either marker is x.instr x.is,
          subst (NamesSlot f) (sym x.takes) (listed a made, no_ramp),
          subst (IsClosed f) (sym (place_point k f p.block p.at y.block y.got)) shut,
        ),
      )
