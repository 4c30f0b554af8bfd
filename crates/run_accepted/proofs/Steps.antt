-- What steps of runs that make slots anew ask of functions besides names and places: K13, Y1, Y4 and blocks on edges.
use Rattle.std.proofs.Common.{◌≡◌, ◌⊎◌, inl, inr, ℕ, ◌<◌, ◌≤◌, ◌^◌, ◌/◌, ◌+◌, Bool, true, false, List, [], ◌∷◌, Option, Some, None}
use Rattle.std.proofs.Common.{refl, sym, ap, ◌∙◌, subst, arith}
use Rattle.std.proofs.lemmas.Bool.{leb-true}
use Rattle.std.specs.List.{list_all}
use Rattle.std.specs.Prelude.{nat_le, slice_get, ◌==◌, ◌||◌}
use Rattle.pass_proofs.proofs.flow_solver.Lists.{listed_at}
use Rattle.pass_proofs.specs.flow_solver.Paths.{IsListed}
use Rattle.pass_proofs.proofs.ir_laws.facts.Members.{at_each}
use Rattle.pass_proofs.proofs.ir_laws.facts.Truth.{and_first, and_second, equal_numbers, holds}
use Rattle.pass_proofs.proofs.ir_laws.paths.renamed.Uses.{stands_in}
use Rattle.pass_proofs.specs.ir_laws.facts.counted.Widths.{has_width, is_width}
use Rattle.pass_proofs.specs.ir_model.Layout.{size_of}
use Rattle.pass_proofs.specs.ir_model.Names.{no_function, position_of}
use Rattle.pass_proofs.specs.ir_model.Ty.{Ty, array, int, named, ptr, structure, token}
use Rattle.pass_proofs.specs.ir_model.TypeView.{bits_of}
use Rattle.pass_proofs.specs.ir_model.declared.instr.Instr.{Instr}
use Rattle.pass_proofs.specs.ir_model.declared.ir_type.IntWidth.{IntWidth}
use Rattle.pass_proofs.specs.ir_model.declared.module.Function.{Function}
use Rattle.pass_proofs.specs.ir_model.declared.module.GlobalItem.{GlobalItem}
use Rattle.pass_proofs.specs.ir_model.declared.module.Module.{Module}
use Rattle.pass_proofs.specs.ir_model.declared.operand.Arg.{Arg}
use Rattle.pass_proofs.specs.ir_model.declared.operand.Callee.{Callee}
use Rattle.pass_proofs.specs.ir_model.declared.operand.Intrinsic.{Intrinsic}
use Rattle.pass_proofs.specs.ir_parts.Contents.{instr_types}
use Rattle.pass_proofs.specs.ir_paths.Facts.{facts_of}
use Rattle.pass_proofs.specs.ir_paths.Windows.{destroy_label, is_call_of, label_at, resume_label}
use Rattle.pass_proofs.specs.ir_paths.declared.point.Point.{Point}
use Rattle.pass_proofs.specs.pass_intrinsics.Shapes.{suspends_of}
use Rattle.pass_proofs.specs.pass_intrinsics.declared.shape.SuspendPoint.{SuspendPoint}
use Rattle.pass_proofs.specs.pass_kept_proof.SuspendRules.{IsCallAt}
use Rattle.pass_proofs.proofs.split.uses.Origins.{suspend_there}
use Rattle.pass_renewed_meaning.specs.Rules.{IsMarked, KeepsStepRules}
use Rattle.pass_proofs.proofs.rule_laws.frames.shape.Points.{destroy_listed, point_from, resume_listed}
use Rattle.pass_proofs.proofs.rule_laws.frames.uses.Quiet.{suspends}
use Rattle.pass_proofs.proofs.rule_laws.rules.counted.PartFacts.{block_passes}
use Rattle.pass_proofs.proofs.rule_laws.rules.source_rules.Locals.{own_label}
use Rattle.pass_proofs.proofs.rule_laws.rules.sources.Places.{instr_there, point}
use Rattle.pass_proofs.specs.rule_laws.frames.rows.Returns.{HaveOwnReturns, return_labels}
use Rattle.pass_proofs.specs.rule_laws.rules.counted.Widths.{first_other_width, is_of_other_width}
use Rattle.pass_proofs.specs.rule_laws.rules.function_rules.Kept.{KeepsFunctionRules}
use Rattle.pass_proofs.specs.rule_locals.Extents.{breaks_extents, is_aligned, is_sized}
use Rattle.pass_proofs.specs.rule_locals.Instrs.{on_instr}
use Rattle.pass_proofs.specs.rule_names.declared.stage.Stage.{Stage}
use Rattle.pass_renewed_meaning.specs.run_hooks.alive.Alive.{IsEnd, IsStart, KeepsAliveRules, MarksAlloca}
use Rattle.pass_proofs.specs.run_laws.changed.Changed.{Each}
use Rattle.pass_proofs.specs.run_laws.embedded.Related.{HasBytes}
use Rattle.pass_proofs.specs.run_memory.Memory.{access_bytes}
use Rattle.pass_proofs.specs.run_step.Step.{AtInstr, Nowhere, fetch, phis_of}
use Rattle.pass_proofs.specs.run_step.Values.{access_of}
use Rattle.pass_proofs.specs.text_canonical.order.Shape as shape

-- ---- bytes of types

width_small : (w : IntWidth) → (bits_of w + 7) / 8 < 2 ^ 64
width_small IntWidth.I1 = omega arith
width_small IntWidth.I8 = omega arith
width_small IntWidth.I16 = omega arith
width_small IntWidth.I32 = omega arith
width_small IntWidth.I64 = omega arith

small_type : (t : Ty) → shape.IsScalar t → access_bytes (access_of t) < 2 ^ 64
small_type (int w) h = subst (λ (b : ℕ). (b + 7) / 8 < 2 ^ 64) (sym h.1) (width_small h.0)
small_type ptr h = omega arith
small_type token h = absurd h
small_type (array n t) h = absurd h
small_type (structure ts) h = absurd h
small_type (named n) h = absurd h

pub small_globals : (gs : List GlobalItem) → Each shape.IsGlobal gs
    → Each (λ (g : GlobalItem). access_bytes (access_of g.ty) < 2 ^ 64) gs
small_globals [] h = tt
small_globals (g ∷ gs) h = (small_type g.ty h.0.0, small_globals gs h.1)

within : (n most : ℕ) → most ≡ 1048576 → n ≤ most → n < 2 ^ 64
within n most e le = omega (arith, e, le)

-- a width of the grammar takes a byte
byte_of : (w n : ℕ) → (w == n) ≡ true → 0 < (n + 7) / 8 → 0 < (w + 7) / 8
byte_of w n e lt = subst (λ (b : ℕ). 0 < (b + 7) / 8) (sym (equal_numbers w n e)) lt

either_width : (w n : ℕ) (b rest : Bool) → (w == n) ≡ b → 0 < (n + 7) / 8 → (rest ≡ true → 0 < (w + 7) / 8)
    → (b || rest) ≡ true → 0 < (w + 7) / 8
either_width w n true rest e lt later h = byte_of w n e lt
either_width w n false rest e lt later h = later h

some_width : (w : ℕ) → is_width w ≡ true → 0 < (w + 7) / 8
some_width w e = either_width w 1 (w == 1) _ refl (omega arith) (either_width w 8 (w == 8) _ refl (omega arith)
    (either_width w 16 (w == 16) _ refl (omega arith) (either_width w 32 (w == 32) _ refl (omega arith)
    (λ h. byte_of w 64 h (omega arith))))) e

some_bytes : (t : Ty) → has_width t ≡ true → 0 < access_bytes (access_of t)
some_bytes (int w) e = some_width w e
some_bytes ptr e = omega arith
some_bytes token e = omega arith
some_bytes (array n t) e = omega arith
some_bytes (structure ts) e = omega arith
some_bytes (named n) e = omega arith

has_bytes : (i : Instr) → list_all has_width (instr_types i) ≡ true → HasBytes (AtInstr i)
has_bytes (Instr.Load name ty p align) e = some_bytes ty (and_first (has_width ty) true e)
has_bytes (Instr.Store arg p align) e = some_bytes arg.ty (and_first (has_width arg.ty) true e)
has_bytes (Instr.Binary name op flags ty a b) e = tt
has_bytes (Instr.Icmp name pred ty a b) e = tt
has_bytes (Instr.Select name x a b) e = tt
has_bytes (Instr.Cast name op nneg arg to) e = tt
has_bytes (Instr.Alloca name ty align) e = tt
has_bytes (Instr.Gep name inbounds ty base indices) e = tt
has_bytes (Instr.Call result must_tail ty callee args) e = tt

-- what is a call of coro.suspend suspends
suspends_by : (i : Instr) → is_call_of Intrinsic.CoroSuspend i ≡ true → suspends i ≡ true
suspends_by (Instr.Call r must_tail ty (Callee.Intrinsic Intrinsic.CoroSuspend) args) e = refl
suspends_by _ e = absurd (cc)

-- ---- a function

module _ (m : Module) (k : ℕ) (f : Function) (rules : KeepsFunctionRules m k f) where
  sizes : (block at name : ℕ) (ty : Ty) (align : ℕ) → fetch f block at ≡ AtInstr (Instr.Alloca name ty align)
      → size_of m ty < 2 ^ 64
  sizes block at name ty align e =
      let i : Instr = Instr.Alloca name ty align in
      let x = stands_in f (point block at) i (instr_there f block at i e) in
      let y = at_each _ x.block.instrs at i (block_passes (on_instr (breaks_extents Stage.Source m)) k f
      rules.local.extents block x.block x.got).instrs x.stands in
      let sized : is_sized 1048576 (size_of m ty) ≡ true =
      and_first (is_sized 1048576 (size_of m ty)) (is_aligned align) (holds _ y.2) in
      within (size_of m ty) 1048576 refl
      (leb-true (size_of m ty) 1048576 (and_second (nat_le 1 (size_of m ty)) (nat_le (size_of m ty) 1048576) sized))

  bytes : first_other_width k f ≡ None → (block at : ℕ) (i : Instr) → fetch f block at ≡ AtInstr i
      → HasBytes (AtInstr i)
  bytes wide block at i e =
      let x = stands_in f (point block at) i (instr_there f block at i e) in
      let y = at_each _ x.block.instrs at i (block_passes is_of_other_width k f wide block x.block x.got).instrs x.stands in
      has_bytes i (holds (list_all has_width (instr_types i)) y.2)

  -- ---- blocks behind suspends

  module _ (own : HaveOwnReturns f) where
    no_phis_at : (label : ℕ) → IsListed label (return_labels (suspends_of f))
        → phis_of (slice_get f.blocks (position_of f label)) ≡ []
    no_phis_at label l = let x = own.own label l in ap phis_of x.got ∙ x.no_phis

    -- a suspend's switch stands in its block, whose labels are those of its edges
    record IsSuspendOf (s : Point) : Type 0 where
      suspend : SuspendPoint
      listed : IsListed suspend (suspends_of f)
      resume : suspend.resume ≡ resume_label f s
      destroy : suspend.destroy ≡ destroy_label f s

    suspend_of_place : (s : Point) → IsCallAt Intrinsic.CoroSuspend f s → IsSuspendOf s
    suspend_of_place s c =
        let x = stands_in f s c.instr (instr_there f s.block s.at c.instr c.stands) in
        let p = suspend_there f x.block c.instr (listed_at f.blocks s.block x.block x.got)
        (listed_at x.block.instrs s.at c.instr x.stands) (suspends_by c.instr c.is) in
        let y = point_from f p.0 p.1.0 in
        let place : s.block ≡ y.position = sym (own_label k f rules.definitions s.block x.block x.got)
        ∙ ap (position_of f) (sym p.1.1 ∙ y.is_of.block) ∙ own_label k f rules.definitions y.position y.block y.got in
        let there : slice_get f.blocks s.block ≡ Some y.block = ap (slice_get f.blocks) place ∙ y.got in
        record {
          suspend = p.0;
          listed = p.1.0;
          resume = y.is_of.resume ∙ sym (ap (label_at 0) there);
          destroy = y.is_of.destroy ∙ sym (ap (label_at 1) there);
        }

    pub no_phis : (s : Point) → IsCallAt Intrinsic.CoroSuspend f s
        → (phis_of (slice_get f.blocks (position_of f (resume_label f s))) ≡ [])
        × (phis_of (slice_get f.blocks (position_of f (destroy_label f s))) ≡ [])
    no_phis s c =
        let x = suspend_of_place s c in (
          subst (λ (l : ℕ). phis_of (slice_get f.blocks (position_of f l)) ≡ []) x.resume
              (no_phis_at x.suspend.resume (resume_listed (suspends_of f) x.suspend x.listed)),
          subst (λ (l : ℕ). phis_of (slice_get f.blocks (position_of f l)) ≡ []) x.destroy
              (no_phis_at x.suspend.destroy (destroy_listed (suspends_of f) x.suspend x.listed)),
        )

  -- ---- markers

  module _ (alive : KeepsAliveRules f (facts_of f).ramp_slots) where
    marked : (block at : ℕ) (result : Option ℕ) (must_tail : Bool) (ty : Option Ty) (marker : Intrinsic)
        (args : List Arg) → fetch f block at ≡ AtInstr (Instr.Call result must_tail ty (Callee.Intrinsic marker) args)
        → (marker ≡ Intrinsic.LifetimeStart) ⊎ (marker ≡ Intrinsic.LifetimeEnd) → IsMarked f args
    marked block at result must_tail ty marker args e (inl is) = of_alloca
        (alive.marked Intrinsic.LifetimeStart IsStart (point block at)
        (Instr.Call result must_tail ty (Callee.Intrinsic marker) args) e
        (ap (λ (x : Intrinsic). is_call_of Intrinsic.LifetimeStart
        (Instr.Call result must_tail ty (Callee.Intrinsic x) args)) is))
      where
        of_alloca : MarksAlloca f (Instr.Call result must_tail ty (Callee.Intrinsic marker) args) → IsMarked f args
        of_alloca x = record { slot = x.alloca; takes = x.takes; made = x.made }
    marked block at result must_tail ty marker args e (inr is) = of_alloca
        (alive.marked Intrinsic.LifetimeEnd IsEnd (point block at)
        (Instr.Call result must_tail ty (Callee.Intrinsic marker) args) e
        (ap (λ (x : Intrinsic). is_call_of Intrinsic.LifetimeEnd
        (Instr.Call result must_tail ty (Callee.Intrinsic x) args)) is))
      where
        of_alloca : MarksAlloca f (Instr.Call result must_tail ty (Callee.Intrinsic marker) args) → IsMarked f args
        of_alloca x = record { slot = x.alloca; takes = x.takes; made = x.made }

    pub steps_kept : first_other_width k f ≡ None
        → ((s : Point) → IsCallAt Intrinsic.CoroSuspend f s
        → (phis_of (slice_get f.blocks (position_of f (resume_label f s))) ≡ [])
        × (phis_of (slice_get f.blocks (position_of f (destroy_label f s))) ≡ [])) → KeepsStepRules m f
    steps_kept wide empty = record { marked = marked; sizes = sizes; bytes = bytes wide; no_phis = empty }

-- where there is no function
pub no_steps : (m : Module) → KeepsStepRules m no_function
no_steps m = record {
  marked = λ block at result must_tail ty marker args e is. let none : Nowhere ≡ AtInstr _ = e in absurd (cc);
  sizes = λ block at name ty align e. let none : Nowhere ≡ AtInstr _ = e in absurd (cc);
  bytes = λ block at i e. let none : Nowhere ≡ AtInstr i = e in absurd (cc);
  no_phis = λ s c. let none : Nowhere ≡ AtInstr c.instr = c.stands in absurd (cc);
}
