-- Getelementptrs of an accepted source lead through structures of fewer fields than 2^31, and so do those of its forms.
use Rattle.std.proofs.Common.{◌≡◌, ℕ, Bool, true, false, List, length, refl, sym, ◌∙◌, subst}
use Rattle.std.proofs.lemmas.Option.{slice_get-map}
use Rattle.std.specs.Prelude.{None, Option, Some, option_map, slice_get, unwrap_or, if◌then◌else◌}
use Rattle.compiler.proofs.whole.lowered_sources.Sources.{comes_from}
use Rattle.compiler_theorem.proofs.narrow.Early.{early_narrow}
use Rattle.compiler_theorem.proofs.narrow.Indices.{fields_small, small_indices, steady_indices}
use Rattle.compiler_theorem.proofs.narrow.Passes.{edges_narrow, exits_narrow, framed_narrow}
use Rattle.compiler_theorem.proofs.narrow.Written.{text_narrow}
use Rattle.compiler_theorem.proofs.parts.Followable.{comes}
use Rattle.compiler_theorem.specs.narrow.Narrow.{IsNarrow, IsNarrowFunction, IsNarrowModule}
use Rattle.compiler_theorem.specs.parts.Framed.{AreSmallInnerIndices}
use Rattle.compiler_theorem.specs.theorem.Anew.{HaveSteadyIndices}
use Rattle.compiler_theorem.specs.theorem.Lowered.{HasFewBytes, IsLowered, Lowered, early, edged}
use Rattle.compiler.proofs.ir_laws.facts.Members.{at_each, each_by}
use Rattle.compiler.specs.ir_model.Names.{function_at, no_function}
use Rattle.compiler.specs.ir_model.Ty.{Ty}
use Rattle.compiler.specs.ir_model.declared.instr.Instr.{Instr}
use Rattle.compiler.specs.ir_model.declared.module.Function.{Function}
use Rattle.compiler.specs.ir_model.declared.module.TypeItem.{TypeItem}
use Rattle.compiler.specs.ir_model.declared.operand.Arg.{Arg}
use Rattle.compiler.specs.ir_model.declared.operand.Operand.{Operand}
use Rattle.compiler.specs.pass_edges.EdgeBlocks.{with_edge_blocks}
use Rattle.compiler.specs.pass_exits.ExitBlocks.{with_exit_blocks}
use Rattle.compiler.specs.pass_frames.Framed.{layout_at}
use Rattle.compiler.proofs.pass_proofs.frames.unnamed.Positions.{Becomes, FramedBy, Unchanged, stands_as}
use Rattle.compiler.proofs.pass_proofs.kept.sources.Whole.{split_rules}
use Rattle.compiler.specs.pass_proofs.edges.states.MovedState.{edge_function}
use Rattle.compiler.specs.pass_proofs.exits.states.Exits.{exits_split}
use Rattle.pass_split_proof.specs.ready.Fields.{AreInnerIndices}
use Rattle.compiler.specs.rule_laws.rules.function_rules.Kept.{KeepsFunctionRules}
use Rattle.compiler.specs.run_laws.changed.Changed.{Each}
use Rattle.compiler.specs.run_step.Step.{AtInstr, fetch}

module _ (l : Lowered) (low : IsLowered l) (few : HasFewBytes l) where
  abbrev bound : ℕ
  bound = length l.text

  source : IsNarrowModule (length l.text) l.source
  source = text_narrow l.text l.source low.source.stands

  -- ---- the first pass, and blocks on edges

  early_one : (k : ℕ) (f : Function) → slice_get (early l).functions k ≡ Some f → IsNarrowFunction (length l.text) f
  early_one k f there =
      let x = comes_from l.source k f there in
      subst (IsNarrowFunction (length l.text)) (sym x.is)
      (early_narrow (length l.text) x.source
      (at_each (IsNarrowFunction (length l.text)) l.source.functions k x.source source.functions x.stands))

  edged_by : (f : Function) (b : Bool) → IsNarrowFunction (length l.text) f
      → IsNarrowFunction (length l.text) (if b then with_edge_blocks f else f)
  edged_by f true h = edges_narrow (length l.text) f h
  edged_by f false h = h

  edged_one : (k : ℕ) (g : Function) → slice_get (edged l).functions k ≡ Some g → IsNarrowFunction (length l.text) g
  edged_one k g there =
      on (slice_get (early l).functions k) refl (sym (slice_get-map edge_function (early l).functions k) ∙ there)
    where
      on : (o : Option Function) → slice_get (early l).functions k ≡ o → option_map edge_function o ≡ Some g
          → IsNarrowFunction (length l.text) g
      on None e d = absurd (cc)
      on (Some f) e d =
          let same : edge_function f ≡ g = cc in
          subst (IsNarrowFunction (length l.text)) same (edged_by f f.coroutine (early_one k f e))

  edged_narrow : IsNarrowModule (length l.text) (edged l)
  edged_narrow = record {
    types = source.types;
    functions = each_by (IsNarrowFunction (length l.text)) (edged l).functions edged_one;
  }

  pub edged_inner : (func block at name : ℕ) (inbounds : Bool) (ty : Ty) (base : Operand) (indices : List Arg)
      → fetch (function_at (edged l) func) block at ≡ AtInstr (Instr.Gep name inbounds ty base indices)
      → AreInnerIndices (edged l) ty indices
  edged_inner func block at name inbounds ty base indices = on (slice_get (edged l).functions func) refl
    where
      on : (o : Option Function) → slice_get (edged l).functions func ≡ o
          → fetch (unwrap_or o no_function) block at ≡ AtInstr (Instr.Gep name inbounds ty base indices)
          → AreInnerIndices (edged l) ty indices
      on None e there = absurd (cc)
      on (Some f) e there =
          fields_small (length l.text) few (edged l) edged_narrow func f
          (split_rules l.text l.source low.source.stands low.source.accepted func f e) e block at name inbounds ty base
          indices there

  -- indices into structures are literals there
  pub edged_steady : (func : ℕ) → HaveSteadyIndices (edged l) (function_at (edged l) func)
  edged_steady func name block at inbounds ty base indices there =
      steady_indices (edged l) ty indices (edged_inner func block at name inbounds ty base indices there)

  -- ---- framed forms, with blocks on edges that leave windows

  framed_by : (k : ℕ) (f g : Function) → slice_get (early l).functions k ≡ Some f
      → Becomes (early l) l.layouts.coroutines f g → IsNarrowFunction (length l.text) g
  framed_by k f _ there (Unchanged plain) = early_one k f there
  framed_by k f g there (FramedBy taken _ marked framed) =
      framed_narrow (length l.text) (early l) (layout_at l.layouts.coroutines taken) f g framed (early_one k f there)

  framed_one : (k : ℕ) (g : Function) → slice_get l.framed.functions k ≡ Some g → IsNarrowFunction (length l.text) g
  framed_one k g there =
      let x = stands_as (early l) l.layouts.coroutines low.is_framed.functions.count (early l).functions
      l.framed.functions low.is_framed.functions.framed k g there in
      framed_by k x.source g x.stands x.becomes

  exited_by : (f : Function) (b : Bool) → IsNarrowFunction (length l.text) f
      → IsNarrowFunction (length l.text) (if b then with_exit_blocks f else f)
  exited_by f true h = exits_narrow (length l.text) f h
  exited_by f false h = h

  exited_one : (k : ℕ) (h : Function) → slice_get (exits_split l.framed).functions k ≡ Some h
      → IsNarrowFunction (length l.text) h
  exited_one k h there =
      let y = comes l.framed k h there in
      subst (IsNarrowFunction (length l.text)) y.is
      (exited_by y.source y.source.coroutine (framed_one k y.source y.stands))

  exited_narrow : IsNarrowModule (length l.text) (exits_split l.framed)
  exited_narrow = record {
    types = subst (Each (λ (t : TypeItem). IsNarrow (length l.text) t.ty)) (sym low.is_framed.types) source.types;
    functions = each_by (IsNarrowFunction (length l.text)) (exits_split l.framed).functions exited_one;
  }

  pub framed_small : ((k : ℕ) (f : Function) → slice_get (exits_split l.framed).functions k ≡ Some f
      → KeepsFunctionRules (exits_split l.framed) k f) → (k : ℕ) (f : Function)
      → slice_get (exits_split l.framed).functions k ≡ Some f → (block at name : ℕ) (inbounds : Bool) (ty : Ty)
      (base : Operand) (indices : List Arg) → fetch f block at ≡ AtInstr (Instr.Gep name inbounds ty base indices)
      → AreSmallInnerIndices (exits_split l.framed) ty indices
  framed_small rules k f there block at name inbounds ty base indices e =
      small_indices (exits_split l.framed) ty indices
      (fields_small (length l.text) few (exits_split l.framed) exited_narrow k f (rules k f there) there block at name
      inbounds ty base indices e)
