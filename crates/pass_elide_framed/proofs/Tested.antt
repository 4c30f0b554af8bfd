-- The framed form of a coroutine that tests what coro.free gave frees it in blocks of single entries, by that test.
use Rattle.std.proofs.Common.{◌≡◌, ℕ, true, false, length, refl, sym, ap, ◌∙◌, subst}
use Rattle.std.proofs.lemmas.Bool.{false≢true}
use Rattle.std.specs.Prelude.{None, Option, Some, slice_get, unwrap_or, if◌then◌else◌}
use Rattle.compiler_theorem.proofs.compiler.ir_laws.facts.Truth.{not_both}
use Rattle.compiler_theorem.proofs.compiler.pass_proofs.edges.paths.Blocks.{spot}
use Rattle.compiler_theorem.proofs.compiler.pass_proofs.edges.rules.Homes.{own_block, own_there}
use Rattle.compiler_theorem.proofs.compiler.pass_proofs.frames.unnamed.Positions.{Becomes, FramedBy, Unchanged, stands_as}
use Rattle.compiler_theorem.proofs.compiler.whole.lowered_sources.Sources.{early_rules}
use Rattle.compiler_theorem.specs.compiler.ir_base.declared.ops.Pred.{Pred}
use Rattle.compiler_theorem.specs.compiler.ir_model.Names.{function_at, no_function}
use Rattle.compiler_theorem.specs.compiler.ir_model.Ty.{Ty}
use Rattle.compiler_theorem.specs.compiler.ir_model.declared.instr.Instr.{Instr}
use Rattle.compiler_theorem.specs.compiler.ir_model.declared.instr.Terminator.{Terminator}
use Rattle.compiler_theorem.specs.compiler.ir_model.declared.module.Block.{Block}
use Rattle.compiler_theorem.specs.compiler.ir_model.declared.module.Function.{Function}
use Rattle.compiler_theorem.specs.compiler.ir_model.declared.operand.Operand.{Operand}
use Rattle.compiler_theorem.specs.compiler.pass_edges.EdgeBlocks.{with_edge_blocks}
use Rattle.compiler_theorem.specs.compiler.pass_frames.Framed.{IsFramedCoroutine, layout_at}
use Rattle.compiler_theorem.specs.compiler.rule_laws.rules.function_rules.Kept.{KeepsFunctionRules}
use Rattle.compiler_theorem.specs.compiler.run_step.Step.{AtTerm, fetch}
use Rattle.compiler_theorem.specs.theorem.Lowered.{IsLowered, Lowered, early}
use Rattle.pass_elide_framed.proofs.Branched.{stays_branch}
use Rattle.pass_elide_framed.proofs.Plain.{none_early}
use Rattle.pass_elide_framed.proofs.SameWays.{same_ends}
use Rattle.pass_elide_ready.proofs.EndsAlike.{ends_at, frees_alike}
use Rattle.pass_elide_ready.proofs.ReleaseBlocks.{release_blocks}
use Rattle.pass_elide_ready.proofs.Releases.{IsReleasedBy, released_by}
use Rattle.pass_elide_ready.specs.Blocks.{FreeingBlocks, FreesBlocks}
use Rattle.pass_elide_ready.specs.elide_shape.Frees.{is_tested_next}
use Rattle.pass_elide_ready.specs.pass_elide_proof.Places.{instrs_of}

-- it frees by a test
abbrev pub FreesOn : Function → ℕ → Type 0
FreesOn g v = (q : FreeingBlocks) × ((s : FreesBlocks g q) × (s.on ≡ Operand.Local v))

module _ (l : Lowered) (low : IsLowered l) (k : ℕ) (f : Function)
    (there : slice_get (early l).functions k ≡ Some f) (coroutine : f.coroutine ≡ true) (taken : ℕ) (g : Function)
    (h : IsFramedCoroutine (early l) (layout_at l.layouts.coroutines taken) f g) (block from v at : ℕ) (b : Block)
    (got : slice_get f.blocks block ≡ Some b) (tested : is_tested_next f from v b at ≡ true) where
  rules : KeepsFunctionRules (early l) k f
  rules = early_rules l.text l.source low.source.stands low.source.accepted k f there

  abbrev x : IsReleasedBy f v b at
  x = released_by f from v b at tested

  old_branch : (q : FreeingBlocks) → q.tests ≡ spot f block → (s : FreesBlocks (with_edge_blocks f) q)
      → s.on ≡ Operand.Local x.test.name
      → (own_block f block b).term ≡ Terminator.Branch (Operand.Local x.test.name) q.one q.other
  old_branch q place s on =
      let both : AtTerm (own_block f block b).term ≡ AtTerm (Terminator.Branch s.on q.one q.other) =
      sym (ends_at (with_edge_blocks f) (spot f block) (own_block f block b) (own_there f block b got))
      ∙ ap (λ (n : ℕ). fetch (with_edge_blocks f) n (length (instrs_of (with_edge_blocks f) n))) (sym place)
      ∙ s.branch in
      let one : (own_block f block b).term ≡ Terminator.Branch s.on q.one q.other = cc in
      one ∙ ap (λ (o : Operand). Terminator.Branch o q.one q.other) on

  by_blocks : (q : FreeingBlocks) → q.tests ≡ spot f block → (s : FreesBlocks (with_edge_blocks f) q)
      → s.on ≡ Operand.Local x.test.name → FreesOn g x.test.name
  by_blocks q place s on =
      let z = frees_alike (with_edge_blocks f) g (same_ends l low k f there coroutine taken g h) q s in (
        q,
        (
          record {
            on = Operand.Local x.test.name;
            branch = ap (λ (n : ℕ). fetch g n (length (instrs_of g n))) place
                ∙ stays_branch l low k f there coroutine taken g h block at x.test.name x.test.one x.test.other b
                (Instr.Icmp x.test.name (if x.test.is_eq then Pred.Eq else Pred.Ne) x.test.ty x.test.left x.test.right) got
                x.test.test refl refl x.test.branch x.test.once q.one q.other (old_branch q place s on);
            to_free = z.to_free;
            to_beside = z.to_beside;
            jumps = z.jumps;
            apart = z.apart;
            into_frees = z.into_frees;
            ways = z.ways;
          },
          refl,
        ),
      )

  form_frees : FreesOn g x.test.name
  form_frees =
      let y = release_blocks (early l) k f rules block b got v at x in
      by_blocks y.0 y.1.0 y.1.1.0 y.1.1.1

  pub frees_as : (name : ℕ) (pred : Pred) (ty : Ty) (left right : Operand)
      → slice_get b.instrs at ≡ Some (Instr.Icmp name pred ty left right) → FreesOn g name
  frees_as name pred ty left right stands =
      let both : Some (Instr.Icmp x.test.name (if x.test.is_eq then Pred.Eq else Pred.Ne) x.test.ty x.test.left
      x.test.right) ≡ Some (Instr.Icmp name pred ty left right) = sym x.test.test ∙ stands in
      let same : x.test.name ≡ name = cc in
      subst (FreesOn g) same form_frees

module _ (l : Lowered) (low : IsLowered l) where
  freed_by : (k : ℕ) (f g : Function) → slice_get (early l).functions k ≡ Some f
      → Becomes (early l) l.layouts.coroutines f g → f.coroutine ≡ true → (block from v at : ℕ) (b : Block)
      → slice_get f.blocks block ≡ Some b → is_tested_next f from v b at ≡ true → (name : ℕ) (pred : Pred) (ty : Ty)
      (left right : Operand) → slice_get b.instrs at ≡ Some (Instr.Icmp name pred ty left right) → FreesOn g name
  freed_by k f _ there (Unchanged plain) c block from v at b got h name pred ty left right stands =
      absurd (not_both f.coroutine plain c)
  freed_by k f g there (FramedBy taken _ marked framed) c block from v at b got h name pred ty left right stands =
      frees_as l low k f there c taken g framed block from v at b got h name pred ty left right stands

  pub framed_frees : (func : ℕ) → (function_at (early l) func).coroutine ≡ true → (block from v at : ℕ) (b : Block)
      → slice_get (function_at (early l) func).blocks block ≡ Some b
      → is_tested_next (function_at (early l) func) from v b at ≡ true → (name : ℕ) (pred : Pred) (ty : Ty)
      (left right : Operand) → slice_get b.instrs at ≡ Some (Instr.Icmp name pred ty left right)
      → (q : FreeingBlocks) × ((s : FreesBlocks (function_at l.framed func) q) × (s.on ≡ Operand.Local name))
  framed_frees func c block from v at b got h name pred ty left right stands =
      on (slice_get l.framed.functions func) refl
    where
      on : (o : Option Function) → slice_get l.framed.functions func ≡ o → FreesOn (unwrap_or o no_function) name
      on None e =
          let none : (function_at (early l) func).coroutine ≡ false =
          ap (λ (o : Option Function). (unwrap_or o no_function).coroutine) (none_early l low func e) in
          absurd (false≢true (sym none ∙ c))
      on (Some g) e =
          let z = stands_as (early l) l.layouts.coroutines low.is_framed.functions.count (early l).functions
          l.framed.functions low.is_framed.functions.framed func g e in
          let own : function_at (early l) func ≡ z.source =
          ap (λ (o : Option Function). unwrap_or o no_function) z.stands in
          freed_by func z.source g z.stands z.becomes (sym (ap (λ (f : Function). f.coroutine) own) ∙ c) block from v at
          b (sym (ap (λ (f : Function). slice_get f.blocks block) own) ∙ got)
          (sym (ap (λ (f : Function). is_tested_next f from v b at) own) ∙ h) name pred ty left right stands
