-- Suspends of coroutines have saves, where rules hold and none was left without one.
use Rattle.std.proofs.Common.{◌≡◌, ◌⊎◌, ⊎_elim, inl, inr, ℕ, Bool, true, false, List, [], ◌∷◌, refl, sym, ap, ◌∙◌}
use Rattle.std.proofs.Common.{None, Some, Option}
use Rattle.std.proofs.lemmas.Bool.{false≢true}
use Rattle.std.specs.Prelude.{is_some, ◌&&◌}
use Rattle.compiler_theorem.proofs.parts.Tokens.{HasTokens, is_bare}
use Rattle.compiler.specs.flow_solver.Paths.{IsListed}
use Rattle.compiler.specs.ir_base.declared.outcome.Place.{Place}
use Rattle.compiler.proofs.ir_laws.facts.Members.{at_each}
use Rattle.compiler.proofs.ir_laws.facts.Truth.{and_first, and_second, holds}
use Rattle.compiler.proofs.ir_laws.paths.renamed.Uses.{stands_in}
use Rattle.compiler.proofs.ir_laws.paths.source_rules.Locals.{listed_either}
use Rattle.compiler.proofs.ir_laws.paths.uses.Paths.{place_of}
use Rattle.compiler.specs.ir_model.declared.instr.Instr.{Instr}
use Rattle.compiler.specs.ir_model.declared.module.Block.{Block}
use Rattle.compiler.specs.ir_model.declared.module.Function.{Function}
use Rattle.compiler.specs.ir_model.declared.module.Module.{Module}
use Rattle.compiler.specs.ir_model.declared.operand.Callee.{Callee}
use Rattle.compiler.specs.ir_model.declared.operand.Intrinsic.{Intrinsic}
use Rattle.compiler.specs.ir_model.declared.operand.Operand.{Operand}
use Rattle.compiler.specs.ir_parts.Parts.{OfInstr}
use Rattle.compiler.specs.ir_paths.Windows.{call_result, is_call_of}
use Rattle.compiler.specs.pass_early.Early.{is_none}
use Rattle.compiler.specs.pass_intrinsics.Shapes.{save_of, suspends_of, token_of, with_suspend, with_suspends_by, with_suspends_in}
use Rattle.compiler.specs.pass_intrinsics.declared.shape.SuspendPoint.{SuspendPoint}
use Rattle.compiler.proofs.rule_laws.rules.counted.PartFacts.{block_passes}
use Rattle.compiler.proofs.rule_laws.rules.sources.Places.{instr_there, point}
use Rattle.compiler.specs.rule_laws.rules.function_rules.Kept.{KeepsFunctionRules}
use Rattle.compiler.specs.rule_locals.Instrs.{on_instr}
use Rattle.compiler.specs.rule_types.Signatures.{calls_otherwise}
use Rattle.compiler.specs.rule_values.Instrs.{fits_called, fits_instr, fits_result, is_save_or_none, passes}
use Rattle.compiler.specs.rule_values.Kinds.{value_kind}
use Rattle.compiler.specs.rule_values.Values.{breaks_values}
use Rattle.compiler.specs.rule_values.declared.kinds.Kind.{Kind}
use Rattle.compiler.specs.run_step.Step.{AtInstr, fetch}
use Rattle.std.specs.List.{list_all}

-- ---- an instruction

abbrev pub is_saved : Instr → Bool
is_saved (Instr.Call r must_tail ty (Callee.Intrinsic Intrinsic.CoroSuspend) args) = is_some (save_of args)
is_saved _ = true

token_there : (kinds : ℕ → Option Kind) (x : Operand) → is_none x ≡ false → is_save_or_none kinds x ≡ true
    → is_some (token_of x) ≡ true
token_there kinds (Operand.Local v) n e = refl
token_there kinds Operand.None n e = absurd (false≢true (sym n))
token_there kinds (Operand.Global g) n e = absurd (false≢true e)
token_there kinds (Operand.Number z) n e = absurd (false≢true e)
token_there kinds Operand.True n e = absurd (false≢true e)
token_there kinds Operand.False n e = absurd (false≢true e)
token_there kinds Operand.Null n e = absurd (false≢true e)
token_there kinds Operand.Poison n e = absurd (false≢true e)

module _ (m : Module) (kinds : ℕ → Option Kind) (p q : Place) where
  one_saved : (i : Instr) → fits_instr m kinds i ≡ true → calls_otherwise m q (OfInstr i) ≡ false
      → is_bare p i ≡ false → is_saved i ≡ true
  one_saved (Instr.Call r must_tail ty (Callee.Intrinsic Intrinsic.CoroSuspend) []) fit called bare =
      absurd (false≢true (and_second _ false (holds _ called)))
  one_saved (Instr.Call r must_tail ty (Callee.Intrinsic Intrinsic.CoroSuspend) (a ∷ args)) fit called bare =
      let c : Callee = Callee.Intrinsic Intrinsic.CoroSuspend in
      token_there kinds a.value bare
      (and_first (is_save_or_none kinds a.value) (list_all (passes kinds c) (a ∷ args))
      (and_second (fits_result c ty r) (fits_called kinds c (a ∷ args) && list_all (passes kinds c) (a ∷ args)) fit))
  one_saved _ fit called bare = refl

-- ---- all suspends

module _ (p : SuspendPoint) where
  by_one : (all : List SuspendPoint) (b : Block) (i : Instr) → is_saved i ≡ true → IsListed p (with_suspend all b i)
      → IsListed p all ⊎ (is_some p.save ≡ true)
  by_one all b (Instr.Call r must_tail ty (Callee.Intrinsic Intrinsic.CoroSuspend) args) e l =
      ⊎_elim (λ old. inl old)
      (λ new. ⊎_elim (λ (s : p ≡ _). inr (ap (λ (x : SuspendPoint). is_some x.save) s ∙ e)) (λ none. absurd none) new)
      (listed_either p all _ l)
  by_one all b _ e l = inl l

  by_instrs : (all : List SuspendPoint) (b : Block) (is : List Instr)
      → ((i : Instr) → IsListed i is → is_saved i ≡ true) → IsListed p (with_suspends_in all b is)
      → IsListed p all ⊎ (is_some p.save ≡ true)
  by_instrs all b [] h l = inl l
  by_instrs all b (i ∷ is) h l =
      ⊎_elim (λ k. by_one all b i (h i (inl refl)) k) (λ x. inr x)
      (by_instrs (with_suspend all b i) b is (λ j s. h j (inr s)) l)

  by_blocks : (all : List SuspendPoint) (bs : List Block)
      → ((b : Block) → IsListed b bs → (i : Instr) → IsListed i b.instrs → is_saved i ≡ true)
      → IsListed p (with_suspends_by all bs) → IsListed p all ⊎ (is_some p.save ≡ true)
  by_blocks all [] h l = inl l
  by_blocks all (b ∷ bs) h l =
      ⊎_elim (λ k. by_instrs all b b.instrs (h b (inl refl)) k) (λ x. inr x)
      (by_blocks (with_suspends_in all b b.instrs) bs (λ c s. h c (inr s)) l)

-- ---- of a function whose suspends have tokens

module _ (m : Module) (k : ℕ) (f : Function) (rules : KeepsFunctionRules m k f) (tokens : HasTokens k f) where
  pub each_saved : (b : Block) → IsListed b f.blocks → (i : Instr) → IsListed i b.instrs → is_saved i ≡ true
  each_saved b l i s =
      let at = place_of f.blocks b l in
      let j = place_of b.instrs i s in
      let v = at_each _ b.instrs j.0 i (block_passes (breaks_values m (value_kind f) f.result) k f rules.local.values at.0
      b at.1).instrs j.1 in
      let c = at_each _ b.instrs j.0 i (block_passes (calls_otherwise m) k f rules.calls at.0 b at.1).instrs j.1 in
      let t = at_each _ b.instrs j.0 i (block_passes (on_instr is_bare) k f tokens at.0 b at.1).instrs j.1 in
      one_saved m (value_kind f) t.0 c.0 i (holds (fits_instr m (value_kind f) i) v.2) c.2 t.2

  pub tokens_saved : (p : SuspendPoint) → IsListed p (suspends_of f) → is_some p.save ≡ true
  tokens_saved p l = ⊎_elim (λ none. absurd none) (λ e. e) (by_blocks p [] f.blocks each_saved l)

  named_one : (p : Place) (i : Instr) → is_bare p i ≡ false → is_call_of Intrinsic.CoroSave i ≡ true
      → is_some (call_result i) ≡ true
  named_one p (Instr.Call (Some r) must_tail ty (Callee.Intrinsic Intrinsic.CoroSave) args) e c = refl
  named_one p (Instr.Call None must_tail ty (Callee.Intrinsic Intrinsic.CoroSave) args) e c = absurd (false≢true (sym e))
  named_one p _ e c = absurd (false≢true c)

  pub tokens_named : (block at : ℕ) (i : Instr) → fetch f block at ≡ AtInstr i
      → is_call_of Intrinsic.CoroSave i ≡ true → is_some (call_result i) ≡ true
  tokens_named block at i e c =
      let x = stands_in f (point block at) i (instr_there f block at i e) in
      let t = at_each _ x.block.instrs at i (block_passes (on_instr is_bare) k f tokens block x.block x.got).instrs
      x.stands in
      named_one t.0 i t.2 c
