-- What a pass leaves of a coroutine's calls, block by block, and one pass behind another.
use Rattle.std.proofs.Common.{◌≡◌, subst, ℕ, zero, suc, ◌≤◌, true, false, List, [], ◌∷◌, refl, ap, sym, ◌∙◌, arith}
use Rattle.std.specs.Prelude.{Some, None, map, slice_get}
use Rattle.pass_early_proof.specs.rule_shape.OneOfEach.{wrong_call}
use Rattle.pass_early_proof.specs.rule_shape.Switches.{wrong_switch}
use Rattle.pass_edges_proof.proofs.edges.shape.Uses.{ends_total}
use Rattle.pass_early_proof.proofs.rule_laws.rules.shape.Ordered.{HasNoFirstEnd, IsNoEnd, IsPlaced, IsSuspendValue, all_ordered, block_no_end, none_in_entry, placed_calls}
use Rattle.pass_edges_proof.proofs.edges.calls.Spared.{IsSpared, spared, uses_fewer}
use Rattle.pass_early_proof.proofs.rule_laws.rules.shape.Steady.{AreAllOrdered}
use Rattle.ir_model.specs.Calls.{first_result}
use Rattle.ir_model.specs.declared.module.Block.{Block}
use Rattle.ir_model.specs.declared.module.Function.{Function}
use Rattle.ir_model.specs.declared.operand.Intrinsic.{Intrinsic}
use Rattle.pass_early_proof.specs.rule_laws.rules.replaced.Splittable.{AreBlocksBegun}
use Rattle.pass_early_proof.specs.run_laws.changed.Changed.{Each}
use Rattle.pass_early_proof.specs.rule_laws.rules.woven_rules.Weaving.{Weaving}
use Rattle.pass_early_proof.specs.rule_laws.rules.woven_shape.Calls.{ShapingCall, calls_of_block, joined}
use Rattle.pass_early_proof.specs.rule_laws.frames.woven_shape.Shaped.{KeepsCalls}

-- labels and the calls of blocks stay, and these values, where phis and instructions don't use them, are used no more often
pub record AreSteady (V : ℕ → Type 0) (bs cs : List Block) : Type 0 where
  pub labels : map (λ (b : Block). b.label) cs ≡ map (λ (b : Block). b.label) bs
  pub calls : map calls_of_block cs ≡ map calls_of_block bs
  pub spares : (v : ℕ) → V v → Each (IsSpared v) bs → Each (IsSpared v) cs
  pub ends : (v : ℕ) → V v → ends_total v cs ≤ ends_total v bs

pub steady_both : (V : ℕ → Type 0) (bs cs ds : List Block) → AreSteady V bs cs → AreSteady V cs ds → AreSteady V bs ds
steady_both V bs cs ds h k = record {
  labels = k.labels ∙ h.labels;
  calls = k.calls ∙ h.calls;
  spares = λ v x s. k.spares v x (h.spares v x s);
  ends = λ v x. let a : ends_total v cs ≤ ends_total v bs = h.ends v x in let b : ends_total v ds ≤ ends_total v cs = k.ends v x in omega (arith, a, b);
}

pub keeps_calls : (w : Weaving) (k : ℕ) (f g : Function) → f.coroutine ≡ true → wrong_switch k f ≡ None → AreSteady (IsSuspendValue f) f.blocks g.blocks → ((v : ℕ) → first_result Intrinsic.CoroBegin f ≡ Some v → w.goes v ≡ false) → KeepsCalls w f g
keeps_calls w k f g coroutine switches h begin = record {
  calls = h.calls;
  uses = λ c v l s e.
      let x : IsSuspendValue f v = record { call = c; listed = l; suspends = s; result = e } in
      let was : Each (IsSpared v) f.blocks = spared k f coroutine switches v x in
      uses_fewer v f g was (h.spares v x was) (h.ends v x);
  begin = begin;
}

-- ---- what the calls of a coroutine say of the blocks of the result

-- the same calls are placed the same, so blocks are ordered the same
pub still_ordered : (V : ℕ → Type 0) (bs cs : List Block) → map calls_of_block cs ≡ map calls_of_block bs → Each (IsPlaced V) (joined (map calls_of_block bs)) → AreAllOrdered V cs
still_ordered V bs cs same h = all_ordered V cs (subst (λ (rows : List (List ShapingCall)). Each (IsPlaced V) (joined rows)) (sym same) h)

-- no end stands in the first block
abbrev pub IsFirstClear : List Block → Type 0
IsFirstClear [] = Unit {0}
IsFirstClear (c ∷ cs) = HasNoFirstEnd c.instrs

abbrev pub HasFirstNoEnd : List Block → Type 0
HasFirstNoEnd [] = Unit {0}
HasFirstNoEnd (b ∷ bs) = Each IsNoEnd (calls_of_block b)

pub first_clear : (bs cs : List Block) → map calls_of_block cs ≡ map calls_of_block bs → HasFirstNoEnd bs → IsFirstClear cs
first_clear bs [] e h = tt
first_clear [] (c ∷ cs) e h = absurd (cc)
first_clear (b ∷ bs) (c ∷ cs) e h =
    let same : calls_of_block c ≡ calls_of_block b = cc in
    block_no_end c (subst (λ (xs : List ShapingCall). Each IsNoEnd xs) (sym same) h)

pub entry_no_end : (k : ℕ) (f : Function) (begin : ℕ) → f.coroutine ≡ true → wrong_call k f ≡ None → wrong_switch k f ≡ None → AreBlocksBegun f begin 0 f.blocks → HasFirstNoEnd f.blocks
entry_no_end k f begin coroutine calls switches begun = by f.blocks (λ b bs e. none_in_entry f begin (IsSuspendValue f) b bs e begun (all_ordered (IsSuspendValue f) f.blocks (placed_calls k f coroutine calls switches))) f.blocks refl
  where
    by : (all : List Block) → ((b : Block) (bs : List Block) → all ≡ b ∷ bs → Each IsNoEnd (calls_of_block b)) → (xs : List Block) → all ≡ xs → HasFirstNoEnd xs
    by all h [] e = tt
    by all h (b ∷ bs) e = h b bs e

-- a block with a label has no calls where that has none
pub quiet_there : (bs cs : List Block) → map (λ (b : Block). b.label) cs ≡ map (λ (b : Block). b.label) bs → map calls_of_block cs ≡ map calls_of_block bs → (l : ℕ) → ((k : ℕ) (b : Block) → slice_get bs k ≡ Some b → b.label ≡ l → calls_of_block b ≡ []) → (k : ℕ) (c : Block) → slice_get cs k ≡ Some c → c.label ≡ l → calls_of_block c ≡ []
quiet_there bs [] labels calls l h k c e same = absurd (cc)
quiet_there [] (d ∷ cs) labels calls l h k c e same = absurd (cc)
quiet_there (b ∷ bs) (d ∷ cs) labels calls l h zero c e same =
    let one : d ≡ c = cc in
    let label : d.label ≡ b.label = cc in
    let here : calls_of_block d ≡ calls_of_block b = cc in
    ap calls_of_block (sym one) ∙ here ∙ h 0 b refl (sym label ∙ ap (λ (x : Block). x.label) one ∙ same)
quiet_there (b ∷ bs) (d ∷ cs) labels calls l h (suc k) c e same =
    let more_labels : map (λ (x : Block). x.label) cs ≡ map (λ (x : Block). x.label) bs = cc in
    let more_calls : map calls_of_block cs ≡ map calls_of_block bs = cc in
    quiet_there bs cs more_labels more_calls l (λ j x. h (suc j) x) k c e same
