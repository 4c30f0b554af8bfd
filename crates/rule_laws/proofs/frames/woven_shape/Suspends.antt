-- The suspends of a function go by the calls of its blocks, their labels and their ends.
use Rattle.std.proofs.Common.{◌≡◌, ℕ, ◌+◌, List, [], ◌∷◌, ◌++◌, length, append-nil, append_assoc, refl, sym, ap, ◌∙◌}
use Rattle.std.specs.Prelude.{map, if◌then◌else◌}
use Rattle.rule_uses.specs.Uses.{block_values}
use Rattle.pass_intrinsics.specs.Shapes.{is_final, is_true, save_of, suspends_of, token_of, with_suspend, with_suspends_by, with_suspends_in}
use Rattle.pass_intrinsics.specs.declared.shape.SuspendPoint.{SuspendPoint}
use Rattle.ir_laws.specs.ir_model.declared.instr.Instr.{Instr}
use Rattle.ir_laws.specs.ir_model.declared.module.Block.{Block}
use Rattle.ir_laws.specs.ir_model.declared.module.Function.{Function}
use Rattle.ir_laws.specs.ir_model.declared.module.Module.{Module}
use Rattle.ir_laws.specs.ir_model.declared.operand.Arg.{Arg}
use Rattle.ir_laws.specs.ir_model.declared.operand.Callee.{Callee}
use Rattle.ir_laws.specs.ir_model.declared.operand.Intrinsic.{Intrinsic}
use Rattle.ir_laws.specs.ir_paths.Windows.{label_of_term, operand_at}
use Rattle.rule_laws.specs.rules.woven_rules.Blocks.{AreWovenBlocks, IsWoven, IsWovenBlock, NoBlock, OneBlock}
use Rattle.rule_laws.specs.rules.woven_rules.Weaving.{IsInPlace, Weaving}
use Rattle.rule_laws.specs.rules.woven_shape.Calls.{ShapingCall, call_at, calls_in, calls_of_block, is_suspend_call}
use Rattle.ir_laws.proofs.paths.needed.Steps.{label_same as same_target}

-- ---- the suspends among the calls of a block

abbrev pub point_of : Block → ShapingCall → List SuspendPoint
point_of b c =
    if is_suspend_call c then
    record { save = token_of c.first; is_final = is_true c.second; block = b.label; resume = label_of_term 0 b.term; destroy = label_of_term 1 b.term } ∷ []
    else []

abbrev pub points : Block → List ShapingCall → List SuspendPoint
points b [] = []
points b (c ∷ cs) = point_of b c ++ points b cs

points_joined : (b : Block) (cs ds : List ShapingCall) → points b (cs ++ ds) ≡ points b cs ++ points b ds
points_joined b [] ds = refl
points_joined b (c ∷ cs) ds = ap (λ (ps : List SuspendPoint). point_of b c ++ ps) (points_joined b cs ds) ∙ sym (append_assoc (point_of b c) (points b cs) (points b ds))

first_save : (args : List Arg) → save_of args ≡ token_of (operand_at args 0)
first_save [] = refl
first_save (a ∷ args) = refl

second_final : (args : List Arg) → is_final args ≡ is_true (operand_at args 1)
second_final [] = refl
second_final (a ∷ []) = refl
second_final (a ∷ b ∷ args) = refl

module _ (b : Block) where
  one_suspend : (all : List SuspendPoint) (at : ℕ) (i : Instr) → with_suspend all b i ≡ all ++ points b (call_at b at i)
  one_suspend all at (Instr.Call result must_tail ty (Callee.Intrinsic Intrinsic.CoroSuspend) args) =
      λ k. all ++ record { save = first_save args k; is_final = second_final args k; block = b.label; resume = label_of_term 0 b.term; destroy = label_of_term 1 b.term } ∷ []
  one_suspend all at _ = sym (append-nil all)

  instrs_suspends : (all : List SuspendPoint) (at : ℕ) (is : List Instr) → with_suspends_in all b is ≡ all ++ points b (calls_in b at is)
  instrs_suspends all at [] = sym (append-nil all)
  instrs_suspends all at (i ∷ is) =
      ap (λ (ps : List SuspendPoint). with_suspends_in ps b is) (one_suspend all at i)
      ∙ instrs_suspends (all ++ points b (call_at b at i)) (at + 1) is
      ∙ append_assoc all (points b (call_at b at i)) (points b (calls_in b (at + 1) is))
      ∙ ap (λ (ps : List SuspendPoint). all ++ ps) (sym (points_joined b (call_at b at i) (calls_in b (at + 1) is)))

abbrev pub points_by : List Block → List SuspendPoint
points_by [] = []
points_by (b ∷ bs) = points b (calls_of_block b) ++ points_by bs

blocks_suspends : (all : List SuspendPoint) (bs : List Block) → with_suspends_by all bs ≡ all ++ points_by bs
blocks_suspends all [] = sym (append-nil all)
blocks_suspends all (b ∷ bs) =
    ap (λ (ps : List SuspendPoint). with_suspends_by ps bs) (instrs_suspends b all (length b.phis) b.instrs)
    ∙ blocks_suspends (all ++ points b (calls_of_block b)) bs
    ∙ append_assoc all (points b (calls_of_block b)) (points_by bs)

pub suspends_found : (f : Function) → suspends_of f ≡ points_by f.blocks
suspends_found f = blocks_suspends [] f.blocks

module _ (w : Weaving) (m : Module) (f g : Function) where
  same_points : (block : ℕ) (b c : Block) → IsWovenBlock w m f g block b c → (cs : List ShapingCall) → points c cs ≡ points b cs
  same_points block b c s [] = refl
  same_points block b c s (d ∷ cs) = λ k. same_point k ++ same_points block b c s cs k
    where
      same_point : point_of c d ≡ point_of b d
      same_point =
          λ k.
          if is_suspend_call d then
          record {
            save = token_of d.first;
            is_final = is_true d.second;
            block = s.label k;
            resume = same_target (IsInPlace w f (block_values c)) 0 b.term c.term s.term k;
            destroy = same_target (IsInPlace w f (block_values c)) 1 b.term c.term s.term k;
          } ∷ []
          else []

  points_stay : (block : ℕ) (bs cs : List Block) → AreWovenBlocks w m f g block bs cs → map calls_of_block cs ≡ map calls_of_block bs → points_by cs ≡ points_by bs
  points_stay block _ _ (NoBlock _) e = refl
  points_stay block _ _ (OneBlock _ b c bs cs s rest) e =
      let here : calls_of_block c ≡ calls_of_block b = cc in
      let more : map calls_of_block cs ≡ map calls_of_block bs = cc in
      λ k. (ap (points c) here ∙ same_points block b c s (calls_of_block b)) k ++ points_stay (block + 1) bs cs rest more k

  pub suspends_stay : IsWoven w m f g → map calls_of_block g.blocks ≡ map calls_of_block f.blocks → suspends_of g ≡ suspends_of f
  suspends_stay h e = suspends_found g ∙ points_stay 0 f.blocks g.blocks h.blocks e ∙ sym (suspends_found f)
