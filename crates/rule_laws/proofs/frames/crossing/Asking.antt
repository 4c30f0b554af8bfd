-- What is asked of values that are kept holds of those that cross suspends.
use Rattle.std.proofs.Common.{◌≡◌, ◌⊎◌, inl, inr, ⊎_elim, ℕ, suc, ◌+◌, true, List, [], ◌∷◌, refl, sym, ap, ◌∙◌, arith}
use Rattle.std.specs.Prelude.{Some, slice_get}
use Rattle.rule_laws.proofs.frames.crossing.Defined.{switch_leads}
use Rattle.rule_laws.proofs.frames.crossing.Entries.{none_enters}
use Rattle.rule_laws.proofs.frames.crossing.Paths.{point_there}
use Rattle.rule_laws.specs.frames.crossing.Crossed.{AreSuspendsApart}
use Rattle.rule_laws.specs.frames.counted.Asked.{IsAwayFromEntry}
use Rattle.ir_laws.proofs.paths.source_rules.Locals.{listed_either}
use Rattle.ir_laws.specs.flow_solver.Paths.{IsListed}
use Rattle.rule_laws.specs.rules.function_rules.Kept.{KeepsFunctionRules}
use Rattle.pass_intrinsics.specs.Shapes.{is_final, save_of, suspends_of as all_suspends, with_suspend, with_suspends_by, with_suspends_in}
use Rattle.pass_intrinsics.specs.declared.shape.SuspendPoint.{SuspendPoint}
use Rattle.ir_laws.specs.ir_model.Names.{position_of}
use Rattle.ir_laws.specs.ir_model.declared.instr.Instr.{Instr}
use Rattle.ir_laws.specs.ir_model.declared.module.Block.{Block}
use Rattle.ir_laws.specs.ir_model.declared.module.Function.{Function}
use Rattle.ir_laws.specs.ir_model.declared.module.Module.{Module}
use Rattle.ir_laws.specs.ir_model.declared.operand.Callee.{Callee}
use Rattle.ir_laws.specs.ir_model.declared.operand.Intrinsic.{Intrinsic}
use Rattle.ir_laws.specs.ir_paths.Windows.{is_call_of, label_of_term}
use Rattle.ir_laws.specs.ir_paths.declared.point.Point.{Point}
use Rattle.frame_contents.specs.frame_crossing.Crossing.{AreCrossed, CrossedBy, LeftOut, More, NoMore, Nothing, Taken, suspends_of}

-- ---- pairs are of values

pair_of : (f : Function) (v k : ℕ) (ss : List Point) (all : List (ℕ × ℕ)) → AreCrossed f v k ss all → (p : ℕ × ℕ) → IsListed p all → p.0 ≡ v
pair_of f v _ _ _ (NoMore k) p l = absurd l
pair_of f v _ _ _ (Taken k s ss all crosses rest) p (inl e) = ap (λ (x : ℕ × ℕ). x.0) e
pair_of f v _ _ _ (Taken k s ss all crosses rest) p (inr l) = pair_of f v (k + 1) ss all rest p l
pair_of f v _ _ _ (LeftOut k s ss all never rest) p l = pair_of f v (k + 1) ss all rest p l

pub pairs_of_values : (f : Function) (vs : List ℕ) (all : List (ℕ × ℕ)) → CrossedBy f vs all → (p : ℕ × ℕ) → IsListed p all → IsListed p.0 vs
pairs_of_values f _ _ Nothing p l = absurd l
pairs_of_values f _ _ (More v vs here rest first more) p l =
    ⊎_elim (λ a. inl (pair_of f v 0 (suspends_of f) here first p a)) (λ b. inr (pairs_of_values f vs rest more p b)) (listed_either p here rest l)

-- ---- suspends lead away from the entry block

-- a suspend of a block of the function
record IsFrom (f : Function) (s : SuspendPoint) : Type 0 where
  pub position : ℕ
  pub block : Block
  pub got : slice_get f.blocks position ≡ Some block
  pub at : ℕ
  pub instr : Instr
  pub there : slice_get block.instrs at ≡ Some instr
  pub calls : is_call_of Intrinsic.CoroSuspend instr ≡ true
  pub resume : s.resume ≡ label_of_term 0 block.term
  pub destroy : s.destroy ≡ label_of_term 1 block.term

AllFrom : Function → List SuspendPoint → Type 0
AllFrom f ss = (s : SuspendPoint) → IsListed s ss → IsFrom f s

module _ (f : Function) (q : ℕ) (b : Block) (got : slice_get f.blocks q ≡ Some b) where
  one_from : (all : List SuspendPoint) (at : ℕ) (i : Instr) → slice_get b.instrs at ≡ Some i → AllFrom f all → AllFrom f (with_suspend all b i)
  unfolding AllFrom
  one_from all at (Instr.Call r must_tail ty (Callee.Intrinsic Intrinsic.CoroSuspend) args) e h s l =
      ⊎_elim (h s) own (listed_either s all (record { save = save_of args; is_final = is_final args; block = b.label; resume = label_of_term 0 b.term; destroy = label_of_term 1 b.term } ∷ []) l)
    where
      own : IsListed s (record { save = save_of args; is_final = is_final args; block = b.label; resume = label_of_term 0 b.term; destroy = label_of_term 1 b.term } ∷ []) → IsFrom f s
      own (inl same) =
          record {
            position = q;
            block = b;
            got = got;
            at = at;
            instr = Instr.Call r must_tail ty (Callee.Intrinsic Intrinsic.CoroSuspend) args;
            there = e;
            calls = refl;
            resume = ap (λ (x : SuspendPoint). x.resume) same;
            destroy = ap (λ (x : SuspendPoint). x.destroy) same;
          }
      own (inr x) = absurd x
  one_from all at _ e h s l = h s l

  instrs_from : (all : List SuspendPoint) (from : ℕ) (is : List Instr) → ((j : ℕ) (i : Instr) → slice_get is j ≡ Some i → slice_get b.instrs (from + j) ≡ Some i) → AllFrom f all → AllFrom f (with_suspends_in all b is)
  instrs_from all from [] whole h = h
  instrs_from all from (i ∷ is) whole h =
      instrs_from (with_suspend all b i) (from + 1) is
      (λ j x e. let next : from + suc j ≡ from + 1 + j = omega arith in ap (slice_get b.instrs) (sym next) ∙ whole (suc j) x e)
      (one_from all (from + 0) i (whole 0 i refl) h)

blocks_from : (f : Function) (all : List SuspendPoint) (from : ℕ) (bs : List Block) → ((j : ℕ) (b : Block) → slice_get bs j ≡ Some b → slice_get f.blocks (from + j) ≡ Some b) → AllFrom f all → AllFrom f (with_suspends_by all bs)
blocks_from f all from [] whole h = h
blocks_from f all from (b ∷ bs) whole h =
    blocks_from f (with_suspends_in all b b.instrs) (from + 1) bs
    (λ j x e. let next : from + suc j ≡ from + 1 + j = omega arith in ap (slice_get f.blocks) (sym next) ∙ whole (suc j) x e)
    (instrs_from f (from + 0) b (whole 0 b refl) all 0 b.instrs (λ j i e. let zero_more : 0 + j ≡ j = omega arith in ap (slice_get b.instrs) zero_more ∙ e) h)

module _ (m : Module) (k : ℕ) (f : Function) (rules : KeepsFunctionRules m k f) (apart : AreSuspendsApart f) where
  pub lead_away : (s : SuspendPoint) → IsListed s (all_suspends f) → IsAwayFromEntry f s
  unfolding AllFrom
  lead_away s l =
      let x = blocks_from f [] 0 f.blocks (λ j b e. let zero_more : 0 + j ≡ j = omega arith in ap (slice_get f.blocks) zero_more ∙ e) (λ y none. absurd none) s l in
      let b : Block = x.block in
      let switch = (apart (record { block = x.position; at = x.at }) (point_there (is_call_of Intrinsic.CoroSuspend) f x.position b x.at x.instr x.got x.there x.calls)).switch b x.got in
      record {
        resume = λ e. none_enters m k f rules x.position b (label_of_term 0 b.term) x.got (switch_leads 0 b.term switch) (ap (position_of f) (sym x.resume) ∙ e);
        destroy = λ e. none_enters m k f rules x.position b (label_of_term 1 b.term) x.got (switch_leads 1 b.term switch) (ap (position_of f) (sym x.destroy) ∙ e);
      }
