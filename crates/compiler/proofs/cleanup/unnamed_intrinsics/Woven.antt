-- Instructions that are woven in name no intrinsic, and operands stand in each other's place alone.
use Rattle.std.proofs.Common.{◌≡◌, ◌⊎◌, inl, inr, ℕ, true, refl, ap}
use Rattle.std.specs.Prelude.{not}
use Rattle.compiler.specs.cleanup.rules.Clean.{calls_left, is_left_callee}
use Rattle.pass_proofs.proofs.ir_laws.facts.Truth.{and_second}
use Rattle.pass_proofs.specs.ir_parts.Contents.{instr_operands, part_operands}
use Rattle.pass_proofs.specs.ir_parts.Parts.{Ending, OfInstr, OfPhi}
use Rattle.pass_proofs.specs.rule_laws.rules.function_rules.Kept.{KeepsFunctionRules}
use Rattle.ir_model.specs.declared.instr.Instr.{Instr}
use Rattle.ir_model.specs.declared.module.Function.{Function}
use Rattle.ir_model.specs.declared.module.Module.{Module}
use Rattle.ir_model.specs.declared.operand.Callee.{Callee}
use Rattle.ir_model.specs.declared.operand.Operand.{Operand}
use Rattle.compiler.proofs.cleanup.unnamed_intrinsics.Early.{calls_free, named_by, operands_free}
use Rattle.compiler.specs.cleanup.unnamed_intrinsics.Unnamed.{NamesNoIntrinsic, is_no_intrinsic, names_intrinsic}
use Rattle.pass_proofs.proofs.rule_laws.rules.woven_rules.Carried.{Carries, carried}
use Rattle.pass_proofs.proofs.rule_laws.rules.woven_rules.Laid.{AreLaidBlocks, IsLike, IsSafe, KeptOne, NoPromise, Remains, Renamed, Stayed, Unnamed, Valued, laid}
use Rattle.pass_proofs.proofs.rule_laws.rules.woven_rules.Once.{below}
use Rattle.pass_proofs.proofs.rule_laws.rules.woven_rules.Operands.{all_beside, term_pairs}
use Rattle.pass_proofs.proofs.ir_laws.facts.Members.{all_pass, each_turns}
use Rattle.pass_proofs.proofs.rule_laws.rules.woven_rules.Rules.{incoming_pairs, remain_pairs}
use Rattle.pass_proofs.specs.rule_laws.rules.woven_rules.Blocks.{IsWoven, is_copy, may_stand}
use Rattle.pass_proofs.specs.rule_laws.rules.woven_rules.Pairs.{AreIncomingOnce}
use Rattle.pass_proofs.specs.rule_laws.rules.woven_rules.Parts.{Call, CalleeStays, Direct, Indirect, InstrStays}
use Rattle.pass_proofs.specs.rule_laws.rules.woven_rules.Weaving.{Weaving, names_nothing}

module _ (w : Weaving) (m : Module) (f g : Function) where
  abbrev Like : Operand → Operand → Type 0
  Like = IsLike w f g

  like_free : (x y : Operand) → Like x y → is_no_intrinsic x ≡ true → is_no_intrinsic y ≡ true
  like_free _ _ (Stayed x stays) e = e
  like_free _ _ (Renamed v n same) e = refl

  like_or_null : (x y : Operand) → Like x y ⊎ (y ≡ Operand.Null) → is_no_intrinsic x ≡ true → is_no_intrinsic y ≡ true
  like_or_null x y (inl h) e = like_free x y h e
  like_or_null x y (inr s) e = ap is_no_intrinsic s

  nothing_free : (x : Operand) → names_nothing x ≡ true → is_no_intrinsic x ≡ true
  nothing_free (Operand.Local v) e = refl
  nothing_free (Operand.Global n) e = absurd (cc)
  nothing_free (Operand.Number z) e = refl
  nothing_free Operand.True e = refl
  nothing_free Operand.False e = refl
  nothing_free Operand.Null e = refl
  nothing_free Operand.None e = refl
  nothing_free Operand.Poison e = refl

  safe_free : (x : Operand) → IsSafe g x → is_no_intrinsic x ≡ true
  safe_free _ (Valued v e) = refl
  safe_free _ (Unnamed x e) = nothing_free x e

  copy_left : (c : Callee) → is_copy c ≡ true → is_left_callee c ≡ true
  copy_left (Callee.Named n) e = absurd (cc)
  copy_left (Callee.Intrinsic x) e = refl
  copy_left (Callee.Allocator a) e = refl
  copy_left (Callee.Local v) e = refl

  put_left : (block : ℕ) (j : Instr) → may_stand block j ≡ true → calls_left (OfInstr j) ≡ true
  put_left block (Instr.Call r must_tail ty c args) e = copy_left c (and_second (not must_tail) (is_copy c) e)
  put_left block _ e = refl

  callee_left : (c d : Callee) → CalleeStays Like c d → is_left_callee c ≡ true → is_left_callee d ≡ true
  callee_left _ _ (Direct c h) e = e
  callee_left _ _ (Indirect v n h) e = refl

  kept_left : (i j : Instr) → InstrStays Like i j → calls_left (OfInstr i) ≡ true → calls_left (OfInstr j) ≡ true
  kept_left _ _ (Call r must_tail ty c d args now h t) e = callee_left c d h e
  kept_left _ _ _ e = refl

  remain_left : (i j : Instr) → Remains w f g i j → calls_left (OfInstr i) ≡ true → calls_left (OfInstr j) ≡ true
  remain_left _ _ (KeptOne i j s mark) e = kept_left i j s e
  remain_left _ _ (NoPromise r must_tail ty a p args h) e = refl

  intrinsics_carried : Carries w m f g names_intrinsic names_intrinsic
  intrinsics_carried =
      record {
        signature = λ p e. refl;
        head = λ p b c d e. refl;
        phi = λ p x y s once e.
            named_by p (OfPhi y) (all_beside Like is_no_intrinsic is_no_intrinsic like_free (part_operands (OfPhi x)) (part_operands (OfPhi y)) (incoming_pairs w m f g x.incoming y.incoming s.incoming) (operands_free p (OfPhi x) e)) refl;
        put = λ block q j e s.
            named_by q (OfInstr j) (all_pass is_no_intrinsic (instr_operands j) (each_turns (IsSafe g) (λ (x : Operand). is_no_intrinsic x ≡ true) safe_free (instr_operands j) s.operands)) (put_left block j s.stands);
        remain = λ p q i j same s e.
            named_by q (OfInstr j)
            (all_beside (λ (x y : Operand). Like x y ⊎ (y ≡ Operand.Null)) is_no_intrinsic is_no_intrinsic like_or_null (instr_operands i) (instr_operands j) (remain_pairs w m f g i j s) (operands_free p (OfInstr i) e))
            (remain_left i j s (calls_free p (OfInstr i) e));
        ending = λ p q t u s e.
            named_by q (Ending u) (all_beside Like is_no_intrinsic is_no_intrinsic like_free (part_operands (Ending t)) (part_operands (Ending u)) (term_pairs Like t u s) (operands_free p (Ending t) e)) refl;
      }

pub woven_free_by : (w : Weaving) (m : Module) (k : ℕ) (f g : Function) → AreLaidBlocks w m f g 0 f.blocks g.blocks
    → NamesNoIntrinsic k f → NamesNoIntrinsic k g
woven_free_by w m k f g blocks e = carried w m f g names_intrinsic names_intrinsic (intrinsics_carried w m f g) k blocks e

pub woven_free : (w : Weaving) (m : Module) (k : ℕ) (f g : Function) → IsWoven w m f g → KeepsFunctionRules m k f → AreIncomingOnce f → NamesNoIntrinsic k f → NamesNoIntrinsic k g
woven_free w m k f g h rules once e =
    woven_free_by w m k f g (laid w m f g h (below w m k f g h rules.tabled) once) e
