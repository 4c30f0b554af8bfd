-- What asks for begin's value has it before it in woven blocks as in those from which they come.
use Rattle.std.proofs.Common.{◌≡◌, ℕ, ◌+◌, Bool, true, false, not, List, ◌++◌, refl, sym, ◌∙◌}
use Rattle.std.specs.Prelude.{Option}
use Rattle.rule_uses.specs.Undefined.{ReachesWithout}
use Rattle.rule_uses.specs.Uses.{phi_values}
use Rattle.ir_laws.proofs.facts.Truth.{and_second}
use Rattle.rule_laws.proofs.rules.source_rules.Locals.{made_by}
use Rattle.ir_laws.specs.flow_solver.Paths.{IsListed}
use Rattle.ir_laws.specs.ir_model.declared.instr.Instr.{Instr}
use Rattle.ir_laws.specs.ir_model.Ty.{Ty}
use Rattle.ir_laws.specs.ir_model.declared.module.Block.{Block}
use Rattle.ir_laws.specs.ir_model.declared.module.Function.{Function}
use Rattle.ir_laws.specs.ir_model.declared.module.Module.{Module}
use Rattle.ir_laws.specs.ir_model.declared.operand.Arg.{Arg}
use Rattle.ir_laws.specs.ir_model.declared.operand.Callee.{Callee}
use Rattle.ir_laws.specs.ir_model.declared.operand.Operand.{Operand}
use Rattle.rule_laws.specs.rules.replaced.Splittable.{AreBegun, AreBlocksBegun}
use Rattle.ir_laws.specs.facts.replaced.Splittable.{asks_begin}
use Rattle.rule_laws.proofs.rules.woven_rules.Rules.{of_copies}
use Rattle.rule_laws.proofs.rules.woven_rules.Uses.{within_gone, within_phis, within_put, within_remain}
use Rattle.rule_laws.specs.rules.woven_rules.Blocks.{AreWoven, AreWovenBlocks, Done, Gone, IsWoven, Kept, NoBlock, OneBlock, Put, Remain, Stays, Unpromised, is_copy, may_stand}
use Rattle.rule_laws.specs.rules.woven_rules.Parts.{Alloca, Binary, Call, CalleeStays, Cast, Direct, Gep, Icmp, Indirect, InstrStays, Load, Select, Store}
use Rattle.rule_laws.specs.rules.woven_rules.Weaving.{Weaving}

-- ---- which instructions ask for it

-- none that is put in
put_asks : (block : ℕ) (j : Instr) → may_stand block j ≡ true → asks_begin j ≡ false
put_asks block (Instr.Call r must_tail ty callee args) e = of_copies (λ (c : Callee). asks_begin (Instr.Call r must_tail ty c args) ≡ false) refl refl callee (and_second (not must_tail) (is_copy callee) e)
put_asks block _ e = refl

same_callee_asks : (R : Operand → Operand → Type 0) (r : Option ℕ) (must_tail : Bool) (ty : Option Ty) (c d : Callee) (args now : List Arg) → CalleeStays R c d → asks_begin (Instr.Call r must_tail ty d now) ≡ asks_begin (Instr.Call r must_tail ty c args)
same_callee_asks R r must_tail ty _ _ args now (Direct (Callee.Intrinsic x) e) = refl
same_callee_asks R r must_tail ty _ _ args now (Direct (Callee.Named n) e) = refl
same_callee_asks R r must_tail ty _ _ args now (Direct (Callee.Allocator a) e) = refl
same_callee_asks R r must_tail ty _ _ args now (Direct (Callee.Local n) e) = refl
same_callee_asks R r must_tail ty _ _ args now (Indirect v n s) = refl

same_asks : (R : Operand → Operand → Type 0) (i j : Instr) → InstrStays R i j → asks_begin j ≡ asks_begin i
same_asks R _ _ (Binary r op flags ty a b c d s t) = refl
same_asks R _ _ (Icmp r pred ty a b c d s t) = refl
same_asks R _ _ (Select r x y a b c d s t u) = refl
same_asks R _ _ (Cast r op nneg a c to s) = refl
same_asks R _ _ (Alloca r ty align) = refl
same_asks R _ _ (Load r ty x y align s) = refl
same_asks R _ _ (Store a c x y align s t) = refl
same_asks R _ _ (Gep r inbounds ty x y args now s t) = refl
same_asks R _ _ (Call r must_tail ty c d args now s t) = same_callee_asks R r must_tail ty c d args now s

-- ---- blocks

module _ (w : Weaving) (m : Module) (f g : Function) (h : IsWoven w m f g) (begin : ℕ) (stays : w.goes begin ≡ false) (before : (block : ℕ) → ReachesWithout g begin block → ReachesWithout f begin block) where
  remain_asks : (made : List ℕ) (i j : Instr) → Stays w f made i j → asks_begin j ≡ asks_begin i
  remain_asks made _ _ (Kept i j s mark) = same_asks _ i j s
  remain_asks made _ _ (Unpromised r must_tail ty a p args k) = refl

  -- what is made before an instruction is made before it in the result, unless it goes
  abbrev Has : List ℕ → List ℕ → Type 0
  Has old now = (v : ℕ) → w.goes v ≡ false → IsListed v old → IsListed v now

  instrs_begun : (block : ℕ) (old made : List ℕ) (is js : List Instr) → AreWoven w m f block made is js → Has old made → AreBegun f begin block old is → AreBegun g begin block made js
  instrs_begun block old made _ _ (Done _) k b = tt
  instrs_begun block old made _ _ (Put _ j is js p rest) k b = (
    (λ asks reach. let t : true ≡ false = sym asks ∙ put_asks block j p.stands in absurd (cc)),
    instrs_begun block old (made_by j ++ made) is js rest (within_put w m f g h old made j k) b,
  )
  instrs_begun block old made _ _ (Gone _ i is js p rest) k b = instrs_begun block (made_by i ++ old) made is js rest (within_gone w m f g h old made i p k) b.1
  instrs_begun block old made _ _ (Remain _ i j is js s rest) k b = (
    (λ asks reach. k begin stays (b.0 (sym (remain_asks made i j s) ∙ asks) (before block reach))),
    instrs_begun block (made_by i ++ old) (made_by j ++ made) is js rest (within_remain w m f g h old made i j s k) b.1,
  )

  blocks_begun : (block : ℕ) (bs cs : List Block) → AreWovenBlocks w m f g block bs cs → AreBlocksBegun f begin block bs → AreBlocksBegun g begin block cs
  blocks_begun block _ _ (NoBlock _) b = tt
  blocks_begun block _ _ (OneBlock _ b c bs cs s rest) k = (
    instrs_begun block (phi_values b) (phi_values c) b.instrs c.instrs s.instrs (within_phis w m f g h block b c s) k.0,
    blocks_begun (block + 1) bs cs rest k.1,
  )

  pub begun_stays : AreBlocksBegun f begin 0 f.blocks → AreBlocksBegun g begin 0 g.blocks
  begun_stays = blocks_begun 0 f.blocks g.blocks h.blocks
