-- Begins and slots of functions into which instructions are woven, none of whose values go.
use Rattle.std.proofs.Common.{◌≡◌, ◌⊎◌, inl, inr, ⊎_elim, ℕ, zero, suc, ◌+◌, ◌<◌, ◌≤◌, Bool, true, false, List, ◌∷◌, ◌++◌, refl, sym, ap, ◌∙◌, subst, arith}
use Rattle.std.specs.Prelude.{Option, Some, not, slice_get}
use Rattle.pass_copies.specs.Slots.{entry_instrs}
use Rattle.pass_exits_proof.specs.rule_uses.Uses.{phi_values}
use Rattle.pass_exits_proof.proofs.ir_laws.facts.Truth.{and_second}
use Rattle.pass_exits_proof.proofs.rule_laws.rules.source_rules.Locals.{made_by}
use Rattle.pass_exits_proof.specs.flow_solver.Paths.{IsListed}
use Rattle.pass_exits_proof.specs.ir_parts.Contents.{result_of}
use Rattle.ir_model.specs.Ty.{Ty}
use Rattle.ir_model.specs.declared.instr.Instr.{Instr}
use Rattle.ir_model.specs.declared.module.Block.{Block}
use Rattle.ir_model.specs.declared.module.Function.{Function}
use Rattle.ir_model.specs.declared.module.Module.{Module}
use Rattle.ir_model.specs.declared.operand.Arg.{Arg}
use Rattle.ir_model.specs.declared.operand.Callee.{Callee}
use Rattle.ir_model.specs.declared.operand.Intrinsic.{Intrinsic}
use Rattle.ir_model.specs.declared.operand.Operand.{Operand}
use Rattle.pass_exits_proof.specs.ir_paths.Slots.{allocas_in}
use Rattle.pass_frames.specs.Framed.{is_begin}
use Rattle.pass_exits_proof.proofs.rule_laws.rules.woven_rules.ValueKinds.{same_result}
use Rattle.pass_exits_proof.specs.rule_laws.rules.woven_rules.Blocks.{AreWoven, AreWovenBlocks, Done, Gone, IsWoven, IsWovenBlock, Kept, NoBlock, OneBlock, Put, Remain, Stays, Unpromised, is_copy, may_stand}
use Rattle.pass_exits_proof.specs.rule_laws.rules.woven_rules.Parts.{Alloca, Binary, Call, CalleeStays, Cast, Direct, Gep, Icmp, Indirect, InstrStays, Load, Select, Store}
use Rattle.pass_exits_proof.specs.rule_laws.rules.woven_rules.Weaving.{IsInPlace, Weaving}

-- ---- instructions

copy_no_begin : (r : Option ℕ) (must_tail : Bool) (ty : Option Ty) (c : Callee) (args : List Arg) → is_copy c ≡ true → is_begin (Instr.Call r must_tail ty c args) ≡ false
copy_no_begin r must_tail ty (Callee.Intrinsic Intrinsic.MemcpyI64) args e = refl
copy_no_begin r must_tail ty (Callee.Intrinsic Intrinsic.MemcpyI32) args e = refl
copy_no_begin r must_tail ty _ args e = absurd (cc)

put_no_begin : (block : ℕ) (j : Instr) → may_stand block j ≡ true → is_begin j ≡ false
put_no_begin block (Instr.Call r must_tail ty c args) e = copy_no_begin r must_tail ty c args (and_second (not must_tail) (is_copy c) e)
put_no_begin block _ e = refl

same_callee : (R : Operand → Operand → Type 0) (r : Option ℕ) (must_tail : Bool) (ty : Option Ty) (c d : Callee) (args now : List Arg) → CalleeStays R c d → is_begin (Instr.Call r must_tail ty d now) ≡ is_begin (Instr.Call r must_tail ty c args)
same_callee R r must_tail ty _ _ args now (Direct (Callee.Intrinsic Intrinsic.CoroBegin) e) = refl
same_callee R r must_tail ty _ _ args now (Direct _ e) = refl
same_callee R r must_tail ty _ _ args now (Indirect v n s) = refl

kept_begin : (R : Operand → Operand → Type 0) (i j : Instr) → InstrStays R i j → is_begin j ≡ is_begin i
kept_begin R _ _ (Binary r op flags ty a b c d s t) = refl
kept_begin R _ _ (Icmp r pred ty a b c d s t) = refl
kept_begin R _ _ (Select r x y a b c d s t u) = refl
kept_begin R _ _ (Cast r op nneg a c to s) = refl
kept_begin R _ _ (Alloca r ty align) = refl
kept_begin R _ _ (Load r ty x y align s) = refl
kept_begin R _ _ (Store a c x y align s t) = refl
kept_begin R _ _ (Gep r inbounds ty x y args now s t) = refl
kept_begin R _ _ (Call r must_tail ty c d args now s t) = same_callee R r must_tail ty c d args now s

kept_alloca : (R : Operand → Operand → Type 0) (i j : Instr) (v : ℕ) (is js : List Instr) → InstrStays R i j → (IsListed v (allocas_in is) → IsListed v (allocas_in js)) → IsListed v (allocas_in (i ∷ is)) → IsListed v (allocas_in (j ∷ js))
kept_alloca R _ _ v is js (Binary r op flags ty a b c d s t) up l = up l
kept_alloca R _ _ v is js (Icmp r pred ty a b c d s t) up l = up l
kept_alloca R _ _ v is js (Select r x y a b c d s t u) up l = up l
kept_alloca R _ _ v is js (Cast r op nneg a c to s) up l = up l
kept_alloca R _ _ v is js (Alloca r ty align) up (inl e) = inl e
kept_alloca R _ _ v is js (Alloca r ty align) up (inr l) = inr (up l)
kept_alloca R _ _ v is js (Load r ty x y align s) up l = up l
kept_alloca R _ _ v is js (Store a c x y align s t) up l = up l
kept_alloca R _ _ v is js (Gep r inbounds ty x y args now s t) up l = up l
kept_alloca R _ _ v is js (Call r must_tail ty c d args now s t) up l = up l

more_allocas : (j : Instr) (js : List Instr) (v : ℕ) → IsListed v (allocas_in js) → IsListed v (allocas_in (j ∷ js))
more_allocas (Instr.Alloca r ty align) js v l = inr l
more_allocas _ js v l = l

alloca_makes : (i : Instr) (is : List Instr) (v : ℕ) → IsListed v (allocas_in (i ∷ is)) → (result_of i ≡ Some v) ⊎ IsListed v (allocas_in is)
alloca_makes (Instr.Alloca r ty align) is v (inl e) = inl (ap (λ (n : ℕ). Some n) (sym e))
alloca_makes (Instr.Alloca r ty align) is v (inr l) = inr l
alloca_makes _ is v l = inr l

module _ (w : Weaving) (m : Module) (f : Function) where
  stays_begin : (made : List ℕ) (i j : Instr) → Stays w f made i j → is_begin j ≡ is_begin i
  stays_begin made _ _ (Kept i j s mark) = kept_begin (IsInPlace w f made) i j s
  stays_begin made _ _ (Unpromised r must_tail ty a p args h) = refl

  -- an instruction of the result is put in, no begin, or one of the function's with its result
  record ComesFrom (is : List Instr) (j : Instr) : Type 0 where
    instr : Instr
    listed : IsListed instr is
    begins : is_begin j ≡ is_begin instr
    result : result_of j ≡ result_of instr

  record IsFresh (j : Instr) : Type 0 where
    no_begin : is_begin j ≡ false
    new : (n : ℕ) → result_of j ≡ Some n → w.first ≤ n

  further : (i : Instr) (is : List Instr) (j : Instr) → IsFresh j ⊎ ComesFrom is j → IsFresh j ⊎ ComesFrom (i ∷ is) j
  further i is j (inl x) = inl x
  further i is j (inr x) = inr (record { instr = x.instr; listed = inr x.listed; begins = x.begins; result = x.result })

  comes_from : (block : ℕ) (made : List ℕ) (is js : List Instr) → AreWoven w m f block made is js → (j : Instr) → IsListed j js → IsFresh j ⊎ ComesFrom is j
  comes_from block made _ _ (Done _) j l = absurd l
  comes_from block made _ _ (Put _ x is js p rest) j (inl e) = inl (record { no_begin = ap is_begin e ∙ put_no_begin block x p.stands; new = λ n d. (p.result n (sym (ap result_of e) ∙ d)).low })
  comes_from block made _ _ (Put _ x is js p rest) j (inr l) = comes_from block (made_by x ++ made) is js rest j l
  comes_from block made _ _ (Gone _ i is js p rest) j l = further i is j (comes_from block made is js rest j l)
  comes_from block made _ _ (Remain _ i x is js s rest) j (inl e) = inr (record { instr = i; listed = inl refl; begins = ap is_begin e ∙ stays_begin made i x s; result = ap result_of e ∙ same_result w f made i x s })
  comes_from block made _ _ (Remain _ i x is js s rest) j (inr l) = further i is j (comes_from block (made_by x ++ made) is js rest j l)

  allocas_stay : ((n : ℕ) → w.goes n ≡ false) → (block : ℕ) (made : List ℕ) (is js : List Instr) → AreWoven w m f block made is js → (v : ℕ) → IsListed v (allocas_in is) → IsListed v (allocas_in js)
  allocas_stay none block made _ _ (Done _) v l = l
  allocas_stay none block made _ _ (Put _ j is js p rest) v l = more_allocas j js v (allocas_stay none block (made_by j ++ made) is js rest v l)
  allocas_stay none block made _ _ (Gone _ i is js p rest) v l =
      ⊎_elim (λ e. let t : true ≡ false = sym (p v e) ∙ none v in absurd (cc)) (λ more. allocas_stay none block made is js rest v more) (alloca_makes i is v l)
  allocas_stay none block made _ _ (Remain _ i j is js s rest) v l = of_stays made i j is js s (allocas_stay none block (made_by j ++ made) is js rest v) l
    where
      of_stays : (made : List ℕ) (i j : Instr) (is js : List Instr) → Stays w f made i j → (IsListed v (allocas_in is) → IsListed v (allocas_in js)) → IsListed v (allocas_in (i ∷ is)) → IsListed v (allocas_in (j ∷ js))
      of_stays made _ _ is js (Kept i j s mark) up l = kept_alloca (IsInPlace w f made) i j v is js s up l
      of_stays made _ _ is js (Unpromised r must_tail ty a p args h) up l = up l

  -- ---- blocks

  module _ (g : Function) where
    record IsWovenAt (bs : List Block) (at : ℕ) (c : Block) : Type 0 where
      number : ℕ
      block : Block
      there : slice_get bs at ≡ Some block
      woven : IsWovenBlock w m f g number block c

    woven_at : (n : ℕ) (bs cs : List Block) → AreWovenBlocks w m f g n bs cs → (at : ℕ) (c : Block) → slice_get cs at ≡ Some c → IsWovenAt bs at c
    woven_at n _ _ (NoBlock _) at c e = absurd (cc)
    woven_at n _ _ (OneBlock _ b d bs cs s rest) zero c e = let same : d ≡ c = cc in record { number = n; block = b; there = refl; woven = subst (IsWovenBlock w m f g n b) same s }
    woven_at n _ _ (OneBlock _ b d bs cs s rest) (suc at) c e = let x = woven_at (n + 1) bs cs rest at c e in record { number = x.number; block = x.block; there = x.there; woven = x.woven }

    module _ (h : IsWoven w m f g) (begin : ℕ) (low : begin < w.first) where
      pub named_still : ((at : ℕ) (b : Block) (i : Instr) → slice_get f.blocks at ≡ Some b → IsListed i b.instrs → is_begin i ≡ true → result_of i ≡ Some begin) → (at : ℕ) (c : Block) (j : Instr) → slice_get g.blocks at ≡ Some c → IsListed j c.instrs → is_begin j ≡ true → result_of j ≡ Some begin
      named_still named at c j e l d =
          let x = woven_at 0 f.blocks g.blocks h.blocks at c e in
          ⊎_elim (λ (y : IsFresh j). let t : true ≡ false = sym d ∙ y.no_begin in absurd (cc)) (λ (y : ComesFrom x.block.instrs j). y.result ∙ named at x.block y.instr x.there y.listed (sym y.begins ∙ d))
          (comes_from x.number (phi_values c) x.block.instrs c.instrs x.woven.instrs j l)

      pub alone_still : ((at : ℕ) (b : Block) (i : Instr) → slice_get f.blocks at ≡ Some b → IsListed i b.instrs → result_of i ≡ Some begin → is_begin i ≡ true) → (at : ℕ) (c : Block) (j : Instr) → slice_get g.blocks at ≡ Some c → IsListed j c.instrs → result_of j ≡ Some begin → is_begin j ≡ true
      alone_still alone at c j e l d =
          let x = woven_at 0 f.blocks g.blocks h.blocks at c e in
          ⊎_elim (λ (y : IsFresh j). let up : w.first ≤ begin = y.new begin d in absurd (omega (arith, up, low))) (λ (y : ComesFrom x.block.instrs j). y.begins ∙ alone at x.block y.instr x.there y.listed (sym y.result ∙ d))
          (comes_from x.number (phi_values c) x.block.instrs c.instrs x.woven.instrs j l)

    entry_allocas : ((n : ℕ) → w.goes n ≡ false) → (n : ℕ) (bs cs : List Block) → AreWovenBlocks w m f g n bs cs → (v : ℕ) → IsListed v (allocas_in (entry_instrs bs)) → IsListed v (allocas_in (entry_instrs cs))
    entry_allocas none n _ _ (NoBlock _) v l = l
    entry_allocas none n _ _ (OneBlock _ b c bs cs s rest) v l = allocas_stay none n (phi_values c) b.instrs c.instrs s.instrs v l

    pub allocas_still : ((n : ℕ) → w.goes n ≡ false) → IsWoven w m f g → (v : ℕ) → IsListed v (allocas_in (entry_instrs f.blocks)) → IsListed v (allocas_in (entry_instrs g.blocks))
    allocas_still none h v l = entry_allocas none 0 f.blocks g.blocks h.blocks v l
