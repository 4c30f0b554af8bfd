-- What the first pass turns the parts of a function to.
use Rattle.std.proofs.Common.{◌≡◌, ℕ, Bool, true, false, List, [], ◌∷◌, ◌++◌, length, refl, sym, subst}
use Rattle.std.specs.Prelude.{Some, None, Option, map, if◌then◌else◌}
use Rattle.pass_early.specs.BeginName.{begin_named, if_unnamed, named_block, named_instr, with_begin_name}
use Rattle.pass_early.specs.Early.{after_instrs, after_one, early_block, early_blocks, early_function, early_instrs, early_named, early_one, is_none, renaming_of, save_call}
use Rattle.pass_early.specs.Renaming.{renamed, renamed_arg, renamed_callee, renamed_incoming, renamed_instr, renamed_phi, renamed_return, renamed_term}
use Rattle.pass_early.specs.declared.renaming.Renaming.{Renaming}
use Rattle.ir_model.specs.Calls.{first_result}
use Rattle.ir_model.specs.Ty.{Ty}
use Rattle.ir_model.specs.declared.instr.Incoming.{Incoming}
use Rattle.ir_model.specs.declared.instr.Instr.{Instr}
use Rattle.ir_model.specs.declared.instr.Phi.{Phi}
use Rattle.ir_model.specs.declared.instr.Terminator.{Terminator}
use Rattle.ir_model.specs.declared.module.Block.{Block}
use Rattle.ir_model.specs.declared.module.Function.{Function}
use Rattle.ir_model.specs.declared.operand.Arg.{Arg}
use Rattle.ir_model.specs.declared.operand.Callee.{Callee}
use Rattle.ir_model.specs.declared.operand.Intrinsic.{Intrinsic}
use Rattle.ir_model.specs.declared.operand.Operand.{Operand}
use Rattle.rule_laws.specs.run_laws.changed.Changed.{Each}
use Rattle.rule_laws.proofs.ir_laws.facts.Members.{each_left, each_right}

-- ---- what stands in the place of an instruction

-- the suspend of a save that is written
abbrev pub saved_args : Renaming → ℕ → Arg → List Arg → List Arg
saved_args r n a args = record { ty = a.ty; value = Operand.Local n } ∷ map (renamed_arg r) args

-- an instruction with renamed operands; a begin with a name; a suspend behind its save
pub data Turns (r : Renaming) (fresh : ℕ → Type 0) : Instr → List Instr → Type 0 where
  Stays : (i : Instr) → Turns r fresh i (renamed_instr r i ∷ [])
  Begins : (n : ℕ) (result : Option ℕ) (must_tail : Bool) (ty : Option Ty) (args : List Arg) → Turns r fresh (Instr.Call result must_tail ty (Callee.Intrinsic Intrinsic.CoroBegin) args) (Instr.Call (Some n) must_tail ty (Callee.Intrinsic Intrinsic.CoroBegin) (map (renamed_arg r) args) ∷ [])
  Saves : (n : ℕ) (result : Option ℕ) (must_tail : Bool) (ty : Option Ty) (a : Arg) (args : List Arg) → fresh n → a.value ≡ Operand.None → Turns r fresh (Instr.Call result must_tail ty (Callee.Intrinsic Intrinsic.CoroSuspend) (a ∷ args)) (save_call n ∷ Instr.Call result must_tail ty (Callee.Intrinsic Intrinsic.CoroSuspend) (saved_args r n a args) ∷ [])

pub data TurnsAll (r : Renaming) (fresh : ℕ → Type 0) : List Instr → List Instr → Type 0 where
  Nothing : TurnsAll r fresh [] []
  Further : (i : Instr) (is js ks : List Instr) → Turns r fresh i js → TurnsAll r fresh is ks → TurnsAll r fresh (i ∷ is) (js ++ ks)

pub record TurnsBlock (r : Renaming) (fresh : ℕ → Type 0) (b c : Block) : Type 0 where
  pub label : c.label ≡ b.label
  pub phis : c.phis ≡ map (renamed_phi r) b.phis
  pub instrs : TurnsAll r fresh b.instrs c.instrs
  pub term : c.term ≡ renamed_term r b.term

pub data TurnsBlocks (r : Renaming) (fresh : ℕ → Type 0) : List Block → List Block → Type 0 where
  NoBlock : TurnsBlocks r fresh [] []
  OneMore : (b c : Block) (bs cs : List Block) → TurnsBlock r fresh b c → TurnsBlocks r fresh bs cs → TurnsBlocks r fresh (b ∷ bs) (c ∷ cs)

-- any number
abbrev pub Any : ℕ → Type 0
Any n = Unit {0}

pub record TurnsTo (f g : Function) : Type 0 where
  pub renaming : Renaming
  pub name : g.name ≡ f.name
  pub result : g.result ≡ f.result
  pub params : g.params ≡ f.params
  pub coroutine : g.coroutine ≡ f.coroutine
  pub blocks : TurnsBlocks renaming Any f.blocks g.blocks

-- ---- one instruction

module _ (r : Renaming) where
  suspended : (n : ℕ) (result : Option ℕ) (must_tail : Bool) (ty : Option Ty) (args : List Arg) → Turns r Any (Instr.Call result must_tail ty (Callee.Intrinsic Intrinsic.CoroSuspend) args) (early_one n (renamed_instr r (Instr.Call result must_tail ty (Callee.Intrinsic Intrinsic.CoroSuspend) args)))
  suspended n result must_tail ty [] = Stays (Instr.Call result must_tail ty (Callee.Intrinsic Intrinsic.CoroSuspend) [])
  suspended n result must_tail ty (a ∷ args) = on a.value refl
    where
      on : (x : Operand) → a.value ≡ x → Turns r Any (Instr.Call result must_tail ty (Callee.Intrinsic Intrinsic.CoroSuspend) (a ∷ args)) (if is_none (renamed r x) then save_call n ∷ Instr.Call result must_tail ty (Callee.Intrinsic Intrinsic.CoroSuspend) (saved_args r n a args) ∷ [] else renamed_instr r (Instr.Call result must_tail ty (Callee.Intrinsic Intrinsic.CoroSuspend) (a ∷ args)) ∷ [])
      on Operand.None e = Saves n result must_tail ty a args tt e
      on (Operand.Local v) e = Stays (Instr.Call result must_tail ty (Callee.Intrinsic Intrinsic.CoroSuspend) (a ∷ args))
      on (Operand.Global v) e = Stays (Instr.Call result must_tail ty (Callee.Intrinsic Intrinsic.CoroSuspend) (a ∷ args))
      on (Operand.Number z) e = Stays (Instr.Call result must_tail ty (Callee.Intrinsic Intrinsic.CoroSuspend) (a ∷ args))
      on Operand.True e = Stays (Instr.Call result must_tail ty (Callee.Intrinsic Intrinsic.CoroSuspend) (a ∷ args))
      on Operand.False e = Stays (Instr.Call result must_tail ty (Callee.Intrinsic Intrinsic.CoroSuspend) (a ∷ args))
      on Operand.Null e = Stays (Instr.Call result must_tail ty (Callee.Intrinsic Intrinsic.CoroSuspend) (a ∷ args))
      on Operand.Poison e = Stays (Instr.Call result must_tail ty (Callee.Intrinsic Intrinsic.CoroSuspend) (a ∷ args))

  pub turned : (n : ℕ) (i : Instr) → Turns r Any i (early_one n (renamed_instr r i))
  turned n (Instr.Binary result op flags ty left right) = Stays (Instr.Binary result op flags ty left right)
  turned n (Instr.Icmp result pred ty left right) = Stays (Instr.Icmp result pred ty left right)
  turned n (Instr.Select result c a b) = Stays (Instr.Select result c a b)
  turned n (Instr.Cast result op nneg arg to) = Stays (Instr.Cast result op nneg arg to)
  turned n (Instr.Alloca result ty align) = Stays (Instr.Alloca result ty align)
  turned n (Instr.Load result ty address align) = Stays (Instr.Load result ty address align)
  turned n (Instr.Store arg address align) = Stays (Instr.Store arg address align)
  turned n (Instr.Gep result inbounds ty base indices) = Stays (Instr.Gep result inbounds ty base indices)
  turned n (Instr.Call result must_tail ty (Callee.Named name) args) = Stays (Instr.Call result must_tail ty (Callee.Named name) args)
  turned n (Instr.Call result must_tail ty (Callee.Allocator a) args) = Stays (Instr.Call result must_tail ty (Callee.Allocator a) args)
  turned n (Instr.Call result must_tail ty (Callee.Local v) args) = Stays (Instr.Call result must_tail ty (Callee.Local v) args)
  turned n (Instr.Call result must_tail ty (Callee.Intrinsic Intrinsic.CoroId) args) = Stays (Instr.Call result must_tail ty (Callee.Intrinsic Intrinsic.CoroId) args)
  turned n (Instr.Call result must_tail ty (Callee.Intrinsic Intrinsic.CoroSizeI32) args) = Stays (Instr.Call result must_tail ty (Callee.Intrinsic Intrinsic.CoroSizeI32) args)
  turned n (Instr.Call result must_tail ty (Callee.Intrinsic Intrinsic.CoroSizeI64) args) = Stays (Instr.Call result must_tail ty (Callee.Intrinsic Intrinsic.CoroSizeI64) args)
  turned n (Instr.Call result must_tail ty (Callee.Intrinsic Intrinsic.CoroAlignI32) args) = Stays (Instr.Call result must_tail ty (Callee.Intrinsic Intrinsic.CoroAlignI32) args)
  turned n (Instr.Call result must_tail ty (Callee.Intrinsic Intrinsic.CoroAlignI64) args) = Stays (Instr.Call result must_tail ty (Callee.Intrinsic Intrinsic.CoroAlignI64) args)
  turned n (Instr.Call result must_tail ty (Callee.Intrinsic Intrinsic.CoroAlloc) args) = Stays (Instr.Call result must_tail ty (Callee.Intrinsic Intrinsic.CoroAlloc) args)
  turned n (Instr.Call result must_tail ty (Callee.Intrinsic Intrinsic.CoroBegin) args) = Stays (Instr.Call result must_tail ty (Callee.Intrinsic Intrinsic.CoroBegin) args)
  turned n (Instr.Call result must_tail ty (Callee.Intrinsic Intrinsic.CoroFree) args) = Stays (Instr.Call result must_tail ty (Callee.Intrinsic Intrinsic.CoroFree) args)
  turned n (Instr.Call result must_tail ty (Callee.Intrinsic Intrinsic.CoroFrame) args) = Stays (Instr.Call result must_tail ty (Callee.Intrinsic Intrinsic.CoroFrame) args)
  turned n (Instr.Call result must_tail ty (Callee.Intrinsic Intrinsic.CoroSave) args) = Stays (Instr.Call result must_tail ty (Callee.Intrinsic Intrinsic.CoroSave) args)
  turned n (Instr.Call result must_tail ty (Callee.Intrinsic Intrinsic.CoroSuspend) args) = suspended n result must_tail ty args
  turned n (Instr.Call result must_tail ty (Callee.Intrinsic Intrinsic.CoroEnd) args) = Stays (Instr.Call result must_tail ty (Callee.Intrinsic Intrinsic.CoroEnd) args)
  turned n (Instr.Call result must_tail ty (Callee.Intrinsic Intrinsic.CoroResume) args) = Stays (Instr.Call result must_tail ty (Callee.Intrinsic Intrinsic.CoroResume) args)
  turned n (Instr.Call result must_tail ty (Callee.Intrinsic Intrinsic.CoroDestroy) args) = Stays (Instr.Call result must_tail ty (Callee.Intrinsic Intrinsic.CoroDestroy) args)
  turned n (Instr.Call result must_tail ty (Callee.Intrinsic Intrinsic.CoroDone) args) = Stays (Instr.Call result must_tail ty (Callee.Intrinsic Intrinsic.CoroDone) args)
  turned n (Instr.Call result must_tail ty (Callee.Intrinsic Intrinsic.CoroPromise) args) = Stays (Instr.Call result must_tail ty (Callee.Intrinsic Intrinsic.CoroPromise) args)
  turned n (Instr.Call result must_tail ty (Callee.Intrinsic Intrinsic.LifetimeStart) args) = Stays (Instr.Call result must_tail ty (Callee.Intrinsic Intrinsic.LifetimeStart) args)
  turned n (Instr.Call result must_tail ty (Callee.Intrinsic Intrinsic.LifetimeEnd) args) = Stays (Instr.Call result must_tail ty (Callee.Intrinsic Intrinsic.LifetimeEnd) args)
  turned n (Instr.Call result must_tail ty (Callee.Intrinsic Intrinsic.MemcpyI64) args) = Stays (Instr.Call result must_tail ty (Callee.Intrinsic Intrinsic.MemcpyI64) args)
  turned n (Instr.Call result must_tail ty (Callee.Intrinsic Intrinsic.MemcpyI32) args) = Stays (Instr.Call result must_tail ty (Callee.Intrinsic Intrinsic.MemcpyI32) args)

  pub turned_named : (begin n : ℕ) (i : Instr) → Turns r Any i (early_one n (renamed_instr r (named_instr begin i)))
  turned_named begin n (Instr.Binary result op flags ty left right) = turned n (Instr.Binary result op flags ty left right)
  turned_named begin n (Instr.Icmp result pred ty left right) = turned n (Instr.Icmp result pred ty left right)
  turned_named begin n (Instr.Select result c a b) = turned n (Instr.Select result c a b)
  turned_named begin n (Instr.Cast result op nneg arg to) = turned n (Instr.Cast result op nneg arg to)
  turned_named begin n (Instr.Alloca result ty align) = turned n (Instr.Alloca result ty align)
  turned_named begin n (Instr.Load result ty address align) = turned n (Instr.Load result ty address align)
  turned_named begin n (Instr.Store arg address align) = turned n (Instr.Store arg address align)
  turned_named begin n (Instr.Gep result inbounds ty base indices) = turned n (Instr.Gep result inbounds ty base indices)
  turned_named begin n (Instr.Call result must_tail ty (Callee.Named name) args) = turned n (Instr.Call result must_tail ty (Callee.Named name) args)
  turned_named begin n (Instr.Call result must_tail ty (Callee.Allocator a) args) = turned n (Instr.Call result must_tail ty (Callee.Allocator a) args)
  turned_named begin n (Instr.Call result must_tail ty (Callee.Local v) args) = turned n (Instr.Call result must_tail ty (Callee.Local v) args)
  turned_named begin n (Instr.Call result must_tail ty (Callee.Intrinsic Intrinsic.CoroId) args) = turned n (Instr.Call result must_tail ty (Callee.Intrinsic Intrinsic.CoroId) args)
  turned_named begin n (Instr.Call result must_tail ty (Callee.Intrinsic Intrinsic.CoroSizeI32) args) = turned n (Instr.Call result must_tail ty (Callee.Intrinsic Intrinsic.CoroSizeI32) args)
  turned_named begin n (Instr.Call result must_tail ty (Callee.Intrinsic Intrinsic.CoroSizeI64) args) = turned n (Instr.Call result must_tail ty (Callee.Intrinsic Intrinsic.CoroSizeI64) args)
  turned_named begin n (Instr.Call result must_tail ty (Callee.Intrinsic Intrinsic.CoroAlignI32) args) = turned n (Instr.Call result must_tail ty (Callee.Intrinsic Intrinsic.CoroAlignI32) args)
  turned_named begin n (Instr.Call result must_tail ty (Callee.Intrinsic Intrinsic.CoroAlignI64) args) = turned n (Instr.Call result must_tail ty (Callee.Intrinsic Intrinsic.CoroAlignI64) args)
  turned_named begin n (Instr.Call result must_tail ty (Callee.Intrinsic Intrinsic.CoroAlloc) args) = turned n (Instr.Call result must_tail ty (Callee.Intrinsic Intrinsic.CoroAlloc) args)
  turned_named begin n (Instr.Call result must_tail ty (Callee.Intrinsic Intrinsic.CoroBegin) args) = Begins begin result must_tail ty args
  turned_named begin n (Instr.Call result must_tail ty (Callee.Intrinsic Intrinsic.CoroFree) args) = turned n (Instr.Call result must_tail ty (Callee.Intrinsic Intrinsic.CoroFree) args)
  turned_named begin n (Instr.Call result must_tail ty (Callee.Intrinsic Intrinsic.CoroFrame) args) = turned n (Instr.Call result must_tail ty (Callee.Intrinsic Intrinsic.CoroFrame) args)
  turned_named begin n (Instr.Call result must_tail ty (Callee.Intrinsic Intrinsic.CoroSave) args) = turned n (Instr.Call result must_tail ty (Callee.Intrinsic Intrinsic.CoroSave) args)
  turned_named begin n (Instr.Call result must_tail ty (Callee.Intrinsic Intrinsic.CoroSuspend) args) = turned n (Instr.Call result must_tail ty (Callee.Intrinsic Intrinsic.CoroSuspend) args)
  turned_named begin n (Instr.Call result must_tail ty (Callee.Intrinsic Intrinsic.CoroEnd) args) = turned n (Instr.Call result must_tail ty (Callee.Intrinsic Intrinsic.CoroEnd) args)
  turned_named begin n (Instr.Call result must_tail ty (Callee.Intrinsic Intrinsic.CoroResume) args) = turned n (Instr.Call result must_tail ty (Callee.Intrinsic Intrinsic.CoroResume) args)
  turned_named begin n (Instr.Call result must_tail ty (Callee.Intrinsic Intrinsic.CoroDestroy) args) = turned n (Instr.Call result must_tail ty (Callee.Intrinsic Intrinsic.CoroDestroy) args)
  turned_named begin n (Instr.Call result must_tail ty (Callee.Intrinsic Intrinsic.CoroDone) args) = turned n (Instr.Call result must_tail ty (Callee.Intrinsic Intrinsic.CoroDone) args)
  turned_named begin n (Instr.Call result must_tail ty (Callee.Intrinsic Intrinsic.CoroPromise) args) = turned n (Instr.Call result must_tail ty (Callee.Intrinsic Intrinsic.CoroPromise) args)
  turned_named begin n (Instr.Call result must_tail ty (Callee.Intrinsic Intrinsic.LifetimeStart) args) = turned n (Instr.Call result must_tail ty (Callee.Intrinsic Intrinsic.LifetimeStart) args)
  turned_named begin n (Instr.Call result must_tail ty (Callee.Intrinsic Intrinsic.LifetimeEnd) args) = turned n (Instr.Call result must_tail ty (Callee.Intrinsic Intrinsic.LifetimeEnd) args)
  turned_named begin n (Instr.Call result must_tail ty (Callee.Intrinsic Intrinsic.MemcpyI64) args) = turned n (Instr.Call result must_tail ty (Callee.Intrinsic Intrinsic.MemcpyI64) args)
  turned_named begin n (Instr.Call result must_tail ty (Callee.Intrinsic Intrinsic.MemcpyI32) args) = turned n (Instr.Call result must_tail ty (Callee.Intrinsic Intrinsic.MemcpyI32) args)

  -- ---- blocks

  turned_all : (n : ℕ) (is : List Instr) → TurnsAll r Any is (early_instrs r n is)
  turned_all n [] = Nothing
  turned_all n (i ∷ is) = Further i is (early_one n (renamed_instr r i)) (early_instrs r (after_one n (renamed_instr r i)) is) (turned n i) (turned_all (after_one n (renamed_instr r i)) is)

  turned_all_named : (begin n : ℕ) (is : List Instr) → TurnsAll r Any is (early_instrs r n (map (named_instr begin) is))
  turned_all_named begin n [] = Nothing
  turned_all_named begin n (i ∷ is) =
      let j : Instr = renamed_instr r (named_instr begin i) in
      Further i is (early_one n j) (early_instrs r (after_one n j) (map (named_instr begin) is)) (turned_named begin n i) (turned_all_named begin (after_one n j) is)

  turned_blocks : (n : ℕ) (bs : List Block) → TurnsBlocks r Any bs (early_blocks r n bs)
  turned_blocks n [] = NoBlock
  turned_blocks n (b ∷ bs) =
      OneMore b (early_block r n b) bs (early_blocks r (after_instrs r n b.instrs) bs)
      (record { label = refl; phis = refl; instrs = turned_all n b.instrs; term = refl })
      (turned_blocks (after_instrs r n b.instrs) bs)

  turned_blocks_named : (begin n : ℕ) (bs : List Block) → TurnsBlocks r Any bs (early_blocks r n (map (named_block begin) bs))
  turned_blocks_named begin n [] = NoBlock
  turned_blocks_named begin n (b ∷ bs) =
      let c : Block = named_block begin b in
      OneMore b (early_block r n c) bs (early_blocks r (after_instrs r n c.instrs) (map (named_block begin) bs))
      (record { label = refl; phis = refl; instrs = turned_all_named begin n b.instrs; term = refl })
      (turned_blocks_named begin (after_instrs r n c.instrs) bs)

-- ---- a renaming of nothing

abbrev pub none_renamed : Renaming
none_renamed = record { from = []; to = 0 }

pub same_operand : (x : Operand) → x ≡ renamed none_renamed x
same_operand (Operand.Local v) = refl
same_operand (Operand.Global v) = refl
same_operand (Operand.Number z) = refl
same_operand Operand.True = refl
same_operand Operand.False = refl
same_operand Operand.Null = refl
same_operand Operand.None = refl
same_operand Operand.Poison = refl

pub same_arg : (a : Arg) → a ≡ renamed_arg none_renamed a
same_arg a = λ k. record { ty = a.ty; value = same_operand a.value k }

pub same_args : (args : List Arg) → args ≡ map (renamed_arg none_renamed) args
same_args [] = refl
same_args (a ∷ args) = λ k. same_arg a k ∷ same_args args k

pub same_callee : (c : Callee) → c ≡ renamed_callee none_renamed c
same_callee (Callee.Named name) = refl
same_callee (Callee.Allocator a) = refl
same_callee (Callee.Intrinsic i) = refl
same_callee (Callee.Local v) = refl

pub same_instr : (i : Instr) → renamed_instr none_renamed i ≡ i
same_instr (Instr.Binary result op flags ty left right) = sym (λ k. Instr.Binary result op flags ty (same_operand left k) (same_operand right k))
same_instr (Instr.Icmp result pred ty left right) = sym (λ k. Instr.Icmp result pred ty (same_operand left k) (same_operand right k))
same_instr (Instr.Select result c a b) = sym (λ k. Instr.Select result (same_operand c k) (same_arg a k) (same_arg b k))
same_instr (Instr.Cast result op nneg arg to) = sym (λ k. Instr.Cast result op nneg (same_arg arg k) to)
same_instr (Instr.Alloca result ty align) = refl
same_instr (Instr.Load result ty address align) = sym (λ k. Instr.Load result ty (same_operand address k) align)
same_instr (Instr.Store arg address align) = sym (λ k. Instr.Store (same_arg arg k) (same_operand address k) align)
same_instr (Instr.Gep result inbounds ty base indices) = sym (λ k. Instr.Gep result inbounds ty (same_operand base k) (same_args indices k))
same_instr (Instr.Call result must_tail ty callee args) = sym (λ k. Instr.Call result must_tail ty (same_callee callee k) (same_args args k))

pub same_incoming : (xs : List Incoming) → xs ≡ map (renamed_incoming none_renamed) xs
same_incoming [] = refl
same_incoming (x ∷ xs) = λ k. record { value = same_operand x.value k; from = x.from } ∷ same_incoming xs k

pub same_phis : (ps : List Phi) → ps ≡ map (renamed_phi none_renamed) ps
same_phis [] = refl
same_phis (p ∷ ps) = λ k. record { result = p.result; ty = p.ty; incoming = same_incoming p.incoming k } ∷ same_phis ps k

pub same_return : (o : Option Arg) → o ≡ renamed_return none_renamed o
same_return None = refl
same_return (Some a) = λ k. Some (same_arg a k)

pub same_term : (t : Terminator) → t ≡ renamed_term none_renamed t
same_term (Terminator.Jump label) = refl
same_term (Terminator.Branch c a b) = λ k. Terminator.Branch (same_operand c k) a b
same_term (Terminator.Switch arg default cases) = λ k. Terminator.Switch (same_arg arg k) default cases
same_term (Terminator.Ret value) = λ k. Terminator.Ret (same_return value k)
same_term Terminator.Unreachable = refl

module _ (fresh : ℕ → Type 0) where
  same_all : (is : List Instr) → TurnsAll none_renamed fresh is is
  same_all [] = Nothing
  same_all (i ∷ is) = Further i is (i ∷ []) is (subst (λ (x : Instr). Turns none_renamed fresh i (x ∷ [])) (same_instr i) (Stays i)) (same_all is)

  pub same_blocks : (bs : List Block) → TurnsBlocks none_renamed fresh bs bs
  same_blocks [] = NoBlock
  same_blocks (b ∷ bs) = OneMore b b bs bs (record { label = refl; phis = same_phis b.phis; instrs = same_all b.instrs; term = same_term b.term }) (same_blocks bs)

-- ---- the numbers of saves

module _ (r : Renaming) (fresh : ℕ → Type 0) (Q : Instr → Type 0) (of_save : (n : ℕ) → Q (save_call n) → fresh n) where
  marked_one : (i : Instr) (js : List Instr) → Turns r Any i js → Each Q js → Turns r fresh i js
  marked_one i _ (Stays _) h = Stays i
  marked_one _ _ (Begins n result must_tail ty args) h = Begins n result must_tail ty args
  marked_one _ _ (Saves n result must_tail ty a args any e) h = Saves n result must_tail ty a args (of_save n h.0) e

  marked_all : (is js : List Instr) → TurnsAll r Any is js → Each Q js → TurnsAll r fresh is js
  marked_all _ _ Nothing h = Nothing
  marked_all _ _ (Further i is js ks t rest) h = Further i is js ks (marked_one i js t (each_left Q js ks h)) (marked_all is ks rest (each_right Q js ks h))

  -- where each instruction of the result passes, the number of each save does
  pub marked_blocks : (bs cs : List Block) → TurnsBlocks r Any bs cs → Each (λ (c : Block). Each Q c.instrs) cs → TurnsBlocks r fresh bs cs
  marked_blocks _ _ NoBlock h = NoBlock
  marked_blocks _ _ (OneMore b c bs cs t rest) h = OneMore b c bs cs (record { label = t.label; phis = t.phis; instrs = marked_all b.instrs c.instrs t.instrs h.0; term = t.term }) (marked_blocks bs cs rest h.1)

-- ---- a begin that gets a name, alone

module _ (begin : ℕ) where
  pub name_turned : (i : Instr) → Turns none_renamed Any i (named_instr begin i ∷ [])
  name_turned (Instr.Call result must_tail ty (Callee.Intrinsic Intrinsic.CoroBegin) args) =
      subst (λ (xs : List Arg). Turns none_renamed Any (Instr.Call result must_tail ty (Callee.Intrinsic Intrinsic.CoroBegin) args) (Instr.Call (Some begin) must_tail ty (Callee.Intrinsic Intrinsic.CoroBegin) xs ∷ [])) (sym (same_args args)) (Begins begin result must_tail ty args)
  name_turned (Instr.Binary result op flags ty left right) = subst (λ (x : Instr). Turns none_renamed Any (Instr.Binary result op flags ty left right) (x ∷ [])) (same_instr (Instr.Binary result op flags ty left right)) (Stays (Instr.Binary result op flags ty left right))
  name_turned (Instr.Icmp result pred ty left right) = subst (λ (x : Instr). Turns none_renamed Any (Instr.Icmp result pred ty left right) (x ∷ [])) (same_instr (Instr.Icmp result pred ty left right)) (Stays (Instr.Icmp result pred ty left right))
  name_turned (Instr.Select result c a b) = subst (λ (x : Instr). Turns none_renamed Any (Instr.Select result c a b) (x ∷ [])) (same_instr (Instr.Select result c a b)) (Stays (Instr.Select result c a b))
  name_turned (Instr.Cast result op nneg arg to) = subst (λ (x : Instr). Turns none_renamed Any (Instr.Cast result op nneg arg to) (x ∷ [])) (same_instr (Instr.Cast result op nneg arg to)) (Stays (Instr.Cast result op nneg arg to))
  name_turned (Instr.Alloca result ty align) = subst (λ (x : Instr). Turns none_renamed Any (Instr.Alloca result ty align) (x ∷ [])) (same_instr (Instr.Alloca result ty align)) (Stays (Instr.Alloca result ty align))
  name_turned (Instr.Load result ty address align) = subst (λ (x : Instr). Turns none_renamed Any (Instr.Load result ty address align) (x ∷ [])) (same_instr (Instr.Load result ty address align)) (Stays (Instr.Load result ty address align))
  name_turned (Instr.Store arg address align) = subst (λ (x : Instr). Turns none_renamed Any (Instr.Store arg address align) (x ∷ [])) (same_instr (Instr.Store arg address align)) (Stays (Instr.Store arg address align))
  name_turned (Instr.Gep result inbounds ty base indices) = subst (λ (x : Instr). Turns none_renamed Any (Instr.Gep result inbounds ty base indices) (x ∷ [])) (same_instr (Instr.Gep result inbounds ty base indices)) (Stays (Instr.Gep result inbounds ty base indices))
  name_turned (Instr.Call result must_tail ty (Callee.Named name) args) = subst (λ (x : Instr). Turns none_renamed Any (Instr.Call result must_tail ty (Callee.Named name) args) (x ∷ [])) (same_instr (Instr.Call result must_tail ty (Callee.Named name) args)) (Stays (Instr.Call result must_tail ty (Callee.Named name) args))
  name_turned (Instr.Call result must_tail ty (Callee.Allocator a) args) = subst (λ (x : Instr). Turns none_renamed Any (Instr.Call result must_tail ty (Callee.Allocator a) args) (x ∷ [])) (same_instr (Instr.Call result must_tail ty (Callee.Allocator a) args)) (Stays (Instr.Call result must_tail ty (Callee.Allocator a) args))
  name_turned (Instr.Call result must_tail ty (Callee.Local v) args) = subst (λ (x : Instr). Turns none_renamed Any (Instr.Call result must_tail ty (Callee.Local v) args) (x ∷ [])) (same_instr (Instr.Call result must_tail ty (Callee.Local v) args)) (Stays (Instr.Call result must_tail ty (Callee.Local v) args))
  name_turned (Instr.Call result must_tail ty (Callee.Intrinsic Intrinsic.CoroId) args) = subst (λ (x : Instr). Turns none_renamed Any (Instr.Call result must_tail ty (Callee.Intrinsic Intrinsic.CoroId) args) (x ∷ [])) (same_instr (Instr.Call result must_tail ty (Callee.Intrinsic Intrinsic.CoroId) args)) (Stays (Instr.Call result must_tail ty (Callee.Intrinsic Intrinsic.CoroId) args))
  name_turned (Instr.Call result must_tail ty (Callee.Intrinsic Intrinsic.CoroSizeI32) args) = subst (λ (x : Instr). Turns none_renamed Any (Instr.Call result must_tail ty (Callee.Intrinsic Intrinsic.CoroSizeI32) args) (x ∷ [])) (same_instr (Instr.Call result must_tail ty (Callee.Intrinsic Intrinsic.CoroSizeI32) args)) (Stays (Instr.Call result must_tail ty (Callee.Intrinsic Intrinsic.CoroSizeI32) args))
  name_turned (Instr.Call result must_tail ty (Callee.Intrinsic Intrinsic.CoroSizeI64) args) = subst (λ (x : Instr). Turns none_renamed Any (Instr.Call result must_tail ty (Callee.Intrinsic Intrinsic.CoroSizeI64) args) (x ∷ [])) (same_instr (Instr.Call result must_tail ty (Callee.Intrinsic Intrinsic.CoroSizeI64) args)) (Stays (Instr.Call result must_tail ty (Callee.Intrinsic Intrinsic.CoroSizeI64) args))
  name_turned (Instr.Call result must_tail ty (Callee.Intrinsic Intrinsic.CoroAlignI32) args) = subst (λ (x : Instr). Turns none_renamed Any (Instr.Call result must_tail ty (Callee.Intrinsic Intrinsic.CoroAlignI32) args) (x ∷ [])) (same_instr (Instr.Call result must_tail ty (Callee.Intrinsic Intrinsic.CoroAlignI32) args)) (Stays (Instr.Call result must_tail ty (Callee.Intrinsic Intrinsic.CoroAlignI32) args))
  name_turned (Instr.Call result must_tail ty (Callee.Intrinsic Intrinsic.CoroAlignI64) args) = subst (λ (x : Instr). Turns none_renamed Any (Instr.Call result must_tail ty (Callee.Intrinsic Intrinsic.CoroAlignI64) args) (x ∷ [])) (same_instr (Instr.Call result must_tail ty (Callee.Intrinsic Intrinsic.CoroAlignI64) args)) (Stays (Instr.Call result must_tail ty (Callee.Intrinsic Intrinsic.CoroAlignI64) args))
  name_turned (Instr.Call result must_tail ty (Callee.Intrinsic Intrinsic.CoroAlloc) args) = subst (λ (x : Instr). Turns none_renamed Any (Instr.Call result must_tail ty (Callee.Intrinsic Intrinsic.CoroAlloc) args) (x ∷ [])) (same_instr (Instr.Call result must_tail ty (Callee.Intrinsic Intrinsic.CoroAlloc) args)) (Stays (Instr.Call result must_tail ty (Callee.Intrinsic Intrinsic.CoroAlloc) args))
  name_turned (Instr.Call result must_tail ty (Callee.Intrinsic Intrinsic.CoroFree) args) = subst (λ (x : Instr). Turns none_renamed Any (Instr.Call result must_tail ty (Callee.Intrinsic Intrinsic.CoroFree) args) (x ∷ [])) (same_instr (Instr.Call result must_tail ty (Callee.Intrinsic Intrinsic.CoroFree) args)) (Stays (Instr.Call result must_tail ty (Callee.Intrinsic Intrinsic.CoroFree) args))
  name_turned (Instr.Call result must_tail ty (Callee.Intrinsic Intrinsic.CoroFrame) args) = subst (λ (x : Instr). Turns none_renamed Any (Instr.Call result must_tail ty (Callee.Intrinsic Intrinsic.CoroFrame) args) (x ∷ [])) (same_instr (Instr.Call result must_tail ty (Callee.Intrinsic Intrinsic.CoroFrame) args)) (Stays (Instr.Call result must_tail ty (Callee.Intrinsic Intrinsic.CoroFrame) args))
  name_turned (Instr.Call result must_tail ty (Callee.Intrinsic Intrinsic.CoroSave) args) = subst (λ (x : Instr). Turns none_renamed Any (Instr.Call result must_tail ty (Callee.Intrinsic Intrinsic.CoroSave) args) (x ∷ [])) (same_instr (Instr.Call result must_tail ty (Callee.Intrinsic Intrinsic.CoroSave) args)) (Stays (Instr.Call result must_tail ty (Callee.Intrinsic Intrinsic.CoroSave) args))
  name_turned (Instr.Call result must_tail ty (Callee.Intrinsic Intrinsic.CoroSuspend) args) = subst (λ (x : Instr). Turns none_renamed Any (Instr.Call result must_tail ty (Callee.Intrinsic Intrinsic.CoroSuspend) args) (x ∷ [])) (same_instr (Instr.Call result must_tail ty (Callee.Intrinsic Intrinsic.CoroSuspend) args)) (Stays (Instr.Call result must_tail ty (Callee.Intrinsic Intrinsic.CoroSuspend) args))
  name_turned (Instr.Call result must_tail ty (Callee.Intrinsic Intrinsic.CoroEnd) args) = subst (λ (x : Instr). Turns none_renamed Any (Instr.Call result must_tail ty (Callee.Intrinsic Intrinsic.CoroEnd) args) (x ∷ [])) (same_instr (Instr.Call result must_tail ty (Callee.Intrinsic Intrinsic.CoroEnd) args)) (Stays (Instr.Call result must_tail ty (Callee.Intrinsic Intrinsic.CoroEnd) args))
  name_turned (Instr.Call result must_tail ty (Callee.Intrinsic Intrinsic.CoroResume) args) = subst (λ (x : Instr). Turns none_renamed Any (Instr.Call result must_tail ty (Callee.Intrinsic Intrinsic.CoroResume) args) (x ∷ [])) (same_instr (Instr.Call result must_tail ty (Callee.Intrinsic Intrinsic.CoroResume) args)) (Stays (Instr.Call result must_tail ty (Callee.Intrinsic Intrinsic.CoroResume) args))
  name_turned (Instr.Call result must_tail ty (Callee.Intrinsic Intrinsic.CoroDestroy) args) = subst (λ (x : Instr). Turns none_renamed Any (Instr.Call result must_tail ty (Callee.Intrinsic Intrinsic.CoroDestroy) args) (x ∷ [])) (same_instr (Instr.Call result must_tail ty (Callee.Intrinsic Intrinsic.CoroDestroy) args)) (Stays (Instr.Call result must_tail ty (Callee.Intrinsic Intrinsic.CoroDestroy) args))
  name_turned (Instr.Call result must_tail ty (Callee.Intrinsic Intrinsic.CoroDone) args) = subst (λ (x : Instr). Turns none_renamed Any (Instr.Call result must_tail ty (Callee.Intrinsic Intrinsic.CoroDone) args) (x ∷ [])) (same_instr (Instr.Call result must_tail ty (Callee.Intrinsic Intrinsic.CoroDone) args)) (Stays (Instr.Call result must_tail ty (Callee.Intrinsic Intrinsic.CoroDone) args))
  name_turned (Instr.Call result must_tail ty (Callee.Intrinsic Intrinsic.CoroPromise) args) = subst (λ (x : Instr). Turns none_renamed Any (Instr.Call result must_tail ty (Callee.Intrinsic Intrinsic.CoroPromise) args) (x ∷ [])) (same_instr (Instr.Call result must_tail ty (Callee.Intrinsic Intrinsic.CoroPromise) args)) (Stays (Instr.Call result must_tail ty (Callee.Intrinsic Intrinsic.CoroPromise) args))
  name_turned (Instr.Call result must_tail ty (Callee.Intrinsic Intrinsic.LifetimeStart) args) = subst (λ (x : Instr). Turns none_renamed Any (Instr.Call result must_tail ty (Callee.Intrinsic Intrinsic.LifetimeStart) args) (x ∷ [])) (same_instr (Instr.Call result must_tail ty (Callee.Intrinsic Intrinsic.LifetimeStart) args)) (Stays (Instr.Call result must_tail ty (Callee.Intrinsic Intrinsic.LifetimeStart) args))
  name_turned (Instr.Call result must_tail ty (Callee.Intrinsic Intrinsic.LifetimeEnd) args) = subst (λ (x : Instr). Turns none_renamed Any (Instr.Call result must_tail ty (Callee.Intrinsic Intrinsic.LifetimeEnd) args) (x ∷ [])) (same_instr (Instr.Call result must_tail ty (Callee.Intrinsic Intrinsic.LifetimeEnd) args)) (Stays (Instr.Call result must_tail ty (Callee.Intrinsic Intrinsic.LifetimeEnd) args))
  name_turned (Instr.Call result must_tail ty (Callee.Intrinsic Intrinsic.MemcpyI64) args) = subst (λ (x : Instr). Turns none_renamed Any (Instr.Call result must_tail ty (Callee.Intrinsic Intrinsic.MemcpyI64) args) (x ∷ [])) (same_instr (Instr.Call result must_tail ty (Callee.Intrinsic Intrinsic.MemcpyI64) args)) (Stays (Instr.Call result must_tail ty (Callee.Intrinsic Intrinsic.MemcpyI64) args))
  name_turned (Instr.Call result must_tail ty (Callee.Intrinsic Intrinsic.MemcpyI32) args) = subst (λ (x : Instr). Turns none_renamed Any (Instr.Call result must_tail ty (Callee.Intrinsic Intrinsic.MemcpyI32) args) (x ∷ [])) (same_instr (Instr.Call result must_tail ty (Callee.Intrinsic Intrinsic.MemcpyI32) args)) (Stays (Instr.Call result must_tail ty (Callee.Intrinsic Intrinsic.MemcpyI32) args))

  names_turned : (is : List Instr) → TurnsAll none_renamed Any is (map (named_instr begin) is)
  names_turned [] = Nothing
  names_turned (i ∷ is) = Further i is (named_instr begin i ∷ []) (map (named_instr begin) is) (name_turned i) (names_turned is)

  pub blocks_named : (bs : List Block) → TurnsBlocks none_renamed Any bs (map (named_block begin) bs)
  blocks_named [] = NoBlock
  blocks_named (b ∷ bs) = OneMore b (named_block begin b) bs (map (named_block begin) bs) (record { label = refl; phis = same_phis b.phis; instrs = names_turned b.instrs; term = same_term b.term }) (blocks_named bs)

-- ---- functions

pub turned_as : (f : Function) (o : Option ℕ) → TurnsBlocks (renaming_of (if_unnamed o f)) Any f.blocks (early_named (if_unnamed o f)).blocks
turned_as f None = turned_blocks_named (renaming_of (begin_named f)) (length f.names) (length (begin_named f).names) f.blocks
turned_as f (Some n) = turned_blocks (renaming_of f) (length f.names) f.blocks

-- a begin that gets a name, or has one
pub name_as : (f : Function) (o : Option ℕ) → TurnsBlocks none_renamed Any f.blocks (if_unnamed o f).blocks
name_as f None = blocks_named (length f.names) f.blocks
name_as f (Some n) = same_blocks Any f.blocks

turned_coroutine : (f : Function) (o : Option ℕ) → TurnsTo f (early_named (if_unnamed o f))
turned_coroutine f None = record { renaming = renaming_of (begin_named f); name = refl; result = refl; params = refl; coroutine = refl; blocks = turned_as f None }
turned_coroutine f (Some n) = record { renaming = renaming_of f; name = refl; result = refl; params = refl; coroutine = refl; blocks = turned_as f (Some n) }

pub turned_function : (f : Function) → TurnsTo f (early_function f)
turned_function f = on f.coroutine
  where
    on : (b : Bool) → TurnsTo f (if b then early_named (with_begin_name f) else f)
    on true = turned_coroutine f (first_result Intrinsic.CoroBegin f)
    on false = record { renaming = none_renamed; name = refl; result = refl; params = refl; coroutine = refl; blocks = same_blocks Any f.blocks }
