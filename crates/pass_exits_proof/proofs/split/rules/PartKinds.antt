-- What the values of the functions are that a function becomes: old ones are what they were, new ones are what is told of them.
use Rattle.std.proofs.Common.{◌≡◌, ◌⊎◌, inl, inr, ℕ, ◌+◌, ◌<◌, ◌≤◌, Bool, true, false, List, [], ◌∷◌, length, refl, sym, ap, ◌∙◌, subst, arith}
use Rattle.std.specs.Prelude.{Option, Some}
use Rattle.pass_fetch_proof.specs.ir_base.declared.outcome.Place.{Place}
use Rattle.pass_fetch_proof.proofs.rule_laws.rules.local_rules.Fitting.{either}
use Rattle.pass_fetch_proof.specs.ir_parts.Parts.{OfInstr, Part as FunctionPart}
use Rattle.pass_fetch_proof.specs.pass_intrinsics.Cuts.{goes_on}
use Rattle.pass_fetch_proof.specs.pass_intrinsics.Lowered.{lowered, number_of_save}
use Rattle.pass_fetch_proof.specs.pass_intrinsics.Shapes.{given_name, index_name, slot_name}
use Rattle.pass_fetch_proof.specs.pass_intrinsics.declared.shape.Part.{Part}
use Rattle.pass_fetch_proof.specs.pass_intrinsics.declared.shape.Shape.{Shape}
use Rattle.ir_model.specs.Ty.{Ty}
use Rattle.ir_model.specs.TypeView.{bits_of}
use Rattle.ir_model.specs.declared.instr.Instr.{Instr}
use Rattle.ir_model.specs.declared.instr.Phi.{Phi}
use Rattle.ir_model.specs.declared.instr.Terminator.{Terminator}
use Rattle.ir_model.specs.declared.module.Block.{Block}
use Rattle.ir_model.specs.declared.module.Function.{Function}
use Rattle.ir_model.specs.declared.module.Module.{Module}
use Rattle.ir_model.specs.declared.operand.Arg.{Arg}
use Rattle.ir_model.specs.declared.operand.Callee.{Callee}
use Rattle.ir_model.specs.declared.operand.Intrinsic.{Intrinsic}
use Rattle.pass_fetch_proof.specs.rule_locals.Intrinsics.{is_inner}
use Rattle.pass_exits_proof.proofs.split.rules.Carried.{Becomes}
use Rattle.pass_fetch_proof.proofs.rule_laws.rules.replaced.OwnKinds.{MakesIn, PhiMakesIn, kind_made_by, or_some}
use Rattle.pass_exits_proof.proofs.split.rules.Local.{Lowers, Replaced, Same, lowers}
use Rattle.pass_fetch_proof.proofs.ir_laws.facts.Truth.{first_no, second_no}
use Rattle.pass_fetch_proof.proofs.rule_laws.rules.replaced.Passed.{IsAll, Passes}
use Rattle.pass_fetch_proof.specs.rule_laws.frames.replaced.Kinds.{kinds_with}
use Rattle.pass_fetch_proof.specs.rule_laws.frames.replaced.Replaced.{Address, Calls, Loads, New, Number, OfFrame, OfResult, Replaces, StoresCleanup, StoresDestroy, StoresIndex, StoresNull, StoresResume, Tests, Truth}
use Rattle.pass_fetch_proof.specs.run_laws.changed.Changed.{Each}
use Rattle.pass_fetch_proof.specs.rule_types.Signatures.{calls_otherwise}
use Rattle.pass_fetch_proof.specs.rule_values.Kinds.{kind_of, result_kind, value_kind}
use Rattle.pass_fetch_proof.specs.rule_values.declared.kinds.Kind.{Kind}
use Rattle.pass_fetch_proof.proofs.ir_laws.facts.Members.{each_turns}

-- what is said of blocks twice
pub both_all : (Q A : Phi → Type 0) (P B : Instr → Type 0) (T C : Terminator → Type 0) (bs : List Block) → Each (IsAll Q P T) bs → Each (IsAll A B C) bs → Each (IsAll Q (λ (i : Instr). P i × B i) T) bs
both_all Q A P B T C [] h k = tt
both_all Q A P B T C (b ∷ bs) h k = (record { phis = h.0.phis; instrs = both b.instrs h.0.instrs k.0.instrs; term = h.0.term }, both_all Q A P B T C bs h.1 k.1)
  where
    both : (is : List Instr) → Each P is → Each B is → Each (λ (i : Instr). P i × B i) is
    both [] x y = tt
    both (i ∷ is) x y = ((x.0, y.0), both is x.1 y.1)

-- what is asked of new names: those of instructions are pointers, and so is the frame address, where it is spoken of
pub record AreNewKinds (f : Function) (s : Shape) (part : Part) (low : ℕ) (new : ℕ → Kind) (extra : Place → FunctionPart → Bool) : Type 0 where
  pub fresh : (v : ℕ) → low ≤ v → kinds_with f new v ≡ Some Kind.Ptr
  pub frame : (p : Place) (r : Option ℕ) (must_tail : Bool) (ty : Option Ty) (x : Intrinsic) (args : List Arg) → extra p (OfInstr (Instr.Call r must_tail ty (Callee.Intrinsic x) args)) ≡ false → is_inner x ≡ true → kinds_with f new s.begin ≡ Some Kind.Ptr
  pub begin : goes_on part ≡ true → kinds_with f new s.begin ≡ Some Kind.Ptr
  pub slot : goes_on part ≡ true → kinds_with f new (slot_name s) ≡ Some Kind.Ptr
  pub given : part ≡ Part.GivenRamp → kinds_with f new (given_name s) ≡ Some Kind.Ptr
  pub index : goes_on part ≡ true → kinds_with f new (index_name s) ≡ Some (Kind.Int (bits_of s.width))

module _ (m : Module) (f : Function) (s : Shape) (part : Part) (saves : (r : Option ℕ) (j : ℕ) → number_of_save s r ≡ Some j → j < length s.suspends) (low : ℕ) (new : ℕ → Kind) (extra : Place → FunctionPart → Bool) (kinds : AreNewKinds f s part low new extra) where
  abbrev K : ℕ → Option Kind
  K = kinds_with f new

  -- an old value is what it was
  pub old_same : (v : ℕ) (kind : Kind) → Some kind ≡ value_kind f v → Some kind ≡ K v
  old_same v kind e = sym (or_some (value_kind f v) (Some (new v)) kind (sym e))

  abbrev Told : Instr → Type 0
  Told i = MakesIn (value_kind f) i × Passes (either (calls_otherwise m) extra) (OfInstr i)

  fresh_now : (n v : ℕ) → low ≤ n → (v ≡ n) ⊎ (v ≡ n + 1) → Some Kind.Ptr ≡ K v
  fresh_now n v a (inl e) = sym (kinds.fresh v (let same : v ≡ n = e in omega (arith, a, same)))
  fresh_now n v a (inr e) = sym (kinds.fresh v (let same : v ≡ n + 1 = e in omega (arith, a, same)))

  module _ (n : ℕ) (a : low ≤ n) (p : Place) (x : Intrinsic) (r : Option ℕ) (must_tail : Bool) (ty : Option Ty) (args : List Arg) (own : extra p (OfInstr (Instr.Call r must_tail ty (Callee.Intrinsic x) args)) ≡ false) (made : (q : ℕ) → r ≡ Some q → Some (result_kind (Callee.Intrinsic x) ty) ≡ value_kind f q) where
    of_result : (v q : ℕ) (kind : Kind) → r ≡ Some v → result_kind (Callee.Intrinsic x) ty ≡ kind → Some v ≡ Some q → Some kind ≡ K q
    of_result v q kind e d same = old_same q kind (ap (λ (t : Kind). Some t) (sym d) ∙ made q (e ∙ same))

    put_makes : (j : Instr) → Replaces s part n x r ty args j → MakesIn K j
    put_makes _ (Number v w z b c d e) q same = of_result v q (Kind.Int w) b c same
    put_makes _ (Truth v b c d) q same = of_result v q (Kind.Int 1) c d same
    put_makes _ (Address v y z (OfResult _ b c) d e) q same = of_result v q Kind.Ptr b c same
    put_makes _ (Address _ y z (OfFrame b) d e) q same =
        let is : s.begin ≡ q = cc in
        sym (kinds.frame p r must_tail ty x args own (ap is_inner b)) ∙ ap K is
    put_makes _ (Address _ y z New d e) q same = let is : n ≡ q = cc in fresh_now n n a (inl refl) ∙ ap K is
    put_makes _ (StoresResume y b c) q same = absurd (cc)
    put_makes _ (StoresDestroy y b c) q same = absurd (cc)
    put_makes _ (StoresCleanup y b c d) q same = absurd (cc)
    put_makes _ (StoresNull y b) q same = absurd (cc)
    put_makes _ (StoresIndex j y b c) q same = absurd (cc)
    put_makes _ (Loads v y b c) q same = let is : v ≡ q = cc in fresh_now n v a b ∙ ap K is
    put_makes _ (Calls v y b c) q same = absurd (cc)
    put_makes _ (Tests v b c) q same = of_result v q (Kind.Int 1) b c same

  instr_makes : (n : ℕ) (i : Instr) → low ≤ n → Told i → Each (MakesIn K) (lowered s part n i)
  instr_makes n i a told = on (lowers m s part saves n told.1.0 i (first_no (calls_otherwise m told.1.0 (OfInstr i)) (extra told.1.0 (OfInstr i)) told.1.1))
    where
      on : Lowers s part n i → Each (MakesIn K) (lowered s part n i)
      on (Same d) = subst (Each (MakesIn K)) (sym d) ((λ q e. old_same q (kind_made_by i) (told.0 q e)), tt)
      on (Replaced x r must_tail ty args d put) =
          let own : extra told.1.0 (OfInstr (Instr.Call r must_tail ty (Callee.Intrinsic x) args)) ≡ false = ap (λ (j : Instr). extra told.1.0 (OfInstr j)) (sym d) ∙ second_no (calls_otherwise m told.1.0 (OfInstr i)) (extra told.1.0 (OfInstr i)) told.1.1 in
          let made : MakesIn (value_kind f) (Instr.Call r must_tail ty (Callee.Intrinsic x) args) = subst (MakesIn (value_kind f)) d told.0 in
          each_turns (Replaces s part n x r ty args) (MakesIn K) (put_makes n a told.1.0 x r must_tail ty args own made) (lowered s part n i) put

  pub kinds_become : Becomes s part low (PhiMakesIn (value_kind f)) (PhiMakesIn K) Told (MakesIn K) (λ (t : Terminator). Unit {0}) (λ (t : Terminator). Unit {0})
  kinds_become =
      record {
        phi = λ x y of h. ap (λ (t : Ty). Some (kind_of t)) of.ty ∙ old_same x.result (kind_of x.ty) h ∙ sym (ap K of.result);
        instr = λ n i a again h. instr_makes n i a h;
        ending = λ t h. tt;
        ends = record { jump = λ l. tt; return = λ e. tt; stop = tt };
        index = λ e. (
          (λ q same. let is : slot_name s ≡ q = cc in sym (kinds.slot e) ∙ ap K is),
          ((λ q same. let is : index_name s ≡ q = cc in sym (kinds.index e) ∙ ap K is), tt),
        );
        switch = λ e flags. tt;
      }
