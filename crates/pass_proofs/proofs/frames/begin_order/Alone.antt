-- In a coroutine that breaks no rule there is one begin, which alone makes its value, a pointer.
use Rattle.std.proofs.Common.{◌≡◌, inl, inr, ℕ, suc, ◌≤◌, Bool, true, List, [], ◌∷◌, refl, sym, ap, ◌∙◌, subst}
use Rattle.std.specs.Prelude.{None, Option, Some, slice_get, ◌&&◌, if◌then◌else◌}
use Rattle.pass_exits_proof.specs.rule_shape.OneOfEach.{wrong_call}
use Rattle.pass_exits_proof.proofs.ir_laws.facts.Members.{at_each}
use Rattle.pass_exits_proof.proofs.ir_laws.facts.Truth.{itself, and_first, holds}
use Rattle.pass_exits_proof.proofs.rule_laws.rules.local_rules.Names.{numbers}
use Rattle.pass_exits_proof.proofs.rule_laws.rules.local_rules.Woven.{apart_names}
use Rattle.pass_exits_proof.proofs.ir_laws.paths.source_rules.Locals.{Apart}
use Rattle.pass_exits_proof.proofs.rule_laws.rules.source_rules.Locals.{names_are, same_instr}
use Rattle.pass_exits_proof.proofs.rule_laws.rules.source_rules.Once.{one_begin}
use Rattle.pass_exits_proof.specs.flow_solver.Paths.{IsListed}
use Rattle.pass_exits_proof.specs.ir_parts.Contents.{result_of}
use Rattle.pass_exits_proof.specs.ir_parts.Locals.{locals_of}
use Rattle.pass_exits_proof.specs.ir_parts.Parts.{OfInstr}
use Rattle.pass_exits_proof.specs.rule_laws.rules.function_rules.Kept.{KeepsFunctionRules}
use Rattle.ir_model.specs.Calls.{first_result, first_result_by, first_result_in, or_else, result_of_call}
use Rattle.ir_model.specs.Ty.{Ty, ptr}
use Rattle.ir_model.specs.declared.instr.Instr.{Instr}
use Rattle.ir_model.specs.declared.module.Block.{Block}
use Rattle.ir_model.specs.declared.module.Function.{Function}
use Rattle.ir_model.specs.declared.module.Module.{Module}
use Rattle.ir_model.specs.declared.operand.Callee.{Callee}
use Rattle.ir_model.specs.declared.operand.Intrinsic.{Intrinsic}
use Rattle.pass_exits_proof.specs.ir_paths.Windows.{instr_at, instr_in, is_call_of}
use Rattle.pass_exits_proof.specs.ir_paths.declared.point.Point.{Point}
use Rattle.pass_frames.specs.Framed.{is_begin}
use Rattle.pass_exits_proof.specs.rule_types.Signatures.{are_wanted, calls_otherwise, is_result}
use Rattle.pass_exits_proof.specs.rule_types.Wants.{intrinsic_params, intrinsic_result}
use Rattle.pass_exits_proof.specs.rule_values.Kinds.{call_kind, instr_kind, result_kind, value_kind}
use Rattle.pass_exits_proof.specs.rule_values.declared.kinds.Kind.{Kind}
use Rattle.pass_exits_proof.proofs.rule_laws.rules.woven_rules.Once.{apart_once}
use Rattle.pass_exits_proof.proofs.rule_laws.rules.woven_rules.Told.{value_told}
use Rattle.pass_exits_proof.proofs.rule_laws.rules.woven_rules.Unbroken.{Passes, PassesIn, all_pass}
use Rattle.pass_exits_proof.proofs.ir_laws.paths.woven_rules.Unbroken.{of_listed}
use Rattle.pass_exits_proof.specs.ir_laws.facts.woven_rules.Pairs.{times}
use Rattle.pass_exits_proof.proofs.ir_laws.paths.begin_order.Framed.{get_listed as listed_from}

-- ---- begins

begin_called : (i : Instr) → is_begin i ≡ true → is_call_of Intrinsic.CoroBegin i ≡ true
begin_called (Instr.Call r must_tail ty (Callee.Intrinsic Intrinsic.CoroBegin) args) e = refl
begin_called _ e = absurd (cc)

called_begin : (i : Instr) (v : ℕ) → result_of_call Intrinsic.CoroBegin i ≡ Some v → (is_begin i ≡ true) × (result_of i ≡ Some v)
called_begin (Instr.Call r must_tail ty (Callee.Intrinsic Intrinsic.CoroBegin) args) v e = (refl, e)
called_begin _ v e = absurd (cc)

-- the first begin with a result
record IsFirstBegin (is : List Instr) (v : ℕ) : Type 0 where
  at : ℕ
  instr : Instr
  there : slice_get is at ≡ Some instr
  begins : is_begin instr ≡ true
  makes : result_of instr ≡ Some v

first_in : (is : List Instr) (v : ℕ) → first_result_in Intrinsic.CoroBegin is ≡ Some v → IsFirstBegin is v
first_in [] v e = absurd (cc)
first_in (i ∷ is) v e = on (result_of_call Intrinsic.CoroBegin i) refl e (first_in is v)
  where
    on : (o : Option ℕ) → result_of_call Intrinsic.CoroBegin i ≡ o → or_else o (first_result_in Intrinsic.CoroBegin is) ≡ Some v → (first_result_in Intrinsic.CoroBegin is ≡ Some v → IsFirstBegin is v) → IsFirstBegin (i ∷ is) v
    on None d h rest = let x = rest h in record { at = suc x.at; instr = x.instr; there = x.there; begins = x.begins; makes = x.makes }
    on (Some n) d h rest = let x = called_begin i v (d ∙ h) in record { at = 0; instr = i; there = refl; begins = x.0; makes = x.1 }

record IsFirstBeginOf (bs : List Block) (v : ℕ) : Type 0 where
  block : ℕ
  owner : Block
  got : slice_get bs block ≡ Some owner
  first : IsFirstBegin owner.instrs v

first_by : (bs : List Block) (v : ℕ) → first_result_by Intrinsic.CoroBegin bs ≡ Some v → IsFirstBeginOf bs v
first_by [] v e = absurd (cc)
first_by (b ∷ bs) v e = on (first_result_in Intrinsic.CoroBegin b.instrs) refl e (first_by bs v)
  where
    on : (o : Option ℕ) → first_result_in Intrinsic.CoroBegin b.instrs ≡ o → or_else o (first_result_by Intrinsic.CoroBegin bs) ≡ Some v → (first_result_by Intrinsic.CoroBegin bs ≡ Some v → IsFirstBeginOf bs v) → IsFirstBeginOf (b ∷ bs) v
    on None d h rest = let x = rest h in record { block = suc x.block; owner = x.owner; got = x.got; first = x.first }
    on (Some n) d h rest = record { block = 0; owner = b; got = refl; first = first_in b.instrs v (d ∙ h) }

listed_at : (xs : List Instr) (x : Instr) → IsListed x xs → (n : ℕ) × (slice_get xs n ≡ Some x)
listed_at [] x l = absurd l
listed_at (y ∷ xs) x (inl e) = (0, ap (λ (z : Instr). Some z) (sym e))
listed_at (y ∷ xs) x (inr l) = let n = listed_at xs x l in (suc n.0, n.1)

-- ---- what begin makes

pointer_kind : (v : ℕ) (r : Option ℕ) (ty : Option Ty) → is_result (intrinsic_result Intrinsic.CoroBegin) ty ≡ true → r ≡ Some v → call_kind r (result_kind (Callee.Intrinsic Intrinsic.CoroBegin) ty) v ≡ Some Kind.Ptr
pointer_kind v r None e d = absurd (cc)
pointer_kind v r (Some ptr) e d = ap (λ (o : Option ℕ). call_kind o Kind.Ptr v) d ∙ ap (λ (b : Bool). if b then Some Kind.Ptr else None) (itself v)
pointer_kind v r (Some _) e d = absurd (cc)

begin_kind : (m : Module) (i : Instr) (v : ℕ) → is_begin i ≡ true → result_of i ≡ Some v → Passes (calls_otherwise m) (OfInstr i) → instr_kind i v ≡ Some Kind.Ptr
begin_kind m (Instr.Call r must_tail ty (Callee.Intrinsic Intrinsic.CoroBegin) args) v e d h =
    let result : Bool = is_result (intrinsic_result Intrinsic.CoroBegin) ty in
    let wanted : Bool = are_wanted (intrinsic_params Intrinsic.CoroBegin) args in
    pointer_kind v r ty (and_first result wanted (holds (result && wanted) h.1)) d
begin_kind m _ v e d h = absurd (cc)

module _ (m : Module) (k : ℕ) (f : Function) (begin : ℕ) (keeps : KeepsFunctionRules m k f) (coroutine : f.coroutine ≡ true) (calls : wrong_call k f ≡ None) (first : first_result Intrinsic.CoroBegin f ≡ Some begin) where
  the_first : IsFirstBeginOf f.blocks begin
  the_first = first_by f.blocks begin first

  stands : (at n : ℕ) (b : Block) (i : Instr) → slice_get f.blocks at ≡ Some b → slice_get b.instrs n ≡ Some i → instr_at f (record { block = at; at = n }) ≡ Some i
  stands at n b i e d = ap (λ (o : Option Block). instr_in o n) e ∙ d

  first_stands : instr_at f (record { block = the_first.block; at = the_first.first.at }) ≡ Some the_first.first.instr
  first_stands = stands the_first.block the_first.first.at the_first.owner the_first.first.instr the_first.got the_first.first.there

  pub begins_named : (at : ℕ) (b : Block) (i : Instr) → slice_get f.blocks at ≡ Some b → IsListed i b.instrs → is_begin i ≡ true → result_of i ≡ Some begin
  begins_named at b i e l d =
      let n = listed_at b.instrs i l in
      let p : Point = record { block = at; at = n.0 } in
      let q : Point = record { block = the_first.block; at = the_first.first.at } in
      let there : instr_at f p ≡ Some i = stands at n.0 b i e n.1 in
      let one : p ≡ q = one_begin k f coroutine calls p q i the_first.first.instr there first_stands (begin_called i d) (begin_called the_first.first.instr the_first.first.begins) in
      let both : Some i ≡ Some the_first.first.instr = sym there ∙ ap (instr_at f) one ∙ first_stands in
      let same : i ≡ the_first.first.instr = cc in
      ap result_of same ∙ the_first.first.makes

  pub begins_alone : (at : ℕ) (b : Block) (i : Instr) → slice_get f.blocks at ≡ Some b → IsListed i b.instrs → result_of i ≡ Some begin → is_begin i ≡ true
  begins_alone at b i e l d =
      let n = listed_at b.instrs i l in
      let p : Point = record { block = at; at = n.0 } in
      let q : Point = record { block = the_first.block; at = the_first.first.at } in
      let same : i ≡ the_first.first.instr = same_instr k f keeps.definitions p q i the_first.first.instr begin (stands at n.0 b i e n.1) first_stands d the_first.first.makes in
      ap is_begin same ∙ the_first.first.begins

  names_once : (n : ℕ) → times n (numbers f) ≤ 1
  names_once = apart_once (numbers f) (subst Apart (names_are k f) (apart_names [] (locals_of k f) keeps.definitions))

  pub begin_pointer : value_kind f begin ≡ Some Kind.Ptr
  begin_pointer =
      let x = the_first in
      let passes = at_each (PassesIn (calls_otherwise m)) f.blocks x.block x.owner (all_pass (calls_otherwise m) k f keeps.calls) x.got in
      let l : IsListed x.first.instr x.owner.instrs = listed_from x.owner.instrs x.first.at x.first.instr x.first.there in
      value_told begin f (names_once begin) x.block x.owner x.first.instr x.got l x.first.makes
      ∙ begin_kind m x.first.instr begin x.first.begins x.first.makes (of_listed (λ (i : Instr). Passes (calls_otherwise m) (OfInstr i)) x.owner.instrs passes.of_instrs x.first.instr l)
