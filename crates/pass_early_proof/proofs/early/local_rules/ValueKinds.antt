-- What the values of a function are, where each is defined once, and that they stay where the pass adds others.
use Rattle.std.proofs.Common.{◌≡◌, inl, inr, ℕ, ◌+◌, ◌<◌, Bool, true, false, List, [], ◌∷◌, ◌++◌, length, refl, sym, ap, ◌∙◌, subst, arith}
use Rattle.std.specs.Prelude.{None, Option, Some, map, option_to_list, ◌==◌, if◌then◌else◌}
use Rattle.rule_laws.specs.rule_uses.Undefined.{params_of}
use Rattle.rule_laws.proofs.rules.renamed.Uses.{result_spelt}
use Rattle.rule_laws.proofs.ir_laws.paths.renamed.Uses.{stands_in}
use Rattle.pass_early_proof.proofs.early.local_rules.Names.{Unnamed, unnamed_in}
use Rattle.rule_laws.proofs.ir_laws.facts.Options.{left_none, right_none}
use Rattle.rule_laws.proofs.rules.local_rules.Names.{numbers}
use Rattle.pass_early.specs.BeginName.{begin_named, named_block, named_instr}
use Rattle.pass_early.specs.Early.{after_instrs, after_one, early_blocks, early_coroutine, early_instrs, is_unsaved, save_call, saved}
use Rattle.pass_early.specs.Renaming.{renamed_instr, renamed_phi, renamed_value}
use Rattle.pass_early.specs.declared.renaming.Renaming.{Renaming}
use Rattle.rule_laws.proofs.ir_laws.paths.source_rules.Locals.{Apart, in_row, listed_right}
use Rattle.rule_laws.proofs.rules.source_rules.Locals.{block_names, made_by}
use Rattle.rule_laws.proofs.ir_laws.facts.Lists.{phi_names, row_of}
use Rattle.rule_laws.specs.flow_solver.Paths.{IsListed}
use Rattle.ir_model.specs.Calls.{first_result, first_result_by, first_result_in}
use Rattle.ir_model.specs.Ty.{Ty}
use Rattle.ir_model.specs.declared.instr.Instr.{Instr}
use Rattle.ir_model.specs.declared.instr.Phi.{Phi}
use Rattle.ir_model.specs.declared.module.Block.{Block}
use Rattle.ir_model.specs.declared.module.Function.{Function}
use Rattle.ir_model.specs.declared.operand.Callee.{Callee}
use Rattle.ir_model.specs.declared.operand.Intrinsic.{Intrinsic}
use Rattle.rule_laws.specs.ir_paths.Windows.{instr_at}
use Rattle.rule_laws.specs.ir_paths.declared.point.Point.{Point}
use Rattle.rule_laws.specs.ir_locals.Tables.{first_in, or_first}
use Rattle.rule_laws.specs.run_laws.changed.Changed.{Each, result_of}
use Rattle.rule_laws.specs.rule_values.Kinds.{block_kind, call_kind, instr_kind, param_kind, phi_kind, result_kind, value_kind}
use Rattle.rule_laws.specs.rule_values.declared.kinds.Kind.{Kind}
use Rattle.rule_laws.proofs.rules.local_rules.Rows.{apart_at, apart_both, apart_right, one_in_row}
use Rattle.rule_laws.proofs.rules.local_rules.ValueKinds.{block_none, instr_none, kind_if_none, params_none, phis_none}

made_listed : (i : Instr) (n : ℕ) → result_of i ≡ Some n → IsListed n (made_by i)
made_listed i n e = subst (λ (o : Option ℕ). IsListed n (option_to_list o)) (sym (result_spelt i ∙ e)) (inl refl)

-- the kind of what an instruction makes
pub kind_made : (f : Function) → Apart (numbers f) → (p : Point) (i : Instr) (n : ℕ) → instr_at f p ≡ Some i → result_of i ≡ Some n → value_kind f n ≡ instr_kind i n
kind_made f apart p i n e makes =
    let x = stands_in f p i e in
    let b : Block = x.block in
    let made : IsListed n (row_of made_by b.instrs) = in_row made_by b.instrs p.at n i x.stands (made_listed i n makes) in
    let in_block : IsListed n (block_names b) = inr (listed_right n (phi_names b.phis) (row_of made_by b.instrs) made) in
    let in_blocks : IsListed n (row_of block_names f.blocks) = in_row block_names f.blocks p.block n b x.got in_block in
    let blocks : Apart (row_of block_names f.blocks) = apart_right (params_of f) (row_of block_names f.blocks) apart in
    let own : Apart (phi_names b.phis ++ row_of made_by b.instrs) = (apart_at block_names f.blocks p.block b x.got blocks).1 in
    ap (λ (o : Option Kind). or_first o (first_in block_kind f.blocks n)) (params_none n f.params (λ l. apart_both (params_of f) (row_of block_names f.blocks) n apart l in_blocks))
    ∙ one_in_row block_kind block_names n (block_none n) f.blocks blocks p.block b x.got in_block
    ∙ ap (λ (o : Option Kind). or_first o (first_in instr_kind b.instrs n)) (phis_none n b.phis (λ l. apart_both (phi_names b.phis) (row_of made_by b.instrs) n own l made))
    ∙ one_in_row instr_kind made_by n (instr_none n) b.instrs (apart_right (phi_names b.phis) (row_of made_by b.instrs) own) p.at i x.stands (made_listed i n makes)

-- ---- a begin gets a name

module _ (n v : ℕ) (other : (n == v) ≡ false) where
  named_kind : (i : Instr) → Unnamed i → instr_kind (named_instr n i) v ≡ instr_kind i v
  named_kind (Instr.Call result must_tail ty (Callee.Intrinsic Intrinsic.CoroBegin) args) e =
      let kind : Kind = result_kind (Callee.Intrinsic Intrinsic.CoroBegin) ty in
      ap (λ (b : Bool). if b then Some kind else None) other ∙ sym (ap (λ (o : Option ℕ). call_kind o kind v) e)
  named_kind _ e = refl

  named_instrs_kind : (is : List Instr) → Each Unnamed is → first_in instr_kind (map (named_instr n) is) v ≡ first_in instr_kind is v
  named_instrs_kind [] h = refl
  named_instrs_kind (i ∷ is) h = λ k. or_first (named_kind i h.0 k) (named_instrs_kind is h.1 k)

  named_blocks_kind : (bs : List Block) → first_result_by Intrinsic.CoroBegin bs ≡ None → first_in block_kind (map (named_block n) bs) v ≡ first_in block_kind bs v
  named_blocks_kind [] e = refl
  named_blocks_kind (b ∷ bs) e =
      let here : Each Unnamed b.instrs = unnamed_in b.instrs (left_none (first_result_in Intrinsic.CoroBegin b.instrs) (first_result_by Intrinsic.CoroBegin bs) e) in
      let rest : first_result_by Intrinsic.CoroBegin bs ≡ None = right_none (first_result_in Intrinsic.CoroBegin b.instrs) (first_result_by Intrinsic.CoroBegin bs) e in
      λ k. or_first (or_first (first_in phi_kind b.phis v) (named_instrs_kind b.instrs here k)) (named_blocks_kind bs rest k)

pub named_value_kind : (f : Function) (v : ℕ) → (length f.names == v) ≡ false → first_result Intrinsic.CoroBegin f ≡ None → value_kind (begin_named f) v ≡ value_kind f v
named_value_kind f v other none = ap (or_first (first_in param_kind f.params v)) (named_blocks_kind (length f.names) v other f.blocks none)

-- ---- operands are renamed, and saves are written

module _ (r : Renaming) (v : ℕ) where
  local_kind : (w x : ℕ) (ty : Option Ty) → result_kind (Callee.Local w) ty ≡ result_kind (Callee.Local x) ty
  local_kind w x None = refl
  local_kind w x (Some t) = refl

  renamed_kind : (i : Instr) → instr_kind (renamed_instr r i) v ≡ instr_kind i v
  renamed_kind (Instr.Call result must_tail ty (Callee.Named name) args) = refl
  renamed_kind (Instr.Call result must_tail ty (Callee.Allocator a) args) = refl
  renamed_kind (Instr.Call result must_tail ty (Callee.Intrinsic j) args) = refl
  renamed_kind (Instr.Call result must_tail ty (Callee.Local w) args) = ap (λ (kind : Kind). call_kind result kind v) (local_kind (renamed_value r w) w ty)
  renamed_kind _ = refl

  saved_kind : (n : ℕ) (i : Instr) → instr_kind (saved n i) v ≡ instr_kind i v
  saved_kind n (Instr.Call result must_tail ty callee args) = refl
  saved_kind n _ = refl

  one_kind : (b : Bool) (k : ℕ) (i : Instr) (rest : List Instr) → v < k → first_in instr_kind ((if b then save_call k ∷ saved k (renamed_instr r i) ∷ [] else renamed_instr r i ∷ []) ++ rest) v ≡ or_first (instr_kind i v) (first_in instr_kind rest v)
  one_kind true k i rest lt =
      ap (λ (o : Option Kind). or_first o (or_first (instr_kind (saved k (renamed_instr r i)) v) (first_in instr_kind rest v))) (kind_if_none k v Kind.Saved (λ e. omega (arith, e, lt)))
      ∙ ap (λ (o : Option Kind). or_first o (first_in instr_kind rest v)) (saved_kind k (renamed_instr r i) ∙ renamed_kind i)
  one_kind false k i rest lt = ap (λ (o : Option Kind). or_first o (first_in instr_kind rest v)) (renamed_kind i)

  below_next : (b : Bool) (k : ℕ) → v < k → v < (if b then k + 1 else k)
  below_next true k lt = omega (arith, lt)
  below_next false k lt = lt

  below_all : (k : ℕ) (is : List Instr) → v < k → v < after_instrs r k is
  below_all k [] lt = lt
  below_all k (i ∷ is) lt = below_all (after_one k (renamed_instr r i)) is (below_next (is_unsaved (renamed_instr r i)) k lt)

  instrs_kind : (k : ℕ) (is : List Instr) → v < k → first_in instr_kind (early_instrs r k is) v ≡ first_in instr_kind is v
  instrs_kind k [] lt = refl
  instrs_kind k (i ∷ is) lt =
      let j : Instr = renamed_instr r i in
      one_kind (is_unsaved j) k i (early_instrs r (after_one k j) is) lt
      ∙ ap (or_first (instr_kind i v)) (instrs_kind (after_one k j) is (below_next (is_unsaved j) k lt))

  phis_kind : (ps : List Phi) → first_in phi_kind (map (renamed_phi r) ps) v ≡ first_in phi_kind ps v
  phis_kind [] = refl
  phis_kind (p ∷ ps) = ap (or_first (phi_kind p v)) (phis_kind ps)

  blocks_kind : (k : ℕ) (bs : List Block) → v < k → first_in block_kind (early_blocks r k bs) v ≡ first_in block_kind bs v
  blocks_kind k [] lt = refl
  blocks_kind k (b ∷ bs) lt = λ j. or_first (or_first (phis_kind b.phis j) (instrs_kind k b.instrs lt j)) (blocks_kind (after_instrs r k b.instrs) bs (below_all k b.instrs lt) j)

  pub saved_value_kind : (f : Function) → v < length f.names → value_kind (early_coroutine f r) v ≡ value_kind f v
  saved_value_kind f lt = ap (or_first (first_in param_kind f.params v)) (blocks_kind (length f.names) f.blocks lt)
