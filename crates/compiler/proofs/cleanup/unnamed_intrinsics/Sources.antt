-- The functions of a source that breaks no rule: their operands are no functions' addresses (P1), and their calls are as the table of intrinsics says.
use Rattle.std.proofs.Common.{◌≡◌, ℕ, suc, ◌+◌, Bool, true, false, List, [], ◌∷◌, ◌++◌, length, refl, sym, ap, ◌∙◌, subst}
use Rattle.std.specs.List.{list_all}
use Rattle.std.specs.Prelude.{None, Option, Some, codes, is_some, not, option_map, slice_get, if◌then◌else◌}
use Rattle.compiler.specs.cleanup.rules.Clean.{calls_left, is_left_callee}
use Rattle.ir_base.specs.declared.name.Name.{Name}
use Rattle.ir_base.specs.declared.outcome.Place.{Place}
use Rattle.pass_cleanup.specs.Cleanup.{is_kept_callee}
use Rattle.pass_proofs.proofs.rule_laws.rules.local_rules.Accepted.{accepted_breaks_none}
use Rattle.pass_proofs.proofs.rule_laws.rules.local_rules.Carried.{Passing, none_of, passing}
use Rattle.pass_proofs.proofs.ir_laws.facts.Members.{each_joined, each_left, each_right}
use Rattle.pass_proofs.proofs.ir_laws.facts.Truth.{and_both, and_first, and_second, holds, first_no as or_first_out, second_no as or_second_out}
use Rattle.pass_proofs.proofs.rule_laws.rules.source_rules.Shaped.{function_shaped}
use Rattle.pass_proofs.specs.ir_parts.Contents.{part_operands}
use Rattle.pass_proofs.specs.ir_parts.Parts.{Ending, OfInstr, OfPhi, Part, block_parts, blocks_parts, instr_parts, instr_place, parts_of, phi_parts}
use Rattle.pass_proofs.specs.rule_all.Refused.{IsRefused}
use Rattle.ir_model.specs.Names.{first_where, global_named, same_name, same_text}
use Rattle.ir_model.specs.Table.{all_allocators, all_intrinsics, allocator_in, callee_named, callee_or, intrinsic_in, intrinsic_word}
use Rattle.ir_model.specs.declared.instr.Instr.{Instr}
use Rattle.ir_model.specs.declared.instr.Phi.{Phi}
use Rattle.ir_model.specs.declared.module.Block.{Block}
use Rattle.ir_model.specs.declared.module.Function.{Function}
use Rattle.ir_model.specs.declared.module.GlobalItem.{GlobalItem}
use Rattle.ir_model.specs.declared.module.Module.{Module}
use Rattle.ir_model.specs.declared.operand.Allocator.{Allocator}
use Rattle.ir_model.specs.declared.operand.Callee.{Callee}
use Rattle.ir_model.specs.declared.operand.Intrinsic.{Intrinsic}
use Rattle.ir_model.specs.declared.operand.Operand.{Operand}
use Rattle.pass_proofs.specs.rule_locals.Addresses.{calls_indirectly, first_function_pointer, is_no_function, points_to_functions}
use Rattle.pass_proofs.proofs.ir_tables.Tables.{same_name-same, same_text-same}
use Rattle.pass_proofs.specs.rule_names.Reserved.{begins_with, is_allocator, is_part, is_reserved}
use Rattle.pass_proofs.specs.rule_names.declared.stage.Stage.{Stage}
use Rattle.pass_proofs.specs.rule_laws.rules.plain_rules.Items.{KeepsItemRules}
use Rattle.compiler.proofs.cleanup.unnamed_intrinsics.Early.{named_by}
use Rattle.compiler.specs.cleanup.unnamed_intrinsics.Unnamed.{NamesNoIntrinsic, is_no_intrinsic, names_intrinsic}
use Rattle.text_canonical.specs.order.Shape as shape

-- what a search finds
first_found : {A : Type 0} (t : A → Bool) (xs : List A) (k : ℕ) → first_where t xs ≡ Some k → (x : A) × (slice_get xs k ≡ Some x) × (t x ≡ true)
first_found t [] k e = absurd (cc)
first_found {A} t (x ∷ xs) k e = on (t x) refl e (first_found t xs)
  where
    later : (o : Option ℕ) → option_map suc o ≡ Some k → first_where t xs ≡ o → ((j : ℕ) → first_where t xs ≡ Some j → (y : A) × (slice_get xs j ≡ Some y) × (t y ≡ true)) → (y : A) × (slice_get (x ∷ xs) k ≡ Some y) × (t y ≡ true)
    later None h there rest = absurd (cc)
    later (Some j) h there rest =
        let next : suc j ≡ k = cc in
        subst (λ (n : ℕ). (y : A) × (slice_get (x ∷ xs) n ≡ Some y) × (t y ≡ true)) next (rest j there)

    on : (b : Bool) → t x ≡ b → (if b then Some 0 else option_map suc (first_where t xs)) ≡ Some k → ((j : ℕ) → first_where t xs ≡ Some j → (y : A) × (slice_get xs j ≡ Some y) × (t y ≡ true)) → (y : A) × (slice_get (x ∷ xs) k ≡ Some y) × (t y ≡ true)
    on true here h rest =
        let first : 0 ≡ k = cc in
        subst (λ (n : ℕ). (y : A) × (slice_get (x ∷ xs) n ≡ Some y) × (t y ≡ true)) first (x, refl, here)
    on false here h rest = later (first_where t xs) h refl rest

-- ---- a name that isn't reserved is no intrinsic's

abbrev llvm : List ℕ
llvm = codes "llvm."

abbrev begins : Intrinsic → Bool
begins i = begins_with llvm (intrinsic_word i)

none_named : (all : List Intrinsic) (t : List ℕ) → begins_with llvm t ≡ false → list_all begins all ≡ true → intrinsic_in all t ≡ None
none_named [] t e h = refl
none_named (i ∷ rest) t e h = on (same_text t (intrinsic_word i)) refl (none_named rest t e (and_second (begins i) (list_all begins rest) h))
  where
    on : (b : Bool) → same_text t (intrinsic_word i) ≡ b → intrinsic_in rest t ≡ None → (if b then Some i else intrinsic_in rest t) ≡ None
    on true same none =
        let it : t ≡ intrinsic_word i = same_text-same t (intrinsic_word i) same in
        let bad : false ≡ true = sym e ∙ ap (begins_with llvm) it ∙ and_first (begins i) (list_all begins rest) h in
        absurd (cc)
    on false same none = none

all_begin : list_all begins all_intrinsics ≡ true
all_begin = refl

pub free_name : (n : Name) → is_reserved n ≡ false → is_kept_callee (callee_named n) ≡ true
free_name (Name.Number n) e = refl
free_name (Name.Text t) e =
    ap (λ (o : Option Intrinsic). is_kept_callee (callee_or (Name.Text t) o (allocator_in all_allocators t))) (none_named all_intrinsics t (or_second_out (is_allocator (callee_named (Name.Text t))) (begins_with llvm t) e) all_begin)
    ∙ on (allocator_in all_allocators t)
  where
    on : (o : Option Allocator) → is_kept_callee (callee_or (Name.Text t) None o) ≡ true
    on None = refl
    on (Some a) = refl

-- ---- globals have names of their own

module _ (m : Module) (items : KeepsItemRules Stage.Source m) where
  named_global : (n : Name) → is_some (global_named m n) ≡ true → is_kept_callee (callee_named n) ≡ true
  named_global n e = on (global_named m n) refl e
    where
      on : (o : Option ℕ) → global_named m n ≡ o → is_some o ≡ true → is_kept_callee (callee_named n) ≡ true
      on None there h = absurd (cc)
      on (Some k) there h =
          let g = first_found (λ (x : GlobalItem). same_name x.name n) m.globals k there in
          let same : g.0.name ≡ n = same_name-same g.0.name n g.2 in
          subst (λ (x : Name). is_kept_callee (callee_named x) ≡ true) same
          (free_name g.0.name (or_first_out (is_reserved g.0.name) (is_part m g.0.name) (items.reserved.globals k g.0 g.1)))

  operand_free : (x : Operand) → is_no_function m x ≡ true → is_no_intrinsic x ≡ true
  operand_free (Operand.Global n) e = named_global n e
  operand_free _ e = refl

  operands_free : (xs : List Operand) → list_all (is_no_function m) xs ≡ true → list_all is_no_intrinsic xs ≡ true
  operands_free [] e = refl
  operands_free (x ∷ xs) e =
      and_both (is_no_intrinsic x) (list_all is_no_intrinsic xs) (operand_free x (and_first (is_no_function m x) (list_all (is_no_function m) xs) e)) (operands_free xs (and_second (is_no_function m x) (list_all (is_no_function m) xs) e))

  -- what P1 gives of a part
  part_free : (p : Place) (x : Part) → points_to_functions m p x ≡ false → calls_left x ≡ true → names_intrinsic p x ≡ false
  part_free p x e c = named_by p x (operands_free (part_operands x) (holds (list_all (is_no_function m) (part_operands x)) (or_first_out (not (list_all (is_no_function m) (part_operands x))) (calls_indirectly x) e))) c

  callee_free : (names : List Name) (c : Callee) → shape.IsCallee names c → is_left_callee c ≡ true
  callee_free names (Callee.Named n) h = sym (ap is_kept_callee h)
  callee_free names (Callee.Local v) h = refl
  callee_free names (Callee.Intrinsic x) h = refl
  callee_free names (Callee.Allocator a) h = refl

  instr_free : (names : List Name) (i : Instr) → shape.IsInstr names i → calls_left (OfInstr i) ≡ true
  instr_free names (Instr.Call r must_tail ty callee args) h = callee_free names callee h.2
  instr_free names _ h = refl

  phis_free : (func block at : ℕ) (ps : List Phi) → Passing (points_to_functions m) (phi_parts func block at ps) → Passing names_intrinsic (phi_parts func block at ps)
  phis_free func block at [] h = tt
  phis_free func block at (p ∷ ps) h = (part_free (instr_place func block at) (OfPhi p) h.0 refl, phis_free func block (at + 1) ps h.1)

  instrs_free : (names : List Name) (func block at : ℕ) (is : List Instr) → shape.Each (shape.IsInstr names) is → Passing (points_to_functions m) (instr_parts func block at is) → Passing names_intrinsic (instr_parts func block at is)
  instrs_free names func block at [] s h = tt
  instrs_free names func block at (i ∷ is) s h = (part_free (instr_place func block at) (OfInstr i) h.0 (instr_free names i s.0), instrs_free names func block (at + 1) is s.1 h.1)

  block_free : (names : List Name) (func block : ℕ) (b : Block) → shape.IsBlock names b → Passing (points_to_functions m) (block_parts func block b) → Passing names_intrinsic (block_parts func block b)
  unfolding block_parts
  block_free names func block b s h =
      let P : Place × Part → Type 0 = λ x. points_to_functions m x.0 x.1 ≡ false in
      let Q : Place × Part → Type 0 = λ x. names_intrinsic x.0 x.1 ≡ false in
      let phis : List (Place × Part) = phi_parts func block 0 b.phis in
      let instrs : List (Place × Part) = instr_parts func block (length b.phis) b.instrs in
      let last : Place = instr_place func block (length b.phis + length b.instrs) in
      let behind : Passing (points_to_functions m) (instrs ++ (last, Ending b.term) ∷ []) = each_right P phis (instrs ++ (last, Ending b.term) ∷ []) h.1 in (
        refl,
        each_joined Q phis (instrs ++ (last, Ending b.term) ∷ []) (phis_free func block 0 b.phis (each_left P phis (instrs ++ (last, Ending b.term) ∷ []) h.1))
            (each_joined Q instrs ((last, Ending b.term) ∷ []) (instrs_free names func block (length b.phis) b.instrs s.2 (each_left P instrs ((last, Ending b.term) ∷ []) behind))
            (part_free last (Ending b.term) (each_right P instrs ((last, Ending b.term) ∷ []) behind).0 refl, tt)),
      )

  blocks_free : (names : List Name) (func block : ℕ) (bs : List Block) → shape.Each (shape.IsBlock names) bs → Passing (points_to_functions m) (blocks_parts func block bs) → Passing names_intrinsic (blocks_parts func block bs)
  blocks_free names func block [] s h = tt
  blocks_free names func block (b ∷ bs) s h =
      each_joined (λ x. names_intrinsic x.0 x.1 ≡ false) (block_parts func block b) (blocks_parts func (block + 1) bs)
      (block_free names func block b s.0 (each_left (λ x. points_to_functions m x.0 x.1 ≡ false) (block_parts func block b) (blocks_parts func (block + 1) bs) h))
      (blocks_free names func (block + 1) bs s.1 (each_right (λ x. points_to_functions m x.0 x.1 ≡ false) (block_parts func block b) (blocks_parts func (block + 1) bs) h))

  some_blocks : (names : List Name) (bs : List Block) → shape.Some_of (shape.IsBlock names) bs → shape.Each (shape.IsBlock names) bs
  some_blocks names [] s = absurd s
  some_blocks names (b ∷ bs) s = s

  function_free : (k : ℕ) (f : Function) → shape.IsFunction f → first_function_pointer m k f ≡ None → NamesNoIntrinsic k f
  function_free k f s e = none_of names_intrinsic (parts_of k f) (refl, blocks_free f.names k 0 f.blocks (some_blocks f.names f.blocks s.2) (passing (points_to_functions m) (parts_of k f) e).1)

pub source_free : (m : Module) → shape.IsShaped m → KeepsItemRules Stage.Source m → IsRefused Stage.Source m None → (k : ℕ) (f : Function) → slice_get m.functions k ≡ Some f → NamesNoIntrinsic k f
source_free m s items h k f there =
    function_free m items k f (function_shaped m.functions k f s.functions there) ((accepted_breaks_none m h).functions k f there).function_pointers
