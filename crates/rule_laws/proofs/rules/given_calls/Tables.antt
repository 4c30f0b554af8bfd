-- What a function's tables have is the same where calls give frames: its locals, kinds, sizes, labels and edges.
use Rattle.std.proofs.Common.{◌≡◌, ℕ, ◌+◌, zero, suc, Bool, true, false, List, [], ◌∷◌, ◌++◌, length, map, refl, ap, sym, ◌∙◌, Some, None, Option}
use Rattle.std.specs.Prelude.{filter, if◌then◌else◌, option_map, option_to_list, slice_get, unwrap_or, ◌==◌}
use Rattle.flow_blocks.specs.Edges.{block_edges, edges_of_blocks}
use Rattle.ir_laws.specs.ir_base.declared.name.Name.{Name}
use Rattle.ir_laws.specs.ir_base.declared.outcome.Place.{Place}
use Rattle.ir_laws.specs.ir_model.Names.{first_where, position_of}
use Rattle.ir_laws.specs.ir_model.Ty.{Ty}
use Rattle.ir_laws.specs.ir_model.declared.instr.Instr.{Instr}
use Rattle.ir_laws.specs.ir_model.declared.module.Block.{Block}
use Rattle.ir_laws.specs.ir_model.declared.module.Function.{Function}
use Rattle.ir_laws.specs.ir_model.declared.module.Module.{Module}
use Rattle.ir_laws.specs.ir_model.declared.operand.Callee.{Callee}
use Rattle.ir_laws.specs.ir_paths.Paths.{targets}
use Rattle.ir_laws.specs.ir_locals.Tables.{first_in, or_first}
use Rattle.ir_parts.proofs.LocalsIn.{block_locals, locals_in_append}
use Rattle.ir_parts.specs.Contents.{result_of}
use Rattle.ir_parts.specs.Locals.{local_at, locals_at, locals_in, locals_of}
use Rattle.ir_parts.specs.Parts.{Head, OfInstr, Part, Signature, block_parts, block_place, blocks_parts, function_place, instr_parts, instr_place, phi_parts}
use Rattle.ir_parts.specs.declared.defined.Definition.{Definition}
use Rattle.rule_laws.specs.rules.given_calls.Given.{AreGiven, AreGivenBlocks, Gives, NoBlock, NoneLeft, OneBlock, Same, with_blocks, with_instrs}
use Rattle.rule_locals.specs.Markers.{block_size, made_size, slot_size}
use Rattle.rule_phis.specs.Edges.{into_block, leads, predecessors}
use Rattle.rule_uses.specs.Uses.{made_by_instrs, phi_values, values_at, values_in}
use Rattle.rule_values.specs.Kinds.{block_kind, call_kind, instr_kind, param_kind, phi_kind, result_kind, value_kind}
use Rattle.rule_values.specs.declared.kinds.Kind.{Kind}

module _ (m : Module) (func : ℕ) (f : Function) where
  -- ---- lists of instructions

  pub count_same : (block : ℕ) (before : List ℕ) (is js : List Instr) → AreGiven m func f block before is js
      → length js ≡ length is
  count_same block _ _ _ (NoneLeft before) = refl
  count_same block _ _ _ (Same before i is js rest) = ap suc (count_same block _ is js rest)
  count_same block _ _ _ (Gives before r ty x y args n is js may there rest) = ap suc (count_same block _ is js rest)

  instrs_locals : (block at : ℕ) (before : List ℕ) (is js : List Instr) → AreGiven m func f block before is js
      → locals_in (instr_parts func block at js) ≡ locals_in (instr_parts func block at is)
  instrs_locals block at _ _ _ (NoneLeft before) = refl
  instrs_locals block at _ _ _ (Same before i is js rest) =
      ap (λ l. locals_at (instr_place func block at, OfInstr i) ++ l) (instrs_locals block (at + 1) _ is js rest)
  instrs_locals block at _ _ _ (Gives before r ty x y args n is js may there rest) =
      ap (λ l. map (local_at (instr_place func block at) false) (option_to_list r) ++ l)
      (instrs_locals block (at + 1) _ is js rest)

  kind_same : (ty : Option Ty) (x y : Name) → result_kind (Callee.Named y) ty ≡ result_kind (Callee.Named x) ty
  kind_same None x y = refl
  kind_same (Some t) x y = refl

  instrs_kind : (v block : ℕ) (before : List ℕ) (is js : List Instr) → AreGiven m func f block before is js
      → first_in instr_kind js v ≡ first_in instr_kind is v
  instrs_kind v block _ _ _ (NoneLeft before) = refl
  instrs_kind v block _ _ _ (Same before i is js rest) =
      ap (or_first (instr_kind i v)) (instrs_kind v block _ is js rest)
  instrs_kind v block _ _ _ (Gives before r ty x y args n is js may there rest) =
      λ k. or_first (call_kind r (kind_same ty x y k) v) (instrs_kind v block _ is js rest k)

  instrs_size : (v block : ℕ) (before : List ℕ) (is js : List Instr) → AreGiven m func f block before is js
      → first_in (made_size m) js v ≡ first_in (made_size m) is v
  instrs_size v block _ _ _ (NoneLeft before) = refl
  instrs_size v block _ _ _ (Same before i is js rest) =
      ap (or_first (made_size m i v)) (instrs_size v block _ is js rest)
  instrs_size v block _ _ _ (Gives before r ty x y args n is js may there rest) = instrs_size v block _ is js rest

  pub made_same : (block : ℕ) (before made : List ℕ) (is js : List Instr) → AreGiven m func f block before is js
      → made_by_instrs made js ≡ made_by_instrs made is
  made_same block _ made _ _ (NoneLeft before) = refl
  made_same block _ made _ _ (Same before i is js rest) =
      made_same block _ (option_to_list (result_of i) ++ made) is js rest
  made_same block _ made _ _ (Gives before r ty x y args n is js may there rest) =
      made_same block _ (option_to_list r ++ made) is js rest

  -- ---- lists of blocks

  block_locals_same : (at : ℕ) (b : Block) (js : List Instr) → AreGiven m func f at (phi_values b) b.instrs js
      → locals_in (block_parts func at (with_instrs js b)) ≡ locals_in (block_parts func at b)
  unfolding block_parts
  block_locals_same at b js s =
      let phis : List (Place × Part) = phi_parts func at 0 b.phis in
      let new : List (Place × Part) = instr_parts func at (length b.phis) js in
      let old : List (Place × Part) = instr_parts func at (length b.phis) b.instrs in
      ap (λ l. local_at (block_place func at) true b.label ∷ l)
      (block_locals phis new (instr_place func at (length b.phis + length js)) b.term
      ∙ ap (λ l. locals_in phis ++ l) (instrs_locals at (length b.phis) (phi_values b) b.instrs js s)
      ∙ sym (block_locals phis old (instr_place func at (length b.phis + length b.instrs)) b.term))

  blocks_locals : (at : ℕ) (bs cs : List Block) → AreGivenBlocks m func f at bs cs
      → locals_in (blocks_parts func at cs) ≡ locals_in (blocks_parts func at bs)
  blocks_locals _ _ _ (NoBlock at) = refl
  blocks_locals _ _ _ (OneBlock at b js bs cs s rest) =
      locals_in_append (block_parts func at (with_instrs js b)) (blocks_parts func (at + 1) cs)
      ∙ (λ k. block_locals_same at b js s k ++ blocks_locals (at + 1) bs cs rest k)
      ∙ sym (locals_in_append (block_parts func at b) (blocks_parts func (at + 1) bs))

  blocks_kind : (v at : ℕ) (bs cs : List Block) → AreGivenBlocks m func f at bs cs
      → first_in block_kind cs v ≡ first_in block_kind bs v
  blocks_kind v _ _ _ (NoBlock at) = refl
  blocks_kind v _ _ _ (OneBlock at b js bs cs s rest) =
      λ k. or_first (or_first (first_in phi_kind b.phis v) (instrs_kind v at (phi_values b) b.instrs js s k))
      (blocks_kind v (at + 1) bs cs rest k)

  blocks_size : (v at : ℕ) (bs cs : List Block) → AreGivenBlocks m func f at bs cs
      → first_in (block_size m) cs v ≡ first_in (block_size m) bs v
  blocks_size v _ _ _ (NoBlock at) = refl
  blocks_size v _ _ _ (OneBlock at b js bs cs s rest) =
      λ k. or_first (instrs_size v at (phi_values b) b.instrs js s k) (blocks_size v (at + 1) bs cs rest k)

  blocks_count : (at : ℕ) (bs cs : List Block) → AreGivenBlocks m func f at bs cs → length cs ≡ length bs
  blocks_count _ _ _ (NoBlock at) = refl
  blocks_count _ _ _ (OneBlock at b js bs cs s rest) = ap suc (blocks_count (at + 1) bs cs rest)

  blocks_first : (label at : ℕ) (bs cs : List Block) → AreGivenBlocks m func f at bs cs
      → first_where (λ b. b.label == label) cs ≡ first_where (λ b. b.label == label) bs
  blocks_first label _ _ _ (NoBlock at) = refl
  blocks_first label _ _ _ (OneBlock at b js bs cs s rest) =
      λ k. if b.label == label then Some 0 else option_map suc (blocks_first label (at + 1) bs cs rest k)

  blocks_lead : (label at : ℕ) (bs cs : List Block) → AreGivenBlocks m func f at bs cs
      → map (λ b. b.label) (filter (leads label) cs) ≡ map (λ b. b.label) (filter (leads label) bs)
  blocks_lead label _ _ _ (NoBlock at) = refl
  blocks_lead label _ _ _ (OneBlock at b js bs cs s rest) = on (leads label b) (blocks_lead label (at + 1) bs cs rest)
    where
      on : (t : Bool) → map (λ b. b.label) (filter (leads label) cs) ≡ map (λ b. b.label) (filter (leads label) bs)
          → map (λ b. b.label) (if t then with_instrs js b ∷ filter (leads label) cs else filter (leads label) cs)
          ≡ map (λ b. b.label) (if t then b ∷ filter (leads label) bs else filter (leads label) bs)
      on true more = ap (λ ls. b.label ∷ ls) more
      on false more = more

  pub blocks_into : (sources : ℕ → List ℕ) (k at : ℕ) (bs cs : List Block) → AreGivenBlocks m func f at bs cs
      → into_block sources (slice_get cs k) ≡ into_block sources (slice_get bs k)
  blocks_into sources k _ _ _ (NoBlock at) = refl
  blocks_into sources zero _ _ _ (OneBlock at b js bs cs s rest) = refl
  blocks_into sources (suc k) _ _ _ (OneBlock at b js bs cs s rest) = blocks_into sources k (at + 1) bs cs rest

  blocks_values : (k at : ℕ) (bs cs : List Block) → AreGivenBlocks m func f at bs cs
      → values_in (slice_get cs k) ≡ values_in (slice_get bs k)
  blocks_values k _ _ _ (NoBlock at) = refl
  blocks_values zero _ _ _ (OneBlock at b js bs cs s rest) = made_same at (phi_values b) (phi_values b) b.instrs js s
  blocks_values (suc k) _ _ _ (OneBlock at b js bs cs s rest) = blocks_values k (at + 1) bs cs rest

  -- ---- the function

  module _ (cs : List Block) (given : AreGivenBlocks m func f 0 f.blocks cs) where
    abbrev g : Function
    g = with_blocks cs f

    pub locals_same : locals_of func g ≡ locals_of func f
    locals_same = ap (λ l. locals_at (function_place func, Signature f) ++ l) (blocks_locals 0 f.blocks cs given)

    pub kinds_same : value_kind g ≡ value_kind f
    kinds_same = λ k v. or_first (first_in param_kind f.params v) (blocks_kind v 0 f.blocks cs given k)

    pub sizes_same : slot_size m g ≡ slot_size m f
    sizes_same = λ k v. blocks_size v 0 f.blocks cs given k

    pub positions_same : position_of g ≡ position_of f
    positions_same = λ k label. unwrap_or (blocks_first label 0 f.blocks cs given k) (blocks_count 0 f.blocks cs given k)

    pub predecessors_same : predecessors g ≡ predecessors f
    predecessors_same = λ k label. blocks_lead label 0 f.blocks cs given k

    pub values_same : (block : ℕ) → values_at g block ≡ values_at f block
    values_same block = blocks_values block 0 f.blocks cs given

    edges_from : (at n : ℕ) (bs ds : List Block) → AreGivenBlocks m func f n bs ds
        → edges_of_blocks g at ds ≡ edges_of_blocks f at bs
    edges_from at _ _ _ (NoBlock n) = refl
    edges_from at _ _ _ (OneBlock n b js bs ds s rest) =
        λ k. map (λ to. (at, to)) (map (positions_same k) (targets b.term)) ++ edges_from (at + 1) (n + 1) bs ds rest k

    pub edges_same : block_edges g ≡ block_edges f
    unfolding block_edges
    edges_same = edges_from 0 0 f.blocks cs given
