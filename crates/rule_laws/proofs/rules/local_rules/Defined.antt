-- The values that a function defines are those that have a kind, and its labels those of its blocks.
use Rattle.std.proofs.Common.{◌≡◌, ℕ, ◌+◌, Bool, true, false, List, [], ◌∷◌, ◌++◌, length, refl, sym, ap, ◌∙◌}
use Rattle.std.specs.List.{list_any}
use Rattle.std.specs.Prelude.{None, Option, Some, is_some, map, ◌&&◌, ◌==◌, ◌||◌, if◌then◌else◌}
use Rattle.ir_laws.specs.ir_base.declared.outcome.Place.{Place}
use Rattle.ir_parts.specs.Contents.{part_locals}
use Rattle.ir_parts.specs.Locals.{local_at, locals_at, locals_in}
use Rattle.ir_parts.specs.Parts.{Ending, Head, OfInstr, Part, Signature, block_parts, blocks_parts, function_place, instr_parts, instr_place, parts_of, phi_parts}
use Rattle.ir_parts.specs.declared.defined.Definition.{Definition}
use Rattle.ir_laws.specs.ir_model.declared.instr.Instr.{Instr}
use Rattle.ir_laws.specs.ir_model.declared.instr.Phi.{Phi}
use Rattle.ir_laws.specs.ir_model.declared.module.Block.{Block}
use Rattle.ir_laws.specs.ir_model.declared.module.Function.{Function}
use Rattle.ir_laws.specs.ir_model.declared.module.Param.{Param}
use Rattle.ir_laws.specs.ir_locals.Tables.{first_in, or_first}
use Rattle.rule_names.specs.Known.{is_kind, is_label, is_value}
use Rattle.rule_values.specs.Kinds.{block_kind, instr_kind, kind_of, param_kind, phi_kind, result_kind, value_kind}
use Rattle.rule_values.specs.declared.kinds.Kind.{Kind}

-- ---- any of the parts

or_joined : (a b c : Bool) → (a || (b || c)) ≡ ((a || b) || c)
or_joined true b c = refl
or_joined false b c = refl

or_not : (a : Bool) → (a || false) ≡ a
or_not true = refl
or_not false = refl

any_joined : {A : Type 0} (t : A → Bool) (xs ys : List A) → list_any t (xs ++ ys) ≡ (list_any t xs || list_any t ys)
any_joined t [] ys = refl
any_joined t (x ∷ xs) ys = ap (λ (b : Bool). t x || b) (any_joined t xs ys) ∙ or_joined (t x) (list_any t xs) (list_any t ys)

some_of : (o q : Option Kind) → is_some (or_first o q) ≡ (is_some o || is_some q)
some_of None q = refl
some_of (Some a) q = refl

some_if : (b : Bool) (kind : Kind) → (b || false) ≡ is_some (if b then Some kind else None)
some_if true kind = refl
some_if false kind = refl

module _ (t : Definition → Bool) where
  abbrev any_part : List (Place × Part) → Bool
  any_part [] = false
  any_part (x ∷ xs) = list_any t (locals_at x) || any_part xs

  any_is : (xs : List (Place × Part)) → list_any t (locals_in xs) ≡ any_part xs
  any_is [] = refl
  any_is (x ∷ xs) = any_joined t (locals_at x) (locals_in xs) ∙ ap (λ (b : Bool). list_any t (locals_at x) || b) (any_is xs)

  any_parts : (xs ys : List (Place × Part)) → any_part (xs ++ ys) ≡ (any_part xs || any_part ys)
  any_parts [] ys = refl
  any_parts (x ∷ xs) ys = ap (λ (b : Bool). list_any t (locals_at x) || b) (any_parts xs ys) ∙ or_joined (list_any t (locals_at x)) (any_part xs) (any_part ys)

  -- the parts of a block, one kind behind the other
  any_block : (func block : ℕ) (b : Block) → any_part (block_parts func block b) ≡ (list_any t (locals_at (record { item = (function_place func).item; block = Some block; instr = None }, Head b)) || (any_part (phi_parts func block 0 b.phis) || any_part (instr_parts func block (length b.phis) b.instrs)))
  unfolding block_parts
  any_block func block b =
      let end : List (Place × Part) = (instr_place func block (length b.phis + length b.instrs), Ending b.term) ∷ [] in
      let instrs : List (Place × Part) = instr_parts func block (length b.phis) b.instrs in
      let head : Bool = list_any t (locals_at (record { item = (function_place func).item; block = Some block; instr = None }, Head b)) in
      ap (λ (x : Bool). head || x)
      (any_parts (phi_parts func block 0 b.phis) (instrs ++ end)
      ∙ ap (λ (x : Bool). any_part (phi_parts func block 0 b.phis) || x) (any_parts instrs end ∙ or_not (any_part instrs)))

-- ---- values

module _ (v : ℕ) where
  abbrev is_one : Definition → Bool
  is_one d = is_kind false d && (d.name == v)

  params_defined : (p : Place) (ps : List Param) → list_any is_one (map (local_at p false) (map (λ x. x.name) ps)) ≡ is_some (first_in param_kind ps v)
  params_defined p [] = refl
  params_defined p (x ∷ ps) =
      (λ k. (x.name == v) || params_defined p ps k)
      ∙ ap (λ (b : Bool). b || is_some (first_in param_kind ps v)) (sym (or_not (x.name == v)) ∙ some_if (x.name == v) (kind_of x.ty))
      ∙ sym (some_of (param_kind x v) (first_in param_kind ps v))

  phis_defined : (func block at : ℕ) (ps : List Phi) → any_part is_one (phi_parts func block at ps) ≡ is_some (first_in phi_kind ps v)
  phis_defined func block at [] = refl
  phis_defined func block at (x ∷ ps) =
      (λ k. some_if (x.result == v) (kind_of x.ty) k || phis_defined func block (at + 1) ps k)
      ∙ sym (some_of (phi_kind x v) (first_in phi_kind ps v))

  instr_defined : (p : Place) (i : Instr) → list_any is_one (locals_at (p, OfInstr i)) ≡ is_some (instr_kind i v)
  instr_defined p (Instr.Binary r op flags ty left right) = some_if (r == v) (kind_of ty)
  instr_defined p (Instr.Icmp r pred ty left right) = some_if (r == v) (Kind.Int 1)
  instr_defined p (Instr.Select r c a b) = some_if (r == v) (kind_of a.ty)
  instr_defined p (Instr.Cast r op nneg arg to) = some_if (r == v) (kind_of to)
  instr_defined p (Instr.Alloca r ty align) = some_if (r == v) Kind.Ptr
  instr_defined p (Instr.Load r ty address align) = some_if (r == v) (kind_of ty)
  instr_defined p (Instr.Store arg address align) = refl
  instr_defined p (Instr.Gep r inbounds ty base indices) = some_if (r == v) Kind.Ptr
  instr_defined p (Instr.Call None must_tail ty callee args) = refl
  instr_defined p (Instr.Call (Some r) must_tail ty callee args) = some_if (r == v) (result_kind callee ty)

  instrs_defined : (func block at : ℕ) (is : List Instr) → any_part is_one (instr_parts func block at is) ≡ is_some (first_in instr_kind is v)
  instrs_defined func block at [] = refl
  instrs_defined func block at (i ∷ is) =
      (λ k. instr_defined (instr_place func block at) i k || instrs_defined func block (at + 1) is k)
      ∙ sym (some_of (instr_kind i v) (first_in instr_kind is v))

  blocks_defined : (func block : ℕ) (bs : List Block) → any_part is_one (blocks_parts func block bs) ≡ is_some (first_in block_kind bs v)
  blocks_defined func block [] = refl
  blocks_defined func block (b ∷ bs) =
      any_parts is_one (block_parts func block b) (blocks_parts func (block + 1) bs)
      ∙ ap (λ (x : Bool). x || any_part is_one (blocks_parts func (block + 1) bs))
      (any_block is_one func block b
      ∙ (λ k. phis_defined func block 0 b.phis k || instrs_defined func block (length b.phis) b.instrs k)
      ∙ sym (some_of (first_in phi_kind b.phis v) (first_in instr_kind b.instrs v)))
      ∙ ap (λ (x : Bool). is_some (block_kind b v) || x) (blocks_defined func (block + 1) bs)
      ∙ sym (some_of (block_kind b v) (first_in block_kind bs v))

  pub value_defined : (func : ℕ) (f : Function) → is_value func f v ≡ is_some (value_kind f v)
  value_defined func f =
      any_is is_one (parts_of func f)
      ∙ (λ k. params_defined (function_place func) f.params k || blocks_defined func 0 f.blocks k)
      ∙ sym (some_of (first_in param_kind f.params v) (first_in block_kind f.blocks v))

-- ---- labels

module _ (v : ℕ) where
  abbrev is_its : Definition → Bool
  is_its d = is_kind true d && (d.name == v)

  abbrev pub labelled : List Block → Bool
  labelled bs = list_any (λ b. b.label == v) bs

  none_labelled : (p : Place) (ns : List ℕ) → list_any is_its (map (local_at p false) ns) ≡ false
  none_labelled p [] = refl
  none_labelled p (n ∷ ns) = none_labelled p ns

  phis_unlabelled : (func block at : ℕ) (ps : List Phi) → any_part is_its (phi_parts func block at ps) ≡ false
  phis_unlabelled func block at [] = refl
  phis_unlabelled func block at (p ∷ ps) = phis_unlabelled func block (at + 1) ps

  instrs_unlabelled : (func block at : ℕ) (is : List Instr) → any_part is_its (instr_parts func block at is) ≡ false
  instrs_unlabelled func block at [] = refl
  instrs_unlabelled func block at (i ∷ is) = λ k. none_labelled (instr_place func block at) (part_locals (OfInstr i)) k || instrs_unlabelled func block (at + 1) is k

  blocks_labelled : (func block : ℕ) (bs : List Block) → any_part is_its (blocks_parts func block bs) ≡ labelled bs
  blocks_labelled func block [] = refl
  blocks_labelled func block (b ∷ bs) =
      any_parts is_its (block_parts func block b) (blocks_parts func (block + 1) bs)
      ∙ ap (λ (x : Bool). x || any_part is_its (blocks_parts func (block + 1) bs))
      (any_block is_its func block b
      ∙ (λ k. ((b.label == v) || false) || (phis_unlabelled func block 0 b.phis k || instrs_unlabelled func block (length b.phis) b.instrs k))
      ∙ or_not ((b.label == v) || false) ∙ or_not (b.label == v))
      ∙ ap (λ (x : Bool). (b.label == v) || x) (blocks_labelled func (block + 1) bs)

  pub label_defined : (func : ℕ) (f : Function) → is_label func f v ≡ labelled f.blocks
  label_defined func f =
      any_is is_its (parts_of func f)
      ∙ (λ k. none_labelled (function_place func) (part_locals (Signature f)) k || blocks_labelled func 0 f.blocks k)
