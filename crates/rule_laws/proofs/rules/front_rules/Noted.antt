-- What is noted beside values stays when allocas are moved to the front: their kinds, and the sizes of slots.
use Rattle.std.proofs.Common.{◌≡◌, ⊎_elim, inl, ℕ, ◌+◌, ◌<◌, ◌≤◌, Bool, true, false, List, [], ◌∷◌, ◌++◌, None, Option, Some, refl, sym, ap, ◌∙◌, arith}
use Rattle.std.specs.Prelude.{filter, is_some, if◌then◌else◌}
use Rattle.std.proofs.lemmas.Bool.{cases_lt}
use Rattle.rule_uses.specs.Undefined.{params_of}
use Rattle.rule_laws.proofs.rules.local_rules.Defined.{value_defined}
use Rattle.rule_laws.proofs.rules.local_rules.Names.{numbers}
use Rattle.ir_laws.proofs.facts.local_rules.Woven.{other_number}
use Rattle.rule_laws.proofs.rules.source_rules.Locals.{block_names, made_by}
use Rattle.ir_laws.proofs.facts.Lists.{phi_names, row_of, times_joined, in_front}
use Rattle.ir_laws.specs.flow_solver.Paths.{IsListed}
use Rattle.ir_laws.proofs.paths.woven_rules.Once.{times_listed}
use Rattle.ir_laws.specs.facts.woven_rules.Pairs.{times}
use Rattle.ir_laws.specs.pass_front.Front.{is_alloca, is_no_alloca, with_allocas_first, with_front_allocas}
use Rattle.ir_parts.specs.Locals.{locals_of}
use Rattle.ir_laws.specs.ir_model.Layout.{size_of}
use Rattle.ir_laws.specs.ir_model.declared.instr.Instr.{Instr}
use Rattle.ir_laws.specs.ir_model.declared.module.Block.{Block}
use Rattle.ir_laws.specs.ir_model.declared.module.Function.{Function}
use Rattle.ir_laws.specs.ir_model.declared.module.Module.{Module}
use Rattle.rule_locals.specs.Markers.{block_size, made_size, slot_size}
use Rattle.ir_laws.specs.ir_locals.Tables.{first_in, or_first}
use Rattle.rule_names.specs.Definitions.{first_twice}
use Rattle.rule_names.specs.Known.{is_value}
use Rattle.rule_values.specs.Kinds.{block_kind, instr_kind, kind_if, kind_of, param_kind, phi_kind, result_kind, value_kind}
use Rattle.rule_values.specs.declared.kinds.Kind.{Kind}
use Rattle.rule_laws.proofs.rules.front_rules.Names.{once_at, parted}

-- what instructions note of a local that one of them defines at most
module _ {T : Type 0} (one : Instr → ℕ → Option T) (v : ℕ) (own : (i : Instr) → (IsListed v (made_by i) → ⊥) → one i v ≡ None) where
  none_in : (is : List Instr) → times v (row_of made_by is) ≡ 0 → first_in one is v ≡ None
  none_in [] e = refl
  none_in (i ∷ is) e =
      let a = times_joined v (made_by i) (row_of made_by is) in
      ap (λ (o : Option T). or_first o (first_in one is v)) (own i (λ l. let some = times_listed v (made_by i) l in absurd (omega (arith, some, e, a))))
      ∙ none_in is (omega (arith, e, a))

  skipped : (xs : List Instr) (i : Instr) (ys : List Instr) → one i v ≡ None → first_in one (xs ++ i ∷ ys) v ≡ first_in one (xs ++ ys) v
  skipped [] i ys e = ap (λ (o : Option T). or_first o (first_in one ys v)) e
  skipped (x ∷ xs) i ys e = ap (or_first (one x v)) (skipped xs i ys e)

  or_second : (a b : Option T) → or_first a b ≡ None → b ≡ None
  or_second (Some t) b e = absurd (cc)
  or_second None b e = e

  or_left : (a b : Option T) → or_first a b ≡ None → a ≡ None
  or_left (Some t) b e = absurd (cc)
  or_left None b e = refl

  behind_none : (xs ys : List Instr) → first_in one xs v ≡ None → first_in one (xs ++ ys) v ≡ first_in one ys v
  behind_none [] ys e = refl
  behind_none (x ∷ xs) ys e =
      ap (λ (o : Option T). or_first o (first_in one (xs ++ ys) v)) (or_left (one x v) (first_in one xs v) e)
      ∙ behind_none xs ys (or_second (one x v) (first_in one xs v) e)

  pub front_noted : (is : List Instr) → times v (row_of made_by is) ≤ 1 → first_in one (in_front is) v ≡ first_in one is v
  front_noted [] le = refl
  front_noted (i ∷ is) le =
      let a = times_joined v (made_by i) (row_of made_by is) in
      on (is_alloca i) (front_noted is (omega (arith, le, a)))
    where
      defined : 0 < times v (made_by i) → first_in one (filter is_alloca is ++ i ∷ filter is_no_alloca is) v ≡ or_first (one i v) (first_in one is v)
      defined some =
          let a = times_joined v (made_by i) (row_of made_by is) in
          let zero_rest : times v (row_of made_by is) ≡ 0 = omega (arith, le, a, some) in
          let both = parted v is in
          behind_none (filter is_alloca is) (i ∷ filter is_no_alloca is) (none_in (filter is_alloca is) (omega (arith, zero_rest, both)))
          ∙ ap (or_first (one i v)) (none_in (filter is_no_alloca is) (omega (arith, zero_rest, both)) ∙ sym (none_in is zero_rest))

      other : first_in one (in_front is) v ≡ first_in one is v → times v (made_by i) ≤ 0 → first_in one (filter is_alloca is ++ i ∷ filter is_no_alloca is) v ≡ or_first (one i v) (first_in one is v)
      other more none =
          let noted : one i v ≡ None = own i (λ l. let some = times_listed v (made_by i) l in absurd (omega (arith, some, none))) in
          skipped (filter is_alloca is) i (filter is_no_alloca is) noted ∙ more ∙ sym (ap (λ (o : Option T). or_first o (first_in one is v)) noted)

      on : (b : Bool) → first_in one (in_front is) v ≡ first_in one is v → first_in one ((if b then i ∷ filter is_alloca is else filter is_alloca is) ++ (if (if b then false else true) then i ∷ filter is_no_alloca is else filter is_no_alloca is)) v ≡ or_first (one i v) (first_in one is v)
      on true more = ap (or_first (one i v)) more
      on false more = ⊎_elim defined (other more) (cases_lt 0 (times v (made_by i)))

-- ---- kinds and sizes

module _ (v : ℕ) where
  if_other : (r : ℕ) (k : Kind) → (IsListed v (r ∷ []) → ⊥) → kind_if r k v ≡ None
  if_other r k h = ap (λ (b : Bool). if b then Some k else None) (other_number r v (λ e. h (inl (sym e))))

  kind_own : (i : Instr) → (IsListed v (made_by i) → ⊥) → instr_kind i v ≡ None
  kind_own (Instr.Binary r op flags ty a b) h = if_other r (kind_of ty) h
  kind_own (Instr.Icmp r pred ty a b) h = if_other r (Kind.Int 1) h
  kind_own (Instr.Select r c a b) h = if_other r (kind_of a.ty) h
  kind_own (Instr.Cast r op nneg arg to) h = if_other r (kind_of to) h
  kind_own (Instr.Alloca r ty align) h = if_other r Kind.Ptr h
  kind_own (Instr.Load r ty address align) h = if_other r (kind_of ty) h
  kind_own (Instr.Store arg address align) h = refl
  kind_own (Instr.Gep r inbounds ty base indices) h = if_other r Kind.Ptr h
  kind_own (Instr.Call None must_tail ty callee args) h = refl
  kind_own (Instr.Call (Some r) must_tail ty callee args) h = if_other r (result_kind callee ty) h

  size_own : (m : Module) (i : Instr) → (IsListed v (made_by i) → ⊥) → made_size m i v ≡ None
  size_own m (Instr.Alloca r ty align) h = ap (λ (b : Bool). if b then Some (size_of m ty) else None) (other_number r v (λ e. h (inl (sym e))))
  size_own m (Instr.Binary r op flags ty a b) h = refl
  size_own m (Instr.Icmp r pred ty a b) h = refl
  size_own m (Instr.Select r c a b) h = refl
  size_own m (Instr.Cast r op nneg arg to) h = refl
  size_own m (Instr.Load r ty address align) h = refl
  size_own m (Instr.Store arg address align) h = refl
  size_own m (Instr.Gep r inbounds ty base indices) h = refl
  size_own m (Instr.Call r must_tail ty callee args) h = refl

  entry_few : (b : Block) (bs : List Block) → times v (row_of block_names (b ∷ bs)) ≤ 1 → times v (row_of made_by b.instrs) ≤ 1
  entry_few b bs le =
      let a = times_joined v (block_names b) (row_of block_names bs) in
      let c = times_joined v (phi_names b.phis) (row_of made_by b.instrs) in
      omega (arith, le, a, c)

  kinds_in : (bs : List Block) → times v (row_of block_names bs) ≤ 1 → first_in block_kind (with_allocas_first bs) v ≡ first_in block_kind bs v
  kinds_in [] le = refl
  kinds_in (b ∷ bs) le = ap (λ (o : Option Kind). or_first (or_first (first_in phi_kind b.phis v) o) (first_in block_kind bs v)) (front_noted instr_kind v kind_own b.instrs (entry_few b bs le))

  sizes_in : (m : Module) (bs : List Block) → times v (row_of block_names bs) ≤ 1 → first_in (block_size m) (with_allocas_first bs) v ≡ first_in (block_size m) bs v
  sizes_in m [] le = refl
  sizes_in m (b ∷ bs) le = ap (λ (o : Option ℕ). or_first o (first_in (block_size m) bs v)) (front_noted (made_size m) v (size_own m) b.instrs (entry_few b bs le))

module _ (func : ℕ) (f : Function) (once : first_twice [] (locals_of func f) ≡ None) where
  blocks_few : (v : ℕ) → times v (row_of block_names f.blocks) ≤ 1
  blocks_few v = let a = times_joined v (params_of f) (row_of block_names f.blocks) in let le : times v (numbers f) ≤ 1 = once_at func f once v in omega (arith, a, le)

  kind_same : (v : ℕ) → value_kind (with_front_allocas f) v ≡ value_kind f v
  kind_same v = ap (or_first (first_in param_kind f.params v)) (kinds_in v f.blocks (blocks_few v))

  pub kinds_same : value_kind (with_front_allocas f) ≡ value_kind f
  kinds_same = λ k v. kind_same v k

  pub sizes_same : (m : Module) → slot_size m (with_front_allocas f) ≡ slot_size m f
  sizes_same m = λ k v. sizes_in v m f.blocks (blocks_few v) k

  pub values_same : (n : ℕ) → is_value n (with_front_allocas f) ≡ is_value n f
  values_same n = λ k v. (value_defined v n (with_front_allocas f) ∙ ap is_some (kind_same v) ∙ sym (value_defined v n f)) k
