-- What the values of the functions are that a function becomes.
use Rattle.std.proofs.Common.{◌≡◌, ◌⊎◌, inl, inr, ⊎_elim, ℕ, zero, suc, Bool, true, false, List, [], ◌∷◌, ◌++◌, refl, sym, ap, ◌∙◌, subst}
use Rattle.std.specs.Prelude.{None, Option, Some, is_some, map, option_to_list, slice_get, ◌==◌, if◌then◌else◌}
use Rattle.rule_uses.specs.Undefined.{params_of}
use Rattle.ir_laws.proofs.facts.Members.{each_there}
use Rattle.ir_laws.proofs.facts.Truth.{equal_numbers}
use Rattle.rule_laws.proofs.rules.local_rules.Names.{numbers}
use Rattle.ir_laws.proofs.paths.source_rules.Locals.{Apart, in_row, listed_left, listed_right}
use Rattle.rule_laws.proofs.rules.source_rules.Locals.{block_names, made_by}
use Rattle.ir_laws.proofs.facts.Lists.{phi_names, row_of}
use Rattle.ir_laws.specs.flow_solver.Paths.{IsListed}
use Rattle.ir_parts.specs.Contents.{result_of}
use Rattle.ir_laws.specs.ir_model.declared.instr.Instr.{Instr}
use Rattle.ir_laws.specs.ir_model.declared.instr.Phi.{Phi}
use Rattle.ir_laws.specs.ir_model.declared.instr.Terminator.{Terminator}
use Rattle.ir_laws.specs.ir_model.declared.module.Block.{Block}
use Rattle.ir_laws.specs.ir_model.declared.module.Function.{Function}
use Rattle.ir_laws.specs.ir_model.declared.module.Param.{Param}
use Rattle.ir_laws.specs.ir_locals.Tables.{first_in, or_first}
use Rattle.rule_laws.proofs.rules.replaced.Passed.{IsAll}
use Rattle.ir_laws.specs.run_laws.changed.Changed.{Each}
use Rattle.rule_values.specs.Kinds.{block_kind, instr_kind, kind_if, kind_of, param_kind, phi_kind, result_kind, value_kind}
use Rattle.rule_values.specs.declared.kinds.Kind.{Kind}
use Rattle.rule_laws.proofs.rules.local_rules.Rows.{apart_at}
use Rattle.rule_laws.proofs.rules.counted.CellKinds.{own_if as some_itself}

-- ---- where all definitions agree with a table of kinds, the kinds are those of the table

module _ (K : ℕ → Option Kind) (v : ℕ) where
  -- none, or what the table has
  abbrev IsIt : Option Kind → Type 0
  IsIt o = (o ≡ None) ⊎ (o ≡ K v)

  both_are : (o p : Option Kind) → IsIt o → IsIt p → IsIt (or_first o p)
  both_are None p h k = k
  both_are (Some a) p h k = h

  all_are : {A : Type 0} (one : A → ℕ → Option Kind) (xs : List A) → Each (λ (x : A). IsIt (one x v)) xs → IsIt (first_in one xs v)
  all_are one [] h = inl refl
  all_are one (x ∷ xs) h = both_are (one x v) (first_in one xs v) h.0 (all_are one xs h.1)

  if_is : (r : ℕ) (kind : Kind) → Some kind ≡ K r → IsIt (kind_if r kind v)
  if_is r kind h = on (r == v) refl
    where
      on : (b : Bool) → (r == v) ≡ b → IsIt (kind_if r kind v)
      on true e = inr (ap (λ (b : Bool). if b then Some kind else None) e ∙ h ∙ ap K (equal_numbers r v e))
      on false e = inl (ap (λ (b : Bool). if b then Some kind else None) e)

-- the kind of an instruction's result
abbrev pub kind_made_by : Instr → Kind
kind_made_by (Instr.Binary r op flags ty left right) = kind_of ty
kind_made_by (Instr.Icmp r pred ty left right) = Kind.Int 1
kind_made_by (Instr.Select r c a b) = kind_of a.ty
kind_made_by (Instr.Cast r op nneg arg to) = kind_of to
kind_made_by (Instr.Alloca r ty align) = Kind.Ptr
kind_made_by (Instr.Load r ty address align) = kind_of ty
kind_made_by (Instr.Store arg address align) = Kind.Other
kind_made_by (Instr.Gep r inbounds ty base indices) = Kind.Ptr
kind_made_by (Instr.Call r must_tail ty callee args) = result_kind callee ty

-- what an instruction or a phi makes is what the table has
abbrev pub MakesIn : (ℕ → Option Kind) → Instr → Type 0
MakesIn K i = (r : ℕ) → result_of i ≡ Some r → Some (kind_made_by i) ≡ K r

abbrev pub PhiMakesIn : (ℕ → Option Kind) → Phi → Type 0
PhiMakesIn K p = Some (kind_of p.ty) ≡ K p.result

module _ (K : ℕ → Option Kind) (v : ℕ) where
  instr_is : (i : Instr) → MakesIn K i → IsIt K v (instr_kind i v)
  instr_is (Instr.Binary r op flags ty left right) h = if_is K v r (kind_of ty) (h r refl)
  instr_is (Instr.Icmp r pred ty left right) h = if_is K v r (Kind.Int 1) (h r refl)
  instr_is (Instr.Select r c a b) h = if_is K v r (kind_of a.ty) (h r refl)
  instr_is (Instr.Cast r op nneg arg to) h = if_is K v r (kind_of to) (h r refl)
  instr_is (Instr.Alloca r ty align) h = if_is K v r Kind.Ptr (h r refl)
  instr_is (Instr.Load r ty address align) h = if_is K v r (kind_of ty) (h r refl)
  instr_is (Instr.Store arg address align) h = inl refl
  instr_is (Instr.Gep r inbounds ty base indices) h = if_is K v r Kind.Ptr (h r refl)
  instr_is (Instr.Call None must_tail ty callee args) h = inl refl
  instr_is (Instr.Call (Some r) must_tail ty callee args) h = if_is K v r (result_kind callee ty) (h r refl)

  instrs_are : (is : List Instr) → Each (MakesIn K) is → Each (λ (i : Instr). IsIt K v (instr_kind i v)) is
  instrs_are [] h = tt
  instrs_are (i ∷ is) h = (instr_is i h.0, instrs_are is h.1)

  phis_are : (ps : List Phi) → Each (PhiMakesIn K) ps → Each (λ (p : Phi). IsIt K v (phi_kind p v)) ps
  phis_are [] h = tt
  phis_are (p ∷ ps) h = (if_is K v p.result (kind_of p.ty) h.0, phis_are ps h.1)

  params_are : (ps : List Param) → Each (λ (p : Param). Some (kind_of p.ty) ≡ K p.name) ps → Each (λ (p : Param). IsIt K v (param_kind p v)) ps
  params_are [] h = tt
  params_are (p ∷ ps) h = (if_is K v p.name (kind_of p.ty) h.0, params_are ps h.1)

  blocks_are : (T : Terminator → Type 0) (bs : List Block) → Each (IsAll (PhiMakesIn K) (MakesIn K) T) bs → Each (λ (b : Block). IsIt K v (block_kind b v)) bs
  blocks_are T [] h = tt
  blocks_are T (b ∷ bs) h = (
    both_are K v (first_in phi_kind b.phis v) (first_in instr_kind b.instrs v) (all_are K v phi_kind b.phis (phis_are b.phis h.0.phis)) (all_are K v instr_kind b.instrs (instrs_are b.instrs h.0.instrs)),
    blocks_are T bs h.1,
  )

  -- a value of the function is what the table has
  pub value_is : (g : Function) (T : Terminator → Type 0) → Each (λ (p : Param). Some (kind_of p.ty) ≡ K p.name) g.params → Each (IsAll (PhiMakesIn K) (MakesIn K) T) g.blocks → is_some (value_kind g v) ≡ true → value_kind g v ≡ K v
  value_is g T params blocks e =
      ⊎_elim (λ none. let t : false ≡ true = sym (ap (λ (o : Option Kind). is_some o) none) ∙ e in absurd (cc)) (λ is. is)
      (both_are K v (first_in param_kind g.params v) (first_in block_kind g.blocks v) (all_are K v param_kind g.params (params_are g.params params)) (all_are K v block_kind g.blocks (blocks_are T g.blocks blocks)))

pub made_itself : (i : Instr) (r : ℕ) → result_of i ≡ Some r → instr_kind i r ≡ Some (kind_made_by i)
made_itself (Instr.Binary q op flags ty left right) r e = let same : q ≡ r = cc in subst (λ (n : ℕ). kind_if q (kind_of ty) n ≡ Some (kind_of ty)) same (some_itself q (kind_of ty))
made_itself (Instr.Icmp q pred ty left right) r e = let same : q ≡ r = cc in subst (λ (n : ℕ). kind_if q (Kind.Int 1) n ≡ Some (Kind.Int 1)) same (some_itself q (Kind.Int 1))
made_itself (Instr.Select q c a b) r e = let same : q ≡ r = cc in subst (λ (n : ℕ). kind_if q (kind_of a.ty) n ≡ Some (kind_of a.ty)) same (some_itself q (kind_of a.ty))
made_itself (Instr.Cast q op nneg arg to) r e = let same : q ≡ r = cc in subst (λ (n : ℕ). kind_if q (kind_of to) n ≡ Some (kind_of to)) same (some_itself q (kind_of to))
made_itself (Instr.Alloca q ty align) r e = let same : q ≡ r = cc in subst (λ (n : ℕ). kind_if q Kind.Ptr n ≡ Some Kind.Ptr) same (some_itself q Kind.Ptr)
made_itself (Instr.Load q ty address align) r e = let same : q ≡ r = cc in subst (λ (n : ℕ). kind_if q (kind_of ty) n ≡ Some (kind_of ty)) same (some_itself q (kind_of ty))
made_itself (Instr.Store arg address align) r e = absurd (cc)
made_itself (Instr.Gep q inbounds ty base indices) r e = let same : q ≡ r = cc in subst (λ (n : ℕ). kind_if q Kind.Ptr n ≡ Some Kind.Ptr) same (some_itself q Kind.Ptr)
made_itself (Instr.Call None must_tail ty callee args) r e = absurd (cc)
made_itself (Instr.Call (Some q) must_tail ty callee args) r e = let same : q ≡ r = cc in subst (λ (n : ℕ). kind_if q (result_kind callee ty) n ≡ Some (result_kind callee ty)) same (some_itself q (result_kind callee ty))

-- ---- names that are apart

apart_right : (xs ys : List ℕ) → Apart (xs ++ ys) → Apart ys
apart_right [] ys h = h
apart_right (x ∷ xs) ys h = apart_right xs ys h.1

apart_both : (xs ys : List ℕ) (n : ℕ) → Apart (xs ++ ys) → IsListed n xs → IsListed n ys → ⊥
apart_both [] ys n h a b = absurd a
apart_both (x ∷ xs) ys n h (inl e) b = h.0 (listed_right x xs ys (subst (λ (k : ℕ). IsListed k ys) e b))
apart_both (x ∷ xs) ys n h (inr a) b = apart_both xs ys n h.1 a b

apart_left : (xs ys : List ℕ) → Apart (xs ++ ys) → Apart xs
apart_left [] ys h = tt
apart_left (x ∷ xs) ys h = (λ k. h.0 (listed_left x xs ys k), apart_left xs ys h.1)

module _ (v : ℕ) where
  if_none : (r : ℕ) (kind : Kind) → (v ≡ r → ⊥) → kind_if r kind v ≡ None
  if_none r kind h = on (r == v) refl
    where
      on : (b : Bool) → (r == v) ≡ b → kind_if r kind v ≡ None
      on true e = absurd (h (sym (equal_numbers r v e)))
      on false e = ap (λ (b : Bool). if b then Some kind else None) e

  instr_none : (i : Instr) → (IsListed v (made_by i) → ⊥) → instr_kind i v ≡ None
  instr_none (Instr.Binary r op flags ty left right) h = if_none r (kind_of ty) (λ e. h (inl e))
  instr_none (Instr.Icmp r pred ty left right) h = if_none r (Kind.Int 1) (λ e. h (inl e))
  instr_none (Instr.Select r c a b) h = if_none r (kind_of a.ty) (λ e. h (inl e))
  instr_none (Instr.Cast r op nneg arg to) h = if_none r (kind_of to) (λ e. h (inl e))
  instr_none (Instr.Alloca r ty align) h = if_none r Kind.Ptr (λ e. h (inl e))
  instr_none (Instr.Load r ty address align) h = if_none r (kind_of ty) (λ e. h (inl e))
  instr_none (Instr.Store arg address align) h = refl
  instr_none (Instr.Gep r inbounds ty base indices) h = if_none r Kind.Ptr (λ e. h (inl e))
  instr_none (Instr.Call None must_tail ty callee args) h = refl
  instr_none (Instr.Call (Some r) must_tail ty callee args) h = if_none r (result_kind callee ty) (λ e. h (inl e))

  instrs_none : (is : List Instr) → (IsListed v (row_of made_by is) → ⊥) → first_in instr_kind is v ≡ None
  instrs_none [] h = refl
  instrs_none (i ∷ is) h =
      ap (λ (o : Option Kind). or_first o (first_in instr_kind is v)) (instr_none i (λ l. h (listed_left v (made_by i) (row_of made_by is) l)))
      ∙ instrs_none is (λ l. h (listed_right v (made_by i) (row_of made_by is) l))

  phis_none : (ps : List Phi) → (IsListed v (phi_names ps) → ⊥) → first_in phi_kind ps v ≡ None
  phis_none [] h = refl
  phis_none (p ∷ ps) h = ap (λ (o : Option Kind). or_first o (first_in phi_kind ps v)) (if_none p.result (kind_of p.ty) (λ e. h (inl e))) ∙ phis_none ps (λ l. h (inr l))

  params_none : (ps : List Param) → (IsListed v (map (λ p. p.name) ps) → ⊥) → first_in param_kind ps v ≡ None
  params_none [] h = refl
  params_none (p ∷ ps) h = ap (λ (o : Option Kind). or_first o (first_in param_kind ps v)) (if_none p.name (kind_of p.ty) (λ e. h (inl e))) ∙ params_none ps (λ l. h (inr l))

  block_none : (b : Block) → (IsListed v (block_names b) → ⊥) → block_kind b v ≡ None
  block_none b h =
      ap (λ (o : Option Kind). or_first o (first_in instr_kind b.instrs v)) (phis_none b.phis (λ l. h (inr (listed_left v (phi_names b.phis) (row_of made_by b.instrs) l))))
      ∙ instrs_none b.instrs (λ l. h (inr (listed_right v (phi_names b.phis) (row_of made_by b.instrs) l)))

pub or_some : (o p : Option Kind) (kind : Kind) → o ≡ Some kind → or_first o p ≡ Some kind
or_some None p kind e = absurd (cc)
or_some (Some a) p kind e = e

module _ (f : Function) (apart : Apart (numbers f)) where
  blocks_apart : Apart (row_of block_names f.blocks)
  blocks_apart = apart_right (params_of f) (row_of block_names f.blocks) apart

  -- the kind that the block at a position notes of a name that it defines is the function's
  of_block : (bs : List Block) → Apart (row_of block_names bs) → (k : ℕ) (b : Block) → slice_get bs k ≡ Some b → (v : ℕ) (kind : Kind) → IsListed v (block_names b) → block_kind b v ≡ Some kind → first_in block_kind bs v ≡ Some kind
  of_block [] h k b e v kind l d = absurd (cc)
  of_block (c ∷ bs) h zero b e v kind l d = let is_one : c ≡ b = cc in or_some (block_kind c v) (first_in block_kind bs v) kind (ap (λ (x : Block). block_kind x v) is_one ∙ d)
  of_block (c ∷ bs) h (suc k) b e v kind l d =
      ap (λ (o : Option Kind). or_first o (first_in block_kind bs v)) (block_none v c (λ here. apart_both (block_names c) (row_of block_names bs) v h here (in_row block_names bs k v b e l)))
      ∙ of_block bs (apart_right (block_names c) (row_of block_names bs) h) k b e v kind l d

  of_function : (k : ℕ) (b : Block) → slice_get f.blocks k ≡ Some b → (v : ℕ) (kind : Kind) → IsListed v (block_names b) → block_kind b v ≡ Some kind → value_kind f v ≡ Some kind
  of_function k b e v kind l d =
      ap (λ (o : Option Kind). or_first o (first_in block_kind f.blocks v)) (params_none v f.params (λ p. apart_both (params_of f) (row_of block_names f.blocks) v apart p (in_row block_names f.blocks k v b e l)))
      ∙ of_block f.blocks blocks_apart k b e v kind l d

  of_phi : (ps : List Phi) → Apart (phi_names ps) → (at : ℕ) (p : Phi) → slice_get ps at ≡ Some p → IsListed p.result (phi_names ps) × (first_in phi_kind ps p.result ≡ Some (kind_of p.ty))
  of_phi [] h at p e = absurd (cc)
  of_phi (q ∷ ps) h zero p e =
      let is_one : q ≡ p = cc in
      (inl (ap (λ (x : Phi). x.result) (sym is_one)), or_some (phi_kind q p.result) (first_in phi_kind ps p.result) (kind_of p.ty) (ap (λ (x : Phi). phi_kind x p.result) is_one ∙ some_itself p.result (kind_of p.ty)))
  of_phi (q ∷ ps) h (suc at) p e =
      let more = of_phi ps h.1 at p e in
      (inr more.0, ap (λ (o : Option Kind). or_first o (first_in phi_kind ps p.result)) (if_none p.result q.result (kind_of q.ty) (λ same. h.0 (subst (λ (n : ℕ). IsListed n (phi_names ps)) same more.0))) ∙ more.1)

  of_instr : (is : List Instr) → Apart (row_of made_by is) → (at : ℕ) (i : Instr) → slice_get is at ≡ Some i → (r : ℕ) → result_of i ≡ Some r → IsListed r (row_of made_by is) × (first_in instr_kind is r ≡ Some (kind_made_by i))
  of_instr [] h at i e r d = absurd (cc)
  of_instr (j ∷ is) h zero i e r d =
      let is_one : j ≡ i = cc in
      let here : IsListed r (made_by j) = subst (λ (o : Option ℕ). IsListed r (option_to_list o)) (sym (ap result_of is_one ∙ d)) (inl refl) in
      (listed_left r (made_by j) (row_of made_by is) here, or_some (instr_kind j r) (first_in instr_kind is r) (kind_made_by i) (ap (λ (x : Instr). instr_kind x r) is_one ∙ made_itself i r d))
  of_instr (j ∷ is) h (suc at) i e r d =
      let more = of_instr is (apart_right (made_by j) (row_of made_by is) h) at i e r d in (
        listed_right r (made_by j) (row_of made_by is) more.0,
        ap (λ (o : Option Kind). or_first o (first_in instr_kind is r)) (instr_none r j (λ here. apart_both (made_by j) (row_of made_by is) r h here more.0)) ∙ more.1,
      )

  -- in a function that defines each name once all phis and instructions make what its kinds say
  pub own_kinds : Each (IsAll (PhiMakesIn (value_kind f)) (MakesIn (value_kind f)) (λ (t : Terminator). Unit {0})) f.blocks
  own_kinds =
      each_there (IsAll (PhiMakesIn (value_kind f)) (MakesIn (value_kind f)) (λ (t : Terminator). Unit {0})) f.blocks
      (λ k b e.
      let inner : Apart (phi_names b.phis ++ row_of made_by b.instrs) = (apart_at block_names f.blocks k b e blocks_apart).1 in
      record {
        phis = each_there (PhiMakesIn (value_kind f)) b.phis
            (λ at p d.
            let x = of_phi b.phis (apart_left (phi_names b.phis) (row_of made_by b.instrs) inner) at p d in
            sym (of_function k b e p.result (kind_of p.ty) (inr (listed_left p.result (phi_names b.phis) (row_of made_by b.instrs) x.0)) (or_some (first_in phi_kind b.phis p.result) (first_in instr_kind b.instrs p.result) (kind_of p.ty) x.1)));
        instrs = each_there (MakesIn (value_kind f)) b.instrs
            (λ at i d r made.
            let x = of_instr b.instrs (apart_right (phi_names b.phis) (row_of made_by b.instrs) inner) at i d r made in
            sym
            (of_function k b e r (kind_made_by i) (inr (listed_right r (phi_names b.phis) (row_of made_by b.instrs) x.0))
            (ap (λ (o : Option Kind). or_first o (first_in instr_kind b.instrs r)) (phis_none r b.phis (λ l. apart_both (phi_names b.phis) (row_of made_by b.instrs) r inner l x.0)) ∙ x.1)));
        term = tt;
      })

-- so do its parameters
module _ (f : Function) (apart : Apart (numbers f)) where
  of_param : (ps : List Param) → Apart (map (λ p. p.name) ps) → (at : ℕ) (p : Param) → slice_get ps at ≡ Some p → IsListed p.name (map (λ q. q.name) ps) × (first_in param_kind ps p.name ≡ Some (kind_of p.ty))
  of_param [] h at p e = absurd (cc)
  of_param (q ∷ ps) h zero p e =
      let is_one : q ≡ p = cc in
      (inl (ap (λ (x : Param). x.name) (sym is_one)), or_some (param_kind q p.name) (first_in param_kind ps p.name) (kind_of p.ty) (ap (λ (x : Param). param_kind x p.name) is_one ∙ some_itself p.name (kind_of p.ty)))
  of_param (q ∷ ps) h (suc at) p e =
      let more = of_param ps h.1 at p e in
      (inr more.0, ap (λ (o : Option Kind). or_first o (first_in param_kind ps p.name)) (if_none p.name q.name (kind_of q.ty) (λ same. h.0 (subst (λ (n : ℕ). IsListed n (map (λ x. x.name) ps)) same more.0))) ∙ more.1)

  pub own_params : Each (λ (p : Param). Some (kind_of p.ty) ≡ value_kind f p.name) f.params
  own_params =
      each_there (λ (p : Param). Some (kind_of p.ty) ≡ value_kind f p.name) f.params
      (λ at p e.
      let x = of_param f.params (apart_left (params_of f) (row_of block_names f.blocks) apart) at p e in
      sym (or_some (first_in param_kind f.params p.name) (first_in block_kind f.blocks p.name) (kind_of p.ty) x.1))
