-- A number that a function defines once has the kind of its definition.
use Rattle.std.proofs.Common.{◌≡◌, inl, inr, ℕ, zero, suc, ◌+◌, ◌≤◌, Bool, true, false, List, [], ◌∷◌, refl, sym, ap, ◌∙◌, subst, arith}
use Rattle.std.specs.Prelude.{Option, Some, None, map, option_to_list, slice_get, ◌==◌, if◌then◌else◌}
use Rattle.ir_laws.proofs.paths.woven_rules.Once.{times_listed as listed_times}
use Rattle.ir_laws.proofs.facts.Lists.{times_joined, phi_names, row_of}
use Rattle.rule_uses.specs.Undefined.{params_of}
use Rattle.ir_laws.proofs.facts.Truth.{itself}
use Rattle.rule_laws.proofs.rules.local_rules.Names.{numbers}
use Rattle.rule_laws.proofs.rules.source_rules.Locals.{block_names, made_by}
use Rattle.ir_laws.proofs.paths.source_rules.Locals.{in_row, listed_left, listed_right}
use Rattle.ir_laws.specs.flow_solver.Paths.{IsListed}
use Rattle.ir_parts.specs.Contents.{result_of}
use Rattle.ir_laws.specs.ir_model.declared.instr.Instr.{Instr}
use Rattle.ir_laws.specs.ir_model.declared.instr.Phi.{Phi}
use Rattle.ir_laws.specs.ir_model.declared.module.Block.{Block}
use Rattle.ir_laws.specs.ir_model.declared.module.Function.{Function}
use Rattle.ir_laws.specs.ir_model.declared.module.Param.{Param}
use Rattle.ir_laws.specs.ir_locals.Tables.{first_in, or_first}
use Rattle.rule_values.specs.Kinds.{block_kind, instr_kind, kind_if, kind_of, param_kind, phi_kind, result_kind, value_kind}
use Rattle.rule_values.specs.declared.kinds.Kind.{Kind}
use Rattle.ir_laws.specs.facts.woven_rules.Pairs.{one_if, times}
use Rattle.ir_laws.proofs.facts.Options.{or_none}

module _ {A T : Type 0} (one : A → ℕ → Option T) (names : A → List ℕ) (n : ℕ) (none : (x : A) → times n (names x) ≡ 0 → one x n ≡ None) where
  pub row_none : (xs : List A) → times n (row_of names xs) ≡ 0 → first_in one xs n ≡ None
  row_none [] h = refl
  row_none (x ∷ xs) h =
      let both = times_joined n (names x) (row_of names xs) in
      ap (λ o. or_first o (first_in one xs n)) (none x (omega (arith, both, h))) ∙ row_none xs (omega (arith, both, h))

  pub row_one : (xs : List A) → times n (row_of names xs) ≤ 1 → (k : ℕ) (x : A) → slice_get xs k ≡ Some x → IsListed n (names x) → first_in one xs n ≡ one x n
  row_one [] h k x e l = absurd (cc)
  row_one (y ∷ ys) h zero x e l =
      let same : y ≡ x = cc in
      let both = times_joined n (names y) (row_of names ys) in
      let here : 1 ≤ times n (names y) = listed_times n (names y) (subst (λ z. IsListed n (names z)) (sym same) l) in
      ap (or_first (one y n)) (row_none ys (omega (arith, both, here, h))) ∙ or_none (one y n) ∙ ap (λ z. one z n) same
  row_one (y ∷ ys) h (suc k) x e l =
      let both = times_joined n (names y) (row_of names ys) in
      let there : 1 ≤ times n (row_of names ys) = listed_times n (row_of names ys) (in_row names ys k n x e l) in
      ap (λ o. or_first o (first_in one ys n)) (none y (omega (arith, both, there, h))) ∙ row_one ys (omega (arith, both, there, h)) k x e l

-- ---- definitions

other_if : (r n : ℕ) (kind : Kind) → times n (r ∷ []) ≡ 0 → kind_if r kind n ≡ None
other_if r n kind h = on (r == n) refl h
  where
    on : (b : Bool) → (r == n) ≡ b → one_if b + 0 ≡ 0 → (if b then Some kind else None) ≡ None
    on true e k = absurd (omega (arith, k))
    on false e k = refl

instr_other : (n : ℕ) (i : Instr) → times n (made_by i) ≡ 0 → instr_kind i n ≡ None
instr_other n (Instr.Binary r op flags ty left right) h = other_if r n (kind_of ty) h
instr_other n (Instr.Icmp r pred ty left right) h = other_if r n (Kind.Int 1) h
instr_other n (Instr.Select r c a b) h = other_if r n (kind_of a.ty) h
instr_other n (Instr.Cast r op nneg arg to) h = other_if r n (kind_of to) h
instr_other n (Instr.Alloca r ty align) h = other_if r n Kind.Ptr h
instr_other n (Instr.Load r ty address align) h = other_if r n (kind_of ty) h
instr_other n (Instr.Store arg address align) h = refl
instr_other n (Instr.Gep r inbounds ty base indices) h = other_if r n Kind.Ptr h
instr_other n (Instr.Call None must_tail ty callee args) h = refl
instr_other n (Instr.Call (Some r) must_tail ty callee args) h = other_if r n (result_kind callee ty) h

abbrev name_of_phi : Phi → List ℕ
name_of_phi p = p.result ∷ []

abbrev name_of_param : Param → List ℕ
name_of_param p = p.name ∷ []

phi_row : (ps : List Phi) → row_of name_of_phi ps ≡ phi_names ps
phi_row [] = refl
phi_row (p ∷ ps) = ap (λ l. p.result ∷ l) (phi_row ps)

param_row : (ps : List Param) → row_of name_of_param ps ≡ map (λ p. p.name) ps
param_row [] = refl
param_row (p ∷ ps) = ap (λ l. p.name ∷ l) (param_row ps)

phi_other : (n : ℕ) (p : Phi) → times n (name_of_phi p) ≡ 0 → phi_kind p n ≡ None
phi_other n p h = other_if p.result n (kind_of p.ty) h

param_other : (n : ℕ) (p : Param) → times n (name_of_param p) ≡ 0 → param_kind p n ≡ None
param_other n p h = other_if p.name n (kind_of p.ty) h

-- so often a block's phis and instructions have a number
pub parts_times : (n : ℕ) (b : Block) → times n (block_names b) ≡ one_if (b.label == n) + (times n (phi_names b.phis) + times n (row_of made_by b.instrs))
parts_times n b = ap (λ (k : ℕ). one_if (b.label == n) + k) (times_joined n (phi_names b.phis) (row_of made_by b.instrs))

block_other : (n : ℕ) (b : Block) → times n (block_names b) ≡ 0 → block_kind b n ≡ None
block_other n b h =
    let all = parts_times n b in
    let phis : times n (row_of name_of_phi b.phis) ≡ 0 = ap (times n) (phi_row b.phis) ∙ omega (arith, all, h) in
    ap (λ (o : Option Kind). or_first o (first_in instr_kind b.instrs n)) (row_none phi_kind name_of_phi n (phi_other n) b.phis phis)
    ∙ row_none instr_kind made_by n (instr_other n) b.instrs (omega (arith, all, h))

-- what an instruction makes
pub made_in : (i : Instr) (n : ℕ) → result_of i ≡ Some n → IsListed n (made_by i)
made_in i n e = subst (λ (o : Option ℕ). IsListed n (option_to_list o)) (sym e) (inl refl)

own_if : (r n : ℕ) (kind : Kind) → r ≡ n → kind_if r kind n ≡ Some kind
own_if r n kind e = ap (λ (x : ℕ). if x == n then Some kind else None) e ∙ ap (λ (b : Bool). if b then Some kind else None) (itself n)

module _ (f : Function) (n : ℕ) (once : times n (numbers f) ≤ 1) where
  params_once : times n (row_of name_of_param f.params) ≤ 1
  params_once =
      let both = times_joined n (params_of f) (row_of block_names f.blocks) in
      let same : times n (row_of name_of_param f.params) ≡ times n (params_of f) = ap (times n) (param_row f.params) in
      omega (arith, both, same, once)

  pub blocks_once : times n (row_of block_names f.blocks) ≤ 1
  blocks_once = let both = times_joined n (params_of f) (row_of block_names f.blocks) in omega (arith, both, once)

  -- what a block defines is no parameter
  no_param : (k : ℕ) (b : Block) → slice_get f.blocks k ≡ Some b → IsListed n (block_names b) → first_in param_kind f.params n ≡ None
  no_param k b e l =
      let both = times_joined n (params_of f) (row_of block_names f.blocks) in
      let there : 1 ≤ times n (row_of block_names f.blocks) = listed_times n (row_of block_names f.blocks) (in_row block_names f.blocks k n b e l) in
      let same : times n (row_of name_of_param f.params) ≡ times n (params_of f) = ap (times n) (param_row f.params) in
      row_none param_kind name_of_param n (param_other n) f.params (omega (arith, both, there, same, once))

  in_block : (k : ℕ) (b : Block) → slice_get f.blocks k ≡ Some b → IsListed n (block_names b) → value_kind f n ≡ block_kind b n
  in_block k b e l =
      ap (λ (o : Option Kind). or_first o (first_in block_kind f.blocks n)) (no_param k b e l)
      ∙ row_one block_kind block_names n (block_other n) f.blocks blocks_once k b e l

  pub block_once : (k : ℕ) (b : Block) → slice_get f.blocks k ≡ Some b → times n (block_names b) ≤ 1
  block_once k b e = on f.blocks k blocks_once e
    where
      on : (bs : List Block) (k : ℕ) → times n (row_of block_names bs) ≤ 1 → slice_get bs k ≡ Some b → times n (block_names b) ≤ 1
      on [] k h e = absurd (cc)
      on (c ∷ bs) zero h e = let same : c ≡ b = cc in let both = times_joined n (block_names c) (row_of block_names bs) in let here : times n (block_names c) ≤ 1 = omega (arith, both, h) in subst (λ (x : Block). times n (block_names x) ≤ 1) same here
      on (c ∷ bs) (suc k) h e = let both = times_joined n (block_names c) (row_of block_names bs) in on bs k (omega (arith, both, h)) e

  pub kind_of_param : (at : ℕ) (p : Param) → slice_get f.params at ≡ Some p → p.name ≡ n → value_kind f n ≡ Some (kind_of p.ty)
  kind_of_param at p e same =
      ap (λ (o : Option Kind). or_first o (first_in block_kind f.blocks n))
      (row_one param_kind name_of_param n (param_other n) f.params params_once at p e (inl (sym same)) ∙ own_if p.name n (kind_of p.ty) same)

  pub kind_of_phi : (k : ℕ) (b : Block) (at : ℕ) (p : Phi) → slice_get f.blocks k ≡ Some b → slice_get b.phis at ≡ Some p → p.result ≡ n → value_kind f n ≡ Some (kind_of p.ty)
  kind_of_phi k b at p e there same =
      let listed : IsListed n (row_of name_of_phi b.phis) = in_row name_of_phi b.phis at n p there (inl (sym same)) in
      let named : IsListed n (phi_names b.phis) = subst (λ (l : List ℕ). IsListed n l) (phi_row b.phis) listed in
      let all = parts_times n b in
      let one = block_once k b e in
      let few : times n (row_of name_of_phi b.phis) ≤ 1 = (let is : times n (row_of name_of_phi b.phis) ≡ times n (phi_names b.phis) = ap (times n) (phi_row b.phis) in omega (arith, is, all, one)) in
      in_block k b e (inr (listed_left n (phi_names b.phis) (row_of made_by b.instrs) named))
      ∙ ap (λ (o : Option Kind). or_first o (first_in instr_kind b.instrs n)) (row_one phi_kind name_of_phi n (phi_other n) b.phis few at p there (inl (sym same)) ∙ own_if p.result n (kind_of p.ty) same)

  pub kind_of_instr : (k : ℕ) (b : Block) (at : ℕ) (i : Instr) → slice_get f.blocks k ≡ Some b → slice_get b.instrs at ≡ Some i → result_of i ≡ Some n → value_kind f n ≡ instr_kind i n
  kind_of_instr k b at i e there makes =
      let listed : IsListed n (row_of made_by b.instrs) = in_row made_by b.instrs at n i there (made_in i n makes) in
      let some : 1 ≤ times n (row_of made_by b.instrs) = listed_times n (row_of made_by b.instrs) listed in
      let all = parts_times n b in
      let one = block_once k b e in
      let none : times n (row_of name_of_phi b.phis) ≡ 0 = ap (times n) (phi_row b.phis) ∙ omega (arith, all, one, some) in
      in_block k b e (inr (listed_right n (phi_names b.phis) (row_of made_by b.instrs) listed))
      ∙ ap (λ (o : Option Kind). or_first o (first_in instr_kind b.instrs n)) (row_none phi_kind name_of_phi n (phi_other n) b.phis none)
      ∙ row_one instr_kind made_by n (instr_other n) b.instrs (omega (arith, all, one)) at i there (made_in i n makes)
