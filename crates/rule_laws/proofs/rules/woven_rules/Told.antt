-- What the values of a function are by its instructions, where some are made once: so the kinds of new values are those that the result itself gives them.
use Rattle.std.proofs.Common.{◌≡◌, inl, inr, ℕ, zero, suc, ◌+◌, ◌≤◌, true, List, [], ◌∷◌, ◌++◌, refl, sym, ap, ◌∙◌, subst, arith}
use Rattle.std.specs.Prelude.{None, Option, Some, is_some, slice_get}
use Rattle.rule_uses.specs.Uses.{block_values}
use Rattle.rule_uses.specs.Undefined.{params_of}
use Rattle.rule_laws.proofs.rules.local_rules.Names.{numbers}
use Rattle.rule_laws.proofs.rules.local_rules.ValueKinds.{instr_none, params_none, phis_none}
use Rattle.rule_laws.proofs.rules.source_rules.Locals.{block_names, made_by}
use Rattle.ir_laws.proofs.paths.source_rules.Locals.{listed_left, listed_right}
use Rattle.ir_laws.proofs.facts.Lists.{phi_names, row_of, times_joined}
use Rattle.ir_laws.specs.flow_solver.Paths.{IsListed}
use Rattle.ir_parts.specs.Contents.{result_of}
use Rattle.ir_laws.specs.ir_model.declared.instr.Instr.{Instr}
use Rattle.ir_laws.specs.ir_model.declared.module.Block.{Block}
use Rattle.ir_laws.specs.ir_model.declared.module.Function.{Function}
use Rattle.ir_laws.specs.ir_locals.Tables.{first_in, or_first}
use Rattle.rule_values.specs.Kinds.{block_kind, instr_kind, param_kind, phi_kind, value_kind}
use Rattle.rule_values.specs.declared.kinds.Kind.{Kind}
use Rattle.rule_laws.proofs.rules.woven_rules.Once.{times_block}
use Rattle.ir_laws.proofs.paths.woven_rules.Once.{times_listed}
use Rattle.rule_laws.proofs.rules.woven_rules.ValueKinds.{instr_some, is_result}
use Rattle.rule_laws.specs.rules.woven_rules.Blocks.{times_made}
use Rattle.ir_laws.specs.facts.woven_rules.Pairs.{times}
use Rattle.rule_laws.proofs.rules.woven_rules.Laid.{or_some as first_is}

-- the kind of a value by the blocks
abbrev pub made_kind : Function → ℕ → Option Kind
made_kind g n = first_in block_kind g.blocks n

none_first : (o p : Option Kind) → o ≡ None → or_first o p ≡ p
none_first o p e = ap (λ (x : Option Kind). or_first x p) e

module _ (n : ℕ) where
  unlisted : (xs : List ℕ) → times n xs ≡ 0 → IsListed n xs → ⊥
  unlisted xs e l = let more : 1 ≤ times n xs = times_listed n xs l in absurd (omega (arith, e, more))

  made_listed : (j : Instr) → result_of j ≡ Some n → IsListed n (made_by j)
  made_listed j e = is_result (result_of j) n e

  in_row_of : (is : List Instr) (j : Instr) → IsListed j is → result_of j ≡ Some n → IsListed n (row_of made_by is)
  in_row_of [] j l e = absurd l
  in_row_of (i ∷ is) j (inl same) e = listed_left n (made_by i) (row_of made_by is) (subst (λ (x : Instr). IsListed n (made_by x)) same (made_listed j e))
  in_row_of (i ∷ is) j (inr l) e = listed_right n (made_by i) (row_of made_by is) (in_row_of is j l e)

  instrs_none : (is : List Instr) → times n (row_of made_by is) ≡ 0 → first_in instr_kind is n ≡ None
  instrs_none [] e = refl
  instrs_none (i ∷ is) e =
      let d : times n (made_by i ++ row_of made_by is) ≡ times n (made_by i) + times n (row_of made_by is) = times_joined n (made_by i) (row_of made_by is) in
      let here : times n (made_by i) ≡ 0 = omega (arith, d, e) in
      let rest : times n (row_of made_by is) ≡ 0 = omega (arith, d, e) in
      none_first (instr_kind i n) (first_in instr_kind is n) (instr_none n i (unlisted (made_by i) here)) ∙ instrs_none is rest

  instrs_told : (is : List Instr) (j : Instr) → times n (row_of made_by is) ≤ 1 → IsListed j is → result_of j ≡ Some n → first_in instr_kind is n ≡ instr_kind j n
  instrs_told [] j most l e = absurd l
  instrs_told (i ∷ is) j most (inl same) e =
      let here : is_some (instr_kind i n) ≡ true = subst (λ (x : Instr). is_some (instr_kind x n) ≡ true) same (instr_some n j e) in
      first_is (instr_kind i n) (first_in instr_kind is n) here ∙ sym (ap (λ (x : Instr). instr_kind x n) same)
  instrs_told (i ∷ is) j most (inr l) e =
      let d : times n (made_by i ++ row_of made_by is) ≡ times n (made_by i) + times n (row_of made_by is) = times_joined n (made_by i) (row_of made_by is) in
      let more : 1 ≤ times n (row_of made_by is) = times_listed n (row_of made_by is) (in_row_of is j l e) in
      let here : times n (made_by i) ≡ 0 = omega (arith, d, more, most) in
      let rest : times n (row_of made_by is) ≤ 1 = omega (arith, d, most) in
      none_first (instr_kind i n) (first_in instr_kind is n) (instr_none n i (unlisted (made_by i) here)) ∙ instrs_told is j rest l e

  block_none : (b : Block) → times n (block_values b) ≡ 0 → block_kind b n ≡ None
  block_none b e =
      let d : times n (block_values b) ≡ times n (phi_names b.phis) + times n (row_of made_by b.instrs) = times_block n b in
      let phis : times n (phi_names b.phis) ≡ 0 = omega (arith, d, e) in
      let instrs : times n (row_of made_by b.instrs) ≡ 0 = omega (arith, d, e) in
      none_first (first_in phi_kind b.phis n) (first_in instr_kind b.instrs n) (phis_none n b.phis (unlisted (phi_names b.phis) phis)) ∙ instrs_none b.instrs instrs

  block_told : (b : Block) (j : Instr) → times n (block_values b) ≤ 1 → IsListed j b.instrs → result_of j ≡ Some n → block_kind b n ≡ instr_kind j n
  block_told b j most l e =
      let d : times n (block_values b) ≡ times n (phi_names b.phis) + times n (row_of made_by b.instrs) = times_block n b in
      let more : 1 ≤ times n (row_of made_by b.instrs) = times_listed n (row_of made_by b.instrs) (in_row_of b.instrs j l e) in
      let phis : times n (phi_names b.phis) ≡ 0 = omega (arith, d, more, most) in
      let instrs : times n (row_of made_by b.instrs) ≤ 1 = omega (arith, d, most) in
      none_first (first_in phi_kind b.phis n) (first_in instr_kind b.instrs n) (phis_none n b.phis (unlisted (phi_names b.phis) phis)) ∙ instrs_told b.instrs j instrs l e

  made_there : (bs : List Block) (at : ℕ) (b : Block) (j : Instr) → slice_get bs at ≡ Some b → IsListed j b.instrs → result_of j ≡ Some n → 1 ≤ times_made n bs
  made_there [] at b j there l e = absurd (cc)
  made_there (c ∷ bs) zero b j there l e =
      let is_one : b ≡ c = cc in
      let d : times n (block_values c) ≡ times n (phi_names c.phis) + times n (row_of made_by c.instrs) = times_block n c in
      let more : 1 ≤ times n (row_of made_by c.instrs) = times_listed n (row_of made_by c.instrs) (in_row_of c.instrs j (subst (λ (x : Block). IsListed j x.instrs) is_one l) e) in
      omega (arith, d, more)
  made_there (c ∷ bs) (suc at) b j there l e = let more : 1 ≤ times_made n bs = made_there bs at b j there l e in omega (arith, more)

  blocks_told : (bs : List Block) (at : ℕ) (b : Block) (j : Instr) → times_made n bs ≤ 1 → slice_get bs at ≡ Some b → IsListed j b.instrs → result_of j ≡ Some n → first_in block_kind bs n ≡ instr_kind j n
  blocks_told [] at b j most there l e = absurd (cc)
  blocks_told (c ∷ bs) zero b j most there l e =
      let is_one : b ≡ c = cc in
      let here : times n (block_values c) ≤ 1 = omega (arith, most) in
      let told : block_kind c n ≡ instr_kind j n = block_told c j here (subst (λ (x : Block). IsListed j x.instrs) is_one l) e in
      first_is (block_kind c n) (first_in block_kind bs n) (ap (λ (o : Option Kind). is_some o) told ∙ instr_some n j e) ∙ told
  blocks_told (c ∷ bs) (suc at) b j most there l e =
      let more : 1 ≤ times_made n bs = made_there bs at b j there l e in
      let here : times n (block_values c) ≡ 0 = omega (arith, more, most) in
      let rest : times_made n bs ≤ 1 = omega (arith, most) in
      none_first (block_kind c n) (first_in block_kind bs n) (block_none c here) ∙ blocks_told bs at b j rest there l e

  -- a value that is made once is what the instruction that makes it says
  pub told : (g : Function) → times_made n g.blocks ≤ 1 → (at : ℕ) (b : Block) (j : Instr) → slice_get g.blocks at ≡ Some b → IsListed j b.instrs → result_of j ≡ Some n → instr_kind j n ≡ made_kind g n
  told g most at b j there l e = sym (blocks_told g.blocks at b j most there l e)

  made_fewer : (bs : List Block) → times_made n bs ≤ times n (row_of block_names bs)
  made_fewer [] = omega arith
  made_fewer (b ∷ bs) =
      let a : times n (block_names b ++ row_of block_names bs) ≡ times n (block_names b) + times n (row_of block_names bs) = times_joined n (block_names b) (row_of block_names bs) in
      let c : times n (phi_names b.phis ++ row_of made_by b.instrs) ≡ times n (phi_names b.phis) + times n (row_of made_by b.instrs) = times_joined n (phi_names b.phis) (row_of made_by b.instrs) in
      let d : times n (block_values b) ≡ times n (phi_names b.phis) + times n (row_of made_by b.instrs) = times_block n b in
      let rest : times_made n bs ≤ times n (row_of block_names bs) = made_fewer bs in
      let e : times n (b.label ∷ (phi_names b.phis ++ row_of made_by b.instrs)) ≡ times n (block_names b) = refl in
      omega (arith, a, c, d, rest, e)

  -- so it is of a value of a function, whose names stand once
  pub value_told : (f : Function) → times n (numbers f) ≤ 1 → (at : ℕ) (b : Block) (j : Instr) → slice_get f.blocks at ≡ Some b → IsListed j b.instrs → result_of j ≡ Some n → value_kind f n ≡ instr_kind j n
  value_told f most at b j there l e =
      let a : times n (numbers f) ≡ times n (params_of f) + times n (row_of block_names f.blocks) = times_joined n (params_of f) (row_of block_names f.blocks) in
      let c : times_made n f.blocks ≤ times n (row_of block_names f.blocks) = made_fewer f.blocks in
      let more : 1 ≤ times_made n f.blocks = made_there f.blocks at b j there l e in
      let params : times n (params_of f) ≡ 0 = omega (arith, a, c, more, most) in
      let made : times_made n f.blocks ≤ 1 = omega (arith, a, c, most) in
      none_first (first_in param_kind f.params n) (first_in block_kind f.blocks n) (params_none n f.params (unlisted (params_of f) params)) ∙ blocks_told f.blocks at b j made there l e
