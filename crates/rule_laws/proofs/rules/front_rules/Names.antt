-- With its allocas in front a function defines the same locals as often (rule N1).
use Rattle.std.proofs.Common.{◌≡◌, ℕ, ◌+◌, ◌≤◌, Bool, true, false, List, [], ◌∷◌, ◌++◌, None, refl, sym, subst, arith}
use Rattle.std.specs.Prelude.{filter, if◌then◌else◌}
use Rattle.rule_uses.specs.Undefined.{params_of}
use Rattle.rule_laws.proofs.rules.local_rules.Names.{numbers}
use Rattle.rule_laws.proofs.rules.local_rules.Woven.{apart_names}
use Rattle.ir_laws.proofs.paths.source_rules.Locals.{Apart}
use Rattle.rule_laws.proofs.rules.source_rules.Locals.{block_names, made_by, names_are}
use Rattle.ir_laws.proofs.facts.Lists.{phi_names, row_of, times_joined, in_front}
use Rattle.rule_laws.specs.rules.source_rules.Named.{HasTabledLocals}
use Rattle.rule_laws.proofs.rules.function_rules.Tabled.{numbers_below, tabled_by}
use Rattle.rule_laws.proofs.rules.woven_rules.Once.{apart_once}
use Rattle.ir_laws.proofs.paths.woven_rules.Once.{times_listed}
use Rattle.ir_laws.specs.facts.woven_rules.Pairs.{times}
use Rattle.ir_laws.specs.pass_front.Front.{allocas_first, is_alloca, is_no_alloca, with_allocas_first, with_front_allocas}
use Rattle.ir_parts.specs.Locals.{locals_of}
use Rattle.ir_laws.specs.ir_model.declared.instr.Instr.{Instr}
use Rattle.ir_laws.specs.ir_model.declared.module.Block.{Block}
use Rattle.ir_laws.specs.ir_model.declared.module.Function.{Function}
use Rattle.ir_laws.proofs.paths.edges.Lists.{as_different, listed_times}
use Rattle.rule_laws.proofs.rules.uses.Once.{none_twice_by}
use Rattle.rule_names.specs.Definitions.{first_twice}

module _ (v : ℕ) where
  pub parted : (is : List Instr) → times v (row_of made_by (filter is_alloca is)) + times v (row_of made_by (filter is_no_alloca is)) ≡ times v (row_of made_by is)
  parted [] = omega arith
  parted (i ∷ is) = on (is_alloca i) (parted is)
    where
      on : (t : Bool) → times v (row_of made_by (filter is_alloca is)) + times v (row_of made_by (filter is_no_alloca is)) ≡ times v (row_of made_by is) → times v (row_of made_by (if t then i ∷ filter is_alloca is else filter is_alloca is)) + times v (row_of made_by (if (if t then false else true) then i ∷ filter is_no_alloca is else filter is_no_alloca is)) ≡ times v (row_of made_by (i ∷ is))
      on true e = let a = times_joined v (made_by i) (row_of made_by (filter is_alloca is)) in let c = times_joined v (made_by i) (row_of made_by is) in omega (arith, e, a, c)
      on false e = let a = times_joined v (made_by i) (row_of made_by (filter is_no_alloca is)) in let c = times_joined v (made_by i) (row_of made_by is) in omega (arith, e, a, c)

  row_joined : (is js : List Instr) → times v (row_of made_by (is ++ js)) ≡ times v (row_of made_by is) + times v (row_of made_by js)
  row_joined [] js = omega arith
  row_joined (i ∷ is) js =
      let rest = row_joined is js in
      let a = times_joined v (made_by i) (row_of made_by (is ++ js)) in
      let b = times_joined v (made_by i) (row_of made_by is) in
      omega (arith, rest, a, b)

  pub times_front : (is : List Instr) → times v (row_of made_by (in_front is)) ≡ times v (row_of made_by is)
  times_front is = let a = row_joined (filter is_alloca is) (filter is_no_alloca is) in let b = parted is in omega (arith, a, b)

  pub times_blocks : (bs : List Block) → times v (row_of block_names (with_allocas_first bs)) ≡ times v (row_of block_names bs)
  times_blocks [] = refl
  times_blocks (b ∷ bs) =
      let a = times_joined v (block_names (allocas_first b)) (row_of block_names bs) in
      let c = times_joined v (block_names b) (row_of block_names bs) in
      let d = times_joined v (phi_names b.phis) (row_of made_by (in_front b.instrs)) in
      let e = times_joined v (phi_names b.phis) (row_of made_by b.instrs) in
      let same = times_front b.instrs in
      omega (arith, a, c, d, e, same)

module _ (func : ℕ) (f : Function) where
  pub times_numbers : (v : ℕ) → times v (numbers (with_front_allocas f)) ≡ times v (numbers f)
  times_numbers v =
      let a = times_joined v (params_of f) (row_of block_names (with_allocas_first f.blocks)) in
      let b = times_joined v (params_of f) (row_of block_names f.blocks) in
      let same = times_blocks v f.blocks in
      omega (arith, a, b, same)

  pub names_tabled : HasTabledLocals func f → HasTabledLocals func (with_front_allocas f)
  names_tabled tabled =
      tabled_by func (with_front_allocas f) (λ n l.
      numbers_below func f tabled n (listed_times n (numbers f) (subst (λ (k : ℕ). 1 ≤ k) (times_numbers n) (times_listed n (numbers (with_front_allocas f)) l))))

  -- what stands once
  pub once_at : first_twice [] (locals_of func f) ≡ None → (v : ℕ) → times v (numbers f) ≤ 1
  once_at once v = apart_once (numbers f) (as_different (numbers f) (subst Apart (names_are func f) (apart_names [] (locals_of func f) once))) v

  pub names_once : first_twice [] (locals_of func f) ≡ None → first_twice [] (locals_of func (with_front_allocas f)) ≡ None
  names_once once = none_twice_by func (with_front_allocas f) (λ v. subst (λ (k : ℕ). k ≤ 1) (sym (times_numbers v)) (once_at once v))
