-- The next alloca of an entry block.
use Rattle.std.proofs.Common.{◌≡◌, ◌≤◌, ◌<◌, ◌∙◌, ◌+◌, ◌-◌, ℕ, zero, suc, Bool, true, false, List, [], ◌∷◌, None, Option, Some, ap, if◌then◌else◌, refl, sym, arith}
use Rattle.std.specs.Prelude.{drop, option_map, slice_get}
use Rattle.pass_elide_proof.specs.Places.{instrs_in, instrs_of}
use Rattle.pass_elide_proof.specs.pass_proofs.ir_model.Ty.{Ty}
use Rattle.pass_elide_proof.specs.pass_proofs.ir_model.declared.instr.Instr.{Instr}
use Rattle.pass_elide_proof.specs.pass_proofs.ir_model.declared.module.Block.{Block}
use Rattle.pass_elide_proof.specs.pass_proofs.ir_model.declared.module.Function.{Function}
use Rattle.pass_elide_proof.specs.pass_proofs.ir_paths.declared.point.Point.{Point}
use Rattle.pass_elide_proof.specs.pass_proofs.run_framed.Framed.{alloca_from, alloca_in, alloca_of}
use Rattle.pass_elide_proof.specs.pass_proofs.run_step.Effects.{is_alloca}

pub record IsAlloca (i : Instr) : Type 0 where
  pub name : ℕ
  pub ty : Ty
  pub align : ℕ
  pub is : i ≡ Instr.Alloca name ty align

pub alloca_is : (i : Instr) → is_alloca i ≡ true → IsAlloca i
alloca_is (Instr.Alloca name ty align) h = record { name = name; ty = ty; align = align; is = refl }
alloca_is _ h = absurd (cc)

-- ---- among instructions

pub record IsNext (at : ℕ) (is : List Instr) (n : ℕ) : Type 0 where
  pub steps : ℕ
  pub far : n ≡ at + steps
  pub instr : Instr
  pub there : slice_get is steps ≡ Some instr
  pub alloca : is_alloca instr ≡ true
  pub between : (k : ℕ) (i : Instr) → k < steps → slice_get is k ≡ Some i → is_alloca i ≡ false

next_in : (at : ℕ) (is : List Instr) (n : ℕ) → alloca_in at is ≡ Some n → IsNext at is n
next_in at [] n h = absurd (cc)
next_in at (i ∷ is) n h = by (is_alloca i) refl (next_in (suc at) is n) h
  where
    by : (t : Bool) → is_alloca i ≡ t → (alloca_in (suc at) is ≡ Some n → IsNext (suc at) is n)
        → (if t then Some at else alloca_in (suc at) is) ≡ Some n → IsNext at (i ∷ is) n
    by true et later h =
        let same : at ≡ n = cc in
        record {
          steps = 0;
          far = omega (arith, same);
          instr = i;
          there = refl;
          alloca = et;
          between = λ k j lt there. absurd (omega (arith, lt));
        }
    by false et later h =
        let rest = later h in
        let far = rest.far in
        record {
          steps = suc rest.steps;
          far = omega (arith, far);
          instr = rest.instr;
          there = rest.there;
          alloca = rest.alloca;
          between = λ k j lt there. before rest.steps rest.between k j lt there;
        }
      where
        before : (n : ℕ) → ((k : ℕ) (j : Instr) → k < n → slice_get is k ≡ Some j → is_alloca j ≡ false) → (k : ℕ)
            (j : Instr) → k < suc n → slice_get (i ∷ is) k ≡ Some j → is_alloca j ≡ false
        before n rest zero j lt there = let same : i ≡ j = cc in ap is_alloca (sym same) ∙ et
        before n rest (suc k) j lt there = rest k j (omega (arith, lt)) there

none_in : (at : ℕ) (is : List Instr) → alloca_in at is ≡ None → (k : ℕ) (i : Instr) → slice_get is k ≡ Some i
    → is_alloca i ≡ false
none_in at [] h k i there = absurd (cc)
none_in at (j ∷ is) h k i there = by (is_alloca j) refl (λ none n. none_in (suc at) is none n i) h k there
  where
    by : (t : Bool) → is_alloca j ≡ t
        → (alloca_in (suc at) is ≡ None → (n : ℕ) → slice_get is n ≡ Some i → is_alloca i ≡ false)
        → (if t then Some at else alloca_in (suc at) is) ≡ None → (n : ℕ) → slice_get (j ∷ is) n ≡ Some i
        → is_alloca i ≡ false
    by true et later h n there = absurd (cc)
    by false et later h zero there = let same : j ≡ i = cc in ap is_alloca (sym same) ∙ et
    by false et later h (suc n) there = later h n there

-- ---- in the entry block

dropped : {A : Type 0} (n : ℕ) (xs : List A) (j : ℕ) → slice_get (drop n xs) j ≡ slice_get xs (n + j)
dropped zero [] j = refl
dropped zero (x ∷ xs) j = let z : j ≡ 0 + j = omega arith in ap (slice_get (x ∷ xs)) z
dropped (suc n) [] j = refl
dropped (suc n) (x ∷ xs) j =
    let z : suc (n + j) ≡ suc n + j = omega arith in dropped n xs j ∙ ap (slice_get (x ∷ xs)) z

pub record IsNextAlloca (f : Function) (at : ℕ) (p : Point) : Type 0 where
  pub first : p.block ≡ 0
  pub further : at ≤ p.at
  pub instr : Instr
  pub there : slice_get (instrs_of f 0) p.at ≡ Some instr
  pub alloca : is_alloca instr ≡ true
  pub between : (k : ℕ) (i : Instr) → at ≤ k → k < p.at → slice_get (instrs_of f 0) k ≡ Some i → is_alloca i ≡ false

pub next_alloca : (f : Function) (at : ℕ) (p : Point) → alloca_from f at ≡ Some p → IsNextAlloca f at p
next_alloca f at p h = on (slice_get f.blocks 0) refl h
  where
    on : (o : Option Block) → slice_get f.blocks 0 ≡ o
        → option_map (λ k. record { block = 0; at = k }) (alloca_of o at) ≡ Some p → IsNextAlloca f at p
    on None eo h = absurd (cc)
    on (Some b) eo h = by (alloca_in at (drop at b.instrs)) refl h
      where
        by : (o : Option ℕ) → alloca_in at (drop at b.instrs) ≡ o
            → option_map (λ k. record { block = 0; at = k }) o ≡ Some p → IsNextAlloca f at p
        by None en h = absurd (cc)
        by (Some n) en h =
            let k = next_in at (drop at b.instrs) n en in
            let same : record { block = 0; at = n } ≡ p = cc in
            let block : 0 ≡ p.block = ap (λ (q : Point). q.block) same in
            let place : n ≡ p.at = ap (λ (q : Point). q.at) same in
            let far = k.far in
            let here : at + k.steps ≡ p.at = omega (arith, far, place) in
            record {
              first = sym block;
              further = omega (arith, far, place);
              instr = k.instr;
              there = ap (λ (o : Option Block). slice_get (instrs_in o) p.at) eo
                  ∙ (ap (slice_get b.instrs) (sym here) ∙ (sym (dropped at b.instrs k.steps) ∙ k.there));
              alloca = k.alloca;
              between = λ j i le lt there.
                  between k.steps far place k.between j i le lt
                  (sym (ap (λ (o : Option Block). slice_get (instrs_in o) j) eo) ∙ there);
            }
          where
            between : (steps : ℕ) → n ≡ at + steps → n ≡ p.at
                → ((k : ℕ) (i : Instr) → k < steps → slice_get (drop at b.instrs) k ≡ Some i → is_alloca i ≡ false)
                → (j : ℕ) (i : Instr) → at ≤ j → j < p.at → slice_get b.instrs j ≡ Some i → is_alloca i ≡ false
            between steps far place none j i le lt there =
                let back : at + (j - at) ≡ j = omega (arith, le) in
                none (j - at) i (omega (arith, far, place, le, lt))
                (dropped at b.instrs (j - at) ∙ (ap (slice_get b.instrs) back ∙ there))

pub no_alloca : (f : Function) (at : ℕ) → alloca_from f at ≡ None → (k : ℕ) (i : Instr) → at ≤ k
    → slice_get (instrs_of f 0) k ≡ Some i → is_alloca i ≡ false
no_alloca f at h k i le there = on (slice_get f.blocks 0) refl h there
  where
    on : (o : Option Block) → slice_get f.blocks 0 ≡ o
        → option_map {U = Point} (λ k. record { block = 0; at = k }) (alloca_of o at) ≡ None
        → slice_get (instrs_in o) k ≡ Some i → is_alloca i ≡ false
    on None eo h there = absurd (cc)
    on (Some b) eo h there = by (alloca_in at (drop at b.instrs)) refl h
      where
        by : (o : Option ℕ) → alloca_in at (drop at b.instrs) ≡ o
            → option_map {U = Point} (λ k. record { block = 0; at = k }) o ≡ None → is_alloca i ≡ false
        by (Some n) en h = absurd (cc)
        by None en h =
            let back : at + (k - at) ≡ k = omega (arith, le) in
            none_in at (drop at b.instrs) en (k - at) i
            (dropped at b.instrs (k - at) ∙ (ap (slice_get b.instrs) back ∙ there))
