-- What the result defines, it defines once (N1): old names as often as before, new names once.
use Rattle.std.proofs.Common.{◌≡◌, inl, inr, ◌⊎◌, ℕ, ◌+◌, ◌<◌, ◌≤◌, Bool, true, false, List, [], ◌∷◌, ◌++◌, length, refl, sym, ap, ◌∙◌, subst, arith, append_assoc}
use Rattle.std.proofs.lemmas.Bool.{cases_lt}
use Rattle.std.specs.Prelude.{None, Some, map, ◌==◌}
use Rattle.rule_uses.specs.Undefined.{params_of}
use Rattle.rule_laws.proofs.rules.local_rules.Names.{numbers}
use Rattle.rule_laws.proofs.rules.local_rules.Woven.{apart_names, none_twice}
use Rattle.ir_laws.proofs.facts.local_rules.Woven.{other_number}
use Rattle.ir_laws.proofs.paths.source_rules.Locals.{Apart, listed_left, listed_right}
use Rattle.rule_laws.proofs.rules.source_rules.Locals.{block_names, made_by, names_are}
use Rattle.ir_laws.proofs.facts.Lists.{phi_names, row_of, times_joined}
use Rattle.rule_laws.specs.rules.source_rules.Named.{HasTabledLocals}
use Rattle.ir_laws.specs.flow_solver.Paths.{IsListed}
use Rattle.ir_parts.specs.Locals.{locals_of}
use Rattle.pass_intrinsics.specs.Lowered.{lowered, names_taken}
use Rattle.pass_intrinsics.specs.declared.shape.Part.{Part}
use Rattle.pass_intrinsics.specs.declared.shape.Shape.{Shape}
use Rattle.ir_laws.specs.ir_model.declared.instr.Instr.{Instr}
use Rattle.ir_laws.specs.ir_model.declared.module.Block.{Block}
use Rattle.ir_laws.specs.ir_model.declared.module.Function.{Function}
use Rattle.rule_names.specs.Definitions.{first_twice}
use Rattle.rule_laws.proofs.frames.turned.Turned.{AreTurned, Becomes, Destroyed, IsTurned, NoneTurned, OneTurned, Promised, Resumed, Same, Tested, becomes, names_behind, turned}
use Rattle.rule_laws.proofs.rules.turned.Turned.{IsOuter}
use Rattle.ir_laws.specs.run_laws.changed.Changed.{Each}
use Rattle.rule_laws.proofs.rules.woven_rules.Once.{AreOnce, apart_once, names_below, once_apart}
use Rattle.ir_laws.proofs.paths.woven_rules.Once.{times_none}
use Rattle.ir_laws.specs.facts.woven_rules.Pairs.{one_if, times}

rows_joined : (is js : List Instr) → row_of made_by (is ++ js) ≡ row_of made_by is ++ row_of made_by js
rows_joined [] js = refl
rows_joined (i ∷ is) js = ap (λ (ns : List ℕ). made_by i ++ ns) (rows_joined is js) ∙ sym (append_assoc (made_by i) (row_of made_by is) (row_of made_by js))

apart_number : (x v : ℕ) → (x ≡ v → ⊥) → one_if (x == v) ≡ 0
apart_number x v d = ap one_if (other_number x v d)

-- ---- old names

-- the instructions make the name no more often than the one
old_becomes : (v n : ℕ) (i : Instr) (js : List Instr) (taken : ℕ) → v < n → Becomes n i js taken → times v (row_of made_by js) ≤ times v (made_by i)
old_becomes v n _ _ _ low (Same i) = let e : times v (made_by i ++ []) ≡ times v (made_by i) + times v [] = times_joined v (made_by i) [] in omega (arith, e)
old_becomes v n _ _ _ low (Resumed must_tail ty args) =
    let e : one_if (n == v) ≡ 0 = apart_number n v (λ s. let same : n ≡ v = s in absurd (omega (arith, same, low))) in omega (arith, e)
old_becomes v n _ _ _ low (Destroyed must_tail ty args) =
    let e : one_if (n == v) ≡ 0 = apart_number n v (λ s. let same : n ≡ v = s in absurd (omega (arith, same, low))) in
    let d : one_if (n + 1 == v) ≡ 0 = apart_number (n + 1) v (λ s. let same : n + 1 ≡ v = s in absurd (omega (arith, same, low))) in
    omega (arith, e, d)
old_becomes v n _ _ _ low (Tested None must_tail ty args) = omega arith
old_becomes v n _ _ _ low (Tested (Some r) must_tail ty args) =
    let e : one_if (n == v) ≡ 0 = apart_number n v (λ s. let same : n ≡ v = s in absurd (omega (arith, same, low))) in omega (arith, e)
old_becomes v n _ _ _ low (Promised None must_tail ty args) = omega arith
old_becomes v n _ _ _ low (Promised (Some r) must_tail ty args) = omega arith

grows : (n : ℕ) (is : List Instr) → n ≤ names_behind n is
grows n [] = omega arith
grows n (i ∷ is) = let more : n + names_taken i ≤ names_behind (n + names_taken i) is = grows (n + names_taken i) is in omega (arith, more)

old_turned : (s : Shape) (v n : ℕ) (is : List Instr) → Each IsOuter is → v < n → times v (row_of made_by (turned s n is)) ≤ times v (row_of made_by is)
old_turned s v n [] o low = omega arith
old_turned s v n (i ∷ is) o low =
    let rest : List Instr = turned s (n + names_taken i) is in
    let here : times v (row_of made_by (lowered s Part.Ramp n i)) ≤ times v (made_by i) = old_becomes v n i (lowered s Part.Ramp n i) (names_taken i) low (becomes s n i o.0) in
    let more : times v (row_of made_by rest) ≤ times v (row_of made_by is) = old_turned s v (n + names_taken i) is o.1 (omega (arith, low)) in
    let e : times v (row_of made_by (lowered s Part.Ramp n i ++ rest)) ≡ times v (row_of made_by (lowered s Part.Ramp n i)) + times v (row_of made_by rest) = ap (times v) (rows_joined (lowered s Part.Ramp n i) rest) ∙ times_joined v (row_of made_by (lowered s Part.Ramp n i)) (row_of made_by rest) in
    let d : times v (made_by i ++ row_of made_by is) ≡ times v (made_by i) + times v (row_of made_by is) = times_joined v (made_by i) (row_of made_by is) in
    omega (arith, here, more, e, d)

names_count : (v : ℕ) (b : Block) → times v (block_names b) ≡ one_if (b.label == v) + (times v (phi_names b.phis) + times v (row_of made_by b.instrs))
names_count v b = let e : times v (phi_names b.phis ++ row_of made_by b.instrs) ≡ times v (phi_names b.phis) + times v (row_of made_by b.instrs) = times_joined v (phi_names b.phis) (row_of made_by b.instrs) in omega (arith, e)

turned_count : (s : Shape) (v n : ℕ) (b c : Block) → IsTurned s n b c → times v (block_names c) ≡ one_if (b.label == v) + (times v (phi_names b.phis) + times v (row_of made_by (turned s n b.instrs)))
turned_count s v n b c t =
    names_count v c
    ∙ (λ k. one_if (t.label k == v) + (times v (phi_names (t.phis k)) + times v (row_of made_by (t.instrs k))))

old_blocks : (s : Shape) (v n : ℕ) (bs cs : List Block) → AreTurned s n bs cs → v < n → times v (row_of block_names cs) ≤ times v (row_of block_names bs)
old_blocks s v _ _ _ (NoneTurned n) low = omega arith
old_blocks s v _ _ _ (OneTurned n b c bs cs t rest) low =
    let grown : n ≤ names_behind n b.instrs = grows n b.instrs in
    let more : times v (row_of block_names cs) ≤ times v (row_of block_names bs) = old_blocks s v (names_behind n b.instrs) bs cs rest (omega (arith, low, grown)) in
    let instrs : times v (row_of made_by (turned s n b.instrs)) ≤ times v (row_of made_by b.instrs) = old_turned s v n b.instrs t.outer low in
    let e : times v (block_names c ++ row_of block_names cs) ≡ times v (block_names c) + times v (row_of block_names cs) = times_joined v (block_names c) (row_of block_names cs) in
    let d : times v (block_names b ++ row_of block_names bs) ≡ times v (block_names b) + times v (row_of block_names bs) = times_joined v (block_names b) (row_of block_names bs) in
    let x : times v (block_names c) ≡ one_if (b.label == v) + (times v (phi_names b.phis) + times v (row_of made_by (turned s n b.instrs))) = turned_count s v n b c t in
    let y : times v (block_names b) ≡ one_if (b.label == v) + (times v (phi_names b.phis) + times v (row_of made_by b.instrs)) = names_count v b in
    omega (arith, more, instrs, e, d, x, y)

-- ---- new names

-- the name stands there at most once, and only between the bounds
record IsSpread (v low high : ℕ) (row : List ℕ) : Type 0 where
  pub below : v < low → times v row ≡ 0
  pub above : high ≤ v → times v row ≡ 0
  pub most : times v row ≤ 1

spread_none : (v n : ℕ) → IsSpread v n n []
spread_none v n = record { below = λ h. refl; above = λ h. refl; most = omega arith }

spread_joined : (v low mid high : ℕ) (xs ys : List ℕ) → low ≤ mid → mid ≤ high → IsSpread v low mid xs → IsSpread v mid high ys → IsSpread v low high (xs ++ ys)
spread_joined v low mid high xs ys p q a b =
    record {
      below = λ h. let x : times v xs ≡ 0 = a.below h in let y : times v ys ≡ 0 = b.below (omega (arith, h, p)) in omega (arith, e, x, y);
      above = λ h. let x : times v xs ≡ 0 = a.above (omega (arith, h, q)) in let y : times v ys ≡ 0 = b.above h in omega (arith, e, x, y);
      most = on (cases_lt v mid);
    }
  where
    e : times v (xs ++ ys) ≡ times v xs + times v ys
    e = times_joined v xs ys

    on : (v < mid) ⊎ (mid ≤ v) → times v (xs ++ ys) ≤ 1
    on (inl h) = let y : times v ys ≡ 0 = b.below h in let x : times v xs ≤ 1 = a.most in omega (arith, e, x, y)
    on (inr h) = let x : times v xs ≡ 0 = a.above h in let y : times v ys ≤ 1 = b.most in omega (arith, e, x, y)

spread_zero : (v n m : ℕ) (row : List ℕ) → times v row ≡ 0 → IsSpread v n m row
spread_zero v n m row e = record { below = λ h. e; above = λ h. e; most = omega (arith, e) }

spread_one : (v n : ℕ) → IsSpread v n (n + 1) (n ∷ [])
spread_one v n =
    record {
      below = λ h. let e : one_if (n == v) ≡ 0 = apart_number n v (λ s. let same : n ≡ v = s in absurd (omega (arith, same, h))) in omega (arith, e);
      above = λ h. let e : one_if (n == v) ≡ 0 = apart_number n v (λ s. let same : n ≡ v = s in absurd (omega (arith, same, h))) in omega (arith, e);
      most = on (n == v);
    }
  where
    on : (b : Bool) → one_if b + 0 ≤ 1
    on true = omega arith
    on false = omega arith

new_becomes : (v n : ℕ) (i : Instr) (js : List Instr) (taken : ℕ) → (IsListed v (made_by i) → ⊥) → Becomes n i js taken → IsSpread v n (n + taken) (row_of made_by js)
new_becomes v n _ _ _ none (Same i) =
    spread_zero v n (n + 0) (made_by i ++ []) (let e : times v (made_by i ++ []) ≡ times v (made_by i) + times v [] = times_joined v (made_by i) [] in let d : times v (made_by i) ≡ 0 = times_none v (made_by i) none in omega (arith, e, d))
new_becomes v n _ _ _ none (Resumed must_tail ty args) = spread_one v n
new_becomes v n _ _ _ none (Destroyed must_tail ty args) =
    let up : n + 1 ≤ n + 2 = omega arith in
    let two : n + 1 + 1 ≡ n + 2 = omega arith in
    spread_joined v n (n + 1) (n + 2) (n ∷ []) ((n + 1) ∷ []) (omega arith) up (spread_one v n) (subst (λ (k : ℕ). IsSpread v (n + 1) k ((n + 1) ∷ [])) two (spread_one v (n + 1)))
new_becomes v n _ _ _ none (Tested None must_tail ty args) = spread_zero v n (n + 1) [] refl
new_becomes v n _ _ _ none (Tested (Some r) must_tail ty args) =
    spread_joined v n (n + 1) (n + 1) (n ∷ []) (r ∷ []) (omega arith) (omega arith) (spread_one v n)
    (spread_zero v (n + 1) (n + 1) (r ∷ []) (let d : one_if (r == v) ≡ 0 = apart_number r v (λ s. none (inl (sym s))) in omega (arith, d)))
new_becomes v n _ _ _ none (Promised None must_tail ty args) = spread_zero v n (n + 0) [] refl
new_becomes v n _ _ _ none (Promised (Some r) must_tail ty args) = spread_zero v n (n + 0) (r ∷ []) (let d : one_if (r == v) ≡ 0 = apart_number r v (λ s. none (inl (sym s))) in omega (arith, d))

new_turned : (s : Shape) (v n : ℕ) (is : List Instr) → Each IsOuter is → (IsListed v (row_of made_by is) → ⊥) → IsSpread v n (names_behind n is) (row_of made_by (turned s n is))
new_turned s v n [] o none = spread_none v n
new_turned s v n (i ∷ is) o none =
    let rest : List Instr = turned s (n + names_taken i) is in
    subst (IsSpread v n (names_behind (n + names_taken i) is)) (sym (rows_joined (lowered s Part.Ramp n i) rest))
    (spread_joined v n (n + names_taken i) (names_behind (n + names_taken i) is) (row_of made_by (lowered s Part.Ramp n i)) (row_of made_by rest) (omega arith) (grows (n + names_taken i) is)
    (new_becomes v n i (lowered s Part.Ramp n i) (names_taken i) (λ l. none (listed_left v (made_by i) (row_of made_by is) l)) (becomes s n i o.0))
    (new_turned s v (n + names_taken i) is o.1 (λ l. none (listed_right v (made_by i) (row_of made_by is) l))))

abbrev names_after : ℕ → List Block → ℕ
names_after n [] = n
names_after n (b ∷ bs) = names_after (names_behind n b.instrs) bs

grows_after : (n : ℕ) (bs : List Block) → n ≤ names_after n bs
grows_after n [] = omega arith
grows_after n (b ∷ bs) =
    let here : n ≤ names_behind n b.instrs = grows n b.instrs in
    let more : names_behind n b.instrs ≤ names_after (names_behind n b.instrs) bs = grows_after (names_behind n b.instrs) bs in
    omega (arith, here, more)

new_blocks : (s : Shape) (v n : ℕ) (bs cs : List Block) → AreTurned s n bs cs → (IsListed v (row_of block_names bs) → ⊥) → IsSpread v n (names_after n bs) (row_of block_names cs)
new_blocks s v _ _ _ (NoneTurned n) none = spread_none v n
new_blocks s v _ _ _ (OneTurned n b c bs cs t rest) none =
    spread_joined v n (names_behind n b.instrs) (names_after (names_behind n b.instrs) bs) (block_names c) (row_of block_names cs) (grows n b.instrs) (grows_after (names_behind n b.instrs) bs) here
    (new_blocks s v (names_behind n b.instrs) bs cs rest (λ l. none (listed_right v (block_names b) (row_of block_names bs) l)))
  where
    own : IsListed v (block_names b) → ⊥
    own l = none (listed_left v (block_names b) (row_of block_names bs) l)

    instrs : IsSpread v n (names_behind n b.instrs) (row_of made_by (turned s n b.instrs))
    instrs = new_turned s v n b.instrs t.outer (λ l. own (inr (listed_right v (phi_names b.phis) (row_of made_by b.instrs) l)))

    same : times v (block_names c) ≡ times v (row_of made_by (turned s n b.instrs))
    same =
        let e : times v (block_names c) ≡ one_if (b.label == v) + (times v (phi_names b.phis) + times v (row_of made_by (turned s n b.instrs))) = turned_count s v n b c t in
        let d : one_if (b.label == v) ≡ 0 = apart_number b.label v (λ x. own (inl (sym x))) in
        let p : times v (phi_names b.phis) ≡ 0 = times_none v (phi_names b.phis) (λ l. own (inr (listed_left v (phi_names b.phis) (row_of made_by b.instrs) l))) in
        omega (arith, e, d, p)

    here : IsSpread v n (names_behind n b.instrs) (block_names c)
    here = record { below = λ h. same ∙ instrs.below h; above = λ h. same ∙ instrs.above h; most = let m : times v (row_of made_by (turned s n b.instrs)) ≤ 1 = instrs.most in omega (arith, same, m) }

-- ---- the function

pub once_turned : (s : Shape) (k l : ℕ) (f g : Function) → AreTurned s (length f.names) f.blocks g.blocks → g.params ≡ f.params → HasTabledLocals k f → first_twice [] (locals_of k f) ≡ None → first_twice [] (locals_of l g) ≡ None
once_turned s k l f g blocks params tabled twice = none_twice [] (locals_of l g) (subst Apart (sym (names_are l g)) (once_apart (numbers g) once)) (λ n h. refl)
  where
    before : AreOnce (numbers f)
    before = apart_once (numbers f) (subst Apart (names_are k f) (apart_names [] (locals_of k f) twice))

    once : AreOnce (numbers g)
    once v = on (cases_lt v (length f.names))
      where
        in_g : times v (numbers g) ≡ times v (params_of g) + times v (row_of block_names g.blocks)
        in_g = times_joined v (params_of g) (row_of block_names g.blocks)

        in_f : times v (numbers f) ≡ times v (params_of f) + times v (row_of block_names f.blocks)
        in_f = times_joined v (params_of f) (row_of block_names f.blocks)

        same : times v (params_of g) ≡ times v (params_of f)
        same = ap (λ ps. times v (map (λ p. p.name) ps)) params

        on : (v < length f.names) ⊎ (length f.names ≤ v) → times v (numbers g) ≤ 1
        on (inl low) =
            let less : times v (row_of block_names g.blocks) ≤ times v (row_of block_names f.blocks) = old_blocks s v (length f.names) f.blocks g.blocks blocks low in
            let most : times v (numbers f) ≤ 1 = before v in
            omega (arith, in_g, in_f, same, less, most)
        on (inr high) =
            let none : IsListed v (numbers f) → ⊥ = λ x. let low : v < length f.names = names_below k f tabled v x in absurd (omega (arith, low, high)) in
            let zero_params : times v (params_of f) ≡ 0 = times_none v (params_of f) (λ x. none (listed_left v (params_of f) (row_of block_names f.blocks) x)) in
            let most : times v (row_of block_names g.blocks) ≤ 1 = (new_blocks s v (length f.names) f.blocks g.blocks blocks (λ x. none (listed_right v (params_of f) (row_of block_names f.blocks) x))).most in
            omega (arith, in_g, same, zero_params, most)
