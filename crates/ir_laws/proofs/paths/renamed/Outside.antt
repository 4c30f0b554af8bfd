-- Lemmas on outside, that speak of no pass.
use Rattle.std.proofs.Common.{◌≡◌, ◌⊎◌, inl, inr, ⊎_elim, ℕ, suc, ◌+◌, ◌-◌, Bool, true, false, List, [], ◌∷◌, ◌++◌, refl, sym, ap, ◌∙◌, arith}
use Rattle.std.specs.Prelude.{IsFalse, Some, slice_get, ◌||◌, if◌then◌else◌}
use Rattle.ir_laws.specs.facts.renamed.Regular.{passes}
use Rattle.run_laws.specs.ir_model.declared.instr.Instr.{Instr}
use Rattle.run_laws.specs.ir_model.declared.module.Block.{Block}
use Rattle.run_laws.specs.ir_model.declared.module.Function.{Function}
use Rattle.run_laws.proofs.ir_paths.Search.{same_point-same}
use Rattle.run_laws.specs.ir_paths.Paths.{has_point, same_point}
use Rattle.run_laws.specs.ir_paths.Windows.{instr_at, instr_in, points_from, points_in, points_where}
use Rattle.run_laws.specs.ir_paths.declared.point.Point.{Point}

-- ---- points at which a test passes

-- a point of a block's instructions from a position on, at which one that passes the test stands
record FoundFrom (t : Instr → Bool) (block at : ℕ) (is : List Instr) (q : Point) : Type 0 where
  place : ℕ
  point : q ≡ record { block = block; at = at + place }
  instr : Instr
  stands : slice_get is place ≡ Some instr
  passes : t instr ≡ true

found_later : (t : Instr → Bool) (block at : ℕ) (i : Instr) (is : List Instr) (q : Point) → FoundFrom t block (suc at) is q → FoundFrom t block at (i ∷ is) q
found_later t block at i is q x =
    let same : suc at + x.place ≡ at + suc x.place = omega arith in
    record { place = suc x.place; point = x.point ∙ (λ k. record { block = block; at = same k }); instr = x.instr; stands = x.stands; passes = x.passes }

found_here : (t : Instr → Bool) (block at : ℕ) (i : Instr) (is : List Instr) (q : Point) → t i ≡ true → same_point q (record { block = block; at = at }) ≡ true → FoundFrom t block at (i ∷ is) q
found_here t block at i is q d e =
    let same : at ≡ at + 0 = omega arith in
    record { place = 0; point = same_point-same q (record { block = block; at = at }) e ∙ (λ k. record { block = block; at = same k }); instr = i; stands = refl; passes = d }

found_from : (t : Instr → Bool) (block at : ℕ) (is : List Instr) (q : Point) → has_point (points_from t block at is) q ≡ true → FoundFrom t block at is q
found_from t block at [] q h = absurd (cc)
found_from t block at (i ∷ is) q h = on (t i) refl (found_from t block (suc at) is q) h
  where
    either : (b : Bool) → same_point q (record { block = block; at = at }) ≡ b → t i ≡ true → (has_point (points_from t block (suc at) is) q ≡ true → FoundFrom t block (suc at) is q) → (b || has_point (points_from t block (suc at) is) q) ≡ true → FoundFrom t block at (i ∷ is) q
    either true e d rest k = found_here t block at i is q d e
    either false e d rest k = found_later t block at i is q (rest k)

    on : (b : Bool) → t i ≡ b → (has_point (points_from t block (suc at) is) q ≡ true → FoundFrom t block (suc at) is q) → has_point (if b then record { block = block; at = at } ∷ points_from t block (suc at) is else points_from t block (suc at) is) q ≡ true → FoundFrom t block at (i ∷ is) q
    on true d rest k = either (same_point q (record { block = block; at = at })) refl d rest k
    on false d rest k = found_later t block at i is q (rest k)

has_either : (ps qs : List Point) (q : Point) → has_point (ps ++ qs) q ≡ true → (has_point ps q ≡ true) ⊎ (has_point qs q ≡ true)
has_either [] qs q h = inr h
has_either (p ∷ ps) qs q h = on (same_point q p) (has_either ps qs q) h
  where
    on : (b : Bool) → (has_point (ps ++ qs) q ≡ true → (has_point ps q ≡ true) ⊎ (has_point qs q ≡ true)) → (b || has_point (ps ++ qs) q) ≡ true → ((b || has_point ps q) ≡ true) ⊎ (has_point qs q ≡ true)
    on true rest k = inl refl
    on false rest k = rest k

in_pass : (t : Instr → Bool) (block : ℕ) (bs : List Block) (q : Point) → has_point (points_in t block bs) q ≡ true → (k : ℕ) × ((q.block ≡ block + k) × (passes t (instr_in (slice_get bs k) q.at) ≡ true))
in_pass t block [] q h = absurd (cc)
in_pass t block (b ∷ bs) q h = ⊎_elim
    (λ here.
    let x = found_from t block 0 b.instrs q here in
    let same : block ≡ block + 0 = omega arith in
    let first : 0 + x.place ≡ x.place = omega arith in
    let at : q.at ≡ x.place = ap (λ (p : Point). p.at) x.point ∙ first in
    (0, (ap (λ (p : Point). p.block) x.point ∙ same, ap (λ (n : ℕ). passes t (slice_get b.instrs n)) at ∙ ap (passes t) x.stands ∙ x.passes)))
    (λ there.
    let x = in_pass t (suc block) bs q there in
    let same : suc block + x.0 ≡ block + suc x.0 = omega arith in
    (suc x.0, (x.1.0 ∙ same, x.1.1)))
    (has_either (points_from t block 0 b.instrs) (points_in t (suc block) bs) q h)

-- a point of the instructions that pass a test passes it
pub where_pass : (t : Instr → Bool) (f : Function) (q : Point) → has_point (points_where t f) q ≡ true → passes t (instr_at f q) ≡ true
where_pass t f q h =
    let x = in_pass t 0 f.blocks q h in
    let first : 0 + x.0 ≡ x.0 = omega arith in
    let same : q.block ≡ x.0 = x.1.0 ∙ first in
    ap (λ (n : ℕ). passes t (instr_in (slice_get f.blocks n) q.at)) same ∙ x.1.1

pub where_none : (t : Instr → Bool) (f : Function) (q : Point) → passes t (instr_at f q) ≡ false → IsFalse (has_point (points_where t f) q)
where_none t f q e = on (has_point (points_where t f) q) refl
  where
    on : (b : Bool) → has_point (points_where t f) q ≡ b → b ≡ false
    on true h = let s : true ≡ false = sym (where_pass t f q h) ∙ e in absurd (cc)
    on false h = refl
