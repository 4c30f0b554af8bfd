-- The points of the instructions that pass a test, and saves with their suspends, are listed.
use Rattle.std.proofs.Common.{◌≡◌, inl, inr, ℕ, zero, suc, ◌+◌, Bool, true, false, List, [], ◌∷◌, Option, Some, refl, sym, ap, ◌∙◌, subst, arith}
use Rattle.std.specs.List.{cons_option, filter_map}
use Rattle.std.specs.Prelude.{option_map, slice_get, if◌then◌else◌}
use Rattle.ir_laws.proofs.paths.renamed.Uses.{stands_in}
use Rattle.ir_laws.proofs.paths.source_rules.Locals.{listed_left, listed_right}
use Rattle.run_laws.specs.flow_solver.Paths.{IsListed}
use Rattle.run_laws.specs.ir_model.declared.instr.Instr.{Instr}
use Rattle.run_laws.specs.ir_model.declared.module.Block.{Block}
use Rattle.run_laws.specs.ir_model.declared.module.Function.{Function}
use Rattle.run_laws.specs.ir_paths.Windows.{instr_at, points_from, points_in, points_where, suspend_of}
use Rattle.run_laws.specs.ir_paths.declared.point.Point.{Point}
use Rattle.ir_laws.proofs.paths.source_rules.Windows.{listed_more}

module _ (test : Instr → Bool) where
  listed_here : (b : Bool) (p : Point) (ps : List Point) → b ≡ true → IsListed p (if b then p ∷ ps else ps)
  listed_here true p ps e = inl refl
  listed_here false p ps e = absurd (cc)

  listed_later : (b : Bool) (q p : Point) (ps : List Point) → IsListed q ps → IsListed q (if b then p ∷ ps else ps)
  listed_later true q p ps h = inr h
  listed_later false q p ps h = h

  in_points : (block at : ℕ) (is : List Instr) (k : ℕ) (i : Instr) → slice_get is k ≡ Some i → test i ≡ true → IsListed (record { block = block; at = at + k }) (points_from test block at is)
  in_points block at [] k i e h = absurd (cc)
  in_points block at (x ∷ is) zero i e h =
      let same : at ≡ at + 0 = omega arith in
      let is_one : i ≡ x = cc in
      subst (λ (n : ℕ). IsListed (record { block = block; at = n }) (points_from test block at (x ∷ is))) same
      (listed_here (test x) (record { block = block; at = at }) (points_from test block (suc at) is) (ap test (sym is_one) ∙ h))
  in_points block at (x ∷ is) (suc k) i e h =
      let same : suc at + k ≡ at + suc k = omega arith in
      subst (λ (n : ℕ). IsListed (record { block = block; at = n }) (points_from test block at (x ∷ is))) same
      (listed_later (test x) (record { block = block; at = suc at + k }) (record { block = block; at = at }) (points_from test block (suc at) is) (in_points block (suc at) is k i e h))

  in_blocks : (block : ℕ) (bs : List Block) (k : ℕ) (b : Block) (at : ℕ) (i : Instr) → slice_get bs k ≡ Some b → slice_get b.instrs at ≡ Some i → test i ≡ true → IsListed (record { block = block + k; at = at }) (points_in test block bs)
  in_blocks block [] k b at i e d h = absurd (cc)
  in_blocks block (c ∷ bs) zero b at i e d h =
      let same : block ≡ block + 0 = omega arith in
      let is_one : b ≡ c = cc in
      let first : 0 + at ≡ at = omega arith in
      subst (λ (n : ℕ). IsListed (record { block = n; at = at }) (points_in test block (c ∷ bs))) same
      (listed_left (record { block = block; at = at }) (points_from test block 0 c.instrs) (points_in test (suc block) bs)
      (subst (λ (x : Block). IsListed (record { block = block; at = at }) (points_from test block 0 x.instrs)) is_one
      (subst (λ (n : ℕ). IsListed (record { block = block; at = n }) (points_from test block 0 b.instrs)) first (in_points block 0 b.instrs at i d h))))
  in_blocks block (c ∷ bs) (suc k) b at i e d h =
      let same : suc block + k ≡ block + suc k = omega arith in
      subst (λ (n : ℕ). IsListed (record { block = n; at = at }) (points_in test block (c ∷ bs))) same
      (listed_right (record { block = suc block + k; at = at }) (points_from test block 0 c.instrs) (points_in test (suc block) bs) (in_blocks (suc block) bs k b at i e d h))

  pub point_listed : (f : Function) (p : Point) (i : Instr) → instr_at f p ≡ Some i → test i ≡ true → IsListed p (points_where test f)
  point_listed f p i e h =
      let x = stands_in f p i e in
      let same : 0 + p.block ≡ p.block = omega arith in
      subst (λ (n : ℕ). IsListed (record { block = n; at = p.at }) (points_where test f)) same (in_blocks 0 f.blocks p.block x.block p.at i x.got x.stands h)

abbrev with_suspend : Function → Point → Option (Point × Point)
with_suspend f save = option_map (λ suspend. (save, suspend)) (suspend_of f save)

pub pair_listed : (f : Function) (k s : Point) (ks : List Point) → IsListed k ks → suspend_of f k ≡ Some s → IsListed {X = Point × Point} (k, s) (filter_map (with_suspend f) ks)
pair_listed f k s [] h e = absurd h
pair_listed f k s (x ∷ ks) (inl same) e =
    subst (λ (o : Option (Point × Point)). IsListed {X = Point × Point} (k, s) (cons_option o (filter_map (with_suspend f) ks))) (ap (with_suspend f) same)
    (subst (λ (o : Option Point). IsListed {X = Point × Point} (k, s) (cons_option (option_map (λ suspend. (k, suspend)) o) (filter_map (with_suspend f) ks))) (sym e) (inl refl))
pair_listed f k s (x ∷ ks) (inr h) e = listed_more {Y = Point × Point} (k, s) (with_suspend f x) (filter_map (with_suspend f) ks) (pair_listed f k s ks h e)
