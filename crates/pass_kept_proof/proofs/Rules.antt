-- Parts of what the proof asks, from what the rules say by the text.
use Rattle.std.proofs.Common.{◌≡◌, ℕ, suc, ◌+◌, ◌≤◌, ◌<◌, ◌⊎◌, inl, inr, Bool, true, false, List, [], ◌∷◌, ◌++◌, Option, Some, None, refl, sym, ap, ◌∙◌, subst, arith}
use Rattle.std.specs.Prelude.{◌==◌, length, IsTrue, slice_get, ◌&&◌, ◌||◌, if◌then◌else◌, option_and_then}
use Rattle.std.proofs.lemmas.Bool.{cases_eq}
use Rattle.pass_kept_proof.specs.SuspendRules.{IsCallAt}
use Rattle.pass_kept_proof.specs.Needed.{IsNeeded, IsNeededBehind, IsNeededOn, PassesBy, enter, given_by, label_of_block, next, phi, phis_at, phis_read, read, reads_at}
use Rattle.pass_kept_proof.proofs.Same.{same_point_same}
use Rattle.ir_model.specs.declared.instr.Instr.{Instr}
use Rattle.ir_model.specs.declared.module.Block.{Block}
use Rattle.ir_model.specs.declared.module.Function.{Function}
use Rattle.ir_model.specs.declared.operand.Intrinsic.{Intrinsic}
use Rattle.ir_paths.specs.Paths.{IsPath, Leads, has_point, nexts, same_point}
use Rattle.ir_paths.specs.Windows.{call_result, instr_at, is_suspend_of, points_from, points_in, points_where, suspend_of}
use Rattle.ir_paths.specs.declared.point.Point.{Point}
use Rattle.run_step.specs.Step.{AtInstr, fetch, fetch_in, fetch_or}

-- ---- the suspend of a save is a suspend

from_head : (test : Instr → Bool) (block at : ℕ) (is : List Instr) (p : Point) → slice_get (points_from test block at is) 0 ≡ Some p → (k : ℕ) × (i : Instr) × (p ≡ record { block = block; at = at + k }) × (slice_get is k ≡ Some i) × (test i ≡ true)
from_head test block at [] p e = absurd (cc)
from_head test block at (i ∷ is) p e = on (test i) refl e (λ h. from_head test block (suc at) is p h)
  where
    on : (b : Bool) → test i ≡ b → slice_get (if b then record { block = block; at = at } ∷ points_from test block (suc at) is else points_from test block (suc at) is) 0 ≡ Some p → (slice_get (points_from test block (suc at) is) 0 ≡ Some p → (k : ℕ) × (j : Instr) × (p ≡ record { block = block; at = suc at + k }) × (slice_get is k ≡ Some j) × (test j ≡ true)) → (k : ℕ) × (j : Instr) × (p ≡ record { block = block; at = at + k }) × (slice_get (i ∷ is) k ≡ Some j) × (test j ≡ true)
    on true et h ih =
        let q : record { block = block; at = at } ≡ p = cc in
        let z : at ≡ at + 0 = omega arith in
        (0, i, sym q ∙ ap (λ (n : ℕ). record { block = block; at = n }) z, refl, et)
    on false et h ih =
        let r = ih h in
        let z : suc at + r.0 ≡ at + suc r.0 = omega arith in
        (suc r.0, r.1, r.2 ∙ ap (λ (n : ℕ). record { block = block; at = n }) z, r.3, r.4)

append_head : (ps qs : List Point) (p : Point) → slice_get (ps ++ qs) 0 ≡ Some p → (slice_get ps 0 ≡ Some p) ⊎ (slice_get qs 0 ≡ Some p)
append_head [] qs p e = inr e
append_head (x ∷ ps) qs p e = inl e

in_head : (test : Instr → Bool) (block : ℕ) (blocks : List Block) (p : Point) → slice_get (points_in test block blocks) 0 ≡ Some p → (k : ℕ) × (b : Block) × (i : Instr) × (p.block ≡ block + k) × (slice_get blocks k ≡ Some b) × (slice_get b.instrs p.at ≡ Some i) × (test i ≡ true)
in_head test block [] p e = absurd (cc)
in_head test block (b ∷ blocks) p e = on (append_head (points_from test block 0 b.instrs) (points_in test (suc block) blocks) p e) (λ h. in_head test (suc block) blocks p h)
  where
    on : (slice_get (points_from test block 0 b.instrs) 0 ≡ Some p) ⊎ (slice_get (points_in test (suc block) blocks) 0 ≡ Some p) → (slice_get (points_in test (suc block) blocks) 0 ≡ Some p → (k : ℕ) × (c : Block) × (i : Instr) × (p.block ≡ suc block + k) × (slice_get blocks k ≡ Some c) × (slice_get c.instrs p.at ≡ Some i) × (test i ≡ true)) → (k : ℕ) × (c : Block) × (i : Instr) × (p.block ≡ block + k) × (slice_get (b ∷ blocks) k ≡ Some c) × (slice_get c.instrs p.at ≡ Some i) × (test i ≡ true)
    on (inl h) ih =
        let r = from_head test block 0 b.instrs p h in
        let eb : p.block ≡ block = ap (λ (q : Point). q.block) r.2 in
        let ea : p.at ≡ 0 + r.0 = ap (λ (q : Point). q.at) r.2 in
        let ek : r.0 ≡ p.at = omega arith in
        (0, b, r.1, omega arith, refl, subst (λ (n : ℕ). slice_get b.instrs n ≡ Some r.1) ek r.3, r.4)
    on (inr h) ih = let r = ih h in (suc r.0, r.1, r.2, omega (arith, r.3), r.4, r.5, r.6)

-- the first instruction of a function that passes a test stands there, and passes it
pub where_is : (test : Instr → Bool) (f : Function) (p : Point) → slice_get (points_where test f) 0 ≡ Some p → (i : Instr) × (fetch f p.block p.at ≡ AtInstr i) × (test i ≡ true)
where_is test f p e =
    let r = in_head test 0 f.blocks p e in
    let ek : r.0 ≡ p.block = omega (arith, r.3) in
    let eb : slice_get f.blocks p.block ≡ Some r.1 = subst (λ (n : ℕ). slice_get f.blocks n ≡ Some r.1) ek r.4 in
    (r.2, ap (λ (o : Option Block). fetch_in o p.at) eb ∙ ap (λ (o : Option Instr). fetch_or o (p.at == length r.1.instrs) r.1.term) r.5, r.6)

both_left : (a b : Bool) → (a && b) ≡ true → a ≡ true
both_left true b e = refl
both_left false b e = absurd (cc)

pub suspend_is_suspend : (f : Function) (k s : Point) → suspend_of f k ≡ Some s → IsCallAt Intrinsic.CoroSuspend f s
suspend_is_suspend f k s e = on (option_and_then call_result (instr_at f k)) e
  where
    on : (o : Option ℕ) → slice_get (points_where (is_suspend_of o) f) 0 ≡ Some s → IsCallAt Intrinsic.CoroSuspend f s
    on None h = let r = where_is (is_suspend_of None) f s h in absurd (cc)
    on (Some save) h = let r = where_is (is_suspend_of (Some save)) f s h in record { instr = r.0; stands = r.1; is = both_left _ _ r.2 }

-- ---- a path from the save to the suspend leads there with neither between

until : (f : Function) (s p : Point) (between : List Point) → IsPath f [] p between s → Leads f (s ∷ []) p s
until f s p [] h = record { between = []; is_path = h }
until f s p (v ∷ between) h = on (same_point v s) refl (until f s v between h.2)
  where
    on : (b : Bool) → same_point v s ≡ b → Leads f (s ∷ []) v s → Leads f (s ∷ []) p s
    on true e l = record { between = []; is_path = subst (λ (z : Point). has_point (nexts f p) z ≡ true) (same_point_same v s e) h.0 }
    on false e l = let o : has_point (s ∷ []) v ≡ false = ap (λ (b : Bool). b || false) e in record { between = v ∷ l.between; is_path = (h.0, o, l.is_path) }

from_last : (f : Function) (k s p : Point) (between : List Point) → IsPath f (s ∷ []) p between s → Leads f (k ∷ s ∷ []) p s ⊎ Leads f (k ∷ s ∷ []) k s
from_last f k s p [] h = inl (record { between = []; is_path = h })
from_last f k s p (v ∷ between) h = on (from_last f k s v between h.2) (same_point v k) refl
  where
    on : Leads f (k ∷ s ∷ []) v s ⊎ Leads f (k ∷ s ∷ []) k s → (b : Bool) → same_point v k ≡ b → Leads f (k ∷ s ∷ []) p s ⊎ Leads f (k ∷ s ∷ []) k s
    on (inr l) b e = inr l
    on (inl l) true e = inr (subst (λ (z : Point). Leads f (k ∷ s ∷ []) z s) (same_point_same v k e) l)
    on (inl l) false e =
        let o : has_point (k ∷ s ∷ []) v ≡ false = ap (λ (b : Bool). b || has_point (s ∷ []) v) e ∙ h.1 in
        inl (record { between = v ∷ l.between; is_path = (h.0, o, l.is_path) })

pub leads_between : (f : Function) (k s : Point) → Leads f [] k s → Leads f (k ∷ s ∷ []) k s
leads_between f k s l =
    let u = until f s k l.between l.is_path in
    on (from_last f k s k u.between u.is_path)
  where
    on : Leads f (k ∷ s ∷ []) k s ⊎ Leads f (k ∷ s ∷ []) k s → Leads f (k ∷ s ∷ []) k s
    on (inl m) = m
    on (inr m) = m

-- ---- a suspend's result isn't needed behind it where it is used behind the suspend alone, by its switch

module _ (f : Function) (s : Point) (v : ℕ) (i : Instr) (stands : fetch f s.block s.at ≡ AtInstr i) (gives : given_by i ≡ Some v) (only : (block at : ℕ) → IsTrue (reads_at v (fetch f block at)) → (block ≡ s.block) × (s.at < at)) (no_phi : (from label : ℕ) → IsTrue (phis_read v from (phis_at f label)) → ⊥) where
  not_needed : {block at : ℕ} → IsNeeded f v block at → (block ≡ s.block → at ≤ s.at) → ⊥
  not_needed (read {block} {at} h) le = let e = only block at h in let l = le e.0 in let k = e.1 in absurd (omega arith)
  not_needed (next {block} {at} h n) le = not_needed n (λ eb. on eb (cases_eq at s.at))
    where
      on : block ≡ s.block → (at ≡ s.at) ⊎ (at ≡ s.at → ⊥) → at + 1 ≤ s.at
      on eb (inl ea) =
          let e : fetch f block at ≡ AtInstr i = (λ j. fetch f (eb j) (ea j)) ∙ stands in
          let p : PassesBy v (AtInstr i) = subst (PassesBy v) e h in
          absurd (p.1 gives)
      on eb (inr ne) = let l = le eb in omega arith
  not_needed (phi {block} label b h) le = no_phi (label_of_block f block) label h
  not_needed (enter label b h n) le = not_needed n (λ eb. omega arith)

  not_on : (block label : ℕ) → IsNeededOn f v block label → ⊥
  not_on block label (inl h) = no_phi (label_of_block f block) label h
  not_on block label (inr h) = not_needed h.1 (λ eb. omega arith)

  pub not_behind : IsNeededBehind f s v → ⊥
  not_behind (inl h) = not_on _ _ h
  not_behind (inr h) = not_on _ _ h
