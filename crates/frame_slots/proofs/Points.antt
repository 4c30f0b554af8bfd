-- The points of instructions that pass a test.
use Rattle.std.proofs.Common.{◌≡◌, ℕ, zero, suc, ◌+◌, Bool, true, false, List, [], ◌∷◌, Option, Some, refl, ap, sym, ◌∙◌, subst, ⊎_elim, inl, inr, arith}
use Rattle.std.specs.Prelude.{slice_get, if◌then◌else◌, ◌⊎◌}
use Rattle.std.proofs.lemmas.Bool.{false≢true}
use Rattle.ir_model.specs.declared.instr.Instr.{Instr}
use Rattle.ir_model.specs.declared.module.Block.{Block}
use Rattle.ir_model.specs.declared.module.Function.{Function}
use Rattle.ir_paths.proofs.Search.{Has, either, has_append, has_left, has_right, or_left, or_right, same_point-itself, same_point-same}
use Rattle.ir_paths.specs.Paths.{has_point, same_point}
use Rattle.ir_paths.specs.Windows.{instr_at, instr_in, points_from, points_in, points_where}
use Rattle.ir_paths.specs.declared.point.Point.{Point}

pub record PassesAt (test : Instr → Bool) (o : Option Instr) : Type 0 where
  pub instr : Instr
  pub is : o ≡ Some instr
  pub passes : test instr ≡ true

record IsFrom (test : Instr → Bool) (n at : ℕ) (is : List Instr) (p : Point) : Type 0 where
  pub place : ℕ
  pub block : p.block ≡ n
  pub position : p.at ≡ at + place
  pub passes : PassesAt test (slice_get is place)

one-point : (b : Bool) (p q : Point) (ps : List Point) → Has (if b then q ∷ ps else ps) p → ((p ≡ q) × (b ≡ true)) ⊎ Has ps p
one-point true p q ps h = ⊎_elim (λ e. inl (same_point-same p q e, refl)) (λ later. inr later) (either (same_point p q) (has_point ps p) h)
one-point false p q ps h = inr h

from-sound : (test : Instr → Bool) (n at : ℕ) (is : List Instr) (p : Point) → Has (points_from test n at is) p → IsFrom test n at is p
from-sound test n at [] p h = absurd (false≢true h)
from-sound test n at (i ∷ is) p h = ⊎_elim
    (λ e. record {
      place = 0;
      block = ap (λ (q : Point). q.block) e.0;
      position = let z : at ≡ at + 0 = omega arith in ap (λ (q : Point). q.at) e.0 ∙ z;
      passes = record { instr = i; is = refl; passes = e.1 };
    })
    (λ later. let r = from-sound test n (suc at) is p later in record {
      place = suc r.place;
      block = r.block;
      position = let e = r.position in omega (arith, e);
      passes = r.passes;
    })
    (one-point (test i) p (record { block = n; at = at }) (points_from test n (suc at) is) h)

more-points : (b : Bool) (p q : Point) (ps : List Point) → Has ps p → Has (if b then q ∷ ps else ps) p
more-points true p q ps h = or_right (same_point p q) (has_point ps p) h
more-points false p q ps h = h

the-point : (b : Bool) (p : Point) (ps : List Point) → b ≡ true → Has (if b then p ∷ ps else ps) p
the-point true p ps e = or_left (same_point p p) (has_point ps p) (same_point-itself p)
the-point false p ps e = absurd (false≢true e)

from-complete : (test : Instr → Bool) (n at : ℕ) (is : List Instr) (k : ℕ) (i : Instr) → slice_get is k ≡ Some i → test i ≡ true → Has (points_from test n at is) (record { block = n; at = at + k })
from-complete test n at [] k i e t = absurd (cc)
from-complete test n at (x ∷ is) zero i e t =
    let same : x ≡ i = cc in
    let z : at + 0 ≡ at = omega arith in
    subst (λ y. Has (points_from test n at (x ∷ is)) (record { block = n; at = y })) (sym z)
    (the-point (test x) (record { block = n; at = at }) (points_from test n (suc at) is) (subst (λ (y : Instr). test y ≡ true) (sym same) t))
from-complete test n at (x ∷ is) (suc k) i e t =
    let s : at + suc k ≡ suc at + k = omega arith in
    subst (λ y. Has (points_from test n at (x ∷ is)) (record { block = n; at = y })) (sym s)
    (more-points (test x) (record { block = n; at = suc at + k }) (record { block = n; at = at }) (points_from test n (suc at) is) (from-complete test n (suc at) is k i e t))

record IsIn (test : Instr → Bool) (n : ℕ) (bs : List Block) (p : Point) : Type 0 where
  pub place : ℕ
  pub block : p.block ≡ n + place
  pub passes : PassesAt test (instr_in (slice_get bs place) p.at)

in-sound : (test : Instr → Bool) (n : ℕ) (bs : List Block) (p : Point) → Has (points_in test n bs) p → IsIn test n bs p
in-sound test n [] p h = absurd (false≢true h)
in-sound test n (b ∷ bs) p h = ⊎_elim
    (λ here. let r = from-sound test n 0 b.instrs p here in record {
      place = 0;
      block = let e = r.block in omega (arith, e);
      passes = let z : 0 + r.place ≡ r.place = omega arith in subst (λ k. PassesAt test (slice_get b.instrs k)) (sym (r.position ∙ z)) r.passes;
    })
    (λ later. let r = in-sound test (suc n) bs p later in record {
      place = suc r.place;
      block = let e = r.block in omega (arith, e);
      passes = r.passes;
    })
    (has_append (points_from test n 0 b.instrs) (points_in test (suc n) bs) p h)

in-complete : (test : Instr → Bool) (n : ℕ) (bs : List Block) (k at : ℕ) (i : Instr) → instr_in (slice_get bs k) at ≡ Some i → test i ≡ true → Has (points_in test n bs) (record { block = n + k; at = at })
in-complete test n [] k at i e t = absurd (cc)
in-complete test n (b ∷ bs) zero at i e t =
    let z : n + 0 ≡ n = omega arith in
    let y : 0 + at ≡ at = omega arith in
    subst (λ (m : ℕ). Has (points_in test n (b ∷ bs)) (record { block = m; at = at })) (sym z)
    (has_left (points_from test n 0 b.instrs) (points_in test (suc n) bs) (record { block = n; at = at })
    (subst (λ (m : ℕ). Has (points_from test n 0 b.instrs) (record { block = n; at = m })) y (from-complete test n 0 b.instrs at i e t)))
in-complete test n (b ∷ bs) (suc k) at i e t =
    let s : n + suc k ≡ suc n + k = omega arith in
    subst (λ (m : ℕ). Has (points_in test n (b ∷ bs)) (record { block = m; at = at })) (sym s)
    (has_right (points_from test n 0 b.instrs) (points_in test (suc n) bs) (record { block = suc n + k; at = at }) (in-complete test (suc n) bs k at i e t))

pub where_sound : (test : Instr → Bool) (f : Function) (p : Point) → Has (points_where test f) p → PassesAt test (instr_at f p)
where_sound test f p h =
    let r = in-sound test 0 f.blocks p h in
    let z : 0 + r.place ≡ r.place = omega arith in
    subst (λ k. PassesAt test (instr_in (slice_get f.blocks k) p.at)) (sym (r.block ∙ z)) r.passes

pub where_complete : (test : Instr → Bool) (f : Function) (p : Point) (i : Instr) → instr_at f p ≡ Some i → test i ≡ true → Has (points_where test f) p
where_complete test f p i e t =
    let z : 0 + p.block ≡ p.block = omega arith in
    subst (λ (m : ℕ). Has (points_where test f) (record { block = m; at = p.at })) z (in-complete test 0 f.blocks p.block p.at i e t)
