-- The names that keep a slot from the ramp, and the slots that none of them keeps.
use Rattle.std.proofs.Common.{◌≡◌, ℕ, zero, suc, ◌+◌, Bool, true, false, ◌&&◌, List, [], ◌∷◌, Option, Some, None, refl, ap, sym, ◌∙◌, subst, ⊎_elim, inl, inr, arith}
use Rattle.std.specs.Prelude.{filter, flat_map, not, option_to_list, slice_get, if◌then◌else◌, ◌==◌, ◌⊎◌}
use Rattle.std.specs.List.{list_any}
use Rattle.std.proofs.lemmas.Bool.{false≢true}
use Rattle.ir_model.specs.declared.instr.Instr.{Instr}
use Rattle.ir_model.specs.declared.module.Block.{Block}
use Rattle.ir_model.specs.declared.module.Function.{Function}
use Rattle.ir_model.specs.declared.operand.Intrinsic.{Intrinsic}
use Rattle.flow_points.proofs.ir_paths.Search.{Has, both, either, eq_from, eq_itself, has_append, has_left, has_right, or_left, or_right, same_point-itself, same_point-same}
use Rattle.flow_points.specs.ir_paths.Paths.{has_point, same_point}
use Rattle.flow_points.specs.ir_paths.Slots.{IsRampSlot, addresses_of, allocas_of, exposed_in_block, has_name, is_escaped, is_promise, occurs, promise_of, touches}
use Rattle.flow_points.specs.ir_paths.Windows.{instr_at, instr_in, is_call_of, points_from, points_in, points_where}
use Rattle.flow_points.specs.ir_paths.declared.point.Point.{Point}
use Rattle.flow_facts.proofs.Owning.{own_by}
use Rattle.flow_facts.specs.Chains.{AreLedBack, LeadsTo, has_lowest}
use Rattle.flow_facts.specs.Slots.{AreBehind, AreKeeping, AreRampSlots, HasMore, KeepsSlot, is_own, own_in, touched_at, touched_by}

-- ---- tests

not-false : (b : Bool) → not b ≡ true → b ≡ false
not-false true e = absurd (false≢true e)
not-false false e = refl

false-not : (b : Bool) → b ≡ false → not b ≡ true
false-not true e = absurd (false≢true (sym e))
false-not false e = refl

and-true : (a b : Bool) → a ≡ true → b ≡ true → (a && b) ≡ true
and-true true b e k = k
and-true false b e k = absurd (false≢true e)

not-true : (b : Bool) → (b ≡ true → ⊥) → b ≡ false
not-true true none = absurd (none refl)
not-true false none = refl

-- ---- some element

record HasName (t : ℕ → Bool) (names : List ℕ) : Type 0 where
  pub name : ℕ
  pub is_named : has_name names name ≡ true
  pub passes : t name ≡ true

some-name : (t : ℕ → Bool) (names : List ℕ) → list_any t names ≡ true → HasName t names
some-name t [] h = absurd (false≢true h)
some-name t (x ∷ xs) h = ⊎_elim
    (λ here. record { name = x; is_named = or_left (x == x) (has_name xs x) (eq_itself x); passes = here })
    (λ later. let r = some-name t xs later in record { name = r.name; is_named = or_right (x == r.name) (has_name xs r.name) r.is_named; passes = r.passes })
    (either (t x) (list_any t xs) h)

name-some : (t : ℕ → Bool) (names : List ℕ) (v : ℕ) → has_name names v ≡ true → t v ≡ true → list_any t names ≡ true
name-some t [] v h k = absurd (false≢true h)
name-some t (x ∷ xs) v h k = ⊎_elim
    (λ here. or_left (t x) (list_any t xs) (subst (λ y. t y ≡ true) (sym (eq_from x v here)) k))
    (λ later. or_right (t x) (list_any t xs) (name-some t xs v later k))
    (either (x == v) (has_name xs v) h)

record HasPoint (t : Point → Bool) (points : List Point) : Type 0 where
  pub point : Point
  pub is_there : Has points point
  pub passes : t point ≡ true

some-point : (t : Point → Bool) (ps : List Point) → list_any t ps ≡ true → HasPoint t ps
some-point t [] h = absurd (false≢true h)
some-point t (p ∷ ps) h = ⊎_elim
    (λ here. record { point = p; is_there = or_left (same_point p p) (has_point ps p) (same_point-itself p); passes = here })
    (λ later. let r = some-point t ps later in record { point = r.point; is_there = or_right (same_point r.point p) (has_point ps r.point) r.is_there; passes = r.passes })
    (either (t p) (list_any t ps) h)

point-some : (t : Point → Bool) (ps : List Point) (p : Point) → Has ps p → t p ≡ true → list_any t ps ≡ true
point-some t [] p h k = absurd (false≢true h)
point-some t (x ∷ xs) p h k = ⊎_elim
    (λ here. or_left (t x) (list_any t xs) (subst (λ (y : Point). t y ≡ true) (same_point-same p x here) k))
    (λ later. or_right (t x) (list_any t xs) (point-some t xs p later k))
    (either (same_point p x) (has_point xs p) h)

-- ---- the names

pub keeping : (f : Function) (behind points : List Point) (names new : List ℕ) → AreBehind f behind → points ≡ behind → ((v : ℕ) → has_name names v ≡ list_any (exposed_in_block v) f.blocks) → HasMore (λ v. list_any (touched_at f v) points) names new → AreKeeping f new
keeping f behind points names new are is exposed more = record { each = λ v. (sound v, complete v) }
  where
    sound : (v : ℕ) → has_name new v ≡ true → KeepsSlot f v
    sound v h = ⊎_elim
        (λ e. KeepsSlot.Exposed (sym (exposed v) ∙ e))
        (λ t. let r = some-point (touched_at f v) points t in KeepsSlot.Touched r.point ((are.each r.point).0 (subst (λ (l : List Point). Has l r.point) is r.is_there)) r.passes)
        (either (has_name names v) (list_any (touched_at f v) points) (sym (more.each v) ∙ h))

    complete : (v : ℕ) → KeepsSlot f v → has_name new v ≡ true
    complete v (KeepsSlot.Exposed e) = more.each v ∙ or_left (has_name names v) (list_any (touched_at f v) points) (exposed v ∙ e)
    complete v (KeepsSlot.Touched p b t) =
        more.each v
        ∙ or_right (has_name names v) (list_any (touched_at f v) points)
        (point-some (touched_at f v) points p (subst (λ (l : List Point). Has l p) (sym is) ((are.each p).1 b)) t)

-- ---- the points of instructions that pass a test

record PassesAt (test : Instr → Bool) (o : Option Instr) : Type 0 where
  pub instr : Instr
  pub is : o ≡ Some instr
  pub passes : test instr ≡ true

record IsFrom (test : Instr → Bool) (n at : ℕ) (is : List Instr) (p : Point) : Type 0 where
  pub place : ℕ
  pub block : p.block ≡ n
  pub position : p.at ≡ at + place
  pub passes : PassesAt test (slice_get is place)

one-point : (b : Bool) (p q : Point) (ps : List Point) → Has (if b then q ∷ ps else ps) p → ((p ≡ q) × (b ≡ true)) ⊎ Has ps p
one-point true p q ps h = ⊎_elim (λ e. inl (same_point-same p q e, refl)) (λ later. inr later) (either (same_point p q) (has_point ps p) h)
one-point false p q ps h = inr h

from-sound : (test : Instr → Bool) (n at : ℕ) (is : List Instr) (p : Point) → Has (points_from test n at is) p → IsFrom test n at is p
from-sound test n at [] p h = absurd (false≢true h)
from-sound test n at (i ∷ is) p h = ⊎_elim
    (λ e. record {
      place = 0;
      block = ap (λ (q : Point). q.block) e.0;
      position = let z : at ≡ at + 0 = omega arith in ap (λ (q : Point). q.at) e.0 ∙ z;
      passes = record { instr = i; is = refl; passes = e.1 };
    })
    (λ later. let r = from-sound test n (suc at) is p later in record {
      place = suc r.place;
      block = r.block;
      position = let e = r.position in omega (arith, e);
      passes = r.passes;
    })
    (one-point (test i) p (record { block = n; at = at }) (points_from test n (suc at) is) h)

more-points : (b : Bool) (p q : Point) (ps : List Point) → Has ps p → Has (if b then q ∷ ps else ps) p
more-points true p q ps h = or_right (same_point p q) (has_point ps p) h
more-points false p q ps h = h

the-point : (b : Bool) (p : Point) (ps : List Point) → b ≡ true → Has (if b then p ∷ ps else ps) p
the-point true p ps e = or_left (same_point p p) (has_point ps p) (same_point-itself p)
the-point false p ps e = absurd (false≢true e)

from-complete : (test : Instr → Bool) (n at : ℕ) (is : List Instr) (k : ℕ) (i : Instr) → slice_get is k ≡ Some i → test i ≡ true → Has (points_from test n at is) (record { block = n; at = at + k })
from-complete test n at [] k i e t = absurd (cc)
from-complete test n at (x ∷ is) zero i e t =
    let same : x ≡ i = cc in
    let z : at + 0 ≡ at = omega arith in
    subst (λ y. Has (points_from test n at (x ∷ is)) (record { block = n; at = y })) (sym z)
    (the-point (test x) (record { block = n; at = at }) (points_from test n (suc at) is) (subst (λ (y : Instr). test y ≡ true) (sym same) t))
from-complete test n at (x ∷ is) (suc k) i e t =
    let s : at + suc k ≡ suc at + k = omega arith in
    subst (λ y. Has (points_from test n at (x ∷ is)) (record { block = n; at = y })) (sym s)
    (more-points (test x) (record { block = n; at = suc at + k }) (record { block = n; at = at }) (points_from test n (suc at) is) (from-complete test n (suc at) is k i e t))

record IsIn (test : Instr → Bool) (n : ℕ) (bs : List Block) (p : Point) : Type 0 where
  pub place : ℕ
  pub block : p.block ≡ n + place
  pub passes : PassesAt test (instr_in (slice_get bs place) p.at)

in-sound : (test : Instr → Bool) (n : ℕ) (bs : List Block) (p : Point) → Has (points_in test n bs) p → IsIn test n bs p
in-sound test n [] p h = absurd (false≢true h)
in-sound test n (b ∷ bs) p h = ⊎_elim
    (λ here. let r = from-sound test n 0 b.instrs p here in record {
      place = 0;
      block = let e = r.block in omega (arith, e);
      passes = let z : 0 + r.place ≡ r.place = omega arith in subst (λ k. PassesAt test (slice_get b.instrs k)) (sym (r.position ∙ z)) r.passes;
    })
    (λ later. let r = in-sound test (suc n) bs p later in record {
      place = suc r.place;
      block = let e = r.block in omega (arith, e);
      passes = r.passes;
    })
    (has_append (points_from test n 0 b.instrs) (points_in test (suc n) bs) p h)

in-complete : (test : Instr → Bool) (n : ℕ) (bs : List Block) (k at : ℕ) (i : Instr) → instr_in (slice_get bs k) at ≡ Some i → test i ≡ true → Has (points_in test n bs) (record { block = n + k; at = at })
in-complete test n [] k at i e t = absurd (cc)
in-complete test n (b ∷ bs) zero at i e t =
    let z : n + 0 ≡ n = omega arith in
    let y : 0 + at ≡ at = omega arith in
    subst (λ (m : ℕ). Has (points_in test n (b ∷ bs)) (record { block = m; at = at })) (sym z)
    (has_left (points_from test n 0 b.instrs) (points_in test (suc n) bs) (record { block = n; at = at })
    (subst (λ (m : ℕ). Has (points_from test n 0 b.instrs) (record { block = n; at = m })) y (from-complete test n 0 b.instrs at i e t)))
in-complete test n (b ∷ bs) (suc k) at i e t =
    let s : n + suc k ≡ suc n + k = omega arith in
    subst (λ (m : ℕ). Has (points_in test n (b ∷ bs)) (record { block = m; at = at })) (sym s)
    (has_right (points_from test n 0 b.instrs) (points_in test (suc n) bs) (record { block = suc n + k; at = at }) (in-complete test (suc n) bs k at i e t))

where-sound : (test : Instr → Bool) (f : Function) (p : Point) → Has (points_where test f) p → PassesAt test (instr_at f p)
where-sound test f p h =
    let r = in-sound test 0 f.blocks p h in
    let z : 0 + r.place ≡ r.place = omega arith in
    subst (λ k. PassesAt test (instr_in (slice_get f.blocks k) p.at)) (sym (r.block ∙ z)) r.passes

where-complete : (test : Instr → Bool) (f : Function) (p : Point) (i : Instr) → instr_at f p ≡ Some i → test i ≡ true → Has (points_where test f) p
where-complete test f p i e t =
    let z : 0 + p.block ≡ p.block = omega arith in
    subst (λ (m : ℕ). Has (points_where test f) (record { block = m; at = p.at })) z (in-complete test 0 f.blocks p.block p.at i e t)

-- ---- ramp slots

touched-some : (v : ℕ) (o : Option Instr) → touched_by v o ≡ true → PassesAt (λ i. occurs v i && not (is_call_of Intrinsic.CoroId i)) o
touched-some v None h = absurd (false≢true h)
touched-some v (Some i) h = record { instr = i; is = refl; passes = h }

module _ (f : Function) (names words : List ℕ) (keep : AreKeeping f names) (led : AreLedBack f names words) where
  kept-by : (a v : ℕ) → has_name (addresses_of f a) v ≡ true → KeepsSlot f v → has_lowest words a ≡ true
  kept-by a v h k = (led.each a).1 (record { address = v; is_address = h; is_named = (keep.each v).1 k })

  slot-sound : (a : ℕ) → is_promise f a ≡ false → has_lowest words a ≡ false → IsRampSlot f a
  slot-sound a promise none = record {
    is_not_promise = promise;
    is_not_escaped = not-true (is_escaped f a) (λ e.
        let r = some-name (λ v. list_any (exposed_in_block v) f.blocks) (addresses_of f a) e in
        false≢true (sym none ∙ kept-by a r.name r.is_named (KeepsSlot.Exposed r.passes)));
    in_ramp = λ p h b.
        let at = where-sound (touches (addresses_of f a)) f p h in
        let t = both (list_any (λ v. occurs v at.instr) (addresses_of f a)) (not (is_call_of Intrinsic.CoroId at.instr)) at.passes in
        let r = some-name (λ v. occurs v at.instr) (addresses_of f a) t.0 in
        false≢true (sym none ∙ kept-by a r.name r.is_named
        (KeepsSlot.Touched p b (ap (touched_by r.name) at.is ∙ and-true (occurs r.name at.instr) (not (is_call_of Intrinsic.CoroId at.instr)) r.passes t.1)));
  }

  keeps-no : (a v : ℕ) → IsRampSlot f a → has_name (addresses_of f a) v ≡ true → KeepsSlot f v → ⊥
  keeps-no a v s h (KeepsSlot.Exposed e) =
      false≢true (sym s.is_not_escaped ∙ name-some (λ v. list_any (exposed_in_block v) f.blocks) (addresses_of f a) v h e)
  keeps-no a v s h (KeepsSlot.Touched p b t) =
      let at = touched-some v (instr_at f p) t in
      let k = both (occurs v at.instr) (not (is_call_of Intrinsic.CoroId at.instr)) at.passes in
      s.in_ramp p
      (where-complete (touches (addresses_of f a)) f p at.instr at.is
      (and-true (list_any (λ v. occurs v at.instr) (addresses_of f a)) (not (is_call_of Intrinsic.CoroId at.instr)) (name-some (λ v. occurs v at.instr) (addresses_of f a) v h k.0) k.1))
      b

  slot-complete : (a : ℕ) → IsRampSlot f a → has_lowest words a ≡ false
  slot-complete a s = not-true (has_lowest words a) (λ h.
      let l : LeadsTo f names a = (led.each a).0 h in
      keeps-no a l.address s l.is_address ((keep.each l.address).0 l.is_named))

  own-sound : (promise : Option ℕ) (a : ℕ) → promise ≡ promise_of f → is_own promise words a ≡ true → IsRampSlot f a
  own-sound promise a is h =
      let t = both (not (has_name (option_to_list promise) a)) (not (has_lowest words a)) h in
      slot-sound a (ap (λ (o : Option ℕ). has_name (option_to_list o) a) (sym is) ∙ not-false (has_name (option_to_list promise) a) t.0) (not-false (has_lowest words a) t.1)

  own-complete : (promise : Option ℕ) (a : ℕ) → promise ≡ promise_of f → IsRampSlot f a → is_own promise words a ≡ true
  own-complete promise a is s =
      and-true (not (has_name (option_to_list promise) a)) (not (has_lowest words a))
      (false-not (has_name (option_to_list promise) a) (ap (λ (o : Option ℕ). has_name (option_to_list o) a) is ∙ s.is_not_promise))
      (false-not (has_lowest words a) (slot-complete a s))

one-name : (b : Bool) (x v : ℕ) (xs : List ℕ) → has_name (if b then x ∷ xs else xs) v ≡ true → ((x ≡ v) × (b ≡ true)) ⊎ (has_name xs v ≡ true)
one-name true x v xs h = ⊎_elim (λ e. inl (eq_from x v e, refl)) (λ later. inr later) (either (x == v) (has_name xs v) h)
one-name false x v xs h = inr h

filter-sound : (t : ℕ → Bool) (xs : List ℕ) (v : ℕ) → has_name (filter t xs) v ≡ true → (has_name xs v ≡ true) × (t v ≡ true)
filter-sound t [] v h = absurd (false≢true h)
filter-sound t (x ∷ xs) v h = ⊎_elim
    (λ e. (or_left (x == v) (has_name xs v) (subst (λ y. (x == y) ≡ true) e.0 (eq_itself x)), subst (λ y. t y ≡ true) e.0 e.1))
    (λ later. let r = filter-sound t xs v later in (or_right (x == v) (has_name xs v) r.0, r.1))
    (one-name (t x) x v (filter t xs) h)

the-name : (b : Bool) (x v : ℕ) (xs : List ℕ) → b ≡ true → (x == v) ≡ true → has_name (if b then x ∷ xs else xs) v ≡ true
the-name true x v xs e k = or_left (x == v) (has_name xs v) k
the-name false x v xs e k = absurd (false≢true e)

more-names : (b : Bool) (x v : ℕ) (xs : List ℕ) → has_name xs v ≡ true → has_name (if b then x ∷ xs else xs) v ≡ true
more-names true x v xs h = or_right (x == v) (has_name xs v) h
more-names false x v xs h = h

filter-complete : (t : ℕ → Bool) (xs : List ℕ) (v : ℕ) → has_name xs v ≡ true → t v ≡ true → has_name (filter t xs) v ≡ true
filter-complete t [] v h k = absurd (false≢true h)
filter-complete t (x ∷ xs) v h k = ⊎_elim
    (λ e. the-name (t x) x v (filter t xs) (subst (λ y. t y ≡ true) (sym (eq_from x v e)) k) e)
    (λ later. more-names (t x) x v (filter t xs) (filter-complete t xs v later k))
    (either (x == v) (has_name xs v) h)

-- the allocas with the test are the ramp slots
pub ramp-slots : (f : Function) (promise : Option ℕ) (names words slots : List ℕ) → promise ≡ promise_of f → AreKeeping f names → AreLedBack f names words → slots ≡ flat_map (λ b. own_in promise words b.instrs) f.blocks → AreRampSlots f slots
ramp-slots f promise names words slots is keep led slots_are = record {
  each = λ a. (
    λ h. let r = filter-sound (is_own promise words) (allocas_of f) a (ap (λ (l : List ℕ). has_name l a) (sym all) ∙ h) in (r.0, own-sound f names words keep led promise a is r.1),
    λ h. ap (λ (l : List ℕ). has_name l a) all ∙ filter-complete (is_own promise words) (allocas_of f) a h.0 (own-complete f names words keep led promise a is h.1),
  );
}
  where
    all : slots ≡ filter (is_own promise words) (allocas_of f)
    all = slots_are ∙ own_by promise words f.blocks
