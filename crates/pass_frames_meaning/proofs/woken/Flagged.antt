-- The allocas of an entry that are made anew, in turn.
use Rattle.std.proofs.Common.{◌≡◌, inl, inr, ℕ, zero, suc, ◌+◌, ◌-◌, ◌<◌, ◌≤◌, Bool, true, false, List, [], ◌∷◌, drop, take, Option, Some, None, refl, sym, ap, ◌∙◌, arith, if◌then◌else◌, length, ◌==◌}
use Rattle.std.specs.Prelude.{option_map, slice_get}
use Rattle.pass_frames_proof.specs.flow_solver.Paths.{IsListed}
use Rattle.pass_frames_proof.proofs.ir_laws.facts.Lists.{none_found}
use Rattle.pass_frames_proof.proofs.ir_laws.facts.same_names.Lists.{what_is_found}
use Rattle.pass_frames_proof.specs.ir_model.Names.{first_where}
use Rattle.pass_frames_proof.specs.ir_model.Ty.{Ty}
use Rattle.pass_frames_proof.specs.ir_model.declared.instr.Instr.{Instr}
use Rattle.pass_frames_proof.specs.ir_model.declared.module.Block.{Block}
use Rattle.pass_frames_proof.specs.ir_paths.Slots.{allocas_in}
use Rattle.pass_frames_proof.specs.ir_paths.declared.point.Point.{Point}
use Rattle.pass_frames_proof.specs.Passes.{block_at}
use Rattle.pass_frames_proof.specs.Places.{Framing, edged, instrs_at}
use Rattle.pass_frames_proof.specs.pass_renewed_proof.Renewed.{is_renewed, renewed_from, renewed_in}
use Rattle.pass_frames_proof.specs.run_step.Step.{AtInstr, fetch, fetch_in, fetch_or}

-- ---- lists

get_dropped : {A : Type 0} (n : ℕ) (xs : List A) (j : ℕ) → slice_get (drop n xs) j ≡ slice_get xs (n + j)
get_dropped zero xs j = let same : j ≡ 0 + j = omega arith in ap (slice_get xs) same
get_dropped (suc n) [] j = refl
get_dropped (suc n) (x ∷ xs) j =
    let same : suc (n + j) ≡ suc n + j = omega arith in
    get_dropped n xs j ∙ ap (slice_get (x ∷ xs)) same

-- what stands before the first that passes fails
first_before : (test : Instr → Bool) (is : List Instr) (k : ℕ) → first_where test is ≡ Some k → (j : ℕ) (i : Instr)
    → j < k → slice_get is j ≡ Some i → test i ≡ false
first_before test [] k e j i lt there = absurd (cc)
first_before test (x ∷ is) k e j i lt there =
    on (test x) refl (first_where test is) refl e j lt there (first_before test is)
  where
    on : (b : Bool) → test x ≡ b → (o : Option ℕ) → first_where test is ≡ o
        → (if b then Some 0 else option_map suc o) ≡ Some k → (j : ℕ) → j < k → slice_get (x ∷ is) j ≡ Some i
        → ((n : ℕ) → first_where test is ≡ Some n → (m : ℕ) (y : Instr) → m < n → slice_get is m ≡ Some y
        → test y ≡ false) → test i ≡ false
    on true t o f d j lt there again = let at : 0 ≡ k = cc in absurd (omega (arith, at, lt))
    on false t None f d j lt there again = absurd (cc)
    on false t (Some n) f d zero lt there again = let same : x ≡ i = cc in ap test (sym same) ∙ t
    on false t (Some n) f d (suc j) lt there again =
        let at : suc n ≡ k = cc in
        again n f j i (omega (arith, at, lt)) there

renewed_alloca : (flags : ℕ → Bool) (i : Instr) → is_renewed flags i ≡ true
    → (name : ℕ) × (ty : Ty) × (align : ℕ) × (i ≡ Instr.Alloca name ty align) × (flags name ≡ true)
renewed_alloca flags (Instr.Alloca name ty align) e = (name, ty, align, refl, e)
renewed_alloca flags _ e = absurd (cc)

-- the next one that is made anew, and none before it
pub record IsNextAt (flags : ℕ → Bool) (is : List Instr) (at next : ℕ) : Type 0 where
  pub name : ℕ
  pub ty : Ty
  pub align : ℕ
  pub there : slice_get is next ≡ Some (Instr.Alloca name ty align)
  pub flagged : flags name ≡ true
  pub behind : at ≤ next
  pub before : (j v align' : ℕ) (ty' : Ty) → at ≤ j → j < next
      → slice_get is j ≡ Some (Instr.Alloca v ty' align') → flags v ≡ false

pub next_found : (flags : ℕ → Bool) (is : List Instr) (at k : ℕ)
    → first_where (is_renewed flags) (drop at is) ≡ Some k → IsNextAt flags is at (at + k)
next_found flags is at k e =
    let z = what_is_found (is_renewed flags) (drop at is) k e in
    let a = renewed_alloca flags z.element z.passes in
    record {
      name = a.0;
      ty = a.1;
      align = a.2;
      there = sym (get_dropped at is k) ∙ z.stands ∙ ap Some a.3;
      flagged = a.4;
      behind = omega arith;
      before = λ j v align' ty' le lt there.
          let same : at + (j - at) ≡ j = omega (arith, le) in
          first_before (is_renewed flags) (drop at is) k e (j - at) (Instr.Alloca v ty' align')
          (omega (arith, le, lt)) (get_dropped at is (j - at) ∙ ap (slice_get is) same ∙ there);
    }

pub none_flagged : (flags : ℕ → Bool) (is : List Instr) (at : ℕ) → first_where (is_renewed flags) (drop at is) ≡ None
    → (j v align : ℕ) (ty : Ty) → at ≤ j → slice_get is j ≡ Some (Instr.Alloca v ty align) → flags v ≡ false
none_flagged flags is at e j v align ty le there =
    let same : at + (j - at) ≡ j = omega (arith, le) in
    none_found (is_renewed flags) (drop at is) e (j - at) (Instr.Alloca v ty align)
    (get_dropped at is (j - at) ∙ ap (slice_get is) same ∙ there)

-- ---- allocas of a part of a block

pub record HasTaken (is : List Instr) (n v : ℕ) : Type 0 where
  pub at : ℕ
  pub ty : Ty
  pub align : ℕ
  pub before : at < n
  pub there : slice_get is at ≡ Some (Instr.Alloca v ty align)

one_on : (i : Instr) (is : List Instr) (n v : ℕ) → HasTaken is n v → HasTaken (i ∷ is) (suc n) v
one_on i is n v z =
    let lt = z.before in
    record { at = suc z.at; ty = z.ty; align = z.align; before = omega (arith, lt); there = z.there }

pub taken_at : (is : List Instr) (n v : ℕ) → IsListed v (allocas_in (take n is)) → HasTaken is n v
taken_at is zero v l = absurd l
taken_at [] (suc n) v l = absurd l
taken_at (Instr.Alloca r ty align ∷ is) (suc n) v (inl e) =
    let same = ap (λ (u : ℕ). Some (Instr.Alloca u ty align)) (sym e) in
    record { at = 0; ty = ty; align = align; before = omega arith; there = same }
taken_at (Instr.Alloca r ty align ∷ is) (suc n) v (inr l) = one_on _ is n v (taken_at is n v l)
taken_at (Instr.Binary r op flags ty a b ∷ is) (suc n) v l = one_on _ is n v (taken_at is n v l)
taken_at (Instr.Icmp r pred ty a b ∷ is) (suc n) v l = one_on _ is n v (taken_at is n v l)
taken_at (Instr.Select r k a b ∷ is) (suc n) v l = one_on _ is n v (taken_at is n v l)
taken_at (Instr.Cast r op nneg a to ∷ is) (suc n) v l = one_on _ is n v (taken_at is n v l)
taken_at (Instr.Load r ty p align ∷ is) (suc n) v l = one_on _ is n v (taken_at is n v l)
taken_at (Instr.Store a p align ∷ is) (suc n) v l = one_on _ is n v (taken_at is n v l)
taken_at (Instr.Gep r inbounds ty p indices ∷ is) (suc n) v l = one_on _ is n v (taken_at is n v l)
taken_at (Instr.Call r must_tail ty callee args ∷ is) (suc n) v l = one_on _ is n v (taken_at is n v l)

-- ---- of an entry

-- what is an instruction of the entry block is fetched there
pub fetched_entry : (x : Framing) → slice_get (edged x).blocks 0 ≡ Some (block_at (edged x) 0) → (q : ℕ) (i : Instr)
    → slice_get (instrs_at x 0) q ≡ Some i → fetch (edged x) 0 q ≡ AtInstr i
fetched_entry x there q i e =
    ap (λ (o : Option Block). fetch_in o q) there
    ∙ ap (λ (o : Option Instr). fetch_or o (q == length (instrs_at x 0)) (block_at (edged x) 0).term) e

module _ (x : Framing) (there : slice_get (edged x).blocks 0 ≡ Some (block_at (edged x) 0)) (flags : ℕ → Bool)
    (at : ℕ) where
  abbrev found : Option ℕ
  found = first_where (is_renewed flags) (drop at (instrs_at x 0))

  from_is : renewed_from flags (edged x) at
      ≡ option_map {U = Point} (λ k. record { block = 0; at = k }) (option_map (λ k. at + k) found)
  from_is = ap (λ (o : Option Block). option_map {U = Point} (λ k. record { block = 0; at = k })
      (renewed_in flags o at)) there

  pub record IsNextPoint (p : Point) : Type 0 where
    pub next : ℕ
    pub is : p ≡ record { block = 0; at = next }
    pub found_there : IsNextAt flags (instrs_at x 0) at next

  pub next_at : (p : Point) → renewed_from flags (edged x) at ≡ Some p → IsNextPoint p
  next_at p e = on found refl (sym from_is ∙ e)
    where
      on : (o : Option ℕ) → found ≡ o
          → option_map {U = Point} (λ k. record { block = 0; at = k }) (option_map (λ k. at + k) o) ≡ Some p
          → IsNextPoint p
      on None f d = absurd (cc)
      on (Some k) f d =
          let same : ◌≡◌ {A = Point} (record { block = 0; at = at + k }) p = cc in
          record { next = at + k; is = sym same; found_there = next_found flags (instrs_at x 0) at k f }

  pub none_at : renewed_from flags (edged x) at ≡ None → (j v align : ℕ) (ty : Ty) → at ≤ j
      → slice_get (instrs_at x 0) j ≡ Some (Instr.Alloca v ty align) → flags v ≡ false
  none_at e = on found refl (sym from_is ∙ e)
    where
      on : (o : Option ℕ) → found ≡ o
          → option_map {U = Point} (λ k. record { block = 0; at = k }) (option_map (λ k. at + k) o) ≡ None
          → (j v align : ℕ) (ty : Ty) → at ≤ j → slice_get (instrs_at x 0) j ≡ Some (Instr.Alloca v ty align)
          → flags v ≡ false
      on None f d = none_flagged flags (instrs_at x 0) at f
      on (Some k) f d = absurd (cc)
