-- Allocas that are behind an activation, as it goes on.
use Rattle.std.proofs.Common.{◌≡◌, ℕ, zero, suc, ◌+◌, ◌<◌, ◌≤◌, inl, inr, ⊎_elim, Bool, true, false, List, [], ◌∷◌, length, Option, Some, None, refl, sym, ap, ◌∙◌, arith, if◌then◌else◌, ◌==◌}
use Rattle.std.specs.Prelude.{drop, option_map, slice_get}
use Rattle.std.proofs.lemmas.Bool.{cases_eq, cases_lt, eqb-true, false≢true}
use Rattle.std.proofs.lemmas.Option.{slice_get_within}
use Rattle.pass_proofs.proofs.flow_solver.Lists.{listed_at}
use Rattle.pass_proofs.specs.flow_solver.Paths.{IsListed}
use Rattle.pass_proofs.specs.ir_model.declared.instr.Instr.{Instr}
use Rattle.pass_proofs.specs.ir_model.declared.instr.Phi.{Phi}
use Rattle.pass_proofs.specs.ir_model.declared.instr.Terminator.{Terminator}
use Rattle.pass_proofs.specs.ir_model.declared.module.Block.{Block}
use Rattle.pass_proofs.specs.ir_model.declared.module.Function.{Function}
use Rattle.pass_proofs.specs.ir_model.declared.module.Module.{Module}
use Rattle.pass_proofs.specs.ir_paths.declared.point.Point.{Point}
use Rattle.pass_split_proof.specs.own_blocks.Own.{AreMade, IsMade, SetsNoAlloca}
use Rattle.pass_split_proof.specs.simulation.Premises.{AreAllocasAlone, IsEntryAlloca}
use Rattle.pass_proofs.specs.run_framed.Framed.{alloca_from, alloca_in, alloca_of}
use Rattle.pass_proofs.proofs.run_laws.transfer.Sets.{set_elsewhere, set_length}
use Rattle.pass_proofs.specs.run_laws.changed.Changed.{result_of}
use Rattle.pass_proofs.specs.run_memory.declared.block.MemoryBlock.{MemoryBlock}
use Rattle.pass_proofs.specs.run_memory.declared.pointer.Value.{Value}
use Rattle.pass_proofs.specs.run_step.Effects.{is_alloca}
use Rattle.pass_proofs.specs.run_step.Step.{AtInstr, AtTerm, Fetched, Nowhere, fetch, fetch_in, fetch_or, incoming_from, phi_values, phis_of, values_in, with_all}
use Rattle.pass_proofs.specs.run_step.Values.{Env, operand_value, value_in, with_result, with_value}

pub result_elsewhere : (env : Env) (result : Option ℕ) (name : ℕ) (v : Value) → (result ≡ Some name → ⊥)
    → value_in (with_result env result v) name ≡ value_in env name
result_elsewhere env None name v ne = refl
result_elsewhere env (Some r) name v ne = set_elsewhere env r name v (λ e. ne (ap Some e))

pub same_made : (m : List MemoryBlock) (env now : Env) (name : ℕ) → value_in now name ≡ value_in env name
    → IsMade m env name → IsMade m now name
same_made m env now name same x = record { block = x.block; offset = x.offset; is = same ∙ x.is; none = x.none }

-- ---- places

abbrev alloca_at : Fetched → Bool
alloca_at (AtInstr i) = is_alloca i
alloca_at Nowhere = false
alloca_at (AtTerm t) = false

-- an instruction stands before the end of its block
pub before_end : (o : Option Block) (k at : ℕ) (i : Instr) (t : Terminator) → fetch_in o k ≡ AtInstr i
    → fetch_in o at ≡ AtTerm t → k < at
before_end None k at i t e h = absurd (cc)
before_end (Some b) k at i t e h = from (slice_get b.instrs k) (slice_get b.instrs at) refl refl e h
  where
    joined : (k l at : ℕ) → k < l → at ≡ l → k < at
    joined k l at lt same = omega arith

    from : (o p : Option Instr) → slice_get b.instrs k ≡ o → slice_get b.instrs at ≡ p
        → fetch_or o (k == length b.instrs) b.term ≡ AtInstr i → fetch_or p (at == length b.instrs) b.term ≡ AtTerm t
        → k < at
    from None p f q e h = absurd (on (k == length b.instrs) e)
      where
        on : (last : Bool) → fetch_or None last b.term ≡ AtInstr i → ⊥
        on true e = absurd (cc)
        on false e = absurd (cc)
    from (Some j) (Some l) f q e h = absurd (cc)
    from (Some j) None f q e h = on (at == length b.instrs) refl h
      where
        on : (last : Bool) → (at == length b.instrs) ≡ last → fetch_or None last b.term ≡ AtTerm t → k < at
        on true is h = joined k (length b.instrs) at (slice_get_within b.instrs k j f)
            (eqb-true at (length b.instrs) is)
        on false is h = absurd (cc)

module _ (f : Function) (alone : AreAllocasAlone f) where
  -- no alloca stands where another instruction does
  apart : (block at : ℕ) (i : Instr) → fetch f block at ≡ AtInstr i → is_alloca i ≡ false → (k name : ℕ)
      → IsEntryAlloca f k name → block ≡ 0 → k ≡ at → ⊥
  apart block at i there plain k name a front same = false≢true (sym plain ∙ sym (ap alloca_at both))
    where
      both : AtInstr (Instr.Alloca name a.ty a.align) ≡ AtInstr i
      both = sym a.there ∙ ap (fetch f 0) same ∙ ap (λ (b : ℕ). fetch f b at) (sym front) ∙ there

  -- so its name is no alloca's
  pub sets_none : (block at : ℕ) (i : Instr) → fetch f block at ≡ AtInstr i → is_alloca i ≡ false
      → SetsNoAlloca f (result_of i)
  sets_none block at i there plain k name a e =
      let p = alone.once k name a block at i there e in apart block at i there plain k name a p.0 (sym p.1)

  -- behind such an instruction no more allocas are
  pub next_made : (m : List MemoryBlock) (env now : Env) (block at : ℕ) (i : Instr) → fetch f block at ≡ AtInstr i
      → is_alloca i ≡ false
      → ((k name : ℕ) → IsEntryAlloca f k name → value_in now name ≡ value_in env name)
      → AreMade f m env block at → AreMade f m now block (at + 1)
  next_made m env now block at i there plain same made k name a lt = same_made m env now name (same k name a)
      (made k name a (λ z. ⊎_elim (λ e. absurd (apart block at i there plain k name a z e))
      (λ ne. less k at (lt z) ne) (cases_eq k at)))
    where
      less : (k at : ℕ) → k < at + 1 → (k ≡ at → ⊥) → k < at
      less k at lt ne = ⊎_elim (λ l. l) (λ le. absurd (ne (both k at lt le))) (cases_lt k at)
        where
          both : (k at : ℕ) → k < at + 1 → at ≤ k → k ≡ at
          both k at lt le = omega arith

  -- all are behind the end of a block
  pub all_made : (m : List MemoryBlock) (env : Env) (block at : ℕ) (t : Terminator) → fetch f block at ≡ AtTerm t
      → AreMade f m env block at → (k name : ℕ) → IsEntryAlloca f k name → IsMade m env name
  all_made m env block at t there made k name a = made k name a (λ z. before_end (slice_get f.blocks 0) k at
      (Instr.Alloca name a.ty a.align) t a.there (ap (λ (b : ℕ). fetch f b at) (sym z) ∙ there))

  -- phis set no names of allocas
  phis_other : (m : Module) (env : Env) (label : ℕ) (phis : List Phi) (now : Env) (name : ℕ)
      → ((p : Phi) → IsListed p phis → p.result ≡ name → ⊥)
      → value_in (with_all now (phi_values m env label phis)) name ≡ value_in now name
  phis_other m env label [] now name ne = refl
  phis_other m env label (p ∷ phis) now name ne =
      phis_other m env label phis (with_value now p.result (operand_value m env p.ty (incoming_from p.incoming label)))
      name (λ q l. ne q (inr l))
      ∙ set_elsewhere now p.result name (operand_value m env p.ty (incoming_from p.incoming label)) (ne p (inl refl))

  pub entered_other : (m : Module) (b label : ℕ) (env : Env) (k name : ℕ) → IsEntryAlloca f k name
      → value_in (values_in m (slice_get f.blocks b) label env) name ≡ value_in env name
  entered_other m b label env k name a = on (slice_get f.blocks b) refl
    where
      on : (o : Option Block) → slice_get f.blocks b ≡ o → value_in (values_in m o label env) name ≡ value_in env name
      on None e = refl
      on (Some c) e = phis_other m env label c.phis env name
          (λ p l. alone.phis k name a c p (listed_at f.blocks b c e) l)

pub entered_length : (m : Module) (o : Option Block) (label : ℕ) (env : Env)
    → length (values_in m o label env) ≡ length env
entered_length m o label env = by (phis_of o) env
  where
    by : (phis : List Phi) (now : Env) → length (with_all now (phi_values m env label phis)) ≡ length now
    by [] now = refl
    by (p ∷ phis) now =
        by phis (with_value now p.result (operand_value m env p.ty (incoming_from p.incoming label)))
        ∙ set_length now p.result (operand_value m env p.ty (incoming_from p.incoming label))

-- ---- the next alloca

dropped : {X : Type 0} (xs : List X) (at k : ℕ) → slice_get (drop at xs) k ≡ slice_get xs (at + k)
dropped xs zero k = ap (slice_get xs) (none_more k)
  where
    none_more : (k : ℕ) → k ≡ 0 + k
    none_more k = omega arith
dropped [] (suc at) k = refl
dropped (x ∷ xs) (suc at) k = dropped xs at k ∙ ap (slice_get (x ∷ xs)) (one_more at k)
  where
    one_more : (at k : ℕ) → suc (at + k) ≡ suc at + k
    one_more at k = omega arith

-- none stands before it
found_first : (is : List Instr) (base k n : ℕ) (i : Instr) → alloca_in base is ≡ Some n → slice_get is k ≡ Some i
    → is_alloca i ≡ true → n ≤ base + k
found_first [] base k n i e h alloca = absurd (cc)
found_first (j ∷ is) base k n i e h alloca = on (is_alloca j) refl e k h
    (λ k e h. found_first is (suc base) k n i e h alloca)
  where
    low : (n base k : ℕ) → base ≡ n → n ≤ base + k
    low n base k same = omega arith

    more : (n base k : ℕ) → n ≤ suc base + k → n ≤ base + suc k
    more n base k le = omega arith

    named : Some base ≡ Some n → base ≡ n
    named e = cc

    first : Some j ≡ Some i → j ≡ i
    first h = cc

    by : (k : ℕ) → is_alloca j ≡ false → slice_get (j ∷ is) k ≡ Some i
        → ((k : ℕ) → slice_get is k ≡ Some i → n ≤ suc base + k) → n ≤ base + k
    by zero is_one h rest = absurd (false≢true (sym is_one ∙ ap is_alloca (first h) ∙ alloca))
    by (suc k) is_one h rest = more n base k (rest k h)

    on : (t : Bool) → is_alloca j ≡ t → (if t then Some base else alloca_in (suc base) is) ≡ Some n → (k : ℕ)
        → slice_get (j ∷ is) k ≡ Some i
        → ((k : ℕ) → alloca_in (suc base) is ≡ Some n → slice_get is k ≡ Some i → n ≤ suc base + k) → n ≤ base + k
    on true is_one e k h rest = low n base k (named e)
    on false is_one e k h rest = by k is_one h (λ k h. rest k e h)

found_none : (is : List Instr) (base k : ℕ) (i : Instr) → alloca_in base is ≡ None → slice_get is k ≡ Some i
    → is_alloca i ≡ true → ⊥
found_none [] base k i e h alloca = absurd (cc)
found_none (j ∷ is) base k i e h alloca = on (is_alloca j) refl e k h
    (λ k e h. found_none is (suc base) k i e h alloca)
  where
    first : Some j ≡ Some i → j ≡ i
    first h = cc

    by : (k : ℕ) → is_alloca j ≡ false → slice_get (j ∷ is) k ≡ Some i
        → ((k : ℕ) → slice_get is k ≡ Some i → ⊥) → ⊥
    by zero is_one h rest = false≢true (sym is_one ∙ ap is_alloca (first h) ∙ alloca)
    by (suc k) is_one h rest = rest k h

    on : (t : Bool) → is_alloca j ≡ t → (if t then Some base else alloca_in (suc base) is) ≡ None → (k : ℕ)
        → slice_get (j ∷ is) k ≡ Some i
        → ((k : ℕ) → alloca_in (suc base) is ≡ None → slice_get is k ≡ Some i → ⊥) → ⊥
    on true is_one e k h rest = absurd (cc)
    on false is_one e k h rest = by k is_one h (λ k h. rest k e h)

module _ (f : Function) (at : ℕ) where
  -- the instruction of an alloca
  got : (b : Block) → slice_get f.blocks 0 ≡ Some b → (k name : ℕ) (a : IsEntryAlloca f k name)
      → slice_get b.instrs k ≡ Some (Instr.Alloca name a.ty a.align)
  got b e k name a = on (slice_get b.instrs k) refl (ap (λ (o : Option Block). fetch_in o k) (sym e) ∙ a.there)
    where
      none : (last : Bool) → fetch_or None last b.term ≡ AtInstr (Instr.Alloca name a.ty a.align) → ⊥
      none true e = absurd (cc)
      none false e = absurd (cc)

      on : (o : Option Instr) → slice_get b.instrs k ≡ o
          → fetch_or o (k == length b.instrs) b.term ≡ AtInstr (Instr.Alloca name a.ty a.align)
          → o ≡ Some (Instr.Alloca name a.ty a.align)
      on None h d = absurd (none (k == length b.instrs) d)
      on (Some i) h d = cc

  behind : (k : ℕ) → at ≤ k → (d : ℕ) × (k ≡ at + d)
  behind k le = by at k le
    where
      by : (a k : ℕ) → a ≤ k → (d : ℕ) × (k ≡ a + d)
      by zero k le = (k, none_more k)
        where
          none_more : (k : ℕ) → k ≡ 0 + k
          none_more k = omega arith
      by (suc a) zero le = absurd (omega arith)
      by (suc a) (suc k) le = let p = by a k (omega arith) in (p.0, ap suc p.1 ∙ one_more a p.0)
        where
          one_more : (a d : ℕ) → suc (a + d) ≡ suc a + d
          one_more a d = omega arith

  -- it is the next one from a place on
  pub next_alloca : (p : Point) → alloca_from f at ≡ Some p → (p.block ≡ 0)
      × ((k name : ℕ) → IsEntryAlloca f k name → k < p.at → k < at)
  next_alloca p e = on (slice_get f.blocks 0) refl e
    where
      by : (b : Block) → slice_get f.blocks 0 ≡ Some b → (o : Option ℕ) → alloca_in at (drop at b.instrs) ≡ o
          → option_map (λ (k : ℕ). record { block = 0; at = k }) o ≡ Some p
          → (p.block ≡ 0) × ((k name : ℕ) → IsEntryAlloca f k name → k < p.at → k < at)
      by b there None h d = absurd (cc)
      by b there (Some n) h d = (
        sym (ap (λ (q : Point). q.block) (same d)),
        λ k name a lt.
            ⊎_elim (λ l. l) (λ le. absurd (past k name a (ap (λ (q : Point). q.at) (same d)) lt le)) (cases_lt k at),
      )
        where
          same : Some (record { block = 0; at = n }) ≡ Some p → ◌≡◌ {A = Point} (record { block = 0; at = n }) p
          same d = cc

          past : (k name : ℕ) → IsEntryAlloca f k name → n ≡ p.at → k < p.at → at ≤ k → ⊥
          past k name a is lt le =
              let q = behind k le in
              plain n p.at k at q.0 is lt q.1 (found_first (drop at b.instrs) at q.0 n
              (Instr.Alloca name a.ty a.align) h (dropped b.instrs at q.0 ∙ ap (slice_get b.instrs) (sym q.1) ∙ got b there k name a) refl)
            where
              plain : (n p k at d : ℕ) → n ≡ p → k < p → k ≡ at + d → n ≤ at + d → ⊥
              plain n p k at d is lt same le = omega arith

      on : (o : Option Block) → slice_get f.blocks 0 ≡ o
          → option_map (λ (k : ℕ). record { block = 0; at = k }) (alloca_of o at) ≡ Some p
          → (p.block ≡ 0) × ((k name : ℕ) → IsEntryAlloca f k name → k < p.at → k < at)
      on None there d = absurd (cc)
      on (Some b) there d = by b there (alloca_in at (drop at b.instrs)) refl d

  -- or there is none from there on
  pub last_alloca : alloca_from f at ≡ None → (k name : ℕ) → IsEntryAlloca f k name → k < at
  last_alloca e k name a = ⊎_elim (λ l. l) (λ le. absurd (on (slice_get f.blocks 0) refl e le)) (cases_lt k at)
    where
      none : option_map {U = Point} (λ (k : ℕ). record { block = 0; at = k }) None ≡ None
      none = refl

      by : (b : Block) → slice_get f.blocks 0 ≡ Some b → (o : Option ℕ) → alloca_in at (drop at b.instrs) ≡ o
          → option_map {U = Point} (λ (k : ℕ). record { block = 0; at = k }) o ≡ None → at ≤ k → ⊥
      by b there (Some n) h d le = absurd (cc)
      by b there None h d le =
          let q = behind k le in
          found_none (drop at b.instrs) at q.0 (Instr.Alloca name a.ty a.align) h
          (dropped b.instrs at q.0 ∙ ap (slice_get b.instrs) (sym q.1) ∙ got b there k name a) refl

      on : (o : Option Block) → slice_get f.blocks 0 ≡ o
          → option_map {U = Point} (λ (k : ℕ). record { block = 0; at = k }) (alloca_of o at) ≡ None → at ≤ k → ⊥
      on None there d le = absurd (cc)
      on (Some b) there d le = by b there (alloca_in at (drop at b.instrs)) refl d le
